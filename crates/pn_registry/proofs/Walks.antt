-- A walk through the folders below one: what was seen, what is left to list, and what was found.
use Rattle.std.proofs.Common.{◌≡◌, ◌<◌, ◌≤◌, ◌+◌, ◌-◌, ℕ, List, [], ◌∷◌, ◌++◌, length, map, refl, sym, ap, ◌∙◌, subst, arith, inl, inr, Some, length-append}
use Rattle.std.specs.Prelude.{◌⊎◌}
use Rattle.std.specs.List.{Contains}
use Rattle.std.proofs.lemmas.List.{append_cancel_right}
use Rattle.std.proofs.lemmas.List.Elements.{Contains-append_left, Contains-append_right, Contains-append_cases, Contains-push, Contains-push_cases}
use Rattle.pn_text.specs.Path.{Path}
use Rattle.pn_fs.specs.Tree.{Entry, folder, file, Tree, IsTree}
use Rattle.pn_fs.specs.Calls.{IsListing}
use Rattle.pn_read.specs.Small.{IsFileOf}
use Rattle.pn_text.proofs.Paths.{deeper}
use Rattle.pn_registry.specs.Below.{StandsBelow, IsDistinct, HasMany, HasFew}
use Rattle.pn_registry.specs.Files.{File, IsFilesOf, entry_below}
use Rattle.pn_registry.specs.Listed.{file_of, placed}
use Rattle.pn_registry.specs.Turns.{without_line_feeds, folders_in, files_in, Lists, IsFull}
use Rattle.pn_registry.specs.declared.list.PackageFile.{PackageFile}
use Rattle.pn_text.proofs.Members.{none_in, in_cons, here, there}
use Rattle.pn_registry.proofs.LineFeeds.{told_below, below_there}
use Rattle.pn_registry.proofs.Distinct.{distinct_append, distinct_front, distinct_last}
use Rattle.pn_registry.proofs.Children.{children, length-children, tail_same, not_below, in_children, to_children, distinct_children, in_folders, to_folders, distinct_folders, in_files, to_files}

pub record Walks (t : Tree) (at : Path) (todo : List Path) (found : List File) (n : ℕ) : Type 0 where
  pub seen : List Path
  pub count : length seen ≡ n
  pub distinct : IsDistinct seen
  pub stands : (p : Path) → Contains seen p → StandsBelow t at p
  pub parents : (x : List ℕ) (p : Path) → Contains seen (x ∷ p) → (p ≡ at) ⊎ Contains seen p
  pub apart : (x : List ℕ) (p : Path) → Contains seen (x ∷ p) → Contains todo p → ⊥
  pub closed : (x : List ℕ) (p : Path) (e : Entry) → (p ≡ at) ⊎ Contains seen p → t (x ∷ p) ≡ Some e → Contains todo p ⊎ Contains seen (x ∷ p)
  pub reached : (p : Path) → Contains todo p → (p ≡ at) ⊎ Contains seen p
  pub folders : (p : Path) → Contains todo p → t p ≡ Some folder
  pub once : IsDistinct todo
  pub sound : (p : Path) (k : ℕ) → Contains found (p, k) → IsFileOf k (without_line_feeds at t p)
  pub complete : (p : Path) (bytes : List ℕ) → Contains seen p → without_line_feeds at t p ≡ Some (file bytes) → Contains found (p, length bytes)

pub at_first : (t : Tree) (at : Path) → t at ≡ Some folder → Walks t at (at ∷ []) [] 0
at_first t at is = record {
  seen = [];
  count = refl;
  distinct = tt;
  stands = λ p i. absurd (none_in p i);
  parents = λ x p i. absurd (none_in (x ∷ p) i);
  apart = λ x p i j. none_in (x ∷ p) i;
  closed = λ x p e r h. elim r [ inl same ↦ inl (subst (λ z. Contains (at ∷ []) z) (sym same) (here at [])) | inr i ↦ absurd (none_in p i) ];
  reached = λ p i. elim (in_cons at [] p i) [ inl e ↦ inl (sym e) | inr j ↦ absurd (none_in p j) ];
  folders = λ p i. elim (in_cons at [] p i) [ inl e ↦ ap t (sym e) ∙ is | inr j ↦ absurd (none_in p j) ];
  once = (λ i. none_in at i, tt);
  sound = λ p k i. absurd (none_in (p, k) i);
  complete = λ p bytes i is. absurd (none_in p i);
}

module _ (t : Tree) (tree : IsTree t) (at q : Path) (left : List Path) (found : List File) (n : ℕ) (w : Walks t at (left ++ q ∷ []) found n) (names : List (List ℕ)) (l : IsListing t q names) where
  -- what was seen already isn't in the folder
  fresh : (p : Path) → Contains w.seen p → Contains (children q names) p → ⊥
  fresh p old new = let c = in_children q names p new in w.apart c.0 q (subst (λ z. Contains w.seen z) c.1 old) (Contains-push left q)

  inside : (tail : Path) × (q ≡ tail ++ at)
  inside = elim (w.reached q (Contains-push left q)) [ inl e ↦ ([], e) | inr i ↦ let s = w.stands q i in (s.part ∷ s.tail, s.is) ]

  new_not_at : (x : List ℕ) → x ∷ q ≡ at → ⊥
  new_not_at x e = let r = inside in not_below at x r.0 (sym e ∙ ap (λ z. x ∷ z) r.1)

  abbrev seen_now : List Path
  seen_now = w.seen ++ children q names

  abbrev todo_now : List Path
  todo_now = left ++ folders_in t q names

  new_child : (p : Path) → Contains (folders_in t q names) p → Contains (children q names) p
  new_child p f = let g = in_folders t q names p f in subst (λ z. Contains (children q names) z) (sym g.1) (to_children q names g.0 g.2)

  pub stands_now : (p : Path) → Contains seen_now p → StandsBelow t at p
  stands_now p h = elim (Contains-append_cases w.seen (children q names) p h) [
    | inl i ↦ w.stands p i
    | inr i ↦
        let c = in_children q names p i in
        let e = l.stands c.0 c.2 in
        let r = inside in
        record { part = c.0; tail = r.0; is = c.1 ∙ ap (λ z. c.0 ∷ z) r.1; entry = e.0; stands = ap t c.1 ∙ e.1 }
  ]

  pub distinct_now : IsDistinct seen_now
  distinct_now = distinct_append w.seen (children q names) w.distinct (distinct_children q names l.rising) fresh

  old_parent : (p : Path) → (p ≡ at) ⊎ Contains w.seen p → (p ≡ at) ⊎ Contains seen_now p
  old_parent p r = elim r [ inl e ↦ inl e | inr i ↦ inr (Contains-append_left w.seen (children q names) p i) ]

  parents_now : (x : List ℕ) (p : Path) → Contains seen_now (x ∷ p) → (p ≡ at) ⊎ Contains seen_now p
  parents_now x p h = elim (Contains-append_cases w.seen (children q names) (x ∷ p) h) [
    | inl i ↦ old_parent p (w.parents x p i)
    | inr i ↦
        let c = in_children q names (x ∷ p) i in
        subst (λ z. (z ≡ at) ⊎ Contains seen_now z) (sym (tail_same x c.0 p q c.1)) (old_parent q (w.reached q (Contains-push left q)))
  ]

  apart_old : (x : List ℕ) (p : Path) → Contains seen_now (x ∷ p) → Contains left p → ⊥
  apart_old x p h i = elim (Contains-append_cases w.seen (children q names) (x ∷ p) h) [
    | inl o ↦ w.apart x p o (Contains-append_left left (q ∷ []) p i)
    | inr j ↦ let c = in_children q names (x ∷ p) j in distinct_last left q w.once (subst (λ z. Contains left z) (tail_same x c.0 p q c.1) i)
  ]

  apart_new : (x : List ℕ) (p : Path) → Contains seen_now (x ∷ p) → Contains (folders_in t q names) p → ⊥
  apart_new x p h f = let g = in_folders t q names p f in elim (Contains-append_cases w.seen (children q names) (x ∷ p) h) [
    | inl o ↦ elim (w.parents x p o) [ inl e ↦ new_not_at g.0 (sym g.1 ∙ e) | inr j ↦ fresh p j (new_child p f) ]
    | inr j ↦ let c = in_children q names (x ∷ p) j in deeper g.0 q (sym g.1 ∙ tail_same x c.0 p q c.1)
  ]

  closed_old : (x : List ℕ) (p : Path) (e : Entry) → (p ≡ at) ⊎ Contains w.seen p → t (x ∷ p) ≡ Some e → Contains todo_now p ⊎ Contains seen_now (x ∷ p)
  closed_old x p e r h = elim (w.closed x p e r h) [
    | inl i ↦ elim (Contains-push_cases left q p i) [
      | inl j ↦ inl (Contains-append_left left (folders_in t q names) p j)
      | inr s ↦ inr (Contains-append_right w.seen (children q names) (x ∷ p) (subst (λ z. Contains (children q names) (x ∷ z)) s (to_children q names x (l.all x e (ap (λ z. t (x ∷ z)) s ∙ h)))))
    ]
    | inr j ↦ inr (Contains-append_left w.seen (children q names) (x ∷ p) j)
  ]

  closed_now : (x : List ℕ) (p : Path) (e : Entry) → (p ≡ at) ⊎ Contains seen_now p → t (x ∷ p) ≡ Some e → Contains todo_now p ⊎ Contains seen_now (x ∷ p)
  closed_now x p e r h = elim r [
    | inl same ↦ closed_old x p e (inl same) h
    | inr i ↦ elim (Contains-append_cases w.seen (children q names) p i) [
      | inl j ↦ closed_old x p e (inr j) h
      | inr c ↦
          let d = in_children q names p c in
          inl (Contains-append_right left (folders_in t q names) p (subst (λ z. Contains (folders_in t q names) z) (sym d.1) (to_folders t q names d.0 d.2 (ap t (sym d.1) ∙ tree.parents x p e h))))
    ]
  ]

  reached_now : (p : Path) → Contains todo_now p → (p ≡ at) ⊎ Contains seen_now p
  reached_now p i = elim (Contains-append_cases left (folders_in t q names) p i) [
    | inl j ↦ old_parent p (w.reached p (Contains-append_left left (q ∷ []) p j))
    | inr f ↦ inr (Contains-append_right w.seen (children q names) p (new_child p f))
  ]

  once_now : IsDistinct todo_now
  once_now = distinct_append left (folders_in t q names) (distinct_front left (q ∷ []) w.once) (distinct_folders t q names l.rising) (λ p i f. elim (w.reached p (Contains-append_left left (q ∷ []) p i)) [
    | inl e ↦ let g = in_folders t q names p f in new_not_at g.0 (sym g.1 ∙ e)
    | inr j ↦ fresh p j (new_child p f)
  ])

  complete_now : (p : Path) (bytes : List ℕ) → Contains seen_now p → without_line_feeds at t p ≡ Some (file bytes) → Contains (found ++ files_in (without_line_feeds at t) q names) (p, length bytes)
  complete_now p bytes h is = elim (Contains-append_cases w.seen (children q names) p h) [
    | inl i ↦ Contains-append_left found (files_in (without_line_feeds at t) q names) (p, length bytes) (w.complete p bytes i is)
    | inr c ↦
        let d = in_children q names p c in
        Contains-append_right found (files_in (without_line_feeds at t) q names) (p, length bytes) (subst (λ z. Contains (files_in (without_line_feeds at t) q names) (z, length bytes)) (sym d.1) (to_files (without_line_feeds at t) q names d.0 bytes d.2 (ap (without_line_feeds at t) (sym d.1) ∙ is)))
  ]

  count_now : length seen_now ≡ n + length names
  count_now = length-append w.seen (children q names) ∙ ap (λ k. k + length (children q names)) w.count ∙ ap (λ k. n + k) (length-children q names)

  -- the folder was listed
  pub after : Walks t at todo_now (found ++ files_in (without_line_feeds at t) q names) (n + length names)
  after = record {
    seen = seen_now;
    count = count_now;
    distinct = distinct_now;
    stands = stands_now;
    parents = parents_now;
    apart = λ x p h i. elim (Contains-append_cases left (folders_in t q names) p i) [ inl j ↦ apart_old x p h j | inr f ↦ apart_new x p h f ];
    closed = closed_now;
    reached = reached_now;
    folders = λ p i. elim (Contains-append_cases left (folders_in t q names) p i) [ inl j ↦ w.folders p (Contains-append_left left (q ∷ []) p j) | inr f ↦ (in_folders t q names p f).3 ];
    once = once_now;
    sound = λ p k i. elim (Contains-append_cases found (files_in (without_line_feeds at t) q names) (p, k) i) [ inl j ↦ w.sound p k j | inr f ↦ in_files (without_line_feeds at t) q names p k f ];
    complete = complete_now;
  }

  -- or it has too many entries
  pub many_now : (limit : ℕ) → n ≤ limit → limit - n < length names → HasMany t at limit
  many_now limit within many = record { paths = seen_now; many = omega (arith, count_now); distinct = distinct_now; stand = stands_now }

pub turned : (t : Tree) → IsTree t → (at q : Path) (todo left todo' : List Path) (found found' : List File) (n k n' : ℕ) → Walks t at todo found n → todo ≡ left ++ q ∷ []
    → Lists t at q k left todo' found found' → n' ≡ n + k → Walks t at todo' found' n'
turned t tree at q todo left todo' found found' n k n' w is l sum =
    let popped = subst (λ d. Walks t at d found n) is w in
    let done = after t tree at q left found n popped l.names l.listing in
    let counted = subst (λ m. Walks t at (left ++ folders_in t q l.names) (found ++ files_in (without_line_feeds at t) q l.names) m) (ap (λ m. n + m) (sym l.count) ∙ sym sum) done in
    subst (λ d. Walks t at d found' n') (sym l.takes.folders) (subst (λ f. Walks t at (left ++ folders_in t q l.names) f n') (sym l.takes.files) counted)

pub too_many : (t : Tree) → IsTree t → (at q : Path) (todo left : List Path) (found : List File) (n limit room : ℕ) → Walks t at todo found n → todo ≡ left ++ q ∷ []
    → IsFull t q room → n ≤ limit → room ≡ limit - n → HasMany t at limit
too_many t tree at q todo left found n limit room w is full within same =
    many_now t tree at q left found n (subst (λ d. Walks t at d found n) is w) full.names full.listing limit within (subst (λ r. r < length full.names) same full.many)

module _ (t : Tree) (tree : IsTree t) (at : Path) (is : t at ≡ Some folder) (found : List File) (n : ℕ) (w : Walks t at [] found n) where
  next_seen : (x : List ℕ) (p : Path) (e : Entry) → (p ≡ at) ⊎ Contains w.seen p → t (x ∷ p) ≡ Some e → Contains w.seen (x ∷ p)
  next_seen x p e r h = elim (w.closed x p e r h) [ inl i ↦ absurd (none_in p i) | inr j ↦ j ]

  -- nothing below is left
  all_seen : (q : Path) (e : Entry) → t (q ++ at) ≡ Some e → (q ≡ []) ⊎ Contains w.seen (q ++ at)
  all_seen [] e h = inl refl
  all_seen (x ∷ q) e h = elim (all_seen q folder (tree.parents x (q ++ at) e h)) [
    | inl none ↦ inr (next_seen x (q ++ at) e (inl (ap (λ z. z ++ at) none)) h)
    | inr i ↦ inr (next_seen x (q ++ at) e (inr i) h)
  ]

  pub few_seen : (limit : ℕ) → n ≤ limit → HasFew t at limit
  few_seen limit within = record { paths = w.seen; few = omega (arith, w.count); all = all_seen }

  file_seen : (q : Path) (bytes : List ℕ) → entry_below t at q ≡ Some (file bytes) → Contains found (q ++ at, length bytes)
  file_seen q bytes h = let there_ = below_there t at q (file bytes) h in elim (all_seen q (file bytes) there_) [
    | inl none ↦ let same : t (q ++ at) ≡ Some folder = ap (λ z. t (z ++ at)) none ∙ is in cc (same, there_)
    | inr i ↦ w.complete (q ++ at) bytes i (told_below t at q ∙ h)
  ]

from_placed : (at : Path) (items : List PackageFile) (q : Path) (k : ℕ) → Contains (map (placed at) items) (q ++ at, k) → Contains (map file_of items) (q, k)
from_placed at [] q k h = absurd (none_in (q ++ at, k) h)
from_placed at (f ∷ fs) q k h = elim (in_cons (placed at f) (map (placed at) fs) (q ++ at, k) h) [
  | inl e ↦
      let path : f.path ≡ q = append_cancel_right f.path q at (ap (λ (g : File). g.0) e) in
      let size : f.length ≡ k = ap (λ (g : File). g.1) e in
      let both : file_of f ≡ (q, k) = λ i. (path i, size i) in
      subst (λ z. Contains (map file_of (f ∷ fs)) z) both (here (file_of f) (map file_of fs))
  | inr i ↦ there (file_of f) (map file_of fs) (q, k) (from_placed at fs q k i)
]

to_placed : (at : Path) (items : List PackageFile) (q : Path) (k : ℕ) → Contains (map file_of items) (q, k) → Contains (map (placed at) items) (q ++ at, k)
to_placed at [] q k h = absurd (none_in (q, k) h)
to_placed at (f ∷ fs) q k h = elim (in_cons (file_of f) (map file_of fs) (q, k) h) [
  | inl e ↦ subst (λ (z : File). Contains (map (placed at) (f ∷ fs)) (z.0 ++ at, z.1)) e (here (placed at f) (map (placed at) fs))
  | inr i ↦ there (placed at f) (map (placed at) fs) (q ++ at, k) (to_placed at fs q k i)
]

-- where no folder is left, all files were found
pub files_found : (t : Tree) → IsTree t → (at : Path) → t at ≡ Some folder → (items : List PackageFile) (n : ℕ) → Walks t at [] (map (placed at) items) n → IsFilesOf t at (map file_of items)
files_found t tree at is items n w = record {
  stands = λ q k i. subst (IsFileOf k) (told_below t at q) (w.sound (q ++ at) k (to_placed at items q k i));
  all = λ q bytes h. from_placed at items q (length bytes) (file_seen t tree at is (map (placed at) items) n w q bytes h);
}
