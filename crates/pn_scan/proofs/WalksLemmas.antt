-- A walk through managed folders and those below them: what was seen, and what is left to list.
use Rattle.std.proofs.Common.{◌≡◌, ◌<◌, ◌≤◌, ◌+◌, ◌-◌, ℕ, List, [], ◌∷◌, ◌++◌, length, map, refl, sym, ap, ◌∙◌, subst, arith, inl, inr, Some, true, length-append, append_assoc, append-nil}
use Rattle.std.specs.Prelude.{◌⊎◌, IfSome}
use Rattle.std.specs.Option.{ForSome}
use Rattle.std.specs.List.{Contains, list_any}
use Rattle.std.proofs.lemmas.List.{map-append}
use Rattle.std.proofs.lemmas.List.Elements.{Contains-append_left, Contains-append_right, Contains-append_cases, Contains-push, Contains-push_cases}
use Rattle.pn_fs.specs.Calls.{IsListing}
use Rattle.pn_fs.specs.Seen.{Seen, Keeps}
use Rattle.pn_fs.specs.Tree.{Entry, folder, Tree, IsTree}
use Rattle.pn_fs.proofs.SeenLemmas.{rose_from}
use Rattle.pn_text.specs.Path.{Path}
use Rattle.pn_text.specs.declared.limits.TheConstants.{ENTRY_LIMIT}
use Rattle.pn_text.proofs.Members.{none_in, in_cons, here, there}
use Rattle.pn_text.proofs.Paths.{deeper}
use Rattle.pn_text.proofs.Results.{for_some, if_some}
use Rattle.pn_scan.specs.Managed.{Managed, is_below, is_within, is_managed, AreApart, AreOurs}
use Rattle.pn_scan.specs.Scans.{Found}
use Rattle.pn_scan.specs.ScanFaults.{StandsBelow, IsDistinct, HasMany}
use Rattle.pn_scan.specs.Looks.{AreLooked}
use Rattle.pn_scan.specs.Turns.{folders_in, found_in, kinded, Lists, IsFull, FindsBelow, ListRefused, WalkRefused}
use Rattle.pn_scan.specs.declared.fault.ScanFault.{ScanFault}
use Rattle.pn_scan.specs.declared.fault.ScanFault.TheVariants.{Foreign, Entries, Fault, Memory}
use Rattle.pn_scan.proofs.IsDistinctLemmas.{distinct_append, distinct_front, distinct_last}
use Rattle.pn_scan.proofs.FoldersInLemmas.{children, length-children, tail_same, in_children, to_children, distinct_children, in_folders, to_folders, distinct_folders, found_all}
use Rattle.pn_scan.proofs.ManagedLemmas.{within_cases, within_itself, below_within, any_in, any_of, managed_of, below_no_folder, folder_above}

-- one of the folders
pub record IsRoot (managed : List Managed) (p : Path) : Type 0 where
  pub m : Managed
  pub among : Contains managed m
  pub is : m.0 ≡ p

pub record Walks (t : Tree) (managed : List Managed) (todo seen : List Path) : Type 0 where
  pub ours : AreOurs t managed
  pub distinct : IsDistinct seen
  pub stands : (p : Path) → Contains seen p → StandsBelow t managed p
  pub parents : (x : List ℕ) (p : Path) → Contains seen (x ∷ p) → IsRoot managed p ⊎ Contains seen p
  pub apart : (x : List ℕ) (p : Path) → Contains seen (x ∷ p) → Contains todo p → ⊥
  pub closed : (x : List ℕ) (p : Path) (e : Entry) → IsRoot managed p ⊎ Contains seen p → t (x ∷ p) ≡ Some e → Contains todo p ⊎ Contains seen (x ∷ p)
  pub reached : (p : Path) → Contains todo p → IsRoot managed p ⊎ Contains seen p
  pub folders : (p : Path) → Contains todo p → t p ≡ Some folder
  pub once : IsDistinct todo

-- what is strictly below one of the folders
pub below_in : (managed : List Managed) (p : Path) → list_any (λ (m : Managed). is_below m.0 p) managed ≡ true → (m : Managed) × Contains managed m × (is_below m.0 p ≡ true)
below_in managed p h = any_in (λ (m : Managed). is_below m.0 p) managed h

pub below_of : (managed : List Managed) (p : Path) (m : Managed) → Contains managed m → is_below m.0 p ≡ true → list_any (λ (m : Managed). is_below m.0 p) managed ≡ true
below_of managed p m c h = any_of (λ (m : Managed). is_below m.0 p) managed m c h

-- a folder that was reached is at or below a managed one
pub reached_within : (t : Tree) (managed : List Managed) (todo seen : List Path) (w : Walks t managed todo seen) (p : Path) → IsRoot managed p ⊎ Contains seen p → (m : Managed) × Contains managed m × (is_within m.0 p ≡ true)
reached_within t managed todo seen w p r = elim r [
  | inl o ↦ (o.m, o.among, subst (λ z. is_within o.m.0 z ≡ true) o.is (within_itself o.m.0))
  | inr i ↦ let b = below_in managed p (w.stands p i).0 in (b.0, b.1, below_within b.0.0 p b.2)
]

pub at_first : (t : Tree) (managed : List Managed) (marked : List Path) (standing : List Found) → AreLooked t managed marked standing → IsDistinct marked → Walks t managed marked []
at_first t managed marked standing l once = record {
  ours = l.ours;
  distinct = tt;
  stands = λ p i. absurd (none_in p i);
  parents = λ x p i. absurd (none_in (x ∷ p) i);
  apart = λ x p i j. none_in (x ∷ p) i;
  closed = λ x p e r h. elim r [
    | inl o ↦ inl (subst (λ z. Contains marked z) o.is (l.to o.m o.among (x, e, ap (λ z. t (x ∷ z)) o.is ∙ h)))
    | inr i ↦ absurd (none_in p i)
  ];
  reached = λ p i. let f = l.from p i in inl (record { m = f.0.0; among = f.0.1; is = f.0.2 });
  folders = λ p i. (l.from p i).1;
  once = once;
}

module _ (t : Tree) (tree : IsTree t) (managed : List Managed) (sep : AreApart managed) (q : Path) (left seen : List Path) (w : Walks t managed (left ++ q ∷ []) seen) (names : List (List ℕ)) (l : IsListing t q names) where
  -- what was seen already isn't in the folder
  fresh : (p : Path) → Contains seen p → Contains (children q names) p → ⊥
  fresh p old new = let c = in_children q names p new in w.apart c.0 q (subst (λ z. Contains seen z) c.1 old) (Contains-push left q)

  pub inside : (m : Managed) × Contains managed m × (is_within m.0 q ≡ true)
  inside = reached_within t managed (left ++ q ∷ []) seen w q (w.reached q (Contains-push left q))

  -- an entry of the folder is no managed folder
  new_no_root : (x : List ℕ) → IsRoot managed (x ∷ q) → ⊥
  new_no_root x o = let r = inside in below_no_folder managed sep o.m r.0 o.among r.1 (subst (λ z. is_below r.0.0 z ≡ true) (sym o.is) r.2)

  abbrev seen_now : List Path
  seen_now = seen ++ children q names

  abbrev todo_now : List Path
  todo_now = left ++ folders_in t q names

  new_child : (p : Path) → Contains (folders_in t q names) p → Contains (children q names) p
  new_child p f = let g = in_folders t q names p f in subst (λ z. Contains (children q names) z) (sym g.1) (to_children q names g.0 g.2)

  pub stands_now : (p : Path) → Contains seen_now p → StandsBelow t managed p
  stands_now p h = elim (Contains-append_cases seen (children q names) p h) [
    | inl i ↦ w.stands p i
    | inr i ↦
        let c = in_children q names p i in
        let e = l.stands c.0 c.2 in
        let r = inside in
        (below_of managed p r.0 r.1 (subst (λ z. is_below r.0.0 z ≡ true) (sym c.1) r.2), (e.0, ap t c.1 ∙ e.1))
  ]

  pub distinct_now : IsDistinct seen_now
  distinct_now = distinct_append seen (children q names) w.distinct (distinct_children q names l.rising) fresh

  old_parent : (p : Path) → IsRoot managed p ⊎ Contains seen p → IsRoot managed p ⊎ Contains seen_now p
  old_parent p r = elim r [ inl e ↦ inl e | inr i ↦ inr (Contains-append_left seen (children q names) p i) ]

  parents_now : (x : List ℕ) (p : Path) → Contains seen_now (x ∷ p) → IsRoot managed p ⊎ Contains seen_now p
  parents_now x p h = elim (Contains-append_cases seen (children q names) (x ∷ p) h) [
    | inl i ↦ old_parent p (w.parents x p i)
    | inr i ↦
        let c = in_children q names (x ∷ p) i in
        subst (λ z. IsRoot managed z ⊎ Contains seen_now z) (sym (tail_same x c.0 p q c.1)) (old_parent q (w.reached q (Contains-push left q)))
  ]

  apart_old : (x : List ℕ) (p : Path) → Contains seen_now (x ∷ p) → Contains left p → ⊥
  apart_old x p h i = elim (Contains-append_cases seen (children q names) (x ∷ p) h) [
    | inl o ↦ w.apart x p o (Contains-append_left left (q ∷ []) p i)
    | inr j ↦ let c = in_children q names (x ∷ p) j in distinct_last left q w.once (subst (λ z. Contains left z) (tail_same x c.0 p q c.1) i)
  ]

  apart_new : (x : List ℕ) (p : Path) → Contains seen_now (x ∷ p) → Contains (folders_in t q names) p → ⊥
  apart_new x p h f = let g = in_folders t q names p f in elim (Contains-append_cases seen (children q names) (x ∷ p) h) [
    | inl o ↦ elim (w.parents x p o) [ inl e ↦ new_no_root g.0 (subst (IsRoot managed) g.1 e) | inr j ↦ fresh p j (new_child p f) ]
    | inr j ↦ let c = in_children q names (x ∷ p) j in deeper g.0 q (sym g.1 ∙ tail_same x c.0 p q c.1)
  ]

  closed_old : (x : List ℕ) (p : Path) (e : Entry) → IsRoot managed p ⊎ Contains seen p → t (x ∷ p) ≡ Some e → Contains todo_now p ⊎ Contains seen_now (x ∷ p)
  closed_old x p e r h = elim (w.closed x p e r h) [
    | inl i ↦ elim (Contains-push_cases left q p i) [
      | inl j ↦ inl (Contains-append_left left (folders_in t q names) p j)
      | inr s ↦ inr (Contains-append_right seen (children q names) (x ∷ p) (subst (λ z. Contains (children q names) (x ∷ z)) s (to_children q names x (l.all x e (ap (λ z. t (x ∷ z)) s ∙ h)))))
    ]
    | inr j ↦ inr (Contains-append_left seen (children q names) (x ∷ p) j)
  ]

  closed_now : (x : List ℕ) (p : Path) (e : Entry) → IsRoot managed p ⊎ Contains seen_now p → t (x ∷ p) ≡ Some e → Contains todo_now p ⊎ Contains seen_now (x ∷ p)
  closed_now x p e r h = elim r [
    | inl same ↦ closed_old x p e (inl same) h
    | inr i ↦ elim (Contains-append_cases seen (children q names) p i) [
      | inl j ↦ closed_old x p e (inr j) h
      | inr c ↦
          let d = in_children q names p c in
          inl (Contains-append_right left (folders_in t q names) p (subst (λ z. Contains (folders_in t q names) z) (sym d.1) (to_folders t q names d.0 d.2 (ap t (sym d.1) ∙ tree.parents x p e h))))
    ]
  ]

  reached_now : (p : Path) → Contains todo_now p → IsRoot managed p ⊎ Contains seen_now p
  reached_now p i = elim (Contains-append_cases left (folders_in t q names) p i) [
    | inl j ↦ old_parent p (w.reached p (Contains-append_left left (q ∷ []) p j))
    | inr f ↦ inr (Contains-append_right seen (children q names) p (new_child p f))
  ]

  once_now : IsDistinct todo_now
  once_now = distinct_append left (folders_in t q names) (distinct_front left (q ∷ []) w.once) (distinct_folders t q names l.rising) (λ p i f. elim (w.reached p (Contains-append_left left (q ∷ []) p i)) [
    | inl e ↦ let g = in_folders t q names p f in new_no_root g.0 (subst (IsRoot managed) g.1 e)
    | inr j ↦ fresh p j (new_child p f)
  ])

  -- the folder was listed
  pub after : Walks t managed todo_now seen_now
  after = record {
    ours = w.ours;
    distinct = distinct_now;
    stands = stands_now;
    parents = parents_now;
    apart = λ x p h i. elim (Contains-append_cases left (folders_in t q names) p i) [ inl j ↦ apart_old x p h j | inr f ↦ apart_new x p h f ];
    closed = closed_now;
    reached = reached_now;
    folders = λ p i. elim (Contains-append_cases left (folders_in t q names) p i) [ inl j ↦ w.folders p (Contains-append_left left (q ∷ []) p j) | inr f ↦ (in_folders t q names p f).3 ];
    once = once_now;
  }

  pub count_now : (n : ℕ) → length seen ≡ n → length seen_now ≡ n + length names
  count_now n count = length-append seen (children q names) ∙ ap (λ k. k + length (children q names)) count ∙ ap (λ k. n + k) (length-children q names)

  -- or it has too many entries
  pub many_now : (n : ℕ) → length seen ≡ n → n ≤ ENTRY_LIMIT → ENTRY_LIMIT - n < length names → HasMany t managed
  many_now n count within many = record { ours = w.ours; paths = seen_now; many = omega (arith, count_now n count, many, within); distinct = distinct_now; stand = stands_now }

-- What was found, behind the folders themselves, and what is left to list.
pub record WalksTo (t : Tree) (managed : List Managed) (before : List Found) (todo : List Path) (found : List Found) (n : ℕ) : Type 0 where
  pub seen : List Path
  pub count : length seen ≡ n
  pub is : found ≡ before ++ map (kinded t) seen
  pub walks : Walks t managed todo seen

pub first_to : (t : Tree) (managed : List Managed) (marked : List Path) (standing : List Found) → AreLooked t managed marked standing → IsDistinct marked → WalksTo t managed standing marked standing 0
first_to t managed marked standing l once = record { seen = []; count = refl; is = sym (append-nil standing); walks = at_first t managed marked standing l once }

pub next_folder : (t : Tree) (managed : List Managed) (before : List Found) (todo left : List Path) (q : Path) (found : List Found) (n : ℕ) → WalksTo t managed before todo found n → todo ≡ left ++ q ∷ [] → t q ≡ Some folder
next_folder t managed before todo left q found n w is = w.walks.folders q (subst (λ d. Contains d q) (sym is) (Contains-push left q))

pub next_managed : (t : Tree) (managed : List Managed) (before : List Found) (todo left : List Path) (q : Path) (found : List Found) (n : ℕ) → WalksTo t managed before todo found n → todo ≡ left ++ q ∷ [] → is_managed managed q ≡ true
next_managed t managed before todo left q found n w is =
    let r = reached_within t managed todo w.seen w.walks q (w.walks.reached q (subst (λ d. Contains d q) (sym is) (Contains-push left q))) in
    managed_of managed q r.0 r.1 r.2

pub turned : (t : Tree) → IsTree t → (managed : List Managed) → AreApart managed → (before : List Found) (todo left todo' : List Path) (q : Path) (found found' : List Found) (n k n' : ℕ)
    → WalksTo t managed before todo found n → todo ≡ left ++ q ∷ [] → Lists t q k left todo' found found' → n' ≡ n + k → WalksTo t managed before todo' found' n'
turned t tree managed sep before todo left todo' q found found' n k n' w is l sum =
    let popped = subst (λ d. Walks t managed d w.seen) is w.walks in
    let done = after t tree managed sep q left w.seen popped l.names l.listing in
    record {
      seen = w.seen ++ children q l.names;
      count = count_now t tree managed sep q left w.seen popped l.names l.listing n w.count ∙ ap (λ m. n + m) (sym l.count) ∙ sym sum;
      is =
          l.takes.entries
          ∙ ap (λ f. f ++ found_in t q l.names) w.is
          ∙ append_assoc before (map (kinded t) w.seen) (found_in t q l.names)
          ∙ ap (λ f. before ++ (map (kinded t) w.seen ++ f)) (found_all t q l.names l.listing.stands)
          ∙ ap (λ f. before ++ f) (sym (map-append (kinded t) w.seen (children q l.names)));
      walks = subst (λ d. Walks t managed d (w.seen ++ children q l.names)) (sym l.takes.folders) done;
    }

pub too_many : (t : Tree) → IsTree t → (managed : List Managed) → AreApart managed → (before : List Found) (todo left : List Path) (q : Path) (found : List Found) (n room : ℕ)
    → WalksTo t managed before todo found n → todo ≡ left ++ q ∷ [] → IsFull t q room → n ≤ ENTRY_LIMIT → room ≡ ENTRY_LIMIT - n → HasMany t managed
too_many t tree managed sep before todo left q found n room w is full within same =
    many_now t tree managed sep q left w.seen (subst (λ d. Walks t managed d w.seen) is w.walks) full.names full.listing n w.count within (subst (λ r. r < length full.names) same full.many)

module _ (t : Tree) (tree : IsTree t) (managed : List Managed) (seen : List Path) (w : Walks t managed [] seen) where
  next_seen : (x : List ℕ) (p : Path) (e : Entry) → IsRoot managed p ⊎ Contains seen p → t (x ∷ p) ≡ Some e → Contains seen (x ∷ p)
  next_seen x p e r h = elim (w.closed x p e r h) [ inl i ↦ absurd (none_in p i) | inr j ↦ j ]

  -- nothing below is left
  all_seen : (m : Managed) (q : Path) (e : Entry) → Contains managed m → is_below m.0 q ≡ true → t q ≡ Some e → Contains seen q
  all_seen m [] e c b h = cc b
  all_seen m (x ∷ q) e c b h = elim (within_cases m.0 q b) [
    | inl same ↦ next_seen x q e (inl (record { m = m; among = c; is = sym same })) h
    | inr under ↦ next_seen x q e (inr (all_seen m q folder c under (tree.parents x q e h))) h
  ]

  pub all_below : (p : Path) → StandsBelow t managed p → Contains seen p
  all_below p s = let b = below_in managed p s.0 in all_seen b.0 p s.1.0 b.1 b.2 s.1.1

-- where no folder is left, all was found
pub all_found : (t : Tree) → IsTree t → (managed : List Managed) (before : List Found) (todo : List Path) (found : List Found) (n : ℕ) → todo ≡ [] → n ≤ ENTRY_LIMIT → WalksTo t managed before todo found n → FindsBelow t managed before found
all_found t tree managed before todo found n none within w = record {
  paths = w.seen;
  is = w.is;
  few = omega (arith, w.count, within);
  stand = w.walks.stands;
  all = all_below t tree managed w.seen (subst (λ d. Walks t managed d w.seen) none w.walks);
}

pub walk_refused : (old mid new : Seen) (managed : List Managed) → AreApart managed → (before : List Found) (todo left : List Path) (q : Path) (found : List Found) (n room : ℕ) (e : ScanFault)
    → ((t : Tree) → old.tree ≡ Some t → IsTree t) → Keeps old mid → ForSome old.tree (λ t. WalksTo t managed before todo found n) → todo ≡ left ++ q ∷ [] → n ≤ ENTRY_LIMIT → room ≡ ENTRY_LIMIT - n
    → ListRefused q room mid new e → WalkRefused managed old new e
walk_refused old mid new managed sep before todo left q found n room (Foreign p) tree kept w is within same h = h
walk_refused old mid new managed sep before todo left q found n room Entries tree kept w is within same h =
    if_some (λ t. HasMany t managed) old.tree (λ t told.
    too_many t (tree t told) managed sep before todo left q found n room (w t told) is (for_some (λ t. IsFull t q room) mid.tree h t (kept.tree ∙ told)) within same)
walk_refused old mid new managed sep before todo left q found n room Fault tree kept w is within same h = rose_from old.faults mid.faults new.faults kept.later h
walk_refused old mid new managed sep before todo left q found n room Memory tree kept w is within same h = tt
