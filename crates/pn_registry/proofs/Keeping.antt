-- Files of which none lies above another one.
use Rattle.std.proofs.Common.{◌≡◌, ℕ, List, [], ◌∷◌, ◌++◌, length, map, drop, refl, sym, ap, ◌∙◌, subst, inl, inr, arith, true, false, nat_cmp, append_assoc, length-append, Some}
use Rattle.std.specs.Prelude.{◌==◌, if◌then◌else◌}
use Rattle.std.specs.declared.cmp.Ordering.TheVariants.{Less}
use Rattle.std.specs.Ordering.{ordering_then}
use Rattle.std.specs.Cmp.Lexicographic.{slice_cmp}
use Rattle.std.specs.List.{Contains, AllByRecursion}
use Rattle.std.specs.List.Sorted.{IsStrictlySortedBy}
use Rattle.std.proofs.lemmas.Cmp.{nat_cmp_total, tied_itself}
use Rattle.std.proofs.lemmas.List.Elements.{Contains-append_left, Contains-push, Contains-push_cases}
use Rattle.pn_text.specs.Path.{Path, text_below, parts_from, SpellsParts}
use Rattle.pn_text.proofs.Paths.{parts_from-append, parts_from-text_below}
use Rattle.pn_fs.specs.Tree.{Tree, IsTree, Entry, file, folder}
use Rattle.pn_read.specs.Small.{IsFileOf}
use Rattle.pn_registry.specs.Files.{File, IsRising, IsFilesOf}
use Rattle.pn_registry.specs.Listed.{file_of, text_of}
use Rattle.pn_registry.specs.declared.list.PackageFile.{PackageFile}
use Rattle.pn_registry.specs.Apart.{AreApart, KeepsApart, HasAbove, TakesApart}
use Rattle.pn_text.proofs.Members.{none_in, in_cons, here, there}
use Rattle.pn_registry.proofs.Orders.{rising_nil}
use Rattle.pn_registry.proofs.Finds.{all_in}
use Rattle.pn_registry.proofs.LineFeeds.{file_there}
use Rattle.pn_text.proofs.Joins.{text_below-append, below_begins}

-- what is read on stands below a path
onward : (ys : List ℕ) (x : List ℕ) (s q : Path) → (y : List ℕ) × (tail : Path) × (parts_from (x ∷ (s ++ q)) ys ≡ y ∷ (tail ++ q))
onward [] x s q = (x, s, refl)
onward (b ∷ bs) x s q = elim (b == 47) as (λ o. (y : List ℕ) × (tail : Path) × (parts_from (if o then [] ∷ x ∷ (s ++ q) else (x ++ b ∷ []) ∷ (s ++ q)) bs ≡ y ∷ (tail ++ q))) [
  | true ↦ onward bs [] (x ∷ s) q
  | false ↦ onward bs (x ++ b ∷ []) s q
]

-- a path whose text goes on behind another one's lies below it
below_of : (p q : Path) (a b rest : List ℕ) → SpellsParts a p → SpellsParts b q → a ≡ b ++ 47 ∷ rest → (y : List ℕ) × (tail : Path) × (p ≡ y ∷ (tail ++ q))
below_of p q a b rest sp sq is =
    let at_q : parts_from [] (47 ∷ b) ≡ q = ap (parts_from []) sq.spelled ∙ parts_from-text_below q sq.good in
    let whole : p ≡ parts_from ([] ∷ q) rest =
    sym (parts_from-text_below p sp.good)
    ∙ ap (parts_from []) (sym sp.spelled ∙ ap (λ t. 47 ∷ t) is)
    ∙ parts_from-append (47 ∷ b) (47 ∷ rest) []
    ∙ ap (λ z. parts_from z (47 ∷ rest)) at_q in
    let r = onward rest [] [] q in
    (r.0, r.1, whole ∙ r.2)

-- the text of a path below another one goes on behind its text
goes_on : (p q s : Path) (x a b : List ℕ) → SpellsParts a p → SpellsParts b q → p ≡ x ∷ (s ++ q) → (rest : List ℕ) × (a ≡ b ++ 47 ∷ rest)
goes_on p q s x a b sp sq is =
    let r = below_begins x s in
    (r.0, ap (drop 1) (sp.spelled ∙ ap text_below is ∙ text_below-append (x ∷ s) q ∙ ap (λ t. t ++ text_below (x ∷ s)) (sym sq.spelled) ∙ ap (λ t. 47 ∷ (b ++ t)) r.1))

longer_not_less : (xs ys : List ℕ) (y : ℕ) → slice_cmp nat_cmp (xs ++ y ∷ ys) xs ≡ Less → ⊥
longer_not_less [] ys y h = cc h
longer_not_less (x ∷ xs) ys y h = longer_not_less xs ys y (subst (λ o. ordering_then o (slice_cmp nat_cmp (xs ++ y ∷ ys) xs) ≡ Less) (tied_itself nat_cmp_total x) h)

not_longer : (s q : Path) → q ≡ s ++ q → s ≡ []
not_longer [] q e = refl
not_longer (x ∷ s) q e = absurd (omega (arith, ap length e, length-append s q))

-- each path is spelled by some text
abbrev pub AreSpelled : List File → Type 0
AreSpelled files = (f : File) → Contains files f → (text : List ℕ) × SpellsParts text f.0

-- What was taken in of the files that were looked at.
pub record Keeping (done kept : List File) : Type 0 where
  pub keeps : KeepsApart done kept
  pub rising : IsRising kept
  pub spelled : AreSpelled kept

-- files that rise come before one that is added
earlier : (done : List File) (f : File) → IsRising (done ++ f ∷ []) → (g : File) → Contains done g → slice_cmp nat_cmp (text_below g.0) (text_below f.0) ≡ Less
unfolding IsStrictlySortedBy
earlier [] f rising g i = absurd (none_in g i)
earlier (d ∷ done) f rising g i = elim (in_cons d done g i) [
  | inl e ↦ subst (λ (z : File). slice_cmp nat_cmp (text_below z.0) (text_below f.0) ≡ Less) e (all_in (λ y. slice_cmp nat_cmp (text_below d.0) y ≡ Less) (done ++ f ∷ []) f rising.0 (Contains-push done f))
  | inr j ↦ earlier done f rising.1 g j
]

all_more : (P : List ℕ → Type 0) (fs : List File) (f : File) → AllByRecursion P (map (λ (f : File). text_below f.0) fs) → P (text_below f.0) → AllByRecursion P (map (λ (f : File). text_below f.0) (fs ++ f ∷ []))
all_more P [] f all p = (p, tt)
all_more P (g ∷ fs) f all p = (all.0, all_more P fs f all.1 p)

push_rising : (kept : List File) (f : File) → IsRising kept → ((g : File) → Contains kept g → slice_cmp nat_cmp (text_below g.0) (text_below f.0) ≡ Less) → IsRising (kept ++ f ∷ [])
unfolding IsStrictlySortedBy
push_rising [] f rising earlier = (tt, tt)
push_rising (k ∷ kept) f rising earlier = (
  all_more (λ y. slice_cmp nat_cmp (text_below k.0) y ≡ Less) kept f rising.0 (earlier k (here k kept)),
  push_rising kept f rising.1 (λ g i. earlier g (there k kept g i)),
)

apart_front : (done : List File) (f : File) → AreApart (done ++ f ∷ []) → AreApart done
apart_front done f h s q m n i j = h s q m n (Contains-append_left done (f ∷ []) (q, m) i) (Contains-append_left done (f ∷ []) (s ++ q, n) j)

module _ (done kept : List File) (f : File) (text : List ℕ) (rising : IsRising (done ++ f ∷ [])) (spelled : SpellsParts text f.0) (k : Keeping done kept) where
  -- a file below one that was taken in is left out
  left_out : HasAbove kept text → Keeping (done ++ f ∷ []) kept
  left_out h =
      let g : File = h.stands.0 in
      let among : Contains kept g = h.stands.1 in
      let read = k.spelled g among in
      let front : read.0 ≡ h.front = ap (drop 1) (read.1.spelled ∙ h.stands.2) in
      let r = below_of f.0 g.0 text read.0 h.rest spelled read.1 (h.is ∙ ap (λ t. t ++ 47 ∷ h.rest) (sym front)) in
      record {
        keeps = record {
          apart = k.keeps.apart;
          from = λ x i. Contains-append_left done (f ∷ []) x (k.keeps.from x i);
          whole = λ all.
              let below : Contains (done ++ f ∷ []) ((r.0 ∷ r.1) ++ g.0, f.1) = subst (λ z. Contains (done ++ f ∷ []) (z, f.1)) r.2 (Contains-push done f) in
              absurd (some r.0 r.1 (all (r.0 ∷ r.1) g.0 g.1 f.1 (Contains-append_left done (f ∷ []) g (k.keeps.from g among)) below));
        };
        rising = k.rising;
        spelled = k.spelled;
      }
    where
      some : (x : List ℕ) (s : Path) → x ∷ s ≡ [] → ⊥
      some x s e = cc e

  -- no file that was taken in lies above it
  none_over : (HasAbove kept text → ⊥) → (s q : Path) (m n : ℕ) → Contains kept (q, m) → f ≡ (s ++ q, n) → s ≡ []
  none_over none [] q m n i e = refl
  none_over none (x ∷ s) q m n i e =
      let read = k.spelled (q, m) i in
      let on = goes_on f.0 q s x text read.0 spelled read.1 (ap (λ (z : File). z.0) e) in
      absurd (none (record { front = read.0; rest = on.0; stands = ((q, m), i, sym read.1.spelled); is = on.1 }))

  before : (g : File) → Contains kept g → slice_cmp nat_cmp (text_below g.0) (text_below f.0) ≡ Less
  before g i = earlier done f rising g (k.keeps.from g i)

  -- and none below it
  none_under : (s q : Path) (m n : ℕ) → f ≡ (q, m) → Contains kept (s ++ q, n) → s ≡ []
  none_under [] q m n e i = refl
  none_under (x ∷ s) q m n e i =
      let r = below_begins x s in
      let text_is : text_below (x ∷ s ++ q) ≡ text_below q ++ 47 ∷ r.0 = text_below-append (x ∷ s) q ∙ ap (λ t. text_below q ++ t) r.1 in
      let less : slice_cmp nat_cmp (text_below (x ∷ s ++ q)) (text_below q) ≡ Less = subst (λ (z : File). slice_cmp nat_cmp (text_below (x ∷ s ++ q)) (text_below z.0) ≡ Less) e (before (x ∷ s ++ q, n) i) in
      absurd (longer_not_less (text_below q) r.0 47 (subst (λ t. slice_cmp nat_cmp t (text_below q) ≡ Less) text_is less))

  still_apart : (HasAbove kept text → ⊥) → AreApart (kept ++ f ∷ [])
  still_apart none s q m n i j = elim (Contains-push_cases kept f (q, m) i) [
    | inl a ↦ elim (Contains-push_cases kept f (s ++ q, n) j) [
      | inl b ↦ k.keeps.apart s q m n a b
      | inr e ↦ none_over none s q m n a e
    ]
    | inr d ↦ elim (Contains-push_cases kept f (s ++ q, n) j) [
      | inl b ↦ none_under s q m n d b
      | inr e ↦ not_longer s q (ap (λ (z : File). z.0) (sym d ∙ e))
    ]
  ]

  taken_in : (HasAbove kept text → ⊥) → Keeping (done ++ f ∷ []) (kept ++ f ∷ [])
  taken_in none = record {
    keeps = record {
      apart = still_apart none;
      from = λ x i. elim (Contains-push_cases kept f x i) [
        | inl a ↦ Contains-append_left done (f ∷ []) x (k.keeps.from x a)
        | inr e ↦ subst (λ z. Contains (done ++ f ∷ []) z) e (Contains-push done f)
      ];
      whole = λ all. ap (λ fs. fs ++ f ∷ []) (k.keeps.whole (apart_front done f all));
    };
    rising = push_rising kept f k.rising before;
    spelled = λ x i. elim (Contains-push_cases kept f x i) [
      | inl a ↦ k.spelled x a
      | inr e ↦ subst (λ (z : File). (t : List ℕ) × SpellsParts t z.0) e (text, spelled)
    ];
  }

pub keeping_more : (done kept kept' : List File) (f : File) → IsRising (done ++ f ∷ []) → Keeping done kept → TakesApart kept kept' f → Keeping (done ++ f ∷ []) kept'
keeping_more done kept kept' f rising k t = elim t.takes [
  | inl a ↦ subst (Keeping (done ++ f ∷ [])) (sym a.1) (left_out done kept f t.text rising t.spelled k a.0)
  | inr b ↦ subst (Keeping (done ++ f ∷ [])) (sym b.1) (taken_in done kept f t.text rising t.spelled k b.0)
]

pub keeping_none : Keeping [] []
keeping_none = record {
  keeps = record { apart = λ s q m n i j. absurd (none_in (q, m) i); from = λ f i. i; whole = λ all. refl };
  rising = rising_nil;
  spelled = λ f i. absurd (none_in f i);
}

rising_front : (a b : List PackageFile) → IsRising (map file_of (a ++ b)) → IsRising (map file_of a)
unfolding IsStrictlySortedBy
rising_front [] b h = tt
rising_front (x ∷ a) b h = (front a h.0, rising_front a b h.1)
  where
    front : (a : List PackageFile) → AllByRecursion (λ y. slice_cmp nat_cmp (text_of x) y ≡ Less) (map (λ (f : File). text_below f.0) (map file_of (a ++ b))) → AllByRecursion (λ y. slice_cmp nat_cmp (text_of x) y ≡ Less) (map (λ (f : File). text_below f.0) (map file_of a))
    front [] all = tt
    front (y ∷ a) all = (all.0, front a all.1)

push_mapped : (done : List PackageFile) (x : PackageFile) → map file_of (done ++ x ∷ []) ≡ map file_of done ++ file_of x ∷ []
push_mapped [] x = refl
push_mapped (y ∷ done) x = ap (λ fs. file_of y ∷ fs) (push_mapped done x)

-- What was taken in of the files that were looked at, and that these rise with those to come.
pub record KeepingOf (done rest kept : List PackageFile) : Type 0 where
  pub keeping : Keeping (map file_of done) (map file_of kept)
  pub rising : IsRising (map file_of (done ++ rest))

pub keeping_turn : (done rest rest' kept kept' : List PackageFile) (x : PackageFile) → rest ≡ x ∷ rest' → KeepingOf done rest kept → TakesApart (map file_of kept) (map file_of kept') (file_of x) → KeepingOf (done ++ x ∷ []) rest' kept'
keeping_turn done rest rest' kept kept' x is k takes =
    let rises : IsRising (map file_of ((done ++ x ∷ []) ++ rest')) = subst (λ fs. IsRising (map file_of fs)) (ap (λ r. done ++ r) is ∙ sym (append_assoc done (x ∷ []) rest')) k.rising in
    let front : IsRising (map file_of done ++ file_of x ∷ []) = subst IsRising (push_mapped done x) (rising_front (done ++ x ∷ []) rest' rises) in
    record {
      keeping = subst (λ fs. Keeping fs (map file_of kept')) (sym (push_mapped done x)) (keeping_more (map file_of done) (map file_of kept) (map file_of kept') (file_of x) front k.keeping takes);
      rising = rises;
    }

pub keeping_start : (files : List PackageFile) → IsRising (map file_of files) → KeepingOf [] files []
keeping_start files rising = record { keeping = keeping_none; rising = rising }

-- in a tree each path above an entry is a folder
climb : (t : Tree) → IsTree t → (s : Path) (x : List ℕ) (p : Path) (e : Entry) → t (x ∷ s ++ p) ≡ Some e → t p ≡ Some folder
climb t tree [] x p e h = tree.parents x p e h
climb t tree (y ∷ s) x p e h = climb t tree s y p folder (tree.parents x (y ∷ s ++ p) e h)

no_folder : (t : Tree) (p : Path) (m : ℕ) → IsFileOf m (t p) → t p ≡ Some folder → ⊥
no_folder t p m f h = let same : Some (file f.0) ≡ Some folder = sym f.1 ∙ h in cc same

-- so no file of a tree lies above another one
pub apart_in_tree : (t : Tree) → IsTree t → (at : Path) (files : List File) → IsFilesOf t at files → AreApart files
apart_in_tree t tree at files of [] q m n i j = refl
apart_in_tree t tree at files of (x ∷ s) q m n i j =
    let below = file_there t at (x ∷ s ++ q) n (of.stands (x ∷ s ++ q) n j) in
    absurd (no_folder t (q ++ at) m (file_there t at q m (of.stands q m i)) (climb t tree s x (q ++ at) (file below.0) (ap t (sym (append_assoc (x ∷ s) q at)) ∙ below.1)))

-- and of the files of a tree none is left out
pub kept_apart : (t : Tree) → IsTree t → (at : Path) (files kept : List File) → IsFilesOf t at files → KeepsApart files kept → IsFilesOf t at kept
kept_apart t tree at files kept of k = subst (IsFilesOf t at) (sym (k.whole (apart_in_tree t tree at files of))) of
