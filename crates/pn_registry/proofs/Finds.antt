-- The first file in order that is so.
use Rattle.std.proofs.Common.{◌≡◌, ◌≢◌, ℕ, List, [], ◌∷◌, map, refl, sym, ap, ◌∙◌, subst, inl, inr, true, false, Bool, Less, nat_cmp, Some, None, cond}
use Rattle.std.specs.Prelude.{◌⊎◌, Option, find}
use Rattle.std.specs.Cmp.Lexicographic.{slice_cmp}
use Rattle.std.specs.List.{Contains, AllByRecursion}
use Rattle.std.specs.List.Sorted.{IsStrictlySortedBy}
use Rattle.pn_text.specs.Path.{Path, text_below}
use Rattle.pn_text.proofs.Orders.{not_before_self, not_both_before}
use Rattle.pn_fs.specs.Tree.{Tree}
use Rattle.pn_read.specs.Small.{IsFileOf}
use Rattle.pn_registry.specs.Files.{File, IsRising, IsFilesOf, entry_below}
use Rattle.pn_registry.specs.FilesFaults.{IsFirstFile, HasNone}
use Rattle.pn_text.proofs.Members.{none_in, in_cons, here, there}

neither : (b : Bool) (x : File) (r : Option File) → cond b (Some x) r ≡ None → (b ≡ false) × (r ≡ None)
neither true x r h = cc h
neither false x r h = (refl, h)

either : (b : Bool) (x f : File) (r : Option File) → cond b (Some x) r ≡ Some f → ((b ≡ true) × (x ≡ f)) ⊎ ((b ≡ false) × (r ≡ Some f))
either true x f r h = inl (refl, cc h)
either false x f r h = inr (refl, h)

pub find_none : (so : File → Bool) (fs : List File) → find so fs ≡ None → (f : File) → Contains fs f → so f ≡ false
find_none so [] h f i = absurd (none_in f i)
find_none so (x ∷ fs) h f i = let n = neither (so x) x (find so fs) h in elim (in_cons x fs f i) [
  | inl e ↦ ap so (sym e) ∙ n.0
  | inr j ↦ find_none so fs n.1 f j
]

pub all_in : (P : List ℕ → Type 0) (fs : List File) (g : File) → AllByRecursion P (map (λ (f : File). text_below f.0) fs) → Contains fs g → P (text_below g.0)
all_in P [] g h i = absurd (none_in g i)
all_in P (f ∷ fs) g h i = elim (in_cons f fs g i) [ inl e ↦ subst (λ (z : File). P (text_below z.0)) e h.0 | inr j ↦ all_in P fs g h.1 j ]

-- what was found, and that nothing of the kind comes before it
pub record IsFirst (so : File → Bool) (fs : List File) (f : File) : Type 0 where
  pub among : Contains fs f
  pub is : so f ≡ true
  pub first : (g : File) → Contains fs g → so g ≡ true → slice_cmp nat_cmp (text_below g.0) (text_below f.0) ≢ Less

head_first : (so : File → Bool) (x f : File) (fs : List File) → AllByRecursion (λ y. slice_cmp nat_cmp (text_below x.0) y ≡ Less) (map (λ (f : File). text_below f.0) fs) → so x ≡ true → x ≡ f → IsFirst so (x ∷ fs) f
head_first so x f fs above is e = record {
  among = subst (λ z. Contains (x ∷ fs) z) e (here x fs);
  is = ap so (sym e) ∙ is;
  first = λ g i yes less. elim (in_cons x fs g i) [
    | inl same ↦ not_before_self (text_below f.0) (subst (λ (z : File). slice_cmp nat_cmp (text_below z.0) (text_below f.0) ≡ Less) (sym same ∙ e) less)
    | inr j ↦ not_both_before (text_below x.0) (text_below g.0) (all_in (λ y. slice_cmp nat_cmp (text_below x.0) y ≡ Less) fs g above j) (subst (λ (z : File). slice_cmp nat_cmp (text_below g.0) (text_below z.0) ≡ Less) (sym e) less)
  ];
}

tail_first : (so : File → Bool) (x f : File) (fs : List File) → so x ≡ false → IsFirst so fs f → IsFirst so (x ∷ fs) f
tail_first so x f fs isnt r = record {
  among = there x fs f r.among;
  is = r.is;
  first = λ g i yes less. elim (in_cons x fs g i) [
    | inl same ↦ let no_ : so g ≡ false = ap so (sym same) ∙ isnt in cc (yes, no_)
    | inr j ↦ r.first g j yes less
  ];
}

pub find_first : (so : File → Bool) (fs : List File) (f : File) → IsRising fs → find so fs ≡ Some f → IsFirst so fs f
unfolding IsStrictlySortedBy
find_first so [] f rising h = cc h
find_first so (x ∷ fs) f rising h = elim (either (so x) x f (find so fs) h) [
  | inl a ↦ head_first so x f fs rising.0 a.0 a.1
  | inr b ↦ tail_first so x f fs b.0 (find_first so fs f rising.1 b.1)
]

-- a file of the tree is in the list
pub listed_file : (t : Tree) (at : Path) (fs : List File) → IsFilesOf t at fs → (q : Path) (n : ℕ) → IsFileOf n (entry_below t at q) → Contains fs (q, n)
listed_file t at fs of q n h = subst (λ k. Contains fs (q, k)) (sym h.2) (of.all q h.0 h.1)

pub first_in_tree : (so : File → Bool) (t : Tree) (at : Path) (fs : List File) (f : File) → IsFilesOf t at fs → IsFirst so fs f → IsFirstFile so t at f
first_in_tree so t at fs f of r = record {
  stands = of.stands f.0 f.1 r.among;
  is = r.is;
  first = λ q n h yes. r.first (q, n) (listed_file t at fs of q n h) yes;
}

pub none_in_tree : (so : File → Bool) (t : Tree) (at : Path) (fs : List File) → IsFilesOf t at fs → find so fs ≡ None → HasNone so t at
none_in_tree so t at fs of h q n is = find_none so fs h (q, n) (listed_file t at fs of q n is)
