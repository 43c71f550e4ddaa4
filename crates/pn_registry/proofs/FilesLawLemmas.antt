-- A tree shows one cause to refuse the files of a package, or none.
use Rattle.std.proofs.Common.{◌≡◌, ◌≢◌, ℕ, List, [], ◌∷◌, ◌++◌, refl, sym, ap, ◌∙◌, subst, inl, inr, Bool, Less, Equal, Greater, nat_cmp, Some, arith}
use Rattle.std.specs.Cmp.Lexicographic.{slice_cmp}
use Rattle.std.specs.List.{Contains, All}
use Rattle.std.specs.List.Sorted.{IsStrictlySortedBy}
use Rattle.std.specs.Ordering.{ordering_reverse, is_eq}
use Rattle.std.proofs.lemmas.Cmp.{nat_list_cmp_total}
use Rattle.std.proofs.lemmas.List.Elements.{All-contains}
use Rattle.std.proofs.lemmas.Map.Text.{is_eq-slice_cmp}
use Rattle.std.proofs.lemmas.Slice.Eq.{bytes_eq-Decides}
use Rattle.pn_text.specs.Path.{Path, text_below}
use Rattle.pn_fs.specs.Tree.{Tree, IsTree}
use Rattle.pn_read.specs.Small.{IsFileOf}
use Rattle.pn_registry.specs.Below.{HasFew, HasMany}
use Rattle.pn_registry.specs.Files.{File, IsRising, IsFilesOf, IsClean, entry_below}
use Rattle.pn_registry.specs.FilesFaults.{IsFirstFile, is_modular, is_large, entry_limit}
use Rattle.pn_registry.specs.FilesLaws.{FilesCauseLaw, FilesPassedLaw, FilesSameLaw}
use Rattle.pn_registry.specs.declared.contents.FilesFault.TheVariants.{Modules, TooLarge, Entries, Fault, Memory}
use Rattle.pn_registry.proofs.Clean.{large}
use Rattle.pn_registry.proofs.Distinct.{no_longer}
use Rattle.pn_registry.proofs.Finds.{all_in, listed_file}
use Rattle.pn_text.proofs.Bools.{true_false}
use Rattle.pn_text.proofs.Orders.{not_before_self, not_both_before}
use Rattle.pn_text.proofs.Paths.{below_one}
use Rattle.pn_text.proofs.Members.{none_in, in_cons, here, there}
use Rattle.pn_registry.proofs.Orders.{good_below, same_length}

few_or_many : (t : Tree) (at : Path) (limit : ℕ) → HasFew t at limit → HasMany t at limit → ⊥
few_or_many t at limit few many =
    let among : (p : Path) → Contains many.paths p → Contains few.paths p = λ p c.
    let s = many.stand p c in
    let stands : t ((s.part ∷ s.tail) ++ at) ≡ Some s.entry = subst (λ (q : Path). t q ≡ Some s.entry) s.is s.stands in
    elim (few.all (s.part ∷ s.tail) s.entry stands) [
      | inl e ↦ absurd (cc e)
      | inr i ↦ subst (Contains few.paths) (sym s.is) i
    ] in
    omega (arith, no_longer many.paths few.paths many.distinct among, many.many, few.few)

-- texts of which neither comes first
one_text : (x y : List ℕ) → slice_cmp nat_cmp x y ≢ Less → slice_cmp nat_cmp y x ≢ Less → x ≡ y
one_text x y a b = elim (slice_cmp nat_cmp x y) as (λ o. slice_cmp nat_cmp x y ≡ o → x ≡ y) [
  | Less ↦ λ h. absurd (a h)
  | Equal ↦ λ h. (bytes_eq-Decides x y).0 (sym (is_eq-slice_cmp x y) ∙ ap is_eq h)
  | Greater ↦ λ h. absurd (b (nat_list_cmp_total.antisymm y x ∙ ap ordering_reverse h))
] refl

one_first : (so : File → Bool) (t : Tree) → IsTree t → (at : Path) (f g : File) → IsFirstFile so t at f → IsFirstFile so t at g → f ≡ g
one_first so t tree at f g a b =
    let text = one_text (text_below f.0) (text_below g.0) (b.first f.0 f.1 a.stands a.is) (a.first g.0 g.1 b.stands b.is) in
    let path : f.0 ≡ g.0 = below_one f.0 g.0 (good_below t tree at f.0 f.1 a.stands) (good_below t tree at g.0 g.1 b.stands) text in
    let size : f.1 ≡ g.1 = same_length (entry_below t at g.0) f.1 g.1 (subst (λ (q : Path). IsFileOf f.1 (entry_below t at q)) path a.stands) b.stands in
    λ i. (path i, size i)

pub cause : FilesCauseLaw
cause t tree at (Modules p) (Modules q) a b = ap (λ (f : File). Modules f.0) (one_first is_modular t tree at (p, a.length) (q, b.length) a.first b.first)
cause t tree at (Modules p) (TooLarge q n) a b = absurd (true_false (is_modular (p, a.length)) a.first.is (b.plain p a.length a.first.stands))
cause t tree at (Modules p) Entries a b = absurd (few_or_many t at entry_limit a.few b)
cause t tree at (TooLarge p m) (Modules q) a b = absurd (true_false (is_modular (q, b.length)) b.first.is (a.plain q b.length b.first.stands))
cause t tree at (TooLarge p m) (TooLarge q n) a b = ap (λ (f : File). TooLarge f.0 f.1) (one_first is_large t tree at (p, m) (q, n) a.first b.first)
cause t tree at (TooLarge p m) Entries a b = absurd (few_or_many t at entry_limit a.few b)
cause t tree at Entries (Modules q) a b = absurd (few_or_many t at entry_limit b.few a)
cause t tree at Entries (TooLarge q n) a b = absurd (few_or_many t at entry_limit b.few a)
cause t tree at Entries Entries a b = refl
cause t tree at Fault e a b = absurd a
cause t tree at Memory e a b = absurd a
cause t tree at e Fault a b = absurd b
cause t tree at e Memory a b = absurd b

-- the file for which the files are refused isn't clean
clean_at : (so : File → Bool) (t : Tree) (at : Path) (files : List File) (f : File) → IsFilesOf t at files → All IsClean files → IsFirstFile so t at f → IsClean f
clean_at so t at files f of clean first = All-contains IsClean files f clean (listed_file t at files of f.0 f.1 first.stands)

pub passed : FilesPassedLaw
passed t at files (Modules q) of few clean a =
    let f : File = (q, a.length) in
    true_false (is_modular f) a.first.is (clean_at is_modular t at files f of clean a.first).plain
passed t at files (TooLarge q n) of few clean a =
    let f : File = (q, n) in
    omega (arith, large n a.first.is, (clean_at is_large t at files f of clean a.first).short)
passed t at files Entries of few clean a = few_or_many t at entry_limit few a
passed t at files Fault of few clean a = a
passed t at files Memory of few clean a = a

-- the first file of a rising list comes before the others
before : (x : File) (xs : List File) (f : File) → IsRising (x ∷ xs) → Contains xs f → slice_cmp nat_cmp (text_below x.0) (text_below f.0) ≡ Less
unfolding IsStrictlySortedBy
before x xs f rising i = all_in (λ y. slice_cmp nat_cmp (text_below x.0) y ≡ Less) xs f rising.0 i

rest : (x : File) (xs : List File) → IsRising (x ∷ xs) → IsRising xs
unfolding IsStrictlySortedBy
rest x xs rising = rising.1

heads : (x y : File) (xs ys : List File) → IsRising (x ∷ xs) → IsRising (y ∷ ys) → Contains (y ∷ ys) x → Contains (x ∷ xs) y → x ≡ y
heads x y xs ys a b i j = elim (in_cons y ys x i) [
  | inl e ↦ sym e
  | inr later ↦ elim (in_cons x xs y j) [
    | inl e ↦ e
    | inr also ↦ absurd (not_both_before (text_below x.0) (text_below y.0) (before x xs y a also) (before y ys x b later))
  ]
]

-- what both lists have behind one head
tails : (x : File) (xs ys : List File) → IsRising (x ∷ xs) → ((f : File) → Contains (x ∷ xs) f → Contains (x ∷ ys) f) → (f : File) → Contains xs f → Contains ys f
tails x xs ys rising all f i = elim (in_cons x ys f (all f (there x xs f i))) [
  | inl e ↦ absurd (not_before_self (text_below x.0) (subst (λ (z : File). slice_cmp nat_cmp (text_below x.0) (text_below z.0) ≡ Less) (sym e) (before x xs f rising i)))
  | inr j ↦ j
]

one_list : (xs ys : List File) → IsRising xs → IsRising ys → ((f : File) → Contains xs f → Contains ys f) → ((f : File) → Contains ys f → Contains xs f) → xs ≡ ys
one_list [] [] a b to back = refl
one_list [] (y ∷ ys) a b to back = absurd (none_in y (back y (here y ys)))
one_list (x ∷ xs) [] a b to back = absurd (none_in x (to x (here x xs)))
one_list (x ∷ xs) (y ∷ ys) a b to back =
    let head : x ≡ y = heads x y xs ys a b (to x (here x xs)) (back y (here y ys)) in
    let ahead : IsRising (x ∷ ys) = subst (λ (z : File). IsRising (z ∷ ys)) (sym head) b in
    let more : (f : File) → Contains (x ∷ xs) f → Contains (x ∷ ys) f = subst (λ (z : File). (f : File) → Contains (x ∷ xs) f → Contains (z ∷ ys) f) (sym head) to in
    let less : (f : File) → Contains (x ∷ ys) f → Contains (x ∷ xs) f = subst (λ (z : File). (f : File) → Contains (z ∷ ys) f → Contains (x ∷ xs) f) (sym head) back in
    ap (λ (z : File). z ∷ xs) head ∙ ap (λ (l : List File). y ∷ l) (one_list xs ys (rest x xs a) (rest y ys b) (tails x xs ys a more) (tails x ys xs ahead less))

pub same : FilesSameLaw
same t at files others of also a b = one_list files others a b
    (λ f i. listed_file t at others also f.0 f.1 (of.stands f.0 f.1 i))
    (λ f i. listed_file t at files of f.0 f.1 (also.stands f.0 f.1 i))
