-- Paths within managed folders, and in byte order.
use Rattle.std.proofs.Common.{◌≡◌, ◌<◌, ◌≤◌, ℕ, List, [], ◌∷◌, ◌++◌, Bool, true, false, length, refl, sym, ap, ◌∙◌, subst, arith, inl, inr, Some, append_assoc, length-append}
use Rattle.std.specs.Prelude.{◌⊎◌, ◌||◌, IsTrue}
use Rattle.std.specs.Cmp.Lexicographic.{slice_cmp}
use Rattle.std.specs.List.{Contains, list_any}
use Rattle.std.specs.Ordering.{nat_cmp, ordering_then}
use Rattle.std.specs.declared.cmp.Ordering.TheVariants.{Less}
use Rattle.std.proofs.lemmas.Cmp.{nat_cmp_total, tied_itself}
use Rattle.std.proofs.lemmas.List.Elements.{Contains-append_left, Contains-append_right, Contains-append_cases}
use Rattle.pn_fs.specs.Tree.{Entry, folder, Tree, IsTree}
use Rattle.pn_text.specs.Path.{Path, is_part, is_path, path_text, same_path, text_below}
use Rattle.pn_text.proofs.Bools.{and_right, or_cases, or_right, true_false}
use Rattle.pn_text.proofs.Members.{none_in, in_one, in_cons, here, there}
use Rattle.pn_text.proofs.Paths.{same_path-Decides, same_path_refl}
use Rattle.pn_scan.specs.Managed.{Managed, is_below, is_within, is_managed, is_above, AreApart}

pub same_is : (p q : Path) → same_path p q ≡ true → p ≡ q
same_is p q h = (same_path-Decides p q).0 h

-- at the folder itself, or below it
pub within_cases : (a p : Path) → is_within a p ≡ true → (p ≡ a) ⊎ (is_below a p ≡ true)
within_cases a p h = elim (or_cases (same_path p a) (is_below a p) h) [ inl e ↦ inl (same_is p a e) | inr b ↦ inr b ]

pub within_itself : (a : Path) → is_within a a ≡ true
within_itself a = rw (same_path_refl a) refl

pub below_within : (a p : Path) → is_below a p ≡ true → is_within a p ≡ true
below_within a p h = or_right (same_path p a) (is_below a p) h

pub within_trans : (a b c : Path) → is_within a b ≡ true → is_within b c ≡ true → is_within a c ≡ true
within_trans a b [] h k = elim (within_cases b [] k) [ inl e ↦ subst (λ z. is_within a z ≡ true) (sym e) h | inr n ↦ cc n ]
within_trans a b (x ∷ c) h k = elim (within_cases b (x ∷ c) k) [
  | inl e ↦ subst (λ z. is_within a z ≡ true) (sym e) h
  | inr n ↦ below_within a (x ∷ c) (within_trans a b c h n)
]

-- what is strictly below a folder that is at or below another one is strictly below that
pub within_below : (a b c : Path) → is_within a b ≡ true → is_below b c ≡ true → is_below a c ≡ true
within_below a b [] h k = cc k
within_below a b (x ∷ c) h k = within_trans a b c h k

pub below_longer : (a p : Path) → is_below a p ≡ true → length a < length p
below_longer a [] h = cc h
below_longer a (x ∷ p) h = elim (within_cases a p h) [
  | inl e ↦ omega (arith, ap length e)
  | inr b ↦ omega (arith, below_longer a p b)
]

pub below_other : (a p : Path) → is_below a p ≡ true → p ≡ a → ⊥
below_other a p h e = absurd (omega (arith, below_longer a p h, ap length e))

-- what leads from a folder to what is at or below it
pub below_tail : (a p : Path) → is_within a p ≡ true → (s : Path) × (p ≡ s ++ a)
below_tail a [] h = elim (within_cases a [] h) [ inl e ↦ ([], e) | inr b ↦ cc b ]
below_tail a (x ∷ p) h = elim (within_cases a (x ∷ p) h) [
  | inl e ↦ ([], e)
  | inr b ↦ let r = below_tail a p b in (x ∷ r.0, ap (λ z. x ∷ z) r.1)
]

-- a folder stands above each entry
pub folder_above : (t : Tree) → IsTree t → (a q : Path) (e : Entry) → is_below a q ≡ true → t q ≡ Some e → t a ≡ Some folder
folder_above t tree a [] e h is = cc h
folder_above t tree a (x ∷ p) e h is =
    let parent = tree.parents x p e is in
    elim (within_cases a p h) [ inl same ↦ ap t (sym same) ∙ parent | inr b ↦ folder_above t tree a p folder b parent ]

-- a test that some element passes
pub any_in : {X : Type 0} (f : X → Bool) (xs : List X) → list_any f xs ≡ true → (x : X) × Contains xs x × (f x ≡ true)
any_in f [] h = cc h
any_in f (x ∷ xs) h = elim (or_cases (f x) (list_any f xs) h) [
  | inl e ↦ (x, here x xs, e)
  | inr i ↦ let r = any_in f xs i in (r.0, there x xs r.0 r.1, r.2)
]

pub any_of : {X : Type 0} (f : X → Bool) (xs : List X) (x : X) → Contains xs x → f x ≡ true → list_any f xs ≡ true
any_of f [] x c h = absurd (none_in x c)
any_of f (y ∷ ys) x c h = elim (in_cons y ys x c) [
  | inl e ↦ rw (ap f e, h) refl
  | inr i ↦ or_right (f y) (list_any f ys) (any_of f ys x i h)
]

-- the folder that a managed path is at or below
pub managed_in : (managed : List Managed) (q : Path) → is_managed managed q ≡ true → (m : Managed) × Contains managed m × (is_within m.0 q ≡ true)
managed_in managed q h = any_in (λ (m : Managed). is_within m.0 q) managed h

pub managed_of : (managed : List Managed) (q : Path) (m : Managed) → Contains managed m → is_within m.0 q ≡ true → is_managed managed q ≡ true
managed_of managed q m c h = any_of (λ (m : Managed). is_within m.0 q) managed m c h

pub above_in : (managed : List Managed) (q : Path) → is_above managed q ≡ true → (m : Managed) × Contains managed m × (is_below q m.0 ≡ true)
above_in managed q h = any_in (λ (m : Managed). is_below q m.0) managed h

pub above_of : (managed : List Managed) (q : Path) (m : Managed) → Contains managed m → is_below q m.0 ≡ true → is_above managed q ≡ true
above_of managed q m c h = any_of (λ (m : Managed). is_below q m.0) managed m c h

-- what is at or below a managed path is managed
pub managed_below : (managed : List Managed) (p q : Path) → is_managed managed p ≡ true → is_within p q ≡ true → is_managed managed q ≡ true
managed_below managed p q h k = let r = managed_in managed p h in managed_of managed q r.0 r.1 (within_trans r.0.0 p q r.2 k)

-- what is above a path that is above a managed folder is, too
pub above_above : (managed : List Managed) (p q : Path) → is_above managed q ≡ true → is_within p q ≡ true → is_above managed p ≡ true
above_above managed p q h k = let r = above_in managed q h in above_of managed p r.0 r.1 (within_below p q r.0.0 k r.2)

-- a list about one of its elements
pub record Around {X : Type 0} (xs : List X) (x : X) : Type 0 where
  pub before : List X
  pub after : List X
  pub is : xs ≡ before ++ x ∷ after

pub around : {X : Type 0} (xs : List X) (x : X) → Contains xs x → Around xs x
around [] x c = absurd (none_in x c)
around (y ∷ ys) x c = elim (in_cons y ys x c) [
  | inl e ↦ record { before = []; after = ys; is = ap (λ z. z ∷ ys) e }
  | inr i ↦ let a = around ys x i in record { before = y ∷ a.before; after = a.after; is = ap (λ l. y ∷ l) a.is }
]

-- of folders that are apart only one is at or above this one
pub apart_one : (managed : List Managed) → AreApart managed → (m n : Managed) → Contains managed m → Contains managed n → is_within n.0 m.0 ≡ true → n ≡ m
apart_one managed apart m n c d h =
    let a = around managed m c in
    elim (Contains-append_cases a.before (m ∷ a.after) n (subst (λ l. Contains l n) a.is d)) [
      | inl i ↦ absurd (true_false (is_within n.0 m.0) h (apart a.before m a.after a.is n (Contains-append_left a.before a.after n i)))
      | inr j ↦ elim (in_cons m a.after n j) [
        | inl e ↦ sym e
        | inr i ↦ absurd (true_false (is_within n.0 m.0) h (apart a.before m a.after a.is n (Contains-append_right a.before a.after n i)))
      ]
    ]

false_from : (b : Bool) → (b ≡ true → ⊥) → b ≡ false
false_from true h = absurd (h refl)
false_from false h = refl

-- no folder above a managed one is managed
pub above_not_managed : (managed : List Managed) → AreApart managed → (q : Path) → is_above managed q ≡ true → is_managed managed q ≡ false
above_not_managed managed apart q h = false_from (is_managed managed q) (λ is.
    let over = above_in managed q h in
    let under = managed_in managed q is in
    let m = over.0 in
    let n = under.0 in
    let below = within_below n.0 q m.0 under.2 over.2 in
    let one = apart_one managed apart m n over.1 under.1 (below_within n.0 m.0 below) in
    below_other n.0 m.0 below (ap (λ (z : Managed). z.0) (sym one)))

-- nothing strictly below a managed folder is one
pub below_no_folder : (managed : List Managed) → AreApart managed → (m n : Managed) → Contains managed m → Contains managed n → is_below n.0 m.0 ≡ true → ⊥
below_no_folder managed apart m n c d h = let one = apart_one managed apart m n c d (below_within n.0 m.0 h) in below_other n.0 m.0 h (ap (λ (z : Managed). z.0) (sym one))

front_less : (xs ys : List ℕ) (y : ℕ) → slice_cmp nat_cmp xs (xs ++ y ∷ ys) ≡ Less
front_less [] ys y = refl
front_less (x ∷ xs) ys y = subst (λ o. ordering_then o (slice_cmp nat_cmp xs (xs ++ y ∷ ys)) ≡ Less) (sym (tied_itself nat_cmp_total x)) (front_less xs ys y)

text_goes_on : (x : List ℕ) (s a : Path) → (rest : List ℕ) × (text_below (x ∷ s ++ a) ≡ text_below a ++ 47 ∷ rest)
text_goes_on x [] a = (x, refl)
text_goes_on x (y ∷ s) a = let r = text_goes_on y s a in (r.0 ++ 47 ∷ x, ap (λ t. t ++ 47 ∷ x) r.1 ∙ append_assoc (text_below a) (47 ∷ r.0) (47 ∷ x))

below_root : (x : List ℕ) (s : Path) → IsTrue (is_path (x ∷ s)) → (y : ℕ) × (rest : List ℕ) × (text_below (x ∷ s) ≡ 47 ∷ y ∷ rest)
below_root [] s h = cc h
below_root (b ∷ x) [] h = (b, x, refl)
below_root (b ∷ x) (y ∷ s) h = let r = below_root y s (and_right (is_part (b ∷ x)) (is_path (y ∷ s)) h) in (r.0, r.1 ++ 47 ∷ b ∷ x, ap (λ t. t ++ 47 ∷ b ∷ x) r.2)

-- a folder comes before its entries in byte order
pub folder_first : (a p : Path) → IsTrue (is_path p) → is_below a p ≡ true → slice_cmp nat_cmp (path_text a) (path_text p) ≡ Less
folder_first a [] good h = cc h
folder_first [] (x ∷ p) good h = let r = below_root x p good in subst (λ t. slice_cmp nat_cmp (47 ∷ []) t ≡ Less) (sym r.2) refl
folder_first (y ∷ a) (x ∷ p) good h =
    let s = below_tail (y ∷ a) p h in
    let r = text_goes_on x s.0 (y ∷ a) in
    subst (λ t. slice_cmp nat_cmp (text_below (y ∷ a)) t ≡ Less) (sym (ap (λ z. text_below (x ∷ z)) s.1 ∙ r.1)) (front_less (text_below (y ∷ a)) r.0 47)

first_same : (m n : Managed) (ms ns : List Managed) → m ∷ ms ≡ n ∷ ns → m ≡ n
first_same m n ms ns e = cc

rest_same : (m n : Managed) (ms ns : List Managed) → m ∷ ms ≡ n ∷ ns → ms ≡ ns
rest_same m n ms ns e = cc

-- two folders are apart where neither is at or below the other one
pub two_apart : (m n : Managed) → is_within m.0 n.0 ≡ false → is_within n.0 m.0 ≡ false → AreApart (m ∷ n ∷ [])
two_apart m n h k [] first after e o c =
    let other : n ≡ o = in_one n o (subst (λ ms. Contains ms o) (sym (rest_same m first (n ∷ []) after e)) c) in
    subst (λ (z : Managed). is_within o.0 z.0 ≡ false) (first_same m first (n ∷ []) after e) (subst (λ (z : Managed). is_within z.0 m.0 ≡ false) other k)
two_apart m n h k (b ∷ []) second after e o c =
    let rest : n ∷ [] ≡ second ∷ after = rest_same m b (n ∷ []) (second ∷ after) e in
    let left : m ∷ [] ≡ b ∷ after = ap (λ z. z ∷ []) (first_same m b (n ∷ []) (second ∷ after) e) ∙ ap (λ ms. b ∷ ms) (rest_same n second [] after rest) in
    let other : m ≡ o = in_one m o (subst (λ ms. Contains ms o) (sym left) c) in
    subst (λ (z : Managed). is_within o.0 z.0 ≡ false) (first_same n second [] after rest) (subst (λ (z : Managed). is_within z.0 n.0 ≡ false) other h)
two_apart m n h k (b ∷ d ∷ before) second after e o c = absurd (omega (arith, ap length e, length-append before (second ∷ after)))
