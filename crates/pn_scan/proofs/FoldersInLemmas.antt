-- The entries of a folder that was listed.
use Rattle.std.proofs.Common.{◌≡◌, ℕ, List, [], ◌∷◌, ◌++◌, length, map, refl, sym, ap, ◌∙◌, subst, inl, inr, Some, None, Less, nat_cmp}
use Rattle.std.specs.Prelude.{suc, Option}
use Rattle.std.specs.Cmp.Lexicographic.{slice_cmp}
use Rattle.std.specs.List.{Contains, AllByRecursion}
use Rattle.std.specs.List.Sorted.{IsStrictlySortedBy}
use Rattle.std.proofs.lemmas.Cmp.{nat_list_cmp_total, tied_itself}
use Rattle.std.proofs.lemmas.List.Elements.{Contains-append_left, Contains-append_right, Contains-append_cases}
use Rattle.pn_fs.specs.Calls.{kind_of}
use Rattle.pn_fs.specs.Tree.{Entry, folder, file, link, Tree}
use Rattle.pn_text.specs.Path.{Path}
use Rattle.pn_text.proofs.Members.{none_in, in_one, in_cons, here, there}
use Rattle.pn_scan.specs.ScanFaults.{IsDistinct}
use Rattle.pn_scan.specs.Scans.{Found}
use Rattle.pn_scan.specs.Turns.{folder_at, found_at, folders_in, found_in, kinded}

-- their paths
abbrev pub children : Path → List (List ℕ) → List Path
children p [] = []
children p (x ∷ xs) = (x ∷ p) ∷ children p xs

pub length-children : (p : Path) (names : List (List ℕ)) → length (children p names) ≡ length names
length-children p [] = refl
length-children p (x ∷ xs) = ap suc (length-children p xs)

head_same : (x y : List ℕ) (p q : Path) → x ∷ p ≡ y ∷ q → x ≡ y
head_same x y p q e = cc

pub tail_same : (x y : List ℕ) (p q : Path) → x ∷ p ≡ y ∷ q → p ≡ q
tail_same x y p q e = cc

pub in_children : (p : Path) (names : List (List ℕ)) (q : Path) → Contains (children p names) q → (x : List ℕ) × (q ≡ x ∷ p) × Contains names x
in_children p [] q h = absurd (none_in q h)
in_children p (x ∷ xs) q h = elim (in_cons (x ∷ p) (children p xs) q h) [
  | inl e ↦ (x, sym e, here x xs)
  | inr i ↦ let r = in_children p xs q i in (r.0, r.1, there x xs r.0 r.2)
]

pub to_children : (p : Path) (names : List (List ℕ)) (x : List ℕ) → Contains names x → Contains (children p names) (x ∷ p)
to_children p [] x h = absurd (none_in x h)
to_children p (y ∷ ys) x h = elim (in_cons y ys x h) [
  | inl e ↦ subst (λ z. Contains (children p (y ∷ ys)) (z ∷ p)) e (here (y ∷ p) (children p ys))
  | inr i ↦ there (y ∷ p) (children p ys) (x ∷ p) (to_children p ys x i)
]

not_less : (x y : List ℕ) → slice_cmp nat_cmp x y ≡ Less → y ≡ x → ⊥
not_less x y less e = let same = tied_itself nat_list_cmp_total x in let back : slice_cmp nat_cmp x x ≡ Less = subst (λ z. slice_cmp nat_cmp x z ≡ Less) e less in cc (same, back)

-- a name that is below all the others isn't among them
absent : (x : List ℕ) (names : List (List ℕ)) → AllByRecursion (λ y. slice_cmp nat_cmp x y ≡ Less) names → Contains names x → ⊥
absent x [] a i = none_in x i
absent x (y ∷ ys) a i = elim (in_cons y ys x i) [ inl e ↦ not_less x y a.0 e | inr j ↦ absent x ys a.1 j ]

pub distinct_children : (p : Path) (names : List (List ℕ)) → IsStrictlySortedBy (slice_cmp nat_cmp) names → IsDistinct (children p names)
unfolding IsStrictlySortedBy
distinct_children p [] h = tt
distinct_children p (x ∷ xs) h = (
  λ i. let r = in_children p xs (x ∷ p) i in absent x xs h.0 (subst (λ z. Contains xs z) (sym (head_same x r.0 p p r.1)) r.2),
  distinct_children p xs h.1,
)

at_folder : (e : Option Entry) (r q : Path) → Contains (folder_at e r) q → (r ≡ q) × (e ≡ Some folder)
at_folder None r q h = absurd (none_in q h)
at_folder (Some folder) r q h = (in_one r q h, refl)
at_folder (Some (file bytes)) r q h = absurd (none_in q h)
at_folder (Some (link text)) r q h = absurd (none_in q h)

pub in_folders : (t : Tree) (p : Path) (names : List (List ℕ)) (q : Path) → Contains (folders_in t p names) q → (x : List ℕ) × (q ≡ x ∷ p) × Contains names x × (t q ≡ Some folder)
in_folders t p [] q h = absurd (none_in q h)
in_folders t p (x ∷ xs) q h = elim (Contains-append_cases (folder_at (t (x ∷ p)) (x ∷ p)) (folders_in t p xs) q h) [
  | inl a ↦ let b = at_folder (t (x ∷ p)) (x ∷ p) q a in (x, sym b.0, here x xs, ap t (sym b.0) ∙ b.1)
  | inr i ↦ let r = in_folders t p xs q i in (r.0, r.1, there x xs r.0 r.2, r.3)
]

folder_here : (e : Option Entry) (r : Path) → e ≡ Some folder → Contains (folder_at e r) r
folder_here e r is = subst (λ o. Contains (folder_at o r) r) (sym is) (here r [])

pub to_folders : (t : Tree) (p : Path) (names : List (List ℕ)) (x : List ℕ) → Contains names x → t (x ∷ p) ≡ Some folder → Contains (folders_in t p names) (x ∷ p)
to_folders t p [] x h is = absurd (none_in x h)
to_folders t p (y ∷ ys) x h is = elim (in_cons y ys x h) [
  | inl e ↦ subst (λ z. Contains (folders_in t p (y ∷ ys)) (z ∷ p)) e
      (Contains-append_left (folder_at (t (y ∷ p)) (y ∷ p)) (folders_in t p ys) (y ∷ p) (folder_here (t (y ∷ p)) (y ∷ p) (ap (λ z. t (z ∷ p)) e ∙ is)))
  | inr i ↦ Contains-append_right (folder_at (t (y ∷ p)) (y ∷ p)) (folders_in t p ys) (x ∷ p) (to_folders t p ys x i is)
]

distinct_at : (e : Option Entry) (r : Path) (more : List Path) → (Contains more r → ⊥) → IsDistinct more → IsDistinct (folder_at e r ++ more)
distinct_at None r more a d = d
distinct_at (Some folder) r more a d = (a, d)
distinct_at (Some (file bytes)) r more a d = d
distinct_at (Some (link text)) r more a d = d

pub distinct_folders : (t : Tree) (p : Path) (names : List (List ℕ)) → IsStrictlySortedBy (slice_cmp nat_cmp) names → IsDistinct (folders_in t p names)
unfolding IsStrictlySortedBy
distinct_folders t p [] h = tt
distinct_folders t p (x ∷ xs) h =
    distinct_at (t (x ∷ p)) (x ∷ p) (folders_in t p xs)
    (λ i. let r = in_folders t p xs (x ∷ p) i in absent x xs h.0 (subst (λ z. Contains xs z) (sym (head_same x r.0 p p r.1)) r.2))
    (distinct_folders t p xs h.1)

found_here : (e : Option Entry) (x : Entry) (r : Path) → e ≡ Some x → found_at e r ≡ (r, kind_of e) ∷ []
found_here e x r is = subst (λ o. found_at o r ≡ (r, kind_of o) ∷ []) (sym is) refl

-- where all of them stand, each is found
pub found_all : (t : Tree) (p : Path) (names : List (List ℕ)) → ((x : List ℕ) → Contains names x → (e : Entry) × (t (x ∷ p) ≡ Some e)) → found_in t p names ≡ map (kinded t) (children p names)
found_all t p [] stands = refl
found_all t p (x ∷ xs) stands =
    let e = stands x (here x xs) in
    ap (λ l. l ++ found_in t p xs) (found_here (t (x ∷ p)) e.0 (x ∷ p) e.1) ∙ ap (λ l. kinded t (x ∷ p) ∷ l) (found_all t p xs (λ y c. stands y (there x xs y c)))
