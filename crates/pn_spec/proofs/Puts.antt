-- Entries put into catalogs.
use Rattle.std.proofs.Common.{◌≡◌, ℕ, true, List, [], ◌∷◌, ◌++◌, ◌<◌, ◌≤◌, ◌+◌, length, take, drop, set, get_or, append_assoc, add-one, Some, refl, sym, ap, ◌∙◌, subst, inl, inr}
use Rattle.std.specs.Prelude.{◌&&◌, if◌then◌else◌}
use Rattle.std.specs.Cmp.{IsTotalOrder}
use Rattle.std.specs.Cmp.Lexicographic.{slice_cmp}
use Rattle.std.specs.List.{All, AllByRecursion}
use Rattle.std.specs.List.Sorted.{IsStrictlySortedBy}
use Rattle.std.specs.Ordering.{nat_cmp, ordering_reverse, ordering_then}
use Rattle.std.specs.Str.{bytes_eq}
use Rattle.std.specs.declared.cmp.Ordering.{Ordering}
use Rattle.std.specs.declared.cmp.Ordering.TheVariants.{Less, Equal, Greater}
use Rattle.std.proofs.lemmas.Bool.{and_parts, cases_Bool}
use Rattle.std.proofs.lemmas.Cmp.{nat_list_cmp_total, on_total, then_total, tied_itself}
use Rattle.std.proofs.lemmas.List.{drop_all, drop_more, set_split, take_more}
use Rattle.std.proofs.lemmas.List.Elements.{All-from_recursion, All-nil, recursion_from_All}
use Rattle.std.proofs.lemmas.Map.Lookups.{exact_bytes}
use Rattle.std.proofs.lemmas.Slice.Eq.{bytes_eq-Decides}
use Rattle.pn_spec.specs.declared.entry.CatalogEntry.{CatalogEntry}
use Rattle.pn_spec.specs.Entries.{AreCatalogs, IsRead, PutLaw, by_order, entry_cmp, is_at, put_in, spec_at}

total : IsTotalOrder entry_cmp
total = then_total (on_total (λ (e : CatalogEntry). e.catalog) nat_list_cmp_total) (on_total (λ (e : CatalogEntry). e.name) nat_list_cmp_total)

-- an entry below all others and above them
all-put : (P : CatalogEntry → Type 0) (e : CatalogEntry) (es : List CatalogEntry) → P e → AllByRecursion P es → AllByRecursion P (put_in e es)
all-put P e [] p h = (p, tt)
all-put P e (x ∷ xs) p h = go (all-put P e xs p h.1) (entry_cmp x e) where
  go : AllByRecursion P (put_in e xs) → (o : Ordering) → AllByRecursion P (by_order o (x ∷ put_in e xs) (e ∷ xs) (e ∷ x ∷ xs))
  go rest Less = (h.0, rest)
  go rest Equal = (p, h.1)
  go rest Greater = (p, h)

all-below : (x e : CatalogEntry) (es : List CatalogEntry) → entry_cmp e x ≡ Less → AllByRecursion (λ y. entry_cmp x y ≡ Less) es → AllByRecursion (λ y. entry_cmp e y ≡ Less) es
all-below x e [] l h = tt
all-below x e (y ∷ ys) l h = (total.trans e x y l h.0, all-below x e ys l h.1)

all-tied : (x e : CatalogEntry) (es : List CatalogEntry) → entry_cmp x e ≡ Equal → AllByRecursion (λ y. entry_cmp x y ≡ Less) es → AllByRecursion (λ y. entry_cmp e y ≡ Less) es
all-tied x e [] l h = tt
all-tied x e (y ∷ ys) l h = (sym (total.congr x e y l) ∙ h.0, all-tied x e ys l h.1)

pub put-rising : (e : CatalogEntry) (es : List CatalogEntry) → IsStrictlySortedBy entry_cmp es → IsStrictlySortedBy entry_cmp (put_in e es)
unfolding IsStrictlySortedBy
put-rising e [] h = (tt, tt)
put-rising e (x ∷ xs) h = go (put-rising e xs h.1) (entry_cmp x e) refl where
  go : IsStrictlySortedBy entry_cmp (put_in e xs) → (o : Ordering) → entry_cmp x e ≡ o → IsStrictlySortedBy entry_cmp (by_order o (x ∷ put_in e xs) (e ∷ xs) (e ∷ x ∷ xs))
  go rest Less is = (all-put (λ y. entry_cmp x y ≡ Less) e xs is h.0, rest)
  go rest Equal is = (all-tied x e xs is h.0, h.1)
  go rest Greater is = let less = total.antisymm e x ∙ ap ordering_reverse is in ((less, all-below x e xs less h.0), h)

-- what a catalog has under a name
then-equal : (o p : Ordering) → ordering_then o p ≡ Equal → (o ≡ Equal) × (p ≡ Equal)
then-equal Less p h = cc h
then-equal Equal p h = (refl, h)
then-equal Greater p h = cc h

tied-at : (x e : CatalogEntry) (c n : List ℕ) → entry_cmp x e ≡ Equal → is_at c n x ≡ is_at c n e
tied-at x e c n h =
    let both = then-equal (slice_cmp nat_cmp x.catalog e.catalog) (slice_cmp nat_cmp x.name e.name) h in
    ap (λ y. bytes_eq y c && bytes_eq x.name n) (exact_bytes x.catalog e.catalog both.0)
    ∙ ap (λ y. bytes_eq e.catalog c && bytes_eq y n) (exact_bytes x.name e.name both.1)

same-cmp : (xs ys zs : List ℕ) → bytes_eq xs zs ≡ true → bytes_eq ys zs ≡ true → slice_cmp nat_cmp xs ys ≡ Equal
same-cmp xs ys zs h k =
    subst (λ y. slice_cmp nat_cmp xs y ≡ Equal) ((bytes_eq-Decides xs zs).0 h ∙ sym ((bytes_eq-Decides ys zs).0 k)) (tied_itself nat_list_cmp_total xs)

one-place : (x e : CatalogEntry) (c n : List ℕ) → is_at c n x ≡ true → is_at c n e ≡ true → entry_cmp x e ≡ Equal
one-place x e c n h k =
    ap (λ o. ordering_then o (slice_cmp nat_cmp x.name e.name)) (same-cmp x.catalog e.catalog c (and_parts (bytes_eq x.catalog c) _ h).0 (and_parts (bytes_eq e.catalog c) _ k).0)
    ∙ same-cmp x.name e.name n (and_parts (bytes_eq x.catalog c) _ h).1 (and_parts (bytes_eq e.catalog c) _ k).1

pub put : PutLaw
put e [] c n = refl
put e (x ∷ xs) c n = go (put e xs c n) (entry_cmp x e) refl where
  go : spec_at c n (put_in e xs) ≡ (if is_at c n e then Some e.spec else spec_at c n xs) → (o : Ordering) → entry_cmp x e ≡ o → spec_at c n (by_order o (x ∷ put_in e xs) (e ∷ xs) (e ∷ x ∷ xs)) ≡ (if is_at c n e then Some e.spec else spec_at c n (x ∷ xs))
  go rest Less is = elim (cases_Bool (is_at c n x)) [
    | inl hit ↦ elim (cases_Bool (is_at c n e)) [
      | inl also ↦ absurd (let off : Less ≡ Equal = sym is ∙ one-place x e c n hit also in cc off)
      | inr miss ↦ rw (hit, miss) refl
    ]
    | inr miss ↦ rw miss rest
  ]
  go rest Equal is = elim (cases_Bool (is_at c n e)) [
    | inl hit ↦ rw hit refl
    | inr miss ↦ rw (miss, tied-at x e c n is ∙ miss) refl
  ]
  go rest Greater is = refl

-- what is read stays so
pub read-put : (P : CatalogEntry → Type 0) (e : CatalogEntry) (es : List CatalogEntry) → P e → All P es → All P (put_in e es)
read-put P e es p h = All-from_recursion P (put_in e es) (all-put P e es p (recursion_from_All P es h))

-- the entry at a place
at-drop : (es : List CatalogEntry) (i : ℕ) (x : CatalogEntry) → i < length es → x ≡ get_or es i x → drop i es ≡ x ∷ drop (i + 1) es
at-drop es i x l h = drop_more es i x l ∙ ap (λ y. y ∷ drop (i + 1) es) (sym h)

at-take : (es : List CatalogEntry) (i : ℕ) (x : CatalogEntry) → i < length es → x ≡ get_or es i x → take (i + 1) es ≡ take i es ++ x ∷ []
at-take es i x l h = take_more es i x l ∙ ap (λ y. take i es ++ y ∷ []) (sym h)

by-cmp : (e : CatalogEntry) (es : List CatalogEntry) (i : ℕ) (x : CatalogEntry) (o : Ordering) → i < length es → x ≡ get_or es i x → o ≡ entry_cmp x e → take i es ++ put_in e (drop i es)
    ≡ take i es ++ by_order o (x ∷ put_in e (drop (i + 1) es)) (e ∷ drop (i + 1) es) (e ∷ x ∷ drop (i + 1) es)
by-cmp e es i x o l h is =
    ap (λ y. take i es ++ put_in e y) (at-drop es i x l h) ∙ ap (λ o. take i es ++ by_order o (x ∷ put_in e (drop (i + 1) es)) (e ∷ drop (i + 1) es) (e ∷ x ∷ drop (i + 1) es)) (sym is)

pub put-less : (e : CatalogEntry) (es : List CatalogEntry) (i : ℕ) (x : CatalogEntry) → i < length es → x ≡ get_or es i x → Less ≡ entry_cmp x e
    → take i es ++ put_in e (drop i es) ≡ take (i + 1) es ++ put_in e (drop (i + 1) es)
put-less e es i x l h is =
    by-cmp e es i x Less l h is ∙ sym (ap (λ y. y ++ put_in e (drop (i + 1) es)) (at-take es i x l h) ∙ append_assoc (take i es) (x ∷ []) (put_in e (drop (i + 1) es)))

pub put-equal : (e : CatalogEntry) (es : List CatalogEntry) (i : ℕ) (x : CatalogEntry) → i < length es → x ≡ get_or es i x → Equal ≡ entry_cmp x e
    → take i es ++ put_in e (drop i es) ≡ take i es ++ e ∷ drop (i + 1) es
put-equal e es i x l h is = by-cmp e es i x Equal l h is

pub put-greater : (e : CatalogEntry) (es : List CatalogEntry) (i : ℕ) (x : CatalogEntry) → i < length es → x ≡ get_or es i x → Greater ≡ entry_cmp x e
    → take i es ++ put_in e (drop i es) ≡ take i es ++ e ∷ drop i es
put-greater e es i x l h is = by-cmp e es i x Greater l h is ∙ ap (λ y. take i es ++ e ∷ y) (sym (at-drop es i x l h))

pub put-end : (e : CatalogEntry) (es : List CatalogEntry) (i : ℕ) → length es ≤ i → take i es ++ put_in e (drop i es) ≡ take i es ++ e ∷ drop i es
put-end e es i l = ap (λ y. take i es ++ put_in e y) (drop_all i es l) ∙ sym (ap (λ y. take i es ++ e ∷ y) (drop_all i es l))

pub set-at : (es : List CatalogEntry) (i : ℕ) (e : CatalogEntry) → i < length es → set es i e ≡ take i es ++ e ∷ drop (i + 1) es
set-at es i e l = set_split es i e l ∙ ap (λ n. take i es ++ e ∷ drop n es) (sym (add-one i))

-- what catalogs keep
none-rising : IsStrictlySortedBy entry_cmp []
unfolding IsStrictlySortedBy
none-rising = tt

pub none-kept : (es : List CatalogEntry) → es ≡ [] → AreCatalogs es
none-kept es h = subst AreCatalogs (sym h) (record { rising = none-rising; read = All-nil IsRead })

pub put-kept : (e : CatalogEntry) (es new : List CatalogEntry) → new ≡ put_in e es → IsRead e → AreCatalogs es → AreCatalogs new
put-kept e es new h r k = subst AreCatalogs (sym h) (record { rising = put-rising e es k.rising; read = read-put IsRead e es r k.read })
