-- Names that rise, and what a search among them finds.
use Rattle.std.proofs.Common.{◌≡◌, ◌<◌, ◌≤◌, ◌+◌, ℕ, zero, suc, Bool, true, false, List, [], ◌∷◌, length, get_or, Some, None, nat_cmp, Ordering, refl, sym, ap, ◌∙◌, subst, arith}
use Rattle.std.specs.Prelude.{Ok, Err, nat_lt, if◌then◌else◌}
use Rattle.std.specs.Str.{bytes_eq}
use Rattle.std.specs.declared.cmp.Ordering.TheVariants.{Less, Greater}
use Rattle.std.specs.Ordering.{is_lt}
use Rattle.std.specs.Cmp.Lexicographic.{slice_cmp}
use Rattle.std.specs.List.Sorted.{IsSortedBy, IsBinarySearchResult}
use Rattle.std.proofs.lemmas.Bool.{ltb-true, ltb-false}
use Rattle.std.proofs.lemmas.Cmp.{nat_list_cmp_total, tied_itself}
use Rattle.std.proofs.lemmas.List.Sorted.{searchable_from_sorted}
use Rattle.std.proofs.lemmas.Map.Lookups.{exact_bytes}
use Rattle.std.proofs.lemmas.Slice.Eq.{bytes_eq-Decides}
use Rattle.pn_text.proofs.Bools.{and_left, and_right}
use Rattle.pn_text.proofs.Orders.{is_less, not_before_self, not_both_before}
use Rattle.pn_graph.specs.Graphs.{Dep, aliases, rises}
use Rattle.pn_graph.specs.Lookups.{dep_at}

abbrev cmp : List ℕ → List ℕ → Ordering
cmp = slice_cmp nat_cmp

not_back : (x y : List ℕ) → cmp x y ≡ Less → is_lt (cmp y x) ≡ false
not_back x y h = elim (is_lt (cmp y x)) as (λ b. is_lt (cmp y x) ≡ b → b ≡ false) [
  | true ↦ λ e. absurd (not_both_before x y h (is_less (cmp y x) e))
  | false ↦ λ e. refl
] refl

first_less : (d e : Dep) (ds : List Dep) → rises (aliases (d ∷ e ∷ ds)) ≡ true → cmp d.alias e.alias ≡ Less
first_less d e ds h = is_less (cmp d.alias e.alias) (and_left (is_lt (cmp d.alias e.alias)) (rises (aliases (e ∷ ds))) h)

rest_rises : (d : Dep) (ds : List Dep) → rises (aliases (d ∷ ds)) ≡ true → rises (aliases ds) ≡ true
rest_rises d [] h = refl
rest_rises d (e ∷ ds) h = and_right (is_lt (cmp d.alias e.alias)) (rises (aliases (e ∷ ds))) h

read_on : (d : Dep) (ds : List Dep) (k : ℕ) (o : Dep) → get_or (d ∷ ds) (suc k + 1) o ≡ get_or ds (k + 1) o
read_on d ds k o = let e : suc k + 1 ≡ suc (k + 1) = omega arith in ap (λ n. get_or (d ∷ ds) n o) e

sorted : (deps : List Dep) → rises (aliases deps) ≡ true → IsSortedBy (λ (a b : Dep). is_lt (cmp a.alias b.alias)) deps
sorted [] h k o low within = absurd (omega arith)
sorted (d ∷ []) h k o low within = absurd (omega arith)
sorted (d ∷ e ∷ ds) h zero o low within = not_back d.alias e.alias (first_less d e ds h)
sorted (d ∷ e ∷ ds) h (suc k) o low within =
    subst (λ (z : Dep). is_lt (cmp z.alias (get_or (e ∷ ds) k o).alias) ≡ false) (sym (read_on d (e ∷ ds) k o)) (sorted (e ∷ ds) (rest_rises d (e ∷ ds) h) k o (omega arith) (omega arith))

head_less : (d : Dep) (ds : List Dep) (k : ℕ) (o : Dep) → rises (aliases (d ∷ ds)) ≡ true → k < length ds → cmp d.alias (get_or ds k o).alias ≡ Less
head_less d [] k o h within = absurd (omega arith)
head_less d (e ∷ ds) zero o h within = first_less d e ds h
head_less d (e ∷ ds) (suc k) o h within =
    nat_list_cmp_total.trans d.alias e.alias (get_or ds k o).alias (first_less d e ds h) (head_less e ds k o (rest_rises d (e ∷ ds) h) (omega arith))

not_same : (x y : List ℕ) → (x ≡ y → ⊥) → bytes_eq x y ≡ false
not_same x y h = elim (bytes_eq x y) as (λ b. bytes_eq x y ≡ b → b ≡ false) [
  | true ↦ λ e. absurd (h ((bytes_eq-Decides x y).0 e))
  | false ↦ λ e. refl
] refl

pub dep_there : (x : List ℕ) (deps : List Dep) (k : ℕ) (o : Dep) → rises (aliases deps) ≡ true → k < length deps → (get_or deps k o).alias ≡ x → dep_at x deps ≡ Some ((get_or deps k o).to)
dep_there x [] k o h within is = absurd (omega arith)
dep_there x (d ∷ ds) zero o h within is = subst (λ (b : Bool). (if b then Some d.to else dep_at x ds) ≡ Some d.to) (sym ((bytes_eq-Decides d.alias x).1 is)) refl
dep_there x (d ∷ ds) (suc k) o h within is =
    let low : k < length ds = omega arith in
    let less : cmp d.alias x ≡ Less = subst (λ (y : List ℕ). cmp d.alias y ≡ Less) is (head_less d ds k o h low) in
    let other : bytes_eq d.alias x ≡ false = not_same d.alias x (λ e. not_before_self x (subst (λ (y : List ℕ). cmp y x ≡ Less) e less)) in
    subst (λ (b : Bool). (if b then Some d.to else dep_at x ds) ≡ Some ((get_or ds k o).to)) (sym other) (dep_there x ds k o (rest_rises d ds h) low is)

pub dep_absent : (x : List ℕ) (deps : List Dep) → ((k : ℕ) (o : Dep) → k < length deps → (get_or deps k o).alias ≡ x → ⊥) → dep_at x deps ≡ None
dep_absent x [] none = refl
dep_absent x (d ∷ ds) none =
    subst (λ (b : Bool). (if b then Some d.to else dep_at x ds) ≡ None) (sym (not_same d.alias x (none 0 d (omega arith))))
    (dep_absent x ds (λ k o within. none (suc k) o (omega arith)))

not_after_itself : (x : List ℕ) → cmp x x ≡ Greater → ⊥
not_after_itself x h = let same = tied_itself nat_list_cmp_total x in cc (same, h)

pub none_at : (x : List ℕ) (deps : List Dep) (at : ℕ) → rises (aliases deps) ≡ true → IsBinarySearchResult (λ (d : Dep). cmp d.alias x) deps (Err at) → (k : ℕ) (o : Dep) → k < length deps → (get_or deps k o).alias ≡ x → ⊥
none_at x deps at h parted k o within is =
    let parts = parted (searchable_from_sorted nat_list_cmp_total (λ (d : Dep). d.alias) deps x (sorted deps h)) in
    elim (nat_lt k at) as (λ b. nat_lt k at ≡ b → ⊥) [
      | true ↦ λ e. not_before_self x (subst (λ (z : List ℕ). cmp z x ≡ Less) is (parts.0 k o (omega arith) (ltb-true k at e)))
      | false ↦ λ e. not_after_itself x (subst (λ (z : List ℕ). cmp z x ≡ Greater) is (parts.1 k o (ltb-false k at e) within))
    ] refl

pub found_at : (x : List ℕ) (deps : List Dep) (at : ℕ) (o : Dep) → rises (aliases deps) ≡ true → at < length deps → IsBinarySearchResult (λ (d : Dep). cmp d.alias x) deps (Ok at) → dep_at x deps ≡ Some ((get_or deps at o).to)
found_at x deps at o h within equal = dep_there x deps at o h within (exact_bytes (get_or deps at o).alias x (equal o))
