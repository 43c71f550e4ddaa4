-- Maps as they are printed and read back.
use Rattle.std.proofs.Common.{◌≡◌, ℕ, false, cond, List, [], ◌∷◌, map, option_map, refl, ap, ◌∙◌}
use Rattle.std.specs.Prelude.{Option, Some, None, Ok}
use Rattle.std.specs.List.{AllByRecursion}
use Rattle.std.specs.List.Sorted.{IsStrictlySortedBy}
use Rattle.std.specs.Cmp.Lexicographic.{slice_cmp}
use Rattle.std.specs.Ordering.{is_lt, nat_cmp, ordering_reverse}
use Rattle.std.specs.declared.cmp.Ordering.TheVariants.{Less}
use Rattle.std.specs.Str.{bytes_eq}
use Rattle.std.proofs.lemmas.Cmp.{nat_list_cmp_total}
use Rattle.pn_yaml.specs.Data.{Data, Members, member}
use Rattle.pn_yaml.specs.Data.{map as map_data}
use Rattle.pn_lock_shape.specs.Bare.{bare, bare_members}
use Rattle.pn_lock.specs.Kept.{Rises}
use Rattle.pn_lock.proofs.KeptLemmas.{itself}
use Rattle.pn_lock_print.specs.Members.{put, entries, filled}
use Rattle.pn_lock_shape.specs.Shapes.{Outcome, ◌>>=◌, at, get, each, and_then, insert, in_order, map_in, optional_in}

pub get_other : (k key : List ℕ) (o : Option Data) (ms : Members) → bytes_eq k key ≡ false → get key (put k o ms) ≡ get key ms
get_other k key None ms h = refl
get_other k key (Some d) ms h = ap (λ b. cond b (Some d) (get key ms)) h

pub get_own : (key : List ℕ) (o : Option Data) (ms : Members) → get key ms ≡ None → get key (put key o ms) ≡ o
get_own key None ms h = h
get_own key (Some d) ms h = ap (λ b. cond b (Some d) (get key ms)) (itself key)

pub bare_put : (k : List ℕ) (o : Option Data) (ms : Members) → bare_members (put k o ms) ≡ put k (option_map bare o) (bare_members ms)
bare_put k None ms = refl
bare_put k (Some d) ms = refl

pub bare_entries : {A : Type 0} (key : A → List ℕ) (write : A → Data) (xs : List A) → bare_members (entries key write xs) ≡ entries key (λ x. bare (write x)) xs
bare_entries key write [] = refl
bare_entries key write (x ∷ xs) = ap (member (key x) (bare (write x))) (bare_entries key write xs)

pub bare_filled : {A : Type 0} (key : A → List ℕ) (write : A → Data) (xs : List A) → option_map bare (filled key write xs) ≡ filled key (λ x. bare (write x)) xs
bare_filled key write [] = refl
bare_filled key write (x ∷ xs) = ap (λ ms. Some (map_data (member (key x) (bare (write x)) ms))) (bare_entries key write xs)

pub each_back : {A B : Type 0} (read : List ℕ → Data → Outcome B) (key : A → List ℕ) (write : A → Data) (made : A → B) (xs : List A)
    → AllByRecursion (λ x. read (key x) (write x) ≡ Ok (made x)) xs → each read (entries key write xs) ≡ Ok (map made xs)
each_back read key write made [] h = refl
each_back read key write made (x ∷ xs) h =
    ap (λ r. at (key x) r >>= λ y. and_then y (each read (entries key write xs))) h.0 ∙ ap (and_then (made x)) (each_back read key write made xs h.1)

-- what rises is in order
first_in : {A : Type 0} (key : A → List ℕ) (x : A) (xs : List A) → AllByRecursion (λ y. slice_cmp nat_cmp (key x) y ≡ Less) (map key xs) → insert key x xs ≡ x ∷ xs
first_in key x [] h = refl
first_in key x (y ∷ ys) h = ap (λ o. cond (is_lt o) (y ∷ insert key x ys) (x ∷ y ∷ ys)) (nat_list_cmp_total.antisymm (key y) (key x) ∙ ap ordering_reverse h.0)

pub in_order_same : {A : Type 0} (key : A → List ℕ) (xs : List A) → Rises (map key xs) → in_order key xs ≡ xs
unfolding IsStrictlySortedBy
in_order_same key [] h = refl
in_order_same key (x ∷ xs) h = ap (insert key x) (in_order_same key xs h.1) ∙ first_in key x xs h.0

pub map_back : {A B : Type 0} (read : List ℕ → Data → Outcome B) (key : A → List ℕ) (write : A → Data) (made : A → B) (own : B → List ℕ) (xs : List A)
    → AllByRecursion (λ x. read (key x) (write x) ≡ Ok (made x)) xs → Rises (map own (map made xs)) → map_in own read (map_data (entries key write xs)) ≡ Ok (map made xs)
map_back read key write made own xs h rises =
    ap (λ r. r >>= λ ys. Ok (in_order own ys)) (each_back read key write made xs h) ∙ ap Ok (in_order_same own (map made xs) rises)

pub optional_back : {A B : Type 0} (k : List ℕ) (read : Data → Outcome (List B)) (key : A → List ℕ) (write : A → Data) (made : A → B) (xs : List A)
    → read (map_data (entries key write xs)) ≡ Ok (map made xs) → optional_in k read [] (filled key write xs) ≡ Ok (map made xs)
optional_back k read key write made [] h = refl
optional_back k read key write made (x ∷ xs) h = ap (at k) h

pub map_map : {A B C : Type 0} (f : B → C) (g : A → B) (h : A → C) (xs : List A) → ((x : A) → f (g x) ≡ h x) → map f (map g xs) ≡ map h xs
map_map f g h [] e = refl
map_map f g h (x ∷ xs) e = ap (λ y. y ∷ map f (map g xs)) (e x) ∙ ap (λ ys. h x ∷ ys) (map_map f g h xs e)
