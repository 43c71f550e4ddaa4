-- Readers of data: what an entry says, or the keys that lead to the first entry of another form.
use Rattle.std.specs.Prelude.{ℕ, List, [], ◌∷◌, ◌++◌, Bool, true, false, Option, Some, None, Result, Ok, Err, if◌then◌else◌, bytes_eq, codes}
use Rattle.std.specs.Ordering.{is_lt, nat_cmp}
use Rattle.std.specs.Cmp.Lexicographic.{slice_cmp}
use Rattle.pn_lock_shape.specs.declared.fault.ShapeFault.{ShapeFault}
use Rattle.pn_lock_shape.specs.declared.fault.ShapeFault.TheVariants as shape
use Rattle.pn_yaml.specs.Data.{Data, scalar, list, map, Items, Members, no_members, member}

abbrev pub Outcome : Type 0 → Type 0
Outcome A = Result A ShapeFault

infixl 10 ◌>>=◌
abbrev pub ◌>>=◌ : {A B : Type 0} → Outcome A → (A → Outcome B) → Outcome B
(Ok x) >>= f = f x
(Err e) >>= f = Err e

-- this entry has another form
abbrev pub wrong : {A : Type 0} → Outcome A
wrong = Err (shape.At [])

-- a fault below a key
abbrev pub within : List ℕ → ShapeFault → ShapeFault
within key (shape.At keys) = shape.At (keys ++ key ∷ [])
within key shape.Memory = shape.Memory

abbrev pub at : {A : Type 0} → List ℕ → Outcome A → Outcome A
at key (Ok a) = Ok a
at key (Err e) = Err (within key e)

abbrev pub when : {A : Type 0} → Bool → A → Outcome A
when good a = if good then Ok a else wrong

-- a text, quoted or not
abbrev pub text_in : Data → Outcome (List ℕ)
text_in (scalar text plain) = Ok text
text_in (list ds) = wrong
text_in (map ms) = wrong

abbrev pub members_in : Data → Outcome Members
members_in (scalar text plain) = wrong
members_in (list ds) = wrong
members_in (map ms) = Ok ms

abbrev pub items_in : Data → Outcome Items
items_in (scalar text plain) = wrong
items_in (list ds) = Ok ds
items_in (map ms) = wrong

-- plain `true` or `false`
abbrev pub truth_of : List ℕ → Bool → Outcome Bool
truth_of text false = wrong
truth_of text true = if bytes_eq text (codes "true") then Ok true else if bytes_eq text (codes "false") then Ok false else wrong

abbrev pub truth_in : Data → Outcome Bool
truth_in (scalar text plain) = truth_of text plain
truth_in (list ds) = wrong
truth_in (map ms) = wrong

-- the value of a key
abbrev pub get : List ℕ → Members → Option Data
get key no_members = None
get key (member k d ms) = if bytes_eq k key then Some d else get key ms

abbrev pub required_in : {A : Type 0} → List ℕ → (Data → Outcome A) → Option Data → Outcome A
required_in key read None = Err (shape.At (key ∷ []))
required_in key read (Some d) = at key (read d)

abbrev pub required : {A : Type 0} → List ℕ → (Data → Outcome A) → Members → Outcome A
required key read ms = required_in key read (get key ms)

abbrev pub optional_in : {A : Type 0} → List ℕ → (Data → Outcome A) → A → Option Data → Outcome A
optional_in key read other None = Ok other
optional_in key read other (Some d) = at key (read d)

abbrev pub optional : {A : Type 0} → List ℕ → (Data → Outcome A) → A → Members → Outcome A
optional key read other ms = optional_in key read other (get key ms)

abbrev pub and_then : {A : Type 0} → A → Outcome (List A) → Outcome (List A)
and_then x (Ok xs) = Ok (x ∷ xs)
and_then x (Err e) = Err e

-- what the entries of a map say, in the order of the text
abbrev pub each : {A : Type 0} → (List ℕ → Data → Outcome A) → Members → Outcome (List A)
each read no_members = Ok []
each read (member k d ms) = at k (read k d) >>= λ x. and_then x (each read ms)

-- in byte order of keys
abbrev pub insert : {A : Type 0} → (A → List ℕ) → A → List A → List A
insert key x [] = x ∷ []
insert key x (y ∷ ys) = if is_lt (slice_cmp nat_cmp (key y) (key x)) then y ∷ insert key x ys else x ∷ y ∷ ys

abbrev pub in_order : {A : Type 0} → (A → List ℕ) → List A → List A
in_order key [] = []
in_order key (x ∷ xs) = insert key x (in_order key xs)

-- a map as the list of what its entries say, in byte order of keys
abbrev pub map_in : {A : Type 0} → (A → List ℕ) → (List ℕ → Data → Outcome A) → Data → Outcome (List A)
map_in key read d = members_in d >>= λ ms. each read ms >>= λ xs. Ok (in_order key xs)
