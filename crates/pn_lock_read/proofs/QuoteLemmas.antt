-- Printing keeps all but quotes.
use Rattle.std.proofs.Common.{◌≡◌, ℕ, Bool, true, false, List, refl, sym, ap, ◌∙◌, subst, inl, inr}
use Rattle.std.specs.Prelude.{◌&&◌, codes, bytes_eq}
use Rattle.std.proofs.lemmas.Bool.{cases_Bool, or_cases}
use Rattle.std.proofs.lemmas.Slice.Eq.{bytes_eq-Decides}
use Rattle.pn_yaml.specs.Data.{Data, scalar, list, map, Items, no_items, item, Members, no_members, member}
use Rattle.pn_yaml_print.specs.PrintedScalars.{is_plain}
use Rattle.pn_yaml_print.specs.Printing.{flow_marked, flow_items_marked, flow_members_marked, item_marked, items_marked, value_marked, members_marked, marked, is_flow_key}
use Rattle.pn_lock_shape.specs.Bare.{bare, bare_items, bare_members, is_truth}

none : (a b : Bool) → (a && false) ≡ (b && false)
none true true = refl
none true false = refl
none false true = refl
none false false = refl

true_flag : (flow p : Bool) → (is_plain flow (codes "true") p && is_truth (codes "true")) ≡ (p && is_truth (codes "true"))
true_flag true true = refl
true_flag true false = refl
true_flag false true = refl
true_flag false false = refl

false_flag : (flow p : Bool) → (is_plain flow (codes "false") p && is_truth (codes "false")) ≡ (p && is_truth (codes "false"))
false_flag true true = refl
false_flag true false = refl
false_flag false true = refl
false_flag false false = refl

abbrev Kept : Bool → Bool → List ℕ → Type 0
Kept flow p t = (is_plain flow t p && is_truth t) ≡ (p && is_truth t)

flag : (flow : Bool) (t : List ℕ) (p : Bool) → Kept flow p t
flag flow t p = elim (cases_Bool (is_truth t)) [
  | inl e ↦ elim (or_cases (bytes_eq t (codes "true")) (bytes_eq t (codes "false")) e) [
    | inl f ↦ subst (Kept flow p) (sym ((bytes_eq-Decides t (codes "true")).0 f)) (true_flag flow p)
    | inr f ↦ subst (Kept flow p) (sym ((bytes_eq-Decides t (codes "false")).0 f)) (false_flag flow p)
  ]
  | inr e ↦ ap (λ b. is_plain flow t p && b) e ∙ none (is_plain flow t p) p ∙ ap (λ b. p && b) (sym e)
]

scalar_same : (flow : Bool) (t : List ℕ) (p : Bool) → bare (scalar t (is_plain flow t p)) ≡ bare (scalar t p)
scalar_same flow t p = ap (scalar t) (flag flow t p)

mutual
  flow_same : (d : Data) → bare (flow_marked d) ≡ bare d
  flow_same (scalar t p) = scalar_same true t p
  flow_same (list ds) = ap list (flow_items_same ds)
  flow_same (map ms) = ap map (flow_members_same ms)

  flow_items_same : (ds : Items) → bare_items (flow_items_marked ds) ≡ bare_items ds
  flow_items_same no_items = refl
  flow_items_same (item d ds) = ap (λ x. item x (bare_items (flow_items_marked ds))) (flow_same d) ∙ ap (item (bare d)) (flow_items_same ds)

  flow_members_same : (ms : Members) → bare_members (flow_members_marked ms) ≡ bare_members ms
  flow_members_same no_members = refl
  flow_members_same (member k d ms) = ap (λ x. member k x (bare_members (flow_members_marked ms))) (flow_same d) ∙ ap (member k (bare d)) (flow_members_same ms)

item_same : (d : Data) → bare (item_marked d) ≡ bare d
item_same (scalar t p) = scalar_same false t p
item_same (list ds) = flow_same (list ds)
item_same (map ms) = flow_same (map ms)

items_same : (ds : Items) → bare_items (items_marked ds) ≡ bare_items ds
items_same no_items = refl
items_same (item d ds) = ap (λ x. item x (bare_items (items_marked ds))) (item_same d) ∙ ap (item (bare d)) (items_same ds)

mutual
  value_same : (flow : Bool) (d : Data) → bare (value_marked flow d) ≡ bare d
  value_same flow (scalar t p) = scalar_same false t p
  value_same flow (list ds) = ap list (items_same ds)
  value_same true (map ms) = flow_same (map ms)
  value_same false (map ms) = ap map (members_same ms)

  members_same : (ms : Members) → bare_members (members_marked ms) ≡ bare_members ms
  members_same no_members = refl
  members_same (member k d ms) = ap (λ x. member k x (bare_members (members_marked ms))) (value_same (is_flow_key k) d) ∙ ap (member k (bare d)) (members_same ms)

pub bare_marked : (d : Data) → bare (marked d) ≡ bare d
bare_marked d = value_same false d
