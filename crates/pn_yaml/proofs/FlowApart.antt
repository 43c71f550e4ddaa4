-- What a flow says has no key twice in a map, and is nested no deeper than the levels.
use Rattle.std.proofs.Common.{◌≡◌, ◌≤◌, ℕ, zero, suc, Bool, true, false, List, [], ◌∷◌, length, Result, Ok, Err, IfOk, refl, arith}
use Rattle.std.specs.Prelude.{not}
use Rattle.std.proofs.lemmas.Bool.{and_from, not_from_false}
use Rattle.pn_yaml.specs.declared.fault.YamlFault.{YamlFault}
use Rattle.pn_yaml.specs.declared.scalar.Place.TheVariants as place
use Rattle.pn_yaml.specs.Bytes.{starts, tail_of, unindented, is_bare}
use Rattle.pn_yaml.specs.Data.{Data, scalar, list, map, Items, no_items, item, Members, no_members, member, depth, items_depth, members_depth, are_apart, items_apart, members_apart, is_among}
use Rattle.pn_yaml.specs.Scalars.{word_at, is_colon}
use Rattle.pn_yaml.specs.Flow.{Reader, is_flow, behind_value, with_item, with_member, flow_items, flow_key, flow_value, flow_member, flow_members, list_in, map_in, flow_at}
use Rattle.pn_yaml.proofs.Outcomes.{ok_bind, ok_if, any-ok}

-- data with no key twice in a map, nested no deeper than the levels
pub record IsGood (levels : ℕ) (d : Data) : Type 0 where
  pub apart : are_apart d ≡ true
  pub flat : depth d ≤ levels

pub record GoodItems (levels : ℕ) (ds : Items) : Type 0 where
  pub apart : items_apart ds ≡ true
  pub flat : items_depth ds ≤ levels

pub record GoodMembers (levels : ℕ) (seen : List (List ℕ)) (ms : Members) : Type 0 where
  pub apart : members_apart seen ms ≡ true
  pub flat : members_depth ms ≤ levels

pub good-scalar : (levels : ℕ) (text : List ℕ) (plain : Bool) → IsGood (suc levels) (scalar text plain)
good-scalar levels text plain = record { apart = refl; flat = omega arith }

pub good-list : (levels : ℕ) (ds : Items) → GoodItems levels ds → IsGood (suc levels) (list ds)
good-list levels ds g = record { apart = g.apart; flat = let h = g.flat in omega arith }

pub good-map : (levels : ℕ) (ms : Members) → GoodMembers levels [] ms → IsGood (suc levels) (map ms)
good-map levels ms g = record { apart = g.apart; flat = let h = g.flat in omega arith }

pub good-no_items : (levels : ℕ) → GoodItems levels no_items
good-no_items levels = record { apart = refl; flat = omega arith }

pub good-no_members : (levels : ℕ) (seen : List (List ℕ)) → GoodMembers levels seen no_members
good-no_members levels seen = record { apart = refl; flat = omega arith }

pub good-item : (levels : ℕ) (d : Data) (ds : Items) → IsGood levels d → GoodItems levels ds → GoodItems levels (item d ds)
good-item levels d ds g h = record { apart = and_from _ _ g.apart h.apart; flat = let a = g.flat in let b = h.flat in omega arith }

pub good-member : (levels : ℕ) (seen : List (List ℕ)) (k : List ℕ) (d : Data) (ms : Members) → is_among k seen ≡ false → IsGood levels d → GoodMembers levels (k ∷ seen) ms
    → GoodMembers levels seen (member k d ms)
good-member levels seen k d ms e g h = record {
  apart = and_from _ _ (not_from_false _ e) (and_from _ _ g.apart h.apart);
  flat = let a = g.flat in let b = h.flat in omega arith;
}

-- a reader that gives only such data
abbrev pub GivesGood : ℕ → Reader → Type 0
GivesGood levels value = (text : List ℕ) → IfOk (value text) (λ r. IsGood levels r.0)

behind-good : {A : Type 0} (Q : A → Type 0) (line close : ℕ) (end : A) (more : List ℕ → Result (A × List ℕ) YamlFault) (text : List ℕ)
    → ((t : List ℕ) → IfOk (more t) (λ r. Q r.0)) → Q end → IfOk (behind_value line close end more text) (λ r. Q r.0)
behind-good Q line close end more text h g =
    ok_if (λ r. Q r.0) (starts 44 text) _ _ (h (tail_of text)) (λ _. ok_if (λ r. Q r.0) (starts close text) _ _ g (λ _. tt))

item-good : (levels : ℕ) (d : Data) (r : Result (Items × List ℕ) YamlFault) → IsGood levels d → IfOk r (λ r. GoodItems levels r.0)
    → IfOk (with_item d r) (λ r. GoodItems levels r.0)
item-good levels d (Ok r) g h = good-item levels d r.0 g h
item-good levels d (Err e) g h = tt

member-good : (levels : ℕ) (seen : List (List ℕ)) (k : List ℕ) (d : Data) (r : Result (Members × List ℕ) YamlFault) → is_among k seen ≡ false → IsGood levels d
    → IfOk r (λ r. GoodMembers levels (k ∷ seen) r.0) → IfOk (with_member k d r) (λ r. GoodMembers levels seen r.0)
member-good levels seen k d (Ok r) e g h = good-member levels seen k d r.0 e g h
member-good levels seen k d (Err f) e g h = tt

flow-items-good : (levels : ℕ) (value : Reader) (line : ℕ) → GivesGood levels value → (steps : ℕ) (text : List ℕ) → IfOk (flow_items value line steps text) (λ r. GoodItems levels r.0)
flow-items-good levels value line h zero text = tt
flow-items-good levels value line h (suc steps) text =
    ok_if (λ r. GoodItems levels r.0) (is_bare text) _ _ tt (λ _.
    ok_if (λ r. GoodItems levels r.0) (starts 93 (unindented text)) _ _ (good-no_items levels) (λ _.
    ok_bind (λ v. IsGood levels v.0) (λ r. GoodItems levels r.0) (value (unindented text)) _ (h (unindented text)) (λ v g.
    item-good levels v.0 _ g (behind-good (GoodItems levels) line 93 no_items (flow_items value line steps) (unindented v.1)
    (flow-items-good levels value line h steps) (good-no_items levels)))))

-- a key that is new, with a value
pub record GoodMember (levels : ℕ) (seen : List (List ℕ)) (m : List ℕ × Data) : Type 0 where
  pub new : is_among m.0 seen ≡ false
  pub good : IsGood levels m.1

value-good : (levels : ℕ) (value : Reader) (line : ℕ) → GivesGood levels value → (text : List ℕ) → IfOk (flow_value value line text) (λ r. IsGood levels r.0)
value-good levels value line h text = ok_if (λ r. IsGood levels r.0) (is_bare text) _ _ tt (λ _. h (unindented text))

key-good : (line : ℕ) (seen : List (List ℕ)) (text : List ℕ) → IfOk (flow_key line seen text) (λ k. is_among k.0 seen ≡ false)
key-good line seen text =
    ok_if (λ k. is_among k.0 seen ≡ false) (is_flow text) _ _ tt (λ _.
    ok_bind (λ k. Unit {0}) (λ k. is_among k.0 seen ≡ false) (word_at place.Flow line text) _ (any-ok (word_at place.Flow line text)) (λ k _.
    ok_if (λ k. is_among k.0 seen ≡ false) (not (is_colon k.1)) _ _ tt (λ _.
    ok_if (λ k. is_among k.0 seen ≡ false) (is_among k.0.text seen) _ _ tt (λ e. e))))

flow-member-good : (levels : ℕ) (value : Reader) (line : ℕ) → GivesGood levels value → (seen : List (List ℕ)) (text : List ℕ)
    → IfOk (flow_member value line seen text) (λ r. GoodMember levels seen r.0)
flow-member-good levels value line h seen text =
    ok_bind (λ k. is_among k.0 seen ≡ false) (λ r. GoodMember levels seen r.0) (flow_key line seen text) _ (key-good line seen text) (λ k e.
    ok_bind (λ v. IsGood levels v.0) (λ r. GoodMember levels seen r.0) (flow_value value line k.1) _ (value-good levels value line h k.1) (λ v g.
    record { new = e; good = g }))

flow-members-good : (levels : ℕ) (value : Reader) (line : ℕ) → GivesGood levels value → (steps : ℕ) (seen : List (List ℕ)) (text : List ℕ)
    → IfOk (flow_members value line steps seen text) (λ r. GoodMembers levels seen r.0)
flow-members-good levels value line h zero seen text = tt
flow-members-good levels value line h (suc steps) seen text =
    ok_if (λ r. GoodMembers levels seen r.0) (is_bare text) _ _ tt (λ _.
    ok_if (λ r. GoodMembers levels seen r.0) (starts 125 (unindented text)) _ _ (good-no_members levels seen) (λ _.
    ok_bind (λ m. GoodMember levels seen m.0) (λ r. GoodMembers levels seen r.0) (flow_member value line seen (unindented text)) _
    (flow-member-good levels value line h seen (unindented text)) (λ m g.
    member-good levels seen m.0.0 m.0.1 _ g.new g.good (behind-good (GoodMembers levels (m.0.0 ∷ seen)) line 125 no_members
    (flow_members value line steps (m.0.0 ∷ seen)) (unindented m.1) (flow-members-good levels value line h steps (m.0.0 ∷ seen)) (good-no_members levels (m.0.0 ∷ seen))))))

list-good : (levels : ℕ) (r : Result (Items × List ℕ) YamlFault) → IfOk r (λ r. GoodItems levels r.0) → IfOk (list_in r) (λ r. IsGood (suc levels) r.0)
list-good levels (Ok r) h = good-list levels r.0 h
list-good levels (Err e) h = tt

map-good : (levels : ℕ) (r : Result (Members × List ℕ) YamlFault) → IfOk r (λ r. GoodMembers levels [] r.0) → IfOk (map_in r) (λ r. IsGood (suc levels) r.0)
map-good levels (Ok r) h = good-map levels r.0 h
map-good levels (Err e) h = tt

pub flow-good : (levels line : ℕ) (text : List ℕ) → IfOk (flow_at levels line text) (λ r. IsGood levels r.0)
flow-good zero line text = tt
flow-good (suc levels) line text =
    ok_if (λ r. IsGood (suc levels) r.0) (starts 91 text) _ _
    (list-good levels _ (flow-items-good levels (flow_at levels line) line (flow-good levels line) (length text) (tail_of text))) (λ _.
    ok_if (λ r. IsGood (suc levels) r.0) (starts 123 text) _ _
    (map-good levels _ (flow-members-good levels (flow_at levels line) line (flow-good levels line) (length text) [] (tail_of text))) (λ _.
    ok_bind (λ k. Unit {0}) (λ r. IsGood (suc levels) r.0) (word_at place.Flow line text) _ (any-ok (word_at place.Flow line text)) (λ w _.
    good-scalar levels w.0.text w.0.plain)))
