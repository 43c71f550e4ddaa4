use Rattle.std.proofs.Common.{◌≡◌, Some, ◌∙◌, subst}
use Rattle.std.specs.Prelude.{ℕ, List, string_bytes}
use Rattle.std.proofs.lemmas.Map.Text.{btree_map_updates_text}
use Rattle.pn_walk.specs.Places.{KeepsPlace}
use Rattle.pn_walk.proofs.queue.keep.Goals as goal

pub returns : goal.returns
returns c =
    let key : string_bytes c.in_ok-key.key ≡ c.args.id.now = c.in_ok-key.ensures.ok ∙ c.as_str.ensures.text in
    subst (λ (i : List ℕ). KeepsPlace c.args.places.now c.insert.new.self i c.args.at) key
    (btree_map_updates_text (string_bytes c.in_ok-key.key) c.args.places.now c.insert.new.self (Some c.args.at) c.in_ok-insert.ensures.updates)
