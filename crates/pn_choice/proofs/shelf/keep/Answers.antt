use Rattle.std.proofs.Common.{◌≡◌, Some, ◌∙◌, subst, ℕ, List, if◌then◌else◌}
use Rattle.std.specs.Prelude.{string_bytes}
use Rattle.std.specs.Str.{bytes_eq}
use Rattle.std.specs.BTreeMap.{get_by_text}
use Rattle.std.proofs.lemmas.Map.Text.{btree_map_updates_text}
use Rattle.pn_choice.proofs.CachedLemmas.{shown_more, known_more}
use Rattle.pn_choice.proofs.shelf.keep.Goals as goal

pub returns-clause-shown : goal.returns-clause-shown
returns-clause-shown c =
    let key : string_bytes c.in_ok-key.key ≡ c.args.name.now = c.in_ok-key.ensures.ok ∙ c.as_str.ensures.text in
    λ r shown publishes. shown_more r c.args.shelves.now c.insert.new.self c.args.name.now c.args.shelf
    (subst (λ (n : List ℕ). (m : List ℕ) → get_by_text c.insert.new.self m ≡ (if bytes_eq n m then Some c.args.shelf else get_by_text c.args.shelves.now m)) key
    (btree_map_updates_text (string_bytes c.in_ok-key.key) c.args.shelves.now c.insert.new.self (Some c.args.shelf) c.in_ok-insert.ensures.updates)) shown publishes

pub returns-clause-known : goal.returns-clause-known
returns-clause-known c =
    let key : string_bytes c.in_ok-key.key ≡ c.args.name.now = c.in_ok-key.ensures.ok ∙ c.as_str.ensures.text in
    known_more c.args.shelves.now c.insert.new.self c.args.name.now c.args.shelf
    (subst (λ (n : List ℕ). (m : List ℕ) → get_by_text c.insert.new.self m ≡ (if bytes_eq n m then Some c.args.shelf else get_by_text c.args.shelves.now m)) key
    (btree_map_updates_text (string_bytes c.in_ok-key.key) c.args.shelves.now c.insert.new.self (Some c.args.shelf) c.in_ok-insert.ensures.updates))
