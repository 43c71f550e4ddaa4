use Rattle.std.proofs.Common.{◌≡◌, ◌≢◌, List, ℕ, map, sym, ap, ◌∙◌, Some, length, ◌+◌}
use Rattle.std.specs.Prelude.{string_bytes}
use Rattle.std.proofs.lemmas.Map.Text.{btree_map_updates_text}
use Rattle.pn_deppath.specs.Folders.{free_from, plain_name}
use Rattle.pn_deppath.specs.Numbers.{last_of, number_after}
use Rattle.pn_deppath.proofs.NumberLemmas.{number_first, number_later, numbered_by}
use Rattle.pn_deppath.proofs.names.next_name.Goals as goal

pub returns-then-last-eq0-clause-numbers : goal.returns-then-last-eq0-clause-numbers
returns-then-last-eq0-clause-numbers c =
    let taken = map plain_name c.args.paths.now in
    let name = plain_name c.args.path.now in
    let old = c.args.numbers.now in
    let last : c.last_of-last.result ≡ last_of old name = c.last_of-last.ensures ∙ ap (last_of old) (c.as_str.ensures.value ∙ c.in_ok-name.ensures) in
    numbered_by old c.insert.new.self (string_bytes c.in_ok-name.name) name 1 (number_after taken name (last_of old name)) c.in_ok-name.ensures
    (number_first taken name (last_of old name) (sym last ∙ c.if-last-eq0.true))
    (btree_map_updates_text (string_bytes c.in_ok-name.name) old c.insert.new.self (Some 1) c.in_ok-insert.ensures.updates)

pub returns-clause-numbers : goal.returns-clause-numbers
returns-clause-numbers c =
    let taken = map plain_name c.args.paths.now in
    let name = plain_name c.args.path.now in
    let old = c.args.numbers.now in
    let text = c.in_ok-name.ensures in
    let last : c.last_of-last.result ≡ last_of old name = c.last_of-last.ensures ∙ ap (last_of old) (c.as_str.ensures.value ∙ text) in
    let later : last_of old name ≢ 0 = λ e. c.if-last-eq0.false (last ∙ e) in
    let n = c.in_ok-next.next in
    let is : n ≡ number_after taken name (last_of old name) = c.in_ok-next.ensures
    ∙ ap (λ (x : List ℕ). free_from taken x (length taken) (c.last_of-last.result + 1)) (c.as_str-2.ensures.value ∙ text)
    ∙ ap (λ (k : ℕ). free_from taken name (length taken) (k + 1)) last ∙ number_later taken name (last_of old name) later in
    numbered_by old c.insert-2.new.self (string_bytes c.in_ok-name.name) name n (number_after taken name (last_of old name)) text is
    (btree_map_updates_text (string_bytes c.in_ok-name.name) old c.insert-2.new.self (Some n) c.in_ok-insert-2.ensures.updates)
