use Rattle.std.proofs.Common.{◌++◌, ap, ◌∙◌}
use Rattle.std.specs.Prelude.{string_bytes}
use Rattle.pn_lock_read.proofs.KeyTextLemmas.{joined_first, joined_next}
use Rattle.pn_lock_read.proofs.whole.keys_text.Goals as goal

pub keys-init : goal.keys-init
keys-init c = joined_first c.args.keys c.pop.new.self c.in-Some.first (string_bytes c.in_ok-text.text) c.in-Some.ensures (c.in_ok-text.ensures.ok ∙ c.as_str.ensures)

pub keys-preserved : goal.keys-preserved
keys-preserved c =
    joined_next c.keys.left c.pop-in-keys.new.self c.in-Some-pop.key (string_bytes c.keys.text) (string_bytes c.push_str-in-keys.new.self) _ c.in-Some-pop.ensures
    (c.in_ok-push_str-2.ensures.bytes ∙ ap (λ t. t ++ c.as_str-in-keys.result.now) c.in_ok-push_str.ensures.bytes ∙ ap (λ k. (string_bytes c.keys.text ++ _) ++ k) c.as_str-in-keys.ensures) c.keys.invariant
