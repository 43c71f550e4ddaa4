use Rattle.std.proofs.Common.{ℕ, List, subst, sym, take}
use Rattle.pn_yaml.specs.KeySets.{HasKeys, seen_of}
use Rattle.pn_yaml.proofs.KeyLists.{has_more, seen_next}
use Rattle.pn_yaml.proofs.keys.copies.Goals as goal

pub loop-key-preserved : goal.loop-key-preserved
loop-key-preserved c =
    let i = c.loop-key.key-index in
    let key = c.in_ok-copy.field-0 in
    subst (λ (seen : List (List ℕ)). HasKeys c.insert.new.self seen)
    (sym (seen_next c.args.members.now i c.loop-key-item.result key c.loop-key-test.true c.loop-key-item.is c.in_ok-copy.ensures))
    (has_more c.loop-key.set c.insert.new.self key (seen_of (take i c.args.members.now)) c.loop-key.invariant c.in_ok-_new.ensures.updates.0)
