use Rattle.pn_config.proofs.ReadsLemmas.{bad_more, reads_more, refused_here}
use Rattle.pn_config.proofs.settings.read_members.Goals as goal

pub returns-in-Err-take-clause-fault : goal.returns-in-Err-take-clause-fault
returns-in-Err-take-clause-fault c =
    refused_here c.args.members.now c.loop-key.key-index c.loop-key-item.result c.as_str-name.result.now c.key_of-kind.result c.loop-key.settings c.loop-key-test.true c.loop-key-item.is
    c.as_str-name.ensures c.key_of-kind.ensures c.in-Err-take.stop c.fault_at.result c.fault_at.ensures c.in-Err-take.ensures.fault c.loop-key.invariant.bad

pub loop-key-preserved : goal.loop-key-preserved
loop-key-preserved c = record {
  left = reads_more c.args.members.now c.loop-key.key-index c.loop-key-item.result c.as_str-name.result.now c.key_of-kind.result c.loop-key.settings c.loop-key-test.true c.loop-key-item.is
      c.as_str-name.ensures c.key_of-kind.ensures c.take.new.self c.in_default.ensures.ok c.loop-key.invariant.left;
  bad = bad_more c.args.members.now c.loop-key.key-index c.loop-key-item.result c.as_str-name.result.now c.key_of-kind.result c.loop-key.settings c.loop-key-test.true c.loop-key-item.is
      c.as_str-name.ensures c.key_of-kind.ensures c.take.new.self c.in_default.ensures.ok c.loop-key.invariant.bad;
}
