use Rattle.std.proofs.Common.{sym, ap, ◌∙◌}
use Rattle.pn_components.specs.Rows.{rows_of}
use Rattle.pn_outer.specs.Instances.{Instance}
use Rattle.pn_outer.proofs.FoundLemmas.{peers_there}
use Rattle.pn_outer.proofs.HolderLemmas.{are_provided, more_first}
use Rattle.pn_outer.proofs.provided.provided_peers.Goals as goal

pub loop-i-preserved : goal.loop-i-preserved
loop-i-preserved c =
    let instances = c.args.instances.now in
    let i = c.loop-i.i in
    let old = c.loop-i.provided in
    let new = c.add_all.new.self in
    let is = c.as_slice.ensures ∙ ap (λ (x : Instance). x.peers) c.index-instances-i.is ∙ sym (peers_there instances i c.index-instances-i.result c.loop-i-test.true) in
    record {
      count = c.in_ok-add_all.ensures.count;
      first = more_first instances i c.as_slice.result.now old.pairs.items new.pairs.items (rows_of old.holders.items) (rows_of new.holders.items) is c.loop-i.invariant.first c.in_ok-add_all.ensures.adds;
    }

pub returns-clause-provided : goal.returns-clause-provided
returns-clause-provided c =
    are_provided c.args.instances.now c.loop-i.i c.loop-i.provided.pairs.items (rows_of c.loop-i.provided.holders.items) c.loop-i-test.false c.loop-i.invariant.first
