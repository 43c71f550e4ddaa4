use Rattle.pn_components.specs.Rows.{rows_of}
use Rattle.pn_outer.proofs.HolderLemmas.{more_links}
use Rattle.pn_outer.proofs.provided.Provisions.add_all.Goals as goal

pub loop-link-preserved : goal.loop-link-preserved
loop-link-preserved c =
    let a = c.args.self.now in
    let b = c.loop-link.self in
    let d = c.add.new.self in
    record {
      count = c.in_ok-add.ensures.count;
      adds = more_links c.args.to c.args.links.now c.loop-link.link-index c.link-item.result a.pairs.items b.pairs.items d.pairs.items (rows_of a.holders.items) (rows_of b.holders.items) (rows_of d.holders.items)
          c.loop-link-test.true c.link-item.is c.loop-link.invariant.adds c.in_ok-add.ensures.adds;
    }
