use Rattle.std.proofs.Common.{length, map, sym, ◌∙◌, subst}
use Rattle.pn_package.specs.Links.{IsRising}
use Rattle.pn_package.specs.Listed.{pair_of}
use Rattle.pn_collect.proofs.LinkLemmas.{dep_ranged, deps_rise, links_rise, links_more, sound_more, all_taken}
use Rattle.pn_collect.proofs.links.links.Goals as goal

pub add_dep-requires : goal.add_dep-requires
add_dep-requires c =
    dep_ranged (length c.args.plain.now.projects) (length c.args.plain.now.packages) c.args.deps.now c.dep-item.result c.requires (c.loop-dep.dep-index, c.loop-dep-test.true, sym c.dep-item.is)

pub loop-dep-preserved : goal.loop-dep-preserved
loop-dep-preserved c = record {
  same = links_more c.args.plain.now.packages c.args.deps.now c.loop-dep.dep-index c.dep-item.result (map pair_of c.loop-dep.all.items) (map pair_of c.add_dep.new.all.items)
      c.loop-dep-test.true c.dep-item.is c.in_ok-add_dep.ensures.added c.loop-dep.invariant.same;
  sound = sound_more c.args.plain.now.packages c.args.deps.now c.loop-dep.dep-index c.dep-item.result c.loop-dep-test.true c.dep-item.is c.loop-dep.invariant.sound c.in_ok-add_dep.ensures.sound;
}

pub of-requires : goal.of-requires
of-requires c =
    let nodes = c.args.plain.now.packages in
    let deps = c.args.deps.now in
    subst IsRising (sym (c.loop-dep.invariant.same ∙ all_taken nodes deps c.loop-dep.dep-index c.loop-dep-test.false)) (links_rise nodes deps (deps_rise (length c.args.plain.now.projects) (length nodes) deps c.requires))
