use Rattle.std.proofs.Common.{map, sym}
use Rattle.std.proofs.lemmas.Result.{err_from_is_err_and}
use Rattle.std.specs.List.{All}
use Rattle.std.proofs.lemmas.List.Elements.{All-contains}
use Rattle.pn_text.specs.First.{FirstFails}
use Rattle.pn_fs.proofs.SeenLemmas.{keeps_on}
use Rattle.pn_collect.specs.Outline.{outline, dressed, bare_id, IsMade, IsSoundBare, HasFiles, HasPassed}
use Rattle.pn_collect.specs.CollectFaults.{NoFiles}
use Rattle.pn_collect.proofs.BareLemmas.{place_at}
use Rattle.pn_collect.proofs.Causes.{refuses_from, refuses_by, if_both}
use Rattle.pn_collect.proofs.Firsts.{Passes, first_at, passes}
use Rattle.pn_collect.proofs.MoreLemmas.{image_more, all_more, taken_more}
use Rattle.pn_collect.proofs.packages.packages.Goals as goal

pub package-requires : goal.package-requires
package-requires g c =
    let place = place_at (g.R.ReadFs.seen c.args.registry.now).tree (g.R.ReadFs.seen c.loop-one.registry).tree c.args.bare.now c.loop-one.one-index c.one-item.result c.requires.places c.loop-one-test.true c.one-item.is c.loop-one.invariant.kept.tree in
    record {
      stands = place.stands;
      short = place.short;
      sound = All-contains IsSoundBare c.args.bare.now c.one-item.result c.requires.sound (c.loop-one.one-index, c.loop-one-test.true, sym c.one-item.is);
    }

pub loop-one-preserved : goal.loop-one-preserved
loop-one-preserved g c =
    let old = g.R.ReadFs.seen c.args.registry.now in
    let mid = g.R.ReadFs.seen c.loop-one.registry in
    let new = g.R.ReadFs.seen c.package.new.registry in
    record {
      outlines = image_more outline dressed c.args.bare.now c.loop-one.one-index c.one-item.result c.loop-one.all.items c.add.new.all.items c.in_ok-package.package c.loop-one-test.true c.one-item.is c.in_ok-add.ensures c.loop-one.invariant.outlines c.in_ok-package.ensures.outline;
      made = all_more IsMade c.loop-one.all.items c.add.new.all.items c.in_ok-package.package c.in_ok-add.ensures c.loop-one.invariant.made c.in_ok-package.ensures.made;
      files = if_both (λ t. All (HasFiles t) c.loop-one.all.items) (λ t. HasFiles t c.in_ok-package.package) (λ t. All (HasFiles t) c.add.new.all.items) old.tree mid.tree c.loop-one.invariant.kept.tree
          (λ t h k. all_more (HasFiles t) c.loop-one.all.items c.add.new.all.items c.in_ok-package.package c.in_ok-add.ensures h k) c.loop-one.invariant.files c.in_ok-package.ensures.files;
      passed = taken_more (Passes old.tree) c.args.bare.now c.loop-one.one-index c.one-item.result c.loop-one-test.true c.one-item.is c.loop-one.invariant.passed
          (passes old.tree mid.tree c.one-item.result c.in_ok-package.package c.loop-one.invariant.kept.tree c.in_ok-package.ensures.outline c.in_ok-package.ensures.made c.in_ok-package.ensures.files);
      kept = keeps_on old mid new c.loop-one.invariant.kept c.in_ok-package.ensures.kept;
    }

pub returns-in_err-package-clause-refused : goal.returns-in_err-package-clause-refused
returns-in_err-package-clause-refused g c =
    let p = err_from_is_err_and c.from_residual.result c.from_residual.ensures.1 in
    let old = g.R.ReadFs.seen c.args.registry.now in
    let mid = g.R.ReadFs.seen c.loop-one.registry in
    let new = g.R.ReadFs.seen c.package.new.registry in
    let bare = c.args.bare.now in
    let b = c.one-item.result in
    rw (p.1, p.2) (refuses_by (λ r. NoFiles r b.id) (λ r. FirstFails (HasPassed r) (NoFiles r) (map bare_id bare)) old new _
    (first_at old.tree bare c.loop-one.one-index b _ c.loop-one-test.true c.one-item.is c.loop-one.invariant.passed)
    (refuses_from (λ r. NoFiles r b.id) old mid new _ c.loop-one.invariant.kept c.in_err-package.ensures.refused))
