use Rattle.std.proofs.Common.{[], refl}
use Rattle.std.specs.List.{Contains}
use Rattle.pn_text.proofs.Results.{any_ok, any_err}
use Rattle.pn_choice.specs.Calls.{knows, IsSought}
use Rattle.pn_choice.proofs.CallsLemmas.{learns_manifest}
use Rattle.pn_choice.proofs.ways.SourcesWays.read.Goals as goal

pub returns-clause-follows : goal.returns-clause-follows
returns-clause-follows g c =
    let a = g.R.ReadFs.seen c.args.self.now.registry.now in
    let b = g.R.ReadFs.seen c.package.new.registry in
    any_ok c.package.result (record { kept = c.package.ensures.kept; held_is = refl }, refl, learns_manifest (IsSought (Contains [])) (knows c.args.self.now.shelves.now) c.args.id.now a b c.package.ensures.kept c.package.ensures.gave)

pub returns-clause-stops : goal.returns-clause-stops
returns-clause-stops g c =
    let a = g.R.ReadFs.seen c.args.self.now.registry.now in
    let b = g.R.ReadFs.seen c.package.new.registry in
    any_err c.package.result (record { kept = c.package.ensures.kept; held_is = refl }, refl, (learns_manifest (IsSought (Contains [])) (knows c.args.self.now.shelves.now) c.args.id.now a b c.package.ensures.kept c.package.ensures.gave).reads)
