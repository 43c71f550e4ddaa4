use Rattle.std.proofs.Common.{[], ◌∷◌, refl}
use Rattle.std.specs.List.{Contains}
use Rattle.pn_choice.specs.Calls.{knows, IsSought}
use Rattle.pn_choice.specs.Goes.{rests, learns_nothing}
use Rattle.pn_choice.proofs.ways.SourcesWays.follow.Goals as goal

pub returns-in_ok-copy-in-Some-clause-follows : goal.returns-in_ok-copy-in-Some-clause-follows
returns-in_ok-copy-in-Some-clause-follows g c =
    let a = g.R.ReadFs.seen c.args.self.now.registry.now in
    (rests a c.args.self.now.held.now, refl, learns_nothing (IsSought (Contains (c.args.wish.now ∷ []))) (knows c.args.self.now.shelves.now) a)
