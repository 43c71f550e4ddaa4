use Rattle.std.proofs.Common.{◌≡◌, ap, sym, ◌∙◌, rules, ◌++◌, ◌∷◌, [], length}
use Rattle.pn_walk.specs.Walks.{place_of}
use Rattle.pn_walk.specs.Places.{KeepsPlace}
use Rattle.pn_walk.proofs.PlaceLemmas.{tied_more}
use Rattle.pn_walk.proofs.state.Queue.add.Goals as goal

pub returns-clause-tied : goal.returns-clause-tied
returns-clause-tied g c = λ tied fresh i.
    let pushed : c.push.new.self.items ≡ c.args.self.now.nodes.items ++ c.args.node ∷ [] = search rules in
    let kept : KeepsPlace c.args.self.now.places c.keep.new.places c.args.node.id (length c.args.self.now.nodes.items) = search rules in
    tied_more c.args.self.now.places c.keep.new.places c.args.self.now.nodes.items c.args.node tied fresh kept i
    ∙ ap (place_of i) (sym pushed)
