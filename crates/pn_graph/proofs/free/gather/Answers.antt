use Rattle.std.proofs.Common.{◌≡◌, ℕ, List, take, get_or, sym, ap, ◌∙◌, subst, ◌++◌}
use Rattle.std.specs.List.{Contains}
use Rattle.std.proofs.lemmas.List.Elements.{Contains-get_or}
use Rattle.pn_graph.specs.Graphs.{peer_names}
use Rattle.pn_graph.proofs.FreeLemmas.{more_names, whole}
use Rattle.pn_graph.proofs.free.gather.Goals as goal

pub peers_of-requires : goal.peers_of-requires
peers_of-requires c = c.requires (get_or c.args.order.now c.loop-at.at-index 0) (Contains-get_or c.args.order.now c.loop-at.at-index 0 c.loop-at-test.true)

pub loop-at-preserved : goal.loop-at-preserved
loop-at-preserved c =
    more_names c.args.packages.now c.args.order.now c.loop-at.at-index c.loop-at.names.items c.push_names.new.names.items c.loop-at-test.true c.loop-at.invariant
    (c.in_ok-push_names.ensures ∙ ap (λ ps. c.loop-at.names.items ++ peer_names ps) c.peers_of.ensures)

pub returns : goal.returns
returns c =
    let all : take c.loop-at.at-index c.args.order.now ≡ c.args.order.now = whole c.args.order.now c.loop-at.at-index c.loop-at.auto.at-index-end c.loop-at-test.false in
    λ k n o p. c.loop-at.invariant k n (subst (λ (l : List ℕ). Contains l k) (sym all) o) p
