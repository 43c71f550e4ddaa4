use Rattle.std.proofs.Common.{ℕ, List, Bool, length, sym, ap, ◌∙◌, subst}
use Rattle.std.specs.Bool.{Decides}
use Rattle.std.specs.List.{Contains, list_any}
use Rattle.pn_graph.specs.FreeNames.{IsFree, is_peer_at}
use Rattle.pn_graph.proofs.FreeLemmas.{all_within, decides}
use Rattle.pn_graph.proofs.free.is_free.Goals as goal

pub some_has_peer-requires : goal.some_has_peer-requires
some_has_peer-requires c = λ k h.
    let f = c.in_ok-found.found in
    all_within f.seen.items f.order.items (length c.args.packages.now) c.in_ok-found.ensures.marked c.in_ok-found.ensures.count k (subst (λ (l : List ℕ). Contains l k) c.deref.ensures.value h)

pub returns : goal.returns
returns c =
    let packages = c.args.packages.now in
    let n = c.args.name.now in
    let f = c.in_ok-found.found in
    let is = c.some_has_peer.ensures ∙ ap (λ (l : List ℕ). list_any (is_peer_at packages n) l) c.deref.ensures.value in
    subst (λ (b : Bool). Decides b (IsFree packages n c.args.of)) (sym is) (decides packages n c.args.of f.order.items c.in_ok-found.ensures.reached)
