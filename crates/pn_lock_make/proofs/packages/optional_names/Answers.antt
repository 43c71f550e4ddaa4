use Rattle.std.proofs.Common.{◌≡◌, ◌∙◌, ℕ, List, true, subst, sym}
use Rattle.std.specs.List.{All}
use Rattle.pn_text.specs.Name.{is_name}
use Rattle.pn_graph.specs.declared.peer.Peer.{Peer}
use Rattle.pn_lock_make.specs.Packages.{optional_names}
use Rattle.pn_lock_make.proofs.StepLemmas.{all_more, dropped_step, kept_step}
use Rattle.pn_lock_make.proofs.packages.optional_names.Goals as goal
use Rattle.pn_lock_make.proofs.packages.optional_names.Goals.{then-peer+in_ok-name+in_ok-push, else-peer}

pub loop-peer-preserved : goal.loop-peer-preserved
loop-peer-preserved c =
    let P : List ℕ → Type 0 = λ n. is_name n ≡ true in
    let peers = c.args.peers.now in
    elim c.if-peer.branch [
      | then-peer+in_ok-name+in_ok-push w ↦ record {
        made = kept_step (λ (r : Peer). r.name) (λ (r : Peer). r.optional) peers c.loop-peer.peer-index c.peer-item.result w.in_ok-name.name c.loop-peer.names c.if-peer.names (optional_names peers)
            c.loop-peer-test.true c.peer-item.is w.if-peer.true w.in_ok-name.ensures.same (w.names-is ∙ w.in_ok-push.ensures.ok) c.loop-peer.invariant.made;
        named = all_more P c.loop-peer.names c.if-peer.names w.in_ok-name.name (w.names-is ∙ w.in_ok-push.ensures.ok) c.loop-peer.invariant.named w.in_ok-name.ensures.named;
      }
      | else-peer w ↦ record {
        made = dropped_step (λ (r : Peer). r.name) (λ (r : Peer). r.optional) peers c.loop-peer.peer-index c.peer-item.result c.loop-peer.names c.if-peer.names (optional_names peers)
            c.loop-peer-test.true c.peer-item.is w.if-peer.false w.names-is c.loop-peer.invariant.made;
        named = subst (λ (l : List (List ℕ)). All P l) (sym w.names-is) c.loop-peer.invariant.named;
      }
    ]
