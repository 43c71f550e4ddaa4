use Rattle.std.proofs.Common.{◌≡◌, ◌∙◌, ℕ, List, true, not, ap, subst, sym, cond, [], ◌∷◌, drop, ◌+◌}
use Rattle.std.specs.List.{All, filter}
use Rattle.pn_text.specs.Name.{is_name}
use Rattle.pn_graph.specs.Graphs.{has_name, peer_names}
use Rattle.pn_lock_make.proofs.StepLemmas.{all_more, skip, step}
use Rattle.pn_lock_make.proofs.passed.without.Goals as goal
use Rattle.pn_lock_make.proofs.passed.without.Goals.{then-not-has_peer+in_ok-name_copy+in_ok-push, else-not-has_peer}

pub loop-name-preserved : goal.loop-name-preserved
loop-name-preserved c =
    let P : List ℕ → Type 0 = λ n. is_name n ≡ true in
    let p = λ (n : List ℕ). not (has_name n (peer_names c.args.peers.now)) in
    let names = c.args.names.now in
    let x = c.name-item.result in
    let rest = drop (c.loop-name.name-index + 1) names in
    elim c.if-not-has_peer.branch [
      | then-not-has_peer+in_ok-name_copy+in_ok-push w ↦ record {
        made = step (filter p) names c.loop-name.name-index x (w.in_ok-name_copy.field-0 ∷ []) c.loop-name.others c.if-not-has_peer.others (filter p names) c.loop-name-test.true c.name-item.is
            (ap (λ b. cond b (x ∷ filter p rest) (filter p rest)) (ap not (sym c.has_peer.ensures ∙ w.if-not-has_peer.true)) ∙ ap (λ (n : List ℕ). n ∷ filter p rest) (sym w.in_ok-name_copy.ensures.same))
            (w.others-is ∙ w.in_ok-push.ensures.ok) c.loop-name.invariant.made;
        named = all_more P c.loop-name.others c.if-not-has_peer.others w.in_ok-name_copy.field-0 (w.others-is ∙ w.in_ok-push.ensures.ok) c.loop-name.invariant.named w.in_ok-name_copy.ensures.named;
      }
      | else-not-has_peer w ↦ record {
        made = skip (filter p) names c.loop-name.name-index x c.loop-name.others c.if-not-has_peer.others (filter p names) c.loop-name-test.true c.name-item.is
            (ap (λ b. cond b (x ∷ filter p rest) (filter p rest)) (ap not (sym c.has_peer.ensures ∙ w.if-not-has_peer.false))) w.others-is c.loop-name.invariant.made;
        named = subst (λ (l : List (List ℕ)). All P l) (sym w.others-is) c.loop-name.invariant.named;
      }
    ]
