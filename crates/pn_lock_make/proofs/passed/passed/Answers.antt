use Rattle.std.proofs.Common.{◌∙◌, ℕ, List, ap, subst, sym, not}
use Rattle.std.specs.List.{filter}
use Rattle.pn_text.proofs.Results.{if_ok}
use Rattle.pn_graph.specs.Graphs.{has_name, peer_names}
use Rattle.pn_lock_make.specs.PassedOn.{ArePassed}
use Rattle.pn_lock_make.proofs.PassedLemmas.{nothing_passed, others_passed}
use Rattle.pn_lock_make.proofs.passed.passed.Goals as goal

pub returns-then-not-any-clause-passed : goal.returns-then-not-any-clause-passed
returns-then-not-any-clause-passed c =
    subst (ArePassed c.args.plain.now.packages c.args.of.0) (sym c.new.ensures) (nothing_passed c.args.plain.now.packages c.args.of.0 (sym c.requires.any ∙ c.if-not-any.true))

pub returns-clause-passed : goal.returns-clause-passed
returns-clause-passed c =
    let peers = c.peers.result.now in
    if_ok c.without.result (λ v e. others_passed c.args.plain.now.packages c.args.of.0 peers c.in_ok-names.names.items v c.peers.ensures c.in_ok-names.ensures
    (e ∙ ap (λ (l : List (List ℕ)). filter (λ (n : List ℕ). not (has_name n (peer_names peers))) l) c.as_slice.ensures.value)) c.without.ensures.made
