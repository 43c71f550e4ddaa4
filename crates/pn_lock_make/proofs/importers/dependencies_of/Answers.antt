use Rattle.std.proofs.Common.{◌≡◌, ◌∙◌, ◌++◌, ◌+◌, List, [], ◌∷◌, true, ap, length, drop, subst, sym}
use Rattle.std.specs.List.{All}
use Rattle.pn_text.specs.Name.{is_name}
use Rattle.pn_lock.specs.declared.lists.LockDependency.{LockDependency}
use Rattle.pn_lock_make.specs.Importers.{dependencies_of, dependency_of}
use Rattle.pn_lock_make.proofs.ImporterLemmas.{goal_ranked}
use Rattle.pn_lock_make.proofs.StepLemmas.{all_more, skip, step}
use Rattle.pn_lock_make.proofs.importers.dependencies_of.Goals as goal
use Rattle.pn_lock_make.proofs.importers.dependencies_of.Goals.{in-Some+in_ok-one-in-Some+in_ok-push-in-Some, in-None}

pub dependency-requires : goal.dependency-requires
dependency-requires c = goal_ranked (length c.args.ranks.now) c.args.links.now c.loop-name-item.result.0 c.in-Some.to c.requires (sym c.goal_at.ensures ∙ c.in-Some.is)

pub loop-name-preserved : goal.loop-name-preserved
loop-name-preserved c =
    let P : LockDependency → Type 0 = λ (d : LockDependency). is_name d.alias ≡ true in
    let ranks = c.args.ranks.now in
    let links = c.args.links.now in
    let rows = c.args.rows.now in
    let x = c.loop-name-item.result in
    let f = dependencies_of ranks links in
    let rest = f (drop (c.loop-name.name-index + 1) rows) in
    elim c.match-goal_at.branch [
      | in-Some+in_ok-one-in-Some+in_ok-push-in-Some w ↦ record {
        made = step f rows c.loop-name.name-index x (w.in_ok-one-in-Some.one ∷ []) c.loop-name.found c.match-goal_at.found (f rows) c.loop-name-test.true c.loop-name-item.is
            (ap (λ o. dependency_of ranks x o ++ rest) (sym c.goal_at.ensures ∙ w.in-Some.is) ∙ ap (λ (d : LockDependency). d ∷ rest) (sym w.in_ok-one-in-Some.ensures.made))
            (w.found-is ∙ w.in_ok-push-in-Some.ensures.ok) c.loop-name.invariant.made;
        named = all_more P c.loop-name.found c.match-goal_at.found w.in_ok-one-in-Some.one (w.found-is ∙ w.in_ok-push-in-Some.ensures.ok) c.loop-name.invariant.named w.in_ok-one-in-Some.ensures.named;
      }
      | in-None w ↦ record {
        made = skip f rows c.loop-name.name-index x c.loop-name.found c.match-goal_at.found (f rows) c.loop-name-test.true c.loop-name-item.is
            (ap (λ o. dependency_of ranks x o ++ rest) (sym c.goal_at.ensures ∙ w.in-None.is)) w.found-is c.loop-name.invariant.made;
        named = subst (λ (l : List LockDependency). All P l) (sym w.found-is) c.loop-name.invariant.named;
      }
    ]
