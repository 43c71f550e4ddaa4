use Rattle.std.proofs.Common.{◌≡◌, ◌<◌, length, get_or, sym, refl, subst, arith}
use Rattle.std.specs.List.{All}
use Rattle.pn_text.proofs.Results.{if_ok}
use Rattle.pn_components.specs.Graphs.{Edges}
use Rattle.pn_components.specs.Rows.{AreRows, rows_of}
use Rattle.pn_dep_paths.specs.Steps.{AreMembers}
use Rattle.pn_dep_paths.proofs.MemberLemmas.{are_members, more_pairs, pairs_within}
use Rattle.pn_dep_paths.proofs.base.members.Goals as goal

pub loop-i-preserved : goal.loop-i-preserved
loop-i-preserved c =
    let i = c.loop-i.i in
    more_pairs c.args.numbers.now i (get_or c.args.numbers.now i 0) c.loop-i.pairs.items c.push.new.self.items c.loop-i.invariant refl c.in_ok-push.ensures.items

pub targets-requires : goal.targets-requires
targets-requires c =
    let numbers = c.args.numbers.now in
    let most = c.loop-i.auto.i-end in
    subst (λ (l : Edges). All (λ e. e.0 < length numbers) l) (sym c.deref.ensures.value) (pairs_within numbers c.loop-i.i c.loop-i.pairs.items c.requires.within (omega (arith, most)) c.loop-i.invariant)

pub returns-clause-rows : goal.returns-clause-rows
returns-clause-rows c =
    let numbers = c.args.numbers.now in
    let most = c.loop-i.auto.i-end in
    let least = c.loop-i-test.false in
    let whole : c.loop-i.i ≡ length numbers = omega (arith, most, least) in
    if_ok {P = λ rows. AreRows c.deref.result.now (rows_of rows.items)} {Q = λ rows. AreMembers numbers (rows_of rows.items)} c.targets.result
    (λ rows r. are_members numbers c.loop-i.i c.loop-i.pairs.items (rows_of rows.items) whole c.loop-i.invariant (subst (λ (l : Edges). AreRows l (rows_of rows.items)) c.deref.ensures.value r)) c.targets.ensures.rows
