use Rattle.std.proofs.Common.{sym, subst}
use Rattle.pn_manifest.specs.NextPeers.{IsNext}
use Rattle.pn_manifest.proofs.IsNextLemmas.{last_optional, next_both, next_declared, next_optional, past, tied, under}
use Rattle.pn_manifest.proofs.peer_list.next_peer.Goals as goal

pub returns-in_ok-next_declared-in-Less : goal.returns-in_ok-next_declared-in-Less
returns-in_ok-next_declared-in-Less c =
    let one = c.in-Some-Some.ensures.lookup in
    let name = c.in-Some-Some.ensures'.lookup in
    let next = next_declared c.args.declared.now c.args.i c.args.optional.now c.args.j c.in-Some-Some.one.now c.in-Some-Some.name.now (under _ _ one.0) one.1 (under _ _ name.0) name.1 c.requires.optional (sym c.in-Less.ensures) in
    subst (IsNext c.args.declared.now c.args.i c.args.optional.now c.args.j) (sym c.in_ok-next_declared-in-Less.ensures) next

pub returns-in_ok-next_both-in-Equal : goal.returns-in_ok-next_both-in-Equal
returns-in_ok-next_both-in-Equal c =
    let one = c.in-Some-Some.ensures.lookup in
    let name = c.in-Some-Some.ensures'.lookup in
    let next = next_both c.args.declared.now c.args.i c.args.optional.now c.args.j c.in-Some-Some.one.now c.in-Some-Some.name.now (under _ _ one.0) one.1 (under _ _ name.0) name.1 c.requires.optional
    (tied c.in-Some-Some.one.now.name c.in-Some-Some.name.now (sym c.in-Equal.ensures)) in
    subst (IsNext c.args.declared.now c.args.i c.args.optional.now c.args.j) (sym c.in_ok-next_both-in-Equal.ensures) next

pub returns-in_ok-next_optional-in-Greater : goal.returns-in_ok-next_optional-in-Greater
returns-in_ok-next_optional-in-Greater c =
    let one = c.in-Some-Some.ensures.lookup in
    let name = c.in-Some-Some.ensures'.lookup in
    let next = next_optional c.args.declared.now c.args.i c.args.optional.now c.args.j c.in-Some-Some.one.now c.in-Some-Some.name.now (under _ _ one.0) one.1 (under _ _ name.0) name.1 c.requires.declared c.requires.optional (sym c.in-Greater.ensures) in
    subst (IsNext c.args.declared.now c.args.i c.args.optional.now c.args.j) (sym c.in_ok-next_optional-in-Greater.ensures) next

pub returns-in_ok-next_optional-in-None-Some : goal.returns-in_ok-next_optional-in-None-Some
returns-in_ok-next_optional-in-None-Some c =
    let name = c.in-None-Some.ensures'.lookup in
    let next = last_optional c.args.declared.now c.args.i c.args.optional.now c.args.j c.in-None-Some.name.now c.requires.of_declared (past _ _ c.in-None-Some.ensures.lookup.0) (under _ _ name.0) name.1 c.requires.optional in
    subst (IsNext c.args.declared.now c.args.i c.args.optional.now c.args.j) (sym c.in_ok-next_optional-in-None-Some.ensures) next
