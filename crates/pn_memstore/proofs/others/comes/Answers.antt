use Rattle.std.proofs.Common.{◌≡◌, ◌++◌, ◌∷◌, [], sym, subst}
use Rattle.std.specs.Prelude.{OnOk}
use Rattle.pn_storecore.specs.Lawful.{IsLawful}
use Rattle.pn_memstore.proofs.DueCameLemmas.{came_on}
use Rattle.pn_memstore.proofs.others.comes.Goals as goal

pub returns-clause-due : goal.returns-clause-due
returns-clause-due c =
    let e = c.args.scheduled.now in
    let j = c.args.ledger.now.journal.items in
    let k = c.take.new.self.journal.items in
    came_on c.take.result c.args.me e j k
    (record {
      theirs = c.if-who-me.false;
      lawful = subst (IsLawful e.1 e.2) (sym c.args.ledger.now.made) (c.in_ok-is_lawful.ensures.0 c.if-not-branch.false);
    })
    (subst (λ s. OnOk c.take.result (k ≡ j ++ (e.1, s) ∷ [])) c.in_ok-copy.ensures c.take.ensures.ok)
