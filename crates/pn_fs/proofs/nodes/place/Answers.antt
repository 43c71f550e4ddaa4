use Rattle.std.proofs.Common.{Some, sym, subst}
use Rattle.std.specs.Prelude.{string_bytes}
use Rattle.pn_text.specs.Path.{SpellsAbs}
use Rattle.pn_fs.proofs.NodeLemmas.{changed_by}
use Rattle.pn_fs.proofs.nodes.place.Goals as goal

pub returns-clause-ok : goal.returns-clause-ok
returns-clause-ok c =
    let spelled = subst (λ t. SpellsAbs t c.args.path.now) (sym c.in_ok-key.ensures.ok) c.as_str.ensures.text in
    changed_by c.args.nodes.now c.insert.new.self (string_bytes c.in_ok-key.key) c.args.path.now (Some c.args.body) spelled c.requires c.in_ok-insert.ensures.updates
