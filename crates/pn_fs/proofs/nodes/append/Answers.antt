use Rattle.std.proofs.Common.{rules, ap, sym, ◌∙◌}
use Rattle.std.specs.Option.{option_copied_mut}
use Rattle.pn_fs.proofs.NodeLemmas.{grown_node, kept_node, on_ok, on_err, file_apart}
use Rattle.pn_fs.proofs.nodes.append.Goals as goal

pub returns-clause-ok : goal.returns-clause-ok
returns-clause-ok c =
    let m = c.args.nodes.now in
    let held = ap option_copied_mut (sym c.in-Some.is) ∙ c.get_mut.ensures.value in
    on_ok c.extend.result (grown_node m (c.get_mut.follows.lender c.extend.new.body) c.as_str.result.now c.args.path.now c.in-Some.body.now c.extend.new.body c.args.bytes.now
    c.as_str.ensures.text (file_apart m c.args.path.now c.requires) ((c.get_mut.follows.holds c.extend.new.body).3 (search rules)) held) c.extend.ensures.ok

pub returns-clause-err : goal.returns-clause-err
returns-clause-err c =
    let m = c.args.nodes.now in
    let held = ap option_copied_mut (sym c.in-Some.is) ∙ c.get_mut.ensures.value in
    on_err c.extend.result (kept_node m (c.get_mut.follows.lender c.extend.new.body) c.as_str.result.now c.args.path.now c.in-Some.body.now c.extend.new.body
    c.as_str.ensures.text (file_apart m c.args.path.now c.requires) ((c.get_mut.follows.holds c.extend.new.body).3 (search rules)) held) c.extend.ensures.err
