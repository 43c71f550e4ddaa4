use Rattle.std.proofs.Common.{◌∙◌, ap, sym, ◌++◌}
use Rattle.pn_fs.proofs.Listings.{name_found, name_lacks}
use Rattle.pn_fs.proofs.list.name_below.Goals as goal

pub returns-in-Some : goal.returns-in-Some
returns-in-Some c =
    let h = c.in-Some.ensures.cases in
    c.only_name.ensures ∙ name_found c.args.front.now c.args.key.now c.in-Some.name.now (h.1.1 ∙ ap (λ t. c.args.front.now ++ t) (sym h.2))

pub returns-in-None : goal.returns-in-None
returns-in-None c = name_lacks c.args.front.now c.args.key.now c.in-None.ensures.cases
