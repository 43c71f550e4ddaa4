use Rattle.pn_text.proofs.Results.{if_ok}
use Rattle.pn_tree.proofs.OutcomeLemmas.{link_is}
use Rattle.pn_tree.proofs.texts.relative.Goals as goal

pub returns : goal.returns
returns c =
    let found = rw c.in-Some.is at c.in_ok-folder.ensures in
    if_ok c.relative_to.result (λ t h. link_is c.args.place.now c.in-Some.folder c.args.to.now t found.0 found.1 c.requires.short h) c.relative_to.ensures
