use Rattle.pn_text.proofs.Results.{if_ok}
use Rattle.pn_layout.specs.Layout.{layout_of}
use Rattle.pn_layout.specs.Store.{home_of}
use Rattle.pn_layout.proofs.PathLemmas.{closed, has_top}
use Rattle.pn_layout.proofs.plan.layout.Goals as goal

pub returns-in-Some-clause-closed : goal.returns-in-Some-clause-closed
returns-in-Some-clause-closed c =
    let m = c.args.modules.now in
    if_ok c.layout_in.result (λ plan h. closed (layout_of m c.args.direct.now c.args.packages.now c.args.listings.now) m plan (has_top (home_of m) m c.args.direct.now c.args.packages.now c.args.listings.now c.requires.direct c.requires.sound c.requires.listings) h) c.layout_in.ensures.entries
