use Rattle.std.proofs.Common.{ap, ◌∙◌}
use Rattle.pn_text.proofs.Results.{if_ok}
use Rattle.pn_asked.specs.Spots.{fits_at, least_spot, spots_in}
use Rattle.pn_asked.proofs.SpotLemmas.{spots_three}
use Rattle.pn_asked.proofs.catalogs.worst_in.Goals as goal

pub returns : goal.returns
returns c =
    let good = fits_at c.args.locked.now c.args.asked.now in
    let i = c.args.importer.now in
    if_ok c.worst_named-3.result (λ s e. spots_three good (spots_in i.dependencies) (spots_in i.dev) (spots_in i.optional) c.args.found c.in_ok-first.first c.in_ok-second.second s
    (c.in_ok-first.ensures ∙ ap (λ ds. least_spot good c.args.found (spots_in ds)) c.as_slice.ensures)
    (c.in_ok-second.ensures ∙ ap (λ ds. least_spot good c.in_ok-first.first (spots_in ds)) c.as_slice-2.ensures)
    (e ∙ ap (λ ds. least_spot good c.in_ok-second.second (spots_in ds)) c.as_slice-3.ensures)) c.worst_named-3.ensures
