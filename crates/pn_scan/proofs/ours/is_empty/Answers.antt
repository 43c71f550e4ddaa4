use Rattle.std.proofs.Common.{◌==◌, ap, ◌∙◌, length}
use Rattle.std.specs.Bool.{MatchBool}
use Rattle.pn_fs.specs.Calls.{IsListing}
use Rattle.pn_text.proofs.Results.{for_some, if_some}
use Rattle.pn_scan.specs.Managed.{HasEntry}
use Rattle.pn_scan.proofs.AreLookedLemmas.{empty_listing}
use Rattle.pn_scan.proofs.ours.is_empty.Goals as goal

pub returns-in-Ok-clause-empty : goal.returns-in-Ok-clause-empty
returns-in-Ok-clause-empty g c =
    let listing = for_some (λ t. IsListing t c.args.path.now c.in-Ok.names.items) _ c.in-Ok.ensures.names in
    if_some (λ t. MatchBool c.is_empty.result (HasEntry t c.args.path.now → ⊥) (HasEntry t c.args.path.now)) _ (λ t told.
    empty_listing t c.args.path.now c.in-Ok.names.items c.is_empty.result (listing t told) (c.is_empty.ensures ∙ ap (λ l. length l == 0) c.as_slice.ensures.value))
