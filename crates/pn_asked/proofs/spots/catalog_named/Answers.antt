use Rattle.std.proofs.Common.{subst, ◌∙◌}
use Rattle.pn_spec.specs.Refusals.{SpecRefused}
use Rattle.pn_asked.proofs.SpotLemmas.{read_named, refused_named}
use Rattle.pn_asked.proofs.spots.catalog_named.Goals as goal

pub returns-in-Ok : goal.returns-in-Ok
returns-in-Ok c = c.catalog_of.ensures ∙ read_named c.args.specifier.now c.in-Ok.spec c.in-Ok.ensures.spec

pub returns-in-Err-Unsupported : goal.returns-in-Err-Unsupported
returns-in-Err-Unsupported c = refused_named c.args.specifier.now (subst (SpecRefused c.args.specifier.now) c.in-Err-Unsupported.field-0-is c.in-Err-Unsupported.ensures.fault)
