use Rattle.std.proofs.Common.{◌∙◌, ap}
use Rattle.semver.specs.Identifiers.{parts_of}
use Rattle.pn_text.specs.Ids.{id_of}
use Rattle.pn_text.proofs.Results.{if_ok}
use Rattle.pn_choice.proofs.VersionLemmas.{parsed_id}
use Rattle.pn_choice.proofs.version.id_of.Goals as goal

pub returns : goal.returns
returns c =
    if_ok c.of.result (λ id is. is ∙ ap (id_of c.args.name.now) (c.as_str.ensures.value ∙ c.in_ok-text.ensures.ok) ∙ parsed_id c.args.name.now (parts_of c.args.version.now) c.requires) c.of.ensures
