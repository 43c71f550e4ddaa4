use Rattle.std.proofs.Common.{◌∙◌, sym}
use Rattle.pn_text.proofs.Results.{if_ok}
use Rattle.pn_choice.proofs.VersionLemmas.{at_place_of, past_end, parsed_there}
use Rattle.pn_choice.proofs.version.id_at.Goals as goal

pub id_of-requires : goal.id_of-requires
id_of-requires c = parsed_there c.args.versions.now c.args.at.0 c.in-Some.version.now c.in-Some.ensures.lookup.0 c.in-Some.ensures.lookup.1 c.requires

pub returns-in-Some : goal.returns-in-Some
returns-in-Some c =
    if_ok c.id_of.result (λ id is. is ∙ sym (at_place_of c.args.name.now c.args.versions.now c.args.at.0 c.in-Some.version.now c.in-Some.ensures.lookup.0 c.in-Some.ensures.lookup.1)) c.id_of.ensures

pub returns-in-None : goal.returns-in-None
returns-in-None c = sym (past_end c.args.name.now c.args.versions.now c.args.at.0 c.in-None.ensures.lookup.0)
