use Rattle.pn_text.specs.Name.{name_path}
use Rattle.pn_text.proofs.NameTexts.{name_of, names_spell}
use Rattle.pn_text.proofs.name.PkgName.as_path.Goals as goal

pub of_parts-requires-clause-good : goal.of_parts-requires-clause-good
of_parts-requires-clause-good c = (name_path c.as_str.result.now, names_spell _ (name_of _ c.as_str.ensures.name))
