use Rattle.std.proofs.Common.{◌∙◌, string_bytes}
use Rattle.pn_text.proofs.Results.{if_ok}
use Rattle.pn_layout.proofs.HomeLemmas.{home_spelled}
use Rattle.pn_layout.proofs.homes.home_text.Goals as goal

pub returns : goal.returns
returns c = if_ok c.way.result (λ t h. home_spelled (string_bytes t) c.stem.result.now c.as_str.result.now c.as_str-2.result.now c.args.modules.now c.args.id.now h c.stem.ensures.stem c.stem.ensures.good
    (c.as_str.ensures.value ∙ c.in_ok-dir.ensures.text) (c.as_str-2.ensures.text ∙ c.name.ensures) c.dir_text.ensures.id) c.way.ensures
