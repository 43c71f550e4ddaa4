use Rattle.std.proofs.Common.{◌∙◌, ap, string_bytes}
use Rattle.pn_text.specs.Ids.{id_name}
use Rattle.pn_lock_layout.proofs.HomeLemmas.{home_spelled}
use Rattle.pn_lock_layout.proofs.homes.home_text.Goals as goal

pub returns : goal.returns
returns c = home_spelled (string_bytes c.in_ok-text.text) c.stem.result.now c.args.dir.now c.as_str.result.now c.args.store.now c.args.path.now c.in_ok-text.ensures c.stem.ensures.stem c.stem.ensures.good c.requires.dir
    (c.as_str.ensures.text ∙ c.in_ok-name.ensures ∙ ap id_name c.split_path.ensures.id) c.requires.path
