use Rattle.std.proofs.Common.{ap, ◌∙◌}
use Rattle.std.specs.List.{list_all}
use Rattle.pn_deppath.specs.Folders.{is_ascii, plain_name}
use Rattle.pn_deppath.proofs.AsciiLemmas.{plain_ascii}
use Rattle.pn_deppath.proofs.names.plain_text.Goals as goal

pub text_of-requires : goal.text_of-requires
text_of-requires c =
    ap (list_all is_ascii) (c.deref.ensures.value ∙ c.in_ok-name.ensures ∙ ap plain_name (c.as_bytes.ensures.value ∙ c.as_str.ensures)) ∙ plain_ascii c.args.path.now c.requires
