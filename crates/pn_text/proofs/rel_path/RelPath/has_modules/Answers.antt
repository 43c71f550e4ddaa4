use Rattle.std.proofs.Common.{◌∙◌, ap}
use Rattle.pn_text.specs.Path.{tail_of}
use Rattle.pn_text.specs.Name.{holds_modules}
use Rattle.pn_text.proofs.Paths.{tail_of-spelled}
use Rattle.pn_text.proofs.rel_path.RelPath.has_modules.Goals as goal

pub returns : goal.returns
returns c =
    c.holds_modules.ensures ∙ ap (λ text. holds_modules (tail_of text)) c.as_bytes.ensures.value ∙ ap holds_modules (tail_of-spelled c.as_str.result.now c.args.self.now c.as_str.ensures.text)
