use Rattle.pn_yaml_print.proofs.PlainRuns.{word_test}
use Rattle.pn_yaml_print.proofs.word.is_word.Goals as goal

pub returns : goal.returns
returns c = word_test _ c.args.text.now c.args.word.now c.requires c.eq_ignore_ascii_case.ensures.test
