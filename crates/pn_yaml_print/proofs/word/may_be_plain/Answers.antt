use Rattle.std.proofs.Common.{◌≡◌, false, ◌∙◌}
use Rattle.pn_yaml_print.specs.PrintedScalars.{begins_wrong}
use Rattle.pn_yaml_print.proofs.PlainRuns.{plain_run}
use Rattle.pn_yaml_print.proofs.word.may_be_plain.Goals as goal

pub returns-then-not-begins_wrong : goal.returns-then-not-begins_wrong
returns-then-not-begins_wrong c =
    let begun : begins_wrong c.args.text.now ≡ false = cc in
    c.stays_plain.ensures ∙ plain_run c.args.flow c.args.text.now begun
