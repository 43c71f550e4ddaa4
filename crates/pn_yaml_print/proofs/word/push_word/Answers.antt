use Rattle.std.proofs.Common.{◌≡◌, ◌++◌, rules}
use Rattle.std.specs.Prelude.{OnOk}
use Rattle.std.proofs.lemmas.Result.{on_ok_weaker}
use Rattle.pn_yaml_print.specs.PrintedScalars.{word_text}
use Rattle.pn_yaml_print.proofs.PrintedUtf8.{word_kept}
use Rattle.pn_yaml_print.proofs.word.push_word.Goals as goal

pub returns-in_ok-extend_from_slice-clause-utf8 : goal.returns-in_ok-extend_from_slice-clause-utf8
returns-in_ok-extend_from_slice-clause-utf8 c =
    let a = c.args in
    word_kept a.out.now.items c.extend_from_slice.new.self.items a.flow a.text.now a.plain c.utf8.text (search rules)

pub returns-then-holds_control-clause-utf8 : goal.returns-then-holds_control-clause-utf8
returns-then-holds_control-clause-utf8 c =
    let a = c.args in
    let text : OnOk c.push_double_quoted.result (c.push_double_quoted.new.out.items ≡ a.out.now.items ++ word_text a.flow a.text.now a.plain) = search rules in
    on_ok_weaker c.push_double_quoted.result (word_kept _ _ a.flow a.text.now a.plain c.utf8.text) text

pub returns-else-holds_control-clause-utf8 : goal.returns-else-holds_control-clause-utf8
returns-else-holds_control-clause-utf8 c =
    let a = c.args in
    let text : OnOk c.push_single_quoted.result (c.push_single_quoted.new.out.items ≡ a.out.now.items ++ word_text a.flow a.text.now a.plain) = search rules in
    on_ok_weaker c.push_single_quoted.result (word_kept _ _ a.flow a.text.now a.plain c.utf8.text) text
