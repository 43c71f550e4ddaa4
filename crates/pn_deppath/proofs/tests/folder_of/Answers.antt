use Rattle.std.proofs.Common.{sym, ◌∙◌}
use Rattle.pn_deppath.proofs.FolderLemmas.{one_ascii, one_distinct}
use Rattle.pn_deppath.proofs.tests.folder_of.Goals as goal

pub folder_names-requires-clause-ascii : goal.folder_names-requires-clause-ascii
folder_names-requires-clause-ascii c =
    one_ascii c.args.path.now c.in_ok-of.field-0 c.deref.result.now (sym c.in_ok-known.ensures ∙ c.if-not-known.false) c.in_ok-of.ensures
    (c.deref.ensures.value ∙ c.in_ok-paths.ensures.items)

pub folder_names-requires-clause-distinct : goal.folder_names-requires-clause-distinct
folder_names-requires-clause-distinct c = one_distinct c.in_ok-of.field-0 c.deref.result.now (c.deref.ensures.value ∙ c.in_ok-paths.ensures.items)
