use Rattle.std.proofs.Common.{List, [], true, sym, subst}
use Rattle.pn_spec.specs.declared.entry.CatalogEntry.{CatalogEntry}
use Rattle.pn_asked.specs.declared.asked.AskedProject.{AskedProject}
use Rattle.pn_asked.specs.Asked.{IsAsked, asked}
use Rattle.pn_asked.specs.Rows.{Row}
use Rattle.pn_lock_make.proofs.RowLemmas.{two_asked}
use Rattle.pn_lock_make.proofs.tests.asked.Goals as goal

pub of-requires : goal.of-requires
of-requires c =
    subst (λ (rows : List Row). IsAsked (asked true rows c.new-2.result c.in_ok-projects.projects)) (sym c.new.ensures)
    (subst (λ (es : List CatalogEntry). IsAsked (asked true [] es c.in_ok-projects.projects)) (sym c.new-2.ensures)
    (subst (λ (ps : List AskedProject). IsAsked (asked true [] [] ps)) (sym c.in_ok-projects.ensures) two_asked))
