-- What a small lock is made of belongs together.
use Rattle.std.proofs.Common.{◌≡◌, ◌∙◌, ℕ, List, [], ◌∷◌, length, true, refl, sym, ap, subst}
use Rattle.std.specs.List.{AllByRecursion}
use Rattle.std.specs.List.Sorted.{IsStrictlySortedBy}
use Rattle.pn_lock.specs.Folders.{is_folder}
use Rattle.pn_asked.specs.declared.asked.AskedProject.{AskedProject}
use Rattle.pn_asked.specs.Asked.{AskedLists, IsAsked, asked}
use Rattle.pn_graph.specs.declared.plain.Plain.{Plain}
use Rattle.pn_lock_make.specs.Made.{IsApart}
use Rattle.pn_lock_make.specs.Rows.{two_packages, two_project, two_root}
use Rattle.pn_lock_make.specs.Singles.{BelongSingly}

pub two_asked : IsAsked (asked true [] [] (two_project ∷ []))
unfolding IsStrictlySortedBy
two_asked = record { overrides = tt; folders = (tt, tt); projects = (record { dependencies = (tt, tt); dev = tt; optional = tt }, tt) }

pub two_belong : (a : AskedLists) (p : Plain) (integrities : List (List ℕ)) → a.projects ≡ two_project ∷ [] → p.projects ≡ two_root ∷ [] → p.packages ≡ two_packages → length integrities ≡ 2
    → BelongSingly a p integrities
two_belong a p integrities asks roots packages many = record {
  integrities_count = many ∙ sym (ap length packages);
  projects_count = ap length asks ∙ sym (ap length roots);
  folders = subst (λ (qs : List AskedProject). AllByRecursion (λ (q : AskedProject). is_folder q.folder ≡ true) qs) (sym asks) (refl, tt);
  apart = subst (λ (qs : List AskedProject). AllByRecursion IsApart qs) (sym asks) (record { dev = tt; optional = tt }, tt);
}
