use Rattle.std.proofs.Common.{◌∙◌, ap, map}
use Rattle.pn_asked.specs.Asked.{AskedLists, asked}
use Rattle.pn_locking.specs.Projects.{project_of}
use Rattle.pn_locking.proofs.AskedLemmas.{are_apart, are_asked, have_folders, is_asked_of}
use Rattle.pn_locking.proofs.folders.asked.Goals as goal

pub of-requires : goal.of-requires
of-requires c = are_asked c.args.auto_peers c.args.overrides c.args.catalogs c.args.projects.now c.in_ok-all.all c.in_ok-all.ensures c.requires.overrides c.requires.folders c.requires.rising

pub returns-clause-seen : goal.returns-clause-seen
returns-clause-seen c =
    is_asked_of c.args.auto_peers c.args.overrides c.args.catalogs (map project_of c.args.projects.now) c.of.result (c.of.ensures ∙ ap (asked c.args.auto_peers c.args.overrides c.args.catalogs) c.in_ok-all.ensures)

pub returns-clause-apart : goal.returns-clause-apart
returns-clause-apart c = are_apart c.args.auto_peers c.args.projects.now c.of.result.projects (ap (λ (a : AskedLists). a.projects) c.of.ensures ∙ c.in_ok-all.ensures) c.requires.rising

pub returns-clause-folders : goal.returns-clause-folders
returns-clause-folders c = λ h. have_folders c.args.auto_peers c.args.projects.now c.of.result.projects (ap (λ (a : AskedLists). a.projects) c.of.ensures ∙ c.in_ok-all.ensures) h
