use Rattle.std.proofs.Common.{ap, ◌∙◌}
use Rattle.std.specs.Prelude.{is_some, slice_get}
use Rattle.pn_graph.specs.Lookups.{package_deps}
use Rattle.pn_dep_paths.proofs.ConvertLemmas.{some_alias}
use Rattle.pn_dep_paths.proofs.convert.is_alias.Goals as goal

pub returns : goal.returns
returns c = c.is_some.ensures ∙ ap (λ o. is_some o) c.dep.ensures ∙ some_alias c.args.name.now (package_deps (slice_get c.args.plain.now.packages c.args.at.0))
