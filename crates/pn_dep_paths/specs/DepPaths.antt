-- The dep paths of instances.
use Rattle.std.specs.Prelude.{◌≡◌, ℕ, List}
use Rattle.pn_deppath.specs.Ordinals.{with_ordinals}
use Rattle.pn_graph.specs.declared.plain.Plain.{Plain}
use Rattle.pn_instances.specs.declared.instances.Instances.{Instances}
use Rattle.pn_dep_paths.specs.BaseTexts.{AreBaseTexts}
use Rattle.pn_dep_paths.specs.Converted.{folders_of, outer_instances}

-- The base texts of instances, of which the second and later of equal ones have ordinals.
pub record AreDepPaths (plain : Plain) (instances : Instances) (paths : List (List ℕ)) : Type 0 where
  pub texts : List (List ℕ)
  pub base : AreBaseTexts (folders_of plain.projects) (outer_instances plain.packages instances.packages instances.links) texts
  pub is : paths ≡ with_ordinals texts
