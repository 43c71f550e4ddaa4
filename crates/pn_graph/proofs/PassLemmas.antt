-- Packages without the dependencies of those with an alias.
use Rattle.std.proofs.Common.{◌≡◌, ℕ, Bool, true, false, List, [], Option, Some, None, refl, ap, ◌∙◌}
use Rattle.std.specs.Prelude.{slice_get, option_map, if◌then◌else◌}
use Rattle.std.proofs.lemmas.Option.{slice_get-map}
use Rattle.pn_text.proofs.Members.{none_in}
use Rattle.pn_graph.specs.Graphs.{Dep, Package, aliases, has_name}
use Rattle.pn_graph.specs.Lookups.{package_deps}
use Rattle.pn_graph.specs.Reaches.{LeadsTo}
use Rattle.pn_graph.specs.Founds.{AreWithin}
use Rattle.pn_graph.specs.FreeNames.{deps_past, past_name, passing}

past_found : (n : List ℕ) (found : Option Package) → package_deps (option_map (past_name n) found) ≡ deps_past (Some n) (package_deps found)
past_found n None = refl
past_found n (Some p) = refl

pub passing_deps : (past : Option (List ℕ)) (packages : List Package) (i : ℕ) → package_deps (slice_get (passing past packages) i) ≡ deps_past past (package_deps (slice_get packages i))
passing_deps None packages i = refl
passing_deps (Some n) packages i = ap package_deps (slice_get-map (past_name n) packages i) ∙ past_found n (slice_get packages i)

some_leads : (b : Bool) (deps : List Dep) (k : ℕ) → LeadsTo (if b then [] else deps) k → LeadsTo deps k
some_leads true deps k l = absurd (none_in l.dep l.has)
some_leads false deps k l = l

pub past_leads : (past : Option (List ℕ)) (deps : List Dep) (k : ℕ) → LeadsTo (deps_past past deps) k → LeadsTo deps k
past_leads None deps k l = l
past_leads (Some n) deps k l = some_leads (has_name n (aliases deps)) deps k l

pub past_within : (past : Option (List ℕ)) (count : ℕ) (deps : List Dep) → AreWithin count deps → AreWithin count (deps_past past deps)
past_within past count deps h = λ k l. h k (past_leads past deps k l)
