-- What the projects ask for.
use Rattle.std.proofs.Common.{◌≡◌, ◌∷◌, ℕ, suc, Bool, List, [], refl, ap, map}
use Rattle.pn_manifest.specs.Says.{said_of}
use Rattle.pn_walk.specs.Starts.{turns_from}
use Rattle.pn_plain.specs.Plains.{AreStarts, no_more, one_more}
use Rattle.pn_plain.specs.Seen.{a_project, one_map, seen, no_hook, no_rules}
use Rattle.pn_choice.specs.Given.{folder_of, project_of, asked_by, inputs_by}
use Rattle.pn_choice.specs.Graphs.{folders_of}
use Rattle.pn_choice.specs.declared.project.ProjectAt.{ProjectAt}
use Rattle.pn_walk.specs.Wants.{Id}

starts_from : (auto : Bool) (k : ℕ) (ps : List ProjectAt) → AreStarts no_hook no_rules auto k (map project_of ps) (turns_from k (map (asked_by auto) ps))
starts_from auto k [] = no_more k
starts_from auto k (p ∷ ps) =
    one_more k (project_of p) (map project_of ps) (seen a_project (said_of p.manifest)) (turns_from (suc k) (map (asked_by auto) ps))
    (record { overridden = one_map a_project (said_of p.manifest); by_rules = refl; is = refl }) (starts_from auto (suc k) ps)

pub starts : (auto : Bool) (ps : List ProjectAt) → AreStarts no_hook no_rules auto 0 (map project_of ps) (turns_from 0 (map (asked_by auto) ps))
starts auto ps = starts_from auto 0 ps

-- the folders of the inputs are those of the projects
pub folders : (ps : List ProjectAt) (held : List Id) (auto : Bool) → folders_of (inputs_by ps held auto) ≡ map folder_of ps
folders [] held auto = refl
folders (p ∷ ps) held auto = ap (λ (l : List (List ℕ)). p.folder ∷ l) (folders ps held auto)
