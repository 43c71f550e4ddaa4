-- What instances keep.
use Rattle.std.specs.Prelude.{ℕ, ◌&&◌, ◌==◌, nat_lt, Bool, List, length, map}
use Rattle.std.specs.List.{list_all}
use Rattle.pn_text.specs.declared.index.PkgIx.{PkgIx}
use Rattle.pn_graph.specs.Graphs.{rises}
use Rattle.pn_instances.specs.declared.goal.Goal.{Goal}
use Rattle.pn_instances.specs.declared.goal.Goal.TheVariants.{Project as to_project, Inst as to_inst}
use Rattle.pn_instances.specs.declared.links.Link.{Link}

abbrev pub link_names : List Link → List (List ℕ)
link_names links = map (λ (l : Link). l.name) links

-- the target is one of that many projects, or of that many instances
abbrev pub in_range : ℕ → ℕ → Goal → Bool
in_range projects instances (to_project q) = nat_lt q.0 projects
in_range projects instances (to_inst i) = nat_lt i.0 instances

abbrev pub are_links : ℕ → ℕ → List Link → Bool
are_links projects instances links = rises (link_names links) && list_all (λ (l : Link). in_range projects instances l.to) links

-- Fewer than 2^32 instances and projects, each with its links.
abbrev pub are_instances : List PkgIx → List (List Link) → List (List Link) → Bool
are_instances packages links roots =
    nat_lt (length packages) 4294967296 && nat_lt (length roots) 4294967296 && length links == length packages
    && list_all (are_links (length roots) (length packages)) links && list_all (are_links (length roots) (length packages)) roots
