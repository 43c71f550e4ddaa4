-- What a plain graph keeps.
use Rattle.std.specs.Prelude.{ℕ, ◌&&◌, not, nat_lt, Bool, true, List, [], ◌∷◌, length, map}
use Rattle.std.specs.List.{list_all, list_any}
use Rattle.std.specs.Str.{bytes_eq}
use Rattle.std.specs.Cmp.Lexicographic.{slice_cmp}
use Rattle.std.specs.Ordering.{nat_cmp, is_lt}
use Rattle.pn_text.specs.Ids.{id_name}
use Rattle.pn_text.specs.declared.index.ProjIx.{ProjIx}
pub use Rattle.pn_graph.specs.declared.peer.Peer.{Peer}
pub use Rattle.pn_graph.specs.declared.links.At.{At}
pub use Rattle.pn_graph.specs.declared.links.At.TheVariants.{Project as to_project, Package as to_package}
pub use Rattle.pn_graph.specs.declared.links.Dep.{Dep}
pub use Rattle.pn_graph.specs.declared.links.Auto.{Auto}
pub use Rattle.pn_graph.specs.declared.links.Project.{Project}
pub use Rattle.pn_graph.specs.declared.links.Package.{Package}

-- each name is below the next
abbrev pub rises : List (List ℕ) → Bool
rises [] = true
rises (x ∷ []) = true
rises (x ∷ y ∷ ys) = is_lt (slice_cmp nat_cmp x y) && rises (y ∷ ys)

abbrev pub has_name : List ℕ → List (List ℕ) → Bool
has_name n ns = list_any (bytes_eq n) ns

abbrev pub distinct : List (List ℕ) → Bool
distinct [] = true
distinct (i ∷ is) = not (has_name i is) && distinct is

abbrev pub aliases : List Dep → List (List ℕ)
aliases deps = map (λ (d : Dep). d.alias) deps

abbrev pub peer_names : List Peer → List (List ℕ)
peer_names peers = map (λ (r : Peer). r.name) peers

-- the node is one of that many projects, or of that many packages
abbrev pub in_range : ℕ → ℕ → At → Bool
in_range projects packages (to_project q) = nat_lt q.0 projects
in_range projects packages (to_package k) = nat_lt k.0 packages

abbrev pub are_deps : ℕ → ℕ → List Dep → Bool
are_deps projects packages deps = rises (aliases deps) && list_all (λ (d : Dep). in_range projects packages d.to) deps

abbrev pub are_autos : ℕ → List Auto → Bool
are_autos packages autos = rises (map (λ (a : Auto). a.name) autos) && list_all (λ (a : Auto). nat_lt a.to.0 packages) autos

abbrev pub is_project : ℕ → ℕ → Project → Bool
is_project projects packages p = are_deps projects packages p.deps && are_autos packages p.autos

-- Its own name is neither alias nor peer, and no name is both.
abbrev pub has_own_names : List ℕ → List (List ℕ) → List (List ℕ) → Bool
has_own_names name deps peers = not (has_name name deps) && not (has_name name peers) && list_all (λ r. not (has_name r deps)) peers

abbrev pub is_package : ℕ → ℕ → Package → Bool
is_package projects packages p =
    are_deps projects packages p.deps && rises (peer_names p.peers) && has_own_names (id_name p.id) (aliases p.deps) (peer_names p.peers)

-- Fewer than 2^32 projects and packages, of distinct folders and ids, with their links.
abbrev pub are_nodes : List Project → List Package → Bool
are_nodes projects packages =
    nat_lt (length projects) 4294967296 && nat_lt (length packages) 4294967296
    && rises (map (λ (p : Project). p.folder) projects) && distinct (map (λ (p : Package). p.id) packages)
    && list_all (is_project (length projects) (length packages)) projects && list_all (is_package (length projects) (length packages)) packages

abbrev pub is_graph : ProjIx → List Project → List Package → Bool
is_graph root projects packages = nat_lt root.0 (length projects) && are_nodes projects packages
