-- Groups and edges as the code makes them.
use Rattle.std.specs.Prelude.{◌≡◌, ◌==◌, ◌+◌, ◌<◌, ◌++◌, ℕ, List, [], ◌∷◌, Option, Some, None, length, get_or, slice_get, if◌then◌else◌}
use Rattle.std.specs.List.{Contains}
use Rattle.pn_components.specs.Graphs.{Edges}
use Rattle.pn_deppath.specs.Groups.{project_text}
use Rattle.pn_outer.specs.declared.instance.Goal.{Goal}
use Rattle.pn_outer.specs.declared.instance.Goal.TheVariants.{Project as to_project, Inst as to_instance}
use Rattle.pn_outer.specs.declared.instance.Instance.{Instance}
use Rattle.pn_outer.specs.declared.instance.Link.{Link}
use Rattle.pn_outer.specs.Instances.{IsThere}
use Rattle.pn_dep_paths.specs.BaseTexts.{IsBaseText, id_at, in_parentheses, text_at}

-- what a pair's group holds, where instances of one number lead to each other
abbrev pub held : List (List ℕ) → List Instance → List ℕ → List (List ℕ) → ℕ → List ℕ → Goal → List ℕ
held folders instances numbers texts i name (to_project q) = project_text name (text_at folders q.0)
held folders instances numbers texts i name (to_instance j) = if get_or numbers j.0 0 == get_or numbers i 0 then id_at instances j.0 else text_at texts j.0

abbrev pub group_of : List (List ℕ) → List Instance → List ℕ → List (List ℕ) → ℕ → Link → List ℕ
group_of folders instances numbers texts i pair = in_parentheses (held folders instances numbers texts i pair.name pair.to)

abbrev pub group_or_none : List (List ℕ) → List Instance → List ℕ → List (List ℕ) → ℕ → Option Link → List ℕ
group_or_none folders instances numbers texts i None = []
group_or_none folders instances numbers texts i (Some pair) = group_of folders instances numbers texts i pair

-- the group of the pair of a number
abbrev pub group_at : List (List ℕ) → List Instance → List ℕ → List (List ℕ) → List Link → ℕ → ℕ → List ℕ
group_at folders instances numbers texts pairs i p = group_or_none folders instances numbers texts i (slice_get pairs p)

-- the pair of a number leads to what is there
abbrev pub IsPairThere : ℕ → ℕ → Option Link → Type 0
IsPairThere instances projects None = ⊥
IsPairThere instances projects (Some pair) = IsThere instances projects pair.to

-- ---- edges

abbrev pub edge_to : ℕ → Goal → Edges
edge_to i (to_project q) = []
edge_to i (to_instance j) = (i, j.0) ∷ []

abbrev pub edge_or_none : ℕ → Option Link → Edges
edge_or_none i None = []
edge_or_none i (Some pair) = edge_to i pair.to

-- the edges of an instance, by the numbers of its pairs
abbrev pub row_edges : List Link → ℕ → List ℕ → Edges
row_edges pairs i [] = []
row_edges pairs i (p ∷ ps) = edge_or_none i (slice_get pairs p) ++ row_edges pairs i ps

-- the edges of instances from a place on
abbrev pub edges_from : List Link → ℕ → List (List ℕ) → Edges
edges_from pairs i [] = []
edges_from pairs i (row ∷ rows) = row_edges pairs i row ++ edges_from pairs (i + 1) rows

-- each number is that of a pair
abbrev pub ArePairs : List Link → List ℕ → Type 0
ArePairs pairs row = (p : ℕ) → Contains row p → p < length pairs

-- ---- texts

-- these have their base texts
abbrev pub AreWritten : List (List ℕ) → List Instance → (ℕ → Type 0) → List (List ℕ) → Type 0
AreWritten folders instances These texts = (i : ℕ) → These i → IsBaseText folders instances texts i (text_at texts i)

-- an instance with a number below that one
abbrev pub IsBelow : List Instance → List ℕ → ℕ → ℕ → Type 0
IsBelow instances numbers c i = (i < length instances) × (get_or numbers i 0 < c)

-- the row of a number has exactly the places with it
pub record AreMembers (numbers : List ℕ) (rows : List (List ℕ)) : Type 0 where
  pub right : (c i : ℕ) → Contains (get_or rows c []) i → (i < length numbers) × (get_or numbers i 0 ≡ c)
  pub all : (c i : ℕ) → i < length numbers → get_or numbers i 0 ≡ c → Contains (get_or rows c []) i
