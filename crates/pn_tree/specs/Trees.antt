-- What is to stand at and below managed folders.
use Rattle.std.specs.Prelude.{ℕ, List, [], ◌∷◌, ◌++◌, map, Option, Some, None}
use Rattle.std.specs.List.{Contains}
use Rattle.pn_text.specs.Path.{Path}
use Rattle.pn_text.specs.Name.{name_path, modules}
use Rattle.pn_text.specs.Relative.{parent_of, IsRelative}
use Rattle.pn_fs.specs.Tree.{Entry, folder, file, link, Tree}
use Rattle.pn_digest.specs.declared.planned.Planned.{Planned}
use Rattle.pn_digest.specs.declared.planned.Planned.TheVariants.{Folder, Bytes, Stored, Link}
use Rattle.pn_node.specs.Plan.{Instance as Built, TopLink, Plan, marker_name}
use Rattle.pn_tree.specs.declared.instance.Instance.{Instance}
use Rattle.pn_tree.specs.declared.instance.Target.{Target}
use Rattle.pn_tree.specs.declared.instance.Top.{Top}

-- a managed folder, and the text of its marker
abbrev pub Managed : Type 0
Managed = Path × List ℕ

-- The virtual store's folder, the managed folders with their markers, the instances, and the links outside them.
pub record Layout : Type 0 where
  pub store : Path
  pub managed : List Managed
  pub instances : List Instance
  pub tops : List Top

abbrev pub laid : Path → List Managed → List Instance → List Top → Layout
laid store managed instances tops = record { store = store; managed = managed; instances = instances; tops = tops }

-- the folder that an instance's package and its links stand in
abbrev pub beside : Path → Instance → Path
beside store g = modules ∷ g.dir ∷ store

-- the package folder of an instance
abbrev pub home : Path → Instance → Path
home store g = name_path g.name ++ beside store g

-- where a link of an instance stands, and where another one does
abbrev pub link_place : Path → Instance → Target → Path
link_place store g k = name_path k.name ++ beside store g

abbrev pub top_place : Top → Path
top_place t = name_path t.name ++ t.holder

-- What is planned for its own sake. A link's text is the relative path from the link's folder.
pub data IsLeaf (l : Layout) : Path → Planned → Type 0 where
  marker : (m : Managed) → Contains l.managed m → IsLeaf l (marker_name ∷ m.0) (Bytes m.1)
  own : (g : Instance) → Contains l.instances g → IsLeaf l (home l.store g) Folder
  content : (g : Instance) (f : Path) (d : List ℕ) → Contains l.instances g → Contains g.files (f, d) → IsLeaf l (f ++ home l.store g) (Stored d)
  dependency : (g : Instance) (k : Target) (text : List ℕ) → Contains l.instances g → Contains g.links k → IsRelative (parent_of (link_place l.store g k)) k.to text → IsLeaf l (link_place l.store g k) (Link text)
  top : (t : Top) (text : List ℕ) → Contains l.tops t → IsRelative (parent_of (top_place t)) t.to text → IsLeaf l (top_place t) (Link text)

-- What is planned: the managed folders, the leaves, and the folders on the way from a managed folder to a leaf.
pub data IsEntry (l : Layout) : Path → Planned → Type 0 where
  managed : (m : Managed) → Contains l.managed m → IsEntry l m.0 Folder
  leaf : (q : Path) (w : Planned) → IsLeaf l q w → IsEntry l q w
  between : (m : Managed) (r below : Path) (x : List ℕ) (w : Planned) → Contains l.managed m → IsLeaf l (below ++ x ∷ (r ++ m.0)) w → IsEntry l (r ++ m.0) Folder

-- a file's bytes; none where there is no file
abbrev pub file_bytes : Option Entry → List ℕ
file_bytes None = []
file_bytes (Some folder) = []
file_bytes (Some (file bytes)) = bytes
file_bytes (Some (link text)) = []

-- an instance with the bytes that a tree has
abbrev pub built_instance : Tree → Path → Instance → Built
built_instance u store g = record {
  dir = g.dir;
  name = g.name;
  files = map (λ (f : Path × List ℕ). (f.0, file_bytes (u (f.0 ++ home store g)))) g.files;
  links = map (λ (k : Target). (k.name, k.to)) g.links;
}

abbrev pub built_top : Top → TopLink
built_top t = record { holder = t.holder; name = t.name; target = t.to }

-- the build of a layout, with the bytes that a tree has
abbrev pub build_of : Tree → Layout → Plan
build_of u l = record {
  store = l.store;
  managed = map (λ (m : Managed). m.0) l.managed;
  markers = l.managed;
  instances = map (built_instance u l.store) l.instances;
  tops = map built_top l.tops;
}
