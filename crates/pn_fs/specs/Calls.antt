-- What the calls of a file system say of the tree, where it is told.
use Rattle.std.specs.Prelude.{◌≡◌, ◌⊎◌, ℕ, ◌≤◌, List, ◌∷◌, ◌++◌, length, take, Option, Some, None, Result, OnOk, OnErr, IfSome, IsTrue}
use Rattle.std.specs.List.{Contains}
use Rattle.std.specs.List.Sorted.{IsStrictlySortedBy}
use Rattle.std.specs.Cmp.Lexicographic.{slice_cmp}
use Rattle.std.specs.Ordering.{nat_cmp}
use Rattle.std.specs.Option.{option_map}
use Rattle.pn_text.specs.declared.fault.DevFault.{DevFault}
use Rattle.pn_text.specs.declared.limits.TheConstants.{PATH_LIMIT}
use Rattle.pn_fs.specs.declared.kind.Kind.{Kind}
use Rattle.pn_fs.specs.declared.kind.Kind.TheVariants.{Absent, Folder, File, Link}
use Rattle.pn_text.specs.Path.{Path, is_part, path_text}
use Rattle.pn_fs.specs.Tree.{Entry, folder, file, link, Tree, put, grown, moved}
use Rattle.pn_fs.specs.Seen.{Seen}

abbrev pub kind_of : Option Entry → Kind
kind_of None = Absent
kind_of (Some folder) = Folder
kind_of (Some (file bytes)) = File (length bytes)
kind_of (Some (link text)) = Link

-- The names of a folder's entries, each once, in byte order.
pub record IsListing (t : Tree) (p : Path) (names : List (List ℕ)) : Type 0 where
  pub rising : IsStrictlySortedBy (slice_cmp nat_cmp) names
  pub stands : (x : List ℕ) → Contains names x → (e : Entry) × (t (x ∷ p) ≡ Some e)
  pub all : (x : List ℕ) (e : Entry) → t (x ∷ p) ≡ Some e → Contains names x

-- A name that makes, with its folder, the path of an entry.
pub record IsEntryName (p : Path) (x : List ℕ) : Type 0 where
  pub part : IsTrue (is_part x)
  pub short : length (path_text (x ∷ p)) ≤ PATH_LIMIT

abbrev pub told_put : Option Tree → Path → Entry → Option Tree
told_put shown p e = option_map (λ t. put t p (Some e)) shown

abbrev pub told_gone : Option Tree → Path → Option Tree
told_gone shown p = option_map (λ t. put t p None) shown

abbrev pub told_grown : Option Tree → Path → List ℕ → Option Tree
told_grown shown p more = option_map (λ t. put t p (grown (t p) more)) shown

abbrev pub told_moved : Option Tree → Path → Path → Option Tree
told_moved shown from to = option_map (λ t. moved t from to) shown

-- A call makes the tree this one. After a refusal it is as before or as after Ok.
pub record Makes {T : Type 0} (old made new : Option Tree) (result : Result T DevFault) : Type 0 where
  pub ok : OnOk result (new ≡ made)
  pub err : OnErr result ((new ≡ old) ⊎ (new ≡ made))

-- A file grows by these bytes. After a refusal it is as before, or a prefix of them was added.
pub record Grows {T : Type 0} (old : Option Tree) (p : Path) (bytes : List ℕ) (new : Option Tree) (result : Result T DevFault) : Type 0 where
  pub ok : OnOk result (new ≡ told_grown old p bytes)
  pub err : OnErr result ((new ≡ old) ⊎ ((k : ℕ) × (k ≤ length bytes) × (new ≡ told_grown old p (take k bytes))))

-- Where the tree is told, a call adds these paths to those that were written. After a refusal they
-- are added or not.
pub record Touches {T : Type 0} (old new : Seen) (paths : List Path) (result : Result T DevFault) : Type 0 where
  pub ok : IfSome old.tree (λ t. OnOk result (new.touched ≡ old.touched ++ paths))
  pub err : IfSome old.tree (λ t. OnErr result ((new.touched ≡ old.touched) ⊎ (new.touched ≡ old.touched ++ paths)))
