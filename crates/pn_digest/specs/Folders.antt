-- The folders above files.
use Rattle.std.specs.Prelude.{◌≡◌, ◌↔◌, ℕ, Bool, List, ◌∷◌, ◌++◌, IsTrue}
use Rattle.std.specs.List.{Contains}
use Rattle.pn_digest.specs.Listing.{Entry, IsRelPath, rel_text}

-- the path with this text goes on from a folder with that text
abbrev pub IsFolderText : List ℕ → List ℕ → Type 0
IsFolderText path folder = (rest : List ℕ) × (path ≡ folder ++ 47 ∷ rest)

-- a folder with this text lies above one of the files
abbrev pub IsAbove : List Entry → List ℕ → Type 0
IsAbove files folder = (e : Entry) × Contains files e × IsFolderText (rel_text e.0) folder

-- A set has the texts of the folders above the files, and no others.
pub record HasFolders (files : List Entry) (has : List ℕ → Bool) : Type 0 where
  pub paths : (e : Entry) → Contains files e → IsRelPath e.0
  pub exact : (t : List ℕ) → IsTrue (has t) ↔ IsAbove files t
