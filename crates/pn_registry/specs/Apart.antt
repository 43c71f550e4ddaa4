-- Files of which none lies above another one.
use Rattle.std.specs.Prelude.{◌≡◌, ◌⊎◌, ℕ, List, [], ◌∷◌, ◌++◌}
use Rattle.std.specs.List.{Contains}
use Rattle.pn_text.specs.Path.{Path, text_below, SpellsParts}
use Rattle.pn_registry.specs.Files.{File}

-- no file lies above another one
abbrev pub AreApart : List File → Type 0
AreApart files = (s f : Path) (m n : ℕ) → Contains files (f, m) → Contains files (s ++ f, n) → s ≡ []

-- The second list has files of the first one of which none lies above another one, and all where that was so.
pub record KeepsApart (files kept : List File) : Type 0 where
  pub apart : AreApart kept
  pub from : (f : File) → Contains kept f → Contains files f
  pub whole : AreApart files → kept ≡ files

-- the path of one of the files has this text, behind a slash
abbrev pub HasText : List File → List ℕ → Type 0
HasText files text = (f : File) × Contains files f × (text_below f.0 ≡ text)

-- The text of one of the files and a slash are the front of this one.
pub record HasAbove (files : List File) (text : List ℕ) : Type 0 where
  pub front : List ℕ
  pub rest : List ℕ
  pub stands : HasText files (47 ∷ front)
  pub is : text ≡ front ++ 47 ∷ rest

-- A file was looked at, and taken in where none of the files before it lies above it.
pub record TakesApart (kept kept' : List File) (f : File) : Type 0 where
  pub text : List ℕ
  pub spelled : SpellsParts text f.0
  pub takes : (HasAbove kept text × (kept' ≡ kept)) ⊎ ((HasAbove kept text → ⊥) × (kept' ≡ kept ++ f ∷ []))
