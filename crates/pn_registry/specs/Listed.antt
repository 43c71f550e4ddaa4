-- What a file of a package is seen as.
use Rattle.std.specs.Prelude.{ℕ, List, ◌++◌}
use Rattle.pn_text.specs.Path.{Path, text_below}
use Rattle.pn_registry.specs.Files.{File, IsShortBelow, IsOneLine}
use Rattle.pn_registry.specs.declared.list.PackageFile.{PackageFile}

abbrev pub file_of : PackageFile → File
file_of f = (f.path, f.length)

-- its path's text, behind a slash
abbrev pub text_of : PackageFile → List ℕ
text_of f = text_below f.path

-- the same with the whole path
abbrev pub placed : Path → PackageFile → File
placed at f = (f.path ++ at, f.length)

-- Its path in the registry isn't too long for one, and the one below the folder has no line feed.
pub record IsFitFile (at : Path) (f : PackageFile) : Type 0 where
  pub short : IsShortBelow at (file_of f)
  pub line : IsOneLine (file_of f)
