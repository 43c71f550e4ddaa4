-- A tree settles which files a package has, or why they aren't told.
use Rattle.std.specs.Prelude.{◌≡◌, List}
use Rattle.std.specs.List.{All}
use Rattle.pn_text.specs.Path.{Path}
use Rattle.pn_fs.specs.Tree.{Tree, IsTree}
use Rattle.pn_registry.specs.Below.{HasFew}
use Rattle.pn_registry.specs.Files.{File, IsRising, IsFilesOf, IsClean}
use Rattle.pn_registry.specs.FilesFaults.{FilesCause, entry_limit}
use Rattle.pn_registry.specs.declared.contents.FilesFault.{FilesFault}

-- No two causes stand.
abbrev pub FilesCauseLaw : Type 0
FilesCauseLaw = (t : Tree) → IsTree t → (at : Path) (fault other : FilesFault) → FilesCause at t fault → FilesCause at t other → fault ≡ other

-- Where the files are told, no cause stands.
abbrev pub FilesPassedLaw : Type 0
FilesPassedLaw = (t : Tree) (at : Path) (files : List File) (fault : FilesFault) → IsFilesOf t at files → HasFew t at entry_limit → All IsClean files → FilesCause at t fault → ⊥

-- The files are one list.
abbrev pub FilesSameLaw : Type 0
FilesSameLaw = (t : Tree) (at : Path) (files others : List File) → IsFilesOf t at files → IsFilesOf t at others → IsRising files → IsRising others → files ≡ others
