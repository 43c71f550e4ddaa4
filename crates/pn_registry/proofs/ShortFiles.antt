-- The paths of files in the registry aren't too long.
use Rattle.std.proofs.Common.{List, map, get_or}
use Rattle.std.specs.List.{All}
use Rattle.std.proofs.lemmas.List.Elements.{All-contains, All-map, Contains-get_or}
use Rattle.pn_text.specs.Path.{Path}
use Rattle.pn_registry.specs.Apart.{KeepsApart}
use Rattle.pn_registry.specs.Files.{File, IsRising, IsShortBelow, IsOneLine, KeepsPaths}
use Rattle.pn_registry.specs.FilesFaults.{IsNamed, NamesShort, is_modular, is_large}
use Rattle.pn_registry.specs.Listed.{file_of, IsFitFile}
use Rattle.pn_registry.specs.declared.contents.FilesFault.{FilesFault}
use Rattle.pn_registry.specs.declared.contents.FilesFault.TheVariants.{Modules, TooLarge, Entries, Fault, Memory}
use Rattle.pn_registry.specs.declared.list.PackageFile.{PackageFile}
use Rattle.pn_registry.proofs.Finds.{find_first}

-- what is so of the files that were found is so of those that are kept
all_kept : (P : File → Type 0) (items : List PackageFile) (list kept : List File) → KeepsPaths (map file_of items) list → KeepsApart list kept → All (λ f. P (file_of f)) items → All P kept
all_kept P items list kept paths apart h k d within =
    All-contains P (map file_of items) (get_or kept k d) (All-map P file_of items h) (paths.from (get_or kept k d) (apart.from (get_or kept k d) (Contains-get_or kept k d within)))

pub short_kept : (at : Path) (items : List PackageFile) (list kept : List File) → KeepsPaths (map file_of items) list → KeepsApart list kept → All (IsFitFile at) items → All (IsShortBelow at) kept
short_kept at items list kept paths apart h = all_kept (IsShortBelow at) items list kept paths apart (λ k d within. (h k d within).short)

pub lines_kept : (at : Path) (items : List PackageFile) (list kept : List File) → KeepsPaths (map file_of items) list → KeepsApart list kept → All (IsFitFile at) items → All IsOneLine kept
lines_kept at items list kept paths apart h = all_kept IsOneLine items list kept paths apart (λ k d within. (h k d within).line)

pub named_short : (at : Path) (files : List File) (e : FilesFault) → All (IsShortBelow at) files → IsRising files → IsNamed files e → NamesShort at e
named_short at files (Modules q) h rising n = All-contains (IsShortBelow at) files (q, n.0) h (find_first is_modular files (q, n.0) rising n.1).among
named_short at files (TooLarge q n) h rising is = All-contains (IsShortBelow at) files (q, n) h (find_first is_large files (q, n) rising is.1).among
named_short at files Entries h rising is = tt
named_short at files Fault h rising is = tt
named_short at files Memory h rising is = tt
