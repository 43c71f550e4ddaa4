-- What the files are refused for.
use Rattle.std.proofs.Common.{◌≡◌, ◌<◌, ◌≤◌, ℕ, List, true, false, Some, None, arith, get_or}
use Rattle.std.specs.Prelude.{Option, IfSome, nat_lt, find}
use Rattle.std.specs.List.{All}
use Rattle.std.proofs.lemmas.List.Elements.{Contains-get_or}
use Rattle.std.proofs.lemmas.Bool.Decides.{nat_tests}
use Rattle.pn_text.specs.Path.{Path}
use Rattle.pn_fs.specs.Tree.{Tree}
use Rattle.pn_fs.specs.Seen.{Seen}
use Rattle.pn_registry.specs.Below.{HasFew}
use Rattle.pn_registry.specs.Files.{File, IsRising, IsFilesOf, IsClean, file_limit}
use Rattle.pn_registry.specs.FilesFaults.{FilesRefused, NotWalked, IsModular, IsLong, IsPassed, IsNamed, IsFirstModules, IsFirstLarge, is_modular, is_large, entry_limit}
use Rattle.pn_registry.specs.declared.contents.FilesFault.{FilesFault}
use Rattle.pn_registry.specs.declared.contents.FilesFault.TheVariants.{Modules, TooLarge, Entries, Fault, Memory}
use Rattle.pn_registry.proofs.Finds.{find_none, find_first, first_in_tree, none_in_tree}

small : (n : ℕ) → nat_lt file_limit n ≡ false → n ≤ file_limit
small n h = grind (arith, nat_tests, h)

pub large : (n : ℕ) → nat_lt file_limit n ≡ true → file_limit < n
large n h = grind (arith, nat_tests, h)

-- where no file is named all of them are clean
pub all_clean : (files : List File) → IsPassed files → All IsClean files
all_clean files p k d within =
    let i = Contains-get_or files k d within in
    record { plain = find_none is_modular files p.plain (get_or files k d) i; short = small (get_or files k d).1 (find_none is_large files p.short (get_or files k d) i) }

pub walk_refused : (at : Path) (old new : Seen) (e : FilesFault) → NotWalked at old new e → FilesRefused at old new e
walk_refused at old new (Modules q) h = absurd h
walk_refused at old new (TooLarge q n) h = absurd h
walk_refused at old new Entries h = h
walk_refused at old new Fault h = h
walk_refused at old new Memory h = tt

modular_told : (tree : Option Tree) (at q : Path) (n : ℕ) (files : List File) → IfSome tree (λ t. IsFilesOf t at files) → IfSome tree (λ t. HasFew t at entry_limit) → IsRising files → find is_modular files ≡ Some (q, n) → IfSome tree (λ t. IsFirstModules t at q)
modular_told None at q n files of few rising h = tt
modular_told (Some t) at q n files of few rising h = record { few = few; length = n; first = first_in_tree is_modular t at files (q, n) of (find_first is_modular files (q, n) rising h) }

large_told : (tree : Option Tree) (at q : Path) (n : ℕ) (files : List File) → IfSome tree (λ t. IsFilesOf t at files) → IfSome tree (λ t. HasFew t at entry_limit) → IsRising files → find is_modular files ≡ None → find is_large files ≡ Some (q, n) → IfSome tree (λ t. IsFirstLarge t at q n)
large_told None at q n files of few rising none h = tt
large_told (Some t) at q n files of few rising none h = record { few = few; plain = none_in_tree is_modular t at files of none; first = first_in_tree is_large t at files (q, n) of (find_first is_large files (q, n) rising h) }

pub named_refused : (at : Path) (old new : Seen) (files : List File) (e : FilesFault) → IfSome old.tree (λ t. IsFilesOf t at files) → IfSome old.tree (λ t. HasFew t at entry_limit) → IsRising files → IsNamed files e → FilesRefused at old new e
named_refused at old new files (Modules q) of few rising h = ((find_first is_modular files (q, h.0) rising h.1).is, modular_told old.tree at q h.0 files of few rising h.1)
named_refused at old new files (TooLarge q n) of few rising h = (large n (find_first is_large files (q, n) rising h.1).is, large_told old.tree at q n files of few rising h.0 h.1)
named_refused at old new files Entries of few rising h = absurd h
named_refused at old new files Fault of few rising h = absurd h
named_refused at old new files Memory of few rising h = tt

pub named_modular : (files : List File) (e : FilesFault) → IsModular (find is_modular files) e → IsNamed files e
named_modular files (Modules q) h = h
named_modular files (TooLarge q n) h = absurd h
named_modular files Entries h = h
named_modular files Fault h = h
named_modular files Memory h = tt

pub named_large : (files : List File) (e : FilesFault) → find is_modular files ≡ None → IsLong (find is_large files) e → IsNamed files e
named_large files (Modules q) none h = absurd h
named_large files (TooLarge q n) none h = (none, h)
named_large files Entries none h = h
named_large files Fault none h = h
named_large files Memory none h = tt
