use Rattle.std.proofs.Common.{◌≡◌, ◌++◌, List, ℕ, map, vec_len}
use Rattle.pn_draft.specs.Sheets.{sheet, with_folders}
use Rattle.pn_draft.proofs.marks.mark_folders.Given as goal

-- the last folders are marked
abbrev pub invariant-folders : goal.invariant-folders
invariant-folders l = (done : List (List ℕ)) × (map (λ f. f.now) l.fn.folders.items ≡ map (λ f. f.now) l.folders.items ++ done) × (sheet l.marks ≡ with_folders (sheet l.fn.marks) done)

abbrev pub decreases-folders : goal.decreases-folders
decreases-folders l = vec_len l.folders
