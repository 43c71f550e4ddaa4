-- The texts of what dependencies lead to.
use Rattle.std.specs.Prelude.{ℕ, suc, List, [], ◌∷◌, ◌++◌, length, drop, if◌then◌else◌, bytes_eq, codes}
use Rattle.pn_text.specs.Ids.{id_name}
use Rattle.pn_text.specs.Path.{Path, tail_of, text_below}
use Rattle.pn_text.specs.Relative.{dots}
use Rattle.pn_deppath.specs.Paths.{id_part}

abbrev pub link_mark : List ℕ
link_mark = codes "link:"

-- a project's folder as a path below the root, the last part first
abbrev pub folder_path : List ℕ → Path
folder_path folder = if bytes_eq folder (codes ".") then [] else tail_of folder

-- a path's parts in the other order, onto these
abbrev pub turned : Path → Path → Path
turned [] onto = onto
turned (x ∷ p) onto = turned p (x ∷ onto)

-- the steps from one folder to another, the last step first; both are given by their parts, the first part first
abbrev pub steps_to : Path → Path → Path
steps_to [] downs = turned downs []
steps_to (x ∷ ups) [] = dots (suc (length ups))
steps_to (x ∷ ups) (y ∷ downs) = if bytes_eq x y then steps_to ups downs else turned (y ∷ downs) [] ++ dots (suc (length ups))

abbrev pub steps_text : Path → List ℕ
steps_text [] = codes "."
steps_text (x ∷ p) = drop 1 (text_below (x ∷ p))

-- a link from one project's folder to another
abbrev pub link_text : List ℕ → List ℕ → List ℕ
link_text from to = link_mark ++ steps_text (steps_to (turned (folder_path from) []) (turned (folder_path to) []))

-- a dep path under an alias: without `name@` where the alias is the name
abbrev pub path_text : List ℕ → List ℕ → List ℕ
path_text alias path = if bytes_eq (id_name (id_part path)) alias then drop (suc (length alias)) path else path
