-- Lemmas on real paths.
use Rattle.std.proofs.Common.{◌≡◌, ℕ, List, [], ◌∷◌, ◌++◌, refl, ap, ◌∙◌, Some, None, append-nil}
use Rattle.std.specs.Prelude.{Option}
use Rattle.pn_text.specs.Path.{Path}
use Rattle.pn_fs.specs.Tree.{folder, Tree, IsTree}
use Rattle.pn_node.specs.Find.{Step, into, at_entry, at_file, led, walk_on, walk, real, path_steps}

-- the steps of a path below another one
pub steps_split : (q b : Path) (steps : List Step) → path_steps (q ++ b) steps ≡ path_steps b (path_steps q steps)
steps_split [] b steps = refl
steps_split (x ∷ q) b steps = steps_split q b (into x ∷ steps)

-- the walk down to a folder ends there
pub walk_down : (again : Path → List Step → Option Path) (t : Tree) → IsTree t → (q b : Path) (steps : List Step) → t (q ++ b) ≡ Some folder → walk_on again t b (path_steps q steps) ≡ walk_on again t (q ++ b) steps
walk_down again t tree [] b steps h = refl
walk_down again t tree (x ∷ q) b steps h =
    walk_down again t tree q b (into x ∷ steps) (tree.parents x (q ++ b) folder h)
    ∙ ap (λ e. at_entry e None (walk_on again t (x ∷ (q ++ b)) steps) (at_file (x ∷ (q ++ b)) steps) (λ text. led again (q ++ b) text steps)) h

pub walk_into : (again : Path → List Step → Option Path) (t : Tree) → IsTree t → (p : Path) (steps : List Step) → t p ≡ Some folder → walk_on again t [] (path_steps p steps) ≡ walk_on again t p steps
walk_into again t tree p steps h =
    walk_down again t tree p [] steps (ap t (append-nil p) ∙ h) ∙ ap (λ q. walk_on again t q steps) (append-nil p)

-- a folder is its own real path
pub real_folder : (t : Tree) → IsTree t → (p : Path) → t p ≡ Some folder → real t p ≡ Some p
real_folder t tree p h = walk_into (walk 39 t) t tree p [] h

-- the real path of an entry whose folder stands
pub real_in : (t : Tree) → IsTree t → (p : Path) (x : List ℕ) → t p ≡ Some folder
    → real t (x ∷ p) ≡ at_entry (t (x ∷ p)) None (Some (x ∷ p)) (Some (x ∷ p)) (λ text. led (walk 39 t) p text [])
real_in t tree p x h = walk_into (walk 39 t) t tree p (into x ∷ []) h

-- there is none at and below a missing entry of a folder
pub real_missing : (t : Tree) → IsTree t → (p : Path) (x : List ℕ) (q : Path) → t p ≡ Some folder → t (x ∷ p) ≡ None → real t (q ++ x ∷ p) ≡ None
real_missing t tree p x q h none =
    ap (walk_on (walk 39 t) t []) (steps_split q (x ∷ p) [])
    ∙ walk_into (walk 39 t) t tree p (into x ∷ path_steps q []) h
    ∙ ap (λ e. at_entry e None (walk_on (walk 39 t) t (x ∷ p) (path_steps q [])) (at_file (x ∷ p) (path_steps q [])) (λ text. led (walk 39 t) p text (path_steps q []))) none
