-- Why a walk stopped.
use Rattle.std.proofs.Common.{◌≡◌, ◌≤◌, ◌-◌, ℕ, List, [], ◌∷◌, ◌++◌, ◌∙◌, Some}
use Rattle.std.specs.Option.{ForSome}
use Rattle.pn_text.specs.Path.{Path}
use Rattle.pn_fs.specs.Tree.{Tree, IsTree}
use Rattle.pn_fs.specs.Seen.{Seen, Keeps}
use Rattle.pn_fs.proofs.SeenLemmas.{rose_from}
use Rattle.pn_registry.specs.Below.{HasMany}
use Rattle.pn_registry.specs.Files.{File}
use Rattle.pn_registry.specs.Turns.{IsFull, ListRefused, WalkRefused}
use Rattle.pn_registry.specs.declared.walk.WalkFault.{WalkFault}
use Rattle.pn_registry.specs.declared.walk.WalkFault.TheVariants.{Entries, Fault, Memory}
use Rattle.pn_text.proofs.Results.{for_some, if_some}
use Rattle.pn_registry.proofs.Walks.{Walks, too_many}

pub walk_refused : (old mid new : Seen) (at q : Path) (todo left : List Path) (found : List File) (n limit room : ℕ) (e : WalkFault)
    → ((t : Tree) → old.tree ≡ Some t → IsTree t) → Keeps old mid → ForSome old.tree (λ t. Walks t at todo found n) → todo ≡ left ++ q ∷ [] → n ≤ limit → room ≡ limit - n
    → ListRefused mid new q room e → WalkRefused old new at limit e
walk_refused old mid new at q todo left found n limit room Entries tree kept w is within same h =
    if_some (λ t. HasMany t at limit) old.tree (λ t told.
    too_many t (tree t told) at q todo left found n limit room (w t told) is (for_some (λ t. IsFull t q room) mid.tree h t (kept.tree ∙ told)) within same)
walk_refused old mid new at q todo left found n limit room Fault tree kept w is within same h = rose_from old.faults mid.faults new.faults kept.later h
walk_refused old mid new at q todo left found n limit room Memory tree kept w is within same h = tt
