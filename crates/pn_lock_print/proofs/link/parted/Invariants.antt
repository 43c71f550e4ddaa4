use Rattle.std.proofs.Common.{◌≡◌, option_map}
use Rattle.pn_lock_print.specs.FolderParts.{parts_left, size_left}
use Rattle.pn_lock_print.specs.TargetTexts.{steps_to}
use Rattle.pn_lock_print.proofs.link.parted.Given as goal

abbrev pub invariant-parts : goal.invariant-parts
invariant-parts l =
    steps_to (parts_left (option_map (λ t. t.now) l.up)) (parts_left (option_map (λ t. t.now) l.down))
    ≡ steps_to (parts_left (option_map (λ t. t.now) l.fn.from)) (parts_left (option_map (λ t. t.now) l.fn.to))

abbrev pub decreases-parts : goal.decreases-parts
decreases-parts l = size_left (option_map (λ t. t.now) l.up)
