use Rattle.std.proofs.Common.{[], sym, subst, map}
use Rattle.std.specs.Vec.Iter.{into_iter_items}
use Rattle.pn_registry.specs.Files.{IsRising}
use Rattle.pn_registry.specs.Listed.{file_of}
use Rattle.pn_registry.proofs.Keeping.{KeepingOf, keeping_start, keeping_turn}
use Rattle.pn_registry.proofs.apart.apart.Goals as goal

pub loop-file-init : goal.loop-file-init
loop-file-init c =
    let it = into_iter_items c.into_iter-file-iterator.result in
    let rising = subst IsRising (sym c.into_items-file-items.ensures.files) c.into_items-file-items.ensures.rising in
    subst (λ k. KeepingOf [] it k) (sym c.new-kept.ensures.items)
    (keeping_start it (subst (λ fs. IsRising (map file_of fs)) (sym c.into_iter-file-iterator.ensures.into_iter_gives.0) rising))

pub loop-file-preserved : goal.loop-file-preserved
loop-file-preserved c =
    keeping_turn c.loop-file.yielded (into_iter_items c.loop-file.file-iterator) (into_iter_items c.next.new.self) c.loop-file.kept.items c.keep.new.kept.items c.in-Some.file
    c.in-Some.ensures.steps.0 c.loop-file.invariant c.in_ok-keep.ensures
