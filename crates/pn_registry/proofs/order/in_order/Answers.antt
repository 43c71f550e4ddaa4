use Rattle.std.proofs.Common.{subst, sym, ap, ◌∙◌, map}
use Rattle.std.proofs.lemmas.List.Filters.{dedup_is}
use Rattle.pn_registry.specs.Files.{IsRising, KeepsPaths}
use Rattle.pn_registry.specs.Listed.{file_of}
use Rattle.pn_registry.proofs.Orders.{rising_once, keeps_paths}
use Rattle.pn_registry.proofs.order.in_order.Goals as goal

pub listed-requires : goal.listed-requires
listed-requires c =
    subst (λ fs. IsRising (map file_of fs)) (sym (dedup_is _ c.sort.new.self.items c.dedup.new.self.items c.dedup.ensures.filtered)) (rising_once c.sort.new.self.items c.in_ok-sort.ensures.sorted)

pub returns : goal.returns
returns c =
    subst (KeepsPaths (map file_of c.args.files.items)) (sym (c.listed.ensures ∙ ap (map file_of) (dedup_is _ c.sort.new.self.items c.dedup.new.self.items c.dedup.ensures.filtered))) (keeps_paths c.args.files.items c.sort.new.self.items c.sort.ensures.permutation)
