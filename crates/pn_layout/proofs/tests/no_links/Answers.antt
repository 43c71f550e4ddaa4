use Rattle.std.proofs.Common.{List, map, sym, subst}
use Rattle.pn_package.specs.Links.{IsRising}
use Rattle.pn_package.specs.Listed.{pair_of}
use Rattle.pn_package.specs.declared.links.Link.{Link}
use Rattle.pn_layout.proofs.RowLemmas.{none_rising}
use Rattle.pn_layout.proofs.tests.no_links.Goals as goal

pub of-requires : goal.of-requires
of-requires c = subst (λ (ls : List Link). IsRising (map pair_of ls)) (sym c.new.ensures.items) none_rising
