use Rattle.std.proofs.Common.{List, [], ◌∷◌, ◌++◌, ◌∙◌, map, sym, ap, subst}
use Rattle.pn_package.specs.Links.{IsRising}
use Rattle.pn_package.specs.Listed.{pair_of}
use Rattle.pn_package.specs.declared.links.Link.{Link}
use Rattle.pn_layout.proofs.RowLemmas.{one_rising}
use Rattle.pn_layout.proofs.tests.one_link.Goals as goal

pub of-requires : goal.of-requires
of-requires c = subst (λ (ls : List Link). IsRising (map pair_of ls)) (sym (c.in_ok-push.ensures.items ∙ ap (λ (l : List Link). l ++ c.args.link ∷ []) c.new-items.ensures.items)) (one_rising (pair_of c.args.link))
