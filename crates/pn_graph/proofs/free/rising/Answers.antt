use Rattle.std.proofs.Common.{ℕ, List, sym, subst}
use Rattle.std.specs.Str.{bytes_eq}
use Rattle.std.specs.List.{AllPairs, Contains}
use Rattle.std.proofs.lemmas.List.Filters.{dedup_is}
use Rattle.pn_graph.proofs.FreeLemmas.{Below, rises_once, keeps_all}
use Rattle.pn_graph.proofs.free.rising.Goals as goal

pub returns-clause-rises : goal.returns-clause-rises
returns-clause-rises c =
    let sorted = c.sort.new.self.items in
    let is = dedup_is bytes_eq sorted c.dedup.new.self.items c.dedup.ensures.filtered in
    subst (λ (l : List (List ℕ)). AllPairs Below l) (sym is) (rises_once sorted c.in_ok-sort.ensures.sorted)

pub returns-clause-all : goal.returns-clause-all
returns-clause-all c = λ n h.
    let sorted = c.sort.new.self.items in
    let is = dedup_is bytes_eq sorted c.dedup.new.self.items c.dedup.ensures.filtered in
    subst (λ (l : List (List ℕ)). Contains l n) (sym is) (keeps_all c.args.names.items sorted c.in_ok-sort.ensures.permutation n h)
