use Rattle.std.proofs.Common.{ℕ, List, sym, subst}
use Rattle.std.specs.Str.{bytes_eq}
use Rattle.std.specs.List.{Contains}
use Rattle.std.proofs.lemmas.List.Filters.{dedup_is}
use Rattle.std.proofs.lemmas.List.Sorted.{Contains-permutation, IsPermutation-sym}
use Rattle.pn_dep_paths.specs.BaseTexts.{AreRising}
use Rattle.pn_dep_paths.proofs.RisingLemmas.{in_kept, kept_in, once}
use Rattle.pn_dep_paths.proofs.groups.rising.Goals as goal

pub returns-clause-rising : goal.returns-clause-rising
returns-clause-rising c =
    let sorted = c.sort.new.self.items in
    let is = dedup_is bytes_eq sorted c.dedup.new.self.items c.dedup.ensures.filtered in
    subst AreRising (sym is) (once sorted c.in_ok-sort.ensures.sorted)

pub returns-clause-right : goal.returns-clause-right
returns-clause-right c = λ g h.
    let sorted = c.sort.new.self.items in
    let texts = c.args.texts.items in
    let is = dedup_is bytes_eq sorted c.dedup.new.self.items c.dedup.ensures.filtered in
    Contains-permutation sorted texts g (IsPermutation-sym texts sorted c.in_ok-sort.ensures.permutation) (kept_in sorted g (subst (λ (l : List (List ℕ)). Contains l g) is h))

pub returns-clause-all : goal.returns-clause-all
returns-clause-all c = λ g h.
    let sorted = c.sort.new.self.items in
    let texts = c.args.texts.items in
    let is = dedup_is bytes_eq sorted c.dedup.new.self.items c.dedup.ensures.filtered in
    subst (λ (l : List (List ℕ)). Contains l g) (sym is) (in_kept sorted g (Contains-permutation texts sorted g c.in_ok-sort.ensures.permutation h))
