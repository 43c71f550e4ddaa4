use Rattle.std.proofs.Common.{rules, ◌≡◌, subst, sym}
use Rattle.std.specs.Cmp.Lexicographic.{slice_cmp}
use Rattle.std.specs.List.{dedup}
use Rattle.std.specs.Ordering.{is_lt, nat_cmp, on, eq_by_cmp}
use Rattle.std.proofs.lemmas.Cmp.{nat_list_cmp_total}
use Rattle.std.proofs.lemmas.Fn.{dedup_same}
use Rattle.std.proofs.lemmas.List.Sorted.{ranks_by, answers_always}
use Rattle.pn_text.specs.Path.{path_text}
use Rattle.pn_scan.specs.Scans.{Found, IsRising}
use Rattle.pn_scan.specs.Turns.{KeepsPaths}
use Rattle.pn_scan.proofs.KeepsPathsLemmas.{rising_once, keeps_paths}
use Rattle.pn_scan.proofs.order.in_order.Goals as goal

pub returns-clause-rising : goal.returns-clause-rising
returns-clause-rising c =
    let kept : c.dedup_by.new.self.items ≡ dedup (eq_by_cmp (on (λ (e : Found). path_text e.0) (slice_cmp nat_cmp))) c.sort_by.new.self.items =
    dedup_same _ (eq_by_cmp (on (λ (e : Found). path_text e.0) (slice_cmp nat_cmp))) _ (λ x y b f x2 y2 called. search rules) _ _ c.dedup_by.ensures.filtered in
    subst IsRising (sym kept) (rising_once c.sort_by.new.self.items
    (c.in_ok-sort_by.ensures.sorted (λ (a b : Found). is_lt (slice_cmp nat_cmp (path_text a.0) (path_text b.0))) (ranks_by nat_list_cmp_total (λ (e : Found). path_text e.0))
    (answers_always _ _ _ (λ f a r g called. search rules))))

pub returns-clause-keeps : goal.returns-clause-keeps
returns-clause-keeps c =
    let kept : c.dedup_by.new.self.items ≡ dedup (eq_by_cmp (on (λ (e : Found). path_text e.0) (slice_cmp nat_cmp))) c.sort_by.new.self.items =
    dedup_same _ (eq_by_cmp (on (λ (e : Found). path_text e.0) (slice_cmp nat_cmp))) _ (λ x y b f x2 y2 called. search rules) _ _ c.dedup_by.ensures.filtered in
    subst (KeepsPaths c.args.entries.items) (sym kept) (keeps_paths c.args.entries.items c.sort_by.new.self.items c.sort_by.ensures.permutation)
