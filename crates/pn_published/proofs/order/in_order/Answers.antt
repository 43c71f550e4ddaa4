use Rattle.std.proofs.Common.{rules, ◌≡◌, subst, sym, map}
use Rattle.std.specs.Ordering.{is_lt, on, eq_by_cmp}
use Rattle.std.specs.List.{dedup}
use Rattle.std.proofs.lemmas.Fn.{dedup_same}
use Rattle.std.proofs.lemmas.List.Sorted.{ranks_by, answers_always}
use Rattle.semver.specs.Identifiers.{parts_of}
use Rattle.semver.specs.declared.Version.{Version}
use Rattle.pn_published.specs.Versions.{version_cmp, IsRising, HasSame}
use Rattle.pn_published.proofs.VersionOrders.{version_total, rising_once, keeps_each}
use Rattle.pn_published.proofs.order.in_order.Goals as goal

pub returns-clause-rising : goal.returns-clause-rising
returns-clause-rising c =
    let kept : c.dedup_by.new.self.items ≡ dedup (eq_by_cmp (on parts_of version_cmp)) c.sort_by.new.self.items =
    dedup_same _ (eq_by_cmp (on parts_of version_cmp)) _ (λ x y b f x2 y2 called. search rules) _ _ c.dedup_by.ensures.filtered in
    subst (λ vs. IsRising (map parts_of vs)) (sym kept) (rising_once c.sort_by.new.self.items
    (c.in_ok-sort_by.ensures.sorted (λ (a b : Version). is_lt (version_cmp (parts_of a) (parts_of b))) (ranks_by version_total parts_of)
    (answers_always _ _ _ (λ f a r g called. search rules))))

pub returns-clause-same : goal.returns-clause-same
returns-clause-same c =
    let kept : c.dedup_by.new.self.items ≡ dedup (eq_by_cmp (on parts_of version_cmp)) c.sort_by.new.self.items =
    dedup_same _ (eq_by_cmp (on parts_of version_cmp)) _ (λ x y b f x2 y2 called. search rules) _ _ c.dedup_by.ensures.filtered in
    subst (λ vs. HasSame (map parts_of c.args.versions.items) (map parts_of vs)) (sym kept) (keeps_each c.args.versions.items c.sort_by.new.self.items c.sort_by.ensures.permutation)
