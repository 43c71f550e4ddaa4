use Rattle.std.proofs.Common.{◌≡◌, ◌∙◌, List, true, subst, sym}
use Rattle.std.specs.List.{All}
use Rattle.pn_text.specs.Name.{is_name}
use Rattle.pn_lock.specs.declared.lists.LockLink.{LockLink}
use Rattle.pn_instances.specs.declared.links.Link.{Link}
use Rattle.pn_lock_make.specs.Snapshots.{is_optional, link_of, optional_links}
use Rattle.pn_lock_make.proofs.StepLemmas.{all_more, dropped_step, kept_step}
use Rattle.pn_lock_make.proofs.snapshots.optional_links.Goals as goal
use Rattle.pn_lock_make.proofs.snapshots.optional_links.Goals.{then-is_optional+in_ok-one+in_ok-push, else-is_optional}

pub loop-link-preserved : goal.loop-link-preserved
loop-link-preserved c =
    let P : LockLink → Type 0 = λ (l : LockLink). is_name l.alias ≡ true in
    let p = λ (k : Link). is_optional c.args.deps.now k.name in
    let links = c.args.links.now in
    let all = optional_links c.args.ranks.now c.args.deps.now links in
    elim c.if-is_optional.branch [
      | then-is_optional+in_ok-one+in_ok-push w ↦ record {
        made = kept_step (link_of c.args.ranks.now) p links c.loop-link.link-index c.link-item.result w.in_ok-one.one c.loop-link.found c.if-is_optional.found all
            c.loop-link-test.true c.link-item.is (sym c.is_optional.ensures ∙ w.if-is_optional.true) w.in_ok-one.ensures.made (w.found-is ∙ w.in_ok-push.ensures.ok) c.loop-link.invariant.made;
        named = all_more P c.loop-link.found c.if-is_optional.found w.in_ok-one.one (w.found-is ∙ w.in_ok-push.ensures.ok) c.loop-link.invariant.named w.in_ok-one.ensures.named;
      }
      | else-is_optional w ↦ record {
        made = dropped_step (link_of c.args.ranks.now) p links c.loop-link.link-index c.link-item.result c.loop-link.found c.if-is_optional.found all
            c.loop-link-test.true c.link-item.is (sym c.is_optional.ensures ∙ w.if-is_optional.false) w.found-is c.loop-link.invariant.made;
        named = subst (λ (l : List LockLink). All P l) (sym w.found-is) c.loop-link.invariant.named;
      }
    ]
