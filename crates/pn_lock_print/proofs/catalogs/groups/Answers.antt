use Rattle.pn_lock_print.proofs.RunLemmas.{groups_done, groups_more}
use Rattle.pn_lock_print.proofs.catalogs.groups.Goals as goal

pub returns-in_default : goal.returns-in_default
returns-in_default c = groups_done c.catalogs.rest.now _ _ c.in_default.ensures.cases c.catalogs.invariant

pub catalogs-preserved : goal.catalogs-preserved
catalogs-preserved c =
    groups_more c.catalogs.rest.now c.split_at.result.0.now c.split_at.result.1.now _ c.in-Some.first.now _ _ _ _ _ _ c.in-Some.ensures.cases.0 c.as_str-catalog.ensures c.run_of.ensures.run c.split_at.ensures.front c.split_at.ensures.back
    c.in_ok-node.ensures c.in_ok-push_member.ensures c.catalogs.invariant
