use Rattle.std.proofs.Common.{sym, subst, inr}
use Rattle.pn_config.specs.CatalogValues.{HasBadCatalog}
use Rattle.pn_config.proofs.EntryLemmas.{catalogs_end, catalogs_more}
use Rattle.pn_config.proofs.MemberLemmas.{members_at}
use Rattle.pn_config.proofs.catalogs.put_each.Goals as goal

pub loop-catalog-preserved : goal.loop-catalog-preserved
loop-catalog-preserved c = record {
  left = catalogs_more c.args.members.now c.args.catalogs.now c.loop-catalog.catalog-index c.loop-catalog-item.result c.as_str.result.now c.loop-catalog.catalogs c.put_catalog.new.catalogs
      c.loop-catalog-test.true c.loop-catalog-item.is c.as_str.ensures c.in_ok-put_catalog.ensures.ok c.loop-catalog.invariant.left;
  bad = λ h. c.loop-catalog.invariant.bad (subst HasBadCatalog (sym (members_at c.args.members.now c.loop-catalog.catalog-index c.loop-catalog-item.result c.loop-catalog-test.true c.loop-catalog-item.is)) (inr h));
}

pub returns-clause-ok : goal.returns-clause-ok
returns-clause-ok c = catalogs_end c.args.members.now c.args.catalogs.now c.loop-catalog.catalog-index c.loop-catalog.catalogs c.loop-catalog-test.false c.loop-catalog.invariant.left
