use Rattle.std.proofs.Common.{sym, subst, inr}
use Rattle.pn_config.specs.CatalogValues.{HasBadEntry}
use Rattle.pn_config.proofs.EntryLemmas.{entries_end, entries_more}
use Rattle.pn_config.proofs.MemberLemmas.{members_at}
use Rattle.pn_config.proofs.catalogs.put_entries.Goals as goal

pub loop-key-preserved : goal.loop-key-preserved
loop-key-preserved c = record {
  left = entries_more c.args.catalog.now c.args.members.now c.args.catalogs.now c.loop-key.key-index c.loop-key-item.result c.as_str.result.now c.loop-key.catalogs c.put_entry.new.catalogs
      c.loop-key-test.true c.loop-key-item.is c.as_str.ensures c.in_ok-put_entry.ensures.ok c.loop-key.invariant.left;
  bad = λ h. c.loop-key.invariant.bad (subst HasBadEntry (sym (members_at c.args.members.now c.loop-key.key-index c.loop-key-item.result c.loop-key-test.true c.loop-key-item.is)) (inr h));
}

pub returns-clause-ok : goal.returns-clause-ok
returns-clause-ok c = entries_end c.args.catalog.now c.args.members.now c.args.catalogs.now c.loop-key.key-index c.loop-key.catalogs c.loop-key-test.false c.loop-key.invariant.left
