use Rattle.std.proofs.Common.{◌++◌, [], map}
use Rattle.pn_lock_shape.proofs.ApartLemmas.{apart_at}
use Rattle.pn_lock_shape.proofs.EntryLemmas.{entries_more}
use Rattle.pn_lock_shape.proofs.entry.read_entries.Goals as goal

pub read_entry-requires-clause-apart : goal.read_entry-requires-clause-apart
read_entry-requires-clause-apart g c = apart_at [] c.args.entries.now c.loop-name.name-index c.loop-name-item.result c.loop-name-test.true c.loop-name-item.is c.requires.apart

pub loop-name-preserved : goal.loop-name-preserved
loop-name-preserved g c =
    entries_more (g.E.Entry.form c.args.base.now (map g.E.Keyed.key c.args.seen.now ++ map g.E.Keyed.key c.args.later.now)) c.args.entries.now c.loop-name.name-index c.loop-name-item.result
    c.in_ok-read.read c.loop-name.all.items c.push.new.self.items _ c.loop-name-test.true c.loop-name-item.is c.in_ok-read.ensures c.in_ok-push.ensures.items c.loop-name.invariant
