use Rattle.std.proofs.Common.{◌≡◌, ◌++◌, map, true, subst}
use Rattle.pn_yaml.specs.Data.{are_apart}
use Rattle.pn_lock_shape.specs.Bare.{tree, tree_members}
use Rattle.pn_lock_shape.proofs.MapLemmas.{map_read, map_rises}
use Rattle.pn_lock_shape.proofs.entry.read_map.Goals as goal

pub read_entries-requires-clause-apart : goal.read_entries-requires-clause-apart
read_entries-requires-clause-apart g c = subst (λ d. are_apart d ≡ true) c.in_ok-entries.ensures.ok c.requires.apart

pub returns-clause-read : goal.returns-clause-read
returns-clause-read g c =
    map_read g.E.Keyed.key (g.E.Entry.form c.args.base.now (map g.E.Keyed.key c.args.seen.now ++ map g.E.Keyed.key c.args.later.now)) (g.met.E.Entry.own c.args.base.now (map g.E.Keyed.key c.args.seen.now ++ map g.E.Keyed.key c.args.later.now))
    (tree c.args.node.now) (tree_members c.in_ok-entries.entries.now) c.in_ok-read.read.items _ c.in_ok-entries.ensures.ok c.requires.apart c.in_ok-read.ensures c.in_ok-sorted.ensures.same c.in_ok-sorted.ensures.sorted

pub returns-clause-rise : goal.returns-clause-rise
returns-clause-rise g c =
    map_rises g.E.Keyed.key (g.E.Entry.form c.args.base.now (map g.E.Keyed.key c.args.seen.now ++ map g.E.Keyed.key c.args.later.now)) (g.met.E.Entry.own c.args.base.now (map g.E.Keyed.key c.args.seen.now ++ map g.E.Keyed.key c.args.later.now))
    (tree c.args.node.now) (tree_members c.in_ok-entries.entries.now) c.in_ok-read.read.items _ c.in_ok-entries.ensures.ok c.requires.apart c.in_ok-read.ensures c.in_ok-sorted.ensures.same c.in_ok-sorted.ensures.sorted
