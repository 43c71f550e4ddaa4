use Rattle.pn_tree.specs.Trees.{laid}
use Rattle.pn_tree.proofs.OutcomeLemmas.{entries, all_short, too_long}
use Rattle.pn_tree.proofs.plan.layout.Goals as goal

pub returns-in-Ok-clause-entries : goal.returns-in-Ok-clause-entries
returns-in-Ok-clause-entries c = entries (laid c.args.store.now c.args.managed.now c.args.instances.now c.args.tops.now) c.in_ok-draft.draft c.in-Ok.planned (record { sound = c.requires; drawn_is = c.in_ok-draft.ensures }) c.in-Ok.ensures.short c.in-Ok.ensures.entries

pub returns-in-Ok-clause-short : goal.returns-in-Ok-clause-short
returns-in-Ok-clause-short c = all_short (laid c.args.store.now c.args.managed.now c.args.instances.now c.args.tops.now) c.in_ok-draft.draft (record { sound = c.requires; drawn_is = c.in_ok-draft.ensures }) c.in-Ok.ensures.short

pub returns-in-Err-TooLong-clause-refused : goal.returns-in-Err-TooLong-clause-refused
returns-in-Err-TooLong-clause-refused c = too_long (laid c.args.store.now c.args.managed.now c.args.instances.now c.args.tops.now) c.in_ok-draft.draft c.in-Err-TooLong.size (record { sound = c.requires; drawn_is = c.in_ok-draft.ensures })
    (rw c.in-Err-TooLong.field-0-is at c.in-Err-TooLong.ensures.fault)
