use Rattle.std.proofs.Common.{rules, ◌<◌, length, ◌∙◌}
use Rattle.std.proofs.lemmas.List.{length-map}
use Rattle.pn_components.specs.Rows.{rows_of}
use Rattle.pn_components.proofs.StepLemmas.{entered_nearer, entered_state, row_at}
use Rattle.pn_components.proofs.walk.Walk.enter.Goals as goal

pub returns-clause-walk : goal.returns-clause-walk
returns-clause-walk c =
    let s = c.args.self.now in
    let within : c.args.place < length (rows_of s.rows.items) = search (rules, length-map) in
    let row = row_at s.rows.items c.args.place c.index.result.now c.requires.within c.index.ensures in
    entered_state (rows_of s.rows.items) s.marks.items s.stack.items s.parts.items s.waiting.items s.closed c.args.place c.requires.walk c.requires.fresh within c.requires.reached
    c.len-first.result c.len-waiting.result c.push.new.self.items c.push-2.new.self.items c.extend_from_slice.new.self.items c.as_slice.result.now (search rules) (search rules)
    c.in_ok-push.ensures.items c.in_ok-push-2.ensures.items c.in_ok-extend_from_slice.ensures.items (c.as_slice.ensures.value ∙ row)

pub returns-clause-nearer : goal.returns-clause-nearer
returns-clause-nearer c =
    let s = c.args.self.now in
    let within : c.args.place < length (rows_of s.rows.items) = search (rules, length-map) in
    let row = row_at s.rows.items c.args.place c.index.result.now c.requires.within c.index.ensures in
    entered_nearer (rows_of s.rows.items) s.marks.items s.parts.items c.push-2.new.self.items s.waiting.items c.extend_from_slice.new.self.items c.as_slice.result.now c.args.place c.len-first.result
    (record { first = c.len-first.result; waiting = c.len-waiting.result }) within c.requires.walk.count c.requires.fresh
    c.in_ok-push-2.ensures.items c.in_ok-extend_from_slice.ensures.items (c.as_slice.ensures.value ∙ row)
