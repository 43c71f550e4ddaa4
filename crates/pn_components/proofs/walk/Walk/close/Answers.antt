use Rattle.std.proofs.Common.{rules, arith, ◌≡◌, ◌<◌, ◌≤◌, ℕ, List, length, get_or, set, take, ◌-◌, vec_len, refl, sym, ap, ◌∙◌}
use Rattle.std.proofs.lemmas.List.{get_or_read, length_push, length-map}
use Rattle.pn_components.specs.declared.walk.Mark.{Mark}
use Rattle.pn_components.specs.declared.walk.Mark.TheVariants.{Done, Open}
use Rattle.pn_components.specs.Rows.{rows_of}
use Rattle.pn_components.specs.Walks.{mark_of}
use Rattle.pn_components.proofs.CloseSteps.{closed_upto, marked_within, upto_more, upto_none}
use Rattle.pn_components.proofs.StepLemmas.{closed_marks, closed_nearer, closed_state}
use Rattle.pn_components.proofs.walk.Walk.close.Goals as goal

pub loop-i-init : goal.loop-i-init
loop-i-init c = record { marks = sym (upto_none c.args.first c.args.self.now.closed c.args.self.now.marks.items); rows = refl; stack = refl; parts = refl; waiting = refl; closed = refl }

pub index_mut-requires : goal.index_mut-requires
index_mut-requires c =
    let s = c.args.self.now in
    let v = c.index.result.now in
    let low : c.loop-i.i < length s.stack.items = search rules in
    let at : v ≡ get_or s.stack.items c.loop-i.i 0 =
    get_or_read s.stack.items c.loop-i.i v low (c.index.ensures ∙ ap (λ (l : List ℕ). get_or l c.loop-i.i v) c.loop-i.invariant.stack) 0 in
    let open' : mark_of s.marks.items v ≡ Open c.loop-i.i = ap (mark_of s.marks.items) at ∙ c.requires.walk.stacked c.loop-i.i low in
    let within : v < length s.marks.items = marked_within s.marks.items v (λ e. cc (open', e)) in
    let same : length c.loop-i.self.marks.items ≡ length s.marks.items = ap length c.loop-i.invariant.marks ∙ length-map s.marks.items (closed_upto c.args.first c.loop-i.self.closed c.loop-i.i) in
    let fits = c.loop-i.self.marks.ok.0 in
    omega (arith, within, same, fits)

pub loop-i-preserved : goal.loop-i-preserved
loop-i-preserved c =
    let s = c.args.self.now in
    let v = c.index.result.now in
    let low : c.loop-i.i < length s.stack.items = search rules in
    let at : v ≡ get_or s.stack.items c.loop-i.i 0 =
    get_or_read s.stack.items c.loop-i.i v low (c.index.ensures ∙ ap (λ (l : List ℕ). get_or l c.loop-i.i v) c.loop-i.invariant.stack) 0 in
    let open' : mark_of s.marks.items v ≡ Open c.loop-i.i = ap (mark_of s.marks.items) at ∙ c.requires.walk.stacked c.loop-i.i low in
    record {
      marks = ap (λ (l : List Mark). set l v (Done c.loop-i.self.closed)) c.loop-i.invariant.marks
          ∙ upto_more c.args.first c.loop-i.self.closed c.loop-i.i v s.marks.items c.loop-i.auto.i open' (λ w o. sym (c.requires.walk.opened w c.loop-i.i o).1 ∙ sym at);
      rows = c.loop-i.invariant.rows;
      stack = c.loop-i.invariant.stack;
      parts = c.loop-i.invariant.parts;
      waiting = c.loop-i.invariant.waiting;
      closed = c.loop-i.invariant.closed;
    }

pub returns-clause-walk : goal.returns-clause-walk
returns-clause-walk c =
    let s = c.args.self.now in
    let t = c.loop-i.self in
    let same = c.loop-i.invariant in
    let far : length s.stack.items ≤ c.loop-i.i = search rules in
    let size : length t.parts.items ≡ length s.parts.items = ap length same.parts in
    let fits = t.parts.ok.0 in
    let long : vec_len t.parts ≡ length s.parts.items = omega (arith, size, fits) in
    closed_state (rows_of s.rows.items) (rows_of t.rows.items) s.marks.items t.marks.items s.stack.items c.truncate.new.self.items s.parts.items c.pop.new.self.items s.waiting.items t.waiting.items s.closed t.closed c.args.first c.loop-i.i (vec_len t.parts)
    c.requires.walk c.requires.last (ap rows_of same.rows) same.marks (c.truncate.ensures.items ∙ ap (take c.args.first) same.stack)
    long (c.pop.ensures.rest ∙ ap (take (vec_len t.parts - 1)) same.parts) same.waiting same.closed far

pub returns-clause-nearer : goal.returns-clause-nearer
returns-clause-nearer c =
    let s = c.args.self.now in
    let t = c.loop-i.self in
    let same = c.loop-i.invariant in
    let far : length s.stack.items ≤ c.loop-i.i = search rules in
    let size : length t.parts.items ≡ length s.parts.items = ap length same.parts in
    let fits = t.parts.ok.0 in
    let long : vec_len t.parts ≡ length s.parts.items = omega (arith, size, fits) in
    let l = c.requires.last in
    let some : 0 < length s.parts.items = omega (arith, ap length l.is, length_push l.front l.last) in
    closed_nearer (rows_of s.rows.items) (rows_of t.rows.items) s.marks.items t.marks.items s.parts.items c.pop.new.self.items s.waiting.items t.waiting.items c.args.first t.closed (vec_len t.parts)
    (ap rows_of same.rows) (closed_marks (rows_of s.rows.items) s.marks.items t.marks.items s.stack.items s.parts.items s.waiting.items s.closed t.closed c.args.first c.loop-i.i c.requires.walk same.marks far)
    long some (c.pop.ensures.rest ∙ ap (take (vec_len t.parts - 1)) same.parts) same.waiting
