use Rattle.std.proofs.Common.{rules, arith, ◌≡◌, ◌<◌, ◌≤◌, ℕ, List, [], ◌∷◌, ◌++◌, ◌-◌, length, get_or, take, sym, ap, ◌∙◌, subst, vec_len}
use Rattle.std.proofs.lemmas.List.{get_or_read, length-map}
use Rattle.std.specs.List.{Contains}
use Rattle.pn_components.specs.declared.walk.Mark.{Mark}
use Rattle.pn_components.specs.declared.walk.Mark.TheVariants.{New}
use Rattle.pn_components.specs.declared.walk.Part.{Part}
use Rattle.pn_components.specs.Rows.{rows_of}
use Rattle.pn_components.specs.Walks.{AllReach, mark_of}
use Rattle.pn_components.proofs.PopLemmas.{is_done, is_open}
use Rattle.pn_components.proofs.StepLemmas.{is_last, last_of_some, popped_state, rest_waits, target_reached, target_within}
use Rattle.pn_components.proofs.walk.Walk.step.Goals as goal
use Rattle.pn_components.proofs.walk.Walk.step.Goals.{After-index-part, After-index-target, After-index}

-- the last part, as the code reads it
last_now : (c : After-index-part) → c.args.self.now.parts.items ≡ take (c.len.result - 1) c.args.self.now.parts.items ++ c.index-part.result.now ∷ []
last_now c =
    let fits = c.args.self.now.parts.ok.0 in
    let e = c.len.ensures in
    last_of_some c.args.self.now.parts.items c.len.result c.index-part.result.now (omega (arith, fits, e)) c.requires.some c.index-part.ensures

pub close-requires-clause-last : goal.close-requires-clause-last
close-requires-clause-last c =
    let s = c.args.self.now in
    let fits = s.waiting.ok.0 in
    let e = c.len-2.ensures in
    let le = c.if-len-part.true in
    is_last (rows_of s.rows.items) s.marks.items s.stack.items s.parts.items s.waiting.items s.closed c.len.result c.index-part.result.now c.requires.walk
    (last_now (goal.at.close-requires-clause-last c).After-index-part) (omega (arith, fits, e, le))

last_then : (c : After-index-target) → c.args.self.now.parts.items ≡ take (c.len.result - 1) c.args.self.now.parts.items ++ c.index-part.result.now ∷ []
last_then c =
    let fits = c.args.self.now.parts.ok.0 in
    let e = c.len.ensures in
    last_of_some c.args.self.now.parts.items c.len.result c.index-part.result.now (omega (arith, fits, e)) c.requires.some c.index-part.ensures

long_now : (c : After-index-target) → c.len-3.result ≡ length c.args.self.now.waiting.items
long_now c = let fits = c.args.self.now.waiting.ok.0 in let e = c.len-3.ensures in omega (arith, fits, e)

waits_now : (c : After-index-target) → c.index-part.result.now.waiting < length c.args.self.now.waiting.items
waits_now c = let fits = c.args.self.now.waiting.ok.0 in let e = c.len-2.ensures in let lt = c.if-len-part.false in omega (arith, fits, e, lt)

within_now : (c : After-index-target) → c.index-target.result.now < length (rows_of c.args.self.now.rows.items)
within_now c =
    let s = c.args.self.now in
    target_within (rows_of s.rows.items) s.marks.items s.stack.items s.parts.items s.waiting.items s.closed c.len.result c.len-3.result c.index-target.result.now c.index-part.result.now c.requires.walk
    (last_then c) (long_now c) (waits_now c) c.index-target.ensures

reached_now : (c : After-index-target) → AllReach (rows_of c.args.self.now.rows.items) c.args.self.now.stack.items c.index-target.result.now
reached_now c =
    let s = c.args.self.now in
    target_reached (rows_of s.rows.items) s.marks.items s.stack.items s.parts.items s.waiting.items s.closed c.len.result c.len-3.result c.index-target.result.now c.index-part.result.now c.requires.walk
    (last_then c) (long_now c) (waits_now c) c.index-target.ensures

rest_now : (c : After-index-target) → (y : Part) → Contains c.args.self.now.parts.items y → y.waiting ≤ c.len-3.result - 1
rest_now c =
    let s = c.args.self.now in
    rest_waits (rows_of s.rows.items) s.marks.items s.stack.items s.parts.items s.waiting.items s.closed c.len.result c.len-3.result c.index-target.result.now c.index-part.result.now c.requires.walk
    (last_then c) (long_now c) (waits_now c) c.index-target.ensures

-- the mark of the target
mark_now : (c : After-index) → c.index-target.result.now < length (rows_of c.args.self.now.rows.items) → c.index.result.now ≡ mark_of c.args.self.now.marks.items c.index-target.result.now
mark_now c within =
    let s = c.args.self.now in
    let count = c.requires.walk.count in
    get_or_read s.marks.items c.index-target.result.now c.index.result.now (omega (arith, within, count)) c.index.ensures New

pub index-requires : goal.index-requires
index-requires c =
    let within = within_now (goal.at.index-requires c).After-index-target in
    let count = c.requires.walk.count in
    let fits = c.args.self.now.marks.ok.0 in
    omega (arith, within, count, fits)

pub enter-requires-clause-within : goal.enter-requires-clause-within
enter-requires-clause-within c = let within = within_now (goal.at.enter-requires-clause-within c).After-index-target in search (rules, within, length-map)

pub enter-requires-clause-reached : goal.enter-requires-clause-reached
enter-requires-clause-reached c = reached_now (goal.at.enter-requires-clause-reached c).After-index-target

pub join-requires-clause-within : goal.join-requires-clause-within
join-requires-clause-within c =
    (c.requires.walk.opened c.index-target.result.now c.in-Open.place (sym (mark_now (goal.at.join-requires-clause-within c).After-index (within_now (goal.at.join-requires-clause-within c).After-index-target)) ∙ c.in-Open.is)).0

pub join-requires-clause-reached : goal.join-requires-clause-reached
join-requires-clause-reached c =
    let s = c.args.self.now in
    let o = c.requires.walk.opened c.index-target.result.now c.in-Open.place (sym (mark_now (goal.at.join-requires-clause-reached c).After-index (within_now (goal.at.join-requires-clause-reached c).After-index-target)) ∙ c.in-Open.is) in
    subst (λ (v : ℕ). AllReach (rows_of s.rows.items) s.stack.items v) (sym o.1) (reached_now (goal.at.join-requires-clause-reached c).After-index-target)

pub returns-in-Open-clause-walk : goal.returns-in-Open-clause-walk
returns-in-Open-clause-walk c =
    let s = c.args.self.now in
    let t = c.join.new.self in
    let way = c.join.ensures.way in
    let d = (goal.at.returns-in-Open-clause-walk c).After-index-target in
    let w = c.index-target.result.now in
    let open' = ap (λ (l : List Mark). mark_of l w) way.marks ∙ sym (mark_now (goal.at.returns-in-Open-clause-walk c).After-index (within_now (goal.at.returns-in-Open-clause-walk c).After-index-target)) ∙ c.in-Open.is in
    let size : length t.waiting.items ≡ length s.waiting.items = ap length way.waiting in
    let fits = t.waiting.ok.0 in
    let n : vec_len t.waiting ≡ c.len-3.result = omega (arith, size, fits, long_now d) in
    popped_state (rows_of t.rows.items) t.marks.items t.stack.items t.parts.items t.waiting.items c.pop.new.self.items t.closed c.len-3.result w c.join.ensures.walk
    (long_now d ∙ sym size) (omega (arith, size, waits_now d)) (c.index-target.ensures ∙ ap (λ (l : List ℕ). get_or l (c.len-3.result - 1) w) (sym way.waiting))
    (c.pop.ensures.rest ∙ ap (λ (k : ℕ). take (k - 1) t.waiting.items) n) (is_open c.in-Open.place open' c.join.ensures.joined) (λ y k. rest_now d y (c.join.ensures.old y k))

pub returns-in-Done-clause-walk : goal.returns-in-Done-clause-walk
returns-in-Done-clause-walk c =
    let s = c.args.self.now in
    let d = (goal.at.returns-in-Done-clause-walk c).After-index-target in
    let w = c.index-target.result.now in
    let done = sym (mark_now (goal.at.returns-in-Done-clause-walk c).After-index (within_now (goal.at.returns-in-Done-clause-walk c).After-index-target)) ∙ c.in-Done.is in
    let fits = s.waiting.ok.0 in
    let n : vec_len s.waiting ≡ c.len-3.result = omega (arith, fits, long_now d) in
    popped_state (rows_of s.rows.items) s.marks.items s.stack.items s.parts.items s.waiting.items c.pop-in-Done.new.self.items s.closed c.len-3.result w c.requires.walk
    (long_now d) (omega (arith, waits_now d)) c.index-target.ensures (c.pop-in-Done.ensures.rest ∙ ap (λ (k : ℕ). take (k - 1) s.waiting.items) n) (is_done c.in-Done.field-0 done) (rest_now d)
