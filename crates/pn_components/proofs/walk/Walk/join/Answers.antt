use Rattle.std.proofs.Common.{arith, ◌≡◌, ◌<◌, ℕ, List, length, get_or, sym, ap, ◌∙◌, subst, take, ◌-◌, ◌++◌, ◌∷◌, [], vec_len}
use Rattle.pn_components.specs.declared.walk.Part.{Part}
use Rattle.pn_components.specs.Rows.{rows_of}
use Rattle.pn_components.specs.Walks.{AllReach}
use Rattle.pn_components.proofs.StepLemmas.{all_first, joined_old, joined_state, last_is, shorter, some_part}
use Rattle.pn_components.proofs.walk.Walk.join.Goals as goal
use Rattle.pn_components.proofs.walk.Walk.join.Goals.{After-len}

within_now : (c : After-len) → c.args.place < length c.parts.self.stack.items
within_now c = subst (λ (s : List ℕ). c.args.place < length s) (sym c.parts.invariant.way.stack) c.requires.within

some_now : (c : After-len) → 0 < length c.parts.self.parts.items
some_now c = let t = c.parts.self in some_part (rows_of t.rows.items) t.marks.items t.stack.items t.parts.items t.waiting.items t.closed c.args.place c.parts.invariant.walk (within_now c)

pub overflow_sub-len : goal.overflow_sub-len
overflow_sub-len c = let some = some_now c in let fits = c.parts.self.parts.ok.0 in let e = c.len.ensures in omega (arith, some, fits, e)

pub index-requires : goal.index-requires
index-requires c = let some = some_now c in let fits = c.parts.self.parts.ok.0 in let e = c.len.ensures in omega (arith, some, fits, e)

-- the last part, as the code reads it
last_now : (c : After-len) (x : Part) → x ≡ get_or c.parts.self.parts.items (c.len.result - 1) x → c.parts.self.parts.items ≡ take (c.len.result - 1) c.parts.self.parts.items ++ x ∷ []
last_now c x is =
    let fits = c.parts.self.parts.ok.0 in
    let e = c.len.ensures in
    last_is c.parts.self.parts.items c.len.result x (omega (arith, fits, e)) (some_now c) is

pub parts-smaller : goal.parts-smaller
parts-smaller c =
    let d = (goal.at.parts-smaller c).After-len in
    let fits = c.parts.self.parts.ok.0 in
    let s = shorter c.parts.self.parts.items c.pop.new.self.items (vec_len c.parts.self.parts) (omega (arith, fits)) (some_now d) c.pop.ensures.rest in
    omega (arith, s)

pub parts-preserved : goal.parts-preserved
parts-preserved c =
    let d = (goal.at.parts-preserved c).After-len in
    let t = c.parts.self in
    let same = c.parts.invariant in
    let fits = t.parts.ok.0 in
    let e = c.len.ensures in
    let n : c.len.result ≡ vec_len t.parts = e in
    let is = last_now d c.index.result.now c.index.ensures in
    let cut : c.pop.new.self.items ≡ take (c.len.result - 1) t.parts.items = c.pop.ensures.rest ∙ ap (λ (k : ℕ). take (k - 1) t.parts.items) (sym n) in
    let reached = subst (λ (s : List ℕ). AllReach (rows_of c.args.self.now.rows.items) s (get_or s c.args.place 0)) (sym same.way.stack) c.requires.reached in
    let reached' : AllReach (rows_of t.rows.items) t.stack.items (get_or t.stack.items c.args.place 0) =
    subst (λ (r : List (List ℕ)). AllReach r t.stack.items (get_or t.stack.items c.args.place 0)) (ap rows_of (sym same.way.rows)) reached in
    record {
      walk = joined_state (rows_of t.rows.items) t.marks.items t.stack.items t.parts.items c.pop.new.self.items t.waiting.items t.closed c.args.place c.len.result c.index.result.now same.walk is cut c.parts-test.true (within_now d) reached';
      way = record { rows = same.way.rows; marks = same.way.marks; stack = same.way.stack; waiting = same.way.waiting; closed = same.way.closed };
      old = λ y k. same.old y (joined_old t.parts.items c.pop.new.self.items c.len.result c.index.result.now is cut y k);
      fewer =
          let less = shorter t.parts.items c.pop.new.self.items (vec_len t.parts) (omega (arith, fits)) (some_now d) c.pop.ensures.rest in
          let few = same.fewer in
          omega (arith, less, few);
    }

pub returns-clause-joined : goal.returns-clause-joined
returns-clause-joined c =
    let d = (goal.at.returns-clause-joined c).After-len in
    let t = c.parts.self in
    all_first (rows_of t.rows.items) t.marks.items t.stack.items t.parts.items t.waiting.items t.closed c.args.place c.len.result c.index.result.now c.parts.invariant.walk
    (last_now d c.index.result.now c.index.ensures) c.parts-test.false
