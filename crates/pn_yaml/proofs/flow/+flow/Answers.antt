use Rattle.std.proofs.Common.{◌≡◌, ◌<◌, ◌≤◌, ◌++◌, ◌∷◌, [], ℕ, List, length, Ok, sym, ap, subst, ◌∙◌, arith, rules, map as each}
use Rattle.std.proofs.lemmas.List.{map_push}
use Rattle.std.proofs.lemmas.Result.{err_from_is_err_and}
use Rattle.pn_yaml.specs.declared.node.Node.{Node}
use Rattle.pn_yaml.specs.Data.{Data, list, map}
use Rattle.pn_yaml.specs.Outcome.{Fails, Gives}
use Rattle.pn_yaml.specs.Flow.{flow_at, flow_key, flow_value}
use Rattle.pn_yaml.specs.FlowSteps.{before_step, behind_step}
use Rattle.pn_yaml.specs.KeySets.{AreKeys, seen_of}
use Rattle.pn_yaml.specs.View.{items_of, members_view, view}
use Rattle.pn_yaml.proofs.Flows.{ItemsSoFar, MembersSoFar, flow_list, flow_map, flow_within, items_closed, items_ended, items_on, items_unbegun, items_unended, items_unread, key_shorter, member_read, members_closed, members_ended, members_on, members_unbegun, members_unended, members_unkeyed, members_unvalued, value_shorter}
use Rattle.pn_yaml.proofs.KeyLists.{seen_more}
use Rattle.pn_yaml.proofs.NodeViews.{view-List, view-Map}
use Rattle.pn_yaml.proofs.Rounds.{Reads, before_within, comma_shorter}
use Rattle.pn_yaml.proofs.Shrinking.{within_ok}
use Rattle.pn_yaml.proofs.FlowStepLemmas.{closed_step, open_step}
use Rattle.pn_yaml.proofs.flow.+flow.Goals as goal

pub flow_at-returns-in-Some : goal.flow_at-returns-in-Some
flow_at-returns-in-Some t c =
    subst (λ (r : Reads Data). Gives (λ r. (view r.0, r.1.now)) c.list_at.result r)
    (sym (flow_list c.args.levels c.args.line c.args.text.now c.in-Some.inner.now c.if-levels-eq0.false c.in-Some.ensures)) c.list_at.ensures

pub flow_at-returns-in-Some-behind : goal.flow_at-returns-in-Some-behind
flow_at-returns-in-Some-behind t c =
    subst (λ (r : Reads Data). Gives (λ r. (view r.0, r.1.now)) c.map_at.result r)
    (sym (flow_map c.args.levels c.args.line c.args.text.now c.in-Some-behind.inner.now c.if-levels-eq0.false c.in-Some-behind.ensures)) c.map_at.ensures

pub list_at-returns-in_err-front : goal.list_at-returns-in_err-front
list_at-returns-in_err-front t c =
    let p = err_from_is_err_and c.from_residual.result c.from_residual.ensures.1 in
    rw (p.1, p.2) (items_unbegun (flow_at c.args.levels c.args.line) c.args.line c.args.text.now (each view c.items.items) c.items.rest.now c.in_err-front.field-0.0 c.items.invariant.so_far c.in_err-front.ensures)

pub list_at-returns-in-Closed : goal.list_at-returns-in-Closed
list_at-returns-in-Closed t c =
    items_closed (flow_at c.args.levels c.args.line) c.args.line c.args.text.now (each view c.items.items) c.items.rest.now c.in-Closed.after.now c.items.invariant.so_far
    (closed_step (before_step c.args.line 93 c.items.rest.now) c.in_ok-front.field-0 c.in-Closed.after c.in_ok-front.ensures c.in-Closed.is)
    ∙ ap (λ (d : Data). let r : Reads Data = Ok (d, c.in-Closed.after.now) in r) (sym (view-List c.items.items))

pub list_at-returns-in_err-item : goal.list_at-returns-in_err-item
list_at-returns-in_err-item t c =
    let p = err_from_is_err_and c.from_residual-in_err-item.result c.from_residual-in_err-item.ensures.1 in
    let opened = open_step (before_step c.args.line 93 c.items.rest.now) c.in_ok-front.field-0 c.in-Open.front c.in_ok-front.ensures c.in-Open.is in
    rw (p.1, p.2) (items_unread (flow_at c.args.levels c.args.line) c.args.line c.args.text.now (each view c.items.items) c.items.rest.now c.in-Open.front.now c.in_err-item.field-0.0 c.items.invariant.so_far opened c.in_err-item.ensures)

pub list_at-returns-in_err-more : goal.list_at-returns-in_err-more
list_at-returns-in_err-more t c =
    let p = err_from_is_err_and c.from_residual-in_err-more.result c.from_residual-in_err-more.ensures.1 in
    let opened = open_step (before_step c.args.line 93 c.items.rest.now) c.in_ok-front.field-0 c.in-Open.front c.in_ok-front.ensures c.in-Open.is in
    rw (p.1, p.2) (items_unended (flow_at c.args.levels c.args.line) c.args.line c.args.text.now (each view c.items.items) c.items.rest.now c.in-Open.front.now (view c.in_ok-item.item) c.in_ok-item.after.now
    c.in_err-more.field-0.0 c.items.invariant.so_far opened c.in_ok-item.ensures c.in_err-more.ensures)

pub list_at-returns-in-Closed-2 : goal.list_at-returns-in-Closed-2
list_at-returns-in-Closed-2 t c =
    let opened = open_step (before_step c.args.line 93 c.items.rest.now) c.in_ok-front.field-0 c.in-Open.front c.in_ok-front.ensures c.in-Open.is in
    let shut = closed_step (behind_step c.args.line 93 c.in_ok-item.after.now) c.in_ok-more.field-0 c.in-Closed-2.after c.in_ok-more.ensures c.in-Closed-2.is in
    let all : each view c.push.new.self ≡ each view c.items.items ++ view c.in_ok-item.item ∷ [] = ap (λ (ns : List Node). each view ns) c.in_ok-push.ensures.ok ∙ map_push view c.items.items c.in_ok-item.item in
    let said : List Data → Reads Data = λ ds. Ok (list (items_of ds), c.in-Closed-2.after.now) in
    items_ended (flow_at c.args.levels c.args.line) c.args.line c.args.text.now (each view c.items.items) c.items.rest.now c.in-Open.front.now (view c.in_ok-item.item) c.in_ok-item.after.now c.in-Closed-2.after.now
    c.items.invariant.so_far opened c.in_ok-item.ensures shut
    ∙ ap said (sym all)
    ∙ ap (λ (d : Data). let r : Reads Data = Ok (d, c.in-Closed-2.after.now) in r) (sym (view-List c.push.new.self))

pub list_at-items-smaller : goal.list_at-items-smaller
list_at-items-smaller t c =
    let levels = c.args.levels in
    let line = c.args.line in
    let front = c.in-Open.front.now in
    let after = c.in_ok-item.after.now in
    let opened = open_step (before_step line 93 c.items.rest.now) c.in_ok-front.field-0 c.in-Open.front c.in_ok-front.ensures c.in-Open.is in
    let on = open_step (behind_step line 93 after) c.in_ok-more.field-0 c.in-Open-2.more c.in_ok-more.ensures c.in-Open-2.is in
    let a : length front ≤ length c.items.rest.now = within_ok (length c.items.rest.now) (before_step line 93 c.items.rest.now) _ front (before_within line 93 c.items.rest.now) opened in
    let b : length after ≤ length front = within_ok (length front) (flow_at levels line front) (view c.in_ok-item.item) after (flow_within levels line front) c.in_ok-item.ensures in
    let d : length c.in-Open-2.more.now < length after = comma_shorter line 93 after c.in-Open-2.more.now on in
    omega (arith, a, b, d)

pub list_at-items-preserved : goal.list_at-items-preserved
list_at-items-preserved t c =
    let levels = c.args.levels in
    let line = c.args.line in
    let front = c.in-Open.front.now in
    let after = c.in_ok-item.after.now in
    let opened = open_step (before_step line 93 c.items.rest.now) c.in_ok-front.field-0 c.in-Open.front c.in_ok-front.ensures c.in-Open.is in
    let on = open_step (behind_step line 93 after) c.in_ok-more.field-0 c.in-Open-2.more c.in_ok-more.ensures c.in-Open-2.is in
    let all : each view c.push.new.self ≡ each view c.items.items ++ view c.in_ok-item.item ∷ [] = ap (λ (ns : List Node). each view ns) c.in_ok-push.ensures.ok ∙ map_push view c.items.items c.in_ok-item.item in
    let a : length front ≤ length c.items.rest.now = within_ok (length c.items.rest.now) (before_step line 93 c.items.rest.now) _ front (before_within line 93 c.items.rest.now) opened in
    let b : length after ≤ length front = within_ok (length front) (flow_at levels line front) (view c.in_ok-item.item) after (flow_within levels line front) c.in_ok-item.ensures in
    let d : length c.in-Open-2.more.now < length after = comma_shorter line 93 after c.in-Open-2.more.now on in
    record {
      utf8 = search rules;
      so_far = subst (λ (ds : List Data). ItemsSoFar (flow_at levels line) line c.args.text.now ds c.in-Open-2.more.now) (sym all)
          (items_on (flow_at levels line) line c.args.text.now (each view c.items.items) c.items.rest.now front (view c.in_ok-item.item) after c.in-Open-2.more.now c.items.invariant.so_far opened c.in_ok-item.ensures on (omega (arith, a, b, d)));
    }

pub map_at-returns-in_err-front : goal.map_at-returns-in_err-front
map_at-returns-in_err-front t c =
    let p = err_from_is_err_and c.from_residual.result c.from_residual.ensures.1 in
    rw (p.1, p.2) (members_unbegun (flow_at c.args.levels c.args.line) c.args.line c.args.text.now c.members.members c.members.rest.now c.in_err-front.field-0.0 c.members.invariant.so_far c.in_err-front.ensures)

pub map_at-returns-in-Closed : goal.map_at-returns-in-Closed
map_at-returns-in-Closed t c =
    members_closed (flow_at c.args.levels c.args.line) c.args.line c.args.text.now c.members.members c.members.rest.now c.in-Closed.after.now c.members.invariant.so_far
    (closed_step (before_step c.args.line 125 c.members.rest.now) c.in_ok-front.field-0 c.in-Closed.after c.in_ok-front.ensures c.in-Closed.is)
    ∙ ap (λ (d : Data). let r : Reads Data = Ok (d, c.in-Closed.after.now) in r) (sym (view-Map c.members.members))

pub map_at-key_at-requires : goal.map_at-key_at-requires
map_at-key_at-requires t c = subst (λ (ms : List (List ℕ × Node)). AreKeys c.members.keys (seen_of ms)) (sym c.as_slice.ensures) c.members.invariant.keys

pub map_at-returns-in_err-key : goal.map_at-returns-in_err-key
map_at-returns-in_err-key t c =
    let p = err_from_is_err_and c.from_residual-in_err-key.result c.from_residual-in_err-key.ensures.1 in
    let opened = open_step (before_step c.args.line 125 c.members.rest.now) c.in_ok-front.field-0 c.in-Open.front c.in_ok-front.ensures c.in-Open.is in
    let fails = subst (λ (ms : List (List ℕ × Node)). Fails c.in_err-key.field-0.0 (flow_key c.args.line (seen_of ms) c.in-Open.front.now)) c.as_slice.ensures c.in_err-key.ensures.gives in
    rw (p.1, p.2) (members_unkeyed (flow_at c.args.levels c.args.line) c.args.line c.args.text.now c.members.members c.members.rest.now c.in-Open.front.now c.in_err-key.field-0.0 c.members.invariant.so_far opened fails)

pub map_at-returns-in_err-value : goal.map_at-returns-in_err-value
map_at-returns-in_err-value t c =
    let p = err_from_is_err_and c.from_residual-in_err-value.result c.from_residual-in_err-value.ensures.1 in
    let opened = open_step (before_step c.args.line 125 c.members.rest.now) c.in_ok-front.field-0 c.in-Open.front c.in_ok-front.ensures c.in-Open.is in
    let gives : flow_key c.args.line (seen_of c.members.members) c.in-Open.front.now ≡ Ok (c.in_ok-key.key, c.in_ok-key.after.now) =
    ap (λ (ms : List (List ℕ × Node)). flow_key c.args.line (seen_of ms) c.in-Open.front.now) (sym c.as_slice.ensures) ∙ c.in_ok-key.ensures.gives in
    rw (p.1, p.2) (members_unvalued (flow_at c.args.levels c.args.line) c.args.line c.args.text.now c.members.members c.members.rest.now c.in-Open.front.now c.in_ok-key.key c.in_ok-key.after.now c.in_err-value.field-0.0 c.members.invariant.so_far opened gives c.in_err-value.ensures)

pub map_at-returns-in_err-more : goal.map_at-returns-in_err-more
map_at-returns-in_err-more t c =
    let p = err_from_is_err_and c.from_residual-in_err-more.result c.from_residual-in_err-more.ensures.1 in
    let opened = open_step (before_step c.args.line 125 c.members.rest.now) c.in_ok-front.field-0 c.in-Open.front c.in_ok-front.ensures c.in-Open.is in
    let gives : flow_key c.args.line (seen_of c.members.members) c.in-Open.front.now ≡ Ok (c.in_ok-key.key, c.in_ok-key.after.now) =
    ap (λ (ms : List (List ℕ × Node)). flow_key c.args.line (seen_of ms) c.in-Open.front.now) (sym c.as_slice.ensures) ∙ c.in_ok-key.ensures.gives in
    let read = member_read (flow_at c.args.levels c.args.line) c.args.line (seen_of c.members.members) c.in-Open.front.now c.in_ok-key.key c.in_ok-key.after.now
    (view c.in_ok-value.value) c.in_ok-value.after.now gives c.in_ok-value.ensures in
    rw (p.1, p.2) (members_unended (flow_at c.args.levels c.args.line) c.args.line c.args.text.now c.members.members c.members.rest.now c.in-Open.front.now (c.in_ok-key.key, view c.in_ok-value.value) c.in_ok-value.after.now
    c.in_err-more.field-0.0 c.members.invariant.so_far opened read c.in_err-more.ensures)

pub map_at-returns-in-Closed-2 : goal.map_at-returns-in-Closed-2
map_at-returns-in-Closed-2 t c =
    let opened = open_step (before_step c.args.line 125 c.members.rest.now) c.in_ok-front.field-0 c.in-Open.front c.in_ok-front.ensures c.in-Open.is in
    let gives : flow_key c.args.line (seen_of c.members.members) c.in-Open.front.now ≡ Ok (c.in_ok-key.key, c.in_ok-key.after.now) =
    ap (λ (ms : List (List ℕ × Node)). flow_key c.args.line (seen_of ms) c.in-Open.front.now) (sym c.as_slice.ensures) ∙ c.in_ok-key.ensures.gives in
    let read = member_read (flow_at c.args.levels c.args.line) c.args.line (seen_of c.members.members) c.in-Open.front.now c.in_ok-key.key c.in_ok-key.after.now
    (view c.in_ok-value.value) c.in_ok-value.after.now gives c.in_ok-value.ensures in
    let shut = closed_step (behind_step c.args.line 125 c.in_ok-value.after.now) c.in_ok-more.field-0 c.in-Closed-2.after c.in_ok-more.ensures c.in-Closed-2.is in
    let said : List (List ℕ × Node) → Reads Data = λ ms. Ok (map (members_view ms), c.in-Closed-2.after.now) in
    members_ended (flow_at c.args.levels c.args.line) c.args.line c.args.text.now c.members.members c.members.rest.now c.in-Open.front.now c.in_ok-key.key c.in_ok-value.value c.in_ok-value.after.now c.in-Closed-2.after.now
    c.members.invariant.so_far opened read shut
    ∙ ap said (sym c.in_ok-push.ensures.ok)
    ∙ ap (λ (d : Data). let r : Reads Data = Ok (d, c.in-Closed-2.after.now) in r) (sym (view-Map c.push.new.self))

pub map_at-members-smaller : goal.map_at-members-smaller
map_at-members-smaller t c =
    let opened = open_step (before_step c.args.line 125 c.members.rest.now) c.in_ok-front.field-0 c.in-Open.front c.in_ok-front.ensures c.in-Open.is in
    let gives : flow_key c.args.line (seen_of c.members.members) c.in-Open.front.now ≡ Ok (c.in_ok-key.key, c.in_ok-key.after.now) =
    ap (λ (ms : List (List ℕ × Node)). flow_key c.args.line (seen_of ms) c.in-Open.front.now) (sym c.as_slice.ensures) ∙ c.in_ok-key.ensures.gives in
    let a : length c.in-Open.front.now ≤ length c.members.rest.now = within_ok (length c.members.rest.now) (before_step c.args.line 125 c.members.rest.now) _ c.in-Open.front.now
    (before_within c.args.line 125 c.members.rest.now) opened in
    let b : length c.in_ok-key.after.now ≤ length c.in-Open.front.now = within_ok (length c.in-Open.front.now) (flow_key c.args.line (seen_of c.members.members) c.in-Open.front.now) c.in_ok-key.key
    c.in_ok-key.after.now (key_shorter c.args.line (seen_of c.members.members) c.in-Open.front.now) gives in
    let d : length c.in_ok-value.after.now ≤ length c.in_ok-key.after.now = within_ok (length c.in_ok-key.after.now) (flow_value (flow_at c.args.levels c.args.line) c.args.line c.in_ok-key.after.now)
    (view c.in_ok-value.value) c.in_ok-value.after.now (value_shorter c.args.levels c.args.line c.in_ok-key.after.now) c.in_ok-value.ensures in
    let on = open_step (behind_step c.args.line 125 c.in_ok-value.after.now) c.in_ok-more.field-0 c.in-Open-2.more c.in_ok-more.ensures c.in-Open-2.is in
    let e : length c.in-Open-2.more.now < length c.in_ok-value.after.now = comma_shorter c.args.line 125 c.in_ok-value.after.now c.in-Open-2.more.now on in
    omega (arith, a, b, d, e)

pub map_at-members-preserved : goal.map_at-members-preserved
map_at-members-preserved t c =
    let opened = open_step (before_step c.args.line 125 c.members.rest.now) c.in_ok-front.field-0 c.in-Open.front c.in_ok-front.ensures c.in-Open.is in
    let gives : flow_key c.args.line (seen_of c.members.members) c.in-Open.front.now ≡ Ok (c.in_ok-key.key, c.in_ok-key.after.now) =
    ap (λ (ms : List (List ℕ × Node)). flow_key c.args.line (seen_of ms) c.in-Open.front.now) (sym c.as_slice.ensures) ∙ c.in_ok-key.ensures.gives in
    let read = member_read (flow_at c.args.levels c.args.line) c.args.line (seen_of c.members.members) c.in-Open.front.now c.in_ok-key.key c.in_ok-key.after.now
    (view c.in_ok-value.value) c.in_ok-value.after.now gives c.in_ok-value.ensures in
    let a : length c.in-Open.front.now ≤ length c.members.rest.now = within_ok (length c.members.rest.now) (before_step c.args.line 125 c.members.rest.now) _ c.in-Open.front.now
    (before_within c.args.line 125 c.members.rest.now) opened in
    let b : length c.in_ok-key.after.now ≤ length c.in-Open.front.now = within_ok (length c.in-Open.front.now) (flow_key c.args.line (seen_of c.members.members) c.in-Open.front.now) c.in_ok-key.key
    c.in_ok-key.after.now (key_shorter c.args.line (seen_of c.members.members) c.in-Open.front.now) gives in
    let d : length c.in_ok-value.after.now ≤ length c.in_ok-key.after.now = within_ok (length c.in_ok-key.after.now) (flow_value (flow_at c.args.levels c.args.line) c.args.line c.in_ok-key.after.now)
    (view c.in_ok-value.value) c.in_ok-value.after.now (value_shorter c.args.levels c.args.line c.in_ok-key.after.now) c.in_ok-value.ensures in
    let on = open_step (behind_step c.args.line 125 c.in_ok-value.after.now) c.in_ok-more.field-0 c.in-Open-2.more c.in_ok-more.ensures c.in-Open-2.is in
    let e : length c.in-Open-2.more.now < length c.in_ok-value.after.now = comma_shorter c.args.line 125 c.in_ok-value.after.now c.in-Open-2.more.now on in
    record {
      utf8 = search rules;
      keys = subst (λ (seen : List (List ℕ)). AreKeys c.key_at.new.keys seen)
          (ap (λ (ms : List (List ℕ × Node)). c.in_ok-key.key ∷ seen_of ms) c.as_slice.ensures ∙ sym (seen_more c.members.members (c.in_ok-key.key, c.in_ok-value.value)) ∙ ap seen_of (sym c.in_ok-push.ensures.ok))
          c.in_ok-key.ensures.kept;
      so_far = subst (λ (ms : List (List ℕ × Node)). MembersSoFar (flow_at c.args.levels c.args.line) c.args.line c.args.text.now ms c.in-Open-2.more.now) (sym c.in_ok-push.ensures.ok)
          (members_on (flow_at c.args.levels c.args.line) c.args.line c.args.text.now c.members.members c.members.rest.now c.in-Open.front.now c.in_ok-key.key c.in_ok-value.value c.in_ok-value.after.now c.in-Open-2.more.now c.members.invariant.so_far opened read on
          (omega (arith, a, b, d, e)));
    }
