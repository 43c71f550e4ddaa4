use Rattle.std.proofs.Common.{◌≡◌, ◌∙◌, ℕ, suc, ◌≤◌, ◌∷◌, ◌++◌, [], List, length, ap, sym, subst, arith, true, false, Option, Result, Ok}
use Rattle.std.proofs.lemmas.Result.{err_from_is_err_and}
use Rattle.pn_yaml.specs.declared.fault.YamlFault.{YamlFault}
use Rattle.pn_yaml.specs.declared.line.Front.{Front}
use Rattle.pn_yaml.specs.declared.node.Node.{Node}
use Rattle.pn_yaml.specs.BlockSteps.{block_key, items_from, members_from}
use Rattle.pn_yaml.specs.Blocks.{value_on, list_in, map_in}
use Rattle.pn_yaml.specs.Bytes.{tail_of}
use Rattle.pn_yaml.specs.Cursor.{row_of, rows_ahead, rows_left, node_ahead}
use Rattle.pn_yaml.specs.Data.{Data}
use Rattle.pn_yaml.specs.KeySets.{AreKeys, seen_of}
use Rattle.pn_yaml.specs.Literals.{style_is}
use Rattle.pn_yaml.specs.Outcome.{Fails, Gives}
use Rattle.pn_yaml.specs.Rows.{Row, row_indentation, content}
use Rattle.pn_yaml.specs.View.{view}
use Rattle.pn_yaml.proofs.Blocking.{ItemsLeft, MembersLeft, items_begin, items_stop, items_end, items_fail, items_more, members_begin, members_stop, members_deep, members_end, key_fail, value_fail, members_more, value_bare, value_block_at, value_scalar_at}
use Rattle.pn_yaml.proofs.Fewer.{value_leaves, leaves_ok}
use Rattle.pn_yaml.proofs.NodeViews.{view-List, view-Map}
use Rattle.pn_yaml.proofs.Exits.{exit_gives, fails_on}
use Rattle.pn_yaml.proofs.Views.{views, member_views, views_push, member_views_push, seen_of_push}
use Rattle.pn_yaml.proofs.block.+block.Goals as goal

abbrev Read : Type 0
Read = Result (Data × List Row) YamlFault

read : List Row → Data → Read
read rows d = Ok (d, rows)

-- ---- items

pub list_at-items-init : goal.list_at-items-init
list_at-items-init t c =
    subst (λ (ns : List Node). ItemsLeft (value_on c.args.levels) c.args.front.line.indent (views ns) (row_of c.args.front.line ∷ rows_left c.args.front.below) (items_from c.args.levels (row_of c.args.front.line) (rows_left c.args.front.below)))
    (sym c.new-items.ensures) (items_begin c.args.levels c.args.front.line.indent (row_of c.args.front.line) (rows_left c.args.front.below) c.args.front.line.indented)

pub list_at-returns-in_default-item_at : goal.list_at-returns-in_default-item_at
list_at-returns-in_default-item_at t c =
    let row = row_of c.in-Some.front.line in
    let below = rows_left c.in-Some.front.below in
    let h = rw c.in-Some.is at c.items.invariant in
    ap list_in (items_stop (value_on c.args.levels) c.args.front.line.indent (views c.items.items) row below (items_from c.args.levels (row_of c.args.front.line) (rows_left c.args.front.below)) h c.in_default-item_at.ensures)
    ∙ ap (λ (d : Data). let r : Read = Ok (d, row ∷ below) in r) (sym (view-List c.items.items))

pub list_at-returns-in_err-item : goal.list_at-returns-in_err-item
list_at-returns-in_err-item t c =
    let p = err_from_is_err_and c.from_residual.result c.from_residual.ensures.1 in
    let row = row_of c.in-Some.front.line in
    let below = rows_left c.in-Some.front.below in
    let total = items_from c.args.levels (row_of c.args.front.line) (rows_left c.args.front.below) in
    let h = rw c.in-Some.is at c.items.invariant in
    let f = rw c.in-Some-item_at.ensures.1 at c.in_err-item.ensures in
    exit_gives node_ahead c.in_err-item.field-0.0 c.from_residual.result (list_in total) p
    (fails_on c.in_err-item.field-0.0 (value_on c.args.levels false (tail_of (content row)) row below) (list_in total)
    (λ d is. ap list_in (items_fail (value_on c.args.levels) c.args.front.line.indent (views c.items.items) row below total d h c.in-Some-item_at.ensures.0 is)) f)

pub list_at-items-smaller : goal.list_at-items-smaller
list_at-items-smaller t c =
    let row = row_of c.in-Some.front.line in
    let below = rows_left c.in-Some.front.below in
    let text = c.in-Some-item_at.text.now in
    let le : length (rows_ahead c.in_ok-item.after) ≤ length below =
    leaves_ok (length below) (value_on c.args.levels false text row below) (view c.in_ok-item.item) (rows_ahead c.in_ok-item.after) (value_leaves c.args.levels false text row below) c.in_ok-item.ensures in
    let len : length (rows_ahead c.items.next) ≡ suc (length below) = ap (λ (o : Option Front). length (rows_ahead o)) c.in-Some.is in
    omega (arith, le, len)

pub list_at-items-preserved : goal.list_at-items-preserved
list_at-items-preserved t c =
    let row = row_of c.in-Some.front.line in
    let below = rows_left c.in-Some.front.below in
    let total = items_from c.args.levels (row_of c.args.front.line) (rows_left c.args.front.below) in
    let h = rw c.in-Some.is at c.items.invariant in
    let e = rw c.in-Some-item_at.ensures.1 at c.in_ok-item.ensures in
    let all : views c.push.new.self ≡ views c.items.items ++ view c.in_ok-item.item ∷ [] = ap views c.in_ok-push.ensures.ok ∙ views_push c.items.items c.in_ok-item.item in
    subst (λ (ds : List Data). ItemsLeft (value_on c.args.levels) c.args.front.line.indent ds (rows_ahead c.in_ok-item.after) total) (sym all)
    (items_more (value_on c.args.levels) c.args.front.line.indent (views c.items.items) row below total (view c.in_ok-item.item) (rows_ahead c.in_ok-item.after) (value_leaves c.args.levels) h c.in-Some-item_at.ensures.0 e)

pub list_at-returns : goal.list_at-returns
list_at-returns t c =
    let h = rw c.in_default.is at c.items.invariant in
    ap list_in (items_end (value_on c.args.levels) c.args.front.line.indent (views c.items.items) (items_from c.args.levels (row_of c.args.front.line) (rows_left c.args.front.below)) h)
    ∙ ap (λ (d : Data). let r : Read = Ok (d, []) in r) (sym (view-List c.items.items))

-- ---- members

pub map_at-members-init : goal.map_at-members-init
map_at-members-init t c = record {
  keys = subst (λ (ms : List (List ℕ × Node)). AreKeys c.new-keys.result (seen_of ms)) (sym c.new-members.ensures) c.new-keys.ensures;
  left = subst (λ (ms : List (List ℕ × Node)). MembersLeft (value_on c.args.levels) c.args.front.line.indent (seen_of ms) (member_views ms) (row_of c.args.front.line ∷ rows_left c.args.front.below) (members_from c.args.levels (row_of c.args.front.line) (rows_left c.args.front.below)))
      (sym c.new-members.ensures) (members_begin c.args.levels c.args.front.line.indent (row_of c.args.front.line) (rows_left c.args.front.below) c.args.front.line.indented);
}

pub map_at-returns-then-front-indent : goal.map_at-returns-then-front-indent
map_at-returns-then-front-indent t c =
    let row = row_of c.in-Some.front.line in
    let below = rows_left c.in-Some.front.below in
    let h = rw c.in-Some.is at c.members.invariant.left in
    let indented = c.in-Some.front.line.indented in
    ap map_in (members_stop (value_on c.args.levels) c.args.front.line.indent (seen_of c.members.members) (member_views c.members.members) row below (members_from c.args.levels (row_of c.args.front.line) (rows_left c.args.front.below)) h (omega (arith, indented)))
    ∙ ap (λ (d : Data). let r : Read = Ok (d, row ∷ below) in r) (sym (view-Map c.members.members))

pub map_at-returns-then-front-indent-2 : goal.map_at-returns-then-front-indent-2
map_at-returns-then-front-indent-2 t c =
    let row = row_of c.in-Some.front.line in
    let below = rows_left c.in-Some.front.below in
    let h = rw c.in-Some.is at c.members.invariant.left in
    let indented = c.in-Some.front.line.indented in
    ap map_in (members_deep (value_on c.args.levels) c.args.front.line.indent (seen_of c.members.members) (member_views c.members.members) row below (members_from c.args.levels (row_of c.args.front.line) (rows_left c.args.front.below)) h (omega (arith, indented)))

pub map_at-returns-in_err-key : goal.map_at-returns-in_err-key
map_at-returns-in_err-key t c =
    let p = err_from_is_err_and c.from_residual.result c.from_residual.ensures.1 in
    let row = row_of c.in-Some.front.line in
    let below = rows_left c.in-Some.front.below in
    let seen = seen_of c.members.members in
    let total = members_from c.args.levels (row_of c.args.front.line) (rows_left c.args.front.below) in
    let h = rw c.in-Some.is at c.members.invariant.left in
    let indented = c.in-Some.front.line.indented in
    let at : row_indentation row ≡ c.args.front.line.indent = omega (arith, indented) in
    let f = subst (λ (ms : List (List ℕ × Node)). Fails c.in_err-key.field-0.0 (block_key (seen_of ms) row)) c.as_slice.ensures c.in_err-key.ensures.gives in
    exit_gives node_ahead c.in_err-key.field-0.0 c.from_residual.result (map_in total) p
    (fails_on c.in_err-key.field-0.0 (block_key seen row) (map_in total)
    (λ d is. ap map_in (key_fail (value_on c.args.levels) c.args.front.line.indent seen (member_views c.members.members) row below total d h at is)) f)

pub map_at-returns-in_err-value : goal.map_at-returns-in_err-value
map_at-returns-in_err-value t c =
    let p = err_from_is_err_and c.from_residual-in_err-value.result c.from_residual-in_err-value.ensures.1 in
    let row = row_of c.in-Some.front.line in
    let below = rows_left c.in-Some.front.below in
    let seen = seen_of c.members.members in
    let total = members_from c.args.levels (row_of c.args.front.line) (rows_left c.args.front.below) in
    let h = rw c.in-Some.is at c.members.invariant.left in
    let indented = c.in-Some.front.line.indented in
    let at : row_indentation row ≡ c.args.front.line.indent = omega (arith, indented) in
    let k = subst (λ (ms : List (List ℕ × Node)). block_key (seen_of ms) row ≡ Ok (c.in_ok-key.key, c.in_ok-key.text.now)) c.as_slice.ensures c.in_ok-key.ensures.gives in
    exit_gives node_ahead c.in_err-value.field-0.0 c.from_residual-in_err-value.result (map_in total) p
    (fails_on c.in_err-value.field-0.0 (value_on c.args.levels true c.in_ok-key.text.now row below) (map_in total)
    (λ d is. ap map_in (value_fail (value_on c.args.levels) c.args.front.line.indent seen (member_views c.members.members) row below total (c.in_ok-key.key, c.in_ok-key.text.now) d h at k is)) c.in_err-value.ensures)

pub map_at-members-smaller : goal.map_at-members-smaller
map_at-members-smaller t c =
    let row = row_of c.in-Some.front.line in
    let below = rows_left c.in-Some.front.below in
    let text = c.in_ok-key.text.now in
    let le : length (rows_ahead c.in_ok-value.after) ≤ length below =
    leaves_ok (length below) (value_on c.args.levels true text row below) (view c.in_ok-value.value) (rows_ahead c.in_ok-value.after) (value_leaves c.args.levels true text row below) c.in_ok-value.ensures in
    let len : length (rows_ahead c.members.next) ≡ suc (length below) = ap (λ (o : Option Front). length (rows_ahead o)) c.in-Some.is in
    omega (arith, le, len)

pub map_at-members-preserved : goal.map_at-members-preserved
map_at-members-preserved t c =
    let row = row_of c.in-Some.front.line in
    let below = rows_left c.in-Some.front.below in
    let seen = seen_of c.members.members in
    let total = members_from c.args.levels (row_of c.args.front.line) (rows_left c.args.front.below) in
    let h = rw c.in-Some.is at c.members.invariant.left in
    let indented = c.in-Some.front.line.indented in
    let at : row_indentation row ≡ c.args.front.line.indent = omega (arith, indented) in
    let k = subst (λ (ms : List (List ℕ × Node)). block_key (seen_of ms) row ≡ Ok (c.in_ok-key.key, c.in_ok-key.text.now)) c.as_slice.ensures c.in_ok-key.ensures.gives in
    let kept = subst (λ (ms : List (List ℕ × Node)). AreKeys c.new_key.new.keys (c.in_ok-key.key ∷ seen_of ms)) c.as_slice.ensures c.in_ok-key.ensures.kept in
    let all : member_views c.push.new.self ≡ member_views c.members.members ++ (c.in_ok-key.key, view c.in_ok-value.value) ∷ [] =
    ap member_views c.in_ok-push.ensures.ok ∙ member_views_push c.members.members c.in_ok-key.key c.in_ok-value.value in
    let keys : seen_of c.push.new.self ≡ c.in_ok-key.key ∷ seen = ap seen_of c.in_ok-push.ensures.ok ∙ seen_of_push c.members.members c.in_ok-key.key c.in_ok-value.value in
    let more = members_more (value_on c.args.levels) c.args.front.line.indent seen (member_views c.members.members) row below total (c.in_ok-key.key, c.in_ok-key.text.now) (view c.in_ok-value.value) (rows_ahead c.in_ok-value.after)
    (value_leaves c.args.levels) h at k c.in_ok-value.ensures in
    record {
      keys = subst (λ (ks : List (List ℕ)). AreKeys c.new_key.new.keys ks) (sym keys) kept;
      left = subst (λ (ks : List (List ℕ)). MembersLeft (value_on c.args.levels) c.args.front.line.indent ks (member_views c.push.new.self) (rows_ahead c.in_ok-value.after) total) (sym keys)
          (subst (λ (ds : List (List ℕ × Data)). MembersLeft (value_on c.args.levels) c.args.front.line.indent (c.in_ok-key.key ∷ seen) ds (rows_ahead c.in_ok-value.after) total) (sym all) more);
    }

pub map_at-returns : goal.map_at-returns
map_at-returns t c =
    let h = rw c.in_default.is at c.members.invariant.left in
    ap map_in (members_end (value_on c.args.levels) c.args.front.line.indent (seen_of c.members.members) (member_views c.members.members) (members_from c.args.levels (row_of c.args.front.line) (rows_left c.args.front.below)) h)
    ∙ ap (λ (d : Data). let r : Read = Ok (d, []) in r) (sym (view-Map c.members.members))

-- ---- values

pub value_on-returns-in_default : goal.value_on-returns-in_default
value_on-returns-in_default t c =
    subst (λ (r : Read). Gives node_ahead c.unwritten.result r)
    (sym (value_bare c.args.levels c.args.keyed c.args.text.now (row_of c.args.front.line) (rows_left c.args.front.below) c.if-levels-eq0.false c.in_default.ensures)) c.unwritten.ensures

pub value_on-returns-in-Some-style_of : goal.value_on-returns-in-Some-style_of
value_on-returns-in-Some-style_of t c =
    subst (λ (r : Read). Gives node_ahead c.scalar_block.result r)
    (sym (value_block_at c.args.levels c.args.keyed c.args.text.now (row_of c.args.front.line) (rows_left c.args.front.below) c.in-Some.text.now (style_is c.in-Some-style_of.style) c.args.front.line.indent
    c.if-levels-eq0.false c.in-Some.ensures.0 c.in-Some.ensures.1 (sym c.is_flow.ensures ∙ c.if-is_flow.false) (sym c.in-Some-style_of.ensures) c.args.front.line.indented)) c.scalar_block.ensures

pub value_on-returns-in-None : goal.value_on-returns-in-None
value_on-returns-in-None t c =
    subst (λ (r : Read). Gives node_ahead c.scalar_on.result r)
    (sym (value_scalar_at c.args.levels c.args.keyed c.args.text.now (row_of c.args.front.line) (rows_left c.args.front.below) c.in-Some.text.now
    c.if-levels-eq0.false c.in-Some.ensures.0 c.in-Some.ensures.1 (sym c.is_flow.ensures ∙ c.if-is_flow.false) (sym c.in-None.ensures))) c.scalar_on.ensures
