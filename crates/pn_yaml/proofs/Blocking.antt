-- Blocks: what was read so far, before what is left.
use Rattle.std.proofs.Common.{◌≡◌, ℕ, zero, suc, ◌<◌, ◌≤◌, Bool, true, false, cond, ltb, List, [], ◌∷◌, ◌++◌, length, Option, Some, None, ◌-◌, Result, Ok, Err, refl, sym, ap, ◌∙◌, subst, arith}
use Rattle.std.proofs.lemmas.Bool.{lt-ltb, le-ltb}
use Rattle.pn_yaml.specs.declared.fault.YamlFault.{YamlFault}
use Rattle.pn_yaml.specs.declared.fault.Why.TheVariants as why
use Rattle.pn_yaml.specs.declared.fault.YamlFault.TheVariants as fault
use Rattle.pn_yaml.specs.BlockSteps.{block_key, flow_on, is_item_at, items_from, members_from}
use Rattle.pn_yaml.specs.Blocks.{Reader, Style, with_item, with_member, block_items, block_member, block_members, is_item, key_at, scalar_block, scalar_on, style_of, unwritten, value_on, root_at, block_at}
use Rattle.pn_yaml.specs.Bytes.{is_bare, tail_of, trimmed, unindented}
use Rattle.pn_yaml.specs.Data.{Data, Items, no_items, item, Members, no_members, member, is_among}
use Rattle.pn_yaml.specs.Flow.{is_flow}
use Rattle.pn_yaml.specs.Scalars.{plain_front}
use Rattle.pn_yaml.specs.declared.scalar.Place.TheVariants as place
use Rattle.pn_yaml.specs.Outcome.{◌>>=◌, wrong}
use Rattle.pn_yaml.specs.Rows.{Row, row_indentation, content}
use Rattle.pn_yaml.specs.View.{items_of, members_of}
use Rattle.pn_yaml.proofs.Fewer.{Reads, leaves_ok}

abbrev pub ItemsRead : Type 0
ItemsRead = Result (Items × List Row) YamlFault

abbrev pub MembersRead : Type 0
MembersRead = Result (Members × List Row) YamlFault

-- ---- items

abbrev items_onto : List Data → Items → Items
items_onto [] ds = ds
items_onto (d ∷ front) ds = item d (items_onto front ds)

abbrev pub with_items : List Data → ItemsRead → ItemsRead
with_items front (Ok r) = Ok (items_onto front r.0, r.1)
with_items front (Err e) = Err e

-- the items so far, before what is read of the lines that are left, are what is read in all
pub record ItemsLeft (value : Reader) (indent : ℕ) (front : List Data) (rows : List Row) (total : ItemsRead) : Type 0 where
  pub steps : ℕ
  pub enough : length rows ≤ steps
  pub so_far : with_items front (block_items value indent steps rows) ≡ total

with_items_nil : (r : ItemsRead) → with_items [] r ≡ r
with_items_nil (Ok r) = refl
with_items_nil (Err e) = refl

items_push : (front : List Data) (d : Data) (ds : Items) → items_onto (front ++ d ∷ []) ds ≡ items_onto front (item d ds)
items_push [] d ds = refl
items_push (e ∷ front) d ds = ap (item e) (items_push front d ds)

with_items_push : (front : List Data) (d : Data) (r : ItemsRead) → with_items (front ++ d ∷ []) r ≡ with_items front (with_item d r)
with_items_push front d (Ok r) = ap (λ (x : Items). Ok (x, r.1)) (items_push front d r.0)
with_items_push front d (Err e) = refl

items_all : (front : List Data) → items_onto front no_items ≡ items_of front
items_all [] = refl
items_all (d ∷ front) = ap (item d) (items_all front)

pub items_begin : (levels i : ℕ) (r : Row) (below : List Row) → i ≡ row_indentation r → ItemsLeft (value_on levels) i [] (r ∷ below) (items_from levels r below)
unfolding items_from
items_begin levels i r below e = record {
  steps = suc (length below);
  enough = omega arith;
  so_far = with_items_nil (block_items (value_on levels) i (suc (length below)) (r ∷ below)) ∙ ap (λ (x : ℕ). block_items (value_on levels) x (suc (length below)) (r ∷ below)) e;
}

item_read : (value : Reader) (i k : ℕ) (r : Row) (below : List Row) (d : Data) (next : List Row) → is_item_at i r ≡ true → value false (tail_of (content r)) r below ≡ Ok (d, next)
    → block_items value i (suc k) (r ∷ below) ≡ with_item d (block_items value i k next)
item_read value i k r below d next is e = rw (is, e) refl

items_step : (value : Reader) (i k : ℕ) (front : List Data) (r : Row) (below : List Row) (total : ItemsRead) (d : Data) (next : List Row) → suc (length below) ≤ k
    → with_items front (block_items value i k (r ∷ below)) ≡ total → is_item_at i r ≡ true → value false (tail_of (content r)) r below ≡ Ok (d, next) → length next ≤ length below
    → ItemsLeft value i (front ++ d ∷ []) next total
items_step value i zero front r below total d next en so is e le = absurd (omega arith)
items_step value i (suc k) front r below total d next en so is e le = record {
  steps = k;
  enough = omega arith;
  so_far = with_items_push front d (block_items value i k next) ∙ ap (with_items front) (sym (item_read value i k r below d next is e)) ∙ so;
}

pub items_more : (value : Reader) (i : ℕ) (front : List Data) (r : Row) (below : List Row) (total : ItemsRead) (d : Data) (next : List Row) → Reads value
    → ItemsLeft value i front (r ∷ below) total → is_item_at i r ≡ true → value false (tail_of (content r)) r below ≡ Ok (d, next) → ItemsLeft value i (front ++ d ∷ []) next total
items_more value i front r below total d next reads h is e =
    items_step value i h.steps front r below total d next h.enough h.so_far is e (leaves_ok (length below) (value false (tail_of (content r)) r below) d next (reads false (tail_of (content r)) r below) e)

items_stop_at : (value : Reader) (i k : ℕ) (front : List Data) (r : Row) (below : List Row) → suc (length below) ≤ k → is_item_at i r ≡ false
    → with_items front (block_items value i k (r ∷ below)) ≡ Ok (items_of front, r ∷ below)
items_stop_at value i zero front r below en is = absurd (omega arith)
items_stop_at value i (suc k) front r below en is = rw is (ap (λ (x : Items). Ok (x, r ∷ below)) (items_all front))

pub items_stop : (value : Reader) (i : ℕ) (front : List Data) (r : Row) (below : List Row) (total : ItemsRead) → ItemsLeft value i front (r ∷ below) total → is_item_at i r ≡ false
    → total ≡ Ok (items_of front, r ∷ below)
items_stop value i front r below total h is = sym h.so_far ∙ items_stop_at value i h.steps front r below h.enough is

items_end_at : (value : Reader) (i k : ℕ) (front : List Data) → with_items front (block_items value i k []) ≡ Ok (items_of front, [])
items_end_at value i zero front = ap (λ (x : Items). Ok (x, [])) (items_all front)
items_end_at value i (suc k) front = ap (λ (x : Items). Ok (x, [])) (items_all front)

pub items_end : (value : Reader) (i : ℕ) (front : List Data) (total : ItemsRead) → ItemsLeft value i front [] total → total ≡ Ok (items_of front, [])
items_end value i front total h = sym h.so_far ∙ items_end_at value i h.steps front

items_fail_at : (value : Reader) (i k : ℕ) (front : List Data) (r : Row) (below : List Row) (e : YamlFault) → suc (length below) ≤ k → is_item_at i r ≡ true
    → value false (tail_of (content r)) r below ≡ Err e → with_items front (block_items value i k (r ∷ below)) ≡ Err e
items_fail_at value i zero front r below e en is f = absurd (omega arith)
items_fail_at value i (suc k) front r below e en is f = rw (is, f) refl

pub items_fail : (value : Reader) (i : ℕ) (front : List Data) (r : Row) (below : List Row) (total : ItemsRead) (e : YamlFault) → ItemsLeft value i front (r ∷ below) total → is_item_at i r ≡ true
    → value false (tail_of (content r)) r below ≡ Err e → total ≡ Err e
items_fail value i front r below total e h is f = sym h.so_far ∙ items_fail_at value i h.steps front r below e h.enough is f

-- ---- members

abbrev members_onto : List (List ℕ × Data) → Members → Members
members_onto [] ms = ms
members_onto (m ∷ front) ms = member m.0 m.1 (members_onto front ms)

abbrev pub with_members : List (List ℕ × Data) → MembersRead → MembersRead
with_members front (Ok r) = Ok (members_onto front r.0, r.1)
with_members front (Err e) = Err e

-- the members so far, before what is read of the lines that are left, are what is read in all
pub record MembersLeft (value : Reader) (indent : ℕ) (seen : List (List ℕ)) (front : List (List ℕ × Data)) (rows : List Row) (total : MembersRead) : Type 0 where
  pub steps : ℕ
  pub enough : length rows ≤ steps
  pub so_far : with_members front (block_members value indent steps seen rows) ≡ total

with_members_nil : (r : MembersRead) → with_members [] r ≡ r
with_members_nil (Ok r) = refl
with_members_nil (Err e) = refl

members_push : (front : List (List ℕ × Data)) (k : List ℕ) (d : Data) (ms : Members) → members_onto (front ++ (k, d) ∷ []) ms ≡ members_onto front (member k d ms)
members_push [] k d ms = refl
members_push (m ∷ front) k d ms = ap (member m.0 m.1) (members_push front k d ms)

with_members_push : (front : List (List ℕ × Data)) (k : List ℕ) (d : Data) (r : MembersRead) → with_members (front ++ (k, d) ∷ []) r ≡ with_members front (with_member k d r)
with_members_push front k d (Ok r) = ap (λ (x : Members). Ok (x, r.1)) (members_push front k d r.0)
with_members_push front k d (Err e) = refl

members_all : (front : List (List ℕ × Data)) → members_onto front no_members ≡ members_of front
members_all [] = refl
members_all (m ∷ front) = ap (member m.0 m.1) (members_all front)

pub members_begin : (levels i : ℕ) (r : Row) (below : List Row) → i ≡ row_indentation r → MembersLeft (value_on levels) i [] [] (r ∷ below) (members_from levels r below)
unfolding members_from
members_begin levels i r below e = record {
  steps = suc (length below);
  enough = omega arith;
  so_far = with_members_nil (block_members (value_on levels) i (suc (length below)) [] (r ∷ below)) ∙ ap (λ (x : ℕ). block_members (value_on levels) x (suc (length below)) [] (r ∷ below)) e;
}

abbrev in_line : Reader → ℕ → ℕ → List (List ℕ) → Row → List Row → MembersRead
in_line value i k seen r below = block_member value seen r below >>= λ m. with_member m.0.0 m.0.1 (block_members value i k (m.0.0 ∷ seen) m.1)

at_member : (value : Reader) (i k : ℕ) (seen : List (List ℕ)) (r : Row) (below : List Row) → row_indentation r ≡ i → block_members value i (suc k) seen (r ∷ below) ≡ in_line value i k seen r below
at_member value i k seen r below e =
    let a : ltb (row_indentation r) i ≡ false = le-ltb _ _ (omega arith) in
    let b : ltb i (row_indentation r) ≡ false = le-ltb _ _ (omega arith) in
    rw (a, b) refl

abbrev KeyRead : Type 0
KeyRead = Result (List ℕ × List ℕ) YamlFault

abbrev MemberRead : Type 0
MemberRead = Result ((List ℕ × Data) × List Row) YamlFault

abbrev pair_of : List ℕ → Data × List Row → MemberRead
pair_of k v = Ok ((k, v.0), v.1)

abbrev valued : Reader → Row → List Row → List ℕ × List ℕ → MemberRead
valued value r below k = value true k.1 r below >>= pair_of k.0

abbrev no_key : Row → KeyRead
no_key r = wrong r.line why.Key

abbrev no_member : Row → MemberRead
no_member r = wrong r.line why.Key

abbrev twice_key : Row → KeyRead
twice_key r = wrong r.line why.Twice

abbrev twice_member : Row → MemberRead
twice_member r = wrong r.line why.Twice

abbrev new_key : List (List ℕ) → Row → List ℕ × List ℕ → KeyRead
new_key seen r j = cond (is_among j.0 seen) (twice_key r) (Ok j)

abbrev new_member : Reader → List (List ℕ) → Row → List Row → List ℕ × List ℕ → MemberRead
new_member value seen r below j = cond (is_among j.0 seen) (twice_member r) (valued value r below j)

ok_read : (value : Reader) (r : Row) (below : List Row) (k j : List ℕ × List ℕ) (a : Bool) → cond a (twice_key r) (Ok j) ≡ Ok k → cond a (twice_member r) (valued value r below j) ≡ valued value r below k
ok_read value r below k j true f = absurd cc
ok_read value r below k j false f = let same : j ≡ k = cc in ap (valued value r below) same

among_read : (value : Reader) (seen : List (List ℕ)) (r : Row) (below : List Row) (k : List ℕ × List ℕ) (key : KeyRead) → (key >>= new_key seen r) ≡ Ok k
    → (key >>= new_member value seen r below) ≡ valued value r below k
among_read value seen r below k (Ok j) f = ok_read value r below k j (is_among j.0 seen) f
among_read value seen r below k (Err e) f = absurd cc

key_read : (value : Reader) (seen : List (List ℕ)) (r : Row) (below : List Row) (k : List ℕ × List ℕ) → block_key seen r ≡ Ok k → block_member value seen r below ≡ valued value r below k
key_read value seen r below k e =
    elim (is_item (content r)) as (λ o. cond o (no_key r) (key_at r.line (content r) >>= new_key seen r) ≡ Ok k
    → cond o (no_member r) (key_at r.line (content r) >>= new_member value seen r below) ≡ valued value r below k) [
      | true ↦ λ f. absurd cc
      | false ↦ λ f. among_read value seen r below k (key_at r.line (content r)) f
    ] e

ok_fails : (value : Reader) (r : Row) (below : List Row) (e : YamlFault) (j : List ℕ × List ℕ) (a : Bool) → cond a (twice_key r) (Ok j) ≡ Err e → cond a (twice_member r) (valued value r below j) ≡ Err e
ok_fails value r below e j true f = let same : fault.Line r.line why.Twice ≡ e = cc in ap (λ (x : YamlFault). Err x) same
ok_fails value r below e j false f = absurd cc

among_fails : (value : Reader) (seen : List (List ℕ)) (r : Row) (below : List Row) (e : YamlFault) (key : KeyRead) → (key >>= new_key seen r) ≡ Err e → (key >>= new_member value seen r below) ≡ Err e
among_fails value seen r below e (Ok j) f = ok_fails value r below e j (is_among j.0 seen) f
among_fails value seen r below e (Err d) f = let same : d ≡ e = cc in ap (λ (x : YamlFault). Err x) same

key_fails : (value : Reader) (seen : List (List ℕ)) (r : Row) (below : List Row) (e : YamlFault) → block_key seen r ≡ Err e → block_member value seen r below ≡ Err e
key_fails value seen r below e h =
    elim (is_item (content r)) as (λ o. cond o (no_key r) (key_at r.line (content r) >>= new_key seen r) ≡ Err e → cond o (no_member r) (key_at r.line (content r) >>= new_member value seen r below) ≡ Err e) [
      | true ↦ λ f. let same : fault.Line r.line why.Key ≡ e = cc in ap (λ (x : YamlFault). Err x) same
      | false ↦ λ f. among_fails value seen r below e (key_at r.line (content r)) f
    ] h

member_read : (value : Reader) (seen : List (List ℕ)) (r : Row) (below : List Row) (k : List ℕ × List ℕ) (d : Data) (next : List Row) → block_key seen r ≡ Ok k → value true k.1 r below ≡ Ok (d, next)
    → block_member value seen r below ≡ Ok ((k.0, d), next)
member_read value seen r below k d next e f = key_read value seen r below k e ∙ rw f refl

members_step : (value : Reader) (i k : ℕ) (seen : List (List ℕ)) (front : List (List ℕ × Data)) (r : Row) (below : List Row) (total : MembersRead) (key : List ℕ × List ℕ) (d : Data) (next : List Row)
    → suc (length below) ≤ k → with_members front (block_members value i k seen (r ∷ below)) ≡ total → row_indentation r ≡ i → block_key seen r ≡ Ok key → value true key.1 r below ≡ Ok (d, next)
    → length next ≤ length below → MembersLeft value i (key.0 ∷ seen) (front ++ (key.0, d) ∷ []) next total
members_step value i zero seen front r below total key d next en so is e f le = absurd (omega arith)
members_step value i (suc k) seen front r below total key d next en so is e f le =
    let one : block_members value i (suc k) seen (r ∷ below) ≡ with_member key.0 d (block_members value i k (key.0 ∷ seen) next) =
    at_member value i k seen r below is ∙ rw (member_read value seen r below key d next e f) refl in
    record {
      steps = k;
      enough = omega arith;
      so_far = with_members_push front key.0 d (block_members value i k (key.0 ∷ seen) next) ∙ ap (with_members front) (sym one) ∙ so;
    }

pub members_more : (value : Reader) (i : ℕ) (seen : List (List ℕ)) (front : List (List ℕ × Data)) (r : Row) (below : List Row) (total : MembersRead) (key : List ℕ × List ℕ) (d : Data) (next : List Row)
    → Reads value → MembersLeft value i seen front (r ∷ below) total → row_indentation r ≡ i → block_key seen r ≡ Ok key → value true key.1 r below ≡ Ok (d, next)
    → MembersLeft value i (key.0 ∷ seen) (front ++ (key.0, d) ∷ []) next total
members_more value i seen front r below total key d next reads h is e f =
    members_step value i h.steps seen front r below total key d next h.enough h.so_far is e f (leaves_ok (length below) (value true key.1 r below) d next (reads true key.1 r below) f)

members_stop_at : (value : Reader) (i k : ℕ) (seen : List (List ℕ)) (front : List (List ℕ × Data)) (r : Row) (below : List Row) → suc (length below) ≤ k → row_indentation r < i
    → with_members front (block_members value i k seen (r ∷ below)) ≡ Ok (members_of front, r ∷ below)
members_stop_at value i zero seen front r below en lt = absurd (omega arith)
members_stop_at value i (suc k) seen front r below en lt = rw (lt-ltb _ _ lt) (ap (λ (x : Members). Ok (x, r ∷ below)) (members_all front))

pub members_stop : (value : Reader) (i : ℕ) (seen : List (List ℕ)) (front : List (List ℕ × Data)) (r : Row) (below : List Row) (total : MembersRead) → MembersLeft value i seen front (r ∷ below) total
    → row_indentation r < i → total ≡ Ok (members_of front, r ∷ below)
members_stop value i seen front r below total h lt = sym h.so_far ∙ members_stop_at value i h.steps seen front r below h.enough lt

members_deep_at : (value : Reader) (i k : ℕ) (seen : List (List ℕ)) (front : List (List ℕ × Data)) (r : Row) (below : List Row) → suc (length below) ≤ k → i < row_indentation r
    → with_members front (block_members value i k seen (r ∷ below)) ≡ wrong r.line why.Indent
members_deep_at value i zero seen front r below en lt = absurd (omega arith)
members_deep_at value i (suc k) seen front r below en lt =
    let a : ltb (row_indentation r) i ≡ false = le-ltb _ _ (omega arith) in
    rw (a, lt-ltb _ _ lt) refl

pub members_deep : (value : Reader) (i : ℕ) (seen : List (List ℕ)) (front : List (List ℕ × Data)) (r : Row) (below : List Row) (total : MembersRead) → MembersLeft value i seen front (r ∷ below) total
    → i < row_indentation r → total ≡ wrong r.line why.Indent
members_deep value i seen front r below total h lt = sym h.so_far ∙ members_deep_at value i h.steps seen front r below h.enough lt

members_end_at : (value : Reader) (i k : ℕ) (seen : List (List ℕ)) (front : List (List ℕ × Data)) → with_members front (block_members value i k seen []) ≡ Ok (members_of front, [])
members_end_at value i zero seen front = ap (λ (x : Members). Ok (x, [])) (members_all front)
members_end_at value i (suc k) seen front = ap (λ (x : Members). Ok (x, [])) (members_all front)

pub members_end : (value : Reader) (i : ℕ) (seen : List (List ℕ)) (front : List (List ℕ × Data)) (total : MembersRead) → MembersLeft value i seen front [] total → total ≡ Ok (members_of front, [])
members_end value i seen front total h = sym h.so_far ∙ members_end_at value i h.steps seen front

member_fail_at : (value : Reader) (i k : ℕ) (seen : List (List ℕ)) (front : List (List ℕ × Data)) (r : Row) (below : List Row) (e : YamlFault) → suc (length below) ≤ k → row_indentation r ≡ i
    → block_member value seen r below ≡ Err e → with_members front (block_members value i k seen (r ∷ below)) ≡ Err e
member_fail_at value i zero seen front r below e en is f = absurd (omega arith)
member_fail_at value i (suc k) seen front r below e en is f =
    let one : block_members value i (suc k) seen (r ∷ below) ≡ Err e = at_member value i k seen r below is ∙ rw f refl in
    ap (with_members front) one

pub key_fail : (value : Reader) (i : ℕ) (seen : List (List ℕ)) (front : List (List ℕ × Data)) (r : Row) (below : List Row) (total : MembersRead) (e : YamlFault) → MembersLeft value i seen front (r ∷ below) total
    → row_indentation r ≡ i → block_key seen r ≡ Err e → total ≡ Err e
key_fail value i seen front r below total e h is f = sym h.so_far ∙ member_fail_at value i h.steps seen front r below e h.enough is (key_fails value seen r below e f)

pub value_fail : (value : Reader) (i : ℕ) (seen : List (List ℕ)) (front : List (List ℕ × Data)) (r : Row) (below : List Row) (total : MembersRead) (key : List ℕ × List ℕ) (e : YamlFault)
    → MembersLeft value i seen front (r ∷ below) total → row_indentation r ≡ i → block_key seen r ≡ Ok key → value true key.1 r below ≡ Err e → total ≡ Err e
value_fail value i seen front r below total key e h is k f =
    sym h.so_far ∙ member_fail_at value i h.steps seen front r below e h.enough is (key_read value seen r below key k ∙ rw f refl)

-- ---- values

pub value_bare : (levels : ℕ) (keyed : Bool) (text : List ℕ) (row : Row) (rows : List Row) → (levels ≡ 0 → ⊥) → is_bare text ≡ true
    → value_on levels keyed text row rows ≡ unwritten (value_on (levels - 1)) keyed (row_indentation row) rows
value_bare zero keyed text row rows some is = absurd (some refl)
value_bare (suc levels) keyed text row rows some is =
    let e : suc levels - 1 ≡ levels = omega arith in
    rw is (ap (λ (n : ℕ). unwritten (value_on n) keyed (row_indentation row) rows) (sym e))

value_block : (levels : ℕ) (keyed : Bool) (text : List ℕ) (row : Row) (rows : List Row) (s : Style) → (levels ≡ 0 → ⊥) → is_bare text ≡ false → is_flow (unindented text) ≡ false
    → style_of (trimmed (plain_front place.Value (unindented text))) ≡ Some s → value_on levels keyed text row rows ≡ scalar_block s (row_indentation row) rows
value_block zero keyed text row rows s some bare flow style = absurd (some refl)
value_block (suc levels) keyed text row rows s some bare flow style = rw (bare, flow, style) refl

value_scalar : (levels : ℕ) (keyed : Bool) (text : List ℕ) (row : Row) (rows : List Row) → (levels ≡ 0 → ⊥) → is_bare text ≡ false → is_flow (unindented text) ≡ false
    → style_of (trimmed (plain_front place.Value (unindented text))) ≡ None → value_on levels keyed text row rows ≡ scalar_on (unindented text) row rows
value_scalar zero keyed text row rows some bare flow style = absurd (some refl)
value_scalar (suc levels) keyed text row rows some bare flow style = rw (bare, flow, style) refl

abbrev styled_as : List ℕ → Option Style
styled_as t = style_of (trimmed (plain_front place.Value t))

pub value_block_at : (levels : ℕ) (keyed : Bool) (text : List ℕ) (row : Row) (rows : List Row) (t : List ℕ) (s : Style) (i : ℕ) → (levels ≡ 0 → ⊥) → is_bare text ≡ false → t ≡ unindented text
    → is_flow t ≡ false → styled_as t ≡ Some s → i ≡ row_indentation row → value_on levels keyed text row rows ≡ scalar_block s i rows
value_block_at levels keyed text row rows t s i some bare e flow style at =
    let F : List ℕ → Type 0 = λ u. is_flow u ≡ false in
    let S : List ℕ → Type 0 = λ u. styled_as u ≡ Some s in
    value_block levels keyed text row rows s some bare (subst F e flow) (subst S e style) ∙ ap (λ (n : ℕ). scalar_block s n rows) (sym at)

pub value_scalar_at : (levels : ℕ) (keyed : Bool) (text : List ℕ) (row : Row) (rows : List Row) (t : List ℕ) → (levels ≡ 0 → ⊥) → is_bare text ≡ false → t ≡ unindented text → is_flow t ≡ false
    → styled_as t ≡ None → value_on levels keyed text row rows ≡ scalar_on t row rows
value_scalar_at levels keyed text row rows t some bare e flow style =
    let F : List ℕ → Type 0 = λ u. is_flow u ≡ false in
    let S : List ℕ → Type 0 = λ u. styled_as u ≡ None in
    value_scalar levels keyed text row rows some bare (subst F e flow) (subst S e style) ∙ ap (λ (u : List ℕ). scalar_on u row rows) (sym e)

-- ---- the root

abbrev pub Read : Type 0
Read = Result (Data × List Row) YamlFault

first_of_three : (a b : Bool) (x y z : Read) → a ≡ true → cond a x (cond b y z) ≡ x
first_of_three a b x y z e = rw e refl

second_of_three : (a b : Bool) (x y z : Read) → a ≡ false → b ≡ true → cond a x (cond b y z) ≡ y
second_of_three a b x y z e f = rw (e, f) refl

third_of_three : (a b : Bool) (x y z : Read) → a ≡ false → b ≡ false → cond a x (cond b y z) ≡ z
third_of_three a b x y z e f = rw (e, f) refl

pub root_deep : (row : Row) (rows : List Row) → 0 < row_indentation row → root_at row rows ≡ Err (fault.Line row.line why.Indent)
root_deep row rows lt = first_of_three (ltb 0 (row_indentation row)) (is_flow row.bytes) (wrong row.line why.Indent) (flow_on 64 row.bytes row rows) (block_at (value_on 63) row rows) (lt-ltb _ _ lt)

pub root_flow : (row : Row) (rows : List Row) → row_indentation row ≤ 0 → is_flow row.bytes ≡ true → root_at row rows ≡ flow_on 64 row.bytes row rows
root_flow row rows le is = second_of_three (ltb 0 (row_indentation row)) (is_flow row.bytes) (wrong row.line why.Indent) (flow_on 64 row.bytes row rows) (block_at (value_on 63) row rows) (le-ltb _ _ le) is

pub root_block : (row : Row) (rows : List Row) → row_indentation row ≤ 0 → is_flow row.bytes ≡ false → root_at row rows ≡ block_at (value_on 63) row rows
root_block row rows le is = third_of_three (ltb 0 (row_indentation row)) (is_flow row.bytes) (wrong row.line why.Indent) (flow_on 64 row.bytes row rows) (block_at (value_on 63) row rows) (le-ltb _ _ le) is
