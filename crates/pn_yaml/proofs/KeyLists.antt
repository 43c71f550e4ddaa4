-- Keys of members, and sets of them.
use Rattle.std.proofs.Common.{◌≡◌, ℕ, ◌-◌, ◌+◌, ◌<◌, suc, length, get_or, take, arith, List, [], ◌∷◌, ◌++◌, Bool, true, false, cond, Some, Ordering, refl, sym, ap, ◌∙◌}
use Rattle.std.specs.Prelude.{◌||◌, bytes_eq, slice_get}
use Rattle.std.specs.Bool.{OnTrue}
use Rattle.std.specs.BTreeSet.{BTreeSet, contains}
use Rattle.std.specs.Cmp.Lexicographic.{slice_cmp}
use Rattle.std.specs.Ordering.{nat_cmp, is_lt, is_eq}
use Rattle.std.specs.declared.cmp.Ordering.TheVariants as order
use Rattle.std.proofs.lemmas.Cmp.{nat_list_cmp_total}
use Rattle.std.proofs.lemmas.Map.Text.{is_eq-slice_cmp}
use Rattle.std.proofs.lemmas.List.{take_more}
use Rattle.std.proofs.lemmas.Bool.{and_parts}
use Rattle.pn_text.proofs.Bools.{or_cond}
use Rattle.pn_yaml.specs.declared.keys.Keys.{Keys}
use Rattle.pn_yaml.specs.declared.node.Node.{Node}
use Rattle.pn_yaml.specs.Data.{is_among}
use Rattle.pn_yaml.specs.KeySets.{AreKeys, HasKeys, all_rise, rises, seen_of, seen_onto}

abbrev Members : Type 0
Members = List (List ℕ × Node)

seen_onto_more : (seen : List (List ℕ)) (ms : Members) (m : List ℕ × Node) → seen_onto seen (ms ++ m ∷ []) ≡ m.0 ∷ seen_onto seen ms
seen_onto_more seen [] m = refl
seen_onto_more seen (x ∷ ms) m = seen_onto_more (x.0 ∷ seen) ms m

-- a member more
pub seen_more : (ms : Members) (m : List ℕ × Node) → seen_of (ms ++ m ∷ []) ≡ m.0 ∷ seen_of ms
seen_more ms m = seen_onto_more [] ms m

last_onto : (seen : List (List ℕ)) (ms : Members) (m : List ℕ × Node) → Some m ≡ slice_get ms (length ms - 1) → (ls : List (List ℕ)) × (seen_onto seen ms ≡ m.0 ∷ ls)
last_onto seen [] m e = absurd cc
last_onto seen (x ∷ []) m e = let same : m ≡ x = cc in (seen, ap (λ (y : List ℕ × Node). y.0 ∷ seen) (sym same))
last_onto seen (x ∷ y ∷ ms) m e =
    let k : length (x ∷ y ∷ ms) - 1 ≡ suc (length (y ∷ ms) - 1) = omega arith in
    last_onto (x.0 ∷ seen) (y ∷ ms) m (e ∙ ap (λ (n : ℕ). slice_get (x ∷ y ∷ ms) n) k)

-- the key of the last member comes first
pub last_rises : (ms : Members) (m : List ℕ × Node) (k : List ℕ) → Some m ≡ slice_get ms (length ms - 1) → rises (seen_of ms) k ≡ is_lt (slice_cmp nat_cmp m.0 k)
last_rises ms m k e = let l = last_onto [] ms m e in ap (λ (s : List (List ℕ)). rises s k) l.1

is_less : (o : Ordering) → is_lt o ≡ true → o ≡ order.Less
is_less order.Less e = refl
is_less order.Equal e = absurd cc
is_less order.Greater e = absurd cc

not_equal : (o : Ordering) → is_lt o ≡ true → is_eq o ≡ false
not_equal order.Less e = refl
not_equal order.Equal e = absurd cc
not_equal order.Greater e = absurd cc

below_trans : (a b c : List ℕ) → is_lt (slice_cmp nat_cmp a b) ≡ true → is_lt (slice_cmp nat_cmp b c) ≡ true → is_lt (slice_cmp nat_cmp a c) ≡ true
below_trans a b c e f = ap is_lt (nat_list_cmp_total.trans a b c (is_less (slice_cmp nat_cmp a b) e) (is_less (slice_cmp nat_cmp b c) f))

rises_on : (ls : List (List ℕ)) (l k : List ℕ) → rises ls l ≡ true → is_lt (slice_cmp nat_cmp l k) ≡ true → rises ls k ≡ true
rises_on [] l k e f = refl
rises_on (m ∷ ms) l k e f = below_trans m l k e f

-- a key above the last one is new
pub rises_new : (seen : List (List ℕ)) (k : List ℕ) → all_rise seen ≡ true → rises seen k ≡ true → is_among k seen ≡ false
rises_new [] k e f = refl
rises_new (l ∷ ls) k e f =
    let other : bytes_eq l k ≡ false = sym (is_eq-slice_cmp l k) ∙ not_equal (slice_cmp nat_cmp l k) f in
    ap (λ (v : Bool). v || is_among k ls) other ∙ rises_new ls k (and_parts (rises ls l) (all_rise ls) e).1 (rises_on ls l k (and_parts (rises ls l) (all_rise ls) e).0 f)

-- a key more in the set
pub has_more : (old new : BTreeSet (List ℕ)) (key : List ℕ) (seen : List (List ℕ)) → HasKeys old seen
    → ((q : List ℕ) → contains (slice_cmp nat_cmp) new q ≡ cond (is_eq (slice_cmp nat_cmp key q)) true (contains (slice_cmp nat_cmp) old q)) → HasKeys new (key ∷ seen)
has_more old new key seen has grown k =
    grown k ∙ or_cond (is_eq (slice_cmp nat_cmp key k)) (contains (slice_cmp nat_cmp) old k)
    ∙ ap (λ (v : Bool). v || contains (slice_cmp nat_cmp) old k) (is_eq-slice_cmp key k)
    ∙ ap (λ (v : Bool). bytes_eq key k || v) (has k)

pub on_true : (b : Bool) (P : Type 0) → P → OnTrue b P
on_true true P p = p
on_true false P p = tt

-- the keys with the next member's
pub seen_next : (ms : Members) (i : ℕ) (m : List ℕ × Node) (key : List ℕ) → i < length ms → m ≡ get_or ms i m → key ≡ m.0 → seen_of (take (i + 1) ms) ≡ key ∷ seen_of (take i ms)
seen_next ms i m key l e f =
    ap seen_of (take_more ms i m l) ∙ seen_more (take i ms) (get_or ms i m) ∙ ap (λ (x : List ℕ × Node). x.0 ∷ seen_of (take i ms)) (sym e)
    ∙ ap (λ (k : List ℕ). k ∷ seen_of (take i ms)) (sym f)

-- a key more, where copies tell which there are
pub kept : (keys : Keys) (new : BTreeSet (List ℕ)) (key : List ℕ) (seen : List (List ℕ)) → keys.rise ≡ false → HasKeys keys.copies seen
    → ((q : List ℕ) → contains (slice_cmp nat_cmp) new q ≡ cond (is_eq (slice_cmp nat_cmp key q)) true (contains (slice_cmp nat_cmp) keys.copies q))
    → AreKeys (record { rise = keys.rise; copies = new }) (key ∷ seen)
kept keys new key seen still has grown = record {
  rising = λ e. absurd (let f = sym still ∙ e in cc);
  copied = λ e. has_more keys.copies new key seen has grown;
}
