-- The bytes of printed scalars and flows.
use Rattle.std.proofs.Common.{◌≡◌, ◌+◌, ◌/◌, ◌%◌, ℕ, Bool, true, false, List, [], ◌∷◌, ◌++◌, refl, sym, ap, ◌∙◌, arith}
use Rattle.std.specs.Prelude.{◌==◌, ◌&&◌, ◌||◌, not, nat_lt, codes}
use Rattle.std.specs.List.{list_all, list_any}
use Rattle.std.proofs.lemmas.Bool.{true≢false, and_from, and_parts, or_parts, or_right, not-true, not_from_false, cond_both, ne_eqb}
use Rattle.std.proofs.lemmas.List.Folds.{list_all-append}
use Rattle.pn_text.proofs.Bytes.{other_byte}
use Rattle.pn_text.proofs.Members.{all-append}
use Rattle.pn_yaml.specs.Data.{Data, scalar, list, map, Items, no_items, item, Members, no_members, member}
use Rattle.pn_yaml_print.specs.PrintedScalars.{begins_wrong, digit_text, doubled, escaped, escaped_byte, holds_pair, is_control, is_one_of, is_plain, is_shown, may_be_plain, word_text}
use Rattle.pn_yaml_print.specs.Printing.{key_text, flow_text, items_text, later_items_text, members_text, later_members_text}
use Rattle.pn_yaml_print.proofs.WordLaw.{Begins}

-- a byte that stands within a line
abbrev pub is_inline : ℕ → Bool
is_inline b = not (b == 10) && not (b == 13)

-- a byte that a printed scalar begins with
abbrev pub is_opening : ℕ → Bool
is_opening b = (b == 34) || (b == 39) || (is_shown b && not (is_one_of (codes "-?:,[]{}#&*!|>'\"%@` ") b))

-- a byte that passes a test isn't one that doesn't
inline-from : (b : ℕ) → (b == 10) ≡ false → (b == 13) ≡ false → is_inline b ≡ true
inline-from b e f = and_from _ _ (not_from_false _ e) (not_from_false _ f)

all-inline : (test : ℕ → Bool) (text : List ℕ) → test 10 ≡ false → test 13 ≡ false → list_all test text ≡ true → list_all is_inline text ≡ true
all-inline test [] e f h = refl
all-inline test (b ∷ rest) e f h =
    let p = and_parts (test b) (list_all test rest) h in
    and_from _ _ (inline-from b (other_byte test b 10 p.0 e) (other_byte test b 13 p.0 f)) (all-inline test rest e f p.1)

control-inline : (b : ℕ) → is_control b ≡ false → is_inline b ≡ true
control-inline b h =
    let g = not_from_false _ h in
    inline-from b (other_byte (λ c. not (is_control c)) b 10 g refl) (other_byte (λ c. not (is_control c)) b 13 g refl)

doubled-inline : (text : List ℕ) → list_any is_control text ≡ false → list_all is_inline (doubled text) ≡ true
doubled-inline [] h = refl
doubled-inline (b ∷ rest) h =
    let p = or_parts (is_control b) (list_any is_control rest) h in
    cond_both (b == 39) (39 ∷ 39 ∷ doubled rest) (b ∷ doubled rest) (λ t. list_all is_inline t ≡ true) (λ _. doubled-inline rest p.1)
    (λ _. and_from _ _ (control-inline b p.0) (doubled-inline rest p.1))

digit-inline : (n : ℕ) → is_inline (digit_text n) ≡ true
digit-inline n = cond_both (nat_lt n 10) (48 + n) (87 + n) (λ d. is_inline d ≡ true)
    (λ _. inline-from (48 + n) (ne_eqb (48 + n) 10 (λ e. omega arith)) (ne_eqb (48 + n) 13 (λ e. omega arith)))
    (λ _. inline-from (87 + n) (ne_eqb (87 + n) 10 (λ e. omega arith)) (ne_eqb (87 + n) 13 (λ e. omega arith)))

escaped_byte-inline : (b : ℕ) → list_all is_inline (escaped_byte b) ≡ true
escaped_byte-inline b =
    cond_both (b == 34) _ _ (λ t. list_all is_inline t ≡ true) (λ _. refl) (λ _.
    cond_both (b == 92) _ _ (λ t. list_all is_inline t ≡ true) (λ _. refl) (λ _.
    cond_both (b == 10) _ _ (λ t. list_all is_inline t ≡ true) (λ _. refl) (λ _.
    cond_both (b == 9) _ _ (λ t. list_all is_inline t ≡ true) (λ _. refl) (λ _.
    cond_both (b == 13) _ _ (λ t. list_all is_inline t ≡ true) (λ _. refl) (λ _.
    cond_both (is_control b) _ _ (λ t. list_all is_inline t ≡ true) (λ _. and_from _ _ (digit-inline (b / 16)) (and_from _ _ (digit-inline (b % 16)) refl)) (λ e.
    and_from _ _ (control-inline b e) refl))))))

escaped-inline : (text : List ℕ) → list_all is_inline (escaped text) ≡ true
escaped-inline [] = refl
escaped-inline (b ∷ rest) = all-append is_inline (escaped_byte b) (escaped rest) (escaped_byte-inline b) (escaped-inline rest)

-- what a text that is printed plain consists of
pub record IsPlainText (text : List ℕ) : Type 0 where
  pub shown : list_all is_shown text ≡ true
  pub begins : begins_wrong text ≡ false
  pub spaced : holds_pair 32 35 text ≡ false

pub plain-text : (flow : Bool) (text : List ℕ) (plain : Bool) → is_plain flow text plain ≡ true → IsPlainText text
plain-text flow text plain h =
    let a = and_parts (may_be_plain flow text) _ h in
    let b = and_parts _ _ a.0 in
    let c = and_parts _ _ b.0 in
    let d = and_parts _ _ c.0 in
    let e = and_parts _ _ d.0 in
    let f = and_parts _ _ e.0 in
    record { shown = f.0; begins = not-true _ f.1; spaced = not-true _ c.1 }

pub word-inline : (flow : Bool) (text : List ℕ) (plain : Bool) → list_all is_inline (word_text flow text plain) ≡ true
word-inline flow text plain =
    cond_both (is_plain flow text plain) _ _ (λ t. list_all is_inline t ≡ true) (λ e. all-inline is_shown text refl refl (plain-text flow text plain e).shown) (λ _.
    cond_both (list_any is_control text) _ _ (λ t. list_all is_inline t ≡ true)
    (λ _. all-append is_inline (escaped text) (34 ∷ []) (escaped-inline text) refl)
    (λ e. all-append is_inline (doubled text) (39 ∷ []) (doubled-inline text e) refl))

plain-opens : (text : List ℕ) → list_all is_shown text ≡ true → begins_wrong text ≡ false → Begins is_opening text
plain-opens [] h g = absurd (true≢false g)
plain-opens (b ∷ rest) h g = record {
  first = b;
  later = rest;
  whole = refl;
  good = or_right _ _ (and_from _ _ (and_parts (is_shown b) (list_all is_shown rest) h).0 (not_from_false _ g));
}

pub word-opens : (flow : Bool) (text : List ℕ) (plain : Bool) → Begins is_opening (word_text flow text plain)
word-opens flow text plain =
    cond_both (is_plain flow text plain) _ _ (Begins is_opening) (λ e. let p = plain-text flow text plain e in plain-opens text p.shown p.begins) (λ _.
    cond_both (list_any is_control text) _ _ (Begins is_opening)
    (λ _. record { first = 34; later = escaped text ++ 34 ∷ []; whole = refl; good = refl })
    (λ _. record { first = 39; later = doubled text ++ 39 ∷ []; whole = refl; good = refl }))

pub key-inline : (flow : Bool) (key : List ℕ) → list_all is_inline (key_text flow key) ≡ true
key-inline flow key = all-append is_inline (word_text flow key false) (58 ∷ []) (word-inline flow key false) refl

mutual
  pub flow-inline : (d : Data) → list_all is_inline (flow_text d) ≡ true
  flow-inline (scalar text plain) = word-inline true text plain
  flow-inline (list ds) = all-append is_inline (items_text ds) (93 ∷ []) (items-inline ds) refl
  flow-inline (map ms) = all-append is_inline (members_text ms) (125 ∷ []) (members-inline ms) refl

  items-inline : (ds : Items) → list_all is_inline (items_text ds) ≡ true
  items-inline no_items = refl
  items-inline (item d ds) = all-append is_inline (flow_text d) (later_items_text ds) (flow-inline d) (later_items-inline ds)

  later_items-inline : (ds : Items) → list_all is_inline (later_items_text ds) ≡ true
  later_items-inline no_items = refl
  later_items-inline (item d ds) = all-append is_inline (flow_text d) (later_items_text ds) (flow-inline d) (later_items-inline ds)

  members-inline : (ms : Members) → list_all is_inline (members_text ms) ≡ true
  members-inline no_members = refl
  members-inline (member k d ms) = all-append is_inline (key_text true k) (32 ∷ (flow_text d ++ later_members_text ms)) (key-inline true k)
      (all-append is_inline (flow_text d) (later_members_text ms) (flow-inline d) (later_members-inline ms))

  later_members-inline : (ms : Members) → list_all is_inline (later_members_text ms) ≡ true
  later_members-inline no_members = refl
  later_members-inline (member k d ms) = all-append is_inline (key_text true k) (32 ∷ (flow_text d ++ later_members_text ms)) (key-inline true k)
      (all-append is_inline (flow_text d) (later_members_text ms) (flow-inline d) (later_members-inline ms))
