-- A printed scalar is read back, and what stands behind it is left.
use Rattle.std.proofs.Common.{◌≡◌, ℕ, Bool, true, false, List, [], ◌∷◌, ◌++◌, Ok, Result, refl, sym, ap, ◌∙◌, inl, inr, append_assoc, append-nil}
use Rattle.std.specs.Prelude.{◌==◌, not, codes, if◌then◌else◌}
use Rattle.std.specs.List.{list_any}
use Rattle.std.proofs.lemmas.Bool.{and_parts, cases_Bool, eqb-true}
use Rattle.pn_yaml.specs.declared.fault.Why.TheVariants as why
use Rattle.pn_yaml.specs.declared.fault.YamlFault.{YamlFault}
use Rattle.pn_yaml.specs.declared.scalar.Place.{Place}
use Rattle.pn_yaml.specs.declared.scalar.Place.TheVariants as place
use Rattle.pn_yaml.specs.Bytes.{starts, tail_of, ends_word}
use Rattle.pn_yaml.specs.Outcome.{◌>>=◌, wrong}
use Rattle.pn_yaml.specs.Scalars.{Word, double, ends_plain, is_colon, plain_at, quoted_at, single, word_at}
use Rattle.pn_yaml.specs.Blocks.{key_at}
use Rattle.pn_yaml_print.specs.PrintedScalars.{begins_wrong, doubled, escaped, is_control, is_one_of, is_plain, may_be_plain, word_text}
use Rattle.pn_yaml_print.specs.Printing.{key_text}
use Rattle.pn_yaml_print.proofs.ByteTests.{apart, fewer}
use Rattle.pn_yaml_print.proofs.PlainLaw.{in_flow, may_end, plain_read, plain_text}
use Rattle.pn_yaml_print.proofs.QuotedLaw.{doubled_read, escaped_read}

-- a scalar in quotes, as it is printed
abbrev in_double : List ℕ → List ℕ
in_double text = 34 ∷ (escaped text ++ 34 ∷ [])

abbrev in_single : List ℕ → List ℕ
in_single text = 39 ∷ (doubled text ++ 39 ∷ [])

-- how a scalar is printed: as it is, or in one of the quotes
pub data Form (flow : Bool) (text : List ℕ) (plain : Bool) : Type 0 where
  bare : is_plain flow text plain ≡ true → word_text flow text plain ≡ text → Form flow text plain
  with_double : is_plain flow text plain ≡ false → word_text flow text plain ≡ in_double text → Form flow text plain
  with_single : is_plain flow text plain ≡ false → list_any is_control text ≡ false → word_text flow text plain ≡ in_single text → Form flow text plain

pub form_of : (flow : Bool) (text : List ℕ) (plain : Bool) → Form flow text plain
form_of flow text plain =
    let quoted : Bool → List ℕ = λ z. if z then in_double text else in_single text in
    elim (cases_Bool (is_plain flow text plain)) [
      | inl e ↦ bare e (ap (λ z. if z then text else quoted (list_any is_control text)) e)
      | inr e ↦ elim (cases_Bool (list_any is_control text)) [
        | inl c ↦ with_double e (ap (λ z. if z then text else quoted (list_any is_control text)) e ∙ ap quoted c)
        | inr c ↦ with_single e c (ap (λ z. if z then text else quoted (list_any is_control text)) e ∙ ap quoted c)
      ]
    ]

-- a byte that a printed scalar may begin with
abbrev pub opens_word : ℕ → Bool
opens_word b = not (is_one_of (codes "-?:,[]{}#&*!|>%@` ") b)

-- a text that begins with such a byte
pub record Begins (test : ℕ → Bool) (text : List ℕ) : Type 0 where
  pub first : ℕ
  pub later : List ℕ
  pub whole : text ≡ first ∷ later
  pub good : test first ≡ true

begun : (flow : Bool) (text : List ℕ) (plain : Bool) → is_plain flow text plain ≡ true → begins_wrong text ≡ false
begun flow text plain h = let t = plain_text flow text (and_parts (may_be_plain flow text) _ h).0 in t.begun

plain_begins : (text : List ℕ) → begins_wrong text ≡ false → Begins opens_word text
plain_begins [] h = cc
plain_begins (b ∷ rest) h = record { first = b; later = rest; whole = refl; good = ap not (fewer (codes "-?:,[]{}#&*!|>%@` ") (codes "-?:,[]{}#&*!|>'\"%@` ") b refl h) }

begins_as : (text word : List ℕ) → word ≡ text → Begins opens_word text → Begins opens_word word
begins_as text word h b = record { first = b.first; later = b.later; whole = h ∙ b.whole; good = b.good }

pub word_begins : (flow : Bool) (text : List ℕ) (plain : Bool) → Begins opens_word (word_text flow text plain)
word_begins flow text plain = elim (form_of flow text plain) [
  | bare e w ↦ begins_as text _ w (plain_begins text (begun flow text plain e))
  | with_double e w ↦ record { first = 34; later = escaped text ++ 34 ∷ []; whole = w; good = refl }
  | with_single e c w ↦ record { first = 39; later = doubled text ++ 39 ∷ []; whole = w; good = refl }
]

-- a plain scalar is read as one
unquoted : (p : Place) (line : ℕ) (text tail : List ℕ) → begins_wrong text ≡ false → word_at p line (text ++ tail) ≡ plain_at p line (text ++ tail)
unquoted p line [] tail h = cc
unquoted p line (b ∷ rest) tail h =
    let read : Result (Word × List ℕ) YamlFault = plain_at p line (b ∷ (rest ++ tail)) in
    let far : (c : ℕ) → is_one_of (codes "-?:,[]{}#&*!|>'\"%@` ") c ≡ true → (b == c) ≡ false = λ c i. apart (codes "-?:,[]{}#&*!|>'\"%@` ") b c h i in
    ap (λ z. if z then quoted_at line single (rest ++ tail) else if b == 34 then quoted_at line double (rest ++ tail) else read) (far 39 refl)
    ∙ ap (λ z. if z then quoted_at line double (rest ++ tail) else read) (far 34 refl)

-- no quote stands behind a printed scalar
no_end : (p : Place) (rest : List ℕ) → ends_plain p (39 ∷ rest) ≡ false
no_end place.Value rest = refl
no_end place.Key rest = refl
no_end place.Flow rest = refl

unquoted_behind : (p : Place) (tail : List ℕ) → may_end p tail ≡ true → starts 39 tail ≡ false
unquoted_behind p [] h = refl
unquoted_behind p (b ∷ rest) h = elim (cases_Bool (b == 39)) [
  | inl e ↦ let same : ends_plain p (b ∷ rest) ≡ false = ap (λ z. ends_plain p (z ∷ rest)) (eqb-true b 39 e) ∙ no_end p rest in cc
  | inr e ↦ e
]

pub word_law : (p : Place) (line : ℕ) (text : List ℕ) (plain : Bool) (tail : List ℕ) → may_end p tail ≡ true
    → word_at p line (word_text (in_flow p) text plain ++ tail) ≡ Ok (record { text = text; plain = is_plain (in_flow p) text plain }, tail)
word_law p line text plain tail ends =
    let read : Bool → Result (Word × List ℕ) YamlFault = λ z. Ok (record { text = text; plain = z }, tail) in
    elim (form_of (in_flow p) text plain) [
      | bare e w ↦
          ap (λ y. word_at p line (y ++ tail)) w ∙ unquoted p line text tail (begun (in_flow p) text plain e)
          ∙ plain_read p line text tail (plain_text (in_flow p) text (and_parts (may_be_plain (in_flow p) text) _ e).0) ends ∙ ap read (sym e)
      | with_double e w ↦
          ap (λ y. word_at p line (y ++ tail)) w ∙ ap (λ y. quoted_at line double y) (append_assoc (escaped text) (34 ∷ []) tail)
          ∙ escaped_read line text tail ∙ ap read (sym e)
      | with_single e c w ↦
          ap (λ y. word_at p line (y ++ tail)) w ∙ ap (λ y. quoted_at line single y) (append_assoc (doubled text) (39 ∷ []) tail)
          ∙ doubled_read line text tail (unquoted_behind p tail ends) ∙ ap read (sym e)
    ]

pub value_law : (line : ℕ) (text : List ℕ) (plain : Bool)
    → word_at place.Value line (word_text false text plain) ≡ Ok (record { text = text; plain = is_plain false text plain }, [])
value_law line text plain = ap (λ y. word_at place.Value line y) (sym (append-nil (word_text false text plain))) ∙ word_law place.Value line text plain [] refl

pub key_law : (line : ℕ) (key tail : List ℕ) → ends_word tail ≡ true → key_at line (key_text false key ++ tail) ≡ Ok (key, tail)
key_law line key tail ends =
    let after : Result (Word × List ℕ) YamlFault → Result (List ℕ × List ℕ) YamlFault = λ r. r >>= λ k. if is_colon k.1 then Ok (k.0.text, tail_of k.1) else wrong line why.Key in
    ap (λ y. after (word_at place.Key line y)) (append_assoc (word_text false key false) (58 ∷ []) tail)
    ∙ ap after (word_law place.Key line key false (58 ∷ tail) ends)
    ∙ ap (λ z. if z then Ok (key, tail) else wrong line why.Key) ends
