-- A scalar printed plain is read back.
use Rattle.std.proofs.Common.{◌≡◌, ℕ, Bool, true, false, List, [], ◌∷◌, ◌++◌, Ok, refl, ap, ◌∙◌, inl, inr}
use Rattle.std.specs.Prelude.{◌==◌, ◌&&◌, ◌||◌, not, codes, if◌then◌else◌}
use Rattle.std.specs.List.{list_all, list_any}
use Rattle.std.proofs.lemmas.Bool as bool
use Rattle.std.proofs.lemmas.Bool.{and_parts, cases_Bool, not-true, or_from, or_parts}
use Rattle.pn_yaml.specs.declared.fault.Why.TheVariants as why
use Rattle.pn_yaml.specs.declared.scalar.Place.{Place}
use Rattle.pn_yaml.specs.declared.scalar.Place.TheVariants as place
use Rattle.pn_yaml.specs.Bytes.{space, starts, is_empty, is_blank, unindented, trimmed, ends_word}
use Rattle.pn_yaml.specs.Outcome.{wrong}
use Rattle.pn_yaml.specs.Scalars.{absent, ends_plain, is_left_out, plain_front, plain_rest, plain_word, plain_at}
use Rattle.pn_yaml_print.specs.PrintedScalars.{begins_wrong, ends_wrong, holds_pair, is_one_of, is_shown, may_be_plain}
use Rattle.pn_yaml_print.proofs.ByteTests.{apart}

-- whether a place is in a flow
abbrev pub in_flow : Place → Bool
in_flow place.Value = false
in_flow place.Key = false
in_flow place.Flow = true

-- what may stand behind a printed scalar: nothing, or what ends a plain one
abbrev pub may_end : Place → List ℕ → Bool
may_end p tail = is_empty tail || ends_plain p tail

-- a text that may be printed plain, by its parts
pub record IsPlainText (flow : Bool) (text : List ℕ) : Type 0 where
  pub shown : list_all is_shown text ≡ true
  pub begun : begins_wrong text ≡ false
  pub ended : ends_wrong text ≡ false
  pub colons : holds_pair 58 space text ≡ false
  pub comments : holds_pair space 35 text ≡ false
  pub marks : (flow && list_any (is_one_of (codes ",[]{}")) text) ≡ false

pub plain_text : (flow : Bool) (text : List ℕ) → may_be_plain flow text ≡ true → IsPlainText flow text
plain_text flow text h =
    let m = (and_parts _ (not (flow && list_any (is_one_of (codes ",[]{}")) text)) h).0 in
    let c = (and_parts _ (not (holds_pair space 35 text)) m).0 in
    let k = (and_parts _ (not (holds_pair 58 space text)) c).0 in
    let e = (and_parts _ (not (ends_wrong text)) k).0 in record {
      shown = (and_parts (list_all is_shown text) _ e).0;
      begun = not-true (begins_wrong text) (and_parts (list_all is_shown text) _ e).1;
      ended = not-true (ends_wrong text) (and_parts _ (not (ends_wrong text)) k).1;
      colons = not-true (holds_pair 58 space text) (and_parts _ (not (holds_pair 58 space text)) c).1;
      comments = not-true (holds_pair space 35 text) (and_parts _ (not (holds_pair space 35 text)) m).1;
      marks = not-true _ (and_parts _ (not (flow && list_any (is_one_of (codes ",[]{}")) text)) h).1;
    }

mark_free : (b : ℕ) → is_one_of (codes ",[]{}") b ≡ false → ((b == 44) || (b == 93) || (b == 125)) ≡ false
mark_free b h =
    or_from ((b == 44) || (b == 93)) (b == 125) (or_from (b == 44) (b == 93) (apart (codes ",[]{}") b 44 h refl) (apart (codes ",[]{}") b 93 h refl)) (apart (codes ",[]{}") b 125 h refl)

-- a plain scalar goes on before a byte
goes_on : (p : Place) (b : ℕ) (next : List ℕ) → ((b == space) && starts 35 next) ≡ false → ((b == 58) && ends_word next) ≡ false → (in_flow p && is_one_of (codes ",[]{}") b) ≡ false
    → ends_plain p (b ∷ next) ≡ false
goes_on place.Value b next c k m = c
goes_on place.Key b next c k m = or_from ((b == space) && starts 35 next) ((b == 58) && ends_word next) c k
goes_on place.Flow b next c k m =
    or_from (((b == space) && starts 35 next) || ((b == 58) && ends_word next)) ((b == 44) || (b == 93) || (b == 125))
    (or_from ((b == space) && starts 35 next) ((b == 58) && ends_word next) c k) (mark_free b m)

-- what a plain scalar takes of a text, and what it leaves
pub record Parts (p : Place) (text front rest : List ℕ) : Type 0 where
  pub front_is : plain_front p text ≡ front
  pub rest_is : plain_rest p text ≡ rest

none : (p : Place) (tail : List ℕ) → may_end p tail ≡ true → Parts p tail [] tail
none p [] h = record { front_is = refl; rest_is = refl }
none p (b ∷ rest) h = record {
  front_is = ap (λ z. if z then [] else b ∷ plain_front p rest) h;
  rest_is = ap (λ z. if z then b ∷ rest else plain_rest p rest) h;
}

more : (p : Place) (b : ℕ) (next front rest : List ℕ) → ends_plain p (b ∷ next) ≡ false → Parts p next front rest → Parts p (b ∷ next) (b ∷ front) rest
more p b next front rest h parts = record {
  front_is = ap (λ z. if z then [] else b ∷ plain_front p next) h ∙ ap (λ y. b ∷ y) parts.front_is;
  rest_is = ap (λ z. if z then b ∷ next else plain_rest p next) h ∙ parts.rest_is;
}

marks_first : (flow a b : Bool) → (flow && (a || b)) ≡ false → (flow && a) ≡ false
marks_first true a b h = (or_parts a b h).0
marks_first false a b h = refl

marks_rest : (flow a b : Bool) → (flow && (a || b)) ≡ false → (flow && b) ≡ false
marks_rest true a b h = (or_parts a b h).1
marks_rest false a b h = refl

pub parts_of : (p : Place) (text tail : List ℕ) → ends_wrong text ≡ false → holds_pair 58 space text ≡ false → holds_pair space 35 text ≡ false
    → (in_flow p && list_any (is_one_of (codes ",[]{}")) text) ≡ false → may_end p tail ≡ true → Parts p (text ++ tail) text tail
parts_of p [] tail e k c m h = cc
parts_of p (b ∷ []) tail e k c m h =
    more p b tail [] tail
    (goes_on p b tail (bool.and_left (b == space) (starts 35 tail) (or_parts (b == space) (b == 58) e).0) (bool.and_left (b == 58) (ends_word tail) (or_parts (b == space) (b == 58) e).1)
    (marks_first (in_flow p) (is_one_of (codes ",[]{}") b) false m))
    (none p tail h)
parts_of p (b ∷ d ∷ rest) tail e k c m h =
    more p b (d ∷ (rest ++ tail)) (d ∷ rest) tail
    (goes_on p b (d ∷ (rest ++ tail)) (or_parts ((b == space) && starts 35 (d ∷ rest)) (holds_pair space 35 (d ∷ rest)) c).0
    (or_parts ((b == 58) && starts space (d ∷ rest)) (holds_pair 58 space (d ∷ rest)) k).0
    (marks_first (in_flow p) (is_one_of (codes ",[]{}") b) (list_any (is_one_of (codes ",[]{}")) (d ∷ rest)) m))
    (parts_of p (d ∷ rest) tail e (or_parts ((b == 58) && starts space (d ∷ rest)) (holds_pair 58 space (d ∷ rest)) k).1
    (or_parts ((b == space) && starts 35 (d ∷ rest)) (holds_pair space 35 (d ∷ rest)) c).1
    (marks_rest (in_flow p) (is_one_of (codes ",[]{}") b) (list_any (is_one_of (codes ",[]{}")) (d ∷ rest)) m) h)

-- a text that doesn't end with a space isn't blank, and nothing is trimmed off it
filled : (text : List ℕ) → ends_wrong text ≡ false → is_blank text ≡ false
filled [] h = cc
filled (b ∷ []) h = ap (λ z. is_empty (if z then [] else b ∷ [])) (or_parts (b == space) (b == 58) h).0
filled (b ∷ c ∷ rest) h = elim (cases_Bool (b == space)) [
  | inl e ↦ ap (λ z. is_empty (if z then unindented (c ∷ rest) else b ∷ c ∷ rest)) e ∙ filled (c ∷ rest) h
  | inr e ↦ ap (λ z. is_empty (if z then unindented (c ∷ rest) else b ∷ c ∷ rest)) e
]

pub untrimmed : (text : List ℕ) → ends_wrong text ≡ false → trimmed text ≡ text
untrimmed [] h = cc
untrimmed (b ∷ []) h = ap (λ z. if z then [] else b ∷ []) (filled (b ∷ []) h)
untrimmed (b ∷ c ∷ rest) h = ap (λ z. if z then [] else b ∷ trimmed (c ∷ rest)) (filled (b ∷ c ∷ rest) h) ∙ ap (λ y. b ∷ y) (untrimmed (c ∷ rest) h)

-- a text that may be printed plain is not left out
abbrev firsts : List ℕ
firsts = codes "-?:,[]{}#&*!|>'\"%@` "

pub kept : (text : List ℕ) → begins_wrong text ≡ false → is_left_out text ≡ false
kept [] h = cc
kept (b ∷ rest) h =
    let far : (c : ℕ) → is_one_of firsts c ≡ true → (b == c) ≡ false = λ c i. apart firsts b c h i in
    or_from _ ((b == 63) && ends_word rest)
    (or_from _ (b == 96) (or_from _ (b == 64) (or_from _ (b == 37) (or_from _ (b == 33) (or_from (b == 38) (b == 42) (far 38 refl) (far 42 refl)) (far 33 refl)) (far 37 refl)) (far 64 refl)) (far 96 refl))
    (bool.and_left (b == 63) (ends_word rest) (far 63 refl))

nonempty : (text : List ℕ) → begins_wrong text ≡ false → is_empty text ≡ false
nonempty [] h = cc
nonempty (b ∷ rest) h = refl

pub plain_read : (p : Place) (line : ℕ) (text tail : List ℕ) → IsPlainText (in_flow p) text → may_end p tail ≡ true
    → plain_at p line (text ++ tail) ≡ Ok (record { text = text; plain = true }, tail)
plain_read p line text tail t h =
    let parts = parts_of p text tail t.ended t.colons t.comments t.marks h in
    let front : trimmed (plain_front p (text ++ tail)) ≡ text = ap trimmed parts.front_is ∙ untrimmed text t.ended in
    ap (λ y. plain_word p line y (plain_rest p (text ++ tail))) front ∙ ap (λ y. plain_word p line text y) parts.rest_is
    ∙ ap (λ z. if z then wrong line why.LeftOut else if is_empty text then wrong line (absent p) else Ok (record { text = text; plain = true }, tail)) (kept text t.begun)
    ∙ ap (λ z. if z then wrong line (absent p) else Ok (record { text = text; plain = true }, tail)) (nonempty text t.begun)
