-- A scalar printed in quotes is read back.
use Rattle.std.proofs.Common.{◌≡◌, ℕ, ◌+◌, ◌*◌, ◌/◌, ◌%◌, ◌<◌, Bool, true, false, List, [], ◌∷◌, ◌++◌, Option, Some, Ok, Result, refl, sym, ap, subst, ◌∙◌, inl, inr, append_assoc, arith}
use Rattle.std.specs.Prelude.{◌==◌, codes, if◌then◌else◌, encode_utf8}
use Rattle.std.proofs.lemmas.Bool.{cases_Bool, eqb-true}
use Rattle.std.proofs.lemmas.Bool.Decides.{nat_tests}
use Rattle.std.proofs.lemmas.Str.{encode_ascii}
use Rattle.pn_yaml.specs.declared.fault.YamlFault.{YamlFault}
use Rattle.pn_yaml.specs.Bytes.{starts}
use Rattle.pn_yaml.specs.Scalars.{Word, bad, closed, go, single, quote, double, slash, quoted_at, with_bytes, turned, turn_of, digit_of, digit_turn, is_surrogate, on_some}
use Rattle.pn_yaml_print.specs.PrintedScalars.{doubled, digit_text, escaped, escaped_byte, is_control}

abbrev Read : Type 0
Read = Result (Word × List ℕ) YamlFault

-- the text of a scalar in quotes, and what is behind it
abbrev pub quoted : List ℕ → List ℕ → Read
quoted text tail = Ok (record { text = text; plain = false }, tail)

closes : (line : ℕ) (tail : List ℕ) → starts 39 tail ≡ false → quoted_at line quote tail ≡ quoted [] tail
closes line [] h = refl
closes line (b ∷ rest) h = rw h refl

pub doubled_read : (line : ℕ) (text tail : List ℕ) → starts 39 tail ≡ false → quoted_at line single (doubled text ++ 39 ∷ tail) ≡ quoted text tail
doubled_read line [] tail h = ap (with_bytes []) (closes line tail h)
doubled_read line (b ∷ rest) tail h = elim (cases_Bool (b == 39)) [
  | inl e ↦
      ap (λ z. quoted_at line single ((if z then 39 ∷ 39 ∷ doubled rest else b ∷ doubled rest) ++ 39 ∷ tail)) e
      ∙ ap (λ (r : Read). with_bytes [] (with_bytes (39 ∷ []) r)) (doubled_read line rest tail h)
      ∙ ap (λ z. quoted (z ∷ rest) tail) (sym (eqb-true b 39 e))
  | inr e ↦
      ap (λ z. quoted_at line single ((if z then 39 ∷ 39 ∷ doubled rest else b ∷ doubled rest) ++ 39 ∷ tail)) e
      ∙ ap (λ z. turned line (if z then go [] quote else go (b ∷ []) single) (λ t. quoted_at line t (doubled rest ++ 39 ∷ tail)) b (doubled rest ++ 39 ∷ tail)) e
      ∙ ap (λ (r : Read). with_bytes (b ∷ []) r) (doubled_read line rest tail h)
]

digit_again : (n : ℕ) → n < 16 → digit_of (digit_text n) ≡ Some n
digit_again n h = grind (arith, nat_tests)

small : (b : ℕ) → is_control b ≡ true → b < 128
small b h = grind (arith, nat_tests)

no_surrogate : (v : ℕ) → v < 128 → is_surrogate v ≡ false
no_surrogate v h = grind (arith, nat_tests)

-- a byte by two hexadecimal digits
spelled : (line v high low c d : ℕ) (x text tail : List ℕ) → digit_of c ≡ Some high → digit_of d ≡ Some low → (0 * 16 + high) * 16 + low ≡ v → v < 128
    → quoted_at line double x ≡ quoted text tail → quoted_at line double (92 ∷ 120 ∷ c ∷ d ∷ x) ≡ quoted (v ∷ text) tail
spelled line v high low c d x text tail h l is fits again =
    ap (λ (o : Option ℕ). with_bytes [] (with_bytes [] (turned line (on_some o (λ z. digit_turn 2 (0 * 16 + z)) bad) (λ t. turned line (turn_of t d) (λ u. quoted_at line u x) d x) c (d ∷ x)))) h
    ∙ ap (λ (o : Option ℕ). with_bytes [] (with_bytes [] (with_bytes [] (turned line (on_some o (λ z. digit_turn 1 ((0 * 16 + high) * 16 + z)) bad) (λ u. quoted_at line u x) d x)))) l
    ∙ ap (λ z. with_bytes [] (with_bytes [] (with_bytes [] (turned line (digit_turn 1 z) (λ u. quoted_at line u x) d x)))) is
    ∙ ap (λ z. with_bytes [] (with_bytes [] (with_bytes [] (turned line (if z then bad else go (encode_utf8 v) double) (λ u. quoted_at line u x) d x)))) (no_surrogate v fits)
    ∙ ap (λ y. with_bytes [] (with_bytes [] (with_bytes [] (with_bytes y (quoted_at line double x))))) (encode_ascii v fits)
    ∙ ap (λ (r : Read). with_bytes [] (with_bytes [] (with_bytes [] (with_bytes (v ∷ []) r)))) again

-- a byte that an escape stands for
stands : (line b c : ℕ) (x text tail : List ℕ) → (b == c) ≡ true → quoted_at line double (escaped_byte c ++ x) ≡ quoted (c ∷ text) tail
    → quoted_at line double (escaped_byte b ++ x) ≡ quoted (b ∷ text) tail
stands line b c x text tail e h = let P : ℕ → Type 0 = λ z. quoted_at line double (escaped_byte z ++ x) ≡ quoted (z ∷ text) tail in subst P (sym (eqb-true b c e)) h

-- the other bytes
plainer : (b : ℕ) (v : Bool) → (b == 34) ≡ false → (b == 92) ≡ false → (b == 10) ≡ false → (b == 9) ≡ false → (b == 13) ≡ false → is_control b ≡ v
    → escaped_byte b ≡ (if v then codes "\\x" ++ digit_text (b / 16) ∷ digit_text (b % 16) ∷ [] else b ∷ [])
plainer b v e f g h i j = rw (e, f, g, h, i, j) refl

-- a byte that stands for itself
itself : (line b : ℕ) (x text tail : List ℕ) → (b == 34) ≡ false → (b == 92) ≡ false → quoted_at line double x ≡ quoted text tail → quoted_at line double (b ∷ x) ≡ quoted (b ∷ text) tail
itself line b x text tail e f h =
    ap (λ z. turned line (if z then closed else if b == 92 then go [] slash else go (b ∷ []) double) (λ t. quoted_at line t x) b x) e
    ∙ ap (λ z. turned line (if z then go [] slash else go (b ∷ []) double) (λ t. quoted_at line t x) b x) f
    ∙ ap (λ (r : Read). with_bytes (b ∷ []) r) h

-- a control byte without an escape of its own, and any other byte
other : (line b : ℕ) (x text tail : List ℕ) → (b == 34) ≡ false → (b == 92) ≡ false → (b == 10) ≡ false → (b == 9) ≡ false → (b == 13) ≡ false
    → quoted_at line double x ≡ quoted text tail → quoted_at line double (escaped_byte b ++ x) ≡ quoted (b ∷ text) tail
other line b x text tail e f g h i again = elim (cases_Bool (is_control b)) [
  | inl c ↦
      let v = small b c in
      ap (λ y. quoted_at line double (y ++ x)) (plainer b true e f g h i c)
      ∙ spelled line b (b / 16) (b % 16) (digit_text (b / 16)) (digit_text (b % 16)) x text tail (digit_again (b / 16) (omega arith)) (digit_again (b % 16) (omega arith)) (omega arith) v again
  | inr c ↦ ap (λ y. quoted_at line double (y ++ x)) (plainer b false e f g h i c) ∙ itself line b x text tail e f again
]

escaped_one : (line b : ℕ) (x text tail : List ℕ) → quoted_at line double x ≡ quoted text tail → quoted_at line double (escaped_byte b ++ x) ≡ quoted (b ∷ text) tail
escaped_one line b x text tail again =
    let slashed : (c : ℕ) → with_bytes [] (with_bytes (c ∷ []) (quoted_at line double x)) ≡ quoted (c ∷ text) tail = λ c. ap (λ (r : Read). with_bytes [] (with_bytes (c ∷ []) r)) again in
    elim (cases_Bool (b == 34)) [
      | inl e ↦ stands line b 34 x text tail e (slashed 34)
      | inr e ↦ elim (cases_Bool (b == 92)) [
        | inl f ↦ stands line b 92 x text tail f (slashed 92)
        | inr f ↦ elim (cases_Bool (b == 10)) [
          | inl g ↦ stands line b 10 x text tail g (slashed 10)
          | inr g ↦ elim (cases_Bool (b == 9)) [
            | inl h ↦ stands line b 9 x text tail h (slashed 9)
            | inr h ↦ elim (cases_Bool (b == 13)) [
              | inl i ↦ stands line b 13 x text tail i (slashed 13)
              | inr i ↦ other line b x text tail e f g h i again
            ]
          ]
        ]
      ]
    ]

pub escaped_read : (line : ℕ) (text tail : List ℕ) → quoted_at line double (escaped text ++ 34 ∷ tail) ≡ quoted text tail
escaped_read line [] tail = refl
escaped_read line (b ∷ rest) tail = ap (λ y. quoted_at line double y) (append_assoc (escaped_byte b) (escaped rest) (34 ∷ tail))
    ∙ escaped_one line b (escaped rest ++ 34 ∷ tail) rest tail (escaped_read line rest tail)
