-- Escapes in double quotes, each in one step.
use Rattle.std.proofs.Common.{◌≡◌, ℕ, ◌+◌, ◌-◌, ◌*◌, ◌≤◌, arith, Bool, List, [], ◌∷◌, ◌++◌, true, false, Option, Some, None, Result, Ok, Err, refl, sym, ap, subst, ◌∙◌}
use Rattle.std.specs.Prelude.{◌==◌, ◌||◌, if◌then◌else◌, encode_utf8}
use Rattle.std.proofs.lemmas.Bool.{eqb-true, ltb-false, ne_eqb}
use Rattle.pn_yaml.specs.Cuts.{begins_ascii}
use lib.Utf8
use Rattle.pn_yaml.specs.declared.fault.Why.TheVariants as why
use Rattle.pn_yaml.specs.declared.fault.YamlFault.{YamlFault}
use Rattle.pn_yaml.specs.Outcome.{◌>>=◌, wrong}
use Rattle.pn_yaml.specs.Escapes.{character, code_at, digit_at, escape_at, two_at}
use Rattle.pn_yaml.specs.Reading.{EndsAt}
use Rattle.pn_yaml.specs.Scalars.{double, slash, digits, Turn, go, bad, on_some, turned, with_bytes, quoted_at, digit_of, digit_turn, digits_behind, escape_of, is_surrogate}
use Rattle.pn_yaml.proofs.Quotes.{Read, double_slash, with_more, with_none}

-- the scalar goes on behind a character
abbrev pub with_char : ℕ → ℕ × List ℕ → Read
with_char line e = with_bytes (encode_utf8 e.0) (quoted_at line double e.1)

-- a digit and what is behind it
abbrev Digit : Type 0
Digit = Result (ℕ × List ℕ) YamlFault

abbrev digit_then : ℕ → List ℕ → Option ℕ → Digit
digit_then line rest o = on_some o (λ d. Ok (d, rest)) (wrong line why.Escape)

last_chosen : (line value : ℕ) (rest : List ℕ) (b : ℕ) (o : Option ℕ) → turned line (on_some o (λ d. digit_turn 1 (value * 16 + d)) bad) (λ t. quoted_at line t rest) b rest
    ≡ (digit_then line rest o >>= λ a. character line (value * 16 + a.0) a.1) >>= with_char line
last_chosen line value rest b None = refl
last_chosen line value rest b (Some d) =
    let done : Digit = Ok (value * 16 + d, rest) in
    elim (is_surrogate (value * 16 + d)) as (λ v. turned line (if v then bad else go (encode_utf8 (value * 16 + d)) double) (λ t. quoted_at line t rest) b rest
    ≡ (if v then wrong line why.Escape else done) >>= with_char line) [
      | true ↦ refl
      | false ↦ refl
    ]

last_digit : (line value : ℕ) (text : List ℕ) → quoted_at line (digits 1 value) text
    ≡ (digit_at line text >>= λ b. character line (value * 16 + b.0) b.1) >>= with_char line
last_digit line value [] = refl
last_digit line value (b ∷ rest) = last_chosen line value rest b (digit_of b)

first_chosen : (line left value : ℕ) (rest : List ℕ) (b : ℕ) (o : Option ℕ) → ((d : ℕ) → digit_turn left d ≡ go [] (digits (left - 1) d))
    → turned line (on_some o (λ d. digit_turn left (value * 16 + d)) bad) (λ t. quoted_at line t rest) b rest
    ≡ digit_then line rest o >>= λ a. quoted_at line (digits (left - 1) (value * 16 + a.0)) a.1
first_chosen line left value rest b None goes = refl
first_chosen line left value rest b (Some d) goes =
    ap (λ (t : Turn). turned line t (λ i. quoted_at line i rest) b rest) (goes (value * 16 + d)) ∙ with_none line (digits (left - 1) (value * 16 + d)) rest

-- a digit of two or more
first_digit : (line left value : ℕ) (text : List ℕ) → ((d : ℕ) → digit_turn left d ≡ go [] (digits (left - 1) d)) → quoted_at line (digits left value) text
    ≡ digit_at line text >>= λ a. quoted_at line (digits (left - 1) (value * 16 + a.0)) a.1
first_digit line left value [] goes = refl
first_digit line left value (b ∷ rest) goes = first_chosen line left value rest b (digit_of b) goes

-- a step that goes on alike
then_alike : {A : Type 0} (r : Result A YamlFault) (f g : A → Read) → ((x : A) → f x ≡ g x) → (r >>= f) ≡ (r >>= g)
then_alike (Ok x) f g e = e x
then_alike (Err d) f g e = refl

then_then : {A B C : Type 0} (r : Result A YamlFault) (f : A → Result B YamlFault) (g : B → Result C YamlFault) → ((r >>= f) >>= g) ≡ (r >>= λ x. f x >>= g)
then_then (Ok x) f g = refl
then_then (Err d) f g = refl

two_digits : (line value : ℕ) (text : List ℕ) → quoted_at line (digits 2 value) text
    ≡ (two_at line value text >>= λ v. character line v.0 v.1) >>= with_char line
unfolding two_at
two_digits line value text =
    first_digit line 2 value text (λ d. refl)
    ∙ then_alike (digit_at line text) (λ a. quoted_at line (digits 1 (value * 16 + a.0)) a.1)
    (λ a. ((digit_at line a.1 >>= λ b. Ok ((value * 16 + a.0) * 16 + b.0, b.1)) >>= λ v. character line v.0 v.1) >>= with_char line)
    (λ a. last_digit line (value * 16 + a.0) a.1 ∙ ap (λ (r : Result (ℕ × List ℕ) YamlFault). r >>= with_char line) (sym (then_then (digit_at line a.1) (λ b. Ok ((value * 16 + a.0) * 16 + b.0, b.1)) (λ v. character line v.0 v.1))))
    ∙ sym (then_then (digit_at line text) (λ a. (digit_at line a.1 >>= λ b. Ok ((value * 16 + a.0) * 16 + b.0, b.1)) >>= λ v. character line v.0 v.1) (with_char line))
    ∙ ap (λ (r : Result (ℕ × List ℕ) YamlFault). r >>= with_char line) (sym (then_then (digit_at line text) (λ a. digit_at line a.1 >>= λ b. Ok ((value * 16 + a.0) * 16 + b.0, b.1)) (λ v. character line v.0 v.1)))

four_digits : (line value : ℕ) (text : List ℕ) → quoted_at line (digits 4 value) text ≡ two_at line value text >>= λ v. quoted_at line (digits 2 v.0) v.1
unfolding two_at
four_digits line value text =
    first_digit line 4 value text (λ d. refl)
    ∙ then_alike (digit_at line text) (λ a. quoted_at line (digits 3 (value * 16 + a.0)) a.1)
    (λ a. (digit_at line a.1 >>= λ b. Ok ((value * 16 + a.0) * 16 + b.0, b.1)) >>= λ v. quoted_at line (digits 2 v.0) v.1)
    (λ a. first_digit line 3 (value * 16 + a.0) a.1 (λ d. refl) ∙ sym (then_then (digit_at line a.1) (λ b. Ok ((value * 16 + a.0) * 16 + b.0, b.1)) (λ v. quoted_at line (digits 2 v.0) v.1)))
    ∙ sym (then_then (digit_at line text) (λ a. digit_at line a.1 >>= λ b. Ok ((value * 16 + a.0) * 16 + b.0, b.1)) (λ v. quoted_at line (digits 2 v.0) v.1))

code_read : (line b : ℕ) (rest : List ℕ) → turned line (on_some (digits_behind b) (λ n. go [] (digits n 0)) bad) (λ t. quoted_at line t rest) b rest ≡ code_at line b rest >>= with_char line
unfolding code_at
code_read line b rest =
    elim (b == 120) as (λ v. turned line (on_some (if v then Some 2 else if b == 117 then Some 4 else None) (λ n. go [] (digits n 0)) bad) (λ t. quoted_at line t rest) b rest
    ≡ (if v then two_at line 0 rest >>= (λ v. character line v.0 v.1)
    else if b == 117 then two_at line 0 rest >>= (λ v. two_at line v.0 v.1 >>= λ w. character line w.0 w.1)
    else wrong line why.Escape) >>= with_char line) [
      | true ↦ with_none line (digits 2 0) rest ∙ two_digits line 0 rest
      | false ↦ elim (b == 117) as (λ v. turned line (on_some (if v then Some 4 else None) (λ n. go [] (digits n 0)) bad) (λ t. quoted_at line t rest) b rest
          ≡ (if v then two_at line 0 rest >>= (λ v. two_at line v.0 v.1 >>= λ w. character line w.0 w.1) else wrong line why.Escape) >>= with_char line) [
            | true ↦ with_none line (digits 4 0) rest ∙ four_digits line 0 rest
                ∙ then_alike (two_at line 0 rest) (λ v. quoted_at line (digits 2 v.0) v.1) (λ v. (two_at line v.0 v.1 >>= λ w. character line w.0 w.1) >>= with_char line) (λ v. two_digits line v.0 v.1)
                ∙ sym (then_then (two_at line 0 rest) (λ v. two_at line v.0 v.1 >>= λ w. character line w.0 w.1) (with_char line))
            | false ↦ refl
          ]
    ]

-- an escape of one byte stands for an ASCII byte
abbrev IsOne : Option ℕ → Type 0
IsOne None = Unit {0}
IsOne (Some c) = encode_utf8 c ≡ c ∷ []

-- where one of two tests holds
either : (a b : Bool) (P : Type 0) → (a ≡ true → P) → (b ≡ true → P) → (a || b) ≡ true → P
either true b P f g e = f refl
either false b P f g e = g e

one_of : (a b : ℕ) → encode_utf8 a ≡ a ∷ [] → (b == a) ≡ true → encode_utf8 b ≡ b ∷ []
one_of a b one e = subst (λ (c : ℕ). encode_utf8 c ≡ c ∷ []) (sym (eqb-true b a e)) one

same_one : (b : ℕ) → ((b == 92) || (b == 34) || (b == 47)) ≡ true → encode_utf8 b ≡ b ∷ []
unfolding lib.Utf8.encode
same_one b e =
    either ((b == 92) || (b == 34)) (b == 47) (encode_utf8 b ≡ b ∷ [])
    (either (b == 92) (b == 34) (encode_utf8 b ≡ b ∷ []) (one_of 92 b refl) (one_of 34 b refl))
    (one_of 47 b refl) e

escape_one : (b : ℕ) → IsOne (escape_of b)
unfolding lib.Utf8.encode
escape_one b =
    elim ((b == 92) || (b == 34) || (b == 47)) as (λ v. ((b == 92) || (b == 34) || (b == 47)) ≡ v → IsOne (if v then Some b else if b == 110 then Some 10 else if b == 116 then Some 9 else if b == 114 then Some 13 else if b == 48 then Some 0 else None)) [
      | true ↦ λ e. same_one b e
      | false ↦ λ e. elim (b == 110) as (λ v. IsOne (if v then Some 10 else if b == 116 then Some 9 else if b == 114 then Some 13 else if b == 48 then Some 0 else None)) [
        | true ↦ refl
        | false ↦ elim (b == 116) as (λ v. IsOne (if v then Some 9 else if b == 114 then Some 13 else if b == 48 then Some 0 else None)) [
          | true ↦ refl
          | false ↦ elim (b == 114) as (λ v. IsOne (if v then Some 13 else if b == 48 then Some 0 else None)) [
            | true ↦ refl
            | false ↦ elim (b == 48) as (λ v. IsOne (if v then Some 0 else None)) [ true ↦ refl | false ↦ tt ]
          ]
        ]
      ]
    ] refl

byte_read : (line b : ℕ) (rest : List ℕ) (o : Option ℕ) → IsOne o
    → turned line (on_some o (λ c. go (c ∷ []) double) (on_some (digits_behind b) (λ n. go [] (digits n 0)) bad)) (λ t. quoted_at line t rest) b rest
    ≡ on_some o (λ c. Ok (c, rest)) (code_at line b rest) >>= with_char line
byte_read line b rest None one = code_read line b rest
byte_read line b rest (Some c) one = ap (λ (bytes : List ℕ). with_bytes bytes (quoted_at line double rest)) (sym one)

-- an escape is a character
pub escape_read : (line : ℕ) (text : List ℕ) → quoted_at line slash text ≡ escape_at line text >>= with_char line
unfolding escape_at
escape_read line [] = refl
escape_read line (b ∷ rest) = byte_read line b rest (escape_of b) (escape_one b)

-- an escape inside a scalar
pub double_more : (line : ℕ) (text front rest after more : List ℕ) (c : ℕ) → EndsAt 34 92 text front rest → rest ≡ 92 ∷ after → escape_at line after ≡ Ok (c, more)
    → quoted_at line double text ≡ with_bytes (front ++ encode_utf8 c) (quoted_at line double more)
double_more line text front rest after more c e f g =
    double_slash line text front rest after e f
    ∙ ap (λ (r : Read). with_bytes front r) (escape_read line after ∙ ap (λ (r : Result (ℕ × List ℕ) YamlFault). r >>= with_char line) g)
    ∙ with_more front (encode_utf8 c) (quoted_at line double more)

pub double_fails : (line : ℕ) (text front rest after : List ℕ) (e : YamlFault) → EndsAt 34 92 text front rest → rest ≡ 92 ∷ after → escape_at line after ≡ Err e
    → quoted_at line double text ≡ Err e
double_fails line text front rest after e ends f g =
    double_slash line text front rest after ends f
    ∙ ap (λ (r : Read). with_bytes front r) (escape_read line after ∙ ap (λ (r : Result (ℕ × List ℕ) YamlFault). r >>= with_char line) g)

-- where no ASCII byte comes first
none_chosen : (line b : ℕ) (rest : List ℕ) → 128 ≤ b → escape_at line (b ∷ rest) ≡ wrong line why.Escape
unfolding escape_at code_at
none_chosen line b rest high =
    let n92 : (b == 92) ≡ false = ne_eqb b 92 (λ e. absurd (omega arith)) in
    let n34 : (b == 34) ≡ false = ne_eqb b 34 (λ e. absurd (omega arith)) in
    let n47 : (b == 47) ≡ false = ne_eqb b 47 (λ e. absurd (omega arith)) in
    let n110 : (b == 110) ≡ false = ne_eqb b 110 (λ e. absurd (omega arith)) in
    let n116 : (b == 116) ≡ false = ne_eqb b 116 (λ e. absurd (omega arith)) in
    let n114 : (b == 114) ≡ false = ne_eqb b 114 (λ e. absurd (omega arith)) in
    let n48 : (b == 48) ≡ false = ne_eqb b 48 (λ e. absurd (omega arith)) in
    let n120 : (b == 120) ≡ false = ne_eqb b 120 (λ e. absurd (omega arith)) in
    let n117 : (b == 117) ≡ false = ne_eqb b 117 (λ e. absurd (omega arith)) in
    rw (n92, n34, n47, n110, n116, n114, n48, n120, n117) refl

pub no_escape : (line : ℕ) (text : List ℕ) → begins_ascii text ≡ false → escape_at line text ≡ wrong line why.Escape
unfolding escape_at
no_escape line [] e = refl
no_escape line (b ∷ rest) e = none_chosen line b rest (ltb-false b 128 e)
