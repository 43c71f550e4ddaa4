-- What is behind what was read is no longer than the text.
use Rattle.std.proofs.Common.{◌≡◌, ℕ, suc, ◌+◌, ◌*◌, ◌≤◌, length, arith, List, [], ◌∷◌, true, false, Option, Some, None, Result, Ok, Err, subst}
use Rattle.std.specs.Prelude.{◌==◌, if◌then◌else◌}
use Rattle.pn_yaml.specs.declared.fault.Why.TheVariants as why
use Rattle.pn_yaml.specs.declared.fault.YamlFault.{YamlFault}
use Rattle.pn_yaml.specs.declared.scalar.Place.{Place}
use Rattle.pn_yaml.specs.Bytes.{starts, tail_of, trimmed, unindented, is_empty}
use Rattle.pn_yaml.specs.Escapes.{character, code_at, digit_at, escape_at, two_at}
use Rattle.pn_yaml.specs.Outcome.{◌>>=◌, wrong}
use Rattle.pn_yaml.specs.Scalars.{Word, Inside, single, quote, double, slash, digits, Turn, go, closed, behind, bad, absent, ends_plain, digit_of, escape_of, is_left_out, is_surrogate, on_some, plain_at, plain_front, plain_rest, plain_word, turn_of, turned, with_bytes, quoted_at, quoted_end, word_at}

-- the rest is at most so long
abbrev pub Within : {A : Type 0} → ℕ → Result (A × List ℕ) YamlFault → Type 0
Within n (Ok r) = length r.1 ≤ n
Within n (Err e) = Unit {0}

pub within_more : {A : Type 0} (m n : ℕ) (r : Result (A × List ℕ) YamlFault) → m ≤ n → Within m r → Within n r
within_more m n (Ok r) l h = omega arith
within_more m n (Err e) l h = tt

pub within_then : {A B : Type 0} (m n : ℕ) (r : Result (A × List ℕ) YamlFault) (f : A × List ℕ → Result (B × List ℕ) YamlFault)
    → Within m r → ((x : A × List ℕ) → length x.1 ≤ m → Within n (f x)) → Within n (r >>= f)
within_then m n (Ok r) f h g = g r h
within_then m n (Err e) f h g = tt

pub within_ok : {A : Type 0} (n : ℕ) (r : Result (A × List ℕ) YamlFault) (x : A) (rest : List ℕ) → Within n r → r ≡ Ok (x, rest) → length rest ≤ n
within_ok {A} n r x rest h e = subst (λ (s : Result (A × List ℕ) YamlFault). Within n s) e h

pub unindented_within : (text : List ℕ) → length (unindented text) ≤ length text
unindented_within [] = omega arith
unindented_within (b ∷ rest) = elim (b == 32) as (λ v. length (if v then unindented rest else b ∷ rest) ≤ suc (length rest)) [
  | true ↦ let l = unindented_within rest in omega (arith, unindented_within rest)
  | false ↦ omega arith
]

pub tail_within : (text : List ℕ) → length (tail_of text) ≤ length text
tail_within [] = omega arith
tail_within (b ∷ rest) = omega arith

digit_chosen : (line : ℕ) (rest : List ℕ) (o : Option ℕ) → Within (length rest) (on_some {A = ℕ} {B = Result (ℕ × List ℕ) YamlFault} o (λ d. Ok (d, rest)) (wrong line why.Escape))
digit_chosen line rest None = tt
digit_chosen line rest (Some d) = omega arith

digit_within : (line : ℕ) (text : List ℕ) → Within (length text) (digit_at line text)
digit_within line [] = tt
digit_within line (b ∷ rest) = within_more (length rest) (suc (length rest)) (digit_at line (b ∷ rest)) (omega arith) (digit_chosen line rest (digit_of b))

two_within : (line value : ℕ) (text : List ℕ) → Within (length text) (two_at line value text)
unfolding two_at
two_within line value text =
    within_then (length text) (length text) (digit_at line text) (λ a. digit_at line a.1 >>= λ b. Ok ((value * 16 + a.0) * 16 + b.0, b.1)) (digit_within line text)
    (λ a l. within_then (length a.1) (length text) (digit_at line a.1) (λ b. Ok ((value * 16 + a.0) * 16 + b.0, b.1)) (digit_within line a.1) (λ b m. omega arith))

character_within : (line code : ℕ) (rest : List ℕ) → Within (length rest) (character line code rest)
character_within line code rest = elim (is_surrogate code) as (λ v. Within (length rest) (if◌then◌else◌ {A = Result (ℕ × List ℕ) YamlFault} v (wrong line why.Escape) (Ok (code, rest)))) [
  | true ↦ tt
  | false ↦ omega arith
]

then_character : (line n : ℕ) (v : ℕ × List ℕ) → length v.1 ≤ n → Within n (character line v.0 v.1)
then_character line n v l = within_more (length v.1) n (character line v.0 v.1) l (character_within line v.0 v.1)

code_within : (line b : ℕ) (text : List ℕ) → Within (length text) (code_at line b text)
unfolding code_at
code_within line b text =
    let n = length text in
    elim (b == 120) as (λ v. Within (length text) (if v then two_at line 0 text >>= (λ v. character line v.0 v.1)
    else if b == 117 then two_at line 0 text >>= (λ v. two_at line v.0 v.1 >>= λ w. character line w.0 w.1)
    else wrong line why.Escape)) [
      | true ↦ within_then n n (two_at line 0 text) (λ v. character line v.0 v.1) (two_within line 0 text) (λ v l. then_character line n v l)
      | false ↦ elim (b == 117) as (λ v. Within (length text) (if v then two_at line 0 text >>= (λ v. two_at line v.0 v.1 >>= λ w. character line w.0 w.1) else wrong line why.Escape)) [
        | true ↦ within_then n n (two_at line 0 text) (λ v. two_at line v.0 v.1 >>= λ w. character line w.0 w.1) (two_within line 0 text)
            (λ v l. within_then (length v.1) n (two_at line v.0 v.1) (λ w. character line w.0 w.1) (two_within line v.0 v.1) (λ w m. then_character line n w (omega arith)))
        | false ↦ tt
      ]
    ]

escape_chosen : (line b : ℕ) (rest : List ℕ) (o : Option ℕ) → Within (length rest) (on_some {A = ℕ} {B = Result (ℕ × List ℕ) YamlFault} o (λ c. Ok (c, rest)) (code_at line b rest))
escape_chosen line b rest None = code_within line b rest
escape_chosen line b rest (Some c) = omega arith

pub escape_within : (line : ℕ) (text : List ℕ) → Within (length text) (escape_at line text)
unfolding escape_at
escape_within line [] = tt
escape_within line (b ∷ rest) = within_more (length rest) (suc (length rest)) (on_some (escape_of b) (λ c. Ok (c, rest)) (code_at line b rest)) (omega arith) (escape_chosen line b rest (escape_of b))

rest_within : (p : Place) (text : List ℕ) → length (plain_rest p text) ≤ length text
rest_within p [] = omega arith
rest_within p (b ∷ rest) = elim (ends_plain p (b ∷ rest)) as (λ v. length (if v then b ∷ rest else plain_rest p rest) ≤ suc (length rest)) [
  | true ↦ omega arith
  | false ↦ omega (arith, rest_within p rest)
]

plain_word_within : (p : Place) (line : ℕ) (word rest : List ℕ) → Within (length rest) (plain_word p line word rest)
plain_word_within p line word rest =
    let done : Result (Word × List ℕ) YamlFault = Ok (record { text = word; plain = true }, rest) in
    elim (is_left_out word) as (λ v. Within (length rest) (if v then wrong line why.LeftOut else if is_empty word then wrong line (absent p) else done)) [
      | true ↦ tt
      | false ↦ elim (is_empty word) as (λ v. Within (length rest) (if v then wrong line (absent p) else done)) [ true ↦ tt | false ↦ omega arith ]
    ]

bytes_within : (n : ℕ) (bytes : List ℕ) (r : Result (Word × List ℕ) YamlFault) → Within n r → Within n (with_bytes bytes r)
bytes_within n bytes (Ok w) h = h
bytes_within n bytes (Err e) h = tt

ended_within : (line : ℕ) (s : Inside) → Within 0 (quoted_end line s)
ended_within line single = tt
ended_within line quote = omega arith
ended_within line double = tt
ended_within line slash = tt
ended_within line (digits left value) = tt

turned_within : (line : ℕ) (t : Turn) (f : Inside → Result (Word × List ℕ) YamlFault) (b : ℕ) (rest : List ℕ) → ((s : Inside) → Within (length rest) (f s)) → Within (suc (length rest)) (turned line t f b rest)
turned_within line (go bytes s) f b rest h = bytes_within (suc (length rest)) bytes (f s) (within_more (length rest) (suc (length rest)) (f s) (omega arith) (h s))
turned_within line closed f b rest h = omega arith
turned_within line behind f b rest h = omega arith
turned_within line bad f b rest h = tt

quoted_within : (line : ℕ) (s : Inside) (text : List ℕ) → Within (length text) (quoted_at line s text)
quoted_within line s [] = ended_within line s
quoted_within line s (b ∷ rest) = turned_within line (turn_of s b) (λ t. quoted_at line t rest) b rest (λ t. quoted_within line t rest)

pub word_within : (p : Place) (line : ℕ) (text : List ℕ) → Within (length text) (word_at p line text)
word_within p line text =
    elim (starts 39 text) as (λ v. Within (length text) (if v then quoted_at line single (tail_of text) else if starts 34 text then quoted_at line double (tail_of text) else plain_at p line text)) [
      | true ↦ within_more (length (tail_of text)) (length text) (quoted_at line single (tail_of text)) (tail_within text) (quoted_within line single (tail_of text))
      | false ↦ elim (starts 34 text) as (λ v. Within (length text) (if v then quoted_at line double (tail_of text) else plain_at p line text)) [
        | true ↦ within_more (length (tail_of text)) (length text) (quoted_at line double (tail_of text)) (tail_within text) (quoted_within line double (tail_of text))
        | false ↦ within_more (length (plain_rest p text)) (length text) (plain_at p line text) (rest_within p text) (plain_word_within p line (trimmed (plain_front p text)) (plain_rest p text))
      ]
    ]
