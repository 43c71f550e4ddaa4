-- Scalars: plain, in single quotes, and in double quotes.
use Rattle.std.specs.Prelude.{ℕ, ◌+◌, ◌-◌, ◌*◌, ◌==◌, ◌&&◌, ◌||◌, nat_le, Bool, true, false, List, [], ◌∷◌, ◌++◌, Option, Some, None, Result, Ok, Err, if◌then◌else◌, encode_utf8}
use Rattle.pn_yaml.specs.declared.fault.Why.{Why}
use Rattle.pn_yaml.specs.declared.fault.Why.TheVariants as why
use Rattle.pn_yaml.specs.declared.fault.YamlFault.{YamlFault}
use Rattle.pn_yaml.specs.declared.scalar.Place.{Place}
use Rattle.pn_yaml.specs.declared.scalar.Place.TheVariants as place
use Rattle.pn_yaml.specs.Bytes.{starts, is_empty, tail_of, trimmed, is_comment, ends_word}
use Rattle.pn_yaml.specs.Outcome.{wrong}

-- a scalar's text, and whether it is written plain
pub record Word : Type 0 where
  pub text : List ℕ
  pub plain : Bool

-- the text begins with the colon behind a key
abbrev pub is_colon : List ℕ → Bool
is_colon text = starts 58 text && ends_word (tail_of text)

-- `,`, `]` or `}`
abbrev pub is_mark : List ℕ → Bool
is_mark text = starts 44 text || starts 93 text || starts 125 text

-- a plain scalar ends before this text: at a comment; but for a value of a block at the colon behind a key; in a flow
-- at a mark
abbrev pub ends_plain : Place → List ℕ → Bool
ends_plain place.Value text = is_comment text
ends_plain place.Key text = is_comment text || is_colon text
ends_plain place.Flow text = is_comment text || is_colon text || is_mark text

-- the text up to where a plain scalar ends, and from there on
abbrev pub plain_front : Place → List ℕ → List ℕ
plain_front p [] = []
plain_front p (b ∷ rest) = if ends_plain p (b ∷ rest) then [] else b ∷ plain_front p rest

abbrev pub plain_rest : Place → List ℕ → List ℕ
plain_rest p [] = []
plain_rest p (b ∷ rest) = if ends_plain p (b ∷ rest) then b ∷ rest else plain_rest p rest

-- `&`, `*`, `!`, `%`, `@` or a backquote
abbrev pub is_left_out_byte : ℕ → Bool
is_left_out_byte b = (b == 38) || (b == 42) || (b == 33) || (b == 37) || (b == 64) || (b == 96)

-- anchors, aliases, tags, directives, reserved bytes, and the `?` of an explicit key
abbrev pub is_left_out : List ℕ → Bool
is_left_out [] = false
is_left_out (b ∷ rest) = is_left_out_byte b || ((b == 63) && ends_word rest)

-- the fault of a scalar that isn't there
abbrev pub absent : Place → Why
absent place.Value = why.Key
absent place.Key = why.Key
absent place.Flow = why.Flow

abbrev pub plain_word : Place → ℕ → List ℕ → List ℕ → Result (Word × List ℕ) YamlFault
plain_word p line text rest = if is_left_out text then wrong line why.LeftOut else if is_empty text then wrong line (absent p)
    else Ok (record { text = text; plain = true }, rest)

-- a plain scalar
abbrev pub plain_at : Place → ℕ → List ℕ → Result (Word × List ℕ) YamlFault
plain_at p line text = plain_word p line (trimmed (plain_front p text)) (plain_rest p text)

-- bytes of a scalar in quotes, and then what is behind them
abbrev pub with_bytes : List ℕ → Result (Word × List ℕ) YamlFault → Result (Word × List ℕ) YamlFault
with_bytes bs (Ok w) = Ok (record { text = bs ++ w.0.text; plain = false }, w.1)
with_bytes bs (Err e) = Err e

abbrev pub closed_at : List ℕ → Result (Word × List ℕ) YamlFault
closed_at rest = Ok (record { text = []; plain = false }, rest)

abbrev pub on_some : {A B : Type 0} → Option A → (A → B) → B → B
on_some None f none = none
on_some (Some a) f none = f a

-- what a byte behind a backslash stands for
abbrev pub escape_of : ℕ → Option ℕ
escape_of b = if (b == 92) || (b == 34) || (b == 47) then Some b else if b == 110 then Some 10 else if b == 116 then Some 9
    else if b == 114 then Some 13 else if b == 48 then Some 0 else None

-- how many hexadecimal digits come behind a backslash and `x` or `u`
abbrev pub digits_behind : ℕ → Option ℕ
digits_behind b = if b == 120 then Some 2 else if b == 117 then Some 4 else None

abbrev pub digit_of : ℕ → Option ℕ
digit_of b = if nat_le 48 b && nat_le b 57 then Some (b - 48) else if nat_le 97 b && nat_le b 102 then Some (b - 87)
    else if nat_le 65 b && nat_le b 70 then Some (b - 55) else None

abbrev pub is_surrogate : ℕ → Bool
is_surrogate c = nat_le 55296 c && nat_le c 57343

-- where a scalar in quotes is read
pub data Inside : Type 0 where
  single : Inside  -- in single quotes
  quote : Inside  -- there, behind a quote, of which two stand for one
  double : Inside  -- in double quotes
  slash : Inside  -- there, behind a backslash
  digits : ℕ → ℕ → Inside  -- there, before so many more hexadecimal digits of a number, and its value so far

-- what a byte does there
pub data Turn : Type 0 where
  go : List ℕ → Inside → Turn  -- it adds these bytes to the text
  closed : Turn  -- it closes the scalar
  behind : Turn  -- the scalar was closed before it
  bad : Turn  -- it belongs to no escape

-- a hexadecimal digit, with the value of it and those before it
abbrev pub digit_turn : ℕ → ℕ → Turn
digit_turn left value = if nat_le left 1 then (if is_surrogate value then bad else go (encode_utf8 value) double)
    else go [] (digits (left - 1) value)

abbrev pub turn_of : Inside → ℕ → Turn
turn_of single b = if b == 39 then go [] quote else go (b ∷ []) single
turn_of quote b = if b == 39 then go (39 ∷ []) single else behind
turn_of double b = if b == 34 then closed else if b == 92 then go [] slash else go (b ∷ []) double
turn_of slash b = on_some (escape_of b) (λ c. go (c ∷ []) double) (on_some (digits_behind b) (λ n. go [] (digits n 0)) bad)
turn_of (digits left value) b = on_some (digit_of b) (λ d. digit_turn left (value * 16 + d)) bad

-- the line ends there
abbrev pub quoted_end : ℕ → Inside → Result (Word × List ℕ) YamlFault
quoted_end line single = wrong line why.Quote
quoted_end line quote = closed_at []
quoted_end line double = wrong line why.Quote
quoted_end line slash = wrong line why.Escape
quoted_end line (digits left value) = wrong line why.Escape

abbrev pub turned : ℕ → Turn → (Inside → Result (Word × List ℕ) YamlFault) → ℕ → List ℕ → Result (Word × List ℕ) YamlFault
turned line (go bytes s) f b rest = with_bytes bytes (f s)
turned line closed f b rest = closed_at rest
turned line behind f b rest = closed_at (b ∷ rest)
turned line bad f b rest = wrong line why.Escape

-- a scalar in quotes from there on, and what is behind it
abbrev pub quoted_at : ℕ → Inside → List ℕ → Result (Word × List ℕ) YamlFault
quoted_at line s [] = quoted_end line s
quoted_at line s (b ∷ rest) = turned line (turn_of s b) (λ t. quoted_at line t rest) b rest

-- a scalar at the front of a text, and what is behind it
abbrev pub word_at : Place → ℕ → List ℕ → Result (Word × List ℕ) YamlFault
word_at p line text = if starts 39 text then quoted_at line single (tail_of text) else if starts 34 text then quoted_at line double (tail_of text)
    else plain_at p line text
