-- How scalars are printed.
use Rattle.std.specs.Prelude.{ℕ, ◌+◌, ◌/◌, ◌%◌, ◌==◌, ◌&&◌, ◌||◌, nat_le, nat_lt, Bool, true, false, not, List, [], ◌∷◌, ◌++◌, if◌then◌else◌, bytes_eq, codes}
use Rattle.std.specs.List.{list_all, list_any, count_by}
use Rattle.pn_yaml.specs.Bytes.{space, starts}

abbrev pub is_one_of : List ℕ → ℕ → Bool
is_one_of bytes b = list_any (λ c. c == b) bytes

-- the text begins with a byte that a plain scalar may not begin with
abbrev pub begins_wrong : List ℕ → Bool
begins_wrong [] = true
begins_wrong (b ∷ rest) = is_one_of (codes "-?:,[]{}#&*!|>'\"%@` ") b

abbrev pub ends_wrong : List ℕ → Bool
ends_wrong [] = true
ends_wrong (b ∷ []) = (b == space) || (b == 58)
ends_wrong (b ∷ c ∷ rest) = ends_wrong (c ∷ rest)

-- a byte and another one right behind it
abbrev pub holds_pair : ℕ → ℕ → List ℕ → Bool
holds_pair a b [] = false
holds_pair a b (c ∷ rest) = ((c == a) && starts b rest) || holds_pair a b rest

abbrev pub is_shown : ℕ → Bool
is_shown b = nat_le 32 b && nat_le b 126

-- whether a text may be printed plain, in a flow or outside
abbrev pub may_be_plain : Bool → List ℕ → Bool
may_be_plain flow text = list_all is_shown text && not (begins_wrong text) && not (ends_wrong text) && not (holds_pair 58 space text)
    && not (holds_pair space 35 text) && not (flow && list_any (is_one_of (codes ",[]{}")) text)

abbrev pub lowered : ℕ → ℕ
lowered b = if nat_le 65 b && nat_le b 90 then b + 32 else b

abbrev pub lower_case : List ℕ → List ℕ
lower_case [] = []
lower_case (b ∷ rest) = lowered b ∷ lower_case rest

-- `true`, `null` and the like, which other readers don't take for texts
abbrev pub is_keyword : List ℕ → Bool
is_keyword text = list_any (bytes_eq (lower_case text)) (codes "true" ∷ codes "false" ∷ codes "null" ∷ codes "~" ∷ codes "yes"
    ∷ codes "no" ∷ codes "on" ∷ codes "off" ∷ [])

-- a text that other readers may take for a number
abbrev pub is_numeric : List ℕ → Bool
is_numeric [] = false
is_numeric (b ∷ rest) = (nat_le 48 b && nat_le b 57 || is_one_of (codes "+-.") b) && nat_lt (count_by (λ c. c == 46) (b ∷ rest)) 2

abbrev pub is_ambiguous : List ℕ → Bool
is_ambiguous text = not (bytes_eq text (codes ".")) && (is_keyword text || is_numeric text)

-- whether a scalar is printed plain, in a flow or outside: its text, and whether it was written plain
abbrev pub is_plain : Bool → List ℕ → Bool → Bool
is_plain flow text plain = may_be_plain flow text && (plain || not (is_ambiguous text))

abbrev pub is_control : ℕ → Bool
is_control b = nat_lt b 32 || (b == 127)

abbrev pub doubled : List ℕ → List ℕ
doubled [] = []
doubled (b ∷ rest) = if b == 39 then 39 ∷ 39 ∷ doubled rest else b ∷ doubled rest

-- a hexadecimal digit in lower case
abbrev pub digit_text : ℕ → ℕ
digit_text n = if nat_lt n 10 then 48 + n else 87 + n

abbrev pub escaped_byte : ℕ → List ℕ
escaped_byte b = if b == 34 then codes "\\\"" else if b == 92 then codes "\\\\" else if b == 10 then codes "\\n" else if b == 9 then codes "\\t"
    else if b == 13 then codes "\\r" else if is_control b then codes "\\x" ++ digit_text (b / 16) ∷ digit_text (b % 16) ∷ [] else b ∷ []

abbrev pub escaped : List ℕ → List ℕ
escaped [] = []
escaped (b ∷ rest) = escaped_byte b ++ escaped rest

-- a scalar as it is printed
abbrev pub word_text : Bool → List ℕ → Bool → List ℕ
word_text flow text plain = if is_plain flow text plain then text
    else if list_any is_control text then 34 ∷ (escaped text ++ 34 ∷ []) else 39 ∷ (doubled text ++ 39 ∷ [])
