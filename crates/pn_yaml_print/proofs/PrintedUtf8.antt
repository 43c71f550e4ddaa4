-- What is printed is UTF-8.
use Rattle.std.proofs.Common.{◌≡◌, ℕ, zero, suc, ◌<◌, ◌≤◌, Bool, true, false, cond, List, [], ◌∷◌, ◌++◌, length, get_or, IsUtf8, inl, inr, refl, sym, ap, ap₂, ◌∙◌, subst, arith, append_assoc, append-nil, ltb-true}
use Rattle.std.specs.Prelude.{◌==◌, ◌&&◌, nat_lt, if◌then◌else◌}
use Rattle.std.specs.List.{flat_map, list_any}
use Rattle.std.specs.Str.{is_utf8}
use Rattle.std.proofs.lemmas.Bool.{and_parts, cases_eq, cases_lt, cond_both, le-ltb, ne_eqb}
use Rattle.std.proofs.Math.Seq.{take-append_seam}
use Rattle.std.proofs.lemmas.Str.{IsUtf8-append, IsUtf8-nil, IsUtf8-encode, IsUtf8-take, IsCharBoundary-at_seam, IsUtf8-from_is_utf8, is_utf8-from_IsUtf8, encode_ascii, inside_one}
use lib.Utf8.{scalar, scalars, encode, encodes, low_scalar}
use Rattle.pn_yaml_print.specs.Printing.{spaces}
use Rattle.pn_yaml_print.specs.PrintedScalars.{doubled, escaped, escaped_byte, is_control, is_plain, word_text}

ascii_then : (x : ℕ) (xs : List ℕ) → x < 128 → IsUtf8 xs → IsUtf8 (x ∷ xs)
ascii_then x xs small u = IsUtf8-append (x ∷ []) xs (subst IsUtf8 (encode_ascii x small) (IsUtf8-encode x (low_scalar x (omega arith)))) u

abbrev pub are_ascii : List ℕ → Bool
are_ascii [] = true
are_ascii (x ∷ xs) = nat_lt x 128 && are_ascii xs

IsUtf8-are_ascii : (xs : List ℕ) → are_ascii xs ≡ true → IsUtf8 xs
IsUtf8-are_ascii [] e = IsUtf8-nil
IsUtf8-are_ascii (x ∷ xs) e = let p = and_parts _ _ e in ascii_then x xs (ltb-true _ _ p.0) (IsUtf8-are_ascii xs p.1)

-- what stands in place of each byte: UTF-8 of an ASCII byte, and another byte itself
record Keeps (f : ℕ → List ℕ) : Type 0 where
  low : (b : ℕ) → b < 128 → IsUtf8 (f b)
  high : (b : ℕ) → 128 ≤ b → f b ≡ b ∷ []

flat_map-append : (f : ℕ → List ℕ) (xs ys : List ℕ) → flat_map f (xs ++ ys) ≡ flat_map f xs ++ flat_map f ys
flat_map-append f [] ys = refl
flat_map-append f (x ∷ xs) ys = ap (λ l. f x ++ l) (flat_map-append f xs ys) ∙ sym (append_assoc (f x) _ _)

high_bytes : (f : ℕ → List ℕ) → Keeps f → (xs : List ℕ) → ((k : ℕ) → k < length xs → 128 ≤ get_or xs k 0) → flat_map f xs ≡ xs
high_bytes f keeps [] h = refl
high_bytes f keeps (x ∷ xs) h =
    let high : 128 ≤ x = h 0 (omega arith) in
    ap₂ (λ (a b : List ℕ). a ++ b) (keeps.high x high) (high_bytes f keeps xs (λ k below. h (suc k) (omega arith)))

one_char : (f : ℕ → List ℕ) → Keeps f → (c : ℕ) → scalar c ≡ true → IsUtf8 (flat_map f (encode c))
one_char f keeps c ok = elim (cases_lt c 128) [
  | inl small ↦ rw (encode_ascii c small, append-nil) (keeps.low c small)
  | inr big ↦
      let high : (k : ℕ) → k < length (encode c) → 128 ≤ get_or (encode c) k 0 = λ k below. elim (cases_lt (get_or (encode c) k 0) 128) [
        | inl low ↦ absurd (omega (arith, inside_one c [] (encode c) k (sym (append-nil _)) below low))
        | inr h ↦ h
      ] in
      subst IsUtf8 (sym (high_bytes f keeps (encode c) high)) (IsUtf8-encode c ok)
]

all_chars : (f : ℕ → List ℕ) → Keeps f → (cs : List ℕ) → scalars cs ≡ true → IsUtf8 (flat_map f (encodes cs))
all_chars f keeps [] e = IsUtf8-nil
all_chars f keeps (c ∷ cs) e =
    let p = and_parts _ _ e in
    subst IsUtf8 (sym (flat_map-append f (encode c) (encodes cs))) (IsUtf8-append _ _ (one_char f keeps c p.0) (all_chars f keeps cs p.1))

each_byte : (f : ℕ → List ℕ) → Keeps f → (text : List ℕ) → IsUtf8 text → IsUtf8 (flat_map f text)
each_byte f keeps text u = subst (λ l. IsUtf8 (flat_map f l)) u.1.1 (all_chars f keeps u.0 u.1.0)

abbrev doubled_byte : ℕ → List ℕ
doubled_byte b = if b == 39 then 39 ∷ 39 ∷ [] else b ∷ []

doubled_step : (quote : Bool) (b : ℕ) (xs ys : List ℕ) → xs ≡ ys → cond quote (39 ∷ 39 ∷ xs) (b ∷ xs) ≡ cond quote (39 ∷ 39 ∷ []) (b ∷ []) ++ ys
doubled_step true b xs ys e = ap (λ l. 39 ∷ 39 ∷ l) e
doubled_step false b xs ys e = ap (λ l. b ∷ l) e

doubled-bytes : (text : List ℕ) → doubled text ≡ flat_map doubled_byte text
doubled-bytes [] = refl
doubled-bytes (b ∷ rest) = doubled_step (b == 39) b (doubled rest) _ (doubled-bytes rest)

escaped-bytes : (text : List ℕ) → escaped text ≡ flat_map escaped_byte text
escaped-bytes [] = refl
escaped-bytes (b ∷ rest) = ap (λ l. escaped_byte b ++ l) (escaped-bytes rest)

-- what stands in place of the bytes below n is ASCII
abbrev are_low : (ℕ → List ℕ) → ℕ → Bool
are_low f zero = true
are_low f (suc n) = are_ascii (f n) && are_low f n

low_bytes : (f : ℕ → List ℕ) (n : ℕ) → are_low f n ≡ true → (b : ℕ) → b < n → are_ascii (f b) ≡ true
low_bytes f zero e b h = absurd (omega arith)
low_bytes f (suc n) e b h =
    let p = and_parts _ _ e in
    elim (cases_eq b n) [ inl same ↦ rw same p.0 | inr other ↦ low_bytes f n p.1 b (omega arith) ]

doubled-low : are_low doubled_byte 128 ≡ true
doubled-low = refl

escaped-low : are_low escaped_byte 128 ≡ true
escaped-low = refl

doubled-high : (b : ℕ) → 128 ≤ b → doubled_byte b ≡ b ∷ []
doubled-high b h = rw (ne_eqb b 39 (λ e. omega arith)) refl

escaped-high : (b : ℕ) → 128 ≤ b → escaped_byte b ≡ b ∷ []
escaped-high b h =
    let quote = ne_eqb b 34 (λ e. omega arith) in
    let slash = ne_eqb b 92 (λ e. omega arith) in
    let feed = ne_eqb b 10 (λ e. omega arith) in
    let tab = ne_eqb b 9 (λ e. omega arith) in
    let back = ne_eqb b 13 (λ e. omega arith) in
    let low = le-ltb b 32 (omega arith) in
    let delete = ne_eqb b 127 (λ e. omega arith) in
    rw (quote, slash, feed, tab, back, low, delete) refl

doubled-keeps : Keeps doubled_byte
doubled-keeps = record { low = λ b h. IsUtf8-are_ascii _ (low_bytes doubled_byte 128 doubled-low b h); high = doubled-high }

escaped-keeps : Keeps escaped_byte
escaped-keeps = record { low = λ b h. IsUtf8-are_ascii _ (low_bytes escaped_byte 128 escaped-low b h); high = escaped-high }

in_quotes : (quote : ℕ) (text : List ℕ) → quote < 128 → IsUtf8 text → IsUtf8 (quote ∷ (text ++ quote ∷ []))
in_quotes quote text h u = ascii_then quote _ h (IsUtf8-append text _ u (ascii_then quote [] h IsUtf8-nil))

IsUtf8-word : (flow : Bool) (text : List ℕ) (plain : Bool) → IsUtf8 text → IsUtf8 (word_text flow text plain)
IsUtf8-word flow text plain u =
    cond_both (is_plain flow text plain) _ _ IsUtf8 (λ _. u) (λ _.
    cond_both (list_any is_control text) _ _ IsUtf8
    (λ _. in_quotes 34 _ (omega arith) (subst IsUtf8 (sym (escaped-bytes text)) (each_byte escaped_byte escaped-keeps text u)))
    (λ _. in_quotes 39 _ (omega arith) (subst IsUtf8 (sym (doubled-bytes text)) (each_byte doubled_byte doubled-keeps text u))))

same_tests : (a b : Bool) → (a ≡ true → b ≡ true) → (b ≡ true → a ≡ true) → a ≡ b
same_tests true b f g = sym (f refl)
same_tests false true f g = g refl
same_tests false false f g = refl

-- whether a text is UTF-8 stays the same with UTF-8 behind it
behind : (a b : List ℕ) → IsUtf8 b → is_utf8 (a ++ b) ≡ is_utf8 a
behind a b u =
    same_tests _ _
    (λ e. is_utf8-from_IsUtf8 a (let whole = IsUtf8-from_is_utf8 (a ++ b) e in
    subst IsUtf8 (take-append_seam a b) (IsUtf8-take (a ++ b) (length a) whole (IsCharBoundary-at_seam (a ++ b) a b refl u))))
    (λ e. is_utf8-from_IsUtf8 (a ++ b) (IsUtf8-append a b (IsUtf8-from_is_utf8 a e) u))

pub utf8_ascii : (a b : List ℕ) → are_ascii b ≡ true → is_utf8 (a ++ b) ≡ is_utf8 a
utf8_ascii a b e = behind a b (IsUtf8-are_ascii b e)

pub word_kept : (old new : List ℕ) (flow : Bool) (text : List ℕ) (plain : Bool) → IsUtf8 text → new ≡ old ++ word_text flow text plain → is_utf8 new ≡ is_utf8 old
word_kept old new flow text plain u e = ap is_utf8 e ∙ behind old _ (IsUtf8-word flow text plain u)

spaces-ascii : (n : ℕ) → are_ascii (spaces n) ≡ true
spaces-ascii zero = refl
spaces-ascii (suc n) = spaces-ascii n

pub utf8_spaces : (a : List ℕ) (n : ℕ) → is_utf8 (a ++ spaces n) ≡ is_utf8 a
utf8_spaces a n = utf8_ascii a (spaces n) (spaces-ascii n)

pub utf8_none : is_utf8 [] ≡ true
utf8_none = is_utf8-from_IsUtf8 [] IsUtf8-nil
