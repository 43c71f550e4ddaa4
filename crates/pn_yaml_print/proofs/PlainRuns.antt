-- The tests of a text in one pass are those of the parts.
use Rattle.std.proofs.Common.{◌≡◌, ℕ, Bool, false, List, [], ◌∷◌, map, refl, sym, ap, ap₂, ◌∙◌, arith}
use Rattle.std.specs.Prelude.{IsTrue, ◌↔◌, bytes_eq, ◌==◌, ◌&&◌, ◌||◌, not, codes, if◌then◌else◌}
use Rattle.std.specs.Char.{to_ascii_lowercase}
use Rattle.std.specs.List.{list_all, list_any}
use Rattle.std.proofs.lemmas.Bool.Decides.{nat_tests, same_from_decides}
use Rattle.std.proofs.lemmas.Slice.Eq.{bytes_eq-Decides}
use Rattle.pn_yaml.specs.Bytes.{space}
use Rattle.pn_yaml_print.specs.PlainRun.{breaks_plain, stays_plain}
use Rattle.pn_yaml_print.specs.PrintedScalars.{begins_wrong, ends_wrong, holds_pair, is_one_of, is_shown, lower_case, lowered, may_be_plain}

-- one byte more
tally : (s x y f m a e h k n : Bool)
    → (if not s || x || y || (f && m) then false else (a && not e && not h && not k && not (f && n)))
    ≡ ((s && a) && not e && not (x || h) && not (y || k) && not (f && (m || n)))
tally s x y f m a e h k n = grind arith

pass-end : (e x y f : Bool) → not e ≡ (not e && not (x && false || false) && not (y && false || false) && not (f && false))
pass-end e x y f = grind arith

-- a pass behind a byte
pass : (flow : Bool) (before : ℕ) (text : List ℕ) → stays_plain flow before text
    ≡ (list_all is_shown text && not (ends_wrong (before ∷ text)) && not (holds_pair 58 space (before ∷ text)) && not (holds_pair space 35 (before ∷ text)) && not (flow && list_any (is_one_of (codes ",[]{}")) text))
pass flow before [] = pass-end ((before == space) || (before == 58)) (before == 58) (before == space) flow
pass flow before (b ∷ rest) =
    ap (λ z. if breaks_plain flow before b then false else z) (pass flow b rest)
    ∙ tally (is_shown b) ((before == 58) && (b == space)) ((before == space) && (b == 35)) flow (is_one_of (codes ",[]{}") b)
    (list_all is_shown rest) (ends_wrong (b ∷ rest)) (holds_pair 58 space (b ∷ rest)) (holds_pair space 35 (b ∷ rest)) (list_any (is_one_of (codes ",[]{}")) rest)

well_begun : (a w e h k n : Bool) → w ≡ false → (a && not e && not h && not k && not n) ≡ (a && not w && not e && not h && not k && not n)
well_begun a w e h k n z = grind arith

pub plain_run : (flow : Bool) (text : List ℕ) → begins_wrong text ≡ false → stays_plain flow 0 text ≡ may_be_plain flow text
plain_run flow [] h = cc
plain_run flow (b ∷ rest) h =
    pass flow 0 (b ∷ rest)
    ∙ well_begun (list_all is_shown (b ∷ rest)) (begins_wrong (b ∷ rest)) (ends_wrong (b ∷ rest)) (holds_pair 58 space (b ∷ rest)) (holds_pair space 35 (b ∷ rest))
    (flow && list_any (is_one_of (codes ",[]{}")) (b ∷ rest)) h

lowered-is : (b : ℕ) → to_ascii_lowercase b ≡ lowered b
lowered-is b = grind (arith, nat_tests)

pub lower_case-is : (text : List ℕ) → map to_ascii_lowercase text ≡ lower_case text
lower_case-is [] = refl
lower_case-is (b ∷ rest) = ap₂ ◌∷◌ (lowered-is b) (lower_case-is rest)

-- equal in some case to a word in lower case
pub word_test : (r : Bool) (text word : List ℕ) → lower_case word ≡ word → (IsTrue r ↔ (map to_ascii_lowercase text ≡ map to_ascii_lowercase word)) → r ≡ bytes_eq (lower_case text) word
word_test r text word low h =
    let t = lower_case-is text in
    let w = lower_case-is word ∙ low in
    same_from_decides r (bytes_eq (lower_case text) word) (λ e. sym t ∙ h.0 e ∙ w, λ e. h.1 (t ∙ e ∙ sym w)) (bytes_eq-Decides (lower_case text) word)
