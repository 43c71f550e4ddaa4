-- Lemmas on texts that are cut at their last slash.
use Rattle.std.proofs.Common.{◌≡◌, ℕ, List, [], ◌∷◌, ◌++◌, take, drop, sym, ap, ◌∙◌, Some, None, lit<}
use Rattle.std.specs.Prelude.{Option, ◌==◌, not, IsTrue}
use Rattle.std.specs.Option.{MatchOption}
use Rattle.std.specs.Str.{NoCharPasses}
use Rattle.std.specs.Str.Pattern.{RFindsChar, SplitsAroundMatch}
use Rattle.std.proofs.lemmas.List.{take-append-drop}
use Rattle.std.proofs.lemmas.Str.Pattern.{NoCharPasses-char, drop_at_char}
use denote.Ref.{Bor}
use Rattle.pn_text.specs.Path.{is_flat, tail_of}
use Rattle.pn_text.proofs.Bytes.{no_slash}
use Rattle.pn_text.proofs.Paths.{not_true, parts_from-append, parts_from-flat}

flat_text : (bs : List ℕ) → NoCharPasses (λ d. d == 47) bs → IsTrue (is_flat bs)
flat_text bs h = ap not (no_slash bs (λ i l. NoCharPasses-char 47 bs i h (lit< tt) l))

-- the text is cut at its last slash
pub last_cut : (text : List ℕ) (r : Option (Bor (List ℕ) × Bor (List ℕ))) → MatchOption r (RFindsChar 47 text None) (λ x. SplitsAroundMatch (RFindsChar 47) text x.0.now x.1.now)
    → MatchOption r (IsTrue (is_flat text)) (λ cut. (text ≡ cut.0.now ++ 47 ∷ cut.1.now) × IsTrue (is_flat cut.1.now))
last_cut text None h = flat_text text h
last_cut text (Some x) (i, j, finds, front, back, le, len, size) = (
  sym (take-append-drop i text) ∙ ap (λ l. take i text ++ l) (drop_at_char 47 text i j finds.1 (lit< tt)) ∙ ap (λ l. l ++ 47 ∷ drop j text) (sym front) ∙ ap (λ l. x.0.now ++ 47 ∷ l) (sym back),
  ap is_flat back ∙ flat_text (drop j text) finds.0,
)

-- the parts of a text that is cut at its last slash
pub parts_cut : (front rest part : List ℕ) → front ≡ rest ++ 47 ∷ part → IsTrue (is_flat part) → tail_of front ≡ part ∷ tail_of rest
parts_cut front rest part cut flat =
    ap tail_of cut ∙ parts_from-append (47 ∷ rest) (47 ∷ part) [] ∙ parts_from-flat part (tail_of rest) [] (not_true _ flat)
