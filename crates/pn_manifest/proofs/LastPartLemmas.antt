-- The last part of a text.
use Rattle.std.proofs.Common.{◌≡◌, ◌++◌, ◌∷◌, [], List, ℕ, Option, Some, None, Bor, sym, ap, ◌∙◌, subst, append-nil, IsTrue}
use Rattle.std.specs.Prelude.{MatchOption}
use Rattle.pn_text.specs.Path.{is_flat, tail_of}
use Rattle.pn_text.proofs.Cuts.{parts_cut}
use Rattle.pn_text.proofs.Splits.{first_off}
use Rattle.pn_manifest.specs.Commands.{head_part, last_part}

-- what a cut at the last slash says
abbrev IsCut : List ℕ → Option (Bor (List ℕ) × Bor (List ℕ)) → Type 0
IsCut text r = MatchOption r (IsTrue (is_flat text)) (λ x. (text ≡ x.0.now ++ 47 ∷ x.1.now) × IsTrue (is_flat x.1.now))

pub part_behind : (text : List ℕ) (r : Option (Bor (List ℕ) × Bor (List ℕ))) (front part : Bor (List ℕ)) → r ≡ Some (front, part) → IsCut text r → part.now ≡ last_part text
part_behind text r front part is h =
    let cut : IsCut text (Some (front, part)) = subst (IsCut text) is h in
    sym (ap head_part (parts_cut text front.now part.now cut.0 cut.1))

pub part_whole : (text : List ℕ) (r : Option (Bor (List ℕ) × Bor (List ℕ))) → r ≡ None → IsCut text r → text ≡ last_part text
part_whole text r is h =
    let flat : IsTrue (is_flat text) = subst (IsCut text) is h in
    sym (ap (λ (t : List ℕ). head_part (tail_of t)) (sym (append-nil text)) ∙ ap head_part (first_off text [] flat))
