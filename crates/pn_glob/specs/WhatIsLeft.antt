-- What is left of pattern and text for the matcher, and of the parts of a text.
use Rattle.std.specs.Prelude.{ℕ, Bool, List, [], ◌∷◌, Some, None}
use Rattle.pn_glob.specs.declared.parts.Parts.{Parts}
use Rattle.pn_glob.specs.Bytes.{parts}
use Rattle.pn_glob.specs.Gaps.{Rules, is_end}

-- Nothing is left, or a gap comes next.
abbrev pub at_gap : {C A : Type 0} → Rules C A → List C → List A → Bool
at_gap r [] t = is_end t
at_gap r (c ∷ p) t = r.is_gap c

-- the parts behind a first one, by the text from the slash behind it on
abbrev pub parts_behind : List ℕ → List (List ℕ)
parts_behind [] = []
parts_behind (b ∷ t) = parts t

abbrev pub left_of : Parts → List (List ℕ)
left_of p = elim p.text [ None ↦ [] | Some t ↦ parts t.now ]
