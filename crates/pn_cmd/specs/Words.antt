-- The point of the words.
use Rattle.std.specs.Prelude.{◌≡◌, ℕ, List, [], ◌∷◌, codes, Bool, true, false}
use Rattle.std.specs.Str.{bytes_eq}
use Rattle.pn_status.specs.declared.status.Status.{Status}
use Rattle.pn_status.specs.declared.status.Status.TheVariants.{Usage}
use Rattle.pn_cmd.specs.World.{Shown}
use Rattle.pn_cmd.specs.Points.{Point}

-- whether the words are those of a command
abbrev pub is_install : List (List ℕ) → Bool
is_install [] = false
is_install (w ∷ []) = bytes_eq w (codes "install")
is_install (w ∷ v ∷ ws) = false

abbrev pub AreNoCommand : List (List ℕ) → Shown → Status → Type 0
AreNoCommand words w Usage = is_install words ≡ false
AreNoCommand words w s = ⊥

abbrev pub words : Point (List (List ℕ)) (Unit {0})
words = record { Finds = λ words t u. is_install words ≡ true; Cause = AreNoCommand }
