-- The patterns of a file without keys.
use Rattle.std.proofs.Common.{◌≡◌, ℕ, List, [], ◌∷◌, refl, subst}
use Rattle.pn_glob.specs.Lists.{AreNames, none, positive}
use Rattle.pn_glob.specs.Matching.{Patterns}
use Rattle.pn_glob.proofs.Settled.{settled}
use Rattle.pn_config.specs.Settings.{all_names}

star_read : AreNames ((42 ∷ []) ∷ []) all_names
star_read = record {
  kind = refl;
  written = (42 ∷ []) ∷ [];
  read = positive [] [] [] ((42 ∷ []) ∷ []) (42 ∷ []) none refl (record { plain = refl; itself = refl });
  positive = refl;
}

pub star_is : (texts : List (List ℕ)) (l : Patterns) → texts ≡ (42 ∷ []) ∷ [] → AreNames texts l → l ≡ all_names
star_is texts l is h = settled.names ((42 ∷ []) ∷ []) l all_names (subst (λ ts. AreNames ts l) is h) star_read
