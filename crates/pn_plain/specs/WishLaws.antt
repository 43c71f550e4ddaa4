-- What a seen manifest asks for, in the manifest's own words.
use Rattle.std.specs.Prelude.{◌≡◌, ℕ, true, false, List, map}
use Rattle.std.specs.List.{Contains}
use Rattle.pn_walk.specs.declared.wish.Wish.{Wish}
use Rattle.pn_manifest.specs.Pairs.{Pair}
use Rattle.pn_manifest.specs.Said.{Said, AreRising, IsRisingSaid}
use Rattle.pn_plain.specs.Seen.{Owner, no_hook, no_rules, IsSeen, wish, wishes_of}
use Rattle.pn_plain.specs.SeenLaws.{IsOnce}

abbrev pub aliases : List Wish → List (List ℕ)
aliases wishes = map (λ (w : Wish). w.alias) wishes

-- The wish is a dependency's. It may come to nothing where that is optional.
pub data IsWishOf (m : Said) (w : Wish) : Type 0 where
  regular : (e : Pair) → Contains m.dependencies e → w ≡ wish false e → IsWishOf m w
  dev : (e : Pair) → Contains m.dev e → w ≡ wish false e → IsWishOf m w
  optional : (e : Pair) → Contains m.optional e → w ≡ wish true e → IsWishOf m w

-- A manifest asks for its dependencies and nothing else, and, where its maps rise and a name stands in one of them, in byte
-- order of aliases. A seen manifest's maps rise as the manifest's do.
pub record WishLaw : Type 0 where
  pub sound : (m : Said) (w : Wish) → Contains (wishes_of m) w → IsWishOf m w
  pub complete : (m : Said) (w : Wish) → IsWishOf m w → Contains (wishes_of m) w
  pub rising : (m : Said) → IsRisingSaid m → IsOnce m → AreRising (aliases (wishes_of m))
  pub seen : (owner : Owner) (m s : Said) → IsRisingSaid m → IsSeen no_hook no_rules owner m s → IsRisingSaid s
