-- What `*` spells.
use Rattle.std.proofs.Common.{◌≡◌, List, [], ◌∷◌, None, refl, sym, subst, arith}
use Rattle.pn_ranges.specs.declared.comparator.Sign.TheVariants as sign
use Rattle.pn_ranges.specs.Grammar.{Spells}
use Rattle.pn_ranges.specs.Grammar as g
use Rattle.pn_ranges.specs.Limits.{Limit}
use Rattle.pn_ranges.specs.Table.{any, limits}

pub wildcard : Spells (42 ∷ []) (limits sign.Exact any ∷ [])
wildcard = record {
  count = 1;
  read = g.one [] (42 ∷ []) [] 1 (limits sign.Exact any) refl (g.comparators (42 ∷ []) 1 (limits sign.Exact any) (g.one (42 ∷ []) sign.Exact any compared refl)) refl;
  few = omega arith;
} where
  compared : g.IsComparator (42 ∷ []) sign.Exact any
  compared = g.comparator [] [] (42 ∷ []) sign.Exact any g.absent refl (g.end [] (42 ∷ []) any refl (g.one (42 ∷ []) None (g.wild 42 refl))) refl

pub wildcard-of : (ranges : List (List Limit)) → ranges ≡ limits sign.Exact any ∷ [] → Spells (42 ∷ []) ranges
wildcard-of ranges is = subst (Spells (42 ∷ [])) (sym is) wildcard
