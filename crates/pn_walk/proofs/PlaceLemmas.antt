-- The places of packages, as one more is met.
use Rattle.std.proofs.Common.{◌≡◌, ℕ, suc, List, [], ◌∷◌, ◌++◌, Bool, true, false, Option, Some, None, length, option_map, refl, sym, ap, ◌∙◌, subst, if◌then◌else◌}
use Rattle.std.specs.Prelude.{String}
use Rattle.std.specs.Str.{bytes_eq}
use Rattle.std.specs.BTreeMap.{BTreeMap, get_by_text}
use Rattle.std.proofs.lemmas.Slice.Eq.{bytes_eq-Decides}
use Rattle.pn_walk.specs.Wants.{Id, Node}
use Rattle.pn_walk.specs.Walks.{place_of}
use Rattle.pn_walk.specs.Places.{KeepsPlace}

fresh_head : (b : Bool) (o : Option ℕ) → (if b then Some 0 else option_map suc o) ≡ None → (b ≡ false) × (o ≡ None)
fresh_head true o h = cc h
fresh_head false None h = (refl, refl)
fresh_head false (Some k) h = cc h

-- Where no package has the new one's id, its place is after all, and the others keep theirs.
pub place_more : (i : Id) (ns : List Node) (n : Node) → place_of n.id ns ≡ None → place_of i (ns ++ n ∷ []) ≡ (if bytes_eq n.id i then Some (length ns) else place_of i ns)
place_more i [] n fresh = refl
place_more i (m ∷ ns) n fresh =
    let f = fresh_head (bytes_eq m.id n.id) (place_of n.id ns) fresh in
    ap (λ o. if bytes_eq m.id i then Some 0 else option_map suc o) (place_more i ns n f.1)
    ∙ elim (bytes_eq n.id i) as (λ b. bytes_eq n.id i ≡ b → (if bytes_eq m.id i then Some 0 else option_map suc (if b then Some (length ns) else place_of i ns))
    ≡ (if b then Some (length (m ∷ ns)) else (if bytes_eq m.id i then Some 0 else option_map suc (place_of i ns)))) [
      | true ↦ λ same. let other : bytes_eq m.id i ≡ false = subst (λ (x : Id). bytes_eq m.id x ≡ false) ((bytes_eq-Decides n.id i).0 same) f.0 in
          ap (λ c. if c then Some 0 else Some (suc (length ns))) other
      | false ↦ λ other. refl
    ] refl

pub tied_more : {A : Type 0} (m k : BTreeMap (String A) ℕ) (ns : List Node) (n : Node) → ((i : Id) → get_by_text m i ≡ place_of i ns) → place_of n.id ns ≡ None → KeepsPlace m k n.id (length ns) → (i : Id) → get_by_text k i ≡ place_of i (ns ++ n ∷ [])
tied_more m k ns n tied fresh keeps i = keeps i ∙ ap (λ o. if bytes_eq n.id i then Some (length ns) else o) (tied i) ∙ sym (place_more i ns n fresh)
