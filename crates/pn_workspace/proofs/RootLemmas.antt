-- Lemmas on the root of a workspace.
use Rattle.std.proofs.Common.{◌≡◌, ◌≢◌, ℕ, List, [], ◌∷◌, ◌++◌, refl, sym, ap, ◌∙◌, subst, Option, Some, None, true, false}
use Rattle.std.specs.Prelude.{Bool, if◌then◌else◌}
use Rattle.pn_text.specs.Path.{Path}
use Rattle.pn_text.proofs.Results.{same_some}
use Rattle.pn_fs.specs.Tree.{Tree}
use Rattle.pn_workspace.specs.Roots.{has_settings, nearest, or_here}
use Rattle.pn_workspace.specs.Laws.{HasNone, IsNearest, IsRoot, with_file, without_file, RootLaw}

no_rest : (near rest : Path) → [] ≡ near ++ rest → rest ≡ []
no_rest [] rest e = sym e
no_rest (x ∷ near) rest e = cc e

at_once : (t : Tree) (p r : Path) → has_settings t p ≡ true → p ≡ r → IsNearest t p r
at_once t p r has e = record {
  way = [];
  above = e;
  file = subst (λ q. has_settings t q ≡ true) e has;
  none_nearer = λ near rest is some. absurd (some (no_rest near rest is));
}

-- one folder farther down
further : (t : Tree) (x : List ℕ) (p r : Path) → has_settings t (x ∷ p) ≡ false → IsNearest t p r → IsNearest t (x ∷ p) r
further t x p r none n = record {
  way = x ∷ n.way;
  above = ap (λ q. x ∷ q) n.above;
  file = n.file;
  none_nearer = nearer;
}
  where
    nearer : (near rest : Path) → x ∷ n.way ≡ near ++ rest → rest ≢ [] → has_settings t (rest ++ r) ≡ false
    nearer [] rest is some = subst (λ q. has_settings t q ≡ false) (ap (λ q. x ∷ q) n.above ∙ ap (λ q. q ++ r) is) none
    nearer (y ∷ near) rest is some = n.none_nearer near rest (ap tail is) some
      where
        tail : Path → Path
        tail [] = []
        tail (z ∷ q) = q

pub nearest_is : (t : Tree) (p r : Path) → nearest t p ≡ Some r → IsNearest t p r
nearest_is t [] r = elim (has_settings t []) as (λ b. has_settings t [] ≡ b → (if b then Some [] else None) ≡ Some r → IsNearest t [] r) [
  | true ↦ λ has is. at_once t [] r has (same_some [] r is)
  | false ↦ λ none is. cc is
] refl
nearest_is t (x ∷ p) r = elim (has_settings t (x ∷ p)) as (λ b. has_settings t (x ∷ p) ≡ b → (if b then Some (x ∷ p) else nearest t p) ≡ Some r → IsNearest t (x ∷ p) r) [
  | true ↦ λ has is. at_once t (x ∷ p) r has (same_some (x ∷ p) r is)
  | false ↦ λ none is. further t x p r none (nearest_is t p r is)
] refl

-- the folder `/`, where it has the file
abbrev file_here : Bool → Option Path
file_here b = if b then Some [] else None

pub none_is : (t : Tree) (p : Path) → nearest t p ≡ None → HasNone t p
none_is t [] = elim (has_settings t []) as (λ b. has_settings t [] ≡ b → file_here b ≡ None → HasNone t []) [
  | true ↦ λ has is. cc is
  | false ↦ λ none is way q e. subst (λ r. has_settings t r ≡ false) (sym (no_rest way q e)) none
] refl
none_is t (x ∷ p) = elim (has_settings t (x ∷ p)) as (λ b. has_settings t (x ∷ p) ≡ b → (if b then Some (x ∷ p) else nearest t p) ≡ None → HasNone t (x ∷ p)) [
  | true ↦ λ has is. cc is
  | false ↦ λ none is. below none (none_is t p is)
] refl
  where
    tail : Path → Path
    tail [] = []
    tail (z ∷ q) = q

    below : has_settings t (x ∷ p) ≡ false → HasNone t p → HasNone t (x ∷ p)
    below none h [] q e = subst (λ r. has_settings t r ≡ false) e none
    below none h (y ∷ way) q e = h way q (ap tail e)

pub root : RootLaw
root t p = elim (nearest t p) as (λ o. nearest t p ≡ o → IsRoot t p (or_here p o)) [
  | Some r ↦ λ is. with_file (nearest_is t p r is)
  | None ↦ λ is. without_file refl (none_is t p is)
] refl
