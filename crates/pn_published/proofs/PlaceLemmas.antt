-- The place of the last version that passes a test.
use Rattle.std.proofs.Common.{◌≡◌, ◌<◌, ℕ, zero, suc, ◌+◌, List, [], ◌∷◌, ◌++◌, Bool, true, false, Some, None, length, map, option_map, take, get_or, refl, sym, ap, ◌∙◌, arith, add-one, if◌then◌else◌}
use Rattle.semver.specs.Parse.{Parts}
use Rattle.semver.specs.Identifiers.{parts_of}
use Rattle.semver.specs.declared.Version.{Version}
use Rattle.pn_published.specs.Places.{or_else, last_place}

-- one version more at the end
last_push : (test : Parts → Bool) (xs : List Parts) (x : Parts) → last_place test (xs ++ x ∷ []) ≡ (if test x then Some (length xs) else last_place test xs)
last_push test [] x = one (test x) where
  one : (b : Bool) → or_else None (if b then Some 0 else None) ≡ (if b then Some 0 else None)
  one true = refl
  one false = refl
last_push test (y ∷ ys) x = ap (λ o. or_else (option_map suc o) (if test y then Some 0 else None)) (last_push test ys x) ∙ by (test x) where
  by : (b : Bool) → or_else (option_map suc (if b then Some (length ys) else last_place test ys)) (if test y then Some 0 else None) ≡ (if b then Some (suc (length ys)) else or_else (option_map suc (last_place test ys)) (if test y then Some 0 else None))
  by true = refl
  by false = refl

-- the versions up to a place, and the one there
front_more : (xs : List Version) (i : ℕ) (d : Version) → i < length xs → map parts_of (take (suc i) xs) ≡ map parts_of (take i xs) ++ parts_of (get_or xs i d) ∷ []
front_more [] i d h = absurd (omega arith)
front_more (x ∷ xs) zero d h = refl
front_more (x ∷ xs) (suc i) d h = ap (λ l. parts_of x ∷ l) (front_more xs i d (omega arith))

length_front : (xs : List Version) (i : ℕ) → i < length xs → length (map parts_of (take i xs)) ≡ i
length_front [] i h = absurd (omega arith)
length_front (x ∷ xs) zero h = refl
length_front (x ∷ xs) (suc i) h = ap suc (length_front xs i (omega arith))

pub last_more : (test : Parts → Bool) (xs : List Version) (i : ℕ) (x : Version) → i < length xs → x ≡ get_or xs i x
    → last_place test (map parts_of (take (i + 1) xs)) ≡ (if test (parts_of x) then Some i else last_place test (map parts_of (take i xs)))
last_more test xs i x h is =
    ap (λ n. last_place test (map parts_of (take n xs))) (add-one i)
    ∙ ap (last_place test) (front_more xs i x h)
    ∙ last_push test (map parts_of (take i xs)) (parts_of (get_or xs i x))
    ∙ ap (λ n. if test (parts_of (get_or xs i x)) then Some n else last_place test (map parts_of (take i xs))) (length_front xs i h)
    ∙ ap (λ v. if test (parts_of v) then Some i else last_place test (map parts_of (take i xs))) (sym is)
