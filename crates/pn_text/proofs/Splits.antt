-- Lemmas on the first part of a text of parts.
use Rattle.std.proofs.Common.{◌≡◌, ℕ, ◌<◌, ◌≤◌, ◌-◌, length, take, drop, arith, List, [], ◌∷◌, ◌++◌, refl, sym, ap, ◌∙◌, append_assoc, true, false}
use Rattle.std.specs.Prelude.{◌==◌, ◌||◌, IsTrue, if◌then◌else◌}
use Rattle.std.specs.Str.{bytes_eq}
use Rattle.std.proofs.lemmas.List.Folds.{list_any-append}
use Rattle.std.proofs.lemmas.List.{take_all}
use Rattle.pn_text.specs.Path.{Path, is_flat, parts_from, tail_of, IsPartsEnd}
use Rattle.pn_text.specs.Name.{modules, holds_modules}
use Rattle.pn_text.proofs.Bools.{or_false, or_true}
use Rattle.pn_text.proofs.Paths.{not_true, parts_from-append, parts_from-flat}

-- parts that stand already stay below those that are read
pub parts_from-below : (xs x : List ℕ) (q : Path) → parts_from (x ∷ q) xs ≡ parts_from (x ∷ []) xs ++ q
parts_from-below [] x q = refl
parts_from-below (b ∷ bs) x q =
    elim (b == 47) as (λ c. parts_from (if c then [] ∷ x ∷ q else (x ++ b ∷ []) ∷ q) bs ≡ parts_from (if c then [] ∷ x ∷ [] else (x ++ b ∷ []) ∷ []) bs ++ q) [
      | true ↦ parts_from-below bs [] (x ∷ q) ∙ sym (append_assoc (parts_from ([] ∷ []) bs) (x ∷ []) q) ∙ ap (λ r. r ++ q) (sym (parts_from-below bs [] (x ∷ [])))
      | false ↦ parts_from-below bs (x ++ b ∷ []) q
    ]

-- the first part and what stands behind it
pub first_off : (part after : List ℕ) → IsTrue (is_flat part) → tail_of (part ++ after) ≡ parts_from (part ∷ []) after
first_off part after flat = parts_from-append part after ([] ∷ []) ∙ ap (λ p. parts_from p after) (parts_from-flat part [] [] (not_true _ flat))

-- the parts behind the first one
pub parts_behind : (part after : List ℕ) → IsTrue (is_flat part) → IsPartsEnd after → tail_of (part ++ after) ≡ parts_from [] after ++ part ∷ []
parts_behind part [] flat ends = first_off part [] flat
parts_behind part (b ∷ more) flat ends =
    first_off part (b ∷ more) flat
    ∙ ap (λ c. parts_from (part ∷ []) (c ∷ more)) ends
    ∙ parts_from-below more [] (part ∷ [])
    ∙ ap (λ c. parts_from [] (c ∷ more) ++ part ∷ []) (sym ends)

holds_behind : (part after : List ℕ) → IsTrue (is_flat part) → IsPartsEnd after → holds_modules (tail_of (part ++ after)) ≡ (holds_modules (parts_from [] after) || (bytes_eq part modules || false))
holds_behind part after flat ends = ap holds_modules (parts_behind part after flat ends) ∙ list_any-append (λ x. bytes_eq x modules) (parts_from [] after) (part ∷ [])

pub holds_here : (rest part after : List ℕ) → rest ≡ part ++ after → IsTrue (is_flat part) → IsPartsEnd after → bytes_eq part modules ≡ true → holds_modules (tail_of rest) ≡ true
holds_here rest part after whole flat ends is =
    ap (λ r. holds_modules (tail_of r)) whole ∙ holds_behind part after flat ends ∙ ap (λ b. holds_modules (parts_from [] after) || (b || false)) is ∙ or_true _

pub holds_later : (rest part after : List ℕ) → rest ≡ part ++ after → IsTrue (is_flat part) → IsPartsEnd after → bytes_eq part modules ≡ false → holds_modules (tail_of rest) ≡ holds_modules (parts_from [] after)
holds_later rest part after whole flat ends isnt =
    ap (λ r. holds_modules (tail_of r)) whole ∙ holds_behind part after flat ends ∙ ap (λ b. holds_modules (parts_from [] after) || (b || false)) isnt ∙ or_false _

-- what stands behind a slash
pub behind_slash : (after : List ℕ) → 1 ≤ length after → IsPartsEnd after → parts_from [] after ≡ tail_of (take (length after - 1) (drop 1 after))
behind_slash [] l ends = absurd (omega arith)
behind_slash (b ∷ more) l ends = ap (λ c. parts_from [] (c ∷ more)) ends ∙ ap tail_of (sym (take_all (length (b ∷ more) - 1) more (omega arith)))

pub none_behind : (after : List ℕ) → length after < 1 → holds_modules (parts_from [] after) ≡ false
none_behind [] l = refl
none_behind (b ∷ more) l = absurd (omega arith)
