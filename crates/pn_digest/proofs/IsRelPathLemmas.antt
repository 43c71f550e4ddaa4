-- Relative paths and their texts.
use Rattle.std.proofs.Common.{◌≡◌, ℕ, ◌≤◌, List, [], ◌∷◌, ◌++◌, length, drop, refl, sym, ap, ◌∙◌, subst, true}
use Rattle.std.specs.Prelude.{IsUtf8, ◌==◌, if◌then◌else◌, false}
use Rattle.std.specs.Str.{is_utf8}
use Rattle.std.proofs.lemmas.Str.{is_utf8-from_IsUtf8}
use Rattle.pn_text.specs.declared.limits.TheConstants.{PATH_LIMIT}
use Rattle.pn_text.specs.Path.{Path, text_below, parts_from, tail_of, SpellsParts}
use Rattle.pn_text.proofs.Paths.{tail_of-spelled, parts_from-append, parts_from-text_below}
use Rattle.pn_text.proofs.Splits.{parts_from-below}
use Rattle.pn_digest.specs.Listing.{rel_text, IsRelPath}
use Rattle.pn_text.proofs.Joins.{below_begins, text_below-append}

pub rel_is : (text : List ℕ) (p : Path) → SpellsParts text p → text ≡ rel_text p
rel_is text p s = ap (drop 1) s.spelled

-- a text that spells a path is that path's
pub is_rel : (text : List ℕ) (p : Path) → SpellsParts text p → length text ≤ PATH_LIMIT → IsUtf8 text → IsRelPath p
is_rel text p s short utf8 = let e = rel_is text p s in
    record {
      spelled = subst (λ t. SpellsParts t p) e s;
      short = subst (λ t. length t ≤ PATH_LIMIT) e short;
      utf8 = ap is_utf8 (sym e) ∙ is_utf8-from_IsUtf8 text utf8;
    }

pub same_rel : (p q : Path) → IsRelPath p → IsRelPath q → rel_text p ≡ rel_text q → p ≡ q
same_rel p q a b e = sym (tail_of-spelled (rel_text p) p a.spelled) ∙ ap tail_of e ∙ tail_of-spelled (rel_text q) q b.spelled

-- parts that are read are some
some_parts : (xs x : List ℕ) (q : Path) → (y : List ℕ) × (r : Path) × (parts_from (x ∷ q) xs ≡ y ∷ r)
some_parts [] x q = (x, q, refl)
some_parts (b ∷ bs) x q =
    elim (b == 47) as (λ c. (y : List ℕ) × (r : Path) × (parts_from (if c then [] ∷ x ∷ q else (x ++ b ∷ []) ∷ q) bs ≡ y ∷ r)) [
      | true ↦ some_parts bs [] (x ∷ q)
      | false ↦ some_parts bs (x ++ b ∷ []) q
    ]

-- where a text goes on behind a slash, its path lies below
pub goes_on : (p q : Path) (rest : List ℕ) → IsRelPath p → IsRelPath q → rel_text q ≡ rel_text p ++ 47 ∷ rest → (x : List ℕ) × (s : Path) × (q ≡ x ∷ s ++ p)
goes_on p q rest a b e =
    let whole : text_below q ≡ text_below p ++ 47 ∷ rest =
    sym b.spelled.spelled ∙ ap (λ t. 47 ∷ t) e ∙ ap (λ t. t ++ 47 ∷ rest) a.spelled.spelled in
    let below : q ≡ parts_from ([] ∷ []) rest ++ p =
    sym (parts_from-text_below q b.spelled.good)
    ∙ ap (parts_from []) whole
    ∙ parts_from-append (text_below p) (47 ∷ rest) []
    ∙ ap (λ z. parts_from z (47 ∷ rest)) (parts_from-text_below p a.spelled.good)
    ∙ parts_from-below rest [] p in
    let some = some_parts rest [] [] in
    (some.0, some.1, below ∙ ap (λ z. z ++ p) some.2)

-- and the text of a path below another one goes on so
pub text_goes_on : (p : Path) (x : List ℕ) (s : Path) → IsRelPath p → (rest : List ℕ) × (rel_text (x ∷ s ++ p) ≡ rel_text p ++ 47 ∷ rest)
text_goes_on p x s a =
    let b = below_begins x s in
    let whole : text_below (x ∷ s ++ p) ≡ 47 ∷ (rel_text p ++ 47 ∷ b.0) =
    text_below-append (x ∷ s) p ∙ ap (λ t. text_below p ++ t) b.1 ∙ ap (λ t. t ++ 47 ∷ b.0) (sym a.spelled.spelled) in
    (b.0, ap (drop 1) whole)
