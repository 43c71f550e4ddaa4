-- A text in the grammar of paths has no bad part.
use Rattle.std.proofs.Common.{◌≡◌, ℕ, List, [], ◌∷◌, ◌++◌, refl, sym, ap, ◌∙◌, subst, append_assoc, arith, true, false}
use Rattle.std.specs.Prelude.{IsTrue, ◌==◌, Result, IfOk, if◌then◌else◌, length, ◌<◌}
use Rattle.pn_text.specs.Path.{Path, is_part, is_flat, is_filled, is_path, text_below, parts_from, onto, SpellsAbs, HasBadPart, IsPartsEnd}
use Rattle.pn_text.specs.Faults.{BeginsWithNoSlash, HasBadAbsPart, AbsFault}
use Rattle.pn_text.specs.declared.fault.PathFault.{PathFault}
use Rattle.pn_text.specs.declared.fault.PathFault.TheVariants.{NotAbsolute, BadPart}
use Rattle.pn_text.proofs.Paths.{and_left, and_right, not_true, parts_from-append, parts_from-flat, parts_from-text_below, spells_one}
use Rattle.pn_text.proofs.Joins.{if_ok, below_begins}

pub slash_first : (text : List ℕ) (q : Path) → SpellsAbs text q → BeginsWithNoSlash text → ⊥
slash_first text [] s h = subst BeginsWithNoSlash s.spelled h refl
slash_first text (x ∷ q) s h = let b = below_begins x q in subst BeginsWithNoSlash (s.spelled ∙ b.1) h refl

-- the parts that are read stay, whatever comes
parts_stay : (bs : List ℕ) (y : List ℕ) (r : Path) → (u : Path) × (parts_from (y ∷ r) bs ≡ u ++ r)
parts_stay [] y r = (y ∷ [], refl)
parts_stay (b ∷ bs) y r = elim (b == 47) as (λ c. (u : Path) × (parts_from (if c then [] ∷ y ∷ r else onto (y ∷ r) b) bs ≡ u ++ r)) [
  | true ↦ let s = parts_stay bs [] (y ∷ r) in (s.0 ++ y ∷ [], s.1 ∙ sym (append_assoc s.0 (y ∷ []) r))
  | false ↦ parts_stay bs (y ++ b ∷ []) r
]

good_rest : (u p : Path) → IsTrue (is_path (u ++ p)) → IsTrue (is_path p)
good_rest [] p h = h
good_rest (x ∷ u) p h = good_rest u p (and_right (is_part x) (is_path (u ++ p)) h)

bad_path : (x : List ℕ) (p : Path) → IsTrue (is_path (x ∷ p)) → is_filled x ≡ false → ⊥
bad_path x p good bad =
    let filled : is_filled x ≡ true = and_right (is_flat x) (is_filled x) (and_left (is_part x) (is_path p) good) in
    let clash : true ≡ false = sym filled ∙ bad in cc

bad_after : (q before : Path) (part after : List ℕ) → IsTrue (is_path q) → q ≡ parts_from (part ∷ before) after → IsPartsEnd after → is_filled part ≡ false → ⊥
bad_after q before part [] good is ends bad = bad_path part before (subst (λ p. IsTrue (is_path p)) is good) bad
bad_after q before part (b ∷ bs) good is ends bad =
    let s = parts_stay bs [] (part ∷ before) in
    let read : parts_from (part ∷ before) (b ∷ bs) ≡ s.0 ++ part ∷ before = ap (λ c. parts_from (part ∷ before) (c ∷ bs)) ends ∙ s.1 in
    bad_path part before (good_rest s.0 (part ∷ before) (subst (λ p. IsTrue (is_path p)) (is ∙ read) good)) bad

no_bad_part : (x : List ℕ) (q : Path) (rest : List ℕ) (at : ℕ) → IsTrue (is_path (x ∷ q)) → text_below (x ∷ q) ≡ 47 ∷ rest → HasBadPart rest at → ⊥
no_bad_part x q rest at good is h =
    bad_after (x ∷ q) h.before h.part h.after good
    (sym (parts_from-text_below (x ∷ q) good) ∙ ap (parts_from []) (is ∙ h.spelled) ∙ parts_from-append (text_below h.before) (47 ∷ (h.part ++ h.after)) []
    ∙ ap (λ p. parts_from p (47 ∷ (h.part ++ h.after))) (parts_from-text_below h.before h.good)
    ∙ parts_from-append h.part h.after ([] ∷ h.before)
    ∙ ap (λ p. parts_from p h.after) (parts_from-flat h.part h.before [] (not_true _ h.flat)))
    h.ends h.bad

pub no_bad : (text : List ℕ) (q : Path) (at : ℕ) → SpellsAbs text q → HasBadAbsPart text at → ⊥
no_bad text [] at s h = let e : 47 ∷ h.rest ≡ 47 ∷ [] = sym h.begins ∙ s.spelled in h.filled (cc)
no_bad text (x ∷ q) at s h = no_bad_part x q h.rest h.place s.good (sym s.spelled ∙ h.begins) h.bad

-- a path that spells a text of parts has these parts
pub filled_spells : (text : List ℕ) (q : Path) → IsTrue (is_path q) → text ≡ text_below q → 0 < length text → SpellsAbs text q
filled_spells text [] good is some = absurd (omega (arith, ap length is))
filled_spells text (x ∷ q) good is some = record { good = good; spelled = is }

pub reads_below : {E : Type 0} (text : List ℕ) (q : Path) (r : Result Path E) → SpellsAbs text q → text ≡ text_below q → IfOk r (SpellsAbs text) → IfOk r (λ p. text ≡ text_below p)
reads_below text q r s is h = if_ok r (λ p k. is ∙ ap text_below (spells_one text q p s k)) h

-- a good text is refused for its length or for want of memory
pub not_unslashed : (text : List ℕ) (q : Path) (e : PathFault) → SpellsAbs text q → AbsFault text e → e ≡ NotAbsolute → ⊥
not_unslashed text q e s h is = slash_first text q s (subst (AbsFault text) is h)

pub not_bad : (text : List ℕ) (q : Path) (e : PathFault) (at : ℕ) → SpellsAbs text q → AbsFault text e → e ≡ BadPart at → ⊥
not_bad text q e at s h is = no_bad text q at s (subst (AbsFault text) is h)
