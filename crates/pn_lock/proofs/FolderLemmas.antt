-- Folders of projects.
use Rattle.std.proofs.Common.{◌≡◌, ℕ, ◌≤◌, true, false, List, [], ◌∷◌, ◌++◌, length, refl, sym, ap, ◌∙◌, inl, inr, append-nil, append_assoc}
use Rattle.std.specs.Prelude.{◌==◌, if◌then◌else◌, nat_le, IsUtf8}
use Rattle.std.proofs.lemmas.Bool.{cases_Bool, leb-true}
use Rattle.std.proofs.lemmas.Map.Views.{exact_unsigned_eq}
use Rattle.pn_text.specs.Faults.{RelFault}
use Rattle.pn_text.specs.Path.{Path, is_path, parts_from, tail_of, text_below, SpellsParts}
use Rattle.pn_text.specs.declared.fault.PathFault.{PathFault}
use Rattle.pn_text.specs.declared.fault.PathFault.TheVariants as fault
use Rattle.pn_text.specs.declared.limits.TheConstants.{PATH_LIMIT}
use Rattle.pn_text.proofs.Paths.{and_left, and_right}
use Rattle.pn_digest.specs.Lines.{IsPathText, line_fault}
use Rattle.pn_digest.proofs.IsPathTextLemmas.{refused_path}
use Rattle.pn_digest.proofs.IsRelPathLemmas.{is_rel as is_rel_path, rel_is}
use Rattle.pn_lock.specs.Folders.{is_rel}

-- the parts of a text are its parts
below_from : (t x : List ℕ) (p : Path) → text_below (parts_from (x ∷ p) t) ≡ text_below (x ∷ p) ++ t
below_from [] x p = sym (append-nil (text_below (x ∷ p)))
below_from (b ∷ t) x p = elim (cases_Bool (b == 47)) [
  | inl e ↦ ap (λ o. text_below (parts_from (if o then [] ∷ x ∷ p else (x ++ b ∷ []) ∷ p) t)) e ∙ below_from t [] (x ∷ p)
      ∙ append_assoc (text_below (x ∷ p)) (47 ∷ []) t ∙ ap (λ c. text_below (x ∷ p) ++ c ∷ t) (sym (exact_unsigned_eq b 47 e))
  | inr e ↦ ap (λ o. text_below (parts_from (if o then [] ∷ x ∷ p else (x ++ b ∷ []) ∷ p) t)) e ∙ below_from t (x ++ b ∷ []) p
      ∙ ap (λ y. y ++ t) (sym (append_assoc (text_below p) (47 ∷ x) (b ∷ []))) ∙ append_assoc (text_below p ++ 47 ∷ x) (b ∷ []) t
]

pub tail_again : (text : List ℕ) → text_below (tail_of text) ≡ 47 ∷ text
tail_again text = below_from text [] []

pub rel_spells : (text : List ℕ) → is_rel text ≡ true → SpellsParts text (tail_of text)
rel_spells text h = record { good = and_left (is_path (tail_of text)) (nat_le (length text) PATH_LIMIT) h; spelled = sym (tail_again text) }

-- a text that is refused as a relative path is none
path_text : (text : List ℕ) → IsUtf8 text → is_rel text ≡ true → IsPathText text
path_text text utf8 h =
    let s = rel_spells text h in
    let short : length text ≤ PATH_LIMIT = leb-true (length text) PATH_LIMIT (and_right (is_path (tail_of text)) (nat_le (length text) PATH_LIMIT) h) in
    (tail_of text, is_rel_path text (tail_of text) s short utf8, rel_is text (tail_of text) s)

no_rel : (text : List ℕ) → (is_rel text ≡ true → ⊥) → false ≡ is_rel text
no_rel text n = elim (cases_Bool (is_rel text)) [ inl e ↦ absurd (n e) | inr e ↦ sym e ]

pub not_rel : (text : List ℕ) (e : PathFault) → IsUtf8 text → RelFault text e → (e ≡ fault.Memory → ⊥) → false ≡ is_rel text
not_rel text fault.NotAbsolute utf8 f n = absurd f
not_rel text (fault.BadPart at) utf8 f n = no_rel text (λ h. refused_path text text (fault.BadPart at) (line_fault (fault.BadPart at)) refl refl f (path_text text utf8 h))
not_rel text fault.Long utf8 f n = no_rel text (λ h. refused_path text text fault.Long (line_fault fault.Long) refl refl f (path_text text utf8 h))
not_rel text fault.Memory utf8 f n = absurd (n refl)
