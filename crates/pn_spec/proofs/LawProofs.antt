-- The laws of specifiers.
use Rattle.std.proofs.Common.{◌≡◌, ℕ, true, false, List, [], ◌∷◌, ◌++◌, refl, sym, ap, ◌∙◌, subst, inl, inr}
use Rattle.std.specs.Prelude.{◌==◌, ◌⊎◌, codes}
use Rattle.std.specs.List.{list_all}
use Rattle.std.proofs.lemmas.Bool.{and_parts, cases_Bool, eqb-false}
use Rattle.pn_ranges.proofs.Unreads.{later-rest}
use Rattle.pn_ranges.specs.Bytes.{behind, is_space}
use Rattle.pn_ranges.specs.Grammar.{AreSpaces}
use Rattle.pn_spec.specs.declared.spec.Spec.{Spec}
use Rattle.pn_spec.specs.declared.spec.Spec.TheVariants as spec
use Rattle.pn_spec.specs.Forms.{IsForm}
use Rattle.pn_spec.specs.Laws.{Form, FormLaw, SpaceLaw, form_of, workspace, catalog, alias, bare}
use Rattle.pn_spec.specs.Ranges.{has_foreign}
use Rattle.pn_spec.specs.Tags.{is_tag}
use Rattle.pn_spec.specs.SpecTexts.{before_trimmed, trim_end, trimmed}
use Rattle.pn_spec.proofs.Foreign.{foreign}

-- spaces at both ends
end-none : (r : List ℕ) → AreSpaces r → trim_end r ≡ []
end-none [] h = refl
end-none (b ∷ r) h = ap (before_trimmed b) (end-none r (and_parts (is_space b) (list_all is_space r) h).1) ∙ rw (and_parts (is_space b) (list_all is_space r) h).0 refl

end-drop : (t r : List ℕ) → AreSpaces r → trim_end (t ++ r) ≡ trim_end t
end-drop [] r h = end-none r h
end-drop (b ∷ t) r h = ap (before_trimmed b) (end-drop t r h)

behind-none : (r : List ℕ) → AreSpaces r → behind is_space r ≡ []
behind-none [] h = refl
behind-none (b ∷ r) h = rw (and_parts (is_space b) (list_all is_space r) h).0 (behind-none r (and_parts (is_space b) (list_all is_space r) h).1)

inner-drop : (t r : List ℕ) → AreSpaces r → trimmed (t ++ r) ≡ trimmed t
inner-drop [] r h = ap trim_end (behind-none r h)
inner-drop (b ∷ t) r h = elim (cases_Bool (is_space b)) [
  | inl hit ↦ rw hit (inner-drop t r h)
  | inr miss ↦ rw miss (end-drop (b ∷ t) r h)
]

trimmed-same : (s t r : List ℕ) → AreSpaces s → AreSpaces r → trimmed (s ++ (t ++ r)) ≡ trimmed t
trimmed-same s t r h k = ap trim_end (later-rest s (t ++ r) h) ∙ inner-drop t r k

pub space : SpaceLaw
space s t r x h k = (subst (λ u. IsForm u x) (trimmed-same s t r h k), subst (λ u. IsForm u x) (sym (trimmed-same s t r h k)))

-- what a text of a form begins with
Begins : List ℕ → Form → Type 0
Begins t workspace = (rest : List ℕ) × (t ≡ codes "workspace:" ++ rest)
Begins t catalog = (rest : List ℕ) × (t ≡ codes "catalog:" ++ rest)
Begins t alias = (rest : List ℕ) × (t ≡ codes "npm:" ++ rest)
Begins t bare = (has_foreign t ≡ false) ⊎ (is_tag t ≡ true)

begins : (t : List ℕ) (x : Spec) → IsForm t x → Begins t (form_of x)
unfolding Begins
begins t (spec.Workspace w) h = (h.0, h.1)
begins t (spec.Catalog n) h = (h.0, h.1)
begins t (spec.Alias n w) h = (h.0, h.1)
begins t (spec.Range r) h = inl (foreign t r h)
begins t (spec.Tag n) h = inr h.bytes

differ : (t a b : List ℕ) (x y : ℕ) → t ≡ x ∷ a → t ≡ y ∷ b → (x == y) ≡ false → ⊥
differ t a b x y e f h = let same : x ≡ y = cc (e, f) in eqb-false x y h same

-- a text with a `:` is neither a range nor a tag
bare-not : (t : List ℕ) → (has_foreign t ≡ false) ⊎ (is_tag t ≡ true) → has_foreign t ≡ true → is_tag t ≡ false → ⊥
bare-not t (inl h) c d = let off : true ≡ false = sym c ∙ h in cc off
bare-not t (inr h) c d = let off : true ≡ false = sym h ∙ d in cc off

one-form : (t : List ℕ) (f g : Form) → Begins t f → Begins t g → f ≡ g
unfolding Begins
one-form t workspace workspace h k = refl
one-form t workspace catalog h k = absurd (differ t _ _ 119 99 h.1 k.1 refl)
one-form t workspace alias h k = absurd (differ t _ _ 119 110 h.1 k.1 refl)
one-form t workspace bare h k = absurd (bare-not t k (ap has_foreign h.1) (ap is_tag h.1))
one-form t catalog workspace h k = absurd (differ t _ _ 99 119 h.1 k.1 refl)
one-form t catalog catalog h k = refl
one-form t catalog alias h k = absurd (differ t _ _ 99 110 h.1 k.1 refl)
one-form t catalog bare h k = absurd (bare-not t k (ap has_foreign h.1) (ap is_tag h.1))
one-form t alias workspace h k = absurd (differ t _ _ 110 119 h.1 k.1 refl)
one-form t alias catalog h k = absurd (differ t _ _ 110 99 h.1 k.1 refl)
one-form t alias alias h k = refl
one-form t alias bare h k = absurd (bare-not t k (ap has_foreign h.1) (ap is_tag h.1))
one-form t bare workspace h k = absurd (bare-not t h (ap has_foreign k.1) (ap is_tag k.1))
one-form t bare catalog h k = absurd (bare-not t h (ap has_foreign k.1) (ap is_tag k.1))
one-form t bare alias h k = absurd (bare-not t h (ap has_foreign k.1) (ap is_tag k.1))
one-form t bare bare h k = refl

pub form : FormLaw
form t x y h k = one-form t (form_of x) (form_of y) (begins t x h) (begins t y k)
