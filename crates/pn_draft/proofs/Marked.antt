-- Lemmas on what is marked at a path.
use Rattle.std.proofs.Common.{◌≡◌, ℕ, ◌⊎◌, inl, inr, List, ◌∷◌, refl, sym, ap, ◌∙◌, true, false, Some, None}
use Rattle.std.specs.Prelude.{IsTrue, IsSome, is_some, ◌||◌, if◌then◌else◌}
use Rattle.std.specs.Map.{update}
use Rattle.std.specs.Str.{bytes_eq}
use Rattle.std.proofs.lemmas.Slice.Eq.{bytes_eq-Decides}
use Rattle.std.specs.Bool.{one_answer}
use Rattle.pn_text.specs.Path.{Path, same_path, is_part, is_path, text_below}
use Rattle.pn_text.proofs.Paths.{same_path-Decides, and_right, below_one}
use Rattle.pn_digest.specs.declared.planned.Planned.{Planned}
use Rattle.pn_draft.specs.Drawing.{is_below, is_within}
use Rattle.pn_draft.specs.Sheets.{Sheet, marked}

same_below : (p q : Path) → IsTrue (is_path p) → IsTrue (is_path q) → bytes_eq (text_below p) (text_below q) ≡ same_path p q
same_below p q h k = one_answer {P = p ≡ q} _ _ ((λ e. below_one p q h k ((bytes_eq-Decides (text_below p) (text_below q)).0 e)), (λ e. (bytes_eq-Decides (text_below p) (text_below q)).1 (ap text_below e))) (same_path-Decides p q)

-- what is no path is another one
no_path : (p q : Path) → IsTrue (is_path p) → is_path q ≡ false → same_path p q ≡ false
no_path p q good bad = elim (same_path p q) as (λ b. (b ≡ true → p ≡ q) → b ≡ false) [
  | true ↦ λ one. let clash : true ≡ false = sym good ∙ ap is_path (one refl) ∙ bad in cc
  | false ↦ λ one. refl
] (same_path-Decides p q).0

-- what is marked after one more mark
pub marked_update : (g : Sheet) (p : Path) (w : Planned) (q : Path) → IsTrue (is_path p) → marked (update bytes_eq g (text_below p) (Some w)) q ≡ (if same_path p q then Some w else marked g q)
marked_update g p w q good = elim (is_path q) as (λ b. is_path q ≡ b → (if b then (if bytes_eq (text_below p) (text_below q) then Some w else g (text_below q)) else None) ≡ (if same_path p q then Some w else if b then g (text_below q) else None)) [
  | true ↦ λ is. ap (λ s. if s then Some w else g (text_below q)) (same_below p q good is)
  | false ↦ λ bad. ap (λ s. if s then Some w else None) (sym (no_path p q good bad))
] refl

pub tail_path : (x : List ℕ) (p : Path) → IsTrue (is_path (x ∷ p)) → IsTrue (is_path p)
tail_path x p h = and_right (is_part x) (is_path p) h

-- at or below: here, or in the folder
pub within_cases : (m v : Path) → is_within m v ≡ true → (v ≡ m) ⊎ (is_below m v ≡ true)
within_cases m v h = elim (same_path v m) as (λ b. same_path v m ≡ b → (b || is_below m v) ≡ true → (v ≡ m) ⊎ (is_below m v ≡ true)) [
  | true ↦ λ yes h. inl ((same_path-Decides v m).0 yes)
  | false ↦ λ other h. inr h
] refl h

-- a path that isn't marked isn't the marked folder, so it is in a folder below it
pub strictly : (g : Sheet) (m v : Path) → IsSome (marked g m) → marked g v ≡ None → is_within m v ≡ true → is_below m v ≡ true
strictly g m v some none h = elim (within_cases m v h) [
  | inl e ↦ let clash : true ≡ false = sym some ∙ ap (λ q. is_some (marked g q)) (sym e) ∙ ap is_some none in cc
  | inr b ↦ b
]
