-- Lemmas on the steps that texts stand for.
use Rattle.std.proofs.Common.{◌≡◌, ℕ, List, [], ◌∷◌, ◌++◌, length, refl, sym, ap, ◌∙◌, false, Some, None}
use Rattle.std.specs.Prelude.{Option, ◌==◌, IsTrue}
use Rattle.pn_text.specs.Path.{Path, is_flat, tail_of}
use Rattle.pn_text.proofs.Paths.{not_true, parts_from-flat}
use Rattle.pn_node.specs.Find.{Step, text_steps, before_steps, at_file}
use Rattle.pn_node.specs.Steps.{step_of, step_before, steps_before, steps_of, IsStepOf}
use Rattle.pn_node.specs.declared.step.Step.{Step as TheStep}
use Rattle.pn_text.proofs.Cuts.{parts_cut}

pub put_cut : (front rest part : List ℕ) (old new : List Step) → front ≡ rest ++ 47 ∷ part → IsTrue (is_flat part) → new ≡ before_steps part old → text_steps (tail_of rest) new ≡ text_steps (tail_of front) old
put_cut front rest part old new cut flat is =
    ap (text_steps (tail_of rest)) is ∙ ap (λ p. text_steps p old) (sym (parts_cut front rest part cut flat))

pub put_last : (front : List ℕ) (old : List Step) → IsTrue (is_flat front) → before_steps front old ≡ text_steps (tail_of front) old
put_last front old flat = ap (λ p. text_steps p old) (sym (parts_from-flat front [] [] (not_true _ flat)))

-- the step that stands last comes first
snoc : (xs : List TheStep) (x : TheStep) (steps : List Step) → steps_before (xs ++ x ∷ []) steps ≡ step_of x ∷ steps_before xs steps
snoc [] x steps = refl
snoc (y ∷ xs) x steps = snoc xs x (step_of y ∷ steps)

pub pushed : (old new : List TheStep) (x : TheStep) → new ≡ old ++ x ∷ [] → steps_of new ≡ step_of x ∷ steps_of old
pushed old new x is = ap steps_of is ∙ snoc old x []

pub put_pushed : (part : List ℕ) (old new : List TheStep) (read : Option TheStep) (x : TheStep) → IsStepOf part read → read ≡ Some x → new ≡ old ++ x ∷ [] → steps_of new ≡ before_steps part (steps_of old)
put_pushed part old new read x of some is = pushed old new x is ∙ ap (λ r. step_before r (steps_of old)) (sym some) ∙ sym (of (steps_of old))

-- a walk with steps left doesn't end at a file
goes_past : (p : Path) (xs : List TheStep) (s : Step) (steps : List Step) → at_file p (steps_before xs (s ∷ steps)) ≡ None
goes_past p [] s steps = refl
goes_past p (x ∷ xs) s steps = goes_past p xs (step_of x) (s ∷ steps)

pub file_stops : (p : Path) (xs : List TheStep) → (length xs == 0) ≡ false → at_file p (steps_of xs) ≡ None
file_stops p [] h = cc
file_stops p (x ∷ xs) h = goes_past p xs (step_of x) []
