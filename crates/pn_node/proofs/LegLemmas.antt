-- Lemmas on the legs of a walk.
use Rattle.std.proofs.Common.{◌≡◌, ℕ, ◌-◌, ◌<◌, List, [], ◌∷◌, ◌++◌, refl, sym, ap, ◌∙◌, Some, None, zero, suc, arith}
use Rattle.std.specs.Prelude.{Option}
use Rattle.pn_text.specs.Path.{Path}
use Rattle.pn_fs.specs.Tree.{folder, file, link, Tree}
use Rattle.pn_node.specs.Find.{Step, into, at_entry, at_file, led, walk_on, walk}
use Rattle.pn_node.specs.Steps.{step_of, steps_of}
use Rattle.pn_node.specs.Legs.{Again, ends, goes, EndsAt, Goes, IsMet, met_goes, GoesFrom}
use Rattle.pn_node.specs.declared.step.Step.{Step as TheStep}
use Rattle.pn_node.specs.declared.walk.Leg.{Leg}
use Rattle.pn_node.specs.declared.walk.Leg.TheVariants.{There, Nowhere, Onward}
use Rattle.pn_node.specs.declared.entry.Met.{Met}
use Rattle.pn_node.specs.declared.entry.Met.TheVariants.{Nothing, Folder, File, Link}
use Rattle.pn_node.proofs.StepTexts.{pushed}

entered : (again : Again) (t : Tree) (p : Path) (x : List ℕ) (steps : List Step) (e : Option _) → t (x ∷ p) ≡ e
    → walk_on again t p (into x ∷ steps) ≡ at_entry e None (walk_on again t (x ∷ p) steps) (at_file (x ∷ p) steps) (λ text. led again p text steps)
entered again t p x steps e is = ap (λ e. at_entry e None (walk_on again t (x ∷ p) steps) (at_file (x ∷ p) steps) (λ text. led again p text steps)) is

-- a step into an entry goes on at what stands there
meets : (again : Again) (t : Tree) (p : Path) (x : List ℕ) (steps : List Step) (met : Met) → IsMet t p x met → walk_on again t p (into x ∷ steps) ≡ met_goes again t p steps met
meets again t p x steps Nothing is = entered again t p x steps None is
meets again t p x steps (Folder q) is = entered again t p x steps (Some folder) is.1 ∙ ap (λ r. walk_on again t r steps) (sym is.0)
meets again t p x steps (File q) is = entered again t p x steps (Some (file is.1.0)) is.1.1 ∙ ap (λ r. at_file r steps) (sym is.0)
meets again t p x steps (Link text) is = entered again t p x steps (Some (link text)) is

pub into_goes : (t : Tree) (p : Path) (x : List ℕ) (steps : List Step) (met : Met) (q : Path) (left : List Step) (leg : Option Leg) → IsMet t p x met → GoesFrom p met steps q left leg → Goes t p (into x) steps q left leg
into_goes t p x steps met q left leg is from again = meets again t p x steps met is ∙ from again t

-- what a place and the steps behind it come to is that of a later place
abbrev pub IsLeft : Tree → Path → List TheStep → Path → List TheStep → Type 0
IsLeft t p old at left = (again : Again) → walk_on again t p (steps_of old) ≡ walk_on again t at (steps_of left)

popped : (t : Tree) (p : Path) (old : List TheStep) (at : Path) (left rest : List TheStep) (x : TheStep) (q : Path) (new : List TheStep) (leg : Option Leg) → IsLeft t p old at left
    → left ≡ rest ++ x ∷ [] → Goes t at (step_of x) (steps_of rest) q (steps_of new) leg → (again : Again) → walk_on again t p (steps_of old) ≡ goes again t q (steps_of new) leg
popped t p old at left rest x q new leg so_far pop on again = so_far again ∙ ap (walk_on again t at) (pushed rest left x pop) ∙ on again

-- A step that ends no leg leaves the rest of the walk.
pub leg_on : (t : Tree) (p : Path) (old : List TheStep) (at : Path) (left rest : List TheStep) (x : TheStep) (q : Path) (new : List TheStep) (leg : Option Leg) → IsLeft t p old at left
    → left ≡ rest ++ x ∷ [] → Goes t at (step_of x) (steps_of rest) q (steps_of new) leg → leg ≡ None → IsLeft t p old q new
leg_on t p old at left rest x q new leg so_far pop on none again = popped t p old at left rest x q new leg so_far pop on again ∙ ap (goes again t q (steps_of new)) none

pub leg_ends : (t : Tree) (p : Path) (old : List TheStep) (at : Path) (left rest : List TheStep) (x : TheStep) (q : Path) (new : List TheStep) (met : Option Leg) (leg : Leg) → IsLeft t p old at left
    → left ≡ rest ++ x ∷ [] → Goes t at (step_of x) (steps_of rest) q (steps_of new) met → met ≡ Some leg → EndsAt t p (steps_of old) q (steps_of new) leg
leg_ends t p old at left rest x q new met leg so_far pop on some again = popped t p old at left rest x q new met so_far pop on again ∙ ap (goes again t q (steps_of new)) some

-- a walk over one link less
pub one_less : (links : ℕ) (t : Tree) → 0 < links → walk links t ≡ walk_on (walk (links - 1) t) t
one_less zero t h = absurd (omega arith)
one_less (suc links) t h = ap (λ n. walk_on (walk n t) t) (let e : links ≡ suc links - 1 = omega arith in e)

-- any number of links
some_again : (links : ℕ) (t : Tree) → (again : Again) × (walk links t ≡ walk_on again t)
some_again zero t = (λ q left. None, refl)
some_again (suc links) t = (walk links t, refl)

pub walk_there : (links : ℕ) (t : Tree) (p : Path) (steps : List Step) (q : Path) (left : List Step) (leg : Leg) → EndsAt t p steps q left leg → leg ≡ There → walk links t p steps ≡ Some q
walk_there links t p steps q left leg ended is = let w = some_again links t in ap (λ f. f p steps) w.1 ∙ ended w.0 ∙ ap (ends w.0 q left) is

pub walk_nowhere : (links : ℕ) (t : Tree) (p : Path) (steps : List Step) (q : Path) (left : List Step) (leg : Leg) → EndsAt t p steps q left leg → leg ≡ Nowhere → walk links t p steps ≡ None
walk_nowhere links t p steps q left leg ended is = let w = some_again links t in ap (λ f. f p steps) w.1 ∙ ended w.0 ∙ ap (ends w.0 q left) is

pub walk_onward : (links : ℕ) (t : Tree) (p : Path) (steps : List Step) (q : Path) (left : List Step) (leg : Leg) → EndsAt t p steps q left leg → leg ≡ Onward → 0 < links → walk links t p steps ≡ walk (links - 1) t q left
walk_onward links t p steps q left leg ended is some = ap (λ f. f p steps) (one_less links t some) ∙ ended (walk (links - 1) t) ∙ ap (ends (walk (links - 1) t) q left) is
