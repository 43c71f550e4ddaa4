use Rattle.std.proofs.Common.{◌≡◌, ℕ, List, [], ◌∷◌, ◌+◌, ◌-◌, sym, ap, ◌∙◌, arith, subst}
use Rattle.std.specs.Prelude.{MatchOption, Option}
use Rattle.pn_text.specs.Path.{Path}
use Rattle.pn_text.specs.Relative.{above}
use Rattle.pn_config.proofs.WayLemmas.{above_root, climbed}
use Rattle.pn_config.proofs.folder.climb.Goals as goal

pub returns-in-None : goal.returns-in-None
returns-in-None c =
    let at : c.loop.at ≡ [] = subst (λ (o : Option Path). MatchOption o (c.loop.at ≡ []) (λ p. (x : List ℕ) × (c.loop.at ≡ x ∷ p))) c.in-None.is c.in_ok-folder.ensures in
    at ∙ sym (above_root (c.args.ups - c.loop.counter)) ∙ sym (ap (above (c.args.ups - c.loop.counter)) at) ∙ c.loop.invariant

pub loop-preserved : goal.loop-preserved
loop-preserved c =
    let l = c.loop-test.true in
    let at : (x : List ℕ) × (c.loop.at ≡ x ∷ c.in-Some.parent) = subst (λ (o : Option Path). MatchOption o (c.loop.at ≡ []) (λ p. (x : List ℕ) × (c.loop.at ≡ x ∷ p))) c.in-Some.is c.in_ok-folder.ensures in
    climbed (c.args.ups - c.loop.counter) (c.args.ups - (c.loop.counter + 1)) at.0 c.loop.at c.in-Some.parent (omega (arith, l)) at.1 ∙ c.loop.invariant
