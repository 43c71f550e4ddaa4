use Rattle.std.proofs.Common.{List, subst}
use Rattle.std.specs.List.{Contains}
use Rattle.pn_text.proofs.Members.{none_in}
use Rattle.pn_components.specs.declared.walk.Part.{Part}
use Rattle.pn_components.proofs.walk.Walk.visit.Goals as goal

pub enter-requires-clause-reached : goal.enter-requires-clause-reached
enter-requires-clause-reached c = λ i lt.
    let k = c.requires.walk.covered i lt in
    absurd (none_in k.0 (subst (λ (p : List Part). Contains p k.0) c.requires.none k.1))
