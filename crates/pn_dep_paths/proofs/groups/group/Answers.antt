use Rattle.std.proofs.Common.{◌≡◌, ℕ, List, ap, ◌∙◌, length, subst}
use Rattle.pn_text.proofs.Results.{if_ok}
use Rattle.pn_outer.specs.declared.instance.Goal.{Goal}
use Rattle.pn_outer.specs.Instances.{IsThere}
use Rattle.pn_dep_paths.specs.BaseTexts.{in_parentheses}
use Rattle.pn_dep_paths.specs.Steps.{group_of}
use Rattle.pn_dep_paths.proofs.GroupLemmas.{same_number}
use Rattle.pn_dep_paths.proofs.groups.group.Goals as goal

pub returns-then-numbers-j : goal.returns-then-numbers-j
returns-then-numbers-j c =
    let instances = c.args.instances.now in
    let text = c.as_str-then-numbers-j.result.now in
    if_ok {P = λ (g : List ℕ). g ≡ in_parentheses text} {Q = λ (g : List ℕ). g ≡ group_of c.args.folders.now instances c.args.numbers.now c.args.texts.now c.args.i c.args.pair.now} c.in_parentheses-then-numbers-j.result
    (λ g is. is ∙ ap in_parentheses (same_number c.args.folders.now instances c.args.numbers.now c.args.texts.now c.args.i c.args.pair.now c.in-Inst.j c.index-instances-j.result text c.in-Inst.is c.if-numbers-j.true c.as_str-then-numbers-j.ensures.text
    (subst (λ (g : Goal). IsThere (length instances) (length c.args.folders.now) g) c.in-Inst.is c.requires.there)))
    c.in_parentheses-then-numbers-j.ensures
