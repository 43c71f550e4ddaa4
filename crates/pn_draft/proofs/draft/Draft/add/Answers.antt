use Rattle.std.proofs.Common.{◌≡◌, ◌∙◌, ap, true, ◌++◌}
use Rattle.pn_text.specs.Path.{Path}
use Rattle.pn_draft.specs.Drawing.{Drawing, is_within, is_inside}
use Rattle.pn_draft.proofs.TopLemmas.{one_of}
use Rattle.pn_draft.proofs.Drawings.{placed, under, shows, shows_part}
use Rattle.pn_draft.proofs.draft.Draft.add.Goals as goal

pub draw-requires : goal.draw-requires
draw-requires c =
    let inside : is_inside c.self.inside.tops.items c.args.folder.now ≡ true = ap (λ (d : Drawing). is_inside d.tops c.args.folder.now) c.self.view_is ∙ c.requires.inside in
    let m = one_of (λ (m : Path). is_within m c.args.folder.now) c.self.inside.tops.items inside in
    under _ m.0 _ _ _ c.self.invariant m.1 (placed m.0 c.args.folder.now c.requires.tail.0 _ c.args.tail.now c.in-Ok.ensures.good m.2 (c.as_str.ensures.value ∙ c.in-Ok.ensures.text) c.requires.tail.1)

pub invariant_of-self : goal.invariant_of-self
invariant_of-self c =
    let inside : is_inside c.self.inside.tops.items c.args.folder.now ≡ true = ap (λ (d : Drawing). is_inside d.tops c.args.folder.now) c.self.view_is ∙ c.requires.inside in
    let m = one_of (λ (m : Path). is_within m c.args.folder.now) c.self.inside.tops.items inside in
    let p = placed m.0 c.args.folder.now c.requires.tail.0 _ c.args.tail.now c.in-Ok.ensures.good m.2 (c.as_str.ensures.value ∙ c.in-Ok.ensures.text) c.requires.tail.1 in
    (c.in-Ok-draw.ensures.ok c.self.inside.tops.items m.0 (c.requires.tail.0 ++ c.args.folder.now) c.self.invariant m.1 p.good p.spelled p.below).whole

pub returns-in-Ok-draw-clause-ok : goal.returns-in-Ok-draw-clause-ok
returns-in-Ok-draw-clause-ok c = λ t spells.
    let inside : is_inside c.self.inside.tops.items c.args.folder.now ≡ true = ap (λ (d : Drawing). is_inside d.tops c.args.folder.now) c.self.view_is ∙ c.requires.inside in
    let m = one_of (λ (m : Path). is_within m c.args.folder.now) c.self.inside.tops.items inside in
    let p = placed m.0 c.args.folder.now t _ c.args.tail.now c.in-Ok.ensures.good m.2 (c.as_str.ensures.value ∙ c.in-Ok.ensures.text) spells in
    shows c.self.inside.tops.items c.self.inside.marks c.draw.new.marks c.args.self.now (t ++ c.args.folder.now) c.args.what c.self.view_is
    (c.in-Ok-draw.ensures.ok c.self.inside.tops.items m.0 (t ++ c.args.folder.now) c.self.invariant m.1 p.good p.spelled p.below)

pub invariant_of-self-2 : goal.invariant_of-self-2
invariant_of-self-2 c =
    let inside : is_inside c.self.inside.tops.items c.args.folder.now ≡ true = ap (λ (d : Drawing). is_inside d.tops c.args.folder.now) c.self.view_is ∙ c.requires.inside in
    let m = one_of (λ (m : Path). is_within m c.args.folder.now) c.self.inside.tops.items inside in
    let p = placed m.0 c.args.folder.now c.requires.tail.0 _ c.args.tail.now c.in-Ok.ensures.good m.2 (c.as_str.ensures.value ∙ c.in-Ok.ensures.text) c.requires.tail.1 in
    (c.in-Err.ensures.err c.self.inside.tops.items m.0 (c.requires.tail.0 ++ c.args.folder.now) c.self.invariant m.1 p.good p.spelled p.below).whole

pub returns-clause-err : goal.returns-clause-err
returns-clause-err c = λ t spells.
    let inside : is_inside c.self.inside.tops.items c.args.folder.now ≡ true = ap (λ (d : Drawing). is_inside d.tops c.args.folder.now) c.self.view_is ∙ c.requires.inside in
    let m = one_of (λ (m : Path). is_within m c.args.folder.now) c.self.inside.tops.items inside in
    let p = placed m.0 c.args.folder.now t _ c.args.tail.now c.in-Ok.ensures.good m.2 (c.as_str.ensures.value ∙ c.in-Ok.ensures.text) spells in
    shows_part c.self.inside.tops.items c.self.inside.marks c.draw.new.marks c.args.self.now (t ++ c.args.folder.now) c.args.what c.self.view_is
    (c.in-Err.ensures.err c.self.inside.tops.items m.0 (t ++ c.args.folder.now) c.self.invariant m.1 p.good p.spelled p.below)
