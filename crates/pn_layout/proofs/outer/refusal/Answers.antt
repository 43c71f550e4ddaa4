use Rattle.std.proofs.Common.{[], ◌∷◌, ◌∙◌, List, ap, subst}
use Rattle.std.specs.Prelude.{Option}
use Rattle.pn_text.specs.Path.{Path}
use Rattle.pn_digest.specs.declared.planned.Planned.{Planned}
use Rattle.pn_draft.specs.Drawing.{IsFirstLong}
use Rattle.pn_draft.specs.Entries.{drawing}
use Rattle.pn_package.specs.Links.{Pair}
use Rattle.pn_layout.specs.Places.{outer_leaves}
use Rattle.pn_layout.proofs.OuterLemmas.{outer_long, long_outer}
use Rattle.pn_layout.proofs.outer.refusal.Goals as goal

pub unreachable-requires : goal.unreachable-requires
unreachable-requires c =
    let is = c.in-Ok.ensures ∙ ap (λ (ls : List Pair). drawing (c.args.modules.now ∷ []) (outer_leaves c.args.modules.now ls c.args.packages.now)) c.as_slice.ensures.pairs in
    outer_long c.args.modules.now c.args.direct.now c.args.packages.now c.requires.direct c.requires.long (λ q w h. c.in-Ok-finish.ensures.short q w (ap (λ (f : Path → Option Planned). f q) is ∙ h))

pub returns-in-Err-TooLong : goal.returns-in-Err-TooLong
returns-in-Err-TooLong c = λ listings listed.
    let is = c.in-Ok.ensures ∙ ap (λ (ls : List Pair). drawing (c.args.modules.now ∷ []) (outer_leaves c.args.modules.now ls c.args.packages.now)) c.as_slice.ensures.pairs in
    long_outer c.args.modules.now c.args.direct.now c.args.packages.now listings c.in-Err-TooLong.size c.requires.direct c.requires.sound listed c.requires.long
    (subst (λ (f : Path → Option Planned). IsFirstLong f c.in-Err-TooLong.size) is (rw c.in-Err-TooLong.field-0-is at c.in-Err-TooLong.ensures.fault))
