use Rattle.std.proofs.Common.{◌++◌, ◌∷◌, [], ◌∙◌, ap, subst, sym, map}
use Rattle.pn_manifest.specs.Listed.{entry_pair}
use Rattle.pn_manifest.specs.Pairs.{IsRising}
use Rattle.pn_manifest.specs.declared.texts.Entry.{Entry}
use Rattle.pn_manifest.proofs.Rising.{rising_one}
use Rattle.pn_manifest.proofs.commands.own_bin.Goals as goal

pub of-requires-3 : goal.of-requires-3
of-requires-3 c =
    let one : Entry = record { key = c.in_ok-key.key; text = c.in_ok-text.text } in
    let is = c.in_ok-push.ensures.items ∙ ap (λ items. items ++ one ∷ []) c.new-all.ensures.items in
    subst (λ items. IsRising (map entry_pair items)) (sym is) (rising_one (entry_pair one))
