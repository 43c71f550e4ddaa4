use Rattle.std.proofs.Common.{[], ◌∷◌, ◌++◌, length, option_map, ◌∙◌, ap, sym}
use Rattle.pn_text.specs.Path.{text_below}
use Rattle.pn_text.specs.Relative.{dots, slashes}
use Rattle.pn_lock_print.specs.FolderParts.{parts_left}
use Rattle.pn_lock_print.proofs.PartLemmas.{parts_length}
use Rattle.pn_lock_print.proofs.link.steps_up.Goals as goal

pub returns : goal.returns
returns c =
    c.in_ok-push_str.ensures.bytes ∙ ap (λ t. t ++ 47 ∷ 46 ∷ 46 ∷ []) (c.in_ok-steps.ensures ∙ ap (λ t. text_below (dots (slashes t))) c.as_bytes.ensures.value)
    ∙ sym (ap (λ o. text_below (dots (length (parts_left (option_map (λ t. t.now) o))))) c.in-Some.is ∙ ap (λ n. text_below (dots n)) (parts_length c.in-Some.folder.now))
