use Rattle.std.proofs.Common.{ap, ◌∙◌}
use Rattle.std.specs.Prelude.{string_bytes, ◌||◌}
use Rattle.std.specs.BTreeSet.{contains_text}
use Rattle.std.specs.Str.{bytes_eq}
use Rattle.std.proofs.lemmas.Map.Text.{btree_set_updates_text}
use Rattle.pn_digest.proofs.folders.add.Goals as goal
use Rattle.pn_text.proofs.Bools.{or_cond}

pub returns-in_ok-insert : goal.returns-in_ok-insert
returns-in_ok-insert c = λ t.
    btree_set_updates_text (string_bytes c.in_ok-from_str.field-0) c.args.texts.now c.insert.new.self _ c.in_ok-insert.ensures.updates t
    ∙ or_cond (bytes_eq (string_bytes c.in_ok-from_str.field-0) t) (contains_text c.args.texts.now t)
    ∙ ap (λ s. bytes_eq s t || contains_text c.args.texts.now t) c.in_ok-from_str.ensures.ok
