use Rattle.std.proofs.Common.{◌≡◌, List, ℕ, true, sym, ◌∙◌, subst}
use Rattle.std.specs.List.{list_all}
use Rattle.pn_deppath.specs.Folders.{is_ascii}
use Rattle.pn_deppath.proofs.AsciiLemmas.{hash_ascii}
use Rattle.pn_deppath.proofs.groups.shortened.Goals as goal

pub text_of-requires : goal.text_of-requires
text_of-requires c = subst (λ (l : List ℕ). list_all is_ascii l ≡ true) (sym c.first_digits-digits.ensures) (hash_ascii c.as_bytes.result.now)
