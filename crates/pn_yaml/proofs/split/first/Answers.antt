use Rattle.std.proofs.Common.{ℕ, List, ◌≤◌, ◌<◌, length, get_or, subst}
use Rattle.pn_yaml.proofs.Cutting.{behind_low}
use Rattle.pn_yaml.proofs.split.first.Goals as goal

pub split_at-requires : goal.split_at-requires
split_at-requires c = behind_low c.args.text.now c.utf8.text
    (subst (λ (t : List ℕ). 1 ≤ length t) c.as_bytes.ensures.value c.in-len1-up.len_at_least)
    (subst (λ (t : List ℕ). get_or t 0 0 < 128) c.as_bytes.ensures.value c.if-b-lt128.true)
