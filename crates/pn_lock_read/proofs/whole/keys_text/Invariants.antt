use Rattle.std.proofs.Common.{◌≡◌, length}
use Rattle.std.specs.Prelude.{reverse, string_bytes}
use Rattle.pn_lock_read.specs.LockTexts.{keys_text}
use Rattle.pn_lock_read.proofs.KeyTextLemmas.{join_more}
use Rattle.pn_lock_read.proofs.whole.keys_text.Given as goal

-- the keys that are left follow the text
abbrev pub invariant-keys : goal.invariant-keys
invariant-keys l = join_more (string_bytes l.text) (reverse l.left) ≡ keys_text l.fn.keys

abbrev pub decreases-keys : goal.decreases-keys
decreases-keys l = length l.left
