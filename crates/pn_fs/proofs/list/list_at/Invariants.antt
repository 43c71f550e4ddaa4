use Rattle.std.proofs.Common.{◌≡◌, ◌++◌, string_bytes}
use Rattle.pn_fs.proofs.Listings.{names_in}
use Rattle.pn_fs.proofs.list.list_at.Given as goal

abbrev pub invariant-loop-key : goal.invariant-loop-key
invariant-loop-key l = l.names.items ++ names_in (string_bytes l.front) l.key-iterator ≡ names_in (string_bytes l.front) l.initial.key-iterator
