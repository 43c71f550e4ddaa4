use Rattle.std.proofs.Common.{◌≡◌, ◌<◌, ℕ, [], length, get_or}
use Rattle.std.specs.List.{All}
use Rattle.pn_lock_make.specs.Names.{AreNames}
use Rattle.pn_lock_make.specs.PassedOn.{ArePassed}
use Rattle.pn_lock_make.proofs.passed.all_passed.Given as goal

abbrev pub invariant-loop-n : goal.invariant-loop-n
invariant-loop-n l = record {
  count : length l.all.items ≡ l.n;
  each : (k : ℕ) → k < l.n → ArePassed l.plain.packages k (get_or l.all.items k []);
  named : All AreNames l.all.items;
}
