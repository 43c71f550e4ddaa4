use Rattle.std.proofs.Common.{◌≡◌, ◌++◌, length, IsTrue}
use Rattle.pn_text.specs.Path.{is_path}
use Rattle.pn_config.proofs.folder.descend.Given as goal

abbrev pub invariant-parts : goal.invariant-parts
invariant-parts l = record {
  good : IsTrue (is_path l.left.items);
  same : l.left.items ++ l.at ≡ l.fn.parts.items ++ l.fn.from;
}

abbrev pub decreases-parts : goal.decreases-parts
decreases-parts l = length l.left.items
