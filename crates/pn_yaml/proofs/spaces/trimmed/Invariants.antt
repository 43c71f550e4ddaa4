use Rattle.std.proofs.Common.{◌≡◌, take}
use Rattle.std.specs.Str.{IsCharBoundary}
use Rattle.pn_yaml.specs.Bytes.{trimmed}
use Rattle.pn_yaml.proofs.spaces.trimmed.Given as goal

abbrev pub invariant-spaces : goal.invariant-spaces
invariant-spaces l = record {
  cut : IsCharBoundary l.fn.text l.end;
  same : trimmed l.fn.text ≡ trimmed (take l.end l.fn.text);
}

abbrev pub decreases-spaces : goal.decreases-spaces
decreases-spaces l = l.end
