use Rattle.std.proofs.Common.{◌≡◌, ◌++◌, map}
use Rattle.std.specs.Iterator.Adapters.{zip_first, zip_second}
use Rattle.std.specs.Prelude.{zip}
use Rattle.std.specs.Slice.Iter.{iter_rest}
use Rattle.pn_layout.specs.Near.{near_home, instance_to}
use Rattle.pn_layout.proofs.parts.instances_of.Given as goal

abbrev pub invariant-packages : goal.invariant-packages
invariant-packages l = l.all.items ++ map (instance_to (near_home l.modules)) (zip (iter_rest (zip_first l.one-iterator)) (iter_rest (zip_second l.one-iterator))) ≡ map (instance_to (near_home l.modules)) (zip l.packages l.listings)
