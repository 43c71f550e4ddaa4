use Rattle.std.proofs.lemmas.Slice.Zip.{either_empty_from_Zip}
use Rattle.std.specs.Iterator.Adapters.{zip_first, zip_second}
use Rattle.std.specs.Slice.Iter.{iter_rest}
use Rattle.std.specs.Prelude.{zip}
use Rattle.std.proofs.Common.{map}
use Rattle.pn_layout.specs.Near.{near_home, instance_to}
use Rattle.pn_layout.proofs.ZipLemmas.{zip_done}
use Rattle.pn_layout.proofs.parts.instances_of.Goals as goal

pub returns : goal.returns
returns c = zip_done (instance_to (near_home c.args.modules.now)) (iter_rest (zip_first c.packages.one-iterator)) (iter_rest (zip_second c.packages.one-iterator)) c.packages.all.items (map (instance_to (near_home c.args.modules.now)) (zip c.args.packages.now c.args.listings.now))
    (either_empty_from_Zip c.packages.one-iterator c.next.new.self c.next.result c.in-None.is c.next.ensures.steps) c.packages.invariant
