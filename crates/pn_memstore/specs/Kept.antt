-- The world that a store in memory keeps.
use Rattle.std.specs.Prelude.{false, slice_index_or}
use Rattle.pn_storecore.specs.World.{Objects, World}
use Rattle.pn_memstore.specs.Maps.{temps_in, bytes_in}
use Rattle.pn_memstore.specs.declared.objects.ObjectMap.{ObjectMap}
use Rattle.pn_memstore.specs.declared.world.StoreWorld.{StoreWorld}

abbrev pub objects_in : ObjectMap → Objects
objects_in o = record { shards = λ first. slice_index_or o.shards first false; bytes = bytes_in o.bytes }

abbrev pub world_in : StoreWorld → World
world_in w = record { files = objects_in w.files; listings = objects_in w.listings; temps = temps_in w.temps }
