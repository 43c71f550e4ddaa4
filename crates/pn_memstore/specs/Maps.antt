-- The world that maps keep.
use Rattle.std.specs.Prelude.{ℕ, List, Option}
use Rattle.std.specs.Option.{option_map}
use Rattle.std.specs.Cmp.Lexicographic.{slice_cmp}
use Rattle.std.specs.Ordering.{nat_cmp}
use Rattle.std.specs.BTreeMap.{BTreeMap, get}
use Rattle.pn_storecore.specs.World.{Temp, Temps}
use Rattle.pn_memstore.specs.declared.folder.Folder.{Folder}

abbrev pub temp_in : Folder → Temp
temp_in f = record { owner = f.owner; files = get nat_cmp f.files }

abbrev pub temps_in : BTreeMap ℕ Folder → Temps
temps_in m k = option_map temp_in (get nat_cmp m k)

abbrev pub bytes_in : BTreeMap (List ℕ) (List ℕ) → List ℕ → Option (List ℕ)
bytes_in m at = get (slice_cmp nat_cmp) m at
