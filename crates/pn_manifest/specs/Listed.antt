-- What the members of lists are seen as.
use Rattle.pn_manifest.specs.Pairs.{Pair}
use Rattle.pn_manifest.specs.declared.dependencies.Dependency.{Dependency}
use Rattle.pn_manifest.specs.declared.texts.Entry.{Entry}

abbrev pub pair_of : Dependency → Pair
pair_of d = (d.name, d.specifier)

abbrev pub entry_pair : Entry → Pair
entry_pair e = (e.key, e.text)
