-- What contracts see of what is published.
use Rattle.std.specs.Prelude.{option_map}
use Rattle.pn_published.specs.Listed.{number}
use Rattle.pn_published.specs.Shelves.{Shelf}
use Rattle.pn_published.specs.declared.published.Published.{Published}

abbrev pub shelf_of : Published → Shelf
shelf_of p = record { versions = p.versions; latest = option_map number p.latest; tags = p.tags }
