-- What a link is seen as.
use Rattle.pn_package.specs.Links.{Pair}
use Rattle.pn_package.specs.declared.links.Link.{Link}

abbrev pub pair_of : Link → Pair
pair_of l = (l.alias, l.to)
