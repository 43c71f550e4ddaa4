use Rattle.std.proofs.Common.{◌≡◌, map, take}
use Rattle.pn_instances.specs.Singles.{package_links}
use Rattle.pn_instances.proofs.singles.links_of_packages.Given as goal

abbrev pub invariant-loop-package : goal.invariant-loop-package
invariant-loop-package l = l.lists.items ≡ map package_links (take l.package-index l.packages)
