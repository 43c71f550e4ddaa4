use Rattle.std.proofs.Common.{◌≡◌, drop, codes}
use Rattle.pn_yaml.specs.View.{members_view}
use Rattle.pn_config.specs.CatalogValues.{has_key}
use Rattle.pn_config.proofs.catalogs.has_default.Given as goal

abbrev pub invariant-loop-key : goal.invariant-loop-key
invariant-loop-key l = has_key (codes "default") (members_view (drop l.key-index l.members)) ≡ has_key (codes "default") (members_view l.members)
