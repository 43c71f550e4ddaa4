use Rattle.std.proofs.Common.{◌≡◌, List, drop}
use Rattle.pn_spec.specs.declared.entry.CatalogEntry.{CatalogEntry}
use Rattle.pn_yaml.specs.View.{members_view}
use Rattle.pn_config.specs.CatalogValues.{AreCatalogs, HasBadCatalog, puts}
use Rattle.pn_config.proofs.catalogs.put_each.Given as goal

-- what is left leads from the catalogs so far to the whole
abbrev pub invariant-loop-catalog : goal.invariant-loop-catalog
invariant-loop-catalog l = record {
  left : (rest : List CatalogEntry) → AreCatalogs (members_view (drop l.catalog-index l.members)) rest
      → (es : List CatalogEntry) × AreCatalogs (members_view l.members) es × (puts es l.fn.catalogs ≡ puts rest l.catalogs);
  bad : HasBadCatalog (members_view (drop l.catalog-index l.members)) → HasBadCatalog (members_view l.members);
}
