use Rattle.std.proofs.Common.{◌≡◌, List, drop}
use Rattle.pn_spec.specs.declared.entry.CatalogEntry.{CatalogEntry}
use Rattle.pn_yaml.specs.View.{members_view}
use Rattle.pn_config.specs.CatalogValues.{AreEntries, HasBadEntry, puts}
use Rattle.pn_config.proofs.catalogs.put_entries.Given as goal

-- what is left leads from the catalogs so far to the whole
abbrev pub invariant-loop-key : goal.invariant-loop-key
invariant-loop-key l = record {
  left : (rest : List CatalogEntry) → AreEntries l.catalog (members_view (drop l.key-index l.members)) rest
      → (es : List CatalogEntry) × AreEntries l.catalog (members_view l.members) es × (puts es l.fn.catalogs ≡ puts rest l.catalogs);
  bad : HasBadEntry (members_view (drop l.key-index l.members)) → HasBadEntry (members_view l.members);
}
