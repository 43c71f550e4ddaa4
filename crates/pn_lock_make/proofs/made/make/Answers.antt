use Rattle.std.proofs.Common.{◌∙◌, ℕ, List, map, ap, sym, subst, IsPermutation}
use Rattle.pn_lock.specs.Locks.{Locked, locked}
use Rattle.pn_graph.specs.declared.links.Package.{Package}
use Rattle.pn_instances.specs.declared.links.Link.{Link}
use Rattle.pn_lock_make.specs.Entries.{entries_of, uses_of}
use Rattle.pn_lock_make.specs.Importers.{importers_from}
use Rattle.pn_lock_make.specs.Made.{IsMade, override_of}
use Rattle.pn_lock_make.specs.Packages.{packages_from}
use Rattle.pn_lock_make.specs.Snapshots.{snapshots_from}
use Rattle.pn_lock_make.specs.Targets.{ranks_of}
use Rattle.pn_lock_make.proofs.FitLemmas.{fits}
use Rattle.pn_lock_make.proofs.WholeLemmas.{AreParts, few_keys, is_lock, is_made, ranked_roots}
use Rattle.pn_lock_make.proofs.made.make.Goals as goal

pub ranks_of-requires-clause-few : goal.ranks_of-requires-clause-few
ranks_of-requires-clause-few c = few_keys c.args.instances.now c.args.paths.now c.in_ok-keys.keys.items c.deref.result.now c.requires.paths_count c.in_ok-keys.ensures.same c.deref.ensures.value

pub importers-requires-clause-ranked : goal.importers-requires-clause-ranked
importers-requires-clause-ranked c =
    ranked_roots c.args.instances.now c.args.paths.now c.deref.result.now c.in_ok-ranks.ranks.items c.deref-4.result.now c.as_slice.result.now c.requires.paths_count c.in_ok-ranks.ensures c.deref-4.ensures.value c.as_slice.ensures

-- the parts, before the lock is made of them and after it
parts : (c : goal.After-auto_install_peers) → AreParts c.args.asked.now c.args.plain.now c.args.instances.now c.args.paths.now c.args.integrities.now
    (locked c.auto_install_peers.result c.in_ok-catalogs.catalogs c.in_ok-overrides.overrides c.in_ok-importers.importers c.in_ok-packages.packages c.in_ok-snapshots.snapshots)
parts c = record {
  keys = c.in_ok-keys.keys.items;
  keys_rise = c.in_ok-keys.ensures.rises;
  keys_same = c.in_ok-keys.ensures.same;
  ranks = c.in_ok-ranks.ranks.items;
  ranks_are = c.in_ok-ranks.ensures ∙ ap (λ (ks : List (List ℕ)). ranks_of ks c.args.paths.now) c.deref.ensures.value;
  passed = c.in_ok-passed.passed.items;
  passed_are = c.in_ok-passed.ensures.passed;
  auto = c.auto_install_peers.ensures;
  catalogs = c.in_ok-catalogs.ensures.made ∙ ap (entries_of (uses_of c.args.plain.now.projects c.args.plain.now.packages)) c.catalogs.ensures.list;
  catalogs_named = c.in_ok-catalogs.ensures.named;
  overrides = c.in_ok-overrides.ensures ∙ ap (map override_of) c.overrides.ensures.list;
  importers = c.in_ok-importers.ensures.made ∙ ap (λ (rs : List ℕ). importers_from rs c.as_slice.result.now 0 c.projects.result.now) c.deref-4.ensures.value
      ∙ ap (λ (ls : List (List Link)). importers_from c.in_ok-ranks.ranks.items ls 0 c.projects.result.now) c.as_slice.ensures
      ∙ ap (importers_from c.in_ok-ranks.ranks.items c.args.instances.now.roots 0) c.projects.ensures.list;
  importers_named = c.in_ok-importers.ensures.named;
  packages = subst (λ (ps : List Package). IsPermutation (packages_from c.args.integrities.now 0 ps) c.in_ok-packages.packages) c.as_slice-2.ensures c.in_ok-packages.ensures.made;
  packages_sorted = c.in_ok-packages.ensures.sorted;
  packages_named = c.in_ok-packages.ensures.named;
  snapshots = subst (λ (ps : List (List (List ℕ))). IsPermutation (snapshots_from c.args.plain.now.packages c.args.instances.now.packages c.args.instances.now.links c.in_ok-ranks.ranks.items ps 0 c.args.paths.now) c.in_ok-snapshots.snapshots)
      c.deref-3.ensures.value
      (subst (λ (rs : List ℕ). IsPermutation (snapshots_from c.args.plain.now.packages c.args.instances.now.packages c.args.instances.now.links rs c.deref-3.result.now 0 c.args.paths.now) c.in_ok-snapshots.snapshots)
      c.deref-2.ensures.value c.in_ok-snapshots.ensures.made);
  snapshots_sorted = c.in_ok-snapshots.ensures.sorted;
  snapshots_named = c.in_ok-snapshots.ensures.named;
}

pub of-requires : goal.of-requires
of-requires c = is_lock c.args.asked.now c.args.plain.now c.args.instances.now c.args.paths.now c.args.integrities.now (locked c.auto_install_peers.result c.in_ok-catalogs.catalogs c.in_ok-overrides.overrides c.in_ok-importers.importers c.in_ok-packages.packages c.in_ok-snapshots.snapshots)
    c.requires c.projects.ensures.kept c.catalogs.ensures.kept (parts c)

parts_after : (c : goal.After-drop-keys-2) → AreParts c.args.asked.now c.args.plain.now c.args.instances.now c.args.paths.now c.args.integrities.now
    (locked c.auto_install_peers.result c.in_ok-catalogs.catalogs c.in_ok-overrides.overrides c.in_ok-importers.importers c.in_ok-packages.packages c.in_ok-snapshots.snapshots)
parts_after c = record {
  keys = c.in_ok-keys.keys.items;
  keys_rise = c.in_ok-keys.ensures.rises;
  keys_same = c.in_ok-keys.ensures.same;
  ranks = c.in_ok-ranks.ranks.items;
  ranks_are = c.in_ok-ranks.ensures ∙ ap (λ (ks : List (List ℕ)). ranks_of ks c.args.paths.now) c.deref.ensures.value;
  passed = c.in_ok-passed.passed.items;
  passed_are = c.in_ok-passed.ensures.passed;
  auto = c.auto_install_peers.ensures;
  catalogs = c.in_ok-catalogs.ensures.made ∙ ap (entries_of (uses_of c.args.plain.now.projects c.args.plain.now.packages)) c.catalogs.ensures.list;
  catalogs_named = c.in_ok-catalogs.ensures.named;
  overrides = c.in_ok-overrides.ensures ∙ ap (map override_of) c.overrides.ensures.list;
  importers = c.in_ok-importers.ensures.made ∙ ap (λ (rs : List ℕ). importers_from rs c.as_slice.result.now 0 c.projects.result.now) c.deref-4.ensures.value
      ∙ ap (λ (ls : List (List Link)). importers_from c.in_ok-ranks.ranks.items ls 0 c.projects.result.now) c.as_slice.ensures
      ∙ ap (importers_from c.in_ok-ranks.ranks.items c.args.instances.now.roots 0) c.projects.ensures.list;
  importers_named = c.in_ok-importers.ensures.named;
  packages = subst (λ (ps : List Package). IsPermutation (packages_from c.args.integrities.now 0 ps) c.in_ok-packages.packages) c.as_slice-2.ensures c.in_ok-packages.ensures.made;
  packages_sorted = c.in_ok-packages.ensures.sorted;
  packages_named = c.in_ok-packages.ensures.named;
  snapshots = subst (λ (ps : List (List (List ℕ))). IsPermutation (snapshots_from c.args.plain.now.packages c.args.instances.now.packages c.args.instances.now.links c.in_ok-ranks.ranks.items ps 0 c.args.paths.now) c.in_ok-snapshots.snapshots)
      c.deref-3.ensures.value
      (subst (λ (rs : List ℕ). IsPermutation (snapshots_from c.args.plain.now.packages c.args.instances.now.packages c.args.instances.now.links rs c.deref-3.result.now 0 c.args.paths.now) c.in_ok-snapshots.snapshots)
      c.deref-2.ensures.value c.in_ok-snapshots.ensures.made);
  snapshots_sorted = c.in_ok-snapshots.ensures.sorted;
  snapshots_named = c.in_ok-snapshots.ensures.named;
}

made : (c : goal.After-drop-keys-2) → IsMade c.args.asked.now c.args.plain.now c.args.instances.now c.args.paths.now c.args.integrities.now c.of.result
made c = subst (λ (l : Locked). IsMade c.args.asked.now c.args.plain.now c.args.instances.now c.args.paths.now c.args.integrities.now l) (sym c.of.ensures)
    (is_made c.args.asked.now c.args.plain.now c.args.instances.now c.args.paths.now c.args.integrities.now (locked c.auto_install_peers.result c.in_ok-catalogs.catalogs c.in_ok-overrides.overrides c.in_ok-importers.importers c.in_ok-packages.packages c.in_ok-snapshots.snapshots)
    c.requires (parts_after c))

pub returns-clause-made : goal.returns-clause-made
returns-clause-made c = made c

pub returns-clause-fits : goal.returns-clause-fits
returns-clause-fits c = fits c.args.asked.now c.args.plain.now c.args.instances.now c.args.paths.now c.args.integrities.now c.of.result c.projects.ensures.kept (made c)
