use Rattle.std.proofs.Common.{◌∙◌, sym, subst}
use Rattle.pn_text.proofs.Results.{if_err, if_ok, on_ok}
use Rattle.pn_layout.specs.Layout.{Fits}
use Rattle.pn_tree.specs.Laws.{AreEntries}
use Rattle.pn_tree.specs.Sound.{IsSoundLayout}
use Rattle.pn_lock_layout.specs.Folders.{found_folder}
use Rattle.pn_lock_layout.specs.Layouts.{layout_to}
use Rattle.pn_lock_layout.proofs.ClosedLemmas.{closed}
use Rattle.pn_lock_layout.proofs.NearLemmas.{fits_is, made_is, ok_with, refused_near}
use Rattle.pn_lock_layout.proofs.SoundLemmas.{sound_layout}
use Rattle.pn_lock_layout.proofs.plan.planned.Goals as goal

pub layout-requires : goal.layout-requires
layout-requires c =
    let l = c.args.lock.now in
    let f = c.args.folders.now in
    let e = made_is l c.args.root.now c.args.store.now c.args.hoisted.now c.args.listings.now f c.importers.result.now c.importers-2.result.now c.deref-2.result.now c.deref-3.result.now c.deref-4.result.now c.importers.ensures.list c.importers-2.ensures.list
    (c.deref-2.ensures.value ∙ c.in_ok-managed.ensures) (c.deref-3.ensures.value ∙ c.in_ok-instances.ensures) (c.deref-4.ensures.value ∙ c.in_ok-tops.ensures) in
    subst IsSoundLayout (sym e) (sound_layout c.folder_law.ensures l c.args.root.now c.args.store.now c.args.hoisted.now c.importers.ensures.kept c.requires.placed (found_folder f) c.args.listings.now c.requires.listings)

pub returns-clause-entries : goal.returns-clause-entries
returns-clause-entries c =
    let l = c.args.lock.now in
    let f = c.args.folders.now in
    let e = made_is l c.args.root.now c.args.store.now c.args.hoisted.now c.args.listings.now f c.importers.result.now c.importers-2.result.now c.deref-2.result.now c.deref-3.result.now c.deref-4.result.now c.importers.ensures.list c.importers-2.ensures.list
    (c.deref-2.ensures.value ∙ c.in_ok-managed.ensures) (c.deref-3.ensures.value ∙ c.in_ok-instances.ensures) (c.deref-4.ensures.value ∙ c.in_ok-tops.ensures) in
    ok_with c.layout.result (λ fits plan h. subst (λ w. AreEntries w plan) (fits_is l c.args.root.now c.args.store.now c.args.hoisted.now c.args.listings.now c.importers.ensures.kept c.requires.placed f c.requires.importers c.requires.snapshots _ e fits) h)
    c.layout.ensures.short c.layout.ensures.entries

pub returns-clause-closed : goal.returns-clause-closed
returns-clause-closed c =
    let l = c.args.lock.now in
    let f = c.args.folders.now in
    let whole = layout_to (found_folder f) l c.args.root.now c.args.store.now c.args.hoisted.now c.args.listings.now in
    let e = made_is l c.args.root.now c.args.store.now c.args.hoisted.now c.args.listings.now f c.importers.result.now c.importers-2.result.now c.deref-2.result.now c.deref-3.result.now c.deref-4.result.now c.importers.ensures.list c.importers-2.ensures.list
    (c.deref-2.ensures.value ∙ c.in_ok-managed.ensures) (c.deref-3.ensures.value ∙ c.in_ok-instances.ensures) (c.deref-4.ensures.value ∙ c.in_ok-tops.ensures) in
    let sound = sound_layout c.folder_law.ensures l c.args.root.now c.args.store.now c.args.hoisted.now c.importers.ensures.kept c.requires.placed (found_folder f) c.args.listings.now c.requires.listings in
    if_ok c.layout.result (λ plan h. closed whole plan sound (subst (λ w. AreEntries w plan) e h)) c.layout.ensures.entries

pub returns-clause-short : goal.returns-clause-short
returns-clause-short c =
    let l = c.args.lock.now in
    let f = c.args.folders.now in
    let e = made_is l c.args.root.now c.args.store.now c.args.hoisted.now c.args.listings.now f c.importers.result.now c.importers-2.result.now c.deref-2.result.now c.deref-3.result.now c.deref-4.result.now c.importers.ensures.list c.importers-2.ensures.list
    (c.deref-2.ensures.value ∙ c.in_ok-managed.ensures) (c.deref-3.ensures.value ∙ c.in_ok-instances.ensures) (c.deref-4.ensures.value ∙ c.in_ok-tops.ensures) in
    on_ok c.layout.result (λ fits. subst Fits (fits_is l c.args.root.now c.args.store.now c.args.hoisted.now c.args.listings.now c.importers.ensures.kept c.requires.placed f c.requires.importers c.requires.snapshots _ e fits) fits)
    c.layout.ensures.short

pub returns-clause-refused : goal.returns-clause-refused
returns-clause-refused c =
    let l = c.args.lock.now in
    let f = c.args.folders.now in
    let e = made_is l c.args.root.now c.args.store.now c.args.hoisted.now c.args.listings.now f c.importers.result.now c.importers-2.result.now c.deref-2.result.now c.deref-3.result.now c.deref-4.result.now c.importers.ensures.list c.importers-2.ensures.list
    (c.deref-2.ensures.value ∙ c.in_ok-managed.ensures) (c.deref-3.ensures.value ∙ c.in_ok-instances.ensures) (c.deref-4.ensures.value ∙ c.in_ok-tops.ensures) in
    if_err c.layout.result (λ fault h. refused_near l c.args.root.now c.args.store.now c.args.hoisted.now c.args.listings.now c.importers.ensures.kept c.requires.placed f c.requires.importers c.requires.snapshots _ e fault h) c.layout.ensures.refused
