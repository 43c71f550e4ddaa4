use Rattle.std.proofs.Common.{◌∙◌, sym, subst, map}
use Rattle.pn_text.proofs.Results.{if_err, on_ok}
use Rattle.pn_package.specs.Listed.{pair_of}
use Rattle.pn_tree.specs.Laws.{AreEntries}
use Rattle.pn_tree.specs.Sound.{IsSoundLayout}
use Rattle.pn_tree.specs.Trees.{laid}
use Rattle.pn_layout.specs.Layout.{Fits}
use Rattle.pn_layout.specs.Near.{near_home}
use Rattle.pn_layout.proofs.NearLemmas.{laid_is, fits_is, refused_near, ok_with}
use Rattle.pn_layout.proofs.SoundLemmas.{sound_layout}
use Rattle.pn_layout.proofs.plan.layout_in.Goals as goal

pub layout-requires : goal.layout-requires
layout-requires c =
    let m = c.args.modules.now in
    let e = laid_is m c.args.store.now c.deref.result.now c.deref-2.result.now c.deref-3.result.now c.args.direct.now (map pair_of c.as_slice.result.now) c.args.packages.now c.args.listings.now
    c.requires.store (c.deref.ensures.value ∙ c.in_ok-managed.ensures) (c.deref-2.ensures.value ∙ c.in_ok-instances.ensures) (c.deref-3.ensures.value ∙ c.in_ok-tops.ensures) c.as_slice.ensures.pairs in
    subst IsSoundLayout (sym e) (sound_layout (near_home m) m c.args.direct.now c.args.packages.now c.args.listings.now c.requires.direct c.requires.sound c.requires.listings)

pub returns-clause-entries : goal.returns-clause-entries
returns-clause-entries c =
    let m = c.args.modules.now in
    let e = laid_is m c.args.store.now c.deref.result.now c.deref-2.result.now c.deref-3.result.now c.args.direct.now (map pair_of c.as_slice.result.now) c.args.packages.now c.args.listings.now
    c.requires.store (c.deref.ensures.value ∙ c.in_ok-managed.ensures) (c.deref-2.ensures.value ∙ c.in_ok-instances.ensures) (c.deref-3.ensures.value ∙ c.in_ok-tops.ensures) c.as_slice.ensures.pairs in
    ok_with c.layout.result (λ fits plan h. subst (λ l. AreEntries l plan) (fits_is m (laid c.args.store.now c.deref.result.now c.deref-2.result.now c.deref-3.result.now) c.args.direct.now c.args.packages.now c.args.listings.now c.requires.whole c.requires.listings e fits) h)
    c.layout.ensures.short c.layout.ensures.entries

pub returns-clause-short : goal.returns-clause-short
returns-clause-short c =
    let m = c.args.modules.now in
    let e = laid_is m c.args.store.now c.deref.result.now c.deref-2.result.now c.deref-3.result.now c.args.direct.now (map pair_of c.as_slice.result.now) c.args.packages.now c.args.listings.now
    c.requires.store (c.deref.ensures.value ∙ c.in_ok-managed.ensures) (c.deref-2.ensures.value ∙ c.in_ok-instances.ensures) (c.deref-3.ensures.value ∙ c.in_ok-tops.ensures) c.as_slice.ensures.pairs in
    on_ok c.layout.result (λ fits. subst Fits (fits_is m (laid c.args.store.now c.deref.result.now c.deref-2.result.now c.deref-3.result.now) c.args.direct.now c.args.packages.now c.args.listings.now c.requires.whole c.requires.listings e fits) fits)
    c.layout.ensures.short

pub returns-clause-refused : goal.returns-clause-refused
returns-clause-refused c =
    let m = c.args.modules.now in
    let e = laid_is m c.args.store.now c.deref.result.now c.deref-2.result.now c.deref-3.result.now c.args.direct.now (map pair_of c.as_slice.result.now) c.args.packages.now c.args.listings.now
    c.requires.store (c.deref.ensures.value ∙ c.in_ok-managed.ensures) (c.deref-2.ensures.value ∙ c.in_ok-instances.ensures) (c.deref-3.ensures.value ∙ c.in_ok-tops.ensures) c.as_slice.ensures.pairs in
    if_err c.layout.result (λ fault h. refused_near m (laid c.args.store.now c.deref.result.now c.deref-2.result.now c.deref-3.result.now) c.args.direct.now c.args.packages.now c.args.listings.now e fault h) c.layout.ensures.refused
