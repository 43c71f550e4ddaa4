use Rattle.std.proofs.Common.{List, map, nat_cmp, sym, subst, IsPermutation, IsSorted}
use Rattle.std.proofs.lemmas.Result.{err_from_is_err_and}
use Rattle.std.specs.List.{All}
use Rattle.std.specs.Cmp.Lexicographic.{slice_cmp}
use Rattle.pn_text.specs.First.{FirstFails}
use Rattle.pn_package.specs.Sound.{AreSoundLinks}
use Rattle.pn_collect.specs.CollectFaults.{IsFirstRefused, NoFiles}
use Rattle.pn_collect.specs.Outline.{bare_of, bare_id, HasPassed, IsSoundBare}
use Rattle.pn_collect.specs.Packages.{HasPlace}
use Rattle.pn_collect.specs.declared.bare.Bare.{Bare}
use Rattle.pn_collect.proofs.BareLemmas.{have_places}
use Rattle.pn_collect.proofs.Causes.{refuses_by}
use Rattle.pn_collect.proofs.Firsts.{first_of}
use Rattle.pn_collect.proofs.Whole.{packages_of}
use Rattle.pn_collect.proofs.packages.collect.Goals as goal

pub packages-requires : goal.packages-requires
packages-requires g c =
    let tree = (g.R.ReadFs.seen c.args.registry.now).tree in
    record {
      places = subst (All (λ (b : Bare). HasPlace tree b.id)) (sym c.as_slice.ensures.value) (have_places tree c.args.plain.now c.in_ok-bare.bare.items c.requires.stand c.requires.short c.in_ok-bare.ensures.same);
      sound = subst (All IsSoundBare) (sym c.as_slice.ensures.value) c.in_ok-bare.ensures.sound;
    }

pub returns-clause-packages : goal.returns-clause-packages
returns-clause-packages g c =
    let plain = c.args.plain.now in
    packages_of (g.R.ReadFs.seen c.args.registry.now).tree plain c.as_slice.result.now c.in_ok-packages.packages.items
    (subst (IsPermutation (map (bare_of plain.packages) plain.packages)) (sym c.as_slice.ensures.value) c.in_ok-bare.ensures.same)
    (subst (λ (l : List Bare). IsSorted (slice_cmp nat_cmp) (map bare_id l)) (sym c.as_slice.ensures.value) c.in_ok-bare.ensures.sorted)
    (subst AreSoundLinks c.in_ok-direct.ensures.same c.in_ok-direct.ensures.sound)
    c.in_ok-packages.ensures.outlines c.in_ok-packages.ensures.made c.in_ok-packages.ensures.files

pub returns-in_err-packages-clause-refused : goal.returns-in_err-packages-clause-refused
returns-in_err-packages-clause-refused g c =
    let p = err_from_is_err_and c.from_residual-in_err-packages.result c.from_residual-in_err-packages.ensures.1 in
    let plain = c.args.plain.now in
    let bare = c.as_slice.result.now in
    let old = g.R.ReadFs.seen c.args.registry.now in
    let new = g.R.ReadFs.seen c.packages.new.registry in
    rw (p.1, p.2) (refuses_by (λ r. FirstFails (HasPassed r) (NoFiles r) (map bare_id bare)) (IsFirstRefused plain) old new _
    (first_of old.tree plain bare _ (subst (IsPermutation (map (bare_of plain.packages) plain.packages)) (sym c.as_slice.ensures.value) c.in_ok-bare.ensures.same)
    (subst (λ (l : List Bare). IsSorted (slice_cmp nat_cmp) (map bare_id l)) (sym c.as_slice.ensures.value) c.in_ok-bare.ensures.sorted)) c.in_err-packages.ensures.refused)
