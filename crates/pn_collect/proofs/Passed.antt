-- A package that has its files isn't refused.
use Rattle.std.proofs.Common.{◌≡◌, List, ◌∷◌, ◌++◌, Some, inl, inr, sym, ap, ◌∙◌, subst, arith, map}
use Rattle.std.specs.List.{Contains}
use Rattle.std.proofs.lemmas.List.Elements.{Contains-append_right}
use Rattle.std.proofs.lemmas.List.Sorted.{IsPermutation-sym, Contains-permutation}
use Rattle.pn_text.specs.Path.{Path}
use Rattle.pn_fs.specs.Tree.{Tree}
use Rattle.pn_text.proofs.Members.{from_map, here, to_map}
use Rattle.pn_node.specs.Plan.{IsSoundFile}
use Rattle.pn_registry.specs.Below.{HasMany}
use Rattle.pn_registry.specs.FilesFaults.{entry_limit}
use Rattle.pn_registry.specs.Places.{package_folder}
use Rattle.pn_registry.proofs.Distinct.{no_longer}
use Rattle.pn_collect.specs.CollectFaults.{NoFiles}
use Rattle.pn_collect.specs.Laws.{PassedLaw}
use Rattle.pn_collect.specs.Outline.{Outline, outline, wanted, node_id, HasPassed, AreFilesBelow}
use Rattle.pn_collect.specs.declared.fault.CollectFault.{CollectFault}
use Rattle.pn_collect.specs.declared.fault.CollectFault.TheVariants.{Modules, TooLarge, Entries, Fault, Memory}
use Rattle.pn_package.specs.Links.{Id}
use Rattle.pn_collect.proofs.IdLists.{true_false}
use Rattle.pn_collect.proofs.Listing.{entry_there}

not_many : (t : Tree) (folder : Path) (files : List Path) → AreFilesBelow t folder files → HasMany t folder entry_limit → ⊥
not_many t folder files h many =
    let among : (p : Path) → Contains many.paths p → Contains h.few.paths p = λ p c.
    let s = many.stand p c in
    let stands : t ((s.part ∷ s.tail) ++ folder) ≡ Some s.entry = subst (λ (q : Path). t q ≡ Some s.entry) s.is s.stands in
    elim (h.few.all (s.part ∷ s.tail) s.entry stands) [
      | inl e ↦ absurd (cc e)
      | inr i ↦ subst (Contains h.few.paths) (sym s.is) i
    ] in
    omega (arith, no_longer many.paths h.few.paths many.distinct among, many.many, h.few.few)

-- the files that are told show no cause
pub has_files : (t : Tree) (id : Id) (files : List Path) (fault : CollectFault) → ((f : Path) → Contains files f → IsSoundFile f) → AreFilesBelow t (package_folder id) files → NoFiles (Some t) id fault → ⊥
has_files t id files (Modules i path) sound h cause =
    let s = cause.2.first.stands in
    let e = entry_there t (package_folder id) path s.0 s.1 in
    true_false (sym cause.1 ∙ (sound path (h.all path e.0 (s.0, e.1))).clean)
has_files t id files (TooLarge n) sound h cause =
    let s = cause.2.first.stands in
    let e = entry_there t (package_folder id) cause.0 s.0 s.1 in
    omega (arith, h.short cause.0 s.0 (h.all cause.0 e.0 (s.0, e.1)) e.1, s.2, cause.1)
has_files t id files Entries sound h cause = not_many t (package_folder id) files h cause
has_files t id files Fault sound h cause = cause
has_files t id files Memory sound h cause = cause

-- a package that passes isn't refused
pub not_refused : (t : Tree) (id : Id) (fault : CollectFault) → HasPassed (Some t) id → NoFiles (Some t) id fault → ⊥
not_refused t id fault h cause = has_files t id h.0 fault h.1.each h.2 cause

pub passed : PassedLaw
passed t plain packages fault all refused =
    let ids = refused.sorted in
    let first = refused.first in
    let middle : Contains ids first.at = subst (λ (l : List Id). Contains l first.at) (sym first.cut) (Contains-append_right first.before (first.at ∷ first.after) first.at (here first.at first.after)) in
    let q = from_map node_id plain.packages first.at (Contains-permutation ids (map node_id plain.packages) first.at (IsPermutation-sym (map node_id plain.packages) ids refused.all) middle) in
    let told = Contains-permutation (map (wanted plain.packages) plain.packages) (map outline packages) (wanted plain.packages q.0) all.exact (to_map (wanted plain.packages) plain.packages q.0 q.1) in
    let p = from_map outline packages (wanted plain.packages q.0) told in
    let folder : p.0.folder ≡ package_folder first.at = ap (λ (o : Outline). o.folder) p.2 ∙ ap package_folder q.2 in
    has_files t first.at p.0.files.items fault (all.sound.each p.0 p.1).files (subst (λ (f : Path). AreFilesBelow t f p.0.files.items) folder (all.files p.0 p.1)) first.failed
