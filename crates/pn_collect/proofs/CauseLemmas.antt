-- The first package that is refused is one, and so is its cause.
use Rattle.std.proofs.Common.{◌≡◌, List, [], ◌∷◌, Some, nat_cmp, map, refl, sym, ap, ◌∙◌, subst, IsPermutation}
use Rattle.std.specs.Cmp.Lexicographic.{slice_cmp}
use Rattle.std.specs.List.Sorted.{IsStrictlySortedBy}
use Rattle.std.proofs.lemmas.List.Sorted.{Contains-permutation, IsPermutation-sym, IsPermutation-trans}
use Rattle.pn_text.specs.First.{FirstFails}
use Rattle.pn_text.proofs.Firsts.{one_fault}
use Rattle.pn_fs.specs.Tree.{Tree, IsTree}
use Rattle.pn_registry.specs.FilesFaults.{FilesCause}
use Rattle.pn_registry.specs.Places.{package_folder}
use Rattle.pn_registry.specs.declared.contents.FilesFault.{FilesFault}
use Rattle.pn_registry.specs.declared.contents.FilesFault.TheVariants.{Modules as FileModules, TooLarge as FileTooLarge, Entries as FileEntries, Fault as FileFault, Memory as FileMemory}
use Rattle.pn_registry.proofs.FilesLawLemmas as files
use Rattle.pn_package.specs.Links.{Id}
use Rattle.pn_collect.specs.CollectFaults.{NoFiles}
use Rattle.pn_collect.specs.Laws.{CauseLaw}
use Rattle.pn_collect.specs.Outline.{HasPassed, node_id}
use Rattle.pn_collect.specs.declared.fault.CollectFault.{CollectFault}
use Rattle.pn_collect.specs.declared.fault.CollectFault.TheVariants.{Modules, TooLarge, Entries, Fault, Memory}
use Rattle.pn_collect.proofs.Passed.{not_refused}
use Rattle.pn_collect.proofs.SortedTexts.{one_list}

-- what the registry's cause is told as
told : Id → FilesFault → CollectFault
told id (FileModules q) = Modules id q
told id (FileTooLarge q n) = TooLarge n
told id FileEntries = Entries
told id FileFault = Fault
told id FileMemory = Memory

-- a package's cause is one of the registry's
cause_of : (t : Tree) (id : Id) (why : CollectFault) → NoFiles (Some t) id why → (f : FilesFault) × FilesCause (package_folder id) t f × (told id f ≡ why)
unfolding told
cause_of t id (Modules i path) h = (FileModules path, h.2, ap (λ (j : Id). Modules j path) (sym h.0))
cause_of t id (TooLarge n) h = (FileTooLarge h.0 n, h.2, refl)
cause_of t id Entries h = (FileEntries, h, refl)
cause_of t id Fault h = absurd h
cause_of t id Memory h = absurd h

one_cause : (t : Tree) → IsTree t → (id : Id) (why other : CollectFault) → NoFiles (Some t) id why → NoFiles (Some t) id other → why ≡ other
one_cause t tree id why other a b =
    let x = cause_of t id why a in
    let y = cause_of t id other b in
    sym x.2 ∙ ap (told id) (files.cause t tree (package_folder id) x.0 y.0 x.1 y.1) ∙ y.2

-- the ids in order are one list
one_order : (ids xs ys : List Id) → IsPermutation ids xs → IsPermutation ids ys → IsStrictlySortedBy (slice_cmp nat_cmp) xs → IsStrictlySortedBy (slice_cmp nat_cmp) ys → xs ≡ ys
one_order ids xs ys a b rising other =
    let order = IsPermutation-trans xs ids ys (IsPermutation-sym ids xs a) b in
    one_list (λ (i : Id). i) xs ys (subst (IsStrictlySortedBy (slice_cmp nat_cmp)) (sym (map_same xs)) rising) (subst (IsStrictlySortedBy (slice_cmp nat_cmp)) (sym (map_same ys)) other)
    (λ i c. Contains-permutation xs ys i order c) (λ i c. Contains-permutation ys xs i (IsPermutation-sym xs ys order) c) where
      map_same : (xs : List Id) → map (λ (i : Id). i) xs ≡ xs
      map_same [] = refl
      map_same (x ∷ xs) = ap (λ (l : List Id). x ∷ l) (map_same xs)

pub cause : CauseLaw
cause t plain why other tree a b =
    let same = one_order (map node_id plain.packages) a.sorted b.sorted a.all b.all a.rising b.rising in
    one_fault (HasPassed (Some t)) (NoFiles (Some t)) (not_refused t) (one_cause t tree) b.sorted why other
    (subst (λ (l : List Id). FirstFails (HasPassed (Some t)) (NoFiles (Some t)) l why) same a.first) b.first
