-- The first package that is refused.
use Rattle.std.proofs.Common.{◌≡◌, ◌+◌, ◌<◌, ◌∷◌, ℕ, List, Option, IfSome, map, nat_cmp, length, take, drop, get_or, ap, ◌∙◌, subst, IsPermutation, IsSorted}
use Rattle.std.specs.Cmp.Lexicographic.{slice_cmp}
use Rattle.std.specs.List.{All}
use Rattle.std.proofs.lemmas.List.{map-append}
use Rattle.std.proofs.lemmas.List.Elements.{All-map, recursion_from_All}
use Rattle.pn_text.specs.Path.{Path}
use Rattle.pn_text.specs.First.{FirstFails}
use Rattle.pn_fs.specs.Tree.{Tree}
use Rattle.pn_graph.specs.declared.plain.Plain.{Plain}
use Rattle.pn_registry.specs.Places.{package_folder}
use Rattle.pn_package.specs.declared.packages.Package.{Package}
use Rattle.pn_collect.specs.CollectFaults.{NoFiles, IsFirstRefused}
use Rattle.pn_collect.specs.Outline.{Outline, outline, dressed, bare_of, bare_id, IsMade, HasFiles, HasPassed, AreSoundFiles, AreFilesBelow}
use Rattle.pn_collect.specs.declared.bare.Bare.{Bare}
use Rattle.pn_collect.specs.declared.fault.CollectFault.{CollectFault}
use Rattle.pn_collect.proofs.Causes.{if_all}
use Rattle.pn_collect.proofs.MoreLemmas.{split_at}
use Rattle.pn_collect.proofs.Whole.{ids_order, ids_rise}

abbrev pub Passes : Option Tree → Bare → Type 0
Passes r b = HasPassed r b.id

-- a package whose files are taken passes
pub passes : (r now : Option Tree) (b : Bare) (p : Package) → now ≡ r → outline p ≡ dressed b → IsMade p → IfSome now (λ t. HasFiles t p) → Passes r b
passes r now b p same is made h =
    let at : p.folder ≡ package_folder b.id = ap (λ (o : Outline). o.folder) is in
    if_all (λ t. HasFiles t p) (λ t. (files : List Path) × AreSoundFiles (package_folder b.id) files × AreFilesBelow t (package_folder b.id) files) r
    (λ t files. (p.files.items, subst (λ (f : Path). AreSoundFiles f p.files.items) at made.files, subst (λ (f : Path). AreFilesBelow t f p.files.items) at files))
    (subst (λ (o : Option Tree). IfSome o (λ t. HasFiles t p)) same h)

-- the package at a place of the list is refused, and those before it are not
pub first_at : (r : Option Tree) (bare : List Bare) (k : ℕ) (b : Bare) (why : CollectFault) → k < length bare → b ≡ get_or bare k b → All (Passes r) (take k bare) → NoFiles r b.id why
    → FirstFails (HasPassed r) (NoFiles r) (map bare_id bare) why
first_at r bare k b why within is passed cause = record {
  before = map bare_id (take k bare);
  at = b.id;
  after = map bare_id (drop (k + 1) bare);
  cut = ap (map bare_id) (split_at bare k b within is) ∙ map-append bare_id (take k bare) (b ∷ drop (k + 1) bare);
  passed = recursion_from_All (HasPassed r) (map bare_id (take k bare)) (All-map (HasPassed r) bare_id (take k bare) passed);
  failed = cause;
}

-- the first of the graph's packages in byte order of ids
pub first_of : (r : Option Tree) (plain : Plain) (bare : List Bare) (why : CollectFault) → IsPermutation (map (bare_of plain.packages) plain.packages) bare → IsSorted (slice_cmp nat_cmp) (map bare_id bare)
    → FirstFails (HasPassed r) (NoFiles r) (map bare_id bare) why → IsFirstRefused plain r why
first_of r plain bare why order sorted h = record { sorted = map bare_id bare; all = ids_order plain bare order; rising = ids_rise plain bare order sorted; first = h }
