-- What is planned is of the managed folder, and what a tree finds that has it.
use Rattle.std.proofs.Common.{◌≡◌, List, [], ◌∷◌, ◌++◌, refl, sym, ap, ◌∙◌, subst, arith, map, Option, Some, inl, inr, true, false}
use Rattle.std.specs.List.{AllZip, Contains}
use Rattle.pn_text.specs.Path.{Path}
use Rattle.pn_text.proofs.Bools.{or_cases}
use Rattle.pn_text.proofs.Members.{here, in_one}
use Rattle.pn_fs.specs.Tree.{Entry, Tree}
use Rattle.pn_digest.specs.Listing.{Entry as Line}
use Rattle.pn_digest.specs.declared.planned.Planned.{Planned}
use Rattle.pn_digest.specs.declared.planned.Planned.TheVariants.{Folder, Bytes}
use Rattle.pn_scan.specs.Managed.{Managed, is_below, is_within, is_managed, marker_name}
use Rattle.pn_scan.proofs.ManagedLemmas.{within_itself, within_cases, below_within, below_longer}
use Rattle.pn_package.specs.Links.{Pair}
use Rattle.pn_package.specs.declared.packages.Package.{Package}
use Rattle.pn_tree.specs.Laws.{AreEntries}
use Rattle.pn_layout.specs.Layout.{marker_text, layout_of, IsClosed}
use Rattle.pn_layout.specs.Laws.{IsInstalled}
use Rattle.pn_layout.specs.Listed.{AreOfPackages, HasListing}
use Rattle.pn_collect.specs.Outline.{package_id}
use Rattle.std.specs.Cmp.Lexicographic.{slice_cmp}
use Rattle.std.specs.List.Sorted.{IsStrictlySortedBy}
use Rattle.std.specs.Ordering.{nat_cmp}
use Rattle.pn_fetch.specs.Listings.{AreListingsOf}
use Rattle.pn_reconcile.specs.Plans.{IsRooted, IsPlanned, HasPlan}
use Rattle.pn_cmd.specs.Scans.{managed_of}

-- what is at or below the folder is managed
pub within_at : (r top : Path) → is_within top (r ++ top) ≡ true
within_at [] top = within_itself top
within_at (x ∷ r) top = below_within top (x ∷ (r ++ top)) (within_at r top)

one_managed : (top q : Path) → is_within top q ≡ true → is_managed (managed_of top) q ≡ true
one_managed top q h = rw h refl

pub is_one : (top q : Path) → is_managed (managed_of top) q ≡ true → is_within top q ≡ true
is_one top q h = elim (or_cases (is_within top q) false h) [ inl a ↦ a | inr b ↦ cc b ]

-- what is planned in the managed folder has it as its root
pub rooted : (top : Path) (plan : List (Path × Planned)) → IsClosed top plan → IsRooted (managed_of top) plan
rooted top plan closed = record {
  tops = λ m c. subst (λ (n : Managed). Contains plan (n.0, Folder)) (in_one (top, marker_text) m c) closed.managed;
  markers = λ m c. subst (λ (n : Managed). Contains plan (marker_name ∷ n.0, Bytes n.1)) (in_one (top, marker_text) m c) closed.marker;
  within = λ e c. let at = closed.within e.0 e.1 c in subst (λ q. is_managed (managed_of top) q ≡ true) (sym at.1) (one_managed top (at.0 ++ top) (within_at at.0 top));
  parents = λ x p w c managed. elim (closed.parents x p w c) [
    | inl same ↦ absurd (itself top (subst (λ q. is_below top q ≡ true) same (is_one top p managed)))
    | inr has ↦ has
  ];
}
  where
    itself : (p : Path) → is_below p p ≡ true → ⊥
    itself p h = omega (arith, below_longer p p h)

-- what is managed is below the folder
pub split_at : (top q : Path) → is_within top q ≡ true → (r : Path) × (q ≡ r ++ top)
split_at top [] h = elim (within_cases top [] h) [ inl e ↦ ([], e) | inr b ↦ cc b ]
split_at top (x ∷ q) h = elim (within_cases top (x ∷ q) h) [
  | inl e ↦ ([], e)
  | inr b ↦ let s = split_at top q b in (x ∷ s.0, ap (λ (p : Path). x ∷ p) s.1)
]

-- what stands there is planned
pub planned_at : (u : Tree) (top q : Path) (plan : List (Path × Planned)) (e : Entry) → HasPlan (managed_of top) plan u → is_managed (managed_of top) q ≡ true → u q ≡ Some e → IsPlanned plan q
planned_at u top q plan e has managed is =
    let s = split_at top q (is_one top q managed) in
    subst (IsPlanned plan) (sym s.1) (has.only (top, marker_text) s.0 e (here (top, marker_text) []) (sym (ap u s.1) ∙ is))

-- a tree that has the plan is one in which the packages are installed
pub installed : (u : Tree) (top : Path) (direct : List Pair) (packages : List Package) (listings : List (List Line)) (plan : List (Path × Planned)) → AreEntries (layout_of top direct packages listings) plan → HasPlan (managed_of top) plan u → IsInstalled u top direct packages listings
installed u top direct packages listings plan entries has = record { plan = plan; entries = entries; has = record { planned = has.planned; only = has.only } }

-- listings of the registry's files are of the packages
pub of_packages : (r : Option Tree) (packages : List Package) (listings : List (List Line)) → IsStrictlySortedBy (slice_cmp nat_cmp) (map package_id packages) → AreListingsOf r packages listings → AreOfPackages packages listings
of_packages r packages listings sorted h = record { rising = sorted; each = each packages listings h }
  where
    each : (ps : List Package) (ls : List (List Line)) → AreListingsOf r ps ls → AllZip HasListing ps ls
    each [] [] k = tt
    each [] (l ∷ ls) k = absurd k
    each (p ∷ ps) [] k = absurd k
    each (p ∷ ps) (l ∷ ls) k = (record { listing = k.0.listing; files = k.0.files }, each ps ls k.1)
