-- What the projects of a lock keep.
use Rattle.std.proofs.Common.{◌≡◌, ◌<◌, ℕ, zero, suc, true, false, cond, List, [], ◌∷◌, ◌++◌, length, get_or, Some, None, Option, nat_cmp, refl, sym, ap, subst, arith}
use Rattle.std.specs.Prelude.{bytes_eq, slice_get}
use Rattle.std.specs.Cmp.Lexicographic.{slice_cmp}
use Rattle.std.specs.List.{AllByRecursion, list_all}
use Rattle.std.specs.List.Sorted.{IsStrictlySortedBy}
use Rattle.std.specs.declared.cmp.Ordering.TheVariants.{Less}
use Rattle.std.proofs.lemmas.Bool.{ltb-true}
use Rattle.std.proofs.lemmas.List.Elements.{recursion_from_All, All-head, All-tail}
use Rattle.pn_text.specs.Name.{is_name}
use Rattle.pn_text.proofs.Bools.{and_left, and_right}
use Rattle.pn_text.proofs.Results.{same_some}
use Rattle.pn_lock.specs.declared.lists.LockDependency.{LockDependency}
use Rattle.pn_lock.specs.Folders.{is_folder}
use Rattle.pn_lock.specs.Kept.{InRange, IsDependency, IsImporter, Rises, is_in}
use Rattle.pn_lock.specs.Locks.{Locked, aliases_of, folders_of}
use Rattle.pn_asked.specs.declared.asked.AskedProject.{AskedProject}
use Rattle.pn_asked.specs.Asked.{IsAskedProject, project_folders}
use Rattle.pn_asked.specs.Rows.{Row, keys}
use Rattle.pn_instances.specs.declared.goal.Goal.{Goal}
use Rattle.pn_instances.specs.declared.goal.Goal.TheVariants.{Project as to_project, Inst as to_inst}
use Rattle.pn_instances.specs.declared.links.Link.{Link}
use Rattle.pn_instances.specs.Instances.{are_links, in_range, link_names}
use Rattle.pn_graph.specs.Graphs.{rises}
use Rattle.pn_instances.specs.Lookups.{goal_at, links_at, or_none}
use Rattle.pn_lock_make.specs.Importers.{dependencies_of, dependency_of, importer_of, importers_from}
use Rattle.pn_lock_make.specs.Made.{IsApart}
use Rattle.pn_lock_make.specs.Names.{AreNamed, IsNamedImporter}
use Rattle.pn_lock_make.specs.Targets.{AreRanked, IsRanked, lock_goal}
use Rattle.pn_lock_make.proofs.ListLemmas.{at_place, both_weaker, in_none, joined, none_in, split_left, split_right, tested, weaker}

-- ---- what is there

-- A lock has that many projects, and a place for each of that many instances.
pub record HasPlaces (l : Locked) (ranks : List ℕ) (projects instances : ℕ) : Type 0 where
  pub importers : length l.importers ≡ projects
  pub ranked : (k : ℕ) → k < instances → get_or ranks k 0 < length l.snapshots

pub goal_there : (l : Locked) (ranks : List ℕ) (p k : ℕ) → HasPlaces l ranks p k → (to : Goal) → in_range p k to ≡ true → InRange l (lock_goal ranks to)
goal_there l ranks p k h (to_project q) r = subst (λ (n : ℕ). q.0 < n) (sym h.importers) (ltb-true q.0 p r)
goal_there l ranks p k h (to_inst i) r = h.ranked i.0 (ltb-true i.0 k r)

pub goal_in : (p k : ℕ) (links : List Link) (name : List ℕ) (to : Goal) → list_all (λ (l : Link). in_range p k l.to) links ≡ true → goal_at name links ≡ Some to → in_range p k to ≡ true
goal_in p k [] name to h e = absurd (cc e)
goal_in p k (l ∷ ls) name to h e = elim (bytes_eq l.name name) as (λ o. cond o (Some l.to) (goal_at name ls) ≡ Some to → in_range p k to ≡ true) [
  | true ↦ λ g. subst (λ (t : Goal). in_range p k t ≡ true) (same_some l.to to g) (and_left (in_range p k l.to) (list_all (λ (l : Link). in_range p k l.to) ls) h)
  | false ↦ λ g. goal_in p k ls name to (and_right (in_range p k l.to) (list_all (λ (l : Link). in_range p k l.to) ls) h) g
] e

pub goal_ranked : (count : ℕ) (links : List Link) (name : List ℕ) (to : Goal) → AreRanked count links → goal_at name links ≡ Some to → IsRanked count to
goal_ranked count [] name to h e = absurd (cc e)
goal_ranked count (l ∷ ls) name to h e = elim (bytes_eq l.name name) as (λ o. cond o (Some l.to) (goal_at name ls) ≡ Some to → IsRanked count to) [
  | true ↦ λ g. subst (IsRanked count) (same_some l.to to g) (All-head (λ (l : Link). IsRanked count l.to) l ls h)
  | false ↦ λ g. goal_ranked count ls name to (All-tail (λ (l : Link). IsRanked count l.to) l ls h) g
] e

or_links : (p k : ℕ) (lists : List (List Link)) (n : ℕ) (o : Option (List Link)) → slice_get lists n ≡ o → list_all (are_links p k) lists ≡ true → are_links p k (or_none o) ≡ true
or_links p k lists n None e h = refl
or_links p k lists n (Some links) e h = at_place (λ (ls : List Link). are_links p k ls ≡ true) lists n links (tested (are_links p k) lists h) e

pub links_item : (lists : List (List Link)) (n : ℕ) (links : List Link) → n < length lists → links ≡ get_or lists n links → links ≡ links_at lists n
links_item [] n links low is = absurd (omega (arith, low))
links_item (x ∷ xs) zero links low is = is
links_item (x ∷ xs) (suc n) links low is = links_item xs n links (omega (arith, low)) is

pub links_there : (p k : ℕ) (lists : List (List Link)) (n : ℕ) → list_all (are_links p k) lists ≡ true → are_links p k (links_at lists n) ≡ true
links_there p k lists n h = or_links p k lists n (slice_get lists n) refl h

-- ---- the names of a project that lead somewhere

ranged : (l : Locked) (ranks : List ℕ) (p k : ℕ) → HasPlaces l ranks p k → (links : List Link) → list_all (λ (l : Link). in_range p k l.to) links ≡ true → (rows : List Row)
    → AllByRecursion (λ (d : LockDependency). InRange l d.to) (dependencies_of ranks links rows)
ranged l ranks p k h links r [] = tt
ranged l ranks p k h links r (x ∷ rows) = elim (goal_at x.0 links) as (λ o. goal_at x.0 links ≡ o → AllByRecursion (λ (d : LockDependency). InRange l d.to) (dependency_of ranks x o ++ dependencies_of ranks links rows)) [
  | None ↦ λ e. ranged l ranks p k h links r rows
  | Some to ↦ λ e. (goal_there l ranks p k h to (goal_in p k links x.0 to r e), ranged l ranks p k h links r rows)
] refl

pub sub : (P : List ℕ → Type 0) (ranks : List ℕ) (links : List Link) (rows : List Row) → AllByRecursion P (keys rows) → AllByRecursion P (aliases_of (dependencies_of ranks links rows))
sub P ranks links [] h = tt
sub P ranks links (x ∷ rows) h = elim (goal_at x.0 links) as (λ o. AllByRecursion P (aliases_of (dependency_of ranks x o ++ dependencies_of ranks links rows))) [
  | None ↦ sub P ranks links rows h.1
  | Some to ↦ (h.0, sub P ranks links rows h.1)
]

sub_rises : (ranks : List ℕ) (links : List Link) (rows : List Row) → Rises (keys rows) → Rises (aliases_of (dependencies_of ranks links rows))
unfolding IsStrictlySortedBy
sub_rises ranks links [] h = tt
sub_rises ranks links (x ∷ rows) h = elim (goal_at x.0 links) as (λ o. IsStrictlySortedBy (slice_cmp nat_cmp) (aliases_of (dependency_of ranks x o ++ dependencies_of ranks links rows))) [
  | None ↦ sub_rises ranks links rows h.1
  | Some to ↦ (sub (λ y. slice_cmp nat_cmp x.0 y ≡ Less) ranks links rows h.0, sub_rises ranks links rows h.1)
]

pub not_in : (ranks : List ℕ) (links : List Link) (rows : List Row) (k : List ℕ) → is_in (keys rows) k ≡ false → is_in (aliases_of (dependencies_of ranks links rows)) k ≡ false
not_in ranks links rows k h = none_in k (aliases_of (dependencies_of ranks links rows)) (sub (λ x. bytes_eq x k ≡ false) ranks links rows (in_none k (keys rows) h))

not_in_both : (ranks : List ℕ) (links : List Link) (xs ys : List Row) (k : List ℕ) → is_in (keys xs ++ keys ys) k ≡ false
    → is_in (aliases_of (dependencies_of ranks links xs) ++ aliases_of (dependencies_of ranks links ys)) k ≡ false
not_in_both ranks links xs ys k h =
    let all = in_none k (keys xs ++ keys ys) h in
    let P : List ℕ → Type 0 = λ x. bytes_eq x k ≡ false in
    none_in k (aliases_of (dependencies_of ranks links xs) ++ aliases_of (dependencies_of ranks links ys))
    (joined P (aliases_of (dependencies_of ranks links xs)) (aliases_of (dependencies_of ranks links ys))
    (sub P ranks links xs (split_left P (keys xs) (keys ys) all)) (sub P ranks links ys (split_right P (keys xs) (keys ys) all)))

are_dependencies : (l : Locked) (ds : List LockDependency) → AllByRecursion (λ (d : LockDependency). InRange l d.to) ds → AreNamed ds → AllByRecursion (IsDependency l) ds
are_dependencies l ds r n =
    both_weaker (λ (d : LockDependency). InRange l d.to) (λ (d : LockDependency). is_name d.alias ≡ true) (IsDependency l) ds (λ d r n. record { name = n; range = r }) r
    (recursion_from_All (λ (d : LockDependency). is_name d.alias ≡ true) ds n)

-- ---- projects

importer_kept : (l : Locked) (ranks : List ℕ) (p k : ℕ) → HasPlaces l ranks p k → (links : List Link) → are_links p k links ≡ true → (q : AskedProject) → is_folder q.folder ≡ true
    → IsAskedProject q → IsApart q → IsNamedImporter (importer_of ranks links q) → IsImporter l (importer_of ranks links q)
importer_kept l ranks p k h links are q folder asked apart named =
    let r = and_right (rises (link_names links)) (list_all (λ (l : Link). in_range p k l.to) links) are in
    record {
      folder = folder;
      dependencies = are_dependencies l (dependencies_of ranks links q.dependencies) (ranged l ranks p k h links r q.dependencies) named.dependencies;
      dev = are_dependencies l (dependencies_of ranks links q.dev) (ranged l ranks p k h links r q.dev) named.dev;
      optional = are_dependencies l (dependencies_of ranks links q.optional) (ranged l ranks p k h links r q.optional) named.optional;
      dependencies_rise = sub_rises ranks links q.dependencies asked.dependencies;
      dev_rise = sub_rises ranks links q.dev asked.dev;
      optional_rise = sub_rises ranks links q.optional asked.optional;
      dev_apart = weaker (λ k. is_in (keys q.dependencies) k ≡ false) (λ k. is_in (aliases_of (dependencies_of ranks links q.dependencies)) k ≡ false) (aliases_of (dependencies_of ranks links q.dev))
          (not_in ranks links q.dependencies) (sub (λ k. is_in (keys q.dependencies) k ≡ false) ranks links q.dev apart.dev);
      optional_apart = weaker (λ k. is_in (keys q.dependencies ++ keys q.dev) k ≡ false)
          (λ k. is_in (aliases_of (dependencies_of ranks links q.dependencies) ++ aliases_of (dependencies_of ranks links q.dev)) k ≡ false) (aliases_of (dependencies_of ranks links q.optional))
          (not_in_both ranks links q.dependencies q.dev) (sub (λ k. is_in (keys q.dependencies ++ keys q.dev) k ≡ false) ranks links q.optional apart.optional);
    }

pub importers_kept : (l : Locked) (ranks : List ℕ) (p k : ℕ) → HasPlaces l ranks p k → (roots : List (List Link)) → list_all (are_links p k) roots ≡ true → (n : ℕ) (qs : List AskedProject)
    → AllByRecursion (λ (q : AskedProject). is_folder q.folder ≡ true) qs → AllByRecursion IsAskedProject qs → AllByRecursion IsApart qs → AllByRecursion IsNamedImporter (importers_from ranks roots n qs)
    → AllByRecursion (IsImporter l) (importers_from ranks roots n qs)
importers_kept l ranks p k h roots are n [] folders asked apart named = tt
importers_kept l ranks p k h roots are n (q ∷ qs) folders asked apart named = (
  importer_kept l ranks p k h (links_at roots n) (links_there p k roots n are) q folders.0 asked.0 apart.0 named.0,
  importers_kept l ranks p k h roots are (suc n) qs folders.1 asked.1 apart.1 named.1,
)

pub importer_folders : (ranks : List ℕ) (roots : List (List Link)) (n : ℕ) (qs : List AskedProject) → folders_of (importers_from ranks roots n qs) ≡ project_folders qs
importer_folders ranks roots n [] = refl
importer_folders ranks roots n (q ∷ qs) = ap (λ (fs : List (List ℕ)). q.folder ∷ fs) (importer_folders ranks roots (suc n) qs)

pub importer_count : (ranks : List ℕ) (roots : List (List Link)) (n : ℕ) (qs : List AskedProject) → length (importers_from ranks roots n qs) ≡ length qs
importer_count ranks roots n [] = refl
importer_count ranks roots n (q ∷ qs) = ap suc (importer_count ranks roots (suc n) qs)
