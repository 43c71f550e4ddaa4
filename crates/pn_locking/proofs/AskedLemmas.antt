-- What projects ask for.
use Rattle.std.proofs.Common.{◌≡◌, ℕ, Bool, true, List, [], ◌∷◌, map, refl, sym, ap, ◌∙◌, subst}
use Rattle.std.specs.List.{All, AllByRecursion, AllZip}
use Rattle.std.proofs.lemmas.List.Elements.{All-weaker, recursion_from_All}
use Rattle.pn_lock.specs.Folders.{is_folder}
use Rattle.pn_lock.specs.Kept.{Rises}
use Rattle.pn_lock.proofs.KeptLemmas.{all_map}
use Rattle.pn_asked.specs.declared.asked.AskedProject.{AskedProject}
use Rattle.pn_asked.specs.Asked.{AskedLists, IsAsked, IsAskedProject, asked, project_folders}
use Rattle.pn_asked.specs.Rows.{Row, keys}
use Rattle.pn_lock_make.specs.Made.{IsApart}
use Rattle.pn_manifest.specs.Pairs.{names}
use Rattle.pn_manifest.specs.Said.{AreRising, IsRisingSaid, Said}
use Rattle.pn_plain.specs.Plains.{Project}
use Rattle.pn_plain.specs.Seen.{IsSeen, a_project, counted, no_hook, no_rules, one_map, seen, wishes_of}
use Rattle.pn_plain.specs.WishLaws.{aliases}
use Rattle.pn_seen.proofs.AskedLemmas.{sound_project_wishes}
use Rattle.pn_spec.specs.declared.entry.CatalogEntry.{CatalogEntry}
use Rattle.pn_walk.specs.declared.wish.Wish.{Wish}
use Rattle.pn_locking.specs.declared.project.ProjectManifest.{ProjectManifest}
use Rattle.pn_locking.specs.Asks.{IsAskedOf, IsProjectOf, asked_by, asked_project, is_dev, is_optional, is_regular, rows_where}
use Rattle.pn_locking.specs.Projects.{HasFolder, IsRisingProject, folder_of, project_of}
use Rattle.pn_locking.proofs.SplitLemmas.{apart, dev_not_regular, none_of_both, optional_not_dev, optional_not_regular, where_rises}

-- ---- a project of its lists

pub project_made : (auto : Bool) (p : Project) (face : Said) (ws : List Wish) (first second : List (List ℕ)) (q : AskedProject) → face ≡ seen a_project p.said → ws ≡ wishes_of (counted auto face)
    → first ≡ names face.dev → second ≡ names face.dev → q.folder ≡ p.folder → q.dependencies ≡ rows_where (is_regular first) ws → q.dev ≡ rows_where (is_dev second) ws
    → q.optional ≡ rows_where is_optional ws → q ≡ asked_by auto p
project_made auto p face ws first second q is asks one two at regular dev optional =
    let r : q.dependencies ≡ rows_where (is_regular (names face.dev)) (wishes_of (counted auto face)) =
    regular ∙ ap (λ ns. rows_where (is_regular ns) ws) one ∙ ap (rows_where (is_regular (names face.dev))) asks in
    let d : q.dev ≡ rows_where (is_dev (names face.dev)) (wishes_of (counted auto face)) = dev ∙ ap (λ ns. rows_where (is_dev ns) ws) two ∙ ap (rows_where (is_dev (names face.dev))) asks in
    let o : q.optional ≡ rows_where is_optional (wishes_of (counted auto face)) = optional ∙ ap (rows_where is_optional) asks in
    let same : q ≡ asked_project auto p.folder face = λ i. record { folder = at i; dependencies = r i; dev = d i; optional = o i } in
    same ∙ ap (asked_project auto p.folder) is

-- ---- its lists rise, and no name is in two of them

is_seen : (m : Said) → IsSeen no_hook no_rules a_project m (seen a_project m)
is_seen m = record { overridden = one_map a_project m; by_rules = refl; is = refl }

rising : (auto : Bool) (m : Said) → IsRisingSaid m → AreRising (aliases (wishes_of (counted auto (seen a_project m))))
rising auto m h = (sound_project_wishes auto m (seen a_project m) h (is_seen m)).rising

is_asked : (auto : Bool) (p : Project) → IsRisingSaid p.said → IsAskedProject (asked_by auto p)
is_asked auto p h =
    let dev = names (seen a_project p.said).dev in
    let ws = wishes_of (counted auto (seen a_project p.said)) in
    let up = rising auto p.said h in
    record { dependencies = where_rises (is_regular dev) ws up; dev = where_rises (is_dev dev) ws up; optional = where_rises is_optional ws up }

is_apart : (auto : Bool) (p : Project) → IsRisingSaid p.said → IsApart (asked_by auto p)
is_apart auto p h =
    let dev = names (seen a_project p.said).dev in
    let ws = wishes_of (counted auto (seen a_project p.said)) in
    let up = rising auto p.said h in
    let optional = keys (rows_where is_optional ws) in
    record {
      dev = apart (is_regular dev) (is_dev dev) ws (dev_not_regular dev) up;
      optional = none_of_both (keys (rows_where (is_regular dev) ws)) (keys (rows_where (is_dev dev) ws)) optional
          (apart (is_regular dev) is_optional ws (optional_not_regular dev) up) (apart (is_dev dev) is_optional ws (optional_not_dev dev) up);
    }

-- ---- all projects

abbrev pub all_asked : Bool → List ProjectManifest → List AskedProject
all_asked auto ps = map (asked_by auto) (map project_of ps)

each : (auto : Bool) (P : AskedProject → Type 0) (R : ProjectManifest → Type 0) (ps : List ProjectManifest) → ((p : ProjectManifest) → R p → P (asked_by auto (project_of p))) → All R ps
    → AllByRecursion P (all_asked auto ps)
each auto P R ps f h =
    all_map P (asked_by auto) (map project_of ps) (all_map (λ z. P (asked_by auto z)) project_of ps
    (recursion_from_All (λ p. P (asked_by auto (project_of p))) ps (All-weaker R (λ p. P (asked_by auto (project_of p))) f ps h)))

folders_same : (auto : Bool) (ps : List ProjectManifest) → project_folders (all_asked auto ps) ≡ map folder_of ps
folders_same auto [] = refl
folders_same auto (p ∷ ps) = ap (λ (ks : List (List ℕ)). p.folder ∷ ks) (folders_same auto ps)

pub are_asked : (auto : Bool) (overrides : List Row) (catalogs : List CatalogEntry) (ps : List ProjectManifest) (all : List AskedProject) → all ≡ all_asked auto ps → Rises (keys overrides)
    → Rises (map folder_of ps) → All IsRisingProject ps → IsAsked (asked auto overrides catalogs all)
are_asked auto overrides catalogs ps all is rules folders h =
    subst (λ (qs : List AskedProject). IsAsked (asked auto overrides catalogs qs)) (sym is) (record {
      overrides = rules;
      folders = subst Rises (sym (folders_same auto ps)) folders;
      projects = each auto IsAskedProject IsRisingProject ps (λ p r. is_asked auto (project_of p) r) h;
    })

pub are_apart : (auto : Bool) (ps : List ProjectManifest) (all : List AskedProject) → all ≡ all_asked auto ps → All IsRisingProject ps → AllByRecursion IsApart all
are_apart auto ps all is h = subst (AllByRecursion IsApart) (sym is) (each auto IsApart IsRisingProject ps (λ p r. is_apart auto (project_of p) r) h)

pub have_folders : (auto : Bool) (ps : List ProjectManifest) (all : List AskedProject) → all ≡ all_asked auto ps → All HasFolder ps → AllByRecursion (λ (q : AskedProject). is_folder q.folder ≡ true) all
have_folders auto ps all is h = subst (AllByRecursion (λ (q : AskedProject). is_folder q.folder ≡ true)) (sym is) (each auto (λ (q : AskedProject). is_folder q.folder ≡ true) HasFolder ps (λ p r. r) h)

zipped : (auto : Bool) (ps : List Project) → AllZip (IsProjectOf no_hook no_rules auto) ps (map (asked_by auto) ps)
zipped auto [] = tt
zipped auto (p ∷ ps) = (record { face = seen a_project p.said; seen = is_seen p.said; is = refl }, zipped auto ps)

pub is_asked_of : (auto : Bool) (overrides : List Row) (catalogs : List CatalogEntry) (ps : List Project) (a : AskedLists) → a ≡ asked auto overrides catalogs (map (asked_by auto) ps)
    → IsAskedOf no_hook no_rules auto overrides catalogs ps a
is_asked_of auto overrides catalogs ps a is = subst (IsAskedOf no_hook no_rules auto overrides catalogs ps) (sym is) (record { auto = refl; overrides_are = refl; catalogs_are = refl; projects_are = zipped auto ps })
