-- What is known where points are passed.
use Rattle.std.proofs.Common.{◌≡◌, ◌∷◌, Option, Result, Ok, Err, refl, sym, ap, ◌∙◌, subst, true}
use Rattle.std.specs.Prelude.{IfOk}
use Rattle.pn_text.specs.Path.{Path}
use Rattle.pn_fs.specs.Tree.{Tree}
use Rattle.pn_fs.specs.Seen.{Seen, Keeps}
use Rattle.pn_manifest.specs.Said.{Said}
use Rattle.pn_graph.specs.declared.plain.Plain.{Plain}
use Rattle.pn_choice.specs.Graphs.{IsGraphOf}
use Rattle.pn_collect.specs.Packages.{ArePackages}
use Rattle.pn_status.specs.declared.status.Status.{Status}
use Rattle.pn_cmd.specs.declared.ready.Gathered.{Gathered}
use Rattle.pn_cmd.specs.World.{Trees, Inputs, trees}
use Rattle.pn_cmd.specs.Words.{is_install}
use Rattle.pn_fetch.specs.Listings.{AreListingsOf}
use Rattle.pn_cmd.specs.Names.{package_name, lock_name, modules_path}
use Rattle.pn_cmd.specs.Readies.{HasScan, IsGathered, IsSpaceReady, IsDeclaredReady, IsGoalReady, IsTreeReady}
use Rattle.pn_cmd.specs.Spaces.{IsSpace}
use Rattle.pn_cmd.specs.Stores.{IsDefault}
use Rattle.pn_workspace.specs.declared.search.Workspace.{Workspace}
use Rattle.pn_cmd.specs.Graph.{inputs_of, root}
use Rattle.pn_cmd.specs.Standing.{NothingStands}
use Rattle.pn_cmd.specs.Scans.{IsScanned}
use Rattle.pn_cmd.specs.Manifests.{Declares}
use Rattle.pn_cmd.specs.Known.{Space, Declared, Project, Graph, Sources, Fetched, Build, space_of, declared_of, project_of, graph_of, sources_of}
use Rattle.pn_cmd.specs.Plans.{IsPlanned}
use Rattle.pn_cmd.specs.Chain.{install, gathered, from_manifest, from_store, tree}

-- what is found from the packages that are reached on
record HasTree (k : Graph) (t : Trees) (b : Sources) : Type 0 where
  from : b.graph ≡ k
  scanned : IsScanned t.project (modules_path k.project.place)
  listed : ArePackages t.registry k.plain b.packages

-- and from the first point on
pub record HasGathered (i : Inputs) (t : Trees) (b : Sources) : Type 0 where
  pub from : b.graph.project ≡ project_of i.place b.graph.project.said
  pub declares : Declares t.project (package_name ∷ i.place) b.graph.project.said
  pub graph : IsGraphOf t.registry (inputs_of b.graph.project.said) root b.graph.plain
  pub scanned : IsScanned t.project (modules_path i.place)
  pub listed : ArePackages t.registry b.graph.plain b.packages

-- and of the plan
pub record HasPassed (i : Inputs) (t : Trees) (b : Build) : Type 0 where
  pub gathered : HasGathered i t b.fetched.sources
  pub listings : AreListingsOf t.registry b.fetched.sources.packages b.fetched.listings
  pub planned : IsPlanned b.fetched b.plan

has_tree : (k : Graph) (t : Trees) (b : Sources) → tree.Finds k t b → HasTree k t b
has_tree k t b n = record {
  from = ap (λ (c : Sources). c.graph) n.rest.is ∙ n.first.is;
  scanned = n.first.found;
  listed = subst (λ (c : Sources). ArePackages t.registry k.plain c.packages) (sym n.rest.is) (subst (λ (k : Graph). ArePackages t.registry k.plain n.rest.value) n.first.is n.rest.found);
}

pub has_gathered : (i : Inputs) (t : Trees) (b : Sources) → gathered.Finds i t b → HasGathered i t b
has_gathered i t b f =
    let m = f.rest.rest in
    let d = m.rest in
    let l = d.rest in
    let g = l.rest in
    let h = has_tree g.value t b g.rest in
    let place : f.rest.value.place ≡ i.place = ap (λ (k : Space). k.place) f.rest.first.is ∙ f.first.is in
    let graph : b.graph ≡ record { project = l.value; plain = g.first.value } = h.from ∙ g.first.is in
    let project : b.graph.project ≡ project_of i.place m.first.value =
    ap (λ (k : Graph). k.project) graph ∙ l.first.is ∙ d.first.is ∙ ap (λ (k : Declared). project_of k.space.place k.said) m.first.is ∙ ap (λ p. project_of p m.first.value) place in
    let own : m.first.value ≡ b.graph.project.said = sym (ap (λ (k : Project). k.said) project) in
    record {
      from = project ∙ ap (project_of i.place) own;
      declares = subst (Declares t.project (package_name ∷ i.place)) own (subst (λ p. Declares t.project (package_name ∷ p) m.first.value) place m.first.found);
      graph = subst (λ (k : Graph). IsGraphOf t.registry (inputs_of k.project.said) root k.plain) (sym graph) g.first.found;
      scanned = subst (λ (k : Project). IsScanned t.project (modules_path k.place)) (ap (λ (k : Graph). k.project) (sym h.from) ∙ project) h.scanned;
      listed = subst (λ (k : Graph). ArePackages t.registry k.plain b.packages) (sym h.from) h.listed;
    }

pub has_passed : (i : Inputs) (t : Trees) (b : Build) → install.Finds i t b → HasPassed i t b
has_passed i t b f =
    let fetched : b.fetched ≡ record { sources = f.value; listings = f.rest.first.value } = ap (λ (b : Build). b.fetched) f.rest.rest.is ∙ f.rest.first.is in
    record {
      gathered = subst (HasGathered i t) (sym (ap (λ (k : Fetched). k.sources) fetched)) (has_gathered i t f.value f.first);
      listings = subst (λ (k : Fetched). AreListingsOf t.registry k.sources.packages k.listings) (sym fetched) f.rest.first.found;
      planned = subst (λ (b : Build). IsPlanned b.fetched b.plan) (sym f.rest.rest.is) f.rest.rest.found;
    }

-- what is ready after the plain graph is ready from the lockfile on
pub goal_ready : (x : Result Gathered Status) (place : Path) (said : Said) (plain : Plain) (old mid registry later : Seen) → Keeps old mid → Keeps registry later → NothingStands old.tree (lock_name ∷ place) → IsGraphOf registry.tree (inputs_of said) root plain
    → IfOk x (IsTreeReady place said plain (trees mid later)) → IfOk x (IsGoalReady place said (trees old registry))
goal_ready (Err s) place said plain old mid registry later k l stands found h = tt
goal_ready (Ok all) place said plain old mid registry later k l stands found h = record {
  plain = plain;
  direct = h.direct;
  scan = subst (λ (t : Option Tree). HasScan t place all.scan) k.tree h.scan;
  finds = record {
    value = project_of place said;
    first = record { value = tt; found = stands; is = refl };
    rest = record {
      value = graph_of place said plain;
      first = record { value = plain; found = found; is = refl };
      rest = subst (λ (t : Option Tree). tree.Finds (graph_of place said plain) (record { project = t; registry = registry.tree }) (sources_of place said plain all.packages.items)) k.tree
          (subst (λ (r : Option Tree). tree.Finds (graph_of place said plain) (record { project = mid.tree; registry = r }) (sources_of place said plain all.packages.items)) l.tree h.finds);
    };
  };
}

-- what is ready after the virtual store's place is ready from there on
pub declared_ready : (x : Result Gathered Status) (place : Path) (w : Workspace) (said : Said) (t : Trees) → IsDefault (space_of place w) → IfOk x (IsGoalReady place said t) → IfOk x (IsDeclaredReady place w said t)
declared_ready (Err s) place w said t default h = tt
declared_ready (Ok all) place w said t default h = record {
  plain = h.plain;
  direct = h.direct;
  scan = h.scan;
  finds = record {
    value = project_of place said;
    first = record { value = tt; found = default; is = refl };
    rest = h.finds;
  };
}

-- what is ready after the manifest is ready from it on
pub space_ready : (x : Result Gathered Status) (place : Path) (w : Workspace) (said : Said) (old mid registry : Seen) → Keeps old mid → Declares old.tree (package_name ∷ place) said → IfOk x (IsDeclaredReady place w said (trees mid registry)) → IfOk x (IsSpaceReady place w (trees old registry))
space_ready (Err s) place w said old mid registry k declares h = tt
space_ready (Ok all) place w said old mid registry k declares h = record {
  said = said;
  plain = h.plain;
  direct = h.direct;
  scan = subst (λ (t : Option Tree). HasScan t place all.scan) k.tree h.scan;
  finds = record {
    value = declared_of place w said;
    first = record { value = said; found = declares; is = refl };
    rest = subst (λ (t : Option Tree). from_store.Finds (declared_of place w said) (record { project = t; registry = registry.tree }) (sources_of place said h.plain all.packages.items)) k.tree h.finds;
  };
}

-- what is ready after the workspace is gathered from the start
pub ready_from : (r : Result Gathered Status) (i : Inputs) (w : Workspace) (old mid registry : Seen) → Keeps old mid → is_install i.words ≡ true → IsSpace old.tree i.place w
    → IfOk r (IsSpaceReady i.place w (trees mid registry)) → IfOk r (IsGathered i (trees old registry))
ready_from (Err s) i w old mid registry k words space h = tt
ready_from (Ok all) i w old mid registry k words space h = record {
  said = h.said;
  plain = h.plain;
  direct = h.direct;
  scan = subst (λ (t : Option Tree). HasScan t i.place all.scan) k.tree h.scan;
  finds = record {
    value = i.place;
    first = record { value = tt; found = words; is = refl };
    rest = record {
      value = space_of i.place w;
      first = record { value = w; found = space; is = refl };
      rest = subst (λ (t : Option Tree). from_manifest.Finds (space_of i.place w) (record { project = t; registry = registry.tree }) (sources_of i.place h.said h.plain all.packages.items)) k.tree h.finds;
    };
  };
}
