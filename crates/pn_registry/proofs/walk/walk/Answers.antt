use Rattle.std.proofs.Common.{◌≡◌, ◌∙◌, ◌++◌, ◌∷◌, ◌-◌, [], take, ap, refl, sym, subst, arith, map}
use Rattle.std.specs.List.{All, Contains}
use Rattle.std.proofs.lemmas.List.Elements.{All-nil, Contains-push}
use Rattle.pn_fs.proofs.SeenLemmas.{keeps_on}
use Rattle.pn_fs.specs.Seen.{GaveAtMost}
use Rattle.pn_registry.proofs.GivenLemmas.{most_same, most_on}
use Rattle.pn_registry.specs.Below.{AllWithin, HasFew}
use Rattle.pn_registry.specs.Files.{IsFilesOf}
use Rattle.pn_registry.specs.Listed.{file_of, placed, IsFitFile}
use Rattle.pn_registry.specs.Turns.{Lists}
use Rattle.pn_text.proofs.Results.{for_some, if_some}
use Rattle.pn_registry.proofs.Walks.{Walks, at_first, turned, files_found, few_seen}
use Rattle.pn_registry.proofs.Within.{within_itself, within_front, within_last}
use Rattle.pn_registry.proofs.Refusals.{walk_refused}
use Rattle.pn_registry.proofs.walk.walk.Goals as goal

pub folders-init : goal.folders-init
folders-init g c =
    let todo : c.push.new.self.items ≡ c.args.at.now ∷ [] = cc (c.in_ok-push.ensures.items, c.new-todo.ensures.items, c.in_ok-first.ensures) in
    record {
      kept = record { tree = refl; touched = refl; later = omega arith };
      gave = most_same (g.R.ReadFs.seen c.args.registry.now) 0 0;
      within = omega arith;
      all_within = subst (AllWithin c.args.at.now) (sym todo) (within_itself c.args.at.now, tt);
      fit = subst (All (IsFitFile c.args.at.now)) (sym c.new-found.ensures.items) (All-nil (IsFitFile c.args.at.now));
      walks = λ t told. subst (λ d. Walks t c.args.at.now d (map (placed c.args.at.now) c.new-found.result.items) 0) (sym todo)
          (subst (λ f. Walks t c.args.at.now (c.args.at.now ∷ []) (map (placed c.args.at.now) f) 0) (sym c.new-found.ensures.items) (at_first t c.args.at.now (c.requires.folder t told)));
    }

pub list_folder-requires-clause-folder : goal.list_folder-requires-clause-folder
list_folder-requires-clause-folder g c = λ t told.
    let inv = c.folders.invariant in
    (inv.walks t (sym inv.kept.tree ∙ told)).folders c.in-Some.folder (subst (λ d. Contains d c.in-Some.folder) (sym c.in-Some.ensures.items) (Contains-push c.pop.new.self.items c.in-Some.folder))

pub list_folder-requires-clause-within : goal.list_folder-requires-clause-within
list_folder-requires-clause-within g c = within_last c.args.at.now c.pop.new.self.items c.in-Some.folder (subst (AllWithin c.args.at.now) c.in-Some.ensures.items c.folders.invariant.all_within)

pub list_folder-requires-clause-all_within : goal.list_folder-requires-clause-all_within
list_folder-requires-clause-all_within g c = within_front c.args.at.now c.pop.new.self.items (c.in-Some.folder ∷ []) (subst (AllWithin c.args.at.now) c.in-Some.ensures.items c.folders.invariant.all_within)

pub folders-preserved : goal.folders-preserved
folders-preserved g c =
    let inv = c.folders.invariant in
    record {
      kept = keeps_on (g.R.ReadFs.seen c.args.registry.now) (g.R.ReadFs.seen c.folders.registry) (g.R.ReadFs.seen c.list_folder.new.registry) inv.kept c.in-Ok.ensures.kept;
      gave = λ t told. most_on (g.R.ReadFs.seen c.args.registry.now) (g.R.ReadFs.seen c.folders.registry) (g.R.ReadFs.seen c.list_folder.new.registry) 0 c.folders.listed 0 c.in-Ok.count 0 _ (inv.gave t told)
          (for_some (λ t. GaveAtMost (g.R.ReadFs.seen c.folders.registry) 0 c.in-Ok.count (g.R.ReadFs.seen c.list_folder.new.registry)) _ c.in-Ok.ensures.gave_names t (inv.kept.tree ∙ told)) (omega arith) (omega arith);
      within = omega (arith, inv.within, c.in-Ok.ensures.room);
      all_within = c.in-Ok.ensures.all_within;
      fit = c.in-Ok.ensures.fit;
      walks = λ t told.
          turned t (g.met.R.ReadFs.well_formed c.args.registry.now t told) c.args.at.now c.in-Some.folder c.folders.todo.items c.pop.new.self.items c.list_folder.new.todo.items
          (map (placed c.args.at.now) c.folders.found.items) (map (placed c.args.at.now) c.list_folder.new.found.items) c.folders.listed c.in-Ok.count _
          (inv.walks t told) c.in-Some.ensures.items
          (for_some (λ t. Lists t c.args.at.now c.in-Some.folder c.in-Ok.count c.pop.new.self.items c.list_folder.new.todo.items (map (placed c.args.at.now) c.folders.found.items) (map (placed c.args.at.now) c.list_folder.new.found.items)) _ c.in-Ok.ensures.lists t (inv.kept.tree ∙ told)) refl;
    }

pub returns-in-Err-clause-fault : goal.returns-in-Err-clause-fault
returns-in-Err-clause-fault g c =
    let inv = c.folders.invariant in
    walk_refused (g.R.ReadFs.seen c.args.registry.now) (g.R.ReadFs.seen c.folders.registry) (g.R.ReadFs.seen c.list_folder.new.registry) c.args.at.now c.in-Some.folder c.folders.todo.items c.pop.new.self.items
    (map (placed c.args.at.now) c.folders.found.items) c.folders.listed c.args.limit _ c.in-Err.fault
    (g.met.R.ReadFs.well_formed c.args.registry.now) inv.kept inv.walks c.in-Some.ensures.items inv.within refl c.in-Err.ensures.fault

pub returns-clause-files : goal.returns-clause-files
returns-clause-files g c =
    let inv = c.folders.invariant in
    let none : c.folders.todo.items ≡ [] =
    c.in_default.ensures.items ∙ ap (λ ps. ps ++ []) (c.in_default.ensures.rest ∙ ap (λ n. take (n - 1) c.folders.todo.items) c.in_default.ensures.cases.0) in
    if_some (λ t. IsFilesOf t c.args.at.now (map file_of c.folders.found.items)) (g.R.ReadFs.seen c.args.registry.now).tree (λ t told.
    files_found t (g.met.R.ReadFs.well_formed c.args.registry.now t told) c.args.at.now (c.requires.folder t told) c.folders.found.items c.folders.listed
    (subst (λ d. Walks t c.args.at.now d (map (placed c.args.at.now) c.folders.found.items) c.folders.listed) none (inv.walks t told)))

pub returns-clause-few : goal.returns-clause-few
returns-clause-few g c =
    let inv = c.folders.invariant in
    let none : c.folders.todo.items ≡ [] =
    c.in_default.ensures.items ∙ ap (λ ps. ps ++ []) (c.in_default.ensures.rest ∙ ap (λ n. take (n - 1) c.folders.todo.items) c.in_default.ensures.cases.0) in
    if_some (λ t. HasFew t c.args.at.now c.args.limit) (g.R.ReadFs.seen c.args.registry.now).tree (λ t told.
    few_seen t (g.met.R.ReadFs.well_formed c.args.registry.now t told) c.args.at.now (c.requires.folder t told) (map (placed c.args.at.now) c.folders.found.items) c.folders.listed
    (subst (λ d. Walks t c.args.at.now d (map (placed c.args.at.now) c.folders.found.items) c.folders.listed) none (inv.walks t told)) c.args.limit inv.within)
