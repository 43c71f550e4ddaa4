use Rattle.std.proofs.Common.{◌≡◌, ◌∙◌, ◌++◌, ◌-◌, [], take, ap, refl, sym, arith}
use Rattle.pn_fs.proofs.SeenLemmas.{keeps_on}
use Rattle.pn_fs.specs.Seen.{GaveAtMost}
use Rattle.pn_text.proofs.Results.{for_some, if_some}
use Rattle.pn_text.specs.declared.limits.TheConstants.{ENTRY_LIMIT}
use Rattle.pn_scan.specs.Looks.{GaveListing, GaveListings}
use Rattle.pn_scan.specs.Turns.{FindsBelow, Lists}
use Rattle.pn_scan.proofs.GaveLemmas.{most_same, most_on, most_more, listings_on, no_listings}
use Rattle.pn_scan.proofs.WalksLemmas.{first_to, next_folder, next_managed, turned, all_found, walk_refused}
use Rattle.pn_scan.proofs.walk.walk.Goals as goal

pub folders-init : goal.folders-init
folders-init g c = record {
  kept = record { tree = refl; touched = refl; later = omega arith };
  gave = λ t told. most_same (g.P.ReadFs.seen c.args.fs.now) 0 0;
  within = omega arith;
  walks = λ t told. first_to t c.args.managed.now c.args.ours.marked.items c.args.ours.standing.items (c.requires.looked t told) (c.requires.once t told);
}

pub list_folder-requires : goal.list_folder-requires
list_folder-requires g c = λ t told.
    let inv = c.folders.invariant in
    next_folder t c.args.managed.now c.args.ours.standing.items c.folders.todo.items c.pop.new.self.items c.in-Some.folder c.folders.found.items c.folders.listed (inv.walks t (sym inv.kept.tree ∙ told)) c.in-Some.ensures.items

pub folders-preserved : goal.folders-preserved
folders-preserved g c =
    let inv = c.folders.invariant in
    let old = g.P.ReadFs.seen c.args.fs.now in
    let mid = g.P.ReadFs.seen c.folders.fs in
    let new = g.P.ReadFs.seen c.list_folder.new.fs in
    let gave = for_some (λ t. GaveAtMost mid 0 c.in-Ok.count new) _ c.in-Ok.ensures.gave_names in
    let lists = for_some (λ t. Lists t c.in-Some.folder c.in-Ok.count c.pop.new.self.items c.list_folder.new.todo.items c.folders.found.items c.list_folder.new.found.items) _ c.in-Ok.ensures.lists in
    record {
      kept = keeps_on old mid new inv.kept c.in-Ok.ensures.kept;
      gave = λ t told. most_on old mid new 0 c.folders.listed 0 c.in-Ok.count 0 _ (inv.gave t told) (gave t (inv.kept.tree ∙ told)) (omega arith) (omega arith);
      within = omega (arith, inv.within, c.in-Ok.ensures.room);
      walks = λ t told.
          turned t (g.met.P.ReadFs.well_formed c.args.fs.now t told) c.args.managed.now c.requires.apart c.args.ours.standing.items c.folders.todo.items c.pop.new.self.items c.list_folder.new.todo.items c.in-Some.folder
          c.folders.found.items c.list_folder.new.found.items c.folders.listed c.in-Ok.count _ (inv.walks t told) c.in-Some.ensures.items (lists t (inv.kept.tree ∙ told)) refl;
    }

pub returns-in-Err-clause-gave : goal.returns-in-Err-clause-gave
returns-in-Err-clause-gave g c =
    let inv = c.folders.invariant in
    let old = g.P.ReadFs.seen c.args.fs.now in
    let mid = g.P.ReadFs.seen c.folders.fs in
    let new = g.P.ReadFs.seen c.list_folder.new.fs in
    let gave = for_some (λ t. GaveListing t c.in-Some.folder 0 mid new) _ c.in-Err.ensures.gave in
    if_some (λ t. GaveListings t c.args.managed.now 0 ENTRY_LIMIT old new) old.tree (λ t told.
    listings_on t c.args.managed.now c.in-Some.folder 0 c.folders.listed 0 0 ENTRY_LIMIT old mid new
    (next_managed t c.args.managed.now c.args.ours.standing.items c.folders.todo.items c.pop.new.self.items c.in-Some.folder c.folders.found.items c.folders.listed (inv.walks t told) c.in-Some.ensures.items)
    (inv.gave t told) (gave t (inv.kept.tree ∙ told)) (omega arith) inv.within)

pub returns-in-Err-clause-fault : goal.returns-in-Err-clause-fault
returns-in-Err-clause-fault g c =
    let inv = c.folders.invariant in
    walk_refused (g.P.ReadFs.seen c.args.fs.now) (g.P.ReadFs.seen c.folders.fs) (g.P.ReadFs.seen c.list_folder.new.fs) c.args.managed.now c.requires.apart c.args.ours.standing.items
    c.folders.todo.items c.pop.new.self.items c.in-Some.folder c.folders.found.items c.folders.listed _ c.in-Err.fault (g.met.P.ReadFs.well_formed c.args.fs.now) inv.kept inv.walks c.in-Some.ensures.items inv.within refl c.in-Err.ensures.fault

pub returns-clause-below : goal.returns-clause-below
returns-clause-below g c =
    let inv = c.folders.invariant in
    let none : c.folders.todo.items ≡ [] =
    c.in_default.ensures.items ∙ ap (λ ps. ps ++ []) (c.in_default.ensures.rest ∙ ap (λ n. take (n - 1) c.folders.todo.items) c.in_default.ensures.cases.0) in
    if_some (λ t. FindsBelow t c.args.managed.now c.args.ours.standing.items c.folders.found.items) (g.P.ReadFs.seen c.args.fs.now).tree (λ t told.
    all_found t (g.met.P.ReadFs.well_formed c.args.fs.now t told) c.args.managed.now c.args.ours.standing.items c.folders.todo.items c.folders.found.items c.folders.listed none inv.within (inv.walks t told))

pub returns-clause-gave_few : goal.returns-clause-gave_few
returns-clause-gave_few g c =
    let inv = c.folders.invariant in
    let old = g.P.ReadFs.seen c.args.fs.now in
    if_some (λ t. GaveAtMost old 0 ENTRY_LIMIT (g.P.ReadFs.seen c.folders.fs)) old.tree (λ t told. most_more old (g.P.ReadFs.seen c.folders.fs) 0 c.folders.listed 0 ENTRY_LIMIT (inv.gave t told) (omega arith) inv.within)

pub returns-clause-gave : goal.returns-clause-gave
returns-clause-gave g c =
    let inv = c.folders.invariant in
    let old = g.P.ReadFs.seen c.args.fs.now in
    if_some (λ t. GaveListings t c.args.managed.now 0 ENTRY_LIMIT old (g.P.ReadFs.seen c.folders.fs)) old.tree (λ t told.
    no_listings t c.args.managed.now 0 c.folders.listed 0 ENTRY_LIMIT old (g.P.ReadFs.seen c.folders.fs) (omega arith) inv.within (inv.gave t told))
