use Rattle.std.proofs.Common.{◌≡◌, ◌++◌, ◌-◌, [], ap, sym, ◌∙◌, take, true, false}
use Rattle.pn_fs.specs.Calls.{kind_of}
use Rattle.pn_fs.specs.Seen.{GaveNothing}
use Rattle.pn_fs.proofs.SeenLemmas.{keeps_on}
use Rattle.pn_text.proofs.Results.{for_some, if_some}
use Rattle.pn_scan.specs.Looks.{IsNoFolder, StandsOrNot}
use Rattle.pn_scan.proofs.GaveLemmas.{nothing_on}
use Rattle.pn_scan.proofs.UpsLemmas.{all_down, none_down, one_down, absent_kind, folder_kind, no_folder_down, other_kind}
use Rattle.pn_scan.proofs.ours.stands.Goals as goal

pub returns-in-Absent-clause-stands : goal.returns-in-Absent-clause-stands
returns-in-Absent-clause-stands g c =
    let inv = c.ways.invariant in
    let kind = for_some (λ t. c.in-Ok.entry ≡ kind_of (t c.in-Some.next)) _ c.in-Ok.ensures.kind in
    if_some (λ t. StandsOrNot t c.args.path.now false) _ (λ t told.
    none_down t (g.met.P.ReadFs.well_formed c.args.fs.now t told) c.args.path.now c.ways.ways.items c.pop.new.self.items c.in-Some.next c.in-Some.ensures.items (inv.downs t told)
    (absent_kind (t c.in-Some.next) (sym c.in-Absent.is ∙ kind t (inv.kept.tree ∙ told))))

pub returns-in_default-entry-clause-fault : goal.returns-in_default-entry-clause-fault
returns-in_default-entry-clause-fault g c =
    let inv = c.ways.invariant in
    let kind = for_some (λ t. c.in-Ok.entry ≡ kind_of (t c.in-Some.next)) _ c.in-Ok.ensures.kind in
    if_some (λ t. IsNoFolder t c.args.path.now c.in-Some.next) _ (λ t told.
    let o = other_kind (t c.in-Some.next) c.in-Ok.entry (kind t (inv.kept.tree ∙ told)) c.in_default-entry.not-Folder c.in_default-entry.not-Absent in
    no_folder_down t (g.met.P.ReadFs.well_formed c.args.fs.now t told) c.args.path.now c.ways.ways.items c.pop.new.self.items c.in-Some.next c.in-Some.ensures.items (inv.downs t told) o.0 o.1 o.2)

pub ways-preserved : goal.ways-preserved
ways-preserved g c =
    let inv = c.ways.invariant in
    let kind = for_some (λ t. c.in-Ok.entry ≡ kind_of (t c.in-Some.next)) _ c.in-Ok.ensures.kind in
    let gave = for_some (λ t. GaveNothing (g.P.ReadFs.seen c.ways.fs) (g.P.ReadFs.seen c.kind.new.self)) _ c.in-Ok.ensures.gave in
    record {
      kept = keeps_on (g.P.ReadFs.seen c.args.fs.now) (g.P.ReadFs.seen c.ways.fs) (g.P.ReadFs.seen c.kind.new.self) inv.kept c.in-Ok.ensures.kept;
      gave = λ t told. nothing_on (g.P.ReadFs.seen c.args.fs.now) (g.P.ReadFs.seen c.ways.fs) (g.P.ReadFs.seen c.kind.new.self) (inv.gave t told) (gave t (inv.kept.tree ∙ told));
      downs = λ t told.
          one_down t c.args.path.now c.ways.ways.items c.pop.new.self.items c.in-Some.next c.in-Some.ensures.items
          (folder_kind (t c.in-Some.next) (sym c.in-Folder.is ∙ kind t (inv.kept.tree ∙ told))) (inv.downs t told);
    }

pub returns-clause-stands : goal.returns-clause-stands
returns-clause-stands g c =
    let inv = c.ways.invariant in
    let none : c.ways.ways.items ≡ [] =
    c.in_default.ensures.items ∙ ap (λ ps. ps ++ []) (c.in_default.ensures.rest ∙ ap (λ n. take (n - 1) c.ways.ways.items) c.in_default.ensures.cases.0) in
    if_some (λ t. StandsOrNot t c.args.path.now true) _ (λ t told. all_down t (g.met.P.ReadFs.well_formed c.args.fs.now t told) c.args.path.now c.ways.ways.items none (inv.downs t told))
