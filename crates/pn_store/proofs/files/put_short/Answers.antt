use Rattle.std.proofs.Common.{Some, sym}
use Rattle.std.proofs.lemmas.Result.{err_from_is_err_and}
use Rattle.pn_storecore.specs.declared.step.Place.TheVariants.{Files}
use Rattle.pn_storecore.specs.declared.step.StoreStep.TheVariants.{PublishFile}
use Rattle.pn_storecore.specs.Held.{files_with, no_files}
use Rattle.pn_store.proofs.HeldLemmas.{works_twice}
use Rattle.pn_store.proofs.MadeLemmas.{none_both, none_one, none_at_most, reads_publish}
use Rattle.pn_store.proofs.MetLemmas.{met_between, refused_behind, works_left, left_before, left_some}
use Rattle.pn_store.proofs.files.put_short.Goals as goal

pub returns-in_err-start-clause-refused : goal.returns-in_err-start-clause-refused
returns-in_err-start-clause-refused g c =
    let store = g.D.StoreDisk.seen in
    left_before c.from_residual.result (g.R.ReadFs.seen c.args.from.now).tree c.args.path.now c.args.k (store c.args.disk.now) (store c.start.new.disk) c.start.ensures.unpublished

pub returns-in_err-put-clause-refused : goal.returns-in_err-put-clause-refused
returns-in_err-put-clause-refused g c =
    let store = g.D.StoreDisk.seen in
    let old = store c.args.disk.now in
    let one = store c.start.new.disk in
    let two = store c.fill.new.disk in
    left_before c.from_residual-in_err-put.result (g.R.ReadFs.seen c.args.from.now).tree c.args.path.now c.args.k old two (none_both old one two c.start.ensures.unpublished c.fill.ensures.unpublished)

pub returns-in_err-put-clause-works : goal.returns-in_err-put-clause-works
returns-in_err-put-clause-works g c =
    let store = g.D.StoreDisk.seen in
    works_twice c.grew_law.ensures c.claims_law.ensures c.args.k (store c.args.disk.now) (store c.start.new.disk) (store c.fill.new.disk) c.start.ensures.works c.fill.ensures.works

pub returns-in_err-meet-clause-refused : goal.returns-in_err-meet-clause-refused
returns-in_err-meet-clause-refused g c =
    let store = g.D.StoreDisk.seen in
    let old = store c.args.disk.now in
    let one = store c.start.new.disk in
    let two = store c.fill.new.disk in
    let three = store c.meet.new.disk in
    left_before c.from_residual-in_err-meet.result (g.R.ReadFs.seen c.args.from.now).tree c.args.path.now c.args.k old three
    (none_both old two three (none_both old one two c.start.ensures.unpublished c.fill.ensures.unpublished) (reads_publish two three c.meet.ensures.left.own))

pub returns-in_err-meet-clause-works : goal.returns-in_err-meet-clause-works
returns-in_err-meet-clause-works g c =
    let store = g.D.StoreDisk.seen in
    let laws = c.grew_law.ensures in
    let claims = c.claims_law.ensures in
    let old = store c.args.disk.now in
    let one = store c.start.new.disk in
    let two = store c.fill.new.disk in
    works_left laws claims c.args.k old two (store c.meet.new.disk) (works_twice laws claims c.args.k old one two c.start.ensures.works c.fill.ensures.works) c.meet.ensures.left c.meet.ensures.grew c.meet.ensures.later

pub returns-in_err-meet-clause-fault : goal.returns-in_err-meet-clause-fault
returns-in_err-meet-clause-fault g c =
    let store = g.D.StoreDisk.seen in
    let source = g.R.ReadFs.seen in
    let old = store c.args.disk.now in
    let one = store c.start.new.disk in
    let two = store c.fill.new.disk in
    let works = works_twice c.grew_law.ensures c.claims_law.ensures c.args.k old one two c.start.ensures.works c.fill.ensures.works in
    let p = err_from_is_err_and c.from_residual-in_err-meet.result c.from_residual-in_err-meet.ensures.1 in
    rw (p.1, p.2) (refused_behind c.was_law.ensures c.args.path.now (source c.args.from.now) (source c.fill.new.from) (source c.meet.new.from) old two (store c.meet.new.disk) _ c.fill.ensures.source works.grew works.later c.in_err-meet.ensures.fault)

pub move_to-requires : goal.move_to-requires
move_to-requires g c =
    let filled = c.in_ok-put.ensures.filled in
    (filled.bytes, c.meet.ensures.left.held c.args.k (files_with no_files 0 (Some filled.bytes)) filled.holds, record { addressed = sym filled.digest; short = filled.short })

pub returns-in_err-move_to-clause-refused : goal.returns-in_err-move_to-clause-refused
returns-in_err-move_to-clause-refused g c =
    let store = g.D.StoreDisk.seen in
    let k = c.args.k in
    let old = store c.args.disk.now in
    let one = store c.start.new.disk in
    let two = store c.fill.new.disk in
    let three = store c.meet.new.disk in
    let new = store c.move_to.new.disk in
    let put = c.in_ok-put.put in
    let filled = c.in_ok-put.ensures.filled in
    let none = none_both old two three (none_both old one two c.start.ensures.unpublished c.fill.ensures.unpublished) (reads_publish two three c.meet.ensures.left.own) in
    let p = err_from_is_err_and c.from_residual-in_err-move_to.result c.from_residual-in_err-move_to.ensures.1 in
    rw (p.1, p.2) (left_some (g.R.ReadFs.seen c.args.from.now).tree c.args.path.now k old three new filled.bytes put.digest _ filled.digest filled.from
    (none_at_most (PublishFile k 0 put.digest) old three new none c.move_to.ensures.at_most) c.in_err-move_to.ensures.fault)

pub returns-in_err-move_to-clause-works : goal.returns-in_err-move_to-clause-works
returns-in_err-move_to-clause-works g c =
    let store = g.D.StoreDisk.seen in
    let laws = c.grew_law.ensures in
    let claims = c.claims_law.ensures in
    let k = c.args.k in
    let old = store c.args.disk.now in
    let one = store c.start.new.disk in
    let two = store c.fill.new.disk in
    let three = store c.meet.new.disk in
    works_twice laws claims k old three (store c.move_to.new.disk) (works_left laws claims k old two three (works_twice laws claims k old one two c.start.ensures.works c.fill.ensures.works) c.meet.ensures.left c.meet.ensures.grew c.meet.ensures.later) c.move_to.ensures.works

pub returns-clause-works : goal.returns-clause-works
returns-clause-works g c =
    let store = g.D.StoreDisk.seen in
    let laws = c.grew_law.ensures in
    let claims = c.claims_law.ensures in
    let k = c.args.k in
    let old = store c.args.disk.now in
    let one = store c.start.new.disk in
    let two = store c.fill.new.disk in
    let three = store c.meet.new.disk in
    works_twice laws claims k old three (store c.move_to.new.disk) (works_left laws claims k old two three (works_twice laws claims k old one two c.start.ensures.works c.fill.ensures.works) c.meet.ensures.left c.meet.ensures.grew c.meet.ensures.later) c.move_to.ensures.works

pub returns-clause-published : goal.returns-clause-published
returns-clause-published g c =
    let store = g.D.StoreDisk.seen in
    let old = store c.args.disk.now in
    let one = store c.start.new.disk in
    let two = store c.fill.new.disk in
    let three = store c.meet.new.disk in
    let none = none_both old two three (none_both old one two c.start.ensures.unpublished c.fill.ensures.unpublished) (reads_publish two three c.meet.ensures.left.own) in
    none_one (PublishFile c.args.k 0 c.in_ok-put.put.digest) old three (store c.move_to.new.disk) none c.in_ok-move_to.ensures.published

pub returns-clause-put : goal.returns-clause-put
returns-clause-put g c =
    let store = g.D.StoreDisk.seen in
    let source = g.R.ReadFs.seen in
    let laws = c.grew_law.ensures in
    let claims = c.claims_law.ensures in
    let k = c.args.k in
    let old = store c.args.disk.now in
    let one = store c.start.new.disk in
    let two = store c.fill.new.disk in
    let three = store c.meet.new.disk in
    let new = store c.move_to.new.disk in
    let put = c.in_ok-put.put in
    let filled = c.in_ok-put.ensures.filled in
    let held = c.meet.ensures.left.held k (files_with no_files 0 (Some filled.bytes)) filled.holds in
    let stands = c.in_ok-move_to.ensures.stands filled.bytes held in
    let first = works_twice laws claims k old one two c.start.ensures.works c.fill.ensures.works in
    let works = works_twice laws claims k old three new (works_left laws claims k old two three first c.meet.ensures.left c.meet.ensures.grew c.meet.ensures.later) c.move_to.ensures.works in
    record {
      bytes = filled.bytes;
      digest = filled.digest;
      size = filled.size;
      short = filled.short;
      from = filled.from;
      met = record {
        mid = three;
        unpublished = none_both old two three (none_both old one two c.start.ensures.unpublished c.fill.ensures.unpublished) (reads_publish two three c.meet.ensures.left.own);
        later = c.move_to.ensures.works.grew;
        met = met_between c.was_law.ensures (source c.args.from.now).tree (source c.fill.new.from).tree c.args.path.now put.digest old two three three c.fill.ensures.source.tree first.grew (laws.none three) c.in_ok-meet.ensures.met;
      };
      was = c.was_law.ensures.now old new Files put.digest filled.bytes works.grew stands;
      stands = c.stands_law.ensures.object new Files put.digest filled.bytes stands;
    }
