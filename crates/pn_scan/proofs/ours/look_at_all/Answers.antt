use Rattle.std.proofs.Common.{◌≡◌, ◌+◌, ◌++◌, ◌∷◌, ◌∙◌, [], ap, sym, subst, arith, take, drop, length}
use Rattle.std.specs.Prelude.{suc}
use Rattle.std.proofs.lemmas.List.{take_more}
use Rattle.pn_fs.specs.Seen.{GaveAtMost}
use Rattle.pn_fs.proofs.SeenLemmas.{keeps_on}
use Rattle.pn_text.proofs.Results.{for_some, if_some}
use Rattle.pn_scan.specs.Managed.{Managed}
use Rattle.pn_scan.specs.Looks.{GaveListing, GaveListings, IsLook, LookRefused, marker_bytes}
use Rattle.pn_scan.proofs.GaveLemmas.{listings_on, most_on, no_listings}
use Rattle.pn_scan.proofs.AreLookedLemmas.{Looks, all_markers, front_markers, look_turned, ours_refused, cut_at, one_marker, root_managed}
use Rattle.pn_scan.proofs.ours.look_at_all.Goals as goal

pub loop-one-preserved : goal.loop-one-preserved
loop-one-preserved g c =
    let inv = c.loop-one.invariant in
    let old = g.P.ReadFs.seen c.args.fs.now in
    let mid = g.P.ReadFs.seen c.loop-one.fs in
    let new = g.P.ReadFs.seen c.look_at.new.fs in
    let managed = c.args.managed.now in
    let i = c.loop-one.one-index in
    let m = c.one-item.result in
    let done = take i managed in
    let more : take (i + 1) managed ≡ done ++ m ∷ [] = take_more managed i m c.loop-one-test.true ∙ ap (λ (x : Managed). done ++ x ∷ []) (sym c.one-item.is) in
    let cut : managed ≡ done ++ m ∷ drop (suc i) managed = cut_at managed i m c.loop-one-test.true c.one-item.is in
    let pair : (m.0, c.as_str.result.now) ≡ m = λ k. (m.0, c.as_str.ensures k) in
    let look = for_some (λ t. IsLook t (m.0, c.as_str.result.now) c.in-Ok.state) _ c.in-Ok.ensures.looked in
    let gave = for_some (λ t. GaveAtMost mid (length c.as_str.result.now + 1) 0 new) _ c.in-Ok.ensures.gave_few in
    record {
      kept = keeps_on old mid new inv.kept c.in-Ok.ensures.kept;
      gave = λ t told.
          most_on old mid new (marker_bytes done) 0 (length c.as_str.result.now + 1) 0 (marker_bytes (take (i + 1) managed)) 0 (inv.gave t told) (gave t (inv.kept.tree ∙ told))
          (one_marker done m (length c.as_str.result.now) (take (i + 1) managed) more (ap length c.as_str.ensures)) (omega arith);
      looks = λ t told.
          subst (λ ms. Looks t ms c.take_in.new.marked.items c.take_in.new.standing.items) (sym more)
          (look_turned t (g.met.P.ReadFs.well_formed c.args.fs.now t told) managed done (drop (suc i) managed) m c.loop-one.marked.items c.take_in.new.marked.items c.loop-one.standing.items c.take_in.new.standing.items c.in-Ok.state
          c.requires.apart cut (inv.looks t told) (subst (λ (z : Managed). IsLook t z c.in-Ok.state) pair (look t (inv.kept.tree ∙ told))) c.in_ok-take_in.ensures.marked c.in_ok-take_in.ensures.standing);
    }

pub returns-in-Err-clause-gave : goal.returns-in-Err-clause-gave
returns-in-Err-clause-gave g c =
    let inv = c.loop-one.invariant in
    let old = g.P.ReadFs.seen c.args.fs.now in
    let mid = g.P.ReadFs.seen c.loop-one.fs in
    let new = g.P.ReadFs.seen c.look_at.new.fs in
    let managed = c.args.managed.now in
    let i = c.loop-one.one-index in
    let m = c.one-item.result in
    let done = take i managed in
    let rest = drop (suc i) managed in
    let cut : managed ≡ done ++ m ∷ rest = cut_at managed i m c.loop-one-test.true c.one-item.is in
    let n = length c.as_str.result.now in
    let gave = for_some (λ t. GaveListing t m.0 (n + 1) mid new) _ c.in-Err.ensures.gave in
    if_some (λ t. GaveListings t managed (marker_bytes managed) 0 old new) old.tree (λ t told.
    listings_on t managed m.0 (marker_bytes done) 0 (n + 1) (marker_bytes managed) 0 old mid new (root_managed managed done rest m cut) (inv.gave t told) (gave t (inv.kept.tree ∙ told))
    (all_markers managed done rest m n cut (ap length c.as_str.ensures)) (omega arith))

pub returns-in-Err-clause-fault : goal.returns-in-Err-clause-fault
returns-in-Err-clause-fault g c =
    let inv = c.loop-one.invariant in
    let old = g.P.ReadFs.seen c.args.fs.now in
    let mid = g.P.ReadFs.seen c.loop-one.fs in
    let new = g.P.ReadFs.seen c.look_at.new.fs in
    let managed = c.args.managed.now in
    let i = c.loop-one.one-index in
    let m = c.one-item.result in
    let pair : (m.0, c.as_str.result.now) ≡ m = λ k. (m.0, c.as_str.ensures k) in
    ours_refused old mid new managed (take i managed) (drop (suc i) managed) m c.loop-one.marked.items c.loop-one.standing.items c.in-Err.fault (cut_at managed i m c.loop-one-test.true c.one-item.is) inv.kept inv.looks
    (subst (λ (z : Managed). LookRefused z mid new c.in-Err.fault) pair c.in-Err.ensures.fault)

pub returns-in_err-take_in-clause-gave : goal.returns-in_err-take_in-clause-gave
returns-in_err-take_in-clause-gave g c =
    let inv = c.loop-one.invariant in
    let old = g.P.ReadFs.seen c.args.fs.now in
    let mid = g.P.ReadFs.seen c.loop-one.fs in
    let new = g.P.ReadFs.seen c.look_at.new.fs in
    let managed = c.args.managed.now in
    let i = c.loop-one.one-index in
    let m = c.one-item.result in
    let done = take i managed in
    let rest = drop (suc i) managed in
    let cut : managed ≡ done ++ m ∷ rest = cut_at managed i m c.loop-one-test.true c.one-item.is in
    let n = length c.as_str.result.now in
    let gave = for_some (λ t. GaveAtMost mid (n + 1) 0 new) _ c.in-Ok.ensures.gave_few in
    if_some (λ t. GaveListings t managed (marker_bytes managed) 0 old new) old.tree (λ t told.
    no_listings t managed (marker_bytes managed) 0 (marker_bytes managed) 0 old new (omega arith) (omega arith)
    (most_on old mid new (marker_bytes done) 0 (n + 1) 0 (marker_bytes managed) 0 (inv.gave t told) (gave t (inv.kept.tree ∙ told)) (all_markers managed done rest m n cut (ap length c.as_str.ensures)) (omega arith)))

pub returns-clause-gave : goal.returns-clause-gave
returns-clause-gave g c =
    let inv = c.loop-one.invariant in
    let old = g.P.ReadFs.seen c.args.fs.now in
    let new = g.P.ReadFs.seen c.loop-one.fs in
    let managed = c.args.managed.now in
    let i = c.loop-one.one-index in
    if_some (λ t. GaveListings t managed (marker_bytes managed) 0 old new) old.tree (λ t told.
    no_listings t managed (marker_bytes (take i managed)) 0 (marker_bytes managed) 0 old new (front_markers managed i) (omega arith) (inv.gave t told))
