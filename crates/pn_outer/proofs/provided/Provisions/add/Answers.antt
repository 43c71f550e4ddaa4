use Rattle.std.proofs.Common.{◌≡◌, ◌<◌, ℕ, List, length, sym, ◌∙◌, subst, arith, Vec, Global}
use Rattle.std.proofs.lemmas.List.{length-map}
use Rattle.std.proofs.lemmas.Option.{slice_get_within}
use Rattle.pn_components.specs.Rows.{rows_of}
use Rattle.pn_outer.specs.Instances.{Link}
use Rattle.pn_outer.specs.Provisions.{AddsHolder}
use Rattle.pn_outer.proofs.HolderLemmas.{holder_more, holder_new}
use Rattle.pn_outer.proofs.provided.Provisions.add.Goals as goal

pub returns-in_ok-hold-in-Some-clause-adds : goal.returns-in_ok-hold-in-Some-clause-adds
returns-in_ok-hold-in-Some-clause-adds c =
    let old = c.args.self.now in
    let new = c.hold.new.self in
    let holders = rows_of old.holders.items in
    let place = c.in-Some.place in
    let low = slice_get_within old.pairs.items place c.args.link.now c.in-Some.ensures in
    let long = length-map old.holders.items (λ (r : Vec ℕ Global). r.items) in
    let count = c.requires in
    subst (λ (p : List Link). AddsHolder c.args.to c.args.link.now old.pairs.items holders p (rows_of new.holders.items)) (sym c.hold.ensures.pairs)
    (holder_more c.args.to c.args.link.now old.pairs.items holders (rows_of new.holders.items) place c.in-Some.ensures (omega (arith, low, long, count)) c.in_ok-hold-in-Some.ensures.holders)

pub returns-in_ok-push-in-None-clause-adds : goal.returns-in_ok-push-in-None-clause-adds
returns-in_ok-push-in-None-clause-adds c =
    let old = c.args.self.now in
    let new = c.push.new.self in
    holder_new c.args.to c.args.link.now old.pairs.items new.pairs.items (rows_of old.holders.items) (rows_of new.holders.items)
    (length-map old.holders.items (λ (r : Vec ℕ Global). r.items) ∙ c.requires) c.in_ok-push-in-None.ensures.pairs c.in_ok-push-in-None.ensures.holders
