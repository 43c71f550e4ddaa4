use Rattle.std.proofs.Common.{◌≡◌, ◌<◌, ℕ, List, [], length, get_or, Some, sym, ap, ◌∙◌, subst, Vec, Global}
use Rattle.std.specs.Prelude.{slice_get}
use Rattle.std.specs.List.{Contains}
use Rattle.std.proofs.lemmas.List.{length-map}
use Rattle.std.proofs.lemmas.Option.{slice_get-get_or}
use Rattle.pn_components.specs.Rows.{rows_of}
use Rattle.pn_outer.specs.Founds.{AddsPair, AreMet, Passes}
use Rattle.pn_outer.specs.Instances.{Link}
use Rattle.pn_outer.proofs.EdgeLemmas.{peers_within}
use Rattle.pn_outer.proofs.FoundLemmas.{all_within}
use Rattle.pn_outer.proofs.OuterLemmas.{are_outer, more_spread, none_spread}
use Rattle.pn_outer.proofs.PairLemmas.{row_at}
use Rattle.pn_outer.proofs.outer.numbers.Goals as goal

pub spread-requires-clause-starts : goal.spread-requires-clause-starts
spread-requires-clause-starts c =
    let instances = c.args.instances.now in
    let pairs = c.args.pairs.now in
    let holders = c.args.holders.now in
    let p = c.loop-p.p in
    let pair = c.index-pairs-p.result in
    let lt = c.loop-p-test.true in
    let at : slice_get pairs p ≡ Some pair = slice_get-get_or pairs p pair lt ∙ ap Some (sym c.index-pairs-p.is) in
    let row = c.as_slice-holders.ensures.value ∙ sym (row_at holders p c.index-holders-p.result (subst (λ (n : ℕ). p < n) (sym c.requires.pairs) lt) c.index-holders-p.is) in
    λ k h. peers_within instances k pair (c.requires.provided.right k pair (record { number = p; at = at; holds = subst (λ (l : List ℕ). Contains l k) row h }))

pub add-requires : goal.add-requires
add-requires c =
    let found = c.spread.new.found in
    λ k h. subst (λ (n : ℕ). k < n) (c.spread.ensures.count ∙ c.loop-p.invariant.count ∙ sym c.loop-p.invariant.long)
    (all_within found.seen.items found.order.items c.in_ok-spread.ensures.marked k (subst (λ (l : List ℕ). Contains l k) c.deref.ensures.value h))

pub loop-p-preserved : goal.loop-p-preserved
loop-p-preserved c =
    let instances = c.args.instances.now in
    let pairs = c.args.pairs.now in
    let holders = c.args.holders.now in
    let dependents = rows_of c.args.dependents.now in
    let p = c.loop-p.p in
    let pair = c.index-pairs-p.result in
    let lt = c.loop-p-test.true in
    let order = c.spread.new.found.order.items in
    let old = rows_of c.loop-p.rows.items in
    let new = rows_of c.add.new.rows.items in
    let at : slice_get pairs p ≡ Some pair = slice_get-get_or pairs p pair lt ∙ ap Some (sym c.index-pairs-p.is) in
    let row = c.as_slice-holders.ensures.value ∙ sym (row_at holders p c.index-holders-p.result (subst (λ (n : ℕ). p < n) (sym c.requires.pairs) lt) c.index-holders-p.is) in
    let met = subst (λ (l : List ℕ). AreMet (Passes instances pair.name dependents) (Contains l) order) row c.in_ok-spread.ensures.met in
    let adds = subst (λ (l : List ℕ). AddsPair p (Contains l) old new) c.deref.ensures.value c.in_ok-add.ensures.adds in
    record {
      marked = c.clear.ensures.marked;
      none = c.clear.ensures.none;
      count = c.clear.ensures.count ∙ c.spread.ensures.count ∙ c.loop-p.invariant.count;
      long = c.add.ensures.count ∙ c.loop-p.invariant.long;
      spread = more_spread instances pairs (rows_of holders) dependents c.requires.provided c.requires.dependents p pair order old new at met adds c.loop-p.invariant.spread;
    }

pub returns : goal.returns
returns c =
    are_outer c.args.instances.now c.args.pairs.now (rows_of c.args.holders.now) (rows_of c.args.dependents.now) c.requires.provided c.requires.dependents c.loop-p.p (rows_of c.loop-p.rows.items)
    c.loop-p-test.false (length-map c.loop-p.rows.items (λ (r : Vec ℕ Global). r.items) ∙ c.loop-p.invariant.long) c.loop-p.invariant.spread
