use Rattle.std.proofs.Common.{List, [], ◌∷◌, map, sym, subst}
use Rattle.std.specs.List.{All}
use Rattle.std.specs.Vec.Iter.{into_iter_items}
use Rattle.std.proofs.lemmas.List.{map-append}
use Rattle.std.proofs.lemmas.List.Elements.{All-head, All-tail}
use Rattle.pn_walk.specs.Calls.{link_of}
use Rattle.pn_walk.specs.Walks.{Link}
use Rattle.pn_walk.specs.declared.state.Taken.{Taken}
use Rattle.pn_shape.specs.Fits.{IsBetween}
use Rattle.pn_shape.specs.DepLists.{HasDeps}
use Rattle.pn_shape.proofs.DepListLemmas.{between_of}
use Rattle.pn_shape.proofs.lists.DepLists.of.Goals as goal

pub add-requires : goal.add-requires
add-requires c =
    let p = c.args.projects in
    let k = c.args.packages in
    let rest = map link_of (into_iter_items c.next.new.self) in
    let all : All (IsBetween p k) (link_of c.in-Some.taken ∷ rest) = subst (λ (ls : List Taken). All (IsBetween p k) (map link_of ls)) c.in-Some.ensures.steps.0 c.loop-taken.invariant.between in
    between_of p k (map link_of c.loop-taken.yielded) c.loop-taken.lists (link_of c.in-Some.taken) c.loop-taken.invariant.has (All-head (IsBetween p k) (link_of c.in-Some.taken) rest all)

pub loop-taken-preserved : goal.loop-taken-preserved
loop-taken-preserved c =
    let p = c.args.projects in
    let k = c.args.packages in
    let rest = map link_of (into_iter_items c.next.new.self) in
    let all : All (IsBetween p k) (link_of c.in-Some.taken ∷ rest) = subst (λ (ls : List Taken). All (IsBetween p k) (map link_of ls)) c.in-Some.ensures.steps.0 c.loop-taken.invariant.between in
    record {
      has = subst (λ (ls : List Link). HasDeps p k ls c.add.new.self) (sym (map-append link_of c.loop-taken.yielded (c.in-Some.taken ∷ [])))
          (c.in_ok-add.ensures p k (map link_of c.loop-taken.yielded) c.loop-taken.invariant.has);
      between = All-tail (IsBetween p k) (link_of c.in-Some.taken) rest all;
    }
