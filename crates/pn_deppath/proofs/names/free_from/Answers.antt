use Rattle.std.proofs.Common.{◌≡◌, ℕ, map, sym, ap, ◌∙◌, length, ◌+◌, ◌-◌, arith, true, false}
use Rattle.std.proofs.lemmas.List.{length-map}
use Rattle.pn_deppath.specs.Folders.{free_from, is_taken, plain_name, with_ordinal}
use Rattle.pn_deppath.proofs.NumberLemmas.{free_end, free_more, free_stop}
use Rattle.pn_deppath.proofs.names.free_from.Goals as goal

pub loop-path-init : goal.loop-path-init
loop-path-init c =
    let taken = map plain_name c.args.paths.now in
    record {
      rest = ap (λ (k : ℕ). free_from taken c.args.name.now k c.args.first) (omega (arith, length-map c.args.paths.now plain_name));
      far = omega arith;
    }

pub returns-then-not-contains_key : goal.returns-then-not-contains_key
returns-then-not-contains_key c =
    let taken = map plain_name c.args.paths.now in
    let name = c.args.name.now in
    let n = c.loop-path.n in
    let left = length c.args.paths.now - c.loop-path._path-index in
    let inside = c.loop-path-test.true in
    let free : is_taken taken (with_ordinal name n) ≡ false =
    ap (is_taken taken) (sym (c.as_str.ensures.value ∙ c.in_ok-folder.ensures)) ∙ sym (c.requires.names c.as_str.result.now) ∙ sym c.contains_key.ensures ∙ c.if-not-contains_key.true in
    sym (free_stop taken name left n (omega (arith, inside)) free) ∙ c.loop-path.invariant.rest

pub loop-path-preserved : goal.loop-path-preserved
loop-path-preserved c =
    let taken = map plain_name c.args.paths.now in
    let name = c.args.name.now in
    let n = c.loop-path.n in
    let i = c.loop-path._path-index in
    let left = length c.args.paths.now - i in
    let inside = c.loop-path-test.true in
    let far = c.loop-path.invariant.far in
    let full : is_taken taken (with_ordinal name n) ≡ true =
    ap (is_taken taken) (sym (c.as_str.ensures.value ∙ c.in_ok-folder.ensures)) ∙ sym (c.requires.names c.as_str.result.now) ∙ sym c.contains_key.ensures ∙ c.if-not-contains_key.false in
    record {
      rest = sym (free_more taken name left (length c.args.paths.now - (i + 1)) n (n + 1) (omega (arith, inside)) (omega arith) full) ∙ c.loop-path.invariant.rest;
      far = omega (arith, far);
    }

pub returns : goal.returns
returns c =
    let taken = map plain_name c.args.paths.now in
    let end = c.loop-path-test.false in
    sym (free_end taken c.args.name.now (length c.args.paths.now - c.loop-path._path-index) c.loop-path.n (omega (arith, end))) ∙ c.loop-path.invariant.rest
