use Rattle.std.proofs.Common.{◌⊎◌, ℕ, List, get_or, ◌∙◌, subst, arith}
use Rattle.std.specs.List.{Contains}
use Rattle.std.proofs.lemmas.List.{length-set}
use Rattle.std.proofs.lemmas.List.Elements.{Contains-get_or}
use Rattle.pn_dep_paths.specs.BaseTexts.{IsBaseText}
use Rattle.pn_dep_paths.specs.Steps.{AreWritten, IsBelow}
use Rattle.pn_dep_paths.proofs.WrittenLemmas.{more_written, whole}
use Rattle.pn_dep_paths.proofs.base.write_texts.Goals as goal

pub base_text-requires-clause-within : goal.base_text-requires-clause-within
base_text-requires-clause-within c = (c.requires.members (get_or c.args.row.now c.loop-at.at-index 0) (Contains-get_or c.args.row.now c.loop-at.at-index 0 c.loop-at-test.true)).0

pub index_mut-requires : goal.index_mut-requires
index_mut-requires c =
    let w = (c.requires.members (get_or c.args.row.now c.loop-at.at-index 0) (Contains-get_or c.args.row.now c.loop-at.at-index 0 c.loop-at-test.true)).0 in
    let long = c.loop-at.invariant.count in
    let fits = c.loop-at.texts.ok.0 in
    omega (arith, w, long, fits)

pub loop-at-preserved : goal.loop-at-preserved
loop-at-preserved c =
    let texts = c.loop-at.texts.items in
    let x = get_or c.args.row.now c.loop-at.at-index 0 in
    record {
      count = length-set texts x c.in_ok-text.text ∙ c.loop-at.invariant.count;
      written = more_written c.args.folders.now c.args.instances.now c.args.relation.now.numbers.items c.requires.ranks texts c.args.row.now c.args.c c.loop-at.at-index c.in_ok-text.text
          c.loop-at-test.true c.requires.members c.loop-at.invariant.count
          (subst (λ (l : List (List ℕ)). IsBaseText c.args.folders.now c.args.instances.now l x c.in_ok-text.text) c.deref.ensures.value c.in_ok-text.ensures) c.loop-at.invariant.written;
    }

pub returns-clause-written : goal.returns-clause-written
returns-clause-written c =
    let row = c.args.row.now in
    subst (λ (l : List ℕ). AreWritten c.args.folders.now c.args.instances.now (λ i. IsBelow c.args.instances.now c.args.relation.now.numbers.items c.args.c i ⊎ Contains l i) c.loop-at.texts.items)
    (whole row c.loop-at.at-index (let m = c.loop-at.auto.at-index-end in omega (arith, m)) c.loop-at-test.false) c.loop-at.invariant.written
