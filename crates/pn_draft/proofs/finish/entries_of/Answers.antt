use Rattle.std.proofs.Common.{◌∙◌, sym, ap, length, refl, arith}
use Rattle.std.proofs.lemmas.Result.{err_from_is_err_and}
use Rattle.pn_draft.proofs.Finishing.{next_key, first_refused, one_more}
use Rattle.pn_draft.proofs.finish.entries_of.Goals as goal

pub path_of-requires : goal.path_of-requires
path_of-requires c =
    let k = next_key c.args.marks _ _ (c.in-Some.text, c.in-Some.what) _ c.requires c.in-Some.ensures.steps c.marks.invariant in
    (k.0, k.1, c.as_str.ensures.value ∙ k.2)

pub returns-in_err-path-clause-fault : goal.returns-in_err-path-clause-fault
returns-in_err-path-clause-fault c =
    let p = err_from_is_err_and c.from_residual-in_err-path.result c.from_residual-in_err-path.ensures.1 in
    rw (p.1, p.2) (first_refused _ _ _ (c.in-Some.text, c.in-Some.what) _ c.as_str.result.now _ c.marks.invariant c.in-Some.ensures.steps c.as_str.ensures.value c.in_err-path.ensures.fault)

pub marks-preserved : goal.marks-preserved
marks-preserved c =
    one_more _ _ _ (c.in-Some.text, c.in-Some.what) _ _ (c.in_ok-path.path, c.in-Some.what) c.marks.invariant c.in-Some.ensures.steps c.in_ok-push.ensures.items
    c.in_ok-path.ensures.good (sym c.as_str.ensures.value ∙ c.in_ok-path.ensures.ok) (omega (arith, ap length c.as_str.ensures.value, c.in_ok-path.ensures.short)) refl
