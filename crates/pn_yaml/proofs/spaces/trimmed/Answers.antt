use Rattle.std.proofs.Common.{ℕ, List, ◌≡◌, ◌-◌, get_or, take, arith, sym, ap, subst, ◌∙◌}
use Rattle.pn_yaml.specs.Bytes.{trimmed}
use Rattle.pn_yaml.proofs.Spacing.{space_cut, trimmed_all, trimmed_less}
use Rattle.pn_yaml.proofs.spaces.trimmed.Goals as goal
use Rattle.pn_yaml.proofs.spaces.trimmed.Goals.{then-spaces-test+else-bytes-end-eq32, else-spaces-test}

pub spaces-preserved : goal.spaces-preserved
spaces-preserved c =
    let i = c.spaces.invariant in
    let space : get_or c.args.text.now (c.spaces.end - 1) 0 ≡ 32 = subst (λ (t : List ℕ). get_or t (c.spaces.end - 1) 0 ≡ 32) c.as_bytes-bytes.ensures.value c.if-bytes-end-eq32.true in
    record {
      cut = space_cut c.args.text.now c.spaces.end c.spaces-test.true i.cut.0 space;
      same = i.same ∙ trimmed_less c.args.text.now c.spaces.end c.spaces-test.true i.cut.0 space;
    }

pub returns : goal.returns
returns c =
    let i = c.spaces.invariant in
    elim c.spaces-test.branch [
      | then-spaces-test+else-bytes-end-eq32 w ↦ c.split_at.ensures.front ∙ sym (i.same ∙ trimmed_all c.args.text.now c.spaces.end w.spaces-test.true i.cut.0
          (λ e. w.if-bytes-end-eq32.false (subst (λ (t : List ℕ). get_or t (c.spaces.end - 1) 0 ≡ 32) (sym c.as_bytes-bytes.ensures.value) e)))
      | else-spaces-test w ↦
          let none : c.spaces.end ≡ 0 = omega arith in
          c.split_at.ensures.front ∙ ap (λ (n : ℕ). take n c.args.text.now) none ∙ sym (i.same ∙ ap (λ (n : ℕ). trimmed (take n c.args.text.now)) none)
    ]
