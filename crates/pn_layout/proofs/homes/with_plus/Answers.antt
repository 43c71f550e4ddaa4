use Rattle.std.proofs.Common.{rules, ◌++◌, ◌∷◌, [], ap, ◌∙◌, map, string_bytes}
use Rattle.pn_layout.specs.Store.{plus_for_slash}
use Rattle.pn_layout.proofs.Slashes.{plus_step, plus_all}
use Rattle.pn_layout.proofs.homes.with_plus.Goals as goal

pub slashes-preserved : goal.slashes-preserved
slashes-preserved c = (
  search rules,
  ap (λ t. t ++ map plus_for_slash c.in-Some.back.now) (c.in_ok-push_str-2.ensures.bytes ∙ ap (λ t. t ++ 43 ∷ []) c.in_ok-push_str.ensures.bytes)
      ∙ plus_step (string_bytes c.slashes.all) c.slashes.rest.now c.in-Some.front.now c.in-Some.back.now (map plus_for_slash c.args.text.now) c.in-Some.ensures.0 c.in-Some.ensures.1 c.slashes.invariant.1,
)

pub returns : goal.returns
returns c = c.in_ok-push_str-3.ensures.bytes ∙ plus_all (string_bytes c.slashes.all) c.slashes.rest.now (map plus_for_slash c.args.text.now) c.in_default.ensures c.slashes.invariant.1
