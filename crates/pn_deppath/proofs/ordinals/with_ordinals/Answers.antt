use Rattle.std.proofs.Common.{◌≡◌, ◌<◌, ◌^◌, ◌+◌, List, ℕ, [], take, get_or, sym, ap, ◌∙◌, subst, Some, arith}
use Rattle.std.specs.Prelude.{string_bytes}
use Rattle.std.proofs.lemmas.List.{get_or_default}
use Rattle.std.proofs.lemmas.Map.Text.{btree_map_updates_text}
use Rattle.pn_deppath.specs.Numbers.{last_of}
use Rattle.pn_deppath.specs.Ordinals.{times, with_ordinals, with_place}
use Rattle.pn_deppath.proofs.OrdinalLemmas.{few_before, next_times, paths_more, times_more}
use Rattle.pn_deppath.proofs.ordinals.with_ordinals.Goals as goal

pub with_place-requires : goal.with_place-requires
with_place-requires c =
    let texts = c.args.texts.now in
    let i = c.loop-text.text-index in
    let is = c.last_of-before.ensures ∙ c.loop-text.invariant.counts c.as_str.result.now in
    subst (λ (n : ℕ). n < 2 ^ 32) (sym is) (few_before texts i c.as_str.result.now c.loop-text-test.true c.requires)

pub overflow_add-before : goal.overflow_add-before
overflow_add-before c =
    let texts = c.args.texts.now in
    let i = c.loop-text.text-index in
    let is = c.last_of-before.ensures ∙ c.loop-text.invariant.counts c.as_str.result.now in
    let few : c.last_of-before.result < 2 ^ 32 = subst (λ (n : ℕ). n < 2 ^ 32) (sym is) (few_before texts i c.as_str.result.now c.loop-text-test.true c.requires) in
    omega (arith, few)

pub loop-text-preserved : goal.loop-text-preserved
loop-text-preserved c =
    let texts = c.args.texts.now in
    let i = c.loop-text.text-index in
    let lt = c.loop-text-test.true in
    let t = get_or texts i [] in
    let old = c.loop-text.times in
    let new = c.insert.new.self in
    let at : c.text-item.result ≡ t = c.text-item.is ∙ sym (get_or_default texts i [] c.text-item.result lt) in
    let key : string_bytes c.in_ok-key.key ≡ t = c.in_ok-key.ensures.ok ∙ c.as_str-in-loop-text.ensures ∙ at in
    let before : c.last_of-before.result ≡ times (take i texts) t = c.last_of-before.ensures ∙ c.loop-text.invariant.counts c.as_str.result.now ∙ ap (times (take i texts)) (c.as_str.ensures ∙ at) in
    let k = c.last_of-before.result + 1 in
    record {
      counts = λ q.
          times_more old new (take i texts) (string_bytes c.in_ok-key.key) t k c.loop-text.invariant.counts key (ap (λ (n : ℕ). n + 1) before)
          (btree_map_updates_text (string_bytes c.in_ok-key.key) old new (Some k) c.in_ok-insert.ensures.updates) q
          ∙ sym (next_times texts i q lt);
      paths = paths_more texts c.loop-text.paths.items c.push.new.self.items (with_ordinals texts) i c.in_ok-path.path lt c.in_ok-push.ensures.items
          (c.in_ok-path.ensures ∙ ap (λ (x : List ℕ). with_place x c.last_of-before.result) at ∙ ap (with_place t) before) c.loop-text.invariant.paths;
    }
