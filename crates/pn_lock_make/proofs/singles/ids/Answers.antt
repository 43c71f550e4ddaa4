use Rattle.std.proofs.Common.{◌≡◌, ◌∙◌, ℕ, List, true, ap}
use Rattle.pn_text.specs.Ids.{is_id}
use Rattle.pn_graph.specs.declared.links.Package.{Package}
use Rattle.pn_lock_make.proofs.StepLemmas.{all_more, taken_step}
use Rattle.pn_lock_make.proofs.singles.ids.Goals as goal

pub loop-package-preserved : goal.loop-package-preserved
loop-package-preserved c = record {
  same = taken_step (λ (q : Package). q.id) c.args.packages.now c.loop-package.package-index c.package-item.result c.in_ok-text.text c.loop-package.all.items c.push.new.self.items c.loop-package-test.true
      c.package-item.is (c.in_ok-text.ensures ∙ c.as_str-id.ensures.text) c.in_ok-push.ensures.items c.loop-package.invariant.same;
  ids = all_more (λ (id : List ℕ). is_id id ≡ true) c.loop-package.all.items c.push.new.self.items c.in_ok-text.text c.in_ok-push.ensures.items c.loop-package.invariant.ids
      (ap is_id c.in_ok-text.ensures ∙ c.as_str-id.ensures.id);
}
