use Rattle.std.proofs.Common.{◌∙◌, ◌++◌, ◌∷◌, [], ap, sym}
use Rattle.std.specs.Prelude.{codes}
use Rattle.pn_tree.specs.Trees.{Managed}
use Rattle.pn_lock_layout.proofs.ManagedLemmas.{store_default, store_other, store_same}
use Rattle.pn_lock_layout.proofs.managed.add_store.Goals as goal

pub returns-then-eq : goal.returns-then-eq
returns-then-eq c =
    store_default c.args.root.now c.args.store.now c.args.all.now.items
    (sym (store_same c.as_str.result.now c.as_str-2.result.now c.args.root.now c.args.store.now c.as_str.ensures.text c.as_str-name.ensures.text.good (c.as_str-2.ensures.value ∙ c.in_ok-default.ensures)) ∙ sym c.eq.ensures ∙ c.if-eq.true)

pub returns : goal.returns
returns c =
    store_other c.args.root.now c.args.store.now c.args.all.now.items c.push.new.self.items (let m : Managed = (c.in_ok-folder.folder, c.in_ok-marker.marker) in m)
    (sym (store_same c.as_str.result.now c.as_str-2.result.now c.args.root.now c.args.store.now c.as_str.ensures.text c.as_str-name.ensures.text.good (c.as_str-2.ensures.value ∙ c.in_ok-default.ensures)) ∙ sym c.eq.ensures ∙ c.if-eq.false)
    c.in_ok-folder.ensures (c.in_ok-marker.ensures ∙ c.as_str-3.ensures.value ∙ c.in_ok-text.ensures ∙ ap (λ t. codes "pnpm-rs 1" ++ 32 ∷ (t ++ 10 ∷ [])) c.as_str-name.ensures.text.spelled) c.in_ok-push.ensures.items
