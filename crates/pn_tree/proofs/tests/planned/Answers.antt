use Rattle.std.proofs.Common.{◌≡◌, ◌∙◌, List, [], ◌∷◌, sym, subst, true}
use Rattle.pn_text.specs.Name.{is_name}
use Rattle.pn_tree.specs.declared.instance.Instance.{Instance}
use Rattle.pn_tree.specs.declared.instance.Top.{Top}
use Rattle.pn_tree.specs.Trees.{Managed, laid}
use Rattle.pn_tree.specs.Sound.{IsSoundLayout}
use Rattle.pn_tree.proofs.AloneLemmas.{alone}
use Rattle.pn_tree.proofs.tests.planned.Goals as goal

pub layout-requires : goal.layout-requires
layout-requires c =
    let m : Managed = (c.in_ok-modules.modules, c.in_ok-marker.marker) in
    let t : Top = record { holder = c.in_ok-copy.field-0; name = c.in_ok-read.field-0; to = c.in_ok-read-2.field-0 } in
    let managed : c.deref.result.now ≡ m ∷ [] = c.deref.ensures.value ∙ c.in_ok-managed.ensures in
    let instances : c.deref-2.result.now ≡ c.in_ok-first.first ∷ [] = c.deref-2.ensures.value ∙ c.in_ok-instances.ensures in
    let tops : c.deref-3.result.now ≡ t ∷ [] = c.deref-3.ensures.value ∙ c.in_ok-tops.ensures in
    let whole : IsSoundLayout (laid c.in_ok-store.store (m ∷ []) (c.in_ok-first.first ∷ []) (t ∷ [])) =
    alone c.in_ok-store.store c.in_ok-modules.modules c.in_ok-marker.marker c.in_ok-first.first t c.in_ok-store.ensures.ok c.in_ok-first.ensures c.in_ok-copy.ensures
    (subst (λ n. is_name n ≡ true) (sym c.in_ok-read.ensures.ok) c.in_ok-read.ensures.accepted) in
    subst (λ (l : List Managed). IsSoundLayout (laid c.in_ok-store.store l c.deref-2.result.now c.deref-3.result.now)) (sym managed)
    (subst (λ (l : List Instance). IsSoundLayout (laid c.in_ok-store.store (m ∷ []) l c.deref-3.result.now)) (sym instances)
    (subst (λ (l : List Top). IsSoundLayout (laid c.in_ok-store.store (m ∷ []) (c.in_ok-first.first ∷ []) l)) (sym tops) whole))
