-- The leaves of a layout can be drawn.
use Rattle.std.proofs.Common.{◌≡◌, ◌≢◌, inl, inr, ℕ, List, [], ◌∷◌, ◌++◌, refl, sym, ap, ◌∙◌, subst, true, append_assoc}
use Rattle.std.specs.List.{Contains}
use Rattle.std.proofs.lemmas.List.{append_cancel_right}
use Rattle.pn_text.specs.Path.{Path}
use Rattle.pn_text.specs.Name.{name_path, modules}
use Rattle.pn_digest.specs.declared.planned.Planned.{Planned}
use Rattle.pn_digest.specs.declared.planned.Planned.TheVariants.{Folder, Bytes, Link}
use Rattle.pn_node.specs.Plan.{marker_name}
use Rattle.pn_node.proofs.NamePaths.{shape, shape_filled, snoc_same, same_name}
use Rattle.pn_draft.specs.Drawing.{is_below}
use Rattle.pn_draft.specs.Entries.{AreLeaves}
use Rattle.pn_draft.proofs.WithinLemmas.{below_from, is_below_at, is_within_at}
use Rattle.pn_tree.specs.declared.instance.Instance.{Instance}
use Rattle.pn_tree.specs.declared.instance.Top.{Top}
use Rattle.pn_tree.specs.Trees.{Managed, Layout, beside, top_place}
use Rattle.pn_tree.specs.Relatives.{link_text}
use Rattle.pn_tree.specs.Sound.{folders, IsSoundTop, IsSoundLayout}
use Rattle.pn_tree.specs.Leaves.{leaves_of}
use Rattle.pn_tree.proofs.SoundLemmas.{in_folders, store_way, ends_one}
use Rattle.pn_tree.proofs.LeafLemmas.{IsInside, IsListed, marks, linked, inside, listed_from, Conforms, same_conform, in_instance, mark_and_deep, name_and_deep, mark_and_name, deeper, modules_unmarked, deep_last}

hidden_place : (l : Layout) (t : Top) → t.holder ≡ modules ∷ l.store → top_place t ≡ name_path t.name ++ modules ∷ l.store
hidden_place l t e = ap (λ q. name_path t.name ++ q) e

mark_top : (l : Layout) → IsSoundLayout l → (s b : Path) (m : Managed) (t : Top) → Contains l.managed m → IsSoundTop l t → s ++ marker_name ∷ m.0 ≡ b ++ top_place t → ⊥
mark_top l h s b m t c k e = elim k.holder [
  | inl f ↦ mark_and_name l h s b m.0 t.holder t.name (in_folders l m c) f.0 k.name e
  | inr own ↦ mark_and_deep l h s (b ++ name_path t.name) m.0 modules (in_folders l m c) modules_unmarked
      (e ∙ ap (λ q. b ++ q) (hidden_place l t own) ∙ sym (append_assoc b (name_path t.name) (modules ∷ l.store)))
]

-- what is deep in the store under another part than the store's own modules, and a link outside the instances
top_inside : (l : Layout) → IsSoundLayout l → (a b : Path) (k : List ℕ) (t : Top) → IsSoundTop l t → k ≢ modules → a ++ top_place t ≡ b ++ k ∷ l.store → ⊥
top_inside l h a b k t s other e = elim s.holder [
  | inl f ↦ name_and_deep l h a b t.holder t.name k f.0 f.1 s.name e
  | inr own ↦
      let r = deep_last a (name_path t.name) modules b k l.store (ap (λ q. a ++ q) (sym (hidden_place l t own)) ∙ e) in
      other (sym r.1)
]

tops_conform : (l : Layout) → IsSoundLayout l → (s : Path) (t u : Top) → Contains l.tops t → Contains l.tops u → s ++ top_place t ≡ top_place u
    → Conforms s (Link (link_text (top_place t) t.to)) (Link (link_text (top_place u) u.to))
tops_conform l h s t u tc uc e = same where
  holders : t.holder ≡ u.holder
  holders = elim (h.tops t tc).holder [
    | inl f ↦ elim (h.tops u uc).holder [
      | inl g ↦ ends_one (folders l.managed) t.holder u.holder (s ++ name_path t.name) (name_path u.name) h.apart f.0 g.0 (append_assoc s (name_path t.name) t.holder ∙ e)
      | inr own ↦ absurd (name_and_deep l h s (name_path u.name) t.holder t.name modules f.0 f.1 (h.tops t tc).name (e ∙ hidden_place l u own))
    ]
    | inr own ↦ elim (h.tops u uc).holder [
      | inl g ↦ absurd (name_and_deep l h [] (s ++ name_path t.name) u.holder u.name modules g.0 g.1 (h.tops u uc).name
          (sym e ∙ ap (λ q. s ++ q) (hidden_place l t own) ∙ sym (append_assoc s (name_path t.name) (modules ∷ l.store))))
      | inr own2 ↦ own ∙ sym own2
    ]
  ]

  short : s ++ name_path t.name ≡ name_path u.name
  short = append_cancel_right (s ++ name_path t.name) (name_path u.name) t.holder (append_assoc s (name_path t.name) t.holder ∙ e ∙ ap (λ q. name_path u.name ++ q) (sym holders))

  names : t.name ≡ u.name
  names = same_name t.name u.name s [] (h.tops t tc).name (h.tops u uc).name short

  same : Conforms s (Link (link_text (top_place t) t.to)) (Link (link_text (top_place u) u.to))
  same = same_conform s (Link (link_text (top_place t) t.to)) (Link (link_text (top_place u) u.to))
      (append_cancel_right s [] (name_path u.name) (ap (λ n. s ++ name_path n) (sym names) ∙ short))
      (ap (λ (x : Top). Link (link_text (top_place x) x.to)) (h.once t u tc uc holders names))

same_instance : (l : Layout) → IsSoundLayout l → (s : Path) (g o : Instance) (y z : Path) (v w : Planned) → Contains l.instances g → Contains l.instances o → IsInside g l.store y v → IsInside o l.store z w
    → s ++ (y ++ beside l.store g) ≡ z ++ beside l.store o → Conforms s v w
same_instance l h s g o y z v w gc oc a b e =
    let r = deep_last s (y ++ modules ∷ []) g.dir (z ++ modules ∷ []) o.dir l.store (ap (λ q. s ++ q) (sym (deeper l g y)) ∙ e ∙ deeper l o z) in
    let one : g ≡ o = h.dirs g o gc oc r.1 in
    let parts : s ++ y ≡ z = (snoc_same (s ++ y) z modules modules (append_assoc s y (modules ∷ []) ∙ r.0)).0 in
    in_instance g l.store (h.instances g gc) s y z v w a (subst (λ (x : Instance). IsInside x l.store z w) (sym one) b) parts

-- Leaves conform to each other.
pub conform : (l : Layout) → IsSoundLayout l → (s p q : Path) (v w : Planned) → IsListed l p v → IsListed l q w → s ++ p ≡ q → Conforms s v w
conform l h s _ _ _ _ (marks m mc) (marks n nc) e =
    let one : m.0 ≡ n.0 = ends_one (folders l.managed) m.0 n.0 (s ++ marker_name ∷ []) (marker_name ∷ []) h.apart (in_folders l m mc) (in_folders l n nc) (append_assoc s (marker_name ∷ []) m.0 ∙ e) in
    same_conform s (Bytes m.1) (Bytes n.1) (append_cancel_right s [] (marker_name ∷ m.0) (e ∙ ap (λ q. marker_name ∷ q) (sym one))) (ap (λ (x : Managed). Bytes x.1) (h.marked m n mc nc one))
conform l h s _ _ _ _ (marks m mc) (linked t tc) e = absurd (mark_top l h s [] m t mc (h.tops t tc) e)
conform l h s _ _ _ _ (marks m mc) (inside g z w gc a) e =
    absurd (mark_and_deep l h s (z ++ modules ∷ []) m.0 g.dir (in_folders l m mc) (h.instances g gc).unmarked (e ∙ deeper l g z))
conform l h s _ _ _ _ (linked t tc) (marks m mc) e = absurd (mark_top l h [] s m t mc (h.tops t tc) (sym e))
conform l h s _ _ _ _ (linked t tc) (linked u uc) e = tops_conform l h s t u tc uc e
conform l h s _ _ _ _ (linked t tc) (inside g z w gc a) e = absurd (top_inside l h s (z ++ modules ∷ []) g.dir t (h.tops t tc) (h.instances g gc).dir (e ∙ deeper l g z))
conform l h s _ _ _ _ (inside g y v gc a) (marks m mc) e =
    absurd (mark_and_deep l h [] (s ++ (y ++ modules ∷ [])) m.0 g.dir (in_folders l m mc) (h.instances g gc).unmarked
    (sym e ∙ ap (λ q. s ++ q) (deeper l g y) ∙ sym (append_assoc s (y ++ modules ∷ []) (g.dir ∷ l.store))))
conform l h s _ _ _ _ (inside g y v gc a) (linked t tc) e =
    absurd (top_inside l h [] (s ++ (y ++ modules ∷ [])) g.dir t (h.tops t tc) (h.instances g gc).dir
    (sym e ∙ ap (λ q. s ++ q) (deeper l g y) ∙ sym (append_assoc s (y ++ modules ∷ []) (g.dir ∷ l.store))))
conform l h s _ _ _ _ (inside g y v gc a) (inside o z w oc b) e = same_instance l h s g o y z v w gc oc a b e

-- a leaf is below a managed folder
filled_below : (q at : Path) → q ≢ [] → is_below at (q ++ at) ≡ true
filled_below [] at some = absurd (some refl)
filled_below (x ∷ q) at some = is_within_at q at

deep_below : (l : Layout) → IsSoundLayout l → (y : Path) (k : List ℕ) → (m : Path) × Contains (folders l.managed) m × (is_below m (y ++ k ∷ l.store) ≡ true)
deep_below l h y k =
    let w = store_way l h in (
      w.folder.0,
      in_folders l w.folder w.among,
      subst (λ q. is_below w.folder.0 q ≡ true) (append_assoc y (k ∷ w.way) w.folder.0 ∙ ap (λ q. y ++ k ∷ q) (sym w.is)) (filled_below (y ++ k ∷ w.way) w.folder.0 (some_push y k w.way)),
    ) where
      some_push : (y : Path) (k : List ℕ) (r : Path) → y ++ k ∷ r ≢ []
      some_push [] k r e = cc
      some_push (x ∷ y) k r e = cc

leaf_below : (l : Layout) → IsSoundLayout l → (q : Path) (w : Planned) → IsListed l q w → (m : Path) × Contains (folders l.managed) m × (is_below m q ≡ true)
leaf_below l h _ _ (marks m c) = (m.0, in_folders l m c, is_below_at [] marker_name m.0)
leaf_below l h _ _ (linked t c) = elim (h.tops t c).holder [
  | inl f ↦ (t.holder, f.0, filled_below (name_path t.name) t.holder (shape_filled (name_path t.name) (shape t.name (h.tops t c).name)))
  | inr own ↦ subst (λ q. (m : Path) × Contains (folders l.managed) m × (is_below m q ≡ true)) (sym (hidden_place l t own)) (deep_below l h (name_path t.name) modules)
]
leaf_below l h _ _ (inside g z w c a) = subst (λ q. (m : Path) × Contains (folders l.managed) m × (is_below m q ≡ true)) (sym (deeper l g z)) (deep_below l h (z ++ modules ∷ []) g.dir)

conform_above : (s : Path) (x : List ℕ) (v w : Planned) → Conforms (s ++ x ∷ []) v w → v ≡ Folder
conform_above [] x v w h = h
conform_above (y ∷ s) x v w h = h

-- the list of leaves can be drawn
pub are_leaves : (l : Layout) → IsSoundLayout l → AreLeaves (folders l.managed) (leaves_of l)
are_leaves l h = record {
  apart = h.apart;
  below = λ p w c. leaf_below l h p w (listed_from l (p, w) c);
  one = λ p v w c k. conform l h [] p p v w (listed_from l (p, v) c) (listed_from l (p, w) k) refl;
  above = λ p q v w c k below.
      let b = below_from q p below in
      conform_above b.0 b.1 w v (conform l h (b.0 ++ b.1 ∷ []) q p w v (listed_from l (q, w) k) (listed_from l (p, v) c) (append_assoc b.0 (b.1 ∷ []) q ∙ sym b.2));
}
