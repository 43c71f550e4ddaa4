-- The paths of a layout.
use Rattle.std.proofs.Common.{◌≡◌, ℕ, List, [], ◌∷◌, ◌++◌, length, length-append, map, refl, sym, ap, ◌∙◌, subst, arith, append_assoc}
use Rattle.std.specs.List.{Contains}
use Rattle.pn_text.specs.Path.{Path}
use Rattle.pn_digest.specs.declared.planned.Planned.{Planned}
use Rattle.pn_digest.specs.declared.planned.Planned.TheVariants.{Folder, Bytes}
use Rattle.pn_draft.proofs.WithinLemmas.{below_from}
use Rattle.pn_node.specs.Plan.{marker_name}
use Rattle.pn_tree.specs.Trees.{Managed, Layout, IsLeaf, marker, IsEntry, managed, leaf, between}
use Rattle.pn_tree.specs.Sound.{IsSoundLayout}
use Rattle.pn_tree.specs.Laws.{AreEntries}
use Rattle.pn_tree.proofs.LeafLemmas.{listed_to}
use Rattle.pn_tree.proofs.ConformLemmas.{are_leaves}
use Rattle.pn_tree.proofs.OutcomeLemmas.{listed_for}
use Rattle.pn_tree.proofs.SoundLemmas.{folder_of, in_folders, nested}
use Rattle.pn_lock_layout.specs.Closed.{AreClosed}

abbrev IsWithin : Layout → Path → Type 0
IsWithin l q = (m : Managed) × Contains l.managed m × ((r : Path) × (q ≡ r ++ m.0))

-- each entry is a managed folder, or stands below one
entry_within : (l : Layout) → IsSoundLayout l → (q : Path) (w : Planned) → IsEntry l q w → IsWithin l q
entry_within l h _ _ (managed m c) = (m, c, ([], refl))
entry_within l h _ _ (leaf q w k) =
    let f = listed_for l q w k in
    let b = (are_leaves l h).below q f.what (listed_to l q f.what f.listed) in
    let m = folder_of l b.0 b.1 in
    let at = below_from b.0 q b.2 in
    (m.0, m.1, (at.0 ++ at.1 ∷ [], at.2 ∙ sym (append_assoc at.0 (at.1 ∷ []) b.0) ∙ ap (λ p. (at.0 ++ at.1 ∷ []) ++ p) (sym m.2)))
entry_within l h _ _ (between m r below x w c k) = (m, c, (r, refl))

none_above : (r at : Path) (x : List ℕ) → at ≡ x ∷ (r ++ at) → ⊥
none_above r at x e = omega (arith, ap length e, length-append r at)

-- the folder of an entry below a managed folder is planned
above_entry : (l : Layout) → IsSoundLayout l → (p : Path) (w : Planned) → IsEntry l p w → (x : List ℕ) (r : Path) (m : Managed) → Contains l.managed m → p ≡ x ∷ (r ++ m.0) → IsEntry l (r ++ m.0) Folder
above_entry l h _ _ (managed n cn) x r m c e =
    let one : m.0 ≡ n.0 = (nested (map (λ (k : Managed). k.0) l.managed) m.0 n.0 (x ∷ r) h.apart (in_folders l m c) (in_folders l n cn) e).0 in
    absurd (none_above r m.0 x (one ∙ e))
above_entry l h _ _ (leaf q w k) x r m c e = between m r [] x w c (subst (λ p. IsLeaf l p w) e k)
above_entry l h _ _ (between n t below y w cn k) x r m c e =
    between m r (below ++ y ∷ []) x w c (subst (λ p. IsLeaf l p w) (ap (λ p. below ++ y ∷ p) e ∙ sym (append_assoc below (y ∷ []) (x ∷ (r ++ m.0)))) k)

pub closed : (l : Layout) (plan : List (Path × Planned)) → IsSoundLayout l → AreEntries l plan → AreClosed l.managed plan
closed l plan h all = record {
  tops = λ m c. (all m.0 Folder).1 (managed m c);
  markers = λ m c. (all (marker_name ∷ m.0) (Bytes m.1)).1 (leaf (marker_name ∷ m.0) (Bytes m.1) (marker m c));
  within = λ q w c. entry_within l h q w ((all q w).0 c);
  parents = λ x r w m c k. (all (r ++ m.0) Folder).1 (above_entry l h (x ∷ (r ++ m.0)) w ((all (x ∷ (r ++ m.0)) w).0 k) x r m c refl);
}
