-- The paths of a layout with one managed folder.
use Rattle.std.proofs.Common.{◌≡◌, ◌⊎◌, ℕ, List, [], ◌∷◌, ◌++◌, length, length-append, sym, ap, ◌∙◌, subst, arith, append_assoc, inl, inr}
use Rattle.std.specs.List.{Contains}
use Rattle.pn_text.specs.Path.{Path}
use Rattle.pn_text.proofs.Members.{in_one, here}
use Rattle.pn_digest.specs.declared.planned.Planned.{Planned}
use Rattle.pn_digest.specs.declared.planned.Planned.TheVariants.{Folder, Bytes}
use Rattle.pn_draft.proofs.WithinLemmas.{below_from}
use Rattle.pn_node.specs.Plan.{marker_name}
use Rattle.pn_tree.specs.Trees.{Layout, IsLeaf, marker, IsEntry, managed, leaf, between}
use Rattle.pn_tree.specs.Sound.{IsSoundLayout}
use Rattle.pn_tree.specs.Laws.{AreEntries}
use Rattle.pn_tree.proofs.LeafLemmas.{listed_to}
use Rattle.pn_tree.proofs.ConformLemmas.{are_leaves}
use Rattle.pn_tree.proofs.OutcomeLemmas.{listed_for}
use Rattle.pn_tree.proofs.SoundLemmas.{folder_of}
use Rattle.pn_digest.specs.Listing.{Entry}
use Rattle.pn_package.specs.Links.{Id, Pair}
use Rattle.pn_package.specs.Sound.{AreSound, AreSoundLinks}
use Rattle.pn_package.specs.declared.packages.Package.{Package}
use Rattle.pn_layout.specs.Listed.{AreOfPackages}
use Rattle.pn_layout.specs.Layout.{marker_text, IsClosed}
use Rattle.pn_layout.specs.Near.{layout_to}
use Rattle.pn_layout.proofs.SoundLemmas.{sound_layout}

-- The layout has one managed folder, with the marker.
pub record HasTop (l : Layout) (top : Path) : Type 0 where
  pub sound : IsSoundLayout l
  pub among : Contains l.managed (top, marker_text)
  pub alone : (m : Path) (text : List ℕ) → Contains l.managed (m, text) → m ≡ top

pub has_top : (lead : Id → Path) (top : Path) (direct : List Pair) (packages : List Package) (listings : List (List Entry)) → AreSoundLinks direct → AreSound packages → AreOfPackages packages listings → HasTop (layout_to lead top direct packages listings) top
has_top lead top direct packages listings d s h = record {
  sound = sound_layout lead top direct packages listings d s h;
  among = here (top, marker_text) [];
  alone = λ m text c. sym (ap (λ (n : Path × List ℕ). n.0) (in_one (top, marker_text) (m, text) c));
}

-- a leaf stands below the managed folder
pub leaf_below : (l : Layout) (top : Path) → HasTop l top → (q : Path) (w : Planned) → IsLeaf l q w → (s : Path) × (x : List ℕ) × (q ≡ s ++ x ∷ top)
leaf_below l top h q w is =
    let k = listed_for l q w is in
    let b = (are_leaves l h.sound).below q k.what (listed_to l q k.what k.listed) in
    let m = folder_of l b.0 b.1 in
    let one : b.0 ≡ top = sym m.2 ∙ h.alone m.0.0 m.0.1 m.1 in
    let at = below_from b.0 q b.2 in
    (at.0, at.1, at.2 ∙ ap (λ p. at.0 ++ at.1 ∷ p) one)

-- and so does each entry, or is it
pub entry_within : (l : Layout) (top : Path) → HasTop l top → (q : Path) (w : Planned) → IsEntry l q w → (r : Path) × (q ≡ r ++ top)
entry_within l top h _ _ (managed m c) = ([], h.alone m.0 m.1 c)
entry_within l top h _ _ (leaf q w k) = let b = leaf_below l top h q w k in (b.0 ++ b.1 ∷ [], b.2 ∙ sym (append_assoc b.0 (b.1 ∷ []) top))
entry_within l top h _ _ (between m r below x w c k) = (r, ap (λ p. r ++ p) (h.alone m.0 m.1 c))

none_above : (s r top : Path) (x : List ℕ) → s ++ x ∷ (r ++ top) ≡ top → ⊥
none_above s r top x e = omega (arith, ap length e, length-append s (x ∷ (r ++ top)), length-append r top)

deep_leaf : (l : Layout) (top : Path) → HasTop l top → (p s r : Path) (x : List ℕ) (w : Planned) → p ≡ s ++ x ∷ (r ++ top) → IsLeaf l p w → IsEntry l (r ++ top) Folder
deep_leaf l top h p s r x w e k = between (top, marker_text) r s x w h.among (subst (λ q. IsLeaf l q w) e k)

-- a path between the managed folder and an entry is a planned folder
pub above_entry : (l : Layout) (top : Path) → HasTop l top → (q : Path) (w : Planned) → IsEntry l q w → (s r : Path) (x : List ℕ) → q ≡ s ++ x ∷ (r ++ top) → IsEntry l (r ++ top) Folder
above_entry l top h _ _ (managed m c) s r x e = absurd (none_above s r top x (sym e ∙ h.alone m.0 m.1 c))
above_entry l top h _ _ (leaf q w k) s r x e = deep_leaf l top h q s r x w e k
above_entry l top h _ _ (between m t below y w c k) s r x e =
    deep_leaf l top h (below ++ y ∷ (t ++ m.0)) (below ++ y ∷ s) r x w (ap (λ p. below ++ y ∷ p) e ∙ sym (append_assoc below (y ∷ s) (x ∷ (r ++ top)))) k

-- the folder of an entry other than the managed folder is planned
parent_entry : (l : Layout) (top : Path) → HasTop l top → (x : List ℕ) (q : Path) (w : Planned) → IsEntry l (x ∷ q) w → (x ∷ q ≡ top) ⊎ IsEntry l q Folder
parent_entry l top h x q w k = by (entry_within l top h (x ∷ q) w k).0 (entry_within l top h (x ∷ q) w k).1
  where
    by : (r : Path) → x ∷ q ≡ r ++ top → (x ∷ q ≡ top) ⊎ IsEntry l q Folder
    by [] e = inl e
    by (y ∷ r) e =
        let tails : q ≡ r ++ top = cc in
        inr (subst (λ p. IsEntry l p Folder) (sym tails) (above_entry l top h (x ∷ q) w k [] r y e))

or_else : {A B C : Type 0} → (B → C) → A ⊎ B → A ⊎ C
or_else f h = elim h [ inl a ↦ inl a | inr b ↦ inr (f b) ]

pub closed : (l : Layout) (top : Path) (plan : List (Path × Planned)) → HasTop l top → AreEntries l plan → IsClosed top plan
closed l top plan h all = record {
  managed = (all top Folder).1 (managed (top, marker_text) h.among);
  marker = (all (marker_name ∷ top) (Bytes marker_text)).1 (leaf (marker_name ∷ top) (Bytes marker_text) (marker (top, marker_text) h.among));
  within = λ q w c. entry_within l top h q w ((all q w).0 c);
  parents = λ x q w c. or_else (all q Folder).1 (parent_entry l top h x q w ((all (x ∷ q) w).0 c));
}
