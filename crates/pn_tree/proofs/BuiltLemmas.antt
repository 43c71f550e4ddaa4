-- A tree that has the plan has the build.
use Rattle.std.proofs.Common.{◌≡◌, ℕ, List, ◌∷◌, ◌++◌, sym, ap, ◌∙◌, subst, Some}
use Rattle.std.specs.Prelude.{map}
use Rattle.std.specs.List.{Contains}
use Rattle.pn_text.specs.Path.{Path}
use Rattle.pn_text.specs.Relative.{parent_of, IsRelative}
use Rattle.pn_text.proofs.Members.{from_map, to_map}
use Rattle.pn_fs.specs.Tree.{Entry, folder, file, link, Tree}
use Rattle.pn_digest.specs.declared.planned.Planned.{Planned}
use Rattle.pn_digest.specs.declared.planned.Planned.TheVariants.{Folder, Bytes, Stored, Link}
use Rattle.pn_node.specs.Plan.{Instance as Built, TopLink, marker_name, IsPlanned, InBuild, IsBuilt}
use Rattle.pn_node.specs.Plan as plan
use Rattle.pn_repair.specs.Stands.{StandsAs}
use Rattle.pn_tree.specs.declared.instance.Instance.{Instance}
use Rattle.pn_tree.specs.declared.instance.Target.{Target}
use Rattle.pn_tree.specs.Trees.{Managed, Layout, home, link_place, IsLeaf, IsEntry, marker, own, content, dependency, top, managed, leaf, between, file_bytes, built_instance, built_top, build_of}
use Rattle.pn_tree.specs.Laws.{BuiltLaw}
use Rattle.pn_tree.proofs.SoundLemmas.{of_instance, file_from, link_from}

in_build : (u : Tree) (l : Layout) (g : Instance) → Contains l.instances g → Contains (map (built_instance u l.store) l.instances) (built_instance u l.store g)
in_build u l g c = to_map (built_instance u l.store) l.instances g c

-- an entry of a leaf, as it stands
leaf_built : (u : Tree) (l : Layout) (q : Path) (w : Planned) → IsLeaf l q w → StandsAs w (u q) → (e : Entry) × (u q ≡ Some e) × IsPlanned (build_of u l) q e
leaf_built u l _ _ (marker m c) h = (file m.1, h, plan.marker m.0 m.1 c)
leaf_built u l _ _ (own g c) h = (folder, h, plan.own (built_instance u l.store g) (in_build u l g c))
leaf_built u l _ _ (content g f d c fc) h = (
  file h.0,
  h.1,
  subst (λ bytes. IsPlanned (build_of u l) (f ++ home l.store g) (file bytes)) (ap file_bytes h.1)
      (plan.content (built_instance u l.store g) f (file_bytes (u (f ++ home l.store g))) (in_build u l g c)
      (to_map (λ (e : Path × List ℕ). let b : Path × List ℕ = (e.0, file_bytes (u (e.0 ++ home l.store g))) in b) g.files (f, d) fc)),
)
leaf_built u l _ _ (dependency g k text c kc rel) h = (
  link text,
  h,
  plan.dependency (built_instance u l.store g) k.name k.to text (in_build u l g c) (to_map (λ (k : Target). let b : List ℕ × Path = (k.name, k.to) in b) g.links k kc) rel,
)
leaf_built u l _ _ (top t text c rel) h = (link text, h, plan.top (built_top t) text (to_map built_top l.tops t c) rel)

entry_built : (u : Tree) (l : Layout) (q : Path) (w : Planned) (e : Entry) → IsEntry l q w → ((p : Path) (v : Planned) → IsEntry l p v → StandsAs v (u p)) → u q ≡ Some e → InBuild (build_of u l) q e
entry_built u l _ _ e (managed m c) all is =
    let one : folder ≡ e = let both : Some folder ≡ Some e = sym (all m.0 Folder (managed m c)) ∙ is in cc in
    subst (InBuild (build_of u l) m.0) one (plan.managed m.0 (to_map (λ (n : Managed). n.0) l.managed m c))
entry_built u l _ _ e (leaf q w h) all is =
    let b = leaf_built u l q w h (all q w (leaf q w h)) in
    let one : b.0 ≡ e = let both : Some b.0 ≡ Some e = sym b.1 ∙ is in cc in
    subst (InBuild (build_of u l) q) one (plan.planned q b.0 b.2)
entry_built u l _ _ e (between m r below x w c h) all is =
    let b = leaf_built u l (below ++ x ∷ (r ++ m.0)) w h (all (below ++ x ∷ (r ++ m.0)) w (leaf (below ++ x ∷ (r ++ m.0)) w h)) in
    let one : folder ≡ e = let both : Some folder ≡ Some e = sym (all (r ++ m.0) Folder (between m r below x w c h)) ∙ is in cc in
    subst (InBuild (build_of u l) (r ++ m.0)) one (plan.between m.0 r below x b.0 (to_map (λ (n : Managed). n.0) l.managed m c) b.2)

-- a leaf of what the build plans, and what it is where that stands
pub record LeafOf (u : Tree) (l : Layout) (q : Path) (e : Entry) : Type 0 where
  pub what : Planned
  pub leaf : IsLeaf l q what
  pub stands : StandsAs what (u q) → u q ≡ Some e

content_of : (u : Tree) (l : Layout) (g : Instance) (f : Path) (bytes : List ℕ) → Contains l.instances g → Contains (built_instance u l.store g).files (f, bytes) → LeafOf u l (f ++ home l.store g) (file bytes)
content_of u l g f bytes c fc =
    let d = file_from u l g f bytes fc in
    record { what = Stored d.0; leaf = content g f d.0 c d.1; stands = λ h. h.1 ∙ ap (λ b. Some (file b)) (sym (ap file_bytes h.1) ∙ sym d.2) }

link_of : (u : Tree) (l : Layout) (g : Instance) (x : List ℕ) (to : Path) (text : List ℕ) → Contains l.instances g → Contains (built_instance u l.store g).links (x, to)
    → IsRelative (parent_of (plan.link_place l.store (built_instance u l.store g) x)) to text → LeafOf u l (plan.link_place l.store (built_instance u l.store g) x) (link text)
link_of u l g x to text c xc rel =
    let k = link_from u l g x to xc in
    subst (λ n. IsRelative (parent_of (plan.link_place l.store (built_instance u l.store g) n)) to text → LeafOf u l (plan.link_place l.store (built_instance u l.store g) n) (link text)) k.2
    (λ rel. record {
      what = Link text;
      leaf = dependency g k.0 text c k.1 (subst (λ p. IsRelative (parent_of (link_place l.store g k.0)) p text) (sym k.3) rel);
      stands = λ h. h;
    }) rel

planned_leaf : (u : Tree) (l : Layout) (q : Path) (e : Entry) → IsPlanned (build_of u l) q e → LeafOf u l q e
planned_leaf u l _ _ (plan.marker m text c) = record { what = Bytes text; leaf = marker (m, text) c; stands = λ h. h }
planned_leaf u l _ _ (plan.own b c) =
    let g = of_instance u l b c in
    subst (λ (b : Built). LeafOf u l (plan.home l.store b) folder) g.2 (record { what = Folder; leaf = own g.0 g.1; stands = λ h. h })
planned_leaf u l _ _ (plan.content b f bytes c fc) =
    let g = of_instance u l b c in
    subst (λ (b : Built). Contains b.files (f, bytes) → LeafOf u l (f ++ plan.home l.store b) (file bytes)) g.2 (content_of u l g.0 f bytes g.1) fc
planned_leaf u l _ _ (plan.dependency b x to text c xc rel) =
    let g = of_instance u l b c in
    subst (λ (b : Built). Contains b.links (x, to) → IsRelative (parent_of (plan.link_place l.store b x)) to text → LeafOf u l (plan.link_place l.store b x) (link text)) g.2 (link_of u l g.0 x to text g.1) xc rel
planned_leaf u l _ _ (plan.top b text c rel) =
    let t = from_map built_top l.tops b c in
    subst (λ (b : TopLink). IsRelative (parent_of (plan.top_place b)) b.target text → LeafOf u l (plan.top_place b) (link text)) t.2
    (λ rel. record { what = Link text; leaf = top t.0 text t.1 rel; stands = λ h. h }) rel

build_stands : (u : Tree) (l : Layout) (q : Path) (e : Entry) → InBuild (build_of u l) q e → ((p : Path) (v : Planned) → IsEntry l p v → StandsAs v (u p)) → u q ≡ Some e
build_stands u l _ _ (plan.managed m c) all =
    let n = from_map (λ (n : Managed). n.0) l.managed m c in
    subst (λ p. u p ≡ Some folder) n.2 (all n.0.0 Folder (managed n.0 n.1))
build_stands u l _ _ (plan.planned q e h) all = let k = planned_leaf u l q e h in k.stands (all q k.what (leaf q k.what k.leaf))
build_stands u l _ _ (plan.between m r below x e c h) all =
    let n = from_map (λ (n : Managed). n.0) l.managed m c in
    subst (λ p. IsPlanned (build_of u l) (below ++ x ∷ (r ++ p)) e → u (r ++ p) ≡ Some folder) n.2
    (λ h. let k = planned_leaf u l (below ++ x ∷ (r ++ n.0.0)) e h in all (r ++ n.0.0) Folder (between n.0 r below x k.what n.1 k.leaf)) h

pub built : BuiltLaw
built l entries u are has =
    let all : (p : Path) (v : Planned) → IsEntry l p v → StandsAs v (u p) = λ p v h. has.planned (p, v) ((are p v).1 h) in
    record {
      only = λ m r e c is.
          let n = from_map (λ (n : Managed). n.0) l.managed m c in
          subst (λ p. u (r ++ p) ≡ Some e → InBuild (build_of u l) (r ++ p) e) n.2
          (λ is. let w = has.only n.0 r e n.1 is in entry_built u l (r ++ n.0.0) w.0 e ((are (r ++ n.0.0) w.0).0 w.1) all is) is;
      all = λ q e h. build_stands u l q e h all;
    }
