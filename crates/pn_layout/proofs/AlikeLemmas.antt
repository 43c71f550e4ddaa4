-- Layouts with the same paths.
use Rattle.std.proofs.Common.{◌≡◌, ℕ, List, ◌∷◌, ◌++◌, length, Ordering, Less, Equal, Greater, nat_cmp, refl, sym, ap, ◌∙◌, subst, arith}
use Rattle.std.specs.Cmp.Lexicographic.{slice_cmp}
use Rattle.std.specs.List.{Contains}
use Rattle.std.specs.Ordering.{is_eq, ordering_reverse}
use Rattle.std.proofs.lemmas.Cmp.{nat_list_cmp_total}
use Rattle.std.proofs.lemmas.Map.Text.{is_eq-slice_cmp}
use Rattle.std.proofs.lemmas.Slice.Eq.{bytes_eq-Decides}
use Rattle.pn_text.specs.Path.{Path, path_text}
use Rattle.pn_text.specs.Name.{name_path, modules}
use Rattle.pn_text.specs.Relative.{parent_of}
use Rattle.pn_digest.specs.declared.planned.Planned.{Planned}
use Rattle.pn_digest.specs.declared.planned.Planned.TheVariants.{Folder, Bytes, Stored, Link}
use Rattle.pn_tree.specs.declared.instance.Instance.{Instance}
use Rattle.pn_tree.specs.declared.instance.Target.{Target}
use Rattle.pn_tree.specs.declared.instance.Top.{Top}
use Rattle.pn_tree.specs.Trees.{Managed, Layout, laid, home, link_place, top_place, IsLeaf, marker, own, content, dependency, top, IsEntry, managed, leaf, between}
use Rattle.pn_tree.specs.Relatives.{relative_text}
use Rattle.pn_tree.specs.Refusals.{IsTooLong}
use Rattle.pn_tree.proofs.RelativeLemmas.{relative}
use Rattle.pn_layout.specs.Layout.{Fits}

-- The second one has the paths of the first.
pub record HasPathsOf (g h : Instance) : Type 0 where
  pub dir : g.dir ≡ h.dir
  pub name : g.name ≡ h.name
  pub files : (f : Path) (d : List ℕ) → Contains g.files (f, d) → (e : List ℕ) × Contains h.files (f, e)
  pub links : (k : Target) → Contains g.links k → (j : Target) × Contains h.links j × (k.name ≡ j.name)

pub record HavePathsOf (gs hs : List Instance) (ts us : List Top) : Type 0 where
  pub instances : (g : Instance) → Contains gs g → (h : Instance) × Contains hs h × HasPathsOf g h
  pub tops : (t : Top) → Contains ts t → (u : Top) × Contains us u × (t.holder ≡ u.holder) × (t.name ≡ u.name)

same_home : (store : Path) (g h : Instance) → g.dir ≡ h.dir → g.name ≡ h.name → home store h ≡ home store g
same_home store g h dir name = λ i. name_path (sym name i) ++ modules ∷ sym dir i ∷ store

same_place : (store : Path) (g h : Instance) (k j : Target) → g.dir ≡ h.dir → k.name ≡ j.name → link_place store h j ≡ link_place store g k
same_place store g h k j dir name = λ i. name_path (sym name i) ++ modules ∷ sym dir i ∷ store

same_top : (t u : Top) → t.holder ≡ u.holder → t.name ≡ u.name → top_place u ≡ top_place t
same_top t u holder name = λ i. name_path (sym name i) ++ sym holder i

module _ (store : Path) (ms : List Managed) (gs hs : List Instance) (ts us : List Top) (alike : HavePathsOf gs hs ts us) where
  first : Layout
  first = laid store ms gs ts

  second : Layout
  second = laid store ms hs us

  leaf_of : (q : Path) (w : Planned) → IsLeaf (laid store ms gs ts) q w → (v : Planned) × IsLeaf (laid store ms hs us) q v
  leaf_of _ _ (marker m c) = (Bytes m.1, marker m c)
  leaf_of _ _ (own g c) = let h = alike.instances g c in (Folder, subst (λ q. IsLeaf (laid store ms hs us) q Folder) (same_home store g h.0 h.2.dir h.2.name) (own h.0 h.1))
  leaf_of _ _ (content g f d c fc) =
      let h = alike.instances g c in
      let e = h.2.files f d fc in
      (Stored e.0, subst (λ q. IsLeaf (laid store ms hs us) (f ++ q) (Stored e.0)) (same_home store g h.0 h.2.dir h.2.name) (content h.0 f e.0 h.1 e.1))
  leaf_of _ _ (dependency g k text c kc rel) =
      let h = alike.instances g c in
      let j = h.2.links k kc in
      let way = relative_text (parent_of (link_place store h.0 j.0)) j.0.to in
      (Link way, subst (λ q. IsLeaf (laid store ms hs us) q (Link way)) (same_place store g h.0 k j.0 h.2.dir j.2) (dependency h.0 j.0 way h.1 j.1 (relative (parent_of (link_place store h.0 j.0)) j.0.to)))
  leaf_of _ _ (top t text c rel) =
      let u = alike.tops t c in
      let way = relative_text (parent_of (top_place u.0)) u.0.to in
      (Link way, subst (λ q. IsLeaf (laid store ms hs us) q (Link way)) (same_top t u.0 u.2 u.3) (top u.0 way u.1 (relative (parent_of (top_place u.0)) u.0.to)))

  -- what stands at a path of the first, there in the second
  pub entry_of : (q : Path) (w : Planned) → IsEntry (laid store ms gs ts) q w → (v : Planned) × IsEntry (laid store ms hs us) q v
  entry_of _ _ (managed m c) = (Folder, managed m c)
  entry_of _ _ (leaf q w h) = let k = leaf_of q w h in (k.0, leaf q k.0 k.1)
  entry_of _ _ (between m r below x w c h) = let k = leaf_of (below ++ x ∷ (r ++ m.0)) w h in (Folder, between m r below x k.0 c k.1)

pub long_of : (store : Path) (ms : List Managed) (gs hs : List Instance) (ts us : List Top) (n : ℕ) → HavePathsOf gs hs ts us → HavePathsOf hs gs us ts → IsTooLong (laid store ms gs ts) n → IsTooLong (laid store ms hs us) n
long_of store ms gs hs ts us n to from h =
    let k = entry_of store ms gs hs ts us to h.path h.what h.planned in
    record {
      path = h.path;
      what = k.0;
      planned = k.1;
      size_is = h.size_is;
      long = h.long;
      first = λ q w e before. let j = entry_of store ms hs gs us ts from q w e in h.first q j.0 j.1 before;
    }

-- there is one first path that is too long
pub one_long : (l : Layout) (m n : ℕ) → IsTooLong l m → IsTooLong l n → m ≡ n
one_long l m n a b = by_order (slice_cmp nat_cmp (path_text a.path) (path_text b.path)) refl where
  by_order : (o : Ordering) → slice_cmp nat_cmp (path_text a.path) (path_text b.path) ≡ o → m ≡ n
  by_order Less h = absurd (omega (arith, b.first a.path a.what a.planned h, a.size_is, a.long))
  by_order Equal h =
      let same : path_text a.path ≡ path_text b.path = (bytes_eq-Decides (path_text a.path) (path_text b.path)).0 (sym (is_eq-slice_cmp (path_text a.path) (path_text b.path)) ∙ ap is_eq h) in
      a.size_is ∙ ap length same ∙ sym b.size_is
  by_order Greater h =
      let back : slice_cmp nat_cmp (path_text b.path) (path_text a.path) ≡ Less = nat_list_cmp_total.antisymm (path_text b.path) (path_text a.path) ∙ ap ordering_reverse h in
      absurd (omega (arith, a.first b.path b.what b.planned back, b.size_is, b.long))

pub none_long : (l : Layout) (n : ℕ) → Fits l → IsTooLong l n → ⊥
none_long l n fits h = omega (arith, fits h.path h.what h.planned, h.size_is, h.long)
