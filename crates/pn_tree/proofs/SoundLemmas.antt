-- The build of a sound layout is sound.
use Rattle.std.proofs.Common.{◌≡◌, ◌≢◌, ◌⊎◌, inl, inr, ℕ, List, [], ◌∷◌, ◌++◌, length, get_or, refl, sym, ap, ◌∙◌, subst, true, false, arith, append_assoc, length-append}
use Rattle.std.specs.Prelude.{codes, map}
use Rattle.std.specs.List.{Contains}
use Rattle.std.proofs.lemmas.List.{append_cancel_right}
use Rattle.pn_text.specs.Path.{Path}
use Rattle.pn_text.specs.Name.{is_name, is_name_part, name_path}
use Rattle.pn_text.proofs.Members.{from_map, to_map}
use Rattle.pn_text.proofs.Relatives.{ends_nested}
use Rattle.pn_fs.specs.Tree.{Tree}
use Rattle.pn_node.specs.Plan.{Instance as Built, marker_name, IsSoundTop}
use Rattle.pn_node.proofs.NamePaths.{Shape, single, double, shape, snoc_same}
use Rattle.pn_digest.specs.Listing.{IsRelPath, rel_text}
use Rattle.pn_draft.specs.Drawing.{AreApart, is_within}
use Rattle.pn_draft.proofs.WithinLemmas.{is_within_at}
use Rattle.pn_tree.specs.declared.instance.Instance.{Instance}
use Rattle.pn_tree.specs.declared.instance.Target.{Target}
use Rattle.pn_tree.specs.declared.instance.Top.{Top}
use Rattle.pn_tree.specs.Trees.{Managed, Layout, file_bytes, home, built_instance, built_top}
use Rattle.pn_tree.specs.Sound.{folders, IsSoundLayout}
use Rattle.pn_tree.specs.Laws.{SoundLaw}

dotted : (y x : List ℕ) → is_name_part y ≡ true → y ≡ 46 ∷ x → ⊥
dotted y x h e = let no : false ≡ true = sym (ap is_name_part e) ∙ h in cc

scope_dotted : (r x : List ℕ) → 64 ∷ r ≡ 46 ∷ x → ⊥
scope_dotted r x e = let no : 64 ≡ 46 = ap (λ (l : List ℕ). get_or l 0 0) e in absurd (omega (arith, no))

-- no name's path ends in a part that begins with a dot
pub no_dot : (p s z : Path) (x : List ℕ) → Shape p → s ++ p ≡ z ++ (46 ∷ x) ∷ [] → ⊥
no_dot _ s z x (single y h) e = dotted y x h (snoc_same s z y (46 ∷ x) e).1
no_dot _ s z x (double y r h k) e =
    scope_dotted r x (snoc_same (s ++ y ∷ []) z (64 ∷ r) (46 ∷ x) (append_assoc s (y ∷ []) ((64 ∷ r) ∷ []) ∙ e)).1

pub longer : (q at : Path) (x : List ℕ) → at ≡ q ++ x ∷ at → ⊥
longer q at x e = omega (arith, ap length e, length-append q (x ∷ at))

-- two folders of which one is below the other are one
pub nested : (tops : List Path) (a b : Path) (s : Path) → AreApart tops → Contains tops a → Contains tops b → b ≡ s ++ a → (a ≡ b) × (s ≡ [])
nested tops a b s apart ca cb e =
    let one : a ≡ b = apart a b ca cb (subst (λ q. is_within a q ≡ true) (sym e) (is_within_at s a)) in
    (one, append_cancel_right s [] a (sym e ∙ sym one))

pub in_folders : (l : Layout) (m : Managed) → Contains l.managed m → Contains (folders l.managed) m.0
in_folders l m c = to_map (λ (n : Managed). n.0) l.managed m c

pub folder_of : (l : Layout) (p : Path) → Contains (folders l.managed) p → (m : Managed) × Contains l.managed m × (m.0 ≡ p)
folder_of l p c = from_map (λ (n : Managed). n.0) l.managed p c

-- the managed folder of the store, and the way there
pub record StoreWay (l : Layout) : Type 0 where
  pub folder : Managed
  pub among : Contains l.managed folder
  pub way : Path
  pub is : l.store ≡ way ++ folder.0
  pub short : (way ≡ []) ⊎ (way ≡ codes ".pnpm" ∷ [])

pub store_way : (l : Layout) → IsSoundLayout l → StoreWay l
store_way l s = elim s.store.2 [
  | inl e ↦ record { folder = s.store.0; among = s.store.1; way = []; is = e; short = inl refl }
  | inr e ↦ record { folder = s.store.0; among = s.store.1; way = codes ".pnpm" ∷ []; is = e; short = inr refl }
]

-- a managed folder at or below the store is the store
pub none_deeper : (l : Layout) → IsSoundLayout l → (m : Path) (r : Path) → Contains (folders l.managed) m → m ≡ r ++ l.store → r ≡ []
none_deeper l s m r c e =
    let w = store_way l s in
    let deep : m ≡ (r ++ w.way) ++ w.folder.0 = e ∙ ap (λ p. r ++ p) w.is ∙ sym (append_assoc r w.way w.folder.0) in
    let n = nested (folders l.managed) w.folder.0 m (r ++ w.way) s.apart (in_folders l w.folder w.among) c deep in
    first_none r w.way n.1 where
      first_none : (a b : Path) → a ++ b ≡ [] → a ≡ []
      first_none [] b h = refl
      first_none (x ∷ a) b h = cc

-- two managed folders above one path are one
pub ends_one : (tops : List Path) (a b x y : Path) → AreApart tops → Contains tops a → Contains tops b → x ++ a ≡ y ++ b → a ≡ b
ends_one tops a b x y apart ca cb h = elim (ends_nested x y a b h) [
  | inl i ↦ sym (apart b a cb ca (subst (λ q. is_within b q ≡ true) (sym i.1) (is_within_at i.0 b)))
  | inr j ↦ apart a b ca cb (subst (λ q. is_within a q ≡ true) (sym j.1) (is_within_at j.0 a))
]

-- a name in a managed folder is not at or below the store, where that is another folder
pub outside_store : (l : Layout) → IsSoundLayout l → (m : Path) (n : List ℕ) (q : Path) → Contains (folders l.managed) m → m ≢ l.store → is_name n ≡ true → name_path n ++ m ≡ q ++ l.store → ⊥
outside_store l s m n q c other named e =
    let w = store_way l s in
    let one : m ≡ w.folder.0 = ends_one (folders l.managed) m w.folder.0 (name_path n) (q ++ w.way) s.apart c (in_folders l w.folder w.among) (e ∙ ap (λ p. q ++ p) w.is ∙ sym (append_assoc q w.way w.folder.0)) in
    elim w.short [
      | inl none ↦ other (one ∙ sym (w.is ∙ ap (λ r. r ++ w.folder.0) none))
      | inr dot ↦
          let store : l.store ≡ codes ".pnpm" ∷ m = w.is ∙ ap (λ r. r ++ w.folder.0) dot ∙ ap (λ r. codes ".pnpm" ∷ r) (sym one) in
          let whole : name_path n ++ m ≡ (q ++ codes ".pnpm" ∷ []) ++ m = e ∙ ap (λ p. q ++ p) store ∙ sym (append_assoc q (codes ".pnpm" ∷ []) m) in
          no_dot (name_path n) [] q (codes "pnpm") (shape n named) (append_cancel_right (name_path n) (q ++ codes ".pnpm" ∷ []) m whole)
    ]

-- an instance of a build is one of the layout
pub of_instance : (u : Tree) (l : Layout) (b : Built) → Contains (map (built_instance u l.store) l.instances) b → (g : Instance) × Contains l.instances g × (built_instance u l.store g ≡ b)
of_instance u l b h = from_map (built_instance u l.store) l.instances b h

-- a file of it is one of the listing
pub file_from : (u : Tree) (l : Layout) (g : Instance) (f : Path) (bytes : List ℕ) → Contains (built_instance u l.store g).files (f, bytes) → (d : List ℕ) × Contains g.files (f, d) × (bytes ≡ file_bytes (u (f ++ home l.store g)))
file_from u l g f bytes h =
    let from = from_map (λ (e : Path × List ℕ). let b : Path × List ℕ = (e.0, file_bytes (u (e.0 ++ home l.store g))) in b) g.files (f, bytes) h in
    let same : from.0.0 ≡ f = ap (λ (e : Path × List ℕ). e.0) from.2 in
    (from.0.1, subst (λ p. Contains g.files (p, from.0.1)) same from.1, sym (ap (λ (e : Path × List ℕ). e.1) from.2) ∙ ap (λ p. file_bytes (u (p ++ home l.store g))) same)

-- a link of it is one of its targets
pub link_from : (u : Tree) (l : Layout) (g : Instance) (x : List ℕ) (to : Path) → Contains (built_instance u l.store g).links (x, to) → (k : Target) × Contains g.links k × (k.name ≡ x) × (k.to ≡ to)
link_from u l g x to h =
    let from = from_map (λ (k : Target). let b : List ℕ × Path = (k.name, k.to) in b) g.links (x, to) h in
    (from.0, from.1, ap (λ (b : List ℕ × Path). b.0) from.2, ap (λ (b : List ℕ × Path). b.1) from.2)

sound_top : (l : Layout) → IsSoundLayout l → (t : Top) → Contains l.tops t → IsSoundTop l.store (built_top t)
sound_top l s t c = record {
  named = (s.tops t c).name;
  outside = elim (s.tops t c).holder [
    | inl m ↦ inr (λ r e. outside_store l s t.holder t.name r m.0 m.1 (s.tops t c).name e)
    | inr own ↦ inl own
  ];
}

snoc_whole : (q : Path) (x y : List ℕ) (m : Path) → x ∷ m ≡ q ++ y ∷ m → x ≡ y
snoc_whole q x y m e = (snoc_same [] q x y (append_cancel_right (x ∷ []) (q ++ y ∷ []) m (e ∙ sym (append_assoc q (y ∷ []) m)))).1

-- a marker at or below the store is the store's own
marker_deep : (l : Layout) → IsSoundLayout l → (m : Path) (r : Path) → Contains (folders l.managed) m → marker_name ∷ m ≡ r ++ l.store → m ≡ l.store
marker_deep l s m r c e =
    let w = store_way l s in
    let one : m ≡ w.folder.0 = ends_one (folders l.managed) m w.folder.0 (marker_name ∷ []) (r ++ w.way) s.apart c (in_folders l w.folder w.among) (e ∙ ap (λ p. r ++ p) w.is ∙ sym (append_assoc r w.way w.folder.0)) in
    elim w.short [
      | inl none ↦ one ∙ sym (w.is ∙ ap (λ q. q ++ w.folder.0) none)
      | inr dot ↦
          let store : l.store ≡ codes ".pnpm" ∷ m = w.is ∙ ap (λ q. q ++ w.folder.0) dot ∙ ap (λ q. codes ".pnpm" ∷ q) (sym one) in
          let no : 8 ≡ 5 = ap length (snoc_whole r marker_name (codes ".pnpm") m (e ∙ ap (λ p. r ++ p) store)) in
          absurd (omega (arith, no))
    ]

-- a path below some folder has a part
pub rel_filled : (f : Path) → IsRelPath f → f ≢ []
rel_filled [] h e = let no : 47 ∷ rel_text [] ≡ [] = h.spelled.spelled in cc
rel_filled (x ∷ f) h e = cc

pub sound : SoundLaw
sound u l s = record {
  under = let w = store_way l s in (w.folder.0, w.way, in_folders l w.folder w.among, w.is);
  stores = λ m r c e. none_deeper l s m r c e;
  apart = λ a b ca cb e.
      let g = of_instance u l a ca in
      let h = of_instance u l b cb in
      let one : g.0 ≡ h.0 = s.dirs g.0 h.0 g.1 h.1 (ap (λ (x : Built). x.dir) g.2 ∙ e ∙ sym (ap (λ (x : Built). x.dir) h.2)) in
      sym g.2 ∙ ap (built_instance u l.store) one ∙ h.2;
  dirs = λ b c e. let g = of_instance u l b c in (s.instances g.0 g.1).dir (ap (λ (x : Built). x.dir) g.2 ∙ e);
  names = λ b c. let g = of_instance u l b c in subst (λ (x : Built). is_name x.name ≡ true) g.2 (s.instances g.0 g.1).name;
  files = λ b f bytes c fc.
      let g = of_instance u l b c in
      let d = file_from u l g.0 f bytes (subst (λ (x : Built). Contains x.files (f, bytes)) (sym g.2) fc) in
      record { below = rel_filled f ((s.instances g.0 g.1).files.entries (f, d.0) d.1).path; clean = (s.instances g.0 g.1).clean f d.0 d.1 };
  links = λ b x to c xc.
      let g = of_instance u l b c in
      let k = link_from u l g.0 x to (subst (λ (y : Built). Contains y.links (x, to)) (sym g.2) xc) in
      (subst (λ n. is_name n ≡ true) k.2 ((s.instances g.0 g.1).links k.0 k.1), λ e. (s.instances g.0 g.1).others k.0 k.1 (k.2 ∙ e ∙ sym (ap (λ (y : Built). y.name) g.2)));
  tops = λ b c. let t = from_map built_top l.tops b c in subst (IsSoundTop l.store) t.2 (sound_top l s t.0 t.1);
  marked = λ m r text c e. marker_deep l s m r (in_folders l (m, text) c) e;
}
