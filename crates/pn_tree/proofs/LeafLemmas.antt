-- The leaves of a layout, each by its kind, and how they stand to each other.
use Rattle.std.proofs.Common.{◌≡◌, ◌≢◌, inl, inr, ℕ, List, [], ◌∷◌, ◌++◌, length, refl, sym, ap, ◌∙◌, subst, true, append_assoc, arith}
use Rattle.std.specs.Prelude.{map, codes}
use Rattle.std.specs.List.{Contains, flat_map}
use Rattle.std.proofs.lemmas.List.Elements.{Contains-append_left, Contains-append_right, Contains-append_cases}
use Rattle.std.proofs.lemmas.List.{append_cancel_right}
use Rattle.pn_text.specs.Path.{Path}
use Rattle.pn_text.specs.Name.{is_name, name_path, modules}
use Rattle.pn_text.proofs.Members.{from_map, to_map, here, there, in_cons, none_in}
use Rattle.std.proofs.lemmas.List.Elements.{All-contains, All-from_recursion}
use Rattle.std.specs.List.Sorted.{IsStrictlySortedBy}
use Rattle.std.specs.Cmp.Lexicographic.{slice_cmp}
use Rattle.std.specs.Ordering.{nat_cmp}
use Rattle.std.specs.declared.cmp.Ordering.TheVariants.{Less}
use Rattle.pn_text.proofs.Orders.{not_before_self}
use Rattle.pn_digest.specs.Listing.{Entry as ListEntry, IsRising, rel_text}
use Rattle.pn_digest.specs.declared.planned.Planned.{Planned}
use Rattle.pn_digest.specs.declared.planned.Planned.TheVariants.{Folder, Bytes, Stored, Link}
use Rattle.pn_node.specs.Plan.{marker_name}
use Rattle.pn_node.proofs.NamePaths.{shape, snoc_same, same_name}
use Rattle.pn_tree.specs.declared.instance.Instance.{Instance}
use Rattle.pn_tree.specs.declared.instance.Target.{Target}
use Rattle.pn_tree.specs.declared.instance.Top.{Top}
use Rattle.pn_tree.specs.Trees.{Managed, Layout, beside, home, link_place, top_place}
use Rattle.pn_tree.specs.Relatives.{link_text}
use Rattle.pn_tree.specs.Sound.{folders, IsSoundInstance, IsSoundLayout}
use Rattle.pn_tree.specs.Leaves.{Leaf, marker_leaf, top_leaf, file_leaf, target_leaf, instance_leaves, leaves_of}
use Rattle.pn_tree.proofs.SoundLemmas.{no_dot, in_folders, store_way, ends_one, rel_filled}

pub in_flat_map : {A B : Type 0} (f : A → List B) (xs : List A) (x : A) (y : B) → Contains xs x → Contains (f x) y → Contains (flat_map f xs) y
in_flat_map f [] x y h k = absurd (none_in x h)
in_flat_map f (z ∷ zs) x y h k = elim (in_cons z zs x h) [
  | inl a ↦ Contains-append_left (f z) (flat_map f zs) y (subst (λ w. Contains (f w) y) (sym a) k)
  | inr b ↦ Contains-append_right (f z) (flat_map f zs) y (in_flat_map f zs x y b k)
]

pub from_flat_map : {A B : Type 0} (f : A → List B) (xs : List A) (y : B) → Contains (flat_map f xs) y → (x : A) × Contains xs x × Contains (f x) y
from_flat_map f [] y h = absurd (none_in y h)
from_flat_map f (x ∷ xs) y h = elim (Contains-append_cases (f x) (flat_map f xs) y h) [
  | inl a ↦ (x, here x xs, a)
  | inr b ↦ let rest = from_flat_map f xs y b in (rest.0, there x xs rest.0 rest.1, rest.2)
]

-- what stands in the folder of an instance
pub data IsInside (g : Instance) (store : Path) : Path → Planned → Type 0 where
  own_in : IsInside g store (name_path g.name) Folder
  file_in : (f : Path) (d : List ℕ) → Contains g.files (f, d) → IsInside g store (f ++ name_path g.name) (Stored d)
  link_in : (k : Target) → Contains g.links k → IsInside g store (name_path k.name) (Link (link_text (link_place store g k) k.to))

pub data IsListed (l : Layout) : Path → Planned → Type 0 where
  marks : (m : Managed) → Contains l.managed m → IsListed l (marker_name ∷ m.0) (Bytes m.1)
  linked : (t : Top) → Contains l.tops t → IsListed l (top_place t) (Link (link_text (top_place t) t.to))
  inside : (g : Instance) (z : Path) (w : Planned) → Contains l.instances g → IsInside g l.store z w → IsListed l (z ++ beside l.store g) w

as_listed : (l : Layout) (a b : Leaf) → a ≡ b → IsListed l a.0 a.1 → IsListed l b.0 b.1
as_listed l a b e h = subst (λ (x : Leaf). IsListed l x.0 x.1) e h

instance_listed : (l : Layout) (g : Instance) → Contains l.instances g → (x : Leaf) → Contains (instance_leaves l.store g) x → IsListed l x.0 x.1
instance_listed l g c x h = elim (in_cons (home l.store g, Folder) _ x h) [
  | inl a ↦ as_listed l (home l.store g, Folder) x a (inside g (name_path g.name) Folder c own_in)
  | inr b ↦ elim (Contains-append_cases (map (file_leaf l.store g) g.files) (map (target_leaf l.store g) g.links) x b) [
    | inl a ↦
        let f = from_map (file_leaf l.store g) g.files x a in
        as_listed l ((f.0.0 ++ name_path g.name) ++ beside l.store g, Stored f.0.1) x
        (ap (λ q. let y : Leaf = (q, Stored f.0.1) in y) (append_assoc f.0.0 (name_path g.name) (beside l.store g)) ∙ f.2)
        (inside g (f.0.0 ++ name_path g.name) (Stored f.0.1) c (file_in f.0.0 f.0.1 f.1))
    | inr b ↦
        let k = from_map (target_leaf l.store g) g.links x b in
        as_listed l (target_leaf l.store g k.0) x k.2 (inside g (name_path k.0.name) (Link (link_text (link_place l.store g k.0) k.0.to)) c (link_in k.0 k.1))
  ]
]

-- each leaf of the list is of a kind
pub listed_from : (l : Layout) (x : Leaf) → Contains (leaves_of l) x → IsListed l x.0 x.1
listed_from l x h = elim (Contains-append_cases (map marker_leaf l.managed) (map top_leaf l.tops ++ flat_map (instance_leaves l.store) l.instances) x h) [
  | inl a ↦ let m = from_map marker_leaf l.managed x a in as_listed l (marker_leaf m.0) x m.2 (marks m.0 m.1)
  | inr b ↦ elim (Contains-append_cases (map top_leaf l.tops) (flat_map (instance_leaves l.store) l.instances) x b) [
    | inl a ↦ let t = from_map top_leaf l.tops x a in as_listed l (top_leaf t.0) x t.2 (linked t.0 t.1)
    | inr b ↦ let g = from_flat_map (instance_leaves l.store) l.instances x b in instance_listed l g.0 g.1 x g.2
  ]
]

inside_leaf : (g : Instance) (store : Path) (z : Path) (w : Planned) → IsInside g store z w → Contains (instance_leaves store g) (z ++ beside store g, w)
inside_leaf g store _ _ own_in = here (home store g, Folder) _
inside_leaf g store _ _ (file_in f d c) =
    subst (Contains (instance_leaves store g)) (ap (λ q. let y : Leaf = (q, Stored d) in y) (sym (append_assoc f (name_path g.name) (beside store g))))
    (there (home store g, Folder) _ (file_leaf store g (f, d)) (Contains-append_left (map (file_leaf store g) g.files) (map (target_leaf store g) g.links) (file_leaf store g (f, d)) (to_map (file_leaf store g) g.files (f, d) c)))
inside_leaf g store _ _ (link_in k c) =
    there (home store g, Folder) _ (target_leaf store g k) (Contains-append_right (map (file_leaf store g) g.files) (map (target_leaf store g) g.links) (target_leaf store g k) (to_map (target_leaf store g) g.links k c))

-- and each of a kind is in the list
pub listed_to : (l : Layout) (q : Path) (w : Planned) → IsListed l q w → Contains (leaves_of l) (q, w)
listed_to l _ _ (marks m c) = Contains-append_left (map marker_leaf l.managed) (map top_leaf l.tops ++ flat_map (instance_leaves l.store) l.instances) (marker_leaf m) (to_map marker_leaf l.managed m c)
listed_to l _ _ (linked t c) =
    Contains-append_right (map marker_leaf l.managed) (map top_leaf l.tops ++ flat_map (instance_leaves l.store) l.instances) (top_leaf t) (Contains-append_left (map top_leaf l.tops) (flat_map (instance_leaves l.store) l.instances) (top_leaf t) (to_map top_leaf l.tops t c))
listed_to l _ _ (inside g z w c h) =
    Contains-append_right (map marker_leaf l.managed) (map top_leaf l.tops ++ flat_map (instance_leaves l.store) l.instances) (z ++ beside l.store g, w) (Contains-append_right (map top_leaf l.tops) (flat_map (instance_leaves l.store) l.instances) (z ++ beside l.store g, w)
    (in_flat_map (instance_leaves l.store) l.instances g (z ++ beside l.store g, w) c (inside_leaf g l.store z w h)))

-- what one leaf says of another one that stands so far below it
abbrev pub Conforms : Path → Planned → Planned → Type 0
Conforms [] v w = v ≡ w
Conforms (x ∷ s) v w = v ≡ Folder

pub folder_conforms : (s : Path) (w : Planned) → s ≢ [] → Conforms s Folder w
folder_conforms [] w some = absurd (some refl)
folder_conforms (x ∷ s) w some = refl

pub folders_conform : (s : Path) → Conforms s Folder Folder
folders_conform [] = refl
folders_conform (x ∷ s) = refl

pub same_conform : (s : Path) (v w : Planned) → s ≡ [] → v ≡ w → Conforms s v w
same_conform [] v w none e = e
same_conform (x ∷ s) v w none e = cc

-- of two paths that end in names, where the one is above the other
names_same : (m n : List ℕ) (s z f : Path) → is_name m ≡ true → is_name n ≡ true → s ++ (z ++ name_path m) ≡ f ++ name_path n → m ≡ n
names_same m n s z f h k e = same_name m n (s ++ z) f h k (append_assoc s z (name_path m) ∙ e)

before_name : (m n : List ℕ) (s z f : Path) → m ≡ n → s ++ (z ++ name_path m) ≡ f ++ name_path n → s ++ z ≡ f
before_name m n s z f same e = append_cancel_right (s ++ z) f (name_path n) (ap (λ x. (s ++ z) ++ name_path x) (sym same) ∙ append_assoc s z (name_path m) ∙ e)

both_empty : (s z : Path) → s ++ z ≡ [] → (s ≡ []) × (z ≡ [])
both_empty [] z e = (refl, e)
both_empty (x ∷ s) z e = cc

first_below : (x : ListEntry) (xs : List ListEntry) → IsRising (x ∷ xs) → (y : ListEntry) → Contains xs y → slice_cmp nat_cmp (rel_text x.0) (rel_text y.0) ≡ Less
unfolding IsStrictlySortedBy
first_below x xs rising y c =
    All-contains (λ t. slice_cmp nat_cmp (rel_text x.0) t ≡ Less) (map (λ (e : ListEntry). rel_text e.0) xs) (rel_text y.0)
    (All-from_recursion (λ t. slice_cmp nat_cmp (rel_text x.0) t ≡ Less) (map (λ (e : ListEntry). rel_text e.0) xs) rising.0) (to_map (λ (e : ListEntry). rel_text e.0) xs y c)

-- a path of a listing has one digest
one_file : (es : List ListEntry) → IsRising es → (f : Path) (d e : List ℕ) → Contains es (f, d) → Contains es (f, e) → d ≡ e
unfolding IsStrictlySortedBy
one_file [] rising f d e h k = absurd (none_in (f, d) h)
one_file (x ∷ xs) rising f d e h k = elim (in_cons x xs (f, d) h) [
  | inl a ↦ elim (in_cons x xs (f, e) k) [
    | inl b ↦ ap (λ (y : ListEntry). y.1) (sym a ∙ b)
    | inr b ↦ absurd (not_before_self (rel_text f) (subst (λ (y : ListEntry). slice_cmp nat_cmp (rel_text y.0) (rel_text f) ≡ Less) a (first_below x xs rising (f, e) b)))
  ]
  | inr a ↦ elim (in_cons x xs (f, e) k) [
    | inl b ↦ absurd (not_before_self (rel_text f) (subst (λ (y : ListEntry). slice_cmp nat_cmp (rel_text y.0) (rel_text f) ≡ Less) b (first_below x xs rising (f, d) a)))
    | inr b ↦ one_file xs rising.1 f d e a b
  ]
]

pub in_instance : (g : Instance) (store : Path) → IsSoundInstance g → (s y z : Path) (v w : Planned) → IsInside g store y v → IsInside g store z w → s ++ y ≡ z → Conforms s v w
in_instance g store h s _ _ _ _ own_in own_in e = folders_conform s
in_instance g store h s _ _ _ _ own_in (file_in f d c) e =
    folder_conforms s (Stored d) (λ none. rel_filled f (h.files.entries (f, d) c).path (sym (append_cancel_right s f (name_path g.name) e) ∙ none))
in_instance g store h s _ _ _ _ own_in (link_in k c) e =
    absurd (h.others k c (sym (same_name g.name k.name s [] h.name (h.links k c) e)))
in_instance g store h s _ _ _ _ (file_in f d c) own_in e =
    absurd (rel_filled f (h.files.entries (f, d) c).path (both_empty s f (before_name g.name g.name s f [] refl e)).1)
in_instance g store h s _ _ _ _ (file_in f d c) (file_in f2 d2 c2) e =
    let below : s ++ f ≡ f2 = before_name g.name g.name s f f2 refl e in
    let none : s ≡ [] = h.files.apart s f d d2 c (subst (λ p. Contains g.files (p, d2)) (sym below) c2) in
    let same : f ≡ f2 = ap (λ t. t ++ f) (sym none) ∙ below in
    same_conform s (Stored d) (Stored d2) none (ap Stored (one_file g.files h.files.rising f d d2 c (subst (λ p. Contains g.files (p, d2)) (sym same) c2)))
in_instance g store h s _ _ _ _ (file_in f d c) (link_in k kc) e =
    absurd (h.others k kc (sym (names_same g.name k.name s f [] h.name (h.links k kc) e)))
in_instance g store h s _ _ _ _ (link_in k c) own_in e =
    absurd (h.others k c (same_name k.name g.name s [] (h.links k c) h.name e))
in_instance g store h s _ _ _ _ (link_in k c) (file_in f d fc) e =
    absurd (h.others k c (same_name k.name g.name s f (h.links k c) h.name e))
in_instance g store h s _ _ _ _ (link_in k c) (link_in j d) e =
    let names : k.name ≡ j.name = same_name k.name j.name s [] (h.links k c) (h.links j d) e in
    let none : s ≡ [] = append_cancel_right s [] (name_path j.name) (ap (λ n. s ++ name_path n) (sym names) ∙ e) in
    same_conform s (Link (link_text (link_place store g k) k.to)) (Link (link_text (link_place store g j) j.to)) none (ap (λ (x : Target). Link (link_text (link_place store g x) x.to)) (h.once k j c d names))

-- what ends in a part that is on the way to the store, or in it, is no marker
pub mark_and_deep : (l : Layout) → IsSoundLayout l → (a b m : Path) (k : List ℕ) → Contains (folders l.managed) m → k ≢ marker_name → a ++ marker_name ∷ m ≡ b ++ k ∷ l.store → ⊥
mark_and_deep l s a b m k c other e =
    let w = store_way l s in
    let far : b ++ k ∷ l.store ≡ (b ++ k ∷ w.way) ++ w.folder.0 = ap (λ q. b ++ k ∷ q) w.is ∙ sym (append_assoc b (k ∷ w.way) w.folder.0) in
    let near : a ++ marker_name ∷ m ≡ (a ++ marker_name ∷ []) ++ m = sym (append_assoc a (marker_name ∷ []) m) in
    let one : m ≡ w.folder.0 = ends_one (folders l.managed) m w.folder.0 (a ++ marker_name ∷ []) (b ++ k ∷ w.way) s.apart c (in_folders l w.folder w.among) (sym near ∙ e ∙ far) in
    let short : a ++ marker_name ∷ [] ≡ b ++ k ∷ w.way = append_cancel_right (a ++ marker_name ∷ []) (b ++ k ∷ w.way) m (sym near ∙ e ∙ far ∙ ap (λ q. (b ++ k ∷ w.way) ++ q) (sym one)) in
    elim w.short [
      | inl none ↦ other (sym (snoc_same a b marker_name k (short ∙ ap (λ q. b ++ k ∷ q) none)).1)
      | inr dot ↦
          let no : 8 ≡ 5 = ap length (snoc_same a (b ++ k ∷ []) marker_name (codes ".pnpm") (short ∙ ap (λ q. b ++ k ∷ q) dot ∙ sym (append_assoc b (k ∷ []) (codes ".pnpm" ∷ [])))).1 in
          absurd (omega (arith, no))
    ]

-- nor a name in another managed folder
pub name_and_deep : (l : Layout) → IsSoundLayout l → (a b m : Path) (n k : List ℕ) → Contains (folders l.managed) m → m ≢ l.store → is_name n ≡ true → a ++ (name_path n ++ m) ≡ b ++ k ∷ l.store → ⊥
name_and_deep l s a b m n k c other named e =
    let w = store_way l s in
    let far : b ++ k ∷ l.store ≡ (b ++ k ∷ w.way) ++ w.folder.0 = ap (λ q. b ++ k ∷ q) w.is ∙ sym (append_assoc b (k ∷ w.way) w.folder.0) in
    let near : a ++ (name_path n ++ m) ≡ (a ++ name_path n) ++ m = sym (append_assoc a (name_path n) m) in
    let one : m ≡ w.folder.0 = ends_one (folders l.managed) m w.folder.0 (a ++ name_path n) (b ++ k ∷ w.way) s.apart c (in_folders l w.folder w.among) (sym near ∙ e ∙ far) in
    let short : a ++ name_path n ≡ b ++ k ∷ w.way = append_cancel_right (a ++ name_path n) (b ++ k ∷ w.way) m (sym near ∙ e ∙ far ∙ ap (λ q. (b ++ k ∷ w.way) ++ q) (sym one)) in
    elim w.short [
      | inl none ↦ other (one ∙ sym (w.is ∙ ap (λ q. q ++ w.folder.0) none))
      | inr dot ↦ no_dot (name_path n) a (b ++ k ∷ []) (codes "pnpm") (shape n named) (short ∙ ap (λ q. b ++ k ∷ q) dot ∙ sym (append_assoc b (k ∷ []) (codes ".pnpm" ∷ [])))
    ]

-- a marker is no name
pub mark_and_name : (l : Layout) → IsSoundLayout l → (a b m o : Path) (n : List ℕ) → Contains (folders l.managed) m → Contains (folders l.managed) o → is_name n ≡ true → a ++ marker_name ∷ m ≡ b ++ (name_path n ++ o) → ⊥
mark_and_name l s a b m o n cm co named e =
    let whole : (a ++ marker_name ∷ []) ++ m ≡ (b ++ name_path n) ++ o = append_assoc a (marker_name ∷ []) m ∙ e ∙ sym (append_assoc b (name_path n) o) in
    let one : m ≡ o = ends_one (folders l.managed) m o (a ++ marker_name ∷ []) (b ++ name_path n) s.apart cm co whole in
    let short : a ++ marker_name ∷ [] ≡ b ++ name_path n = append_cancel_right (a ++ marker_name ∷ []) (b ++ name_path n) m (whole ∙ ap (λ q. (b ++ name_path n) ++ q) (sym one)) in
    no_dot (name_path n) b a (codes "pnpm-rs") (shape n named) (sym short)

pub deeper : (l : Layout) (g : Instance) (z : Path) → z ++ beside l.store g ≡ (z ++ modules ∷ []) ++ g.dir ∷ l.store
deeper l g z = sym (append_assoc z (modules ∷ []) (g.dir ∷ l.store))

pub modules_unmarked : modules ≢ marker_name
modules_unmarked e = let no : 12 ≡ 8 = ap length e in absurd (omega (arith, no))

pub deep_last : (s y : Path) (k : List ℕ) (z : Path) (j : List ℕ) (store : Path) → s ++ (y ++ k ∷ store) ≡ z ++ j ∷ store → (s ++ y ≡ z) × (k ≡ j)
deep_last s y k z j store e =
    let whole : ((s ++ y) ++ k ∷ []) ++ store ≡ (z ++ j ∷ []) ++ store =
    append_assoc (s ++ y) (k ∷ []) store ∙ append_assoc s y (k ∷ store) ∙ e ∙ sym (append_assoc z (j ∷ []) store) in
    let r = snoc_same (s ++ y) z k j (append_cancel_right ((s ++ y) ++ k ∷ []) (z ++ j ∷ []) store whole) in
    (r.0, r.1)
