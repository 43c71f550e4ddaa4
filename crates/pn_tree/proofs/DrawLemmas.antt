-- Leaves drawn one after the other, and the paths that their texts spell.
use Rattle.std.proofs.Common.{◌≡◌, ◌<◌, ◌+◌, ℕ, List, [], ◌∷◌, ◌++◌, length, get_or, take, refl, sym, ap, ◌∙◌, subst, true, append_assoc, append-nil, inl, inr, Ok, Err}
use Rattle.std.specs.Prelude.{map, Option, Result, OnOk, IsTrue, ◌≢◌}
use Rattle.std.specs.List.{Contains, flat_map}
use Rattle.std.specs.Cmp.Derive.{both_true}
use Rattle.std.proofs.lemmas.List.{take_more, map-append}
use Rattle.std.proofs.lemmas.Grind.{flat_map-append}
use Rattle.pn_text.specs.Path.{Path, is_part, text_below, SpellsParts}
use Rattle.pn_text.specs.Name.{is_name, name_path, modules}
use Rattle.pn_text.proofs.Joins.{is_path-append, text_below-append}
use Rattle.pn_text.proofs.NameTexts.{name_of, names_spell}
use Rattle.pn_digest.specs.declared.planned.Planned.{Planned}
use Rattle.pn_digest.specs.declared.planned.Planned.TheVariants.{Folder}
use Rattle.pn_node.proofs.NamePaths.{shape, shape_filled}
use Rattle.pn_draft.specs.Drawing.{Drawing, drawn, with_leaf, bare, is_inside, is_within}
use Rattle.pn_draft.specs.Entries.{with_leaves, drawing}
use Rattle.pn_draft.proofs.TopLemmas.{member_inside, any_of}
use Rattle.pn_draft.proofs.WithinLemmas.{is_within_at}
use Rattle.pn_tree.specs.declared.instance.Instance.{Instance}
use Rattle.pn_tree.specs.declared.instance.Top.{Top}
use Rattle.pn_tree.specs.Trees.{Layout, beside, home}
use Rattle.pn_tree.specs.Sound.{folders, IsSoundLayout}
use Rattle.pn_tree.specs.Leaves.{Leaf, marker_leaf, top_leaf, file_leaf, target_leaf, instance_leaves, leaves_of}
use Rattle.pn_tree.specs.Drawn.{Draws}
use Rattle.pn_tree.proofs.SoundLemmas.{in_folders, store_way}

with_leaves-append : (m : List Path) (xs ys : List Leaf) (d : Path → Option Planned) → with_leaves m d (xs ++ ys) ≡ with_leaves m (with_leaves m d xs) ys
with_leaves-append m [] ys d = refl
with_leaves-append m (x ∷ xs) ys d = with_leaves-append m xs ys (with_leaf m d x.0 x.1)

pub draws_none : (a : Drawing) → Draws a a []
draws_none a = record { tops = refl; drawn = refl }

pub draws_then : (a b c : Drawing) (xs ys : List Leaf) → Draws a b xs → Draws b c ys → Draws a c (xs ++ ys)
draws_then a b c xs ys h k = record {
  tops = k.tops ∙ h.tops;
  drawn = k.drawn ∙ ap (λ m. with_leaves m (drawn b) ys) h.tops ∙ ap (λ d. with_leaves a.tops d ys) h.drawn ∙ sym (with_leaves-append a.tops xs ys (drawn a));
}

-- what one draws each of, and one more
pub draws_step : {A : Type 0} (F : List A → List Leaf) (G : A → List Leaf) → ((xs : List A) (x : A) → F (xs ++ x ∷ []) ≡ F xs ++ G x) → (a b c : Drawing) (all : List A) (i : ℕ) (x : A)
    → i < length all → x ≡ get_or all i x → Draws a b (F (take i all)) → Draws b c (G x) → Draws a c (F (take (i + 1) all))
draws_step F G more a b c all i x l is h k =
    subst (Draws a c) (sym (more (take i all) x) ∙ ap (λ y. F (take i all ++ y ∷ [])) is ∙ sym (ap F (take_more all i x l))) (draws_then a b c (F (take i all)) (G x) h k)

pub map_more : {A B : Type 0} (f : A → B) (xs : List A) (x : A) → map f (xs ++ x ∷ []) ≡ map f xs ++ f x ∷ []
map_more f xs x = map-append f xs (x ∷ [])

pub flat_more : {A B : Type 0} (f : A → List B) (xs : List A) (x : A) → flat_map f (xs ++ x ∷ []) ≡ flat_map f xs ++ f x
flat_more f xs x = flat_map-append f xs (x ∷ []) ∙ ap (λ z. flat_map f xs ++ z) (append-nil (f x))

-- a leaf whose path the tail spells
pub at_leaf : {T E : Type 0} (r : Result T E) (old new : Drawing) (folder : Path) (tail : List ℕ) (F : Path → Leaf) (t : Path) (l : Leaf)
    → OnOk r ((t : Path) → SpellsParts tail t → Draws old new (F t ∷ [])) → SpellsParts tail t → F t ≡ l → OnOk r (Draws old new (l ∷ []))
at_leaf (Ok v) old new folder tail F t l h spelled is = subst (λ l. Draws old new (l ∷ [])) is (h t spelled)
at_leaf (Err e) old new folder tail F t l h spelled is = tt

pub one_leaf : {T E : Type 0} (r : Result T E) (old new : Drawing) (folder : Path) (tail : List ℕ) (w : Planned) → new.tops ≡ old.tops
    → OnOk r ((t : Path) → SpellsParts tail t → (q : Path) → drawn new q ≡ with_leaf old.tops (drawn old) (t ++ folder) w q) → OnOk r ((t : Path) → SpellsParts tail t → Draws old new ((t ++ folder, w) ∷ []))
one_leaf (Ok v) old new folder tail w same h = λ t spelled. record { tops = same; drawn = λ i q. h t spelled q i }
one_leaf (Err e) old new folder tail w same h = tt

pub spells_same : (a b : List ℕ) (p : Path) → a ≡ b → SpellsParts b p → SpellsParts a p
spells_same a b p e h = subst (λ t. SpellsParts t p) (sym e) h

pub spells_name : (n : List ℕ) → is_name n ≡ true → SpellsParts n (name_path n)
spells_name n h = names_spell n (name_of n h)

-- a name's path has a part
pub name_parted : (n : List ℕ) → is_name n ≡ true → (x : List ℕ) × (t : Path) × SpellsParts n (x ∷ t)
name_parted n h = parted (name_path n) (spells_name n h) (shape_filled (name_path n) (shape n h)) where
  parted : (p : Path) → SpellsParts n p → p ≢ [] → (x : List ℕ) × (t : Path) × SpellsParts n (x ∷ t)
  parted [] s some = absurd (some refl)
  parted (x ∷ t) s some = (x, t, s)

pub spells_below : (a b : List ℕ) (p q : Path) → SpellsParts a p → SpellsParts b q → SpellsParts (a ++ 47 ∷ b) (q ++ p)
spells_below a b p q h k = record {
  good = is_path-append q p k.good h.good;
  spelled = ap (λ t. t ++ 47 ∷ b) h.spelled ∙ ap (λ t. text_below p ++ t) k.spelled ∙ sym (text_below-append q p);
}

pub parted_below : (n : List ℕ) (p : Path) (text : List ℕ) → is_name n ≡ true → SpellsParts text (name_path n ++ p) → (x : List ℕ) × (t : Path) × SpellsParts text (x ∷ t)
parted_below n p text h = parted (name_path n) (shape_filled (name_path n) (shape n h)) where
  parted : (q : Path) → q ≢ [] → SpellsParts text (q ++ p) → (x : List ℕ) × (t : Path) × SpellsParts text (x ∷ t)
  parted [] some s = absurd (some refl)
  parted (x ∷ t) some s = (x, t ++ p, s)

pub file_at : (store : Path) (g : Instance) (f : Path) → (f ++ home [] g) ++ store ≡ f ++ home store g
file_at store g f = append_assoc f (home [] g) store ∙ ap (λ q. f ++ q) (append_assoc (name_path g.name) (beside [] g) store)

pub spells_part : (x : List ℕ) → IsTrue (is_part x) → SpellsParts x (x ∷ [])
spells_part x h = record { good = both_true h refl; spelled = refl }

-- an instance's leaves: its folder, its files, its links
pub draws_instance : {T E : Type 0} (r : Result T E) (store : Path) (g : Instance) (a b c d : Drawing) → Draws a b ((home store g, Folder) ∷ [])
    → Draws b c (map (file_leaf store g) g.files) → OnOk r (Draws c d (map (target_leaf store g) g.links)) → OnOk r (Draws a d (instance_leaves store g))
draws_instance (Ok v) store g a b c d h k l =
    draws_then a b d ((home store g, Folder) ∷ []) (map (file_leaf store g) g.files ++ map (target_leaf store g) g.links) h
    (draws_then b c d (map (file_leaf store g) g.files) (map (target_leaf store g) g.links) k l)
draws_instance (Err e) store g a b c d h k l = tt

-- the virtual store is inside the managed folders
pub store_inside : (l : Layout) → IsSoundLayout l → is_inside (folders l.managed) l.store ≡ true
store_inside l s =
    let w = store_way l s in
    any_of (λ m. is_within m l.store) (folders l.managed) w.folder.0 (in_folders l w.folder w.among) (ap (is_within w.folder.0) w.is ∙ is_within_at w.way w.folder.0)

-- and so is what holds links
pub holder_inside : (l : Layout) → IsSoundLayout l → (t : Top) → Contains l.tops t → is_inside (folders l.managed) t.holder ≡ true
holder_inside l s t c = elim (s.tops t c).holder [
  | inl f ↦ member_inside (folders l.managed) t.holder f.0
  | inr own ↦
      let w = store_way l s in
      any_of (λ m. is_within m t.holder) (folders l.managed) w.folder.0 (in_folders l w.folder w.among)
      (ap (is_within w.folder.0) (own ∙ ap (λ q. modules ∷ q) w.is) ∙ is_within_at (modules ∷ w.way) w.folder.0)
]

-- all leaves, drawn in turn from the folders alone
pub all_drawn : (l : Layout) (a b c d : Drawing) → a.tops ≡ folders l.managed → ((q : Path) → drawn a q ≡ bare (folders l.managed) q)
    → Draws a b (map marker_leaf l.managed) → Draws b c (map top_leaf l.tops) → Draws c d (flat_map (instance_leaves l.store) l.instances) → drawn d ≡ drawing (folders l.managed) (leaves_of l)
all_drawn l a b c d m e h k j =
    let all : Draws a d (leaves_of l) = draws_then a b d (map marker_leaf l.managed) (map top_leaf l.tops ++ flat_map (instance_leaves l.store) l.instances) h
    (draws_then b c d (map top_leaf l.tops) (flat_map (instance_leaves l.store) l.instances) k j) in
    let first : drawn a ≡ bare (folders l.managed) = λ i q. e q i in
    all.drawn ∙ ap (λ m. with_leaves m (drawn a) (leaves_of l)) m ∙ ap (λ f. with_leaves (folders l.managed) f (leaves_of l)) first
