-- What a finished drawing of the leaves is.
use Rattle.std.proofs.Common.{◌≡◌, ◌≤◌, ◌<◌, ℕ, List, [], ◌∷◌, ◌++◌, length, refl, sym, ap, ◌∙◌, subst, true, false, Some, append_assoc, arith}
use Rattle.std.specs.Prelude.{◌↔◌, nat_lt, Option, if◌then◌else◌}
use Rattle.std.specs.List.{Contains}
use Rattle.std.proofs.lemmas.Bool.{ltb-true}
use Rattle.pn_text.specs.declared.limits.TheConstants.{PATH_LIMIT}
use Rattle.pn_text.specs.Path.{Path, path_text}
use Rattle.pn_text.specs.Name.{name_path}
use Rattle.pn_text.specs.Relative.{parent_of, IsRelative}
use Rattle.pn_text.proofs.Relatives.{one_text}
use Rattle.pn_digest.specs.declared.planned.Planned.{Planned}
use Rattle.pn_digest.specs.declared.planned.Planned.TheVariants.{Folder, Bytes, Stored, Link}
use Rattle.pn_draft.specs.Drawing.{Drawing, drawn, is_within, IsFirstLong}
use Rattle.pn_draft.specs.Entries.{drawing, IsEntry as IsDrawn, top as top_entry, leaf as leaf_entry, between as between_entry}
use Rattle.pn_draft.proofs.Leaves.{drawing_entries}
use Rattle.pn_draft.proofs.TopLemmas.{any_of, one_of}
use Rattle.pn_draft.proofs.WithinLemmas.{below_from, is_below_at, within_from, is_within_at}
use Rattle.pn_tree.specs.declared.instance.Instance.{Instance}
use Rattle.pn_tree.specs.Trees.{Layout, beside, link_place, top_place, IsLeaf, marker, own, content, dependency, top, IsEntry, managed, leaf, between}
use Rattle.pn_tree.specs.Sound.{folders, IsSoundLayout}
use Rattle.pn_tree.specs.Relatives.{relative_text, link_text}
use Rattle.pn_tree.specs.Leaves.{leaves_of}
use Rattle.pn_tree.specs.Laws.{AreEntries}
use Rattle.pn_tree.specs.Refusals.{IsTooLong}
use Rattle.pn_tree.proofs.RelativeLemmas.{relative}
use Rattle.pn_tree.proofs.SoundLemmas.{in_folders, folder_of}
use Rattle.pn_tree.proofs.LeafLemmas.{IsInside, own_in, file_in, link_in, IsListed, marks, linked, inside, listed_from, listed_to}
use Rattle.pn_tree.proofs.ConformLemmas.{are_leaves}

abbrev pub IsShort : Path → Type 0
IsShort q = length (path_text q) ≤ PATH_LIMIT

not_long : (q : Path) → IsShort q → nat_lt PATH_LIMIT (length (path_text q)) ≡ false
not_long q h = elim (nat_lt PATH_LIMIT (length (path_text q))) as (λ b. nat_lt PATH_LIMIT (length (path_text q)) ≡ b → b ≡ false) [
  | true ↦ λ is. let long : PATH_LIMIT < length (path_text q) = ltb-true PATH_LIMIT (length (path_text q)) is in absurd (omega (arith, long, h))
  | false ↦ λ is. refl
] refl

pub short_text : (place to : Path) → IsShort place → link_text place to ≡ relative_text (parent_of place) to
short_text place to h = ap (λ b. if b then [] else relative_text (parent_of place) to) (not_long place h)

-- the relative path from a place's folder
pub link_is : (place folder to : Path) (text x : List ℕ) → place ≡ x ∷ folder → IsShort place → IsRelative folder to text → text ≡ link_text place to
link_is place folder to text x is s rel =
    one_text folder to text (relative_text folder to) rel (relative folder to) ∙ ap (λ p. relative_text (parent_of p) to) (sym is) ∙ sym (short_text place to s)

-- What is listed is a leaf's, and where its path is short the leaf is the listed one.
pub record LeafFor (l : Layout) (q : Path) (w : Planned) : Type 0 where
  pub what : Planned
  pub leaf : IsLeaf l q what
  pub same : IsShort q → w ≡ what

inside_leaf : (l : Layout) (g : Instance) (z : Path) (w : Planned) → Contains l.instances g → IsInside g l.store z w → LeafFor l (z ++ beside l.store g) w
inside_leaf l g _ _ c own_in = record { what = Folder; leaf = own g c; same = λ s. refl }
inside_leaf l g _ _ c (file_in f d fc) = record {
  what = Stored d;
  leaf = subst (λ q. IsLeaf l q (Stored d)) (sym (append_assoc f (name_path g.name) (beside l.store g))) (content g f d c fc);
  same = λ s. refl;
}
inside_leaf l g _ _ c (link_in k kc) = record {
  what = Link (relative_text (parent_of (link_place l.store g k)) k.to);
  leaf = dependency g k (relative_text (parent_of (link_place l.store g k)) k.to) c kc (relative (parent_of (link_place l.store g k)) k.to);
  same = λ s. ap Link (short_text (link_place l.store g k) k.to s);
}

pub leaf_for : (l : Layout) (q : Path) (w : Planned) → IsListed l q w → LeafFor l q w
leaf_for l _ _ (marks m c) = record { what = Bytes m.1; leaf = marker m c; same = λ s. refl }
leaf_for l _ _ (linked t c) = record {
  what = Link (relative_text (parent_of (top_place t)) t.to);
  leaf = top t (relative_text (parent_of (top_place t)) t.to) c (relative (parent_of (top_place t)) t.to);
  same = λ s. ap Link (short_text (top_place t) t.to s);
}
leaf_for l _ _ (inside g z w c a) = inside_leaf l g z w c a

-- And what is a leaf is listed.
pub record ListedFor (l : Layout) (q : Path) (w : Planned) : Type 0 where
  pub what : Planned
  pub listed : IsListed l q what
  pub same : IsShort q → w ≡ what

pub listed_for : (l : Layout) (q : Path) (w : Planned) → IsLeaf l q w → ListedFor l q w
listed_for l _ _ (marker m c) = record { what = Bytes m.1; listed = marks m c; same = λ s. refl }
listed_for l _ _ (own g c) = record { what = Folder; listed = inside g (name_path g.name) Folder c own_in; same = λ s. refl }
listed_for l _ _ (content g f d c fc) = record {
  what = Stored d;
  listed = subst (λ q. IsListed l q (Stored d)) (append_assoc f (name_path g.name) (beside l.store g)) (inside g (f ++ name_path g.name) (Stored d) c (file_in f d fc));
  same = λ s. refl;
}
listed_for l _ _ (dependency g k text c kc rel) = record {
  what = Link (link_text (link_place l.store g k) k.to);
  listed = inside g (name_path k.name) (Link (link_text (link_place l.store g k) k.to)) c (link_in k kc);
  same = λ s. ap Link (one_text (parent_of (link_place l.store g k)) k.to text (relative_text (parent_of (link_place l.store g k)) k.to) rel (relative (parent_of (link_place l.store g k)) k.to)
      ∙ sym (short_text (link_place l.store g k) k.to s));
}
listed_for l _ _ (top t text c rel) = record {
  what = Link (link_text (top_place t) t.to);
  listed = linked t c;
  same = λ s. ap Link (one_text (parent_of (top_place t)) t.to text (relative_text (parent_of (top_place t)) t.to) rel (relative (parent_of (top_place t)) t.to) ∙ sym (short_text (top_place t) t.to s));
}

-- An entry of the drawing is one of the layout, and where its path is short the same.
pub record EntryFor (l : Layout) (q : Path) (w : Planned) : Type 0 where
  pub what : Planned
  pub entry : IsEntry l q what
  pub same : IsShort q → w ≡ what

abbrev pub IsShown : Layout → Path → Planned → Type 0
IsShown l q w = IsDrawn (folders l.managed) (leaves_of l) q w

entry_for : (l : Layout) (q : Path) (w : Planned) → IsShown l q w → EntryFor l q w
entry_for l _ _ (top_entry m c) =
    let n = folder_of l m c in
    subst (λ p. EntryFor l p Folder) n.2 (record { what = Folder; entry = managed n.0 n.1; same = λ s. refl })
entry_for l _ _ (leaf_entry q w c) = let k = leaf_for l q w (listed_from l (q, w) c) in record { what = k.what; entry = leaf q k.what k.leaf; same = k.same }
entry_for l _ _ (between_entry q p w c below within) =
    let k = leaf_for l p w (listed_from l (p, w) c) in
    let m = one_of (λ m. is_within m q) (folders l.managed) within in
    let n = folder_of l m.0 m.1 in
    let r = within_from m.0 q m.2 in
    let b = below_from q p below in
    let whole : q ≡ r.0 ++ n.0.0 = r.1 ∙ ap (λ z. r.0 ++ z) (sym n.2) in
    subst (λ z. EntryFor l z Folder) (sym whole) (record {
      what = Folder;
      entry = between n.0 r.0 b.0 b.1 k.what n.1 (subst (λ z. IsLeaf l z k.what) (b.2 ∙ ap (λ z. b.0 ++ b.1 ∷ z) whole) k.leaf);
      same = λ s. refl;
    })

pub record ShownFor (l : Layout) (q : Path) (w : Planned) : Type 0 where
  pub what : Planned
  pub shown : IsShown l q what
  pub same : IsShort q → w ≡ what

shown_for : (l : Layout) (q : Path) (w : Planned) → IsEntry l q w → ShownFor l q w
shown_for l _ _ (managed m c) = record { what = Folder; shown = top_entry m.0 (in_folders l m c); same = λ s. refl }
shown_for l _ _ (leaf q w h) = let k = listed_for l q w h in record { what = k.what; shown = leaf_entry q k.what (listed_to l q k.what k.listed); same = k.same }
shown_for l _ _ (between m r below x w c h) =
    let k = listed_for l (below ++ x ∷ (r ++ m.0)) w h in record {
      what = Folder;
      shown = between_entry (r ++ m.0) (below ++ x ∷ (r ++ m.0)) k.what (listed_to l (below ++ x ∷ (r ++ m.0)) k.what k.listed) (is_below_at below x (r ++ m.0))
          (any_of (λ n. is_within n (r ++ m.0)) (folders l.managed) m.0 (in_folders l m c) (is_within_at r m.0));
      same = λ s. refl;
    }

-- The drawing of the leaves.
pub record IsLaid (l : Layout) (d : Drawing) : Type 0 where
  pub sound : IsSoundLayout l
  pub drawn_is : drawn d ≡ drawing (folders l.managed) (leaves_of l)

drawn_shown : (l : Layout) (d : Drawing) → IsLaid l d → (q : Path) (w : Planned) → drawn d q ≡ Some w → IsShown l q w
drawn_shown l d h q w is = (drawing_entries (folders l.managed) (leaves_of l) (are_leaves l h.sound) q w).0 (ap (λ (f : Path → Option Planned). f q) (sym h.drawn_is) ∙ is)

shown_drawn : (l : Layout) (d : Drawing) → IsLaid l d → (q : Path) (w : Planned) → IsShown l q w → drawn d q ≡ Some w
shown_drawn l d h q w e = ap (λ (f : Path → Option Planned). f q) h.drawn_is ∙ (drawing_entries (folders l.managed) (leaves_of l) (are_leaves l h.sound) q w).1 e

-- no path of an entry is longer than the drawn ones
pub all_short : (l : Layout) (d : Drawing) → IsLaid l d → ((q : Path) (w : Planned) → drawn d q ≡ Some w → IsShort q) → (q : Path) (w : Planned) → IsEntry l q w → IsShort q
all_short l d h short q w e = let k = shown_for l q w e in short q k.what (shown_drawn l d h q k.what k.shown)

pub entries : (l : Layout) (d : Drawing) (all : List (Path × Planned)) → IsLaid l d → ((q : Path) (w : Planned) → drawn d q ≡ Some w → IsShort q) → ((q : Path) (w : Planned) → Contains all (q, w) ↔ (drawn d q ≡ Some w)) → AreEntries l all
entries l d all h short given q w = (
  (λ c.
      let is = (given q w).0 c in
      let k = entry_for l q w (drawn_shown l d h q w is) in
      subst (IsEntry l q) (sym (k.same (short q w is))) k.entry),
  (λ e.
      let k = shown_for l q w e in
      let is = shown_drawn l d h q k.what k.shown in
      subst (λ v. Contains all (q, v)) (sym (k.same (short q k.what is))) ((given q k.what).1 is)),
)

pub too_long : (l : Layout) (d : Drawing) (n : ℕ) → IsLaid l d → IsFirstLong (drawn d) n → IsTooLong l n
too_long l d n h f =
    let k = entry_for l f.path f.what (drawn_shown l d h f.path f.what f.stands) in
    record {
      path = f.path;
      what = k.what;
      planned = k.entry;
      size_is = f.size;
      long = f.long;
      first = λ q w e before. let s = shown_for l q w e in f.first q s.what (shown_drawn l d h q s.what s.shown) before;
    }
