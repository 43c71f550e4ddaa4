-- The first long path, where that of the virtual store is long.
use Rattle.std.proofs.Common.{◌≡◌, ◌≢◌, ◌⊎◌, ◌<◌, ◌≤◌, ℕ, List, [], ◌∷◌, ◌++◌, map, length, length-append, refl, sym, ap, ◌∙◌, subst, true, arith, append_assoc, inl, inr, Some, Less, nat_cmp}
use Rattle.std.specs.Prelude.{codes, zip}
use Rattle.std.specs.Cmp.Lexicographic.{slice_cmp}
use Rattle.std.specs.List.{Contains}
use Rattle.std.specs.Ordering.{ordering_then}
use Rattle.std.proofs.lemmas.Cmp.{nat_cmp_total, nat_list_cmp_total, tied_itself}
use Rattle.std.proofs.lemmas.List.{append_cancel_right}
use Rattle.std.proofs.lemmas.List.Elements.{Contains-append_left, Contains-append_right, Contains-append_cases}
use Rattle.pn_text.specs.declared.limits.TheConstants.{PATH_LIMIT}
use Rattle.pn_text.specs.Path.{Path, path_text, text_below}
use Rattle.pn_text.specs.Name.{name_path, modules}
use Rattle.pn_text.specs.Relative.{parent_of}
use Rattle.pn_text.proofs.Joins.{text_below-append}
use Rattle.pn_text.proofs.Members.{from_map, to_map, here, there, in_cons, in_one, none_in}
use Rattle.pn_text.proofs.Relatives.{ends_nested}
use Rattle.pn_digest.specs.Listing.{Entry}
use Rattle.pn_digest.specs.declared.planned.Planned.{Planned}
use Rattle.pn_digest.specs.declared.planned.Planned.TheVariants.{Folder, Bytes, Link}
use Rattle.pn_draft.specs.Drawing.{Drawing, drawn, is_below, is_inside, is_within, IsFirstLong}
use Rattle.pn_draft.specs.Entries.{with_leaves, drawing, IsEntry as IsDrawn, AreLeaves, top as top_entry, leaf as leaf_entry, between as between_entry}
use Rattle.pn_draft.proofs.Leaves.{drawing_entries}
use Rattle.pn_draft.proofs.TopLemmas.{any_of, one_of}
use Rattle.pn_draft.proofs.WithinLemmas.{below_from, is_below_at, within_from, is_within_at}
use Rattle.pn_node.specs.Plan.{marker_name}
use Rattle.pn_package.specs.Links.{Pair}
use Rattle.pn_package.specs.Sound.{AreSound, AreSoundLinks}
use Rattle.pn_package.specs.declared.packages.Package.{Package}
use Rattle.pn_node.proofs.NamePaths.{shape, shape_filled}
use Rattle.pn_tree.specs.declared.instance.Instance.{Instance}
use Rattle.pn_tree.specs.declared.instance.Top.{Top}
use Rattle.pn_tree.specs.Trees.{home, top_place, beside, IsLeaf, marker, own, content, dependency, top, IsEntry, managed, leaf, between}
use Rattle.pn_tree.specs.Drawn.{Draws}
use Rattle.pn_tree.specs.Leaves.{Leaf}
use Rattle.pn_tree.specs.Relatives.{relative_text}
use Rattle.pn_tree.specs.Refusals.{IsTooLong}
use Rattle.pn_tree.proofs.DrawLemmas.{map_more, draws_then}
use Rattle.pn_tree.proofs.LeafLemmas.{deeper}
use Rattle.pn_tree.proofs.RelativeLemmas.{relative}
use Rattle.pn_layout.specs.Store.{store_of, home_of}
use Rattle.pn_layout.specs.Listed.{HasListing, AreOfPackages}
use Rattle.pn_layout.specs.Layout.{marker_text, instance_of, top_of, layout_of}
use Rattle.pn_layout.specs.Places.{folder_at, link_leaf, store_leaves, outer_leaves}
use Rattle.pn_layout.proofs.PathLemmas.{HasTop, above_entry, has_top}
use Rattle.pn_layout.proofs.RisingLemmas.{zip_all, zip_has}

-- The places outside the instances.
data IsOuter (at : Path) (direct : List Pair) (packages : List Package) : Path → Type 0 where
  marks : IsOuter at direct packages (marker_name ∷ at)
  stored : (p : Package) → Contains packages p → IsOuter at direct packages (store_of at)
  linked : (l : Pair) → Contains direct l → IsOuter at direct packages (name_path l.0 ++ at)

as_outer : (at : Path) (direct : List Pair) (packages : List Package) (p : Path) (x : Leaf) → folder_at p ≡ x → IsOuter at direct packages p → IsOuter at direct packages x.0 × (x.1 ≡ Folder)
as_outer at direct packages p x e h = (subst (λ (y : Leaf). IsOuter at direct packages y.0) e h, sym (ap (λ (y : Leaf). y.1) e))

store_from : (at : Path) (direct : List Pair) (packages : List Package) (x : Leaf) → Contains (store_leaves at packages) x → IsOuter at direct packages x.0 × (x.1 ≡ Folder)
store_from at direct [] x c = absurd (none_in x c)
store_from at direct (p ∷ packages) x c = as_outer at direct (p ∷ packages) (store_of at) x (in_one (folder_at (store_of at)) x c) (stored p (here p packages))

outer_from : (at : Path) (direct : List Pair) (packages : List Package) (x : Leaf) → Contains (outer_leaves at direct packages) x → IsOuter at direct packages x.0 × (x.1 ≡ Folder)
outer_from at direct packages x c = elim (in_cons (folder_at (marker_name ∷ at)) (store_leaves at packages ++ map (link_leaf at) direct) x c) [
  | inl e ↦ as_outer at direct packages (marker_name ∷ at) x e marks
  | inr more ↦ elim (Contains-append_cases (store_leaves at packages) (map (link_leaf at) direct) x more) [
    | inl s ↦ store_from at direct packages x s
    | inr k ↦ let l = from_map (link_leaf at) direct x k in as_outer at direct packages (name_path l.0.0 ++ at) x l.2 (linked l.0 l.1)
  ]
]

store_in : (at : Path) (packages : List Package) (p : Package) → Contains packages p → Contains (store_leaves at packages) (folder_at (store_of at))
store_in at [] p c = absurd (none_in p c)
store_in at (q ∷ packages) p c = here (folder_at (store_of at)) []

outer_to : (at : Path) (direct : List Pair) (packages : List Package) (q : Path) → IsOuter at direct packages q → Contains (outer_leaves at direct packages) (q, Folder)
outer_to at direct packages _ marks = here (folder_at (marker_name ∷ at)) (store_leaves at packages ++ map (link_leaf at) direct)
outer_to at direct packages _ (stored p c) =
    there (folder_at (marker_name ∷ at)) (store_leaves at packages ++ map (link_leaf at) direct) (store_of at, Folder)
    (Contains-append_left (store_leaves at packages) (map (link_leaf at) direct) (store_of at, Folder) (store_in at packages p c))
outer_to at direct packages _ (linked l c) =
    there (folder_at (marker_name ∷ at)) (store_leaves at packages ++ map (link_leaf at) direct) (link_leaf at l)
    (Contains-append_right (store_leaves at packages) (map (link_leaf at) direct) (link_leaf at l) (to_map (link_leaf at) direct l c))

-- where there are packages the store is among them
pub some_store : (at : Path) (packages : List Package) → 0 < length packages → store_leaves at packages ≡ folder_at (store_of at) ∷ []
some_store at [] h = absurd (omega (arith, h))
some_store at (p ∷ packages) h = refl

-- they stand below the managed folder
record IsDeep (at q : Path) : Type 0 where
  steps : Path
  part : List ℕ
  is : q ≡ steps ++ part ∷ at

parted : (p at : Path) → p ≢ [] → IsDeep at (p ++ at)
parted p at some = by p some
  where
    snoc : (x : List ℕ) (p : Path) → (s : Path) × (y : List ℕ) × (x ∷ p ≡ s ++ y ∷ [])
    snoc x [] = ([], x, refl)
    snoc x (z ∷ p) = let r = snoc z p in (x ∷ r.0, r.1, ap (λ q. x ∷ q) r.2)

    by : (p : Path) → p ≢ [] → IsDeep at (p ++ at)
    by [] some = absurd (some refl)
    by (x ∷ p) some = let r = snoc x p in record { steps = r.0; part = r.1; is = ap (λ q. q ++ at) r.2 ∙ append_assoc r.0 (r.1 ∷ []) at }

outer_deep : (at : Path) (direct : List Pair) (packages : List Package) → AreSoundLinks direct → (q : Path) → IsOuter at direct packages q → IsDeep at q
outer_deep at direct packages s _ marks = record { steps = []; part = marker_name; is = refl }
outer_deep at direct packages s _ (stored p c) = record { steps = []; part = codes ".pnpm"; is = refl }
outer_deep at direct packages s _ (linked l c) = parted (name_path l.0) at (shape_filled (name_path l.0) (shape l.0 (s.each l c).named))

outer_leaves_are : (at : Path) (direct : List Pair) (packages : List Package) → AreSoundLinks direct → AreLeaves (at ∷ []) (outer_leaves at direct packages)
outer_leaves_are at direct packages s = record {
  apart = λ a b ca cb e. sym (in_one at a ca) ∙ in_one at b cb;
  below = λ p w c.
      let d = outer_deep at direct packages s p (outer_from at direct packages (p, w) c).0 in
      (at, here at [], ap (is_below at) d.is ∙ is_below_at d.steps d.part at);
  one = λ p v w cv cw. (outer_from at direct packages (p, v) cv).1 ∙ sym (outer_from at direct packages (p, w) cw).1;
  above = λ p q v w cv cw e. (outer_from at direct packages (q, w) cw).1;
}

pub inside_top : (r at : Path) → is_inside (at ∷ []) (r ++ at) ≡ true
inside_top r at = any_of (λ m. is_within m (r ++ at)) (at ∷ []) at (here at []) (is_within_at r at)

module _ (at : Path) (direct : List Pair) (packages : List Package) (listings : List (List Entry)) (listed : AreOfPackages packages listings) (sound : AreSoundLinks direct) (top_is : HasTop (layout_of at direct packages listings) at) where
  -- each of them is planned
  outer_entry : (q : Path) → IsOuter at direct packages q → (w : Planned) × IsEntry (layout_of at direct packages listings) q w
  outer_entry _ marks = (Bytes marker_text, leaf (marker_name ∷ at) (Bytes marker_text) (marker (at, marker_text) (here (at, marker_text) [])))
  outer_entry _ (stored p c) =
      let x = zip_has HasListing packages listings listed.each p c in
      let g = instance_of at (p, x.0) in
      let e = leaf (home (store_of at) g) Folder (own g (to_map (instance_of at) (zip packages listings) (p, x.0) x.1)) in
      (Folder, above_entry (layout_of at direct packages listings) at top_is (home (store_of at) g) Folder e (name_path g.name ++ modules ∷ []) (codes ".pnpm" ∷ []) g.dir (deeper (layout_of at direct packages listings) g (name_path g.name)))
  outer_entry _ (linked l c) =
      let t = top_of at l in
      let text = relative_text (parent_of (top_place t)) t.to in
      (Link text, leaf (top_place t) (Link text) (top t text (to_map (top_of at) direct l c) (relative (parent_of (top_place t)) t.to)))

  abbrev IsShown : Path → Planned → Type 0
  IsShown q w = IsDrawn (at ∷ []) (outer_leaves at direct packages) q w

  -- and what is drawn
  drawn_entry : (q : Path) (w : Planned) → IsShown q w → (v : Planned) × IsEntry (layout_of at direct packages listings) q v
  drawn_entry _ _ (top_entry m c) = (Folder, subst (λ p. IsEntry (layout_of at direct packages listings) p Folder) (in_one at m c) (managed (at, marker_text) (here (at, marker_text) [])))
  drawn_entry _ _ (leaf_entry q w c) = outer_entry q (outer_from at direct packages (q, w) c).0
  drawn_entry _ _ (between_entry q p w c below within) =
      let e = outer_entry p (outer_from at direct packages (p, w) c).0 in
      let m = one_of (λ m. is_within m q) (at ∷ []) within in
      let r = within_from m.0 q m.2 in
      let whole : q ≡ r.0 ++ at = r.1 ∙ ap (λ z. r.0 ++ z) (sym (in_one at m.0 m.1)) in
      let b = below_from q p below in (
        Folder,
        subst (λ z. IsEntry (layout_of at direct packages listings) z Folder) (sym whole)
            (above_entry (layout_of at direct packages listings) at top_is p e.0 e.1 b.0 r.0 b.1 (b.2 ∙ ap (λ z. b.0 ++ b.1 ∷ z) whole)),
      )

  -- A path that is planned is drawn, or strictly below the virtual store, which is drawn.
  record IsUnder (q : Path) : Type 0 where
    steps : Path
    part : List ℕ
    is : q ≡ steps ++ part ∷ store_of at
    store : IsOuter at direct packages (store_of at)

  abbrev IsKnown : Path → Type 0
  IsKnown q = ((v : Planned) × IsShown q v) ⊎ IsUnder q

  abbrev IsLow : Path → Type 0
  IsLow q = IsOuter at direct packages q ⊎ IsUnder q

  under_by : (g : Instance) (z : Path) → Contains (map (instance_of at) (zip packages listings)) g → IsUnder (z ++ beside (store_of at) g)
  under_by g z c =
      let x = from_map (instance_of at) (zip packages listings) g c in
      record { steps = z ++ modules ∷ []; part = g.dir; is = deeper (layout_of at direct packages listings) g z; store = stored x.0.0 (zip_all HasListing packages listings listed.each x.0 x.1).0 }

  leaf_low : (q : Path) (w : Planned) → IsLeaf (layout_of at direct packages listings) q w → IsLow q
  leaf_low _ _ (marker m c) = inl (subst (λ (n : Path × List ℕ). IsOuter at direct packages (marker_name ∷ n.0)) (in_one (at, marker_text) m c) marks)
  leaf_low _ _ (own g c) = inr (under_by g (name_path g.name) c)
  leaf_low _ _ (content g f d c fc) = inr (subst IsUnder (append_assoc f (name_path g.name) (beside (store_of at) g)) (under_by g (f ++ name_path g.name) c))
  leaf_low _ _ (dependency g k text c kc rel) = inr (under_by g (name_path k.name) c)
  leaf_low _ _ (top t text c rel) = let l = from_map (top_of at) direct t c in inl (subst (λ (u : Top). IsOuter at direct packages (top_place u)) l.2 (linked l.0 l.1))

  leaf_known : (q : Path) → IsLow q → IsKnown q
  leaf_known q (inl o) = inl (Folder, leaf_entry q Folder (outer_to at direct packages q o))
  leaf_known q (inr u) = inr u

  shown_top : (v : Planned) × IsShown at v
  shown_top = (Folder, top_entry at (here at []))

  -- between the managed folder and the store there is nothing
  short_way : (i r : Path) → codes ".pnpm" ∷ at ≡ i ++ (r ++ at) → ((v : Planned) × IsShown (r ++ at) v) ⊎ (r ≡ codes ".pnpm" ∷ [])
  short_way [] r e = inr (sym (append_cancel_right (codes ".pnpm" ∷ []) r at e))
  short_way (x ∷ i) [] e = inl shown_top
  short_way (x ∷ i) (y ∷ r) e = let tails : at ≡ i ++ (y ∷ r ++ at) = cc in absurd (omega (arith, ap length tails, length-append i (y ∷ r ++ at), length-append r at))

  -- a path at or below the store
  store_on : (j : Path) → IsOuter at direct packages (store_of at) → IsKnown (j ++ store_of at)
  store_on [] o = leaf_known (store_of at) (inl o)
  store_on (x ∷ j) o = let d = parted (x ∷ j) (store_of at) (λ e. cc) in inr (record { steps = d.steps; part = d.part; is = d.is; store = o })

  above_known : (r s : Path) (x : List ℕ) (p : Path) → p ≡ s ++ x ∷ (r ++ at) → IsLow p → IsKnown (r ++ at)
  above_known r s x p e (inl o) = inl (Folder, between_entry (r ++ at) p Folder (outer_to at direct packages p o) (ap (is_below (r ++ at)) e ∙ is_below_at s x (r ++ at)) (inside_top r at))
  above_known r s x p e (inr u) =
      elim (ends_nested (s ++ x ∷ []) (u.steps ++ u.part ∷ []) (r ++ at) (store_of at) (append_assoc s (x ∷ []) (r ++ at) ∙ sym e ∙ u.is ∙ sym (append_assoc u.steps (u.part ∷ []) (store_of at)))) [
        | inl j ↦ subst IsKnown (sym j.1) (store_on j.0 u.store)
        | inr i ↦ elim (short_way i.0 r i.1) [
          | inl shown ↦ inl shown
          | inr way ↦ subst IsKnown (ap (λ z. z ++ at) (sym way)) (leaf_known (store_of at) (inl u.store))
        ]
      ]

  entry_known : (q : Path) (w : Planned) → IsEntry (layout_of at direct packages listings) q w → IsKnown q
  entry_known _ _ (managed m c) = subst (λ (n : Path × List ℕ). IsKnown n.0) (in_one (at, marker_text) m c) (inl shown_top)
  entry_known _ _ (leaf q w h) = leaf_known q (leaf_low q w h)
  entry_known _ _ (between m r below x w c h) =
      subst (λ (n : Path × List ℕ). IsKnown (r ++ n.0)) (in_one (at, marker_text) m c)
      (above_known r below x (below ++ x ∷ (r ++ at)) refl (leaf_low (below ++ x ∷ (r ++ at)) w (subst (λ (n : Path × List ℕ). IsLeaf (layout_of at direct packages listings) (below ++ x ∷ (r ++ n.0)) w) (sym (in_one (at, marker_text) m c)) h)))

front_less : (xs ys : List ℕ) (y : ℕ) → slice_cmp nat_cmp xs (xs ++ y ∷ ys) ≡ Less
front_less [] ys y = refl
front_less (x ∷ xs) ys y = subst (λ o. ordering_then o (slice_cmp nat_cmp xs (xs ++ y ∷ ys)) ≡ Less) (sym (tied_itself nat_cmp_total x)) (front_less xs ys y)

-- a folder comes before what is below it
below_later : (s : Path) (x y : List ℕ) (a : Path) → slice_cmp nat_cmp (path_text (y ∷ a)) (path_text (s ++ x ∷ (y ∷ a))) ≡ Less
below_later [] x y a = front_less (text_below (y ∷ a)) x 47
below_later (z ∷ s) x y a =
    let w : text_below (s ++ x ∷ (y ∷ a)) ++ 47 ∷ z ≡ text_below (y ∷ a) ++ ((47 ∷ x) ++ (text_below s ++ 47 ∷ z)) =
    ap (λ t. t ++ 47 ∷ z) (text_below-append s (x ∷ (y ∷ a)) ∙ append_assoc (text_below (y ∷ a)) (47 ∷ x) (text_below s)) ∙ append_assoc (text_below (y ∷ a)) ((47 ∷ x) ++ text_below s) (47 ∷ z)
    ∙ ap (λ t. text_below (y ∷ a) ++ t) (append_assoc (47 ∷ x) (text_below s) (47 ∷ z)) in
    subst (λ t. slice_cmp nat_cmp (text_below (y ∷ a)) t ≡ Less) (sym w) (front_less (text_below (y ∷ a)) (x ++ (text_below s ++ 47 ∷ z)) 47)

marker_longer : (at : Path) → length (path_text (store_of at)) ≤ length (path_text (marker_name ∷ at))
marker_longer at = omega (arith, length-append (text_below at) (47 ∷ codes ".pnpm"), length-append (text_below at) (47 ∷ marker_name))

-- the first long path of the drawing is that of the layout
pub long_outer : (at : Path) (direct : List Pair) (packages : List Package) (listings : List (List Entry)) (n : ℕ) → AreSoundLinks direct → AreSound packages → AreOfPackages packages listings → PATH_LIMIT < length (path_text (store_of at))
    → IsFirstLong (drawing (at ∷ []) (outer_leaves at direct packages)) n → IsTooLong (layout_of at direct packages listings) n
long_outer at direct packages listings n s all listed long f =
    let top_is = has_top (home_of at) at direct packages listings s all listed in
    let shown = drawing_entries (at ∷ []) (outer_leaves at direct packages) (outer_leaves_are at direct packages s) in
    let e = drawn_entry at direct packages listings listed s top_is f.path f.what ((shown f.path f.what).0 f.stands) in
    record {
      path = f.path;
      what = e.0;
      planned = e.1;
      size_is = f.size;
      long = f.long;
      first = λ q w k before. elim (entry_known at direct packages listings listed s top_is q w k) [
        | inl v ↦ f.first q v.0 ((shown q v.0).1 v.1) before
        | inr u ↦
            let later = subst (λ p. slice_cmp nat_cmp (path_text (store_of at)) (path_text p) ≡ Less) (sym u.is) (below_later u.steps u.part (codes ".pnpm") at) in
            let earlier = nat_list_cmp_total.trans (path_text (store_of at)) (path_text q) (path_text f.path) later before in
            let short = f.first (store_of at) Folder ((shown (store_of at) Folder).1 (leaf_entry (store_of at) Folder (outer_to at direct packages (store_of at) u.store))) earlier in
            absurd (omega (arith, short, long))
      ];
    }

-- one of them is too long
pub outer_long : (at : Path) (direct : List Pair) (packages : List Package) → AreSoundLinks direct → PATH_LIMIT < length (path_text (store_of at))
    → ((q : Path) (w : Planned) → drawing (at ∷ []) (outer_leaves at direct packages) q ≡ Some w → length (path_text q) ≤ PATH_LIMIT) → ⊥
outer_long at direct packages s long short =
    let shown = drawing_entries (at ∷ []) (outer_leaves at direct packages) (outer_leaves_are at direct packages s) in
    let marked = short (marker_name ∷ at) Folder ((shown (marker_name ∷ at) Folder).1 (leaf_entry (marker_name ∷ at) Folder (outer_to at direct packages (marker_name ∷ at) marks))) in
    omega (arith, marked, marker_longer at, long)

pub maps_more : {A B C : Type 0} (f : B → C) (g : A → B) (xs : List A) (x : A) → map f (map g (xs ++ x ∷ [])) ≡ map f (map g xs) ++ f (g x) ∷ []
maps_more f g xs x = ap (map f) (map_more g xs x) ∙ map_more f (map g xs) (g x)

-- the places, drawn in turn from the managed folder alone
pub all_outer : (at : Path) (direct pairs : List Pair) (packages : List Package) (a b c d : Drawing) → a.tops ≡ at ∷ [] → drawn a ≡ drawing (at ∷ []) [] → Draws a b (folder_at (marker_name ∷ at) ∷ []) → Draws b c (store_leaves at packages)
    → Draws c d (map (link_leaf at) pairs) → pairs ≡ direct → drawn d ≡ drawing (at ∷ []) (outer_leaves at direct packages)
all_outer at direct pairs packages a b c d tops bare h k j same =
    let rest = draws_then b c d (store_leaves at packages) (map (link_leaf at) direct) k (subst (λ ls. Draws c d (map (link_leaf at) ls)) same j) in
    let all : Draws a d (outer_leaves at direct packages) = draws_then a b d (folder_at (marker_name ∷ at) ∷ []) (store_leaves at packages ++ map (link_leaf at) direct) h rest in
    all.drawn ∙ ap (λ m. with_leaves m (drawn a) (outer_leaves at direct packages)) tops ∙ ap (λ f. with_leaves (at ∷ []) f (outer_leaves at direct packages)) bare
