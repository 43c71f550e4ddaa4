-- Lemmas on managed folders that are made with their markers.
use Rattle.std.proofs.Common.{◌≡◌, ℕ, drop, List, [], ◌∷◌, ◌++◌, refl, sym, ap, ◌∙◌, subst, arith, length, take, true, false, Some, None, inl, inr}
use Rattle.std.specs.Prelude.{Option, IfSome, ◌⊎◌}
use Rattle.std.specs.Option.{ForSome}
use Rattle.std.specs.List.{Contains}
use Rattle.std.proofs.lemmas.List.{take_all, take-append-drop}
use Rattle.std.proofs.lemmas.List.Elements.{Contains-append_left, Contains-append_right, Contains-append_cases}
use Rattle.pn_text.specs.Path.{Path, SpellsAbs, same_path}
use Rattle.pn_text.proofs.Members.{none_in, in_one, here}
use Rattle.pn_text.proofs.Paths.{same_path-Decides, spells_one}
use Rattle.pn_text.proofs.Results.{for_some, if_some}
use Rattle.pn_fs.specs.Calls.{kind_of}
use Rattle.pn_fs.specs.Seen.{Seen}
use Rattle.pn_fs.specs.Tree.{Entry, folder, file, Tree}
use Rattle.pn_digest.specs.declared.planned.Planned.{Planned}
use Rattle.pn_digest.specs.declared.planned.Planned.TheVariants.{Folder, Bytes}
use Rattle.pn_scan.specs.Managed.{Managed, is_below, is_within, marker_name, AreApart, IsMarked, HasEntry, IsOurs, AreOurs}
use Rattle.pn_scan.proofs.ManagedLemmas.{within_cases, within_itself, below_within, within_below, above_of, apart_one, below_no_folder}
use Rattle.pn_scan.proofs.FoldersInLemmas.{tail_same}
use Rattle.pn_scan.proofs.UpsLemmas.{same_entry}
use Rattle.pn_repair.specs.Repairs.{DiffersAt, Repaired, HalfRepaired, Touches, TouchesWrong, fits}
use Rattle.pn_repair.specs.Stands.{StandsAs}
use Rattle.pn_clear.specs.Items.{Item, Rises}
use Rattle.pn_reconcile.specs.Plans.{IsRooted, Made, HalfMade, MayDiffer}
use Rattle.pn_reconcile.specs.Phases.{IsNewAbove, TouchesAbove, IsDown, IsHalfDown, BeginsAt, BeginsIn, IsBegun, IsHalfBegun}
use Rattle.pn_reconcile.specs.Spares.{SparesRight, Spares}
use Rattle.pn_reconcile.proofs.BegunLemmas.{none_right}
use Rattle.pn_reconcile.proofs.DownLemmas.{deeper_out}
use Rattle.pn_reconcile.proofs.MadeLemmas.{made_at, made_back, made_both, half_both, half_weaker}
use Rattle.pn_reconcile.proofs.SparesLemmas.{spares_at, spares_both, spares_weaker}
use Rattle.pn_reconcile.proofs.PlannedLemmas.{other_path, planned_once}

-- what is planned doesn't stand where nothing does
stands_some : (w : Planned) (o : Option Entry) → StandsAs w o → o ≡ None → ⊥
stands_some w o h none = none_right w (subst (StandsAs w) none h)

-- a folder is strictly above what its entries are at or above
entry_above : (x : List ℕ) (a p : Path) → is_within (x ∷ a) p ≡ true → is_below a p ≡ true
entry_above x a p h = elim (within_cases (x ∷ a) p h) [
  | inl same ↦ subst (λ q. is_below a q ≡ true) (sym same) (within_itself a)
  | inr below ↦ within_below a (x ∷ a) p (below_within a (x ∷ a) (within_itself a)) below
]

-- what differs where one folder is begun
pub at_one : (m : Managed) (t u : Tree) → ((q : Path) → (u q ≡ t q) ⊎ BeginsIn (m ∷ []) t q) → (q : Path) → (u q ≡ t q) ⊎ BeginsAt m t q
at_one m t u others q = elim (others q) [
  | inl same ↦ inl same
  | inr b ↦ inr (subst (λ (n : Managed). BeginsAt n t q) (sym (in_one m b.0 b.1)) b.2)
]

in_itself : (m : Managed) (t u : Tree) → ((q : Path) → (u q ≡ t q) ⊎ BeginsAt m t q) → (q : Path) → (u q ≡ t q) ⊎ BeginsIn (m ∷ []) t q
in_itself m t u others q = elim (others q) [ inl same ↦ inl same | inr b ↦ inr (m, here m [], b) ]

-- nothing stands in an empty folder
empty_at : (t : Tree) (p : Path) (x : List ℕ) → (HasEntry t p → ⊥) → t (x ∷ p) ≡ None
empty_at t p x empty = elim (t (x ∷ p)) as (λ o. t (x ∷ p) ≡ o → o ≡ None) [ None ↦ λ is. refl | Some e ↦ λ is. absurd (empty (x, e, is)) ] refl

clash_none : {e : Entry} (o : Option Entry) → o ≡ None → o ≡ Some e → ⊥
clash_none o none some = cc (none, some)

-- One folder.
module _ (m : Managed) where
  -- its marker is as it was while the folders are made
  pub marker_still : (t u : Tree) → ((q : Path) → (u q ≡ t q) ⊎ IsNewAbove m.0 t q) → (x : List ℕ) → u (x ∷ m.0) ≡ t (x ∷ m.0)
  marker_still t u others x = elim (others (x ∷ m.0)) [ inl same ↦ same | inr new ↦ absurd (deeper_out x m.0 new.0) ]

  pub free_marker : (t u : Tree) → IsOurs t m → ((q : Path) → (u q ≡ t q) ⊎ IsNewAbove m.0 t q) → IsMarked u m ⊎ (u (marker_name ∷ m.0) ≡ None)
  free_marker t u ours others =
      let still = marker_still t u others marker_name in
      elim ours.marked [
        | inl is ↦ inl (is.0, still ∙ is.1)
        | inr none ↦ inr (still ∙ empty_at t m.0 marker_name none)
      ]

  -- it is the installer's where the folders above it are made
  pub ours_down : (t u : Tree) → IsOurs t m → IsHalfDown m.0 t u → IsOurs u m
  ours_down t u ours h = record {
    folders = h.folders;
    marked = elim ours.marked [
      | inl is ↦ inl (is.0, marker_still t u h.others marker_name ∙ is.1)
      | inr none ↦ inr (λ some. none (some.0, some.1, sym (marker_still t u h.others some.0) ∙ some.2))
    ];
  }

  pub half_of_down : (t u : Tree) → IsOurs t m → IsHalfDown m.0 t u → IsHalfBegun (m ∷ []) t u
  half_of_down t u ours h = record {
    ours = λ n inside. subst (IsOurs u) (in_one m n inside) (ours_down t u ours h);
    others = in_itself m t u (λ q. elim (h.others q) [ inl same ↦ inl same | inr new ↦ inr (inr new) ]);
  }

  -- and where its marker is made or half made besides
  others_marked : (t v u : Tree) → IsDown m.0 t v → DiffersAt (marker_name ∷ m.0) v u → (q : Path) → (u q ≡ t q) ⊎ BeginsAt m t q
  others_marked t v u h d q = elim (same_path (marker_name ∷ m.0) q) as (λ b. same_path (marker_name ∷ m.0) q ≡ b → (u q ≡ t q) ⊎ BeginsAt m t q) [
    | true ↦ λ is. inr (inl (sym ((same_path-Decides (marker_name ∷ m.0) q).0 is)))
    | false ↦ λ out. elim (h.others q) [ inl same ↦ inl (d.others q out ∙ same) | inr new ↦ inr (inr new) ]
  ] refl

  folders_marked : (t v u : Tree) → IsDown m.0 t v → DiffersAt (marker_name ∷ m.0) v u → (q : Path) → is_within q m.0 ≡ true → u q ≡ Some folder
  folders_marked t v u h d q within =
      d.others q (other_path (marker_name ∷ m.0) q (λ same. deeper_out marker_name m.0 (subst (λ r. is_within r m.0 ≡ true) (sym same) within))) ∙ h.folders q within

  pub begun_one : (t v u : Tree) → IsDown m.0 t v → DiffersAt (marker_name ∷ m.0) v u → u (marker_name ∷ m.0) ≡ Some (file m.1) → IsBegun (m ∷ []) t u
  begun_one t v u h d stands = record {
    folders = λ n q inside within. folders_marked t v u h d q (subst (λ (k : Managed). is_within q k.0 ≡ true) (sym (in_one m n inside)) within);
    markers = λ n inside. subst (λ (k : Managed). u (marker_name ∷ k.0) ≡ Some (file k.1)) (in_one m n inside) stands;
    others = in_itself m t u (others_marked t v u h d);
  }

  pub half_of_marker : (t v u : Tree) → IsOurs t m → IsDown m.0 t v → DiffersAt (marker_name ∷ m.0) v u → (u (marker_name ∷ m.0) ≡ v (marker_name ∷ m.0)) ⊎ ((n : ℕ) × (u (marker_name ∷ m.0) ≡ Some (file (take n m.1)))) → IsHalfBegun (m ∷ []) t u
  half_of_marker t v u ours h d half = record {
    ours = λ n inside. subst (IsOurs u) (in_one m n inside) (record {
      folders = λ q e within is. same_entry (u q) e folder is (folders_marked t v u h d q within);
      marked = elim half [
        | inl same ↦ elim ours.marked [
          | inl is ↦ inl (is.0, same ∙ marker_still t v h.others marker_name ∙ is.1)
          | inr empty ↦ inr (λ some. no_entry (same ∙ marker_still t v h.others marker_name ∙ empty_at t m.0 marker_name empty) empty some.0 some.1 some.2)
        ]
        | inr front ↦ inl front
      ];
    });
    others = in_itself m t u (others_marked t v u h d);
  } where
    no_entry : u (marker_name ∷ m.0) ≡ None → (HasEntry t m.0 → ⊥) → (x : List ℕ) (e : Entry) → u (x ∷ m.0) ≡ Some e → ⊥
    no_entry none empty x e is = elim (same_path (marker_name ∷ m.0) (x ∷ m.0)) as (λ b. same_path (marker_name ∷ m.0) (x ∷ m.0) ≡ b → ⊥) [
      | true ↦ λ one. clash_none (u (x ∷ m.0)) (ap u (sym ((same_path-Decides (marker_name ∷ m.0) (x ∷ m.0)).0 one)) ∙ none) is
      | false ↦ λ out. empty (x, e, sym (marker_still t v h.others x) ∙ sym (d.others (x ∷ m.0) out) ∙ is)
    ] refl

  pub begun_ours : (t u : Tree) → IsBegun (m ∷ []) t u → IsOurs u m
  begun_ours t u h = record {
    folders = λ q e within is. same_entry (u q) e folder is (h.folders m q (here m []) within);
    marked = inl (length m.1, h.markers m (here m []) ∙ ap (λ b. Some (file b)) (sym (take_all (length m.1) m.1 (omega arith))));
  }

  -- where the trees may be untold
  pub begun_made : (a b c : Option Tree) → Made (IsDown m.0) a b → Repaired (marker_name ∷ m.0, Bytes m.1) b c → Made (IsBegun (m ∷ [])) a c
  begun_made None b c h k = subst (λ o. Repaired (marker_name ∷ m.0, Bytes m.1) o c) h k
  begun_made (Some t) b c h k = let n = subst (λ o. Repaired (marker_name ∷ m.0, Bytes m.1) o c) h.1 k in (n.0, n.1, begun_one t h.0 n.0 h.2 n.2 n.3)

  pub half_made_down : (a b : Option Tree) → ForSome a (λ t. IsOurs t m) → HalfMade (IsHalfDown m.0) a b → HalfMade (IsHalfBegun (m ∷ [])) a b
  half_made_down a b ours h = half_weaker (IsHalfDown m.0) (IsHalfBegun (m ∷ [])) a b (λ t u told d. half_of_down t u (ours t told) d) h

  pub half_made_marker : (a b c : Option Tree) → ForSome a (λ t. IsOurs t m) → Made (IsDown m.0) a b → HalfRepaired (marker_name ∷ m.0, Bytes m.1) b c → HalfMade (IsHalfBegun (m ∷ [])) a c
  half_made_marker a b c ours h k t told =
      let v = made_at (IsDown m.0) a b t h told in
      let u = k v.0 v.1 in
      (u.0, u.1, half_of_marker t v.0 u.0 (ours t told) v.2 u.2 u.3)

  pub free_made : (a b : Option Tree) → ForSome a (λ t. IsOurs t m) → Made (IsDown m.0) a b → ForSome b (λ u. IsMarked u m ⊎ (u (marker_name ∷ m.0) ≡ None))
  free_made a b ours h u told =
      let n = made_back (IsDown m.0) a b u h told in
      free_marker n.0 u (ours n.0 n.1) n.2.others

  pub stands_made : (a b : Option Tree) → Made (IsDown m.0) a b → ForSome b (λ u. u m.0 ≡ Some folder)
  stands_made a b h u told =
      let n = made_back (IsDown m.0) a b u h told in
      n.2.folders m.0 (within_itself m.0)

-- Several folders, one after the other.
module _ (managed : List Managed) (apart : AreApart managed) (m : Managed) (inside : Contains managed m) where
  marker_apart : (n : Managed) → Contains managed n → is_within (marker_name ∷ m.0) n.0 ≡ true → ⊥
  marker_apart n c within = below_no_folder managed apart n m c inside (entry_above marker_name m.0 n.0 within)

  -- those that are the installer's are it when another one is begun
  pub ours_step : (t u : Tree) → AreOurs t managed → ((q : Path) → (u q ≡ t q) ⊎ BeginsAt m t q) → IsOurs u m → AreOurs u managed
  ours_step t u ours others own n c = elim (same_path m.0 n.0) as (λ b. same_path m.0 n.0 ≡ b → IsOurs u n) [
    | true ↦ λ is. subst (IsOurs u) (sym (apart_one managed apart m n inside c (subst (λ p. is_within p m.0 ≡ true) ((same_path-Decides m.0 n.0).0 is) (within_itself m.0)))) own
    | false ↦ λ out. record {
      folders = λ q e within is. elim (others q) [
        | inl same ↦ (ours n c).folders q e within (sym same ∙ is)
        | inr begins ↦ elim begins [
          | inl marker ↦ absurd (marker_apart n c (subst (λ r. is_within r n.0 ≡ true) marker within))
          | inr new ↦ own.folders q e new.0 is
        ]
      ];
      marked = elim (ours n c).marked [
        | inl is ↦ inl (is.0, entry_same out marker_name ∙ is.1)
        | inr none ↦ inr (λ some. none (some.0, some.1, sym (entry_same out some.0) ∙ some.2))
      ];
    }
  ] refl where
    entry_same : same_path m.0 n.0 ≡ false → (x : List ℕ) → u (x ∷ n.0) ≡ t (x ∷ n.0)
    entry_same out x = elim (others (x ∷ n.0)) [
      | inl same ↦ same
      | inr begins ↦ elim begins [
        | inl marker ↦ let same : n.0 ≡ m.0 = tail_same x marker_name n.0 m.0 marker in absurd (apart_path out (sym same))
        | inr new ↦ absurd (below_no_folder managed apart m n inside c (entry_above x n.0 m.0 new.0))
      ]
    ] where
      apart_path : same_path m.0 n.0 ≡ false → m.0 ≡ n.0 → ⊥
      apart_path other is = let one = (same_path-Decides m.0 n.0).1 is in cc (one, other)

  module _ (done : List Managed) (before : (n : Managed) → Contains done n → Contains managed n) (t v : Tree) (h : IsBegun done t v) where
    pub begins_more : (q : Path) → BeginsAt m v q → BeginsIn (done ++ m ∷ []) t q
    begins_more q (inl marker) = (m, Contains-append_right done (m ∷ []) m (here m []), inl marker)
    begins_more q (inr new) = (m, Contains-append_right done (m ∷ []) m (here m []), inr (new.0, was (h.others q))) where
      was : (v q ≡ t q) ⊎ BeginsIn done t q → t q ≡ None
      was (inl same) = sym same ∙ new.1
      was (inr b) = elim b.2 [
        | inl marker ↦ absurd (clash_none (v q) new.1 (ap v marker ∙ h.markers b.0 b.1))
        | inr other ↦ other.1
      ]

    others_more : (u : Tree) → ((q : Path) → (u q ≡ v q) ⊎ BeginsAt m v q) → (q : Path) → (u q ≡ t q) ⊎ BeginsIn (done ++ m ∷ []) t q
    others_more u others q = elim (others q) [
      | inl same ↦ elim (h.others q) [
        | inl was ↦ inl (same ∙ was)
        | inr b ↦ inr (b.0, Contains-append_left done (m ∷ []) b.0 b.1, b.2)
      ]
      | inr b ↦ inr (begins_more q b)
    ]

    pub begun_more : (u : Tree) → IsBegun (m ∷ []) v u → IsBegun (done ++ m ∷ []) t u
    begun_more u k = record {
      folders = λ n q c within. elim (Contains-append_cases done (m ∷ []) n c) [
        | inl i ↦ elim (at_one m v u k.others q) [
          | inl same ↦ same ∙ h.folders n q i within
          | inr begins ↦ elim begins [
            | inl marker ↦ absurd (marker_apart n (before n i) (subst (λ r. is_within r n.0 ≡ true) marker within))
            | inr new ↦ absurd (clash_none (v q) new.1 (h.folders n q i within))
          ]
        ]
        | inr j ↦ k.folders n q j within
      ];
      markers = λ n c. elim (Contains-append_cases done (m ∷ []) n c) [
        | inl i ↦ elim (at_one m v u k.others (marker_name ∷ n.0)) [
          | inl same ↦ same ∙ h.markers n i
          | inr begins ↦ elim begins [
            | inl marker ↦
                let path : n.0 ≡ m.0 = tail_same marker_name marker_name n.0 m.0 marker in
                let one : n ≡ m = apart_one managed apart m n inside (before n i) (subst (λ p. is_within p m.0 ≡ true) (sym path) (within_itself m.0)) in
                k.markers n (subst (Contains (m ∷ [])) (sym one) (here m []))
            | inr new ↦ absurd (clash_none (v (marker_name ∷ n.0)) new.1 (h.markers n i))
          ]
        ]
        | inr j ↦ k.markers n j
      ];
      others = others_more u (at_one m v u k.others);
    }

    pub half_more : (u : Tree) → AreOurs v managed → IsHalfBegun (m ∷ []) v u → IsHalfBegun managed t u
    half_more u ours k = record {
      ours = ours_step v u ours (at_one m v u k.others) (k.ours m (here m []));
      others = λ q. elim (others_more u (at_one m v u k.others) q) [
        | inl same ↦ inl same
        | inr b ↦ inr (b.0, elim (Contains-append_cases done (m ∷ []) b.0 b.1) [ inl i ↦ before b.0 i | inr j ↦ subst (Contains managed) (in_one m b.0 j) inside ], b.2)
      ];
    }

-- The first of the folders are begun, and all of them are the installer's.
pub record Begins (managed done : List Managed) (t u : Tree) : Type 0 where
  pub begun : IsBegun done t u
  pub ours : AreOurs u managed

pub begins_none : (managed : List Managed) (t : Tree) → AreOurs t managed → Begins managed [] t t
begins_none managed t ours = record {
  begun = record { folders = λ n q c within. absurd (none_in n c); markers = λ n c. absurd (none_in n c); others = λ q. inl refl };
  ours = ours;
}

-- What stands as planned does so still.
module _ (managed : List Managed) (plan : List Item) (rooted : IsRooted managed plan) where
  pub begun_stays : Rises plan → (done : List Managed) → ((n : Managed) → Contains done n → Contains managed n) → (t u : Tree) → IsBegun done t u → (e : Item) → Contains plan e → StandsAs e.1 (t e.0) → StandsAs e.1 (u e.0)
  begun_stays order done before t u h e planned stands = elim (h.others e.0) [
    | inl same ↦ subst (StandsAs e.1) (sym same) stands
    | inr b ↦ elim b.2 [
      | inl marker ↦
          let what : Bytes b.0.1 ≡ e.1 = planned_once plan (marker_name ∷ b.0.0) (Bytes b.0.1) e.1 order (rooted.markers b.0 (before b.0 b.1)) (subst (λ q. Contains plan (q, e.1)) marker planned) in
          subst (λ w. StandsAs w (u e.0)) what (ap u marker ∙ h.markers b.0 b.1)
      | inr new ↦ absurd (stands_some e.1 (t e.0) stands new.1)
    ]
  ]

  -- what is written is planned, or absent above a managed folder
  pub begins_near : (t : Tree) (q : Path) → BeginsIn managed t q → MayDiffer managed plan t q
  begins_near t q b = elim b.2 [
    | inl marker ↦ inl (Bytes b.0.1, subst (λ p. Contains plan (p, Bytes b.0.1)) (sym marker) (rooted.markers b.0 b.1))
    | inr new ↦ elim (within_cases q b.0.0 new.0) [
      | inl same ↦ inl (Folder, subst (λ p. Contains plan (p, Folder)) same (rooted.tops b.0 b.1))
      | inr below ↦ inr (inr (above_of managed q b.0 b.1 below, new.1))
    ]
  ]

-- The planned entry of a folder's marker.
module _ (plan : List Item) (order : Rises plan) (m : Managed) (planned : Contains plan (marker_name ∷ m.0, Bytes m.1)) where
  pub marker_entry : (e : Item) (text : List ℕ) → Contains plan e → SpellsAbs text e.0 → SpellsAbs text (marker_name ∷ m.0) → e ≡ (marker_name ∷ m.0, Bytes m.1)
  marker_entry e text inside h k =
      let path = spells_one text e.0 (marker_name ∷ m.0) h k in
      let what = planned_once plan (marker_name ∷ m.0) e.1 (Bytes m.1) order (subst (λ q. Contains plan (q, e.1)) path inside) planned in
      λ i. (path i, what i)

pub marker_fits : (t : Tree) (m : Managed) → IsMarked t m ⊎ (t (marker_name ∷ m.0) ≡ None) → fits (Bytes m.1) (kind_of (t (marker_name ∷ m.0))) ≡ true
marker_fits t m (inl is) = ap (λ o. fits (Bytes m.1) (kind_of o)) is.1
marker_fits t m (inr none) = ap (λ o. fits (Bytes m.1) (kind_of o)) none

-- what is written for one folder
module _ (plan : List Item) (order : Rises plan) (m : Managed) (planned : Contains plan (marker_name ∷ m.0, Bytes m.1)) where
  spares_above : (t : Tree) (a b : Seen) → TouchesAbove m.0 t a b → SparesRight (BeginsAt m t) plan t a b
  spares_above t a b h = record {
    added = h.added;
    touched = h.touched;
    near = λ q inside. inr (h.near q inside);
    right = λ e inside stands written. stands_some e.1 (t e.0) stands (h.near e.0 written).1;
  }

  pub spares_down : (a b : Seen) → IfSome a.tree (λ t. TouchesAbove m.0 t a b) → IfSome a.tree (λ t. SparesRight (BeginsAt m t) plan t a b)
  spares_down a b h = if_some (λ t. SparesRight (BeginsAt m t) plan t a b) a.tree (λ t told. spares_above t a b (for_some (λ t. TouchesAbove m.0 t a b) a.tree h t told))

  -- what stood as planned does so where folders were made
  down_stays : (t v : Tree) → IsDown m.0 t v → (e : Item) → StandsAs e.1 (t e.0) → StandsAs e.1 (v e.0)
  down_stays t v h e stands = elim (h.others e.0) [
    | inl same ↦ subst (StandsAs e.1) (sym same) stands
    | inr new ↦ absurd (stands_some e.1 (t e.0) stands new.1)
  ]

  pub spares_one : (a b c : Seen) → Made (IsDown m.0) a.tree b.tree → IfSome a.tree (λ t. TouchesAbove m.0 t a b) → Touches (marker_name ∷ m.0, Bytes m.1) b c → IfSome a.tree (λ t. SparesRight (BeginsAt m t) plan t a c)
  spares_one a b c made h k = if_some (λ t. SparesRight (BeginsAt m t) plan t a c) a.tree (λ t told.
      let v = made_at (IsDown m.0) a.tree b.tree t made told in
      spares_both (BeginsAt m t) (λ q. q ≡ marker_name ∷ m.0) (BeginsAt m t) plan t v.0 a b c (λ q near. near) (λ q near. inl near) (λ e inside stands. down_stays t v.0 v.2 e stands)
      (spares_above t a b (for_some (λ t. TouchesAbove m.0 t a b) a.tree h t told))
      (spares_at (λ q. q ≡ marker_name ∷ m.0) plan (marker_name ∷ m.0, Bytes m.1) v.0 b c order planned refl (for_some (λ v. TouchesWrong (marker_name ∷ m.0, Bytes m.1) v b c) b.tree k v.0 v.1)))

-- One more folder is begun, where the trees may be untold.
module _ (managed : List Managed) (apart : AreApart managed) (m : Managed) (inside : Contains managed m) (done : List Managed) (before : (n : Managed) → Contains done n → Contains managed n) where
  pub begins_made : (a b c : Option Tree) → Made (Begins managed done) a b → Made (IsBegun (m ∷ [])) b c → Made (Begins managed (done ++ m ∷ [])) a c
  begins_made a b c = made_both (Begins managed done) (IsBegun (m ∷ [])) (Begins managed (done ++ m ∷ [])) a b c (λ t v u told mid h k. record {
    begun = begun_more managed apart m inside done before t v h.begun u k;
    ours = ours_step managed apart m inside v u h.ours (at_one m v u k.others) (begun_ours m v u k);
  })

  pub begins_half : (a b c : Option Tree) → Made (Begins managed done) a b → HalfMade (IsHalfBegun (m ∷ [])) b c → HalfMade (IsHalfBegun managed) a c
  begins_half a b c = half_both (Begins managed done) (IsHalfBegun (m ∷ [])) (IsHalfBegun managed) a b c (λ t v u told mid h k. half_more managed apart m inside done before t v h.begun u h.ours k)

  module _ (plan : List Item) (order : Rises plan) (rooted : IsRooted managed plan) where
    pub spares_begun : (a b c : Seen) → Made (Begins managed done) a.tree b.tree → ForSome a.tree (λ t. SparesRight (BeginsIn done t) plan t a b) → IfSome b.tree (λ v. SparesRight (BeginsAt m v) plan v b c) → ForSome a.tree (λ t. SparesRight (BeginsIn (done ++ m ∷ []) t) plan t a c)
    spares_begun a b c made h k t told =
        let v = made_at (Begins managed done) a.tree b.tree t made told in
        spares_both (BeginsIn done t) (BeginsAt m v.0) (BeginsIn (done ++ m ∷ []) t) plan t v.0 a b c (λ q near. (near.0, Contains-append_left done (m ∷ []) near.0 near.1, near.2)) (λ q near. begins_more managed apart m inside done before t v.0 v.2.begun q near)
        (λ e planned stands. begun_stays managed plan rooted order done before t v.0 v.2.begun e planned stands) (h t told) (for_some (λ v. SparesRight (BeginsAt m v) plan v b c) b.tree k v.0 v.1)

pub spares_near : (managed part : List Managed) (plan : List Item) → IsRooted managed plan → ((n : Managed) → Contains part n → Contains managed n) → (a c : Seen) → ForSome a.tree (λ t. SparesRight (BeginsIn part t) plan t a c) → IfSome a.tree (λ t. Spares managed plan t a c)
spares_near managed part plan rooted within a c h = if_some (λ t. Spares managed plan t a c) a.tree (λ t told.
    spares_weaker (BeginsIn part t) (MayDiffer managed plan t) plan t a c (λ q near. begins_near managed plan rooted t q (near.0, within near.0 near.1, near.2)) (h t told))

pub front_within : {T : Type 0} (es : List T) (i : ℕ) (e : T) → Contains (take i es) e → Contains es e
front_within es i e inside = subst (λ l. Contains l e) (take-append-drop i es) (Contains-append_left (take i es) (drop i es) e inside)

pub front_or_next : {T : Type 0} (es : List T) (i : ℕ) (e : T) → Contains es e → (f : T) → Contains (take i es ++ e ∷ []) f → Contains es f
front_or_next es i e inside f within = elim (Contains-append_cases (take i es) (e ∷ []) f within) [
  | inl front ↦ front_within es i f front
  | inr next ↦ subst (Contains es) (in_one e f next) inside
]

-- all of them
pub all_begun : (managed : List Managed) (a b : Option Tree) → Made (Begins managed managed) a b → Made (IsBegun managed) a b
all_begun managed None b h = h
all_begun managed (Some t) b h = (h.0, h.1, h.2.begun)
