-- Lemmas on folders that are made where they are absent.
use Rattle.std.proofs.Common.{◌≡◌, ℕ, List, [], ◌∷◌, ◌++◌, refl, sym, ap, ◌∙◌, subst, arith, length, Bool, true, false, Some, None, inl, inr, append_assoc}
use Rattle.std.specs.Prelude.{Option, Result, Ok, Err, IfSome, ◌⊎◌}
use Rattle.std.specs.Option.{ForSome}
use Rattle.std.specs.Bool.{MatchBool}
use Rattle.std.proofs.lemmas.List.{append-nil}
use Rattle.std.proofs.lemmas.List.Elements.{Contains-append_cases}
use Rattle.pn_text.specs.Path.{Path, same_path}
use Rattle.pn_text.proofs.Members.{none_in, in_one}
use Rattle.pn_text.proofs.Results.{for_some, if_some}
use Rattle.pn_text.specs.declared.fault.DevFault.{DevFault}
use Rattle.pn_text.proofs.Paths.{same_path_refl}
use Rattle.pn_fs.specs.Tree.{folder, Tree, IsTree, IsFree, put}
use Rattle.pn_fs.specs.Seen.{Seen}
use Rattle.pn_fs.specs.Calls.{told_put, Touches}
use Rattle.pn_fs.proofs.Puts.{at_put}
use Rattle.pn_scan.specs.Managed.{is_within}
use Rattle.pn_scan.specs.Looks.{AreFolders}
use Rattle.pn_scan.proofs.ManagedLemmas.{within_cases, within_itself, below_within, below_longer, folder_above}
use Rattle.pn_scan.proofs.UpsLemmas.{same_entry}
use Rattle.pn_reconcile.specs.Phases.{IsNewAbove, IsDown, IsHalfDown, TouchesAbove}
use Rattle.pn_reconcile.specs.Plans.{Made, HalfMade}
use Rattle.pn_reconcile.proofs.MadeLemmas.{made_at, made_back, made_none, made_both, half_of, half_weaker}

-- a folder isn't at or above the one that it is in
pub deeper_out : (x : List ℕ) (p : Path) → is_within (x ∷ p) p ≡ true → ⊥
deeper_out x p h = elim (within_cases (x ∷ p) p h) [
  | inl same ↦ absurd (omega (arith, ap length same))
  | inr below ↦ absurd (omega (arith, below_longer (x ∷ p) p below))
]

pub above_folders : (t : Tree) (x : List ℕ) (p : Path) → AreFolders t (x ∷ p) → AreFolders t p
above_folders t x p h q e within is = h q e (below_within q (x ∷ p) within) is

-- what isn't a folder is absent there
pub absent_here : (t : Tree) (p : Path) → AreFolders t p → (t p ≡ Some folder → ⊥) → t p ≡ None
absent_here t p h other = elim (t p) as (λ o. t p ≡ o → o ≡ None) [
  | None ↦ λ is. refl
  | Some e ↦ λ is. absurd (other (is ∙ ap Some (h p e (within_itself p) is)))
] refl

pub down_none : (t : Tree) (p : Path) → IsTree t → t p ≡ Some folder → IsDown p t t
down_none t p tree is = record {
  folders = λ q within. elim (within_cases q p within) [
    | inl same ↦ ap t (sym same) ∙ is
    | inr below ↦ folder_above t tree q p folder below is
  ];
  others = λ q. inl refl;
}

pub half_down : (t u : Tree) (p : Path) → IsDown p t u → IsHalfDown p t u
half_down t u p h = record { folders = λ q e within is. same_entry (u q) e folder is (h.folders q within); others = h.others }

module _ (t u : Tree) (x : List ℕ) (p : Path) (absent : t (x ∷ p) ≡ None) where
  -- what differs above a folder's parent is above the folder
  pub other_above : (q : Path) → (u q ≡ t q) ⊎ IsNewAbove p t q → (u q ≡ t q) ⊎ IsNewAbove (x ∷ p) t q
  other_above q (inl same) = inl same
  other_above q (inr new) = inr (below_within q (x ∷ p) new.0, new.1)

  absent_still : ((q : Path) → (u q ≡ t q) ⊎ IsNewAbove p t q) → u (x ∷ p) ≡ None
  absent_still others = elim (others (x ∷ p)) [
    | inl same ↦ same ∙ absent
    | inr new ↦ absurd (deeper_out x p new.0)
  ]

  -- a folder may be made in its parent
  pub free_down : IsDown p t u → IsFree u (x ∷ p)
  free_down h = record { absent = absent_still h.others; parent = h.folders p (within_itself p) }

  -- the parent is made, and the folder isn't
  pub half_above : IsHalfDown p t u → IsHalfDown (x ∷ p) t u
  half_above h = record {
    folders = λ q e within is. elim (within_cases q (x ∷ p) within) [
      | inl same ↦ let clash : None ≡ Some e = sym (absent_still h.others) ∙ ap u same ∙ is in cc clash
      | inr below ↦ h.folders q e below is
    ];
    others = λ q. other_above q (h.others q);
  }

  pub down_more : IsDown p t u → IsDown (x ∷ p) t (put u (x ∷ p) (Some folder))
  down_more h = record {
    folders = λ q within. elim (at_put u (x ∷ p) q (Some folder)) [
      | inl here ↦ here.2
      | inr out ↦ elim (within_cases q (x ∷ p) within) [
        | inl same ↦ absurd (other_is out.0 same)
        | inr below ↦ out.1 ∙ h.folders q below
      ]
    ];
    others = λ q. elim (at_put u (x ∷ p) q (Some folder)) [
      | inl here ↦ inr (subst (λ r. is_within r (x ∷ p) ≡ true) here.1 (within_itself (x ∷ p)), ap t (sym here.1) ∙ absent)
      | inr out ↦ elim (other_above q (h.others q)) [ inl same ↦ inl (out.1 ∙ same) | inr new ↦ inr new ]
    ];
  } where
    other_is : {q : Path} → same_path (x ∷ p) q ≡ false → x ∷ p ≡ q → ⊥
    other_is {q} out same = let is : true ≡ false = sym (same_path_refl (x ∷ p)) ∙ ap (same_path (x ∷ p)) same ∙ out in cc is

  pub touches_down : (a b c : Seen) → ((q : Path) → (u q ≡ t q) ⊎ IsNewAbove p t q) → TouchesAbove p t a b → TouchesAbove (x ∷ p) u b c → TouchesAbove (x ∷ p) t a c
  touches_down a b c others h k = record {
    added = h.added ++ k.added;
    touched = k.touched ∙ ap (λ l. l ++ k.added) h.touched ∙ append_assoc a.touched h.added k.added;
    near = λ q inside. elim (Contains-append_cases h.added k.added q inside) [
      | inl i ↦ (below_within q (x ∷ p) (h.near q i).0, (h.near q i).1)
      | inr j ↦ ((k.near q j).0, elim (others q) [ inl same ↦ sym same ∙ (k.near q j).1 | inr new ↦ new.1 ])
    ];
  }

pub touches_none : (p : Path) (t : Tree) (a b : Seen) → b.touched ≡ a.touched → TouchesAbove p t a b
touches_none p t a b same = record { added = []; touched = same ∙ sym (append-nil a.touched); near = λ q inside. absurd (none_in q inside) }

pub touches_below : (x : List ℕ) (p : Path) (t : Tree) (a b : Seen) → TouchesAbove p t a b → TouchesAbove (x ∷ p) t a b
touches_below x p t a b h = record { added = h.added; touched = h.touched; near = λ q inside. (below_within q (x ∷ p) (h.near q inside).0, (h.near q inside).1) }

-- the same where the tree may be untold
pub kept_made : (P : Tree → Tree → Type 0) (a b c : Option Tree) → b ≡ a → Made P b c → Made P a c
kept_made P a b c same h = subst (λ s. Made P s c) same h

pub kept_half : (P : Tree → Tree → Type 0) (a b c : Option Tree) → b ≡ a → HalfMade P b c → HalfMade P a c
kept_half P a b c same h = subst (λ s. HalfMade P s c) same h

pub made_still : (P : Tree → Tree → Type 0) (a b : Option Tree) → b ≡ a → ((t : Tree) → a ≡ Some t → P t t) → Made P a b
made_still P a b same f = subst (λ s. Made P a s) (sym same) (made_none P a f)

put_made : (p : Path) (b c : Option Tree) → c ≡ told_put b p folder → Made (λ u v. v ≡ put u p (Some folder)) b c
put_made p None c h = h
put_made p (Some u) c h = (put u p (Some folder), h, refl)

module _ (path : Path) (x : List ℕ) (p : Path) (at : path ≡ x ∷ p) (a b : Option Tree) (absent : ForSome a (λ t. t path ≡ None)) where
  absent_at : (t : Tree) → a ≡ Some t → t (x ∷ p) ≡ None
  absent_at t told = subst (λ q. t q ≡ None) at (absent t told)

  pub free_at : Made (IsDown p) a b → ForSome b (λ u. IsFree u path)
  free_at h u told =
      let m = made_back (IsDown p) a b u h told in
      subst (λ q. IsFree u q) (sym at) (free_down m.0 u x p (absent_at m.0 m.1) m.2)

  pub down_made : (c : Option Tree) → Made (IsDown p) a b → c ≡ told_put b path folder → Made (IsDown path) a c
  down_made c h is = subst (λ q. Made (IsDown q) a c) (sym at)
      (made_both (IsDown p) (λ u v. v ≡ put u (x ∷ p) (Some folder)) (IsDown (x ∷ p)) a b c
      (λ t u v told mid d put_is. subst (IsDown (x ∷ p) t) (sym put_is) (down_more t u x p (absent_at t told) d)) h
      (put_made (x ∷ p) b c (is ∙ ap (λ q. told_put b q folder) at)))

  pub half_of_down : (c : Option Tree) → Made (IsDown p) a b → (c ≡ b) ⊎ (c ≡ told_put b path folder) → HalfMade (IsHalfDown path) a c
  half_of_down c h (inl same) = subst (λ q. HalfMade (IsHalfDown q) a c) (sym at) (subst (HalfMade (IsHalfDown (x ∷ p)) a) (sym same)
      (half_of (IsDown p) (IsHalfDown (x ∷ p)) a b (λ t u told d. half_above t u x p (absent_at t told) (half_down t u p d)) h))
  half_of_down c h (inr made) = half_of (IsDown path) (IsHalfDown path) a c (λ t u told d. half_down t u path d) (down_made c h made)

  pub half_of_half : HalfMade (IsHalfDown p) a b → HalfMade (IsHalfDown path) a b
  half_of_half h = subst (λ q. HalfMade (IsHalfDown q) a b) (sym at) (half_weaker (IsHalfDown p) (IsHalfDown (x ∷ p)) a b (λ t u told d. half_above t u x p (absent_at t told) d) h)

-- one call that makes a folder
touches_one : (p : Path) (t : Tree) (a b : Seen) → IsFree t p → (b.touched ≡ a.touched) ⊎ (b.touched ≡ a.touched ++ p ∷ []) → TouchesAbove p t a b
touches_one p t a b free (inl same) = touches_none p t a b same
touches_one p t a b free (inr one) = record {
  added = p ∷ [];
  touched = one;
  near = λ q inside. let is = in_one p q inside in (subst (λ r. is_within r p ≡ true) is (within_itself p), ap t (sym is) ∙ free.absent);
}

touched_by : {T : Type 0} (r : Result T DevFault) (p : Path) (t : Tree) (a b : Seen) → a.tree ≡ Some t → Touches a b (p ∷ []) r → (b.touched ≡ a.touched) ⊎ (b.touched ≡ a.touched ++ p ∷ [])
touched_by (Ok v) p t a b told h = inr (for_some (λ t. b.touched ≡ a.touched ++ p ∷ []) a.tree h.ok t told)
touched_by (Err e) p t a b told h = for_some (λ t. (b.touched ≡ a.touched) ⊎ (b.touched ≡ a.touched ++ p ∷ [])) a.tree h.err t told

pub touches_call : {T : Type 0} (r : Result T DevFault) (p : Path) (a b : Seen) → ForSome a.tree (λ t. IsFree t p) → Touches a b (p ∷ []) r → IfSome a.tree (λ t. TouchesAbove p t a b)
touches_call r p a b free h = if_some (λ t. TouchesAbove p t a b) a.tree (λ t told. touches_one p t a b (free t told) (touched_by r p t a b told h))

-- calls that only looked came before
pub touches_behind : (p : Path) (t : Tree) (a b c : Seen) → b.touched ≡ a.touched → TouchesAbove p t b c → TouchesAbove p t a c
touches_behind p t a b c same h = record { added = h.added; touched = h.touched ∙ ap (λ l. l ++ h.added) same; near = h.near }

pub touches_half : (path : Path) (x : List ℕ) (p : Path) → path ≡ x ∷ p → (a k b : Seen) → k.tree ≡ a.tree → k.touched ≡ a.touched → IfSome k.tree (λ t. TouchesAbove p t k b) → IfSome a.tree (λ t. TouchesAbove path t a b)
touches_half path x p at a k b same looked h = if_some (λ t. TouchesAbove path t a b) a.tree (λ t told.
    subst (λ q. TouchesAbove q t a b) (sym at) (touches_below x p t a b (touches_behind p t a k b looked (for_some (λ t. TouchesAbove p t k b) k.tree h t (same ∙ told)))))

pub touches_made : (path : Path) (x : List ℕ) (p : Path) → path ≡ x ∷ p → (a k b c : Seen) → k.tree ≡ a.tree → k.touched ≡ a.touched → ForSome a.tree (λ t. t path ≡ None) → Made (IsDown p) k.tree b.tree → IfSome k.tree (λ t. TouchesAbove p t k b)
    → IfSome b.tree (λ u. TouchesAbove path u b c) → IfSome a.tree (λ t. TouchesAbove path t a c)
touches_made path x p at a k b c same looked absent made h i = if_some (λ t. TouchesAbove path t a c) a.tree (λ t told.
    let m = made_at (IsDown p) k.tree b.tree t made (same ∙ told) in
    let first = touches_behind p t a k b looked (for_some (λ t. TouchesAbove p t k b) k.tree h t (same ∙ told)) in
    let second = subst (λ q. TouchesAbove q m.0 b c) at (for_some (λ u. TouchesAbove path u b c) b.tree i m.0 m.1) in
    subst (λ q. TouchesAbove q t a c) (sym at) (touches_down t m.0 x p (subst (λ q. t q ≡ None) at (absent t told)) a b c m.2.others first second))

-- where no folder stands nothing does
pub absent_made : (s : Option Tree) (p : Path) (is : Bool) → ForSome s (λ t. AreFolders t p) → is ≡ false → IfSome s (λ t. MatchBool is (t p ≡ Some folder) (t p ≡ Some folder → ⊥)) → ForSome s (λ t. t p ≡ None)
absent_made s p is folders out h t told = absent_here t p (folders t told) (subst (λ (b : Bool). MatchBool b (t p ≡ Some folder) (t p ≡ Some folder → ⊥)) out (for_some (λ t. MatchBool is (t p ≡ Some folder) (t p ≡ Some folder → ⊥)) s h t told))

pub stands_made : (s : Option Tree) (p : Path) (is : Bool) → is ≡ true → IfSome s (λ t. MatchBool is (t p ≡ Some folder) (t p ≡ Some folder → ⊥)) → ForSome s (λ t. t p ≡ Some folder)
stands_made s p is right h t told = subst (λ (b : Bool). MatchBool b (t p ≡ Some folder) (t p ≡ Some folder → ⊥)) right (for_some (λ t. MatchBool is (t p ≡ Some folder) (t p ≡ Some folder → ⊥)) s h t told)
