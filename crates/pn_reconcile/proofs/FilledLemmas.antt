-- Lemmas on planned entries that are repaired in order.
use Rattle.std.proofs.Common.{◌≡◌, ℕ, List, [], ◌∷◌, ◌++◌, refl, sym, ap, ◌∙◌, subst, arith, true, false, Some, None, inl, inr}
use Rattle.std.specs.Prelude.{Option, IfSome}
use Rattle.std.specs.Option.{ForSome}
use Rattle.std.specs.List.{Contains}
use Rattle.std.specs.Cmp.Lexicographic.{slice_cmp}
use Rattle.std.specs.Ordering.{nat_cmp}
use Rattle.std.specs.declared.cmp.Ordering.TheVariants.{Less}
use Rattle.std.proofs.lemmas.List.Sums.{sum_by_push}
use Rattle.std.proofs.lemmas.List.Elements.{Contains-append_left, Contains-append_right, Contains-append_cases}
use Rattle.pn_text.specs.Path.{Path, path_text, same_path}
use Rattle.pn_text.proofs.Members.{none_in, in_cons, in_one, here}
use Rattle.pn_text.proofs.Orders.{not_before_self}
use Rattle.pn_text.proofs.Paths.{deeper}
use Rattle.pn_text.proofs.Results.{for_some}
use Rattle.pn_fs.specs.Calls.{kind_of}
use Rattle.pn_fs.specs.Seen.{Seen as Shown, GaveAtMost}
use Rattle.pn_fs.specs.Tree.{Entry, folder, Tree, IsTree, HasParent}
use Rattle.pn_digest.specs.declared.planned.Planned.{Planned}
use Rattle.pn_digest.specs.declared.planned.Planned.TheVariants.{Folder, Bytes, Stored, Link}
use Rattle.pn_repair.specs.Repairs.{DiffersAt, Repaired, HalfRepaired, IsHalf, Touches, TouchesWrong, fits, most_read}
use Rattle.pn_repair.specs.Stands.{StandsAs}
use Rattle.pn_clear.specs.Items.{Item, Rises}
use Rattle.pn_clear.proofs.RisesLemmas.{before_later}
use Rattle.pn_reconcile.specs.Bounds.{most_planned}
use Rattle.pn_reconcile.specs.Plans.{IsPlanned, Made, HalfMade}
use Rattle.pn_reconcile.specs.Phases.{IsReady, IsFilled, IsHalfFilled}
use Rattle.pn_reconcile.specs.Spares.{SparesRight}
use Rattle.pn_reconcile.proofs.SparesLemmas.{spares_both, spares_entry}
use Rattle.pn_reconcile.proofs.BoundsLemmas.{of_item}
use Rattle.pn_reconcile.proofs.MadeLemmas.{made_at}
use Rattle.pn_reconcile.proofs.PlannedLemmas.{apart, other_path, not_before_parent}

pub filled_none : (t : Tree) → IsFilled [] t t
filled_none t = record { has = λ e inside. absurd (none_in e inside); others = λ q out. refl }

module _ (done rest : List Item) (e : Item) (order : Rises (done ++ e ∷ rest)) where
  whole : List Item
  whole = done ++ e ∷ rest

  -- what is from there on is as it was
  pub still : (t u : Tree) (f : Item) → IsFilled done t u → Contains (e ∷ rest) f → u f.0 ≡ t f.0
  still t u f h behind = h.others f.0 (λ p. apart done rest e (f.0, p.0) f order p.1 behind refl)

  pub still_here : (t u : Tree) → IsFilled done t u → u e.0 ≡ t e.0
  still_here t u h = still t u e h (here e rest)

  -- what stands as planned does so still
  pub stays : (t u : Tree) (f : Item) → IsFilled done t u → Contains (done ++ e ∷ rest) f → StandsAs f.1 (t f.0) → StandsAs f.1 (u f.0)
  stays t u f h planned stands = elim (Contains-append_cases done (e ∷ rest) f planned) [
    | inl before ↦ h.has f before
    | inr behind ↦ subst (StandsAs f.1) (sym (still t u f h behind)) stands
  ]

  -- an entry before it has another path
  elsewhere : (f : Item) → Contains done f → same_path e.0 f.0 ≡ false
  elsewhere f before = other_path e.0 f.0 (λ same. apart done rest e f e order before (here e rest) (sym same))

  pub filled_more : (t u v : Tree) → IsFilled done t u → DiffersAt e.0 u v → StandsAs e.1 (v e.0) → IsFilled (done ++ e ∷ []) t v
  filled_more t u v h d stands = record {
    has = λ f inside. elim (Contains-append_cases done (e ∷ []) f inside) [
      | inl before ↦ subst (StandsAs f.1) (sym (d.others f.0 (elsewhere f before))) (h.has f before)
      | inr one ↦ subst (λ (g : Item). StandsAs g.1 (v g.0)) (in_one e f one) stands
    ];
    others = λ q out.
        d.others q (other_path e.0 q (λ same. out (e.1, subst (λ p. Contains (done ++ e ∷ []) (p, e.1)) same (Contains-append_right done (e ∷ []) e (here e [])))))
        ∙ h.others q (λ p. out (p.0, Contains-append_left done (e ∷ []) (q, p.0) p.1));
  }

  half_same : (w : Planned) (o : Option Entry) → IsHalf w o o
  half_same Folder o = inl refl
  half_same (Bytes text) o = inl refl
  half_same (Stored d) o = inl refl
  half_same (Link text) o = inl refl

  pub half_more : (t u v : Tree) → IsFilled done t u → DiffersAt e.0 u v → IsHalf e.1 (u e.0) (v e.0) → IsHalfFilled (done ++ e ∷ rest) t v
  half_more t u v h d half = record {
    half = λ f planned. elim (Contains-append_cases done (e ∷ rest) f planned) [
      | inl before ↦ inl (subst (StandsAs f.1) (sym (d.others f.0 (elsewhere f before))) (h.has f before))
      | inr behind ↦ elim (in_cons e rest f behind) [
        | inl one ↦ inr (subst (λ (g : Item). IsHalf g.1 (t g.0) (v g.0)) one (subst (λ o. IsHalf e.1 o (v e.0)) (still_here t u h) half))
        | inr later ↦ inr (subst (IsHalf f.1 (t f.0)) (sym (d.others f.0 (other_path e.0 f.0 (λ same. twice f later same)) ∙ still t u f h behind)) (half_same f.1 (t f.0)))
      ]
    ];
    others = λ q out.
        d.others q (other_path e.0 q (λ same. out (e.1, subst (λ p. Contains (done ++ e ∷ rest) (p, e.1)) same (Contains-append_right done (e ∷ rest) e (here e rest)))))
        ∙ h.others q (λ p. out (p.0, Contains-append_left done (e ∷ rest) (q, p.0) p.1));
  } where
    twice : (f : Item) → Contains rest f → e.0 ≡ f.0 → ⊥
    twice f later same = not_before_self (path_text e.0) (subst (λ p. slice_cmp nat_cmp (path_text e.0) (path_text p) ≡ Less) (sym same) (before_later done e rest f order later))

  pub fits_here : (t u : Tree) → IsReady (done ++ e ∷ rest) t → IsFilled done t u → fits e.1 (kind_of (u e.0)) ≡ true
  fits_here t u ready h = subst (λ o. fits e.1 (kind_of o) ≡ true) (sym (still_here t u h)) (ready.fitting e (Contains-append_right done (e ∷ rest) e (here e rest)))

  parent_from : (x : List ℕ) (p : Path) → e.0 ≡ x ∷ p → Contains (done ++ e ∷ rest) (p, Folder) → Contains done (p, Folder)
  parent_from x p at planned = elim (Contains-append_cases done (e ∷ rest) (p, Folder) planned) [
    | inl before ↦ before
    | inr behind ↦ elim (in_cons e rest (p, Folder) behind) [
      | inl one ↦ absurd (deeper x p (sym at ∙ ap (λ (f : Item). f.0) one))
      | inr later ↦ absurd (not_before_parent x p (subst (λ q. slice_cmp nat_cmp (path_text q) (path_text p) ≡ Less) at (before_later done e rest (p, Folder) order later)))
    ]
  ]

  -- the parent of what is absent was made before it
  pub parent_here : (t u : Tree) → IsTree u → IsReady (done ++ e ∷ rest) t → IsFilled done t u → u e.0 ≡ None → HasParent u e.0
  parent_here t u tree ready h none = at e.0 refl where
    at : (q : Path) → e.0 ≡ q → HasParent u q
    at [] is = let clash : Some folder ≡ None = sym tree.root ∙ ap u (sym is) ∙ none in cc clash
    at (x ∷ p) is =
        h.has (p, Folder) (parent_from x p is (ready.parents x p e.1 (subst (λ q. Contains (done ++ e ∷ rest) (q, e.1)) is (Contains-append_right done (e ∷ rest) e (here e rest))) (ap t (sym is) ∙ sym (still_here t u h) ∙ none)))

  -- the same where the tree may be untold
  pub made_more : (a b c : Option Tree) → Made (IsFilled done) a b → Repaired e b c → Made (IsFilled (done ++ e ∷ [])) a c
  made_more None b c h k = subst (λ o. Repaired e o c) h k
  made_more (Some t) b c h k = let m = subst (λ o. Repaired e o c) h.1 k in (m.0, m.1, filled_more t h.0 m.0 h.2 m.2 m.3)

  pub half_made : (a b c : Option Tree) → Made (IsFilled done) a b → HalfRepaired e b c → HalfMade (IsHalfFilled (done ++ e ∷ rest)) a c
  half_made a b c h k t told =
      let m = made_at (IsFilled done) a b t h told in
      let n = k m.0 m.1 in
      (n.0, n.1, half_more t m.0 n.0 m.2 n.2 n.3)

  pub spares_more : (a b c : Shown) → Made (IsFilled done) a.tree b.tree → ForSome a.tree (λ t. SparesRight (IsPlanned (done ++ e ∷ rest)) (done ++ e ∷ rest) t a b) → Touches e b c
      → ForSome a.tree (λ t. SparesRight (IsPlanned (done ++ e ∷ rest)) (done ++ e ∷ rest) t a c)
  spares_more a b c made h touches t told =
      let m = made_at (IsFilled done) a.tree b.tree t made told in
      spares_both (IsPlanned (done ++ e ∷ rest)) (IsPlanned (done ++ e ∷ rest)) (IsPlanned (done ++ e ∷ rest)) (done ++ e ∷ rest) t m.0 a b c (λ p x. x) (λ p x. x) (λ f planned right. stays t m.0 f m.2 planned right) (h t told)
      (spares_entry (done ++ e ∷ rest) e m.0 b c order (Contains-append_right done (e ∷ rest) e (here e rest)) (for_some (λ u. TouchesWrong e u b c) b.tree touches m.0 m.1))

  pub gave_more : (a b c : Shown) → Made (IsFilled done) a.tree b.tree → ForSome a.tree (λ t. GaveAtMost a (most_planned done t) 0 b) → IfSome b.tree (λ u. GaveAtMost b (of_item e u) 0 c) → ForSome a.tree (λ t. GaveAtMost a (most_planned (done ++ e ∷ []) t) 0 c)
  gave_more a b c made h gave t told =
      let m = made_at (IsFilled done) a.tree b.tree t made told in
      let g = h t told in
      let s = for_some (λ u. GaveAtMost b (of_item e u) 0 c) b.tree gave m.0 m.1 in
      record { bytes = omega (arith, g.bytes, s.bytes, ap (λ o. most_read e.1 (kind_of o)) (still_here t m.0 m.2), sum_by_push (λ (f : Item). of_item f t) done e); names = omega (arith, g.names, s.names) }
