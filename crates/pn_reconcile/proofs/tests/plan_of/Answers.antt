use Rattle.std.proofs.Common.{◌≡◌, ℕ, List, [], ◌∷◌, length, refl, sym, ap, ◌∙◌, subst, arith, true, inl, inr}
use Rattle.std.specs.Prelude.{◌⊎◌}
use Rattle.std.specs.List.{Contains}
use Rattle.pn_text.specs.Path.{Path}
use Rattle.pn_text.proofs.Members.{none_in, in_cons, here}
use Rattle.pn_digest.specs.declared.planned.Planned.{Planned}
use Rattle.pn_digest.specs.declared.planned.Planned.TheVariants.{Folder, Bytes}
use Rattle.pn_scan.specs.Managed.{Managed, is_within, is_managed, marker_name}
use Rattle.pn_scan.proofs.ManagedLemmas.{below_longer, below_within, within_itself, within_cases, managed_in, managed_of}
use Rattle.pn_clear.specs.Items.{Item}
use Rattle.pn_reconcile.specs.Plans.{IsRooted}
use Rattle.pn_reconcile.proofs.tests.plan_of.Goals as goal

-- an entry of the folder, or of an entry of it
abbrev five : Path → List ℕ → List ℕ → List ℕ → List ℕ → Planned → Planned → List Item
five m text x y z w v = (m, Folder) ∷ (x ∷ m, Folder) ∷ (y ∷ x ∷ m, w) ∷ (marker_name ∷ m, Bytes text) ∷ (z ∷ m, v) ∷ []

-- which of them an entry is
which : (m : Path) (text x y z : List ℕ) (w v : Planned) (e : Item) → Contains (five m text x y z w v) e
    → ((m, Folder) ≡ e) ⊎ (((x ∷ m, Folder) ≡ e) ⊎ (((y ∷ x ∷ m, w) ≡ e) ⊎ (((marker_name ∷ m, Bytes text) ≡ e) ⊎ ((z ∷ m, v) ≡ e))))
which m text x y z w v e c = elim (in_cons (m, Folder) ((x ∷ m, Folder) ∷ (y ∷ x ∷ m, w) ∷ (marker_name ∷ m, Bytes text) ∷ (z ∷ m, v) ∷ []) e c) [
  | inl a ↦ inl a
  | inr d ↦ inr (elim (in_cons (x ∷ m, Folder) ((y ∷ x ∷ m, w) ∷ (marker_name ∷ m, Bytes text) ∷ (z ∷ m, v) ∷ []) e d) [
    | inl a ↦ inl a
    | inr f ↦ inr (elim (in_cons (y ∷ x ∷ m, w) ((marker_name ∷ m, Bytes text) ∷ (z ∷ m, v) ∷ []) e f) [
      | inl a ↦ inl a
      | inr h ↦ inr (elim (in_cons (marker_name ∷ m, Bytes text) ((z ∷ m, v) ∷ []) e h) [
        | inl a ↦ inl a
        | inr k ↦ elim (in_cons (z ∷ m, v) [] e k) [ inl a ↦ inr a | inr n ↦ absurd (none_in e n) ]
      ])
    ])
  ])
]

below : (m : Path) (x : List ℕ) → is_within m (x ∷ m) ≡ true
below m x = below_within m (x ∷ m) (within_itself m)

inside : (m : Path) (text : List ℕ) (q : Path) → is_within m q ≡ true → is_managed ((m, text) ∷ []) q ≡ true
inside m text q h = managed_of ((m, text) ∷ []) q (m, text) (here (m, text) []) h

path_of : {e : Item} (d : Item) → d ≡ e → d.0 ≡ e.0
path_of d h = ap (λ (f : Item). f.0) h

one_managed : (m : Path) (text : List ℕ) (n : Managed) → Contains ((m, text) ∷ []) n → (m, text) ≡ n
one_managed m text n c = elim (in_cons (m, text) [] n c) [ inl e ↦ e | inr k ↦ absurd (none_in n k) ]

tails : (x y : List ℕ) (p q : Path) → x ∷ p ≡ y ∷ q → p ≡ q
tails x y p q e = cc

rooted : (m : Path) (text x y z : List ℕ) (w v : Planned) → IsRooted ((m, text) ∷ []) (five m text x y z w v)
rooted m text x y z w v = record { tops = tops; markers = markers; within = within; parents = parents } where
  top : Contains (five m text x y z w v) (m, Folder)
  top = (0, omega arith, refl)

  second : Contains (five m text x y z w v) (x ∷ m, Folder)
  second = (1, omega arith, refl)

  tops : (n : Managed) → Contains ((m, text) ∷ []) n → Contains (five m text x y z w v) (n.0, Folder)
  tops n c = subst (λ (o : Managed). Contains (five m text x y z w v) (o.0, Folder)) (one_managed m text n c) top

  markers : (n : Managed) → Contains ((m, text) ∷ []) n → Contains (five m text x y z w v) (marker_name ∷ n.0, Bytes n.1)
  markers n c = subst (λ (o : Managed). Contains (five m text x y z w v) (marker_name ∷ o.0, Bytes o.1)) (one_managed m text n c) (3, omega arith, refl)

  within : (e : Item) → Contains (five m text x y z w v) e → is_managed ((m, text) ∷ []) e.0 ≡ true
  within e c = elim (which m text x y z w v e c) [
    | inl a ↦ subst (λ q. is_managed ((m, text) ∷ []) q ≡ true) (path_of (m, Folder) a) (inside m text m (within_itself m))
    | inr (inl a) ↦ subst (λ q. is_managed ((m, text) ∷ []) q ≡ true) (path_of (x ∷ m, Folder) a) (inside m text (x ∷ m) (below m x))
    | inr (inr (inl a)) ↦ subst (λ q. is_managed ((m, text) ∷ []) q ≡ true) (path_of (y ∷ x ∷ m, w) a) (inside m text (y ∷ x ∷ m) (below_within m (y ∷ x ∷ m) (below m x)))
    | inr (inr (inr (inl a))) ↦ subst (λ q. is_managed ((m, text) ∷ []) q ≡ true) (path_of (marker_name ∷ m, Bytes text) a) (inside m text (marker_name ∷ m) (below m marker_name))
    | inr (inr (inr (inr a))) ↦ subst (λ q. is_managed ((m, text) ∷ []) q ≡ true) (path_of (z ∷ m, v) a) (inside m text (z ∷ m) (below m z))
  ]

  -- the parent of the folder isn't managed
  outside : (n : List ℕ) (p : Path) → m ≡ n ∷ p → is_managed ((m, text) ∷ []) p ≡ true → ⊥
  outside n p is h =
      let o = managed_in ((m, text) ∷ []) p h in
      let at : is_within m p ≡ true = subst (λ (k : Managed). is_within k.0 p ≡ true) (sym (one_managed m text o.0 o.1)) o.2 in
      elim (within_cases m p at) [
        | inl e ↦ absurd (omega (arith, ap length is, ap length e))
        | inr b ↦ absurd (omega (arith, ap length is, below_longer m p b))
      ]

  parents : (n : List ℕ) (p : Path) (u : Planned) → Contains (five m text x y z w v) (n ∷ p, u) → is_managed ((m, text) ∷ []) p ≡ true → Contains (five m text x y z w v) (p, Folder)
  parents n p u c h = elim (which m text x y z w v (n ∷ p, u) c) [
    | inl a ↦ absurd (outside n p (path_of (m, Folder) a) h)
    | inr (inl a) ↦ subst (λ q. Contains (five m text x y z w v) (q, Folder)) (tails x n m p (path_of (x ∷ m, Folder) a)) top
    | inr (inr (inl a)) ↦ subst (λ q. Contains (five m text x y z w v) (q, Folder)) (tails y n (x ∷ m) p (path_of (y ∷ x ∷ m, w) a)) second
    | inr (inr (inr (inl a))) ↦ subst (λ q. Contains (five m text x y z w v) (q, Folder)) (tails marker_name n m p (path_of (marker_name ∷ m, Bytes text) a)) top
    | inr (inr (inr (inr a))) ↦ subst (λ q. Contains (five m text x y z w v) (q, Folder)) (tails z n m p (path_of (z ∷ m, v) a)) top
  ]

same_five : (m top bin tool path file : Path) (text copy x y z : List ℕ) (w v : Planned) → top ≡ m → copy ≡ text → bin ≡ x ∷ m → tool ≡ y ∷ bin → path ≡ marker_name ∷ m → file ≡ z ∷ m
    → (top, Folder) ∷ (bin, Folder) ∷ (tool, w) ∷ (path, Bytes copy) ∷ (file, v) ∷ [] ≡ five m text x y z w v
same_five m top bin tool path file text copy x y z w v a b c d e f =
    let deep : tool ≡ y ∷ x ∷ m = d ∙ ap (λ q. y ∷ q) c in
    λ i. (a i, Folder) ∷ (c i, Folder) ∷ (deep i, w) ∷ (e i, Bytes (b i)) ∷ (f i, v) ∷ []

pub returns-in-Some : goal.returns-in-Some
returns-in-Some c =
    let m = c.args.folder.now in
    let text = c.args.marker.now in
    let l = c.in_ok-entries.ensures in
    record {
      rooted = subst (IsRooted ((m, text) ∷ [])) (sym (c.in-Some.ensures.0 ∙ l.2 ∙ same_five m _ _ _ _ _ text _ _ _ _ l.0 l.1 c.in_ok-top.ensures c.in_ok-text.ensures c.in_ok-bin.ensures.ok c.in_ok-tool.ensures.ok c.in_ok-path.ensures.ok c.in_ok-file.ensures.ok)) (rooted m text _ _ _ l.0 l.1);
    }
