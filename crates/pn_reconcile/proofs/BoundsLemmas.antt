-- Lemmas on how many bytes are read of a tree that comes to have a plan.
use Rattle.std.proofs.Common.{◌≡◌, ℕ, ◌≤◌, ◌+◌, ◌==◌, List, [], ◌∷◌, ◌++◌, length, take, drop, refl, sym, ap, ◌∙◌, subst, arith, true, false, Some, None, inl, inr}
use Rattle.std.specs.Prelude.{suc, IfSome, ◌⊎◌, if◌then◌else◌}
use Rattle.std.specs.Option.{ForSome, option_map}
use Rattle.std.specs.List.{Contains}
use Rattle.std.specs.Cmp.Lexicographic.{slice_cmp}
use Rattle.std.specs.Ordering.{nat_cmp}
use Rattle.std.specs.declared.cmp.Ordering.TheVariants.{Less}
use Rattle.std.proofs.lemmas.Bool.{eqb-true}
use Rattle.std.proofs.lemmas.List.Sums.{sum_by-append, sum_by-cons, sum_by_push, sum_by-take-le}
use Rattle.pn_text.specs.Path.{Path, path_text}
use Rattle.pn_text.proofs.Members.{here, there}
use Rattle.pn_text.proofs.Orders.{not_before_self}
use Rattle.pn_text.proofs.Results.{for_some, if_some, same_some}
use Rattle.pn_fs.specs.declared.kind.Kind.{Kind}
use Rattle.pn_fs.specs.declared.kind.Kind.TheVariants as kind
use Rattle.pn_fs.specs.Calls.{kind_of}
use Rattle.pn_fs.specs.Seen.{Seen, GaveNothing, GaveAtMost}
use Rattle.pn_fs.specs.Tree.{folder, Tree}
use Rattle.pn_digest.specs.declared.planned.Planned.{Planned}
use Rattle.pn_digest.specs.declared.planned.Planned.TheVariants.{Folder, Bytes, Stored, Link}
use Rattle.pn_scan.specs.Managed.{Managed, marker_name}
use Rattle.pn_repair.specs.Repairs.{DiffersAt, most_read}
use Rattle.pn_scan.specs.Scans.{Found}
use Rattle.pn_clear.specs.Items.{Item, Rises, is_gone, without}
use Rattle.pn_clear.proofs.RisesLemmas.{before_later}
use Rattle.pn_reconcile.specs.Bounds.{most_planned, most_marked, IsWithin}
use Rattle.pn_reconcile.specs.Phases.{IsDown, IsHalfDown}
use Rattle.pn_reconcile.specs.Plans.{Made, HalfMade}
use Rattle.pn_reconcile.proofs.KeepsLemmas.{IsTold}
use Rattle.pn_reconcile.proofs.MadeLemmas.{made_at}
use Rattle.pn_reconcile.proofs.PlannedLemmas.{apart, cut_at, other_path}

-- what is read of one planned entry
abbrev pub of_item : Item → Tree → ℕ
of_item e t = most_read e.1 (kind_of (t e.0))

-- nothing is read where nothing stands, or a folder
none_absent : (w : Planned) → most_read w kind.Absent ≡ 0
none_absent Folder = refl
none_absent (Bytes text) = refl
none_absent (Stored d) = refl
none_absent (Link text) = refl

none_folder : (w : Planned) → most_read w kind.Folder ≡ 0
none_folder Folder = refl
none_folder (Bytes text) = refl
none_folder (Stored d) = refl
none_folder (Link text) = refl

-- at each path stands what stood there, or nothing, or a folder
abbrev pub IsBarer : Tree → Tree → Type 0
IsBarer t u = (q : Path) → (u q ≡ t q) ⊎ ((u q ≡ None) ⊎ (u q ≡ Some folder))

less_item : (e : Item) (t u : Tree) → IsBarer t u → of_item e u ≤ of_item e t
less_item e t u h = elim (h e.0) [
  | inl same ↦ omega (arith, ap (λ o. most_read e.1 (kind_of o)) same)
  | inr bare ↦ elim bare [
    | inl none ↦ omega (arith, ap (λ o. most_read e.1 (kind_of o)) none ∙ none_absent e.1)
    | inr made ↦ omega (arith, ap (λ o. most_read e.1 (kind_of o)) made ∙ none_folder e.1)
  ]
]

pub less_planned : (plan : List Item) (t u : Tree) → IsBarer t u → most_planned plan u ≤ most_planned plan t
less_planned [] t u h = omega arith
less_planned (e ∷ plan) t u h =
    omega (arith, sum_by-cons (λ (f : Item). of_item f u) e plan, sum_by-cons (λ (f : Item). of_item f t) e plan, less_item e t u h, less_planned plan t u h)

same_planned : (plan : List Item) (t u : Tree) → ((f : Item) → Contains plan f → u f.0 ≡ t f.0) → most_planned plan u ≡ most_planned plan t
same_planned [] t u h = refl
same_planned (e ∷ plan) t u h =
    omega (arith, sum_by-cons (λ (f : Item). of_item f u) e plan, sum_by-cons (λ (f : Item). of_item f t) e plan, ap (λ o. most_read e.1 (kind_of o)) (h e (here e plan)), same_planned plan t u (λ f inside. h f (there e plan f inside)))

-- another entry at one planned path
module _ (done rest : List Item) (e : Item) (order : Rises (done ++ e ∷ rest)) (v u : Tree) (d : DiffersAt e.0 v u) where
  before : (f : Item) → Contains done f → u f.0 ≡ v f.0
  before f inside = d.others f.0 (other_path e.0 f.0 (λ same. apart done rest e f e order inside (here e rest) (sym same)))

  behind : (f : Item) → Contains rest f → u f.0 ≡ v f.0
  behind f inside = d.others f.0 (other_path e.0 f.0 (λ same.
      not_before_self (path_text e.0) (subst (λ p. slice_cmp nat_cmp (path_text e.0) (path_text p) ≡ Less) (sym same) (before_later done e rest f order inside))))

  cut : (t : Tree) → most_planned (done ++ e ∷ rest) t ≡ most_planned done t + (of_item e t + most_planned rest t)
  cut t = sum_by-append (λ (f : Item). of_item f t) done (e ∷ rest) ∙ ap (λ n. most_planned done t + n) (sum_by-cons (λ (f : Item). of_item f t) e rest)

  put_cut : most_planned (done ++ e ∷ rest) u + of_item e v ≡ most_planned (done ++ e ∷ rest) v + of_item e u
  put_cut = omega (arith, cut u, cut v, same_planned done v u before, same_planned rest v u behind)

pub put_planned : (plan : List Item) (e : Item) (v u : Tree) → Rises plan → Contains plan e → DiffersAt e.0 v u → most_planned plan u + of_item e v ≡ most_planned plan v + of_item e u
put_planned plan e v u order inside d =
    let i = inside.0 in
    let same = cut_at plan i e inside.1 (sym inside.2) in
    subst (λ (l : List Item). most_planned l u + of_item e v ≡ most_planned l v + of_item e u) (sym same)
    (put_cut (take i plan) (drop (suc i) plan) e (subst (λ (l : List Item). Rises l) same order) v u d)

-- of a text at most its bytes are read
text_most : (text : List ℕ) (k : Kind) → most_read (Bytes text) k ≤ length text
text_most text kind.Absent = omega arith
text_most text kind.Folder = omega arith
text_most text (kind.File n) = elim (n == length text) as (λ b. n == length text ≡ b → (if b then n else 0) ≤ length text) [
  | true ↦ λ is. omega (arith, eqb-true n (length text) is)
  | false ↦ λ is. omega arith
] refl
text_most text kind.Link = omega arith

-- what is within a bound
pub within_none : (plan : List Item) (t : Tree) (a : Seen) → IsWithin plan 0 t t a a
within_none plan t a = record { bytes = omega arith; names = omega arith }

pub within_both : (plan : List Item) (n k : ℕ) (t v u : Tree) (a b c : Seen) → IsWithin plan n t v a b → IsWithin plan k v u b c → IsWithin plan (n + k) t u a c
within_both plan n k t v u a b c h i = record { bytes = omega (arith, h.bytes, i.bytes); names = omega (arith, h.names, i.names) }

pub within_more : (plan : List Item) (n k : ℕ) (t u : Tree) (a b : Seen) → n ≤ k → IsWithin plan n t u a b → IsWithin plan k t u a b
within_more plan n k t u a b l h = record { bytes = omega (arith, h.bytes, l); names = h.names }

-- folders that are made
pub within_barer : (plan : List Item) (n : ℕ) (t u : Tree) (a b : Seen) → IsBarer t u → GaveNothing a b → IsWithin plan n t u a b
within_barer plan n t u a b h g = record { bytes = omega (arith, g.bytes, less_planned plan t u h); names = omega (arith, g.names) }

-- a marker that is repaired
pub within_marker : (plan : List Item) (m : Managed) (v u : Tree) (a b : Seen) → Rises plan → Contains plan (marker_name ∷ m.0, Bytes m.1) → DiffersAt (marker_name ∷ m.0) v u → GaveAtMost a (of_item (marker_name ∷ m.0, Bytes m.1) v) 0 b → IsWithin plan (length m.1) v u a b
within_marker plan m v u a b order planned d g =
    let e : Item = (marker_name ∷ m.0, Bytes m.1) in
    record { bytes = omega (arith, g.bytes, put_planned plan e v u order planned d, text_most m.1 (kind_of (u (marker_name ∷ m.0)))); names = omega (arith, g.names) }

-- the same where folders were made
barer_down : (p : Path) (t u : Tree) → IsDown p t u → IsBarer t u
barer_down p t u h q = elim (h.others q) [ inl same ↦ inl same | inr new ↦ inr (inr (h.folders q new.0)) ]

barer_half : (p : Path) (t u : Tree) → IsHalfDown p t u → IsBarer t u
barer_half p t u h q = elim (h.others q) [
  | inl same ↦ inl same
  | inr new ↦ elim (u q) as (λ o. u q ≡ o → (u q ≡ t q) ⊎ ((u q ≡ None) ⊎ (u q ≡ Some folder))) [
    | None ↦ λ is. inr (inl is)
    | Some e ↦ λ is. inr (inr (is ∙ ap Some (h.folders q e new.0 is)))
  ] refl
]

-- what was within a bound where the trees may be untold
abbrev pub AreWithin : List Item → ℕ → Seen → Seen → Type 0
AreWithin plan n a b = IfSome a.tree (λ t. ForSome b.tree (λ u. IsWithin plan n t u a b))

within_at : (plan : List Item) (n : ℕ) (a b : Seen) (t u : Tree) → AreWithin plan n a b → a.tree ≡ Some t → b.tree ≡ Some u → IsWithin plan n t u a b
within_at plan n a b t u h told = for_some (λ t. ForSome b.tree (λ u. IsWithin plan n t u a b)) a.tree h t told u

pub within_still : (plan : List Item) (a : Seen) → AreWithin plan 0 a a
within_still plan a = if_some (λ t. ForSome a.tree (λ u. IsWithin plan 0 t u a a)) a.tree (λ t told u now.
    subst (λ v. IsWithin plan 0 t v a a) (same_some t u (sym told ∙ now)) (within_none plan t a))

-- stopped while a folder is made
pub within_stopped : (plan : List Item) (n : ℕ) (p : Path) (a b : Seen) → HalfMade (IsHalfDown p) a.tree b.tree → IfSome a.tree (λ t. GaveNothing a b) → AreWithin plan n a b
within_stopped plan n p a b h g = if_some (λ t. ForSome b.tree (λ u. IsWithin plan n t u a b)) a.tree (λ t told u now.
    let m = h t told in
    subst (λ v. IsWithin plan n t v a b) (same_some m.0 u (sym m.1 ∙ now)) (within_barer plan n t m.0 a b (barer_half p t m.0 m.2) (for_some (λ t. GaveNothing a b) a.tree g t told)))

-- a folder and its marker
pub within_one : (plan : List Item) (m : Managed) (a b c : Seen) → Rises plan → Contains plan (marker_name ∷ m.0, Bytes m.1) → Made (IsDown m.0) a.tree b.tree → IfSome a.tree (λ t. GaveNothing a b)
    → ForSome b.tree (λ v. ForSome c.tree (DiffersAt (marker_name ∷ m.0) v)) → IfSome b.tree (λ v. GaveAtMost b (of_item (marker_name ∷ m.0, Bytes m.1) v) 0 c) → AreWithin plan (length m.1) a c
within_one plan m a b c order planned made g d k = if_some (λ t. ForSome c.tree (λ u. IsWithin plan (length m.1) t u a c)) a.tree (λ t told u now.
    let v = made_at (IsDown m.0) a.tree b.tree t made told in
    within_more plan (0 + length m.1) (length m.1) t u a c (omega arith)
    (within_both plan 0 (length m.1) t v.0 u a b c (within_barer plan 0 t v.0 a b (barer_down m.0 t v.0 v.2) (for_some (λ t. GaveNothing a b) a.tree g t told))
    (within_marker plan m v.0 u b c order planned (d v.0 v.1 u now) (for_some (λ v. GaveAtMost b (of_item (marker_name ∷ m.0, Bytes m.1) v) 0 c) b.tree k v.0 v.1))))

-- one more folder
pub within_next : (plan : List Item) (done : List Managed) (m : Managed) (a b c : Seen) → IsTold a.tree b.tree → AreWithin plan (most_marked done) a b → AreWithin plan (length m.1) b c → AreWithin plan (most_marked (done ++ m ∷ [])) a c
within_next plan done m a b c mid h k = if_some (λ t. ForSome c.tree (λ u. IsWithin plan (most_marked (done ++ m ∷ [])) t u a c)) a.tree (λ t told u now.
    let v = mid t told in
    within_more plan (most_marked done + length m.1) (most_marked (done ++ m ∷ [])) t u a c (omega (arith, sum_by_push (λ (n : Managed). length n.1) done m))
    (within_both plan (most_marked done) (length m.1) t v.0 u a b c (within_at plan (most_marked done) a b t v.0 h told v.1) (within_at plan (length m.1) b c v.0 u k v.1 now)))

pub within_front : (plan : List Item) (managed : List Managed) (i : ℕ) (a b : Seen) → AreWithin plan (most_marked (take i managed)) a b → AreWithin plan (most_marked managed) a b
within_front plan managed i a b h = if_some (λ t. ForSome b.tree (λ u. IsWithin plan (most_marked managed) t u a b)) a.tree (λ t told u now.
    within_more plan (most_marked (take i managed)) (most_marked managed) t u a b (sum_by-take-le (λ (n : Managed). length n.1) managed i) (within_at plan (most_marked (take i managed)) a b t u h told now))

-- what was given at most
pub gave_front : (plan : List Item) (i : ℕ) (a b : Seen) → ForSome a.tree (λ t. GaveAtMost a (most_planned (take i plan) t) 0 b) → IfSome a.tree (λ t. GaveAtMost a (most_planned plan t) 0 b)
gave_front plan i a b h = if_some (λ t. GaveAtMost a (most_planned plan t) 0 b) a.tree (λ t told.
    let g = h t told in
    record { bytes = omega (arith, g.bytes, sum_by-take-le (λ (f : Item). of_item f t) plan i); names = g.names })

pub gave_within : (plan : List Item) (n : ℕ) (a b : Seen) → IsTold a.tree b.tree → AreWithin plan n a b → IfSome a.tree (λ t. GaveAtMost a (most_planned plan t + n) 0 b)
gave_within plan n a b mid h = if_some (λ t. GaveAtMost a (most_planned plan t + n) 0 b) a.tree (λ t told.
    let u = mid t told in
    let g = within_at plan n a b t u.0 h told u.1 in
    record { bytes = omega (arith, g.bytes); names = omega (arith, g.names) })

pub gave_cleared : (plan : List Item) (n : ℕ) (a b c : Seen) → IsTold a.tree b.tree → AreWithin plan n a b → IfSome b.tree (λ u. GaveNothing b c) → IfSome a.tree (λ t. GaveAtMost a (most_planned plan t + n) 0 c)
gave_cleared plan n a b c mid h k = if_some (λ t. GaveAtMost a (most_planned plan t + n) 0 c) a.tree (λ t told.
    let u = mid t told in
    let g = within_at plan n a b t u.0 h told u.1 in
    let s = for_some (λ u. GaveNothing b c) b.tree k u.0 u.1 in
    record { bytes = omega (arith, g.bytes, s.bytes); names = omega (arith, g.names, s.names) })

-- entries were taken away, and what is planned was repaired
pub gave_filled : (plan : List Item) (entries : List Found) (n : ℕ) (a b c d : Seen) → IsTold a.tree b.tree → AreWithin plan n a b → IfSome b.tree (λ u. GaveNothing b c) → c.tree ≡ option_map (without plan entries) b.tree
    → IfSome c.tree (λ v. GaveAtMost c (most_planned plan v) 0 d) → IfSome a.tree (λ t. GaveAtMost a (most_planned plan t + n) 0 d)
gave_filled plan entries n a b c d mid h k is filled = if_some (λ t. GaveAtMost a (most_planned plan t + n) 0 d) a.tree (λ t told.
    let u = mid t told in
    let v = without plan entries u.0 in
    let g = within_at plan n a b t u.0 h told u.1 in
    let s = for_some (λ u. GaveNothing b c) b.tree k u.0 u.1 in
    let f = for_some (λ v. GaveAtMost c (most_planned plan v) 0 d) c.tree filled v (is ∙ ap (option_map (without plan entries)) u.1) in
    record { bytes = omega (arith, g.bytes, s.bytes, f.bytes, less_planned plan u.0 v (barer_without u.0)); names = omega (arith, g.names, s.names, f.names) })
  where
    barer_without : (u : Tree) → IsBarer u (without plan entries u)
    barer_without u q = elim (is_gone plan entries q) as (λ g. is_gone plan entries q ≡ g → ((if g then None else u q) ≡ u q) ⊎ (((if g then None else u q) ≡ None) ⊎ ((if g then None else u q) ≡ Some folder))) [
      | true ↦ λ gone. inr (inl refl)
      | false ↦ λ stays. inl refl
    ] refl
