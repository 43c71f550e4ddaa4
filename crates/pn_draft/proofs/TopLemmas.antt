-- Lemmas on folders none of which is below another one.
use Rattle.std.proofs.Common.{◌≡◌, ℕ, ◌≤◌, length, arith, ◌⊎◌, inl, inr, List, [], ◌∷◌, refl, sym, ap, ◌∙◌, subst, Bool, true, false, Some, None}
use Rattle.std.specs.Prelude.{◌≢◌, Option, ◌&&◌, ◌||◌, if◌then◌else◌}
use Rattle.std.specs.List.{Contains, list_any}
use Rattle.pn_text.specs.Path.{Path, same_path}
use Rattle.pn_text.proofs.Paths.{same_path-Decides, same_path_refl}
use Rattle.pn_text.proofs.Bools.{or_right, or_cases}
use Rattle.pn_text.proofs.Members.{here, there, in_cons, in_one, none_in}
use Rattle.pn_digest.specs.declared.planned.Planned.{Planned}
use Rattle.pn_digest.specs.declared.planned.Planned.TheVariants.{Folder}
use Rattle.pn_draft.specs.Drawing.{is_below, is_within, is_top, is_inside, AreApart, or_else, with_leaf}
use Rattle.pn_draft.proofs.Marked.{within_cases}

-- a path is at least as long as one that it is within
pub within_length : (a p : Path) → is_within a p ≡ true → length a ≤ length p
within_length a [] h = elim (within_cases a [] h) [ inl e ↦ omega (arith, ap length e) | inr b ↦ cc ]
within_length a (x ∷ p) h = elim (within_cases a (x ∷ p) h) [ inl e ↦ omega (arith, ap length e) | inr b ↦ omega (arith, within_length a p b) ]

-- a test that an element passes
pub any_of : {X : Type 0} (p : X → Bool) (xs : List X) (x : X) → Contains xs x → p x ≡ true → list_any p xs ≡ true
any_of p [] x c h = absurd (none_in x c)
any_of p (y ∷ ys) x c h = elim (in_cons y ys x c) [
  | inl e ↦ ap (λ b. b || list_any p ys) (ap p e ∙ h)
  | inr more ↦ or_right (p y) (list_any p ys) (any_of p ys x more h)
]

-- an element that passes the test
pub one_of : {X : Type 0} (p : X → Bool) (xs : List X) → list_any p xs ≡ true → (x : X) × Contains xs x × (p x ≡ true)
one_of p [] h = cc
one_of p (y ∷ ys) h = elim (or_cases (p y) (list_any p ys) h) [
  | inl e ↦ (y, here y ys, e)
  | inr more ↦ let r = one_of p ys more in (r.0, there y ys r.0 r.1, r.2)
]

pub within_below : (m q p : Path) → is_within m q ≡ true → is_below q p ≡ true → is_below m p ≡ true
within_below m q [] i b = cc
within_below m q (x ∷ p) i b = elim (within_cases q p b) [
  | inl e ↦ subst (λ r. is_within m r ≡ true) (sym e) i
  | inr d ↦ or_right (same_path p m) (is_below m p) (within_below m q p i d)
]

pub below_within : (m p : Path) → is_below m p ≡ true → is_within m p ≡ true
below_within m p h = or_right (same_path p m) (is_below m p) h

-- of two paths above a third one, one is above the other, or they are one
either_way : (m q p : Path) → is_below q p ≡ true → is_below m p ≡ true → (is_within m q ≡ true) ⊎ (is_below q m ≡ true)
either_way m q [] a b = cc
either_way m q (x ∷ p) a b = elim (within_cases q p a) [
  | inl e ↦ inl (subst (λ r. is_within m r ≡ true) e b)
  | inr d ↦ elim (within_cases m p b) [
    | inl e ↦ inr (subst (λ r. is_below q r ≡ true) e d)
    | inr f ↦ either_way m q p d f
  ]
]

-- what is above a path below one of the folders is inside that one or no folder
pub one_top : (tops : List Path) (m q p : Path) → AreApart tops → Contains tops m → is_below m p ≡ true → is_below q p ≡ true → is_within m q ≡ is_inside tops q
one_top tops m q p apart c below above = elim (is_within m q) as (λ b. is_within m q ≡ b → b ≡ is_inside tops q) [
  | true ↦ λ is. sym (any_of (λ k. is_within k q) tops m c is)
  | false ↦ λ off. elim (is_inside tops q) as (λ b. is_inside tops q ≡ b → false ≡ b) [
    | false ↦ λ none. refl
    | true ↦ λ some.
        let k = one_of (λ k. is_within k q) tops some in
        elim (either_way m q p above below) [
          | inl i ↦ let clash : true ≡ false = sym i ∙ off in cc
          | inr b ↦
              let one : k.0 ≡ m = apart k.0 m k.1 c (below_within k.0 m (within_below k.0 q m k.2 b)) in
              let clash : true ≡ false = sym (subst (λ r. is_within r q ≡ true) one k.2) ∙ off in cc
        ]
  ] refl
] refl

-- a drawing with one more path below the folder m
abbrev pub with_one : Path → (Path → Option Planned) → Path → Planned → Path → Option Planned
with_one m d p w q = if same_path p q then Some w else or_else (d q) (if is_below q p && is_within m q then Some Folder else None)

pub with_any : (tops : List Path) (m : Path) (d : Path → Option Planned) (p : Path) (w : Planned) (q : Path) → AreApart tops → Contains tops m → is_below m p ≡ true → with_one m d p w q ≡ with_leaf tops d p w q
with_any tops m d p w q apart c below = ap (λ b. if same_path p q then Some w else or_else (d q) (if b then Some Folder else None)) both where
  both : (is_below q p && is_within m q) ≡ (is_below q p && is_inside tops q)
  both = elim (is_below q p) as (λ b. is_below q p ≡ b → (b && is_within m q) ≡ (b && is_inside tops q)) [
    | true ↦ λ above. one_top tops m q p apart c below above
    | false ↦ λ other. refl
  ] refl

-- two entries of one folder are apart
pub siblings_apart : (x y : List ℕ) (p : Path) → x ≢ y → AreApart ((x ∷ p) ∷ (y ∷ p) ∷ [])
siblings_apart x y p differ a b ca cb within = elim (in_cons (x ∷ p) ((y ∷ p) ∷ []) a ca) [
  | inl ea ↦ elim (in_cons (x ∷ p) ((y ∷ p) ∷ []) b cb) [
    | inl eb ↦ sym ea ∙ eb
    | inr mb ↦ let eb = in_one (y ∷ p) b mb in absurd (differ (parted x y p (subst (λ r. is_within r (y ∷ p) ≡ true) (sym ea) (subst (λ r. is_within a r ≡ true) (sym eb) within))))
  ]
  | inr ma ↦ elim (in_cons (x ∷ p) ((y ∷ p) ∷ []) b cb) [
    | inl eb ↦ let ea = in_one (y ∷ p) a ma in absurd (differ (sym (parted y x p (subst (λ r. is_within r (x ∷ p) ≡ true) (sym ea) (subst (λ r. is_within a r ≡ true) (sym eb) within)))))
    | inr mb ↦ sym (in_one (y ∷ p) a ma) ∙ in_one (y ∷ p) b mb
  ]
] where
  parted : (u v : List ℕ) (q : Path) → is_within (u ∷ q) (v ∷ q) ≡ true → u ≡ v
  parted u v q h = elim (within_cases (u ∷ q) (v ∷ q) h) [
    | inl e ↦ let one : v ≡ u = cc in sym one
    | inr d ↦ absurd (omega (arith, within_length (u ∷ q) q d))
  ]

-- one of the folders is inside
pub top_inside : (tops : List Path) (q : Path) → is_top tops q ≡ true → is_inside tops q ≡ true
top_inside tops q h =
    let k = one_of (λ m. same_path m q) tops h in
    any_of (λ m. is_within m q) tops k.0 k.1 (ap (λ b. b || is_below k.0 q) (ap (same_path q) ((same_path-Decides k.0 q).0 k.2) ∙ same_path_refl q))

pub member_inside : (tops : List Path) (q : Path) → Contains tops q → is_inside tops q ≡ true
member_inside tops q c = top_inside tops q (any_of (λ m. same_path m q) tops q c (same_path_refl q))
