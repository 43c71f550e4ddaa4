-- Lemmas on the folders that are marked down to a path, and on the path itself.
use Rattle.std.proofs.Common.{◌≡◌, ℕ, ◌⊎◌, inl, inr, List, [], ◌∷◌, ◌++◌, length, refl, sym, ap, ◌∙◌, subst, arith, true, false, Some, None}
use Rattle.std.specs.Prelude.{Option, IsTrue, IsSome, is_some, ◌&&◌, ◌||◌, if◌then◌else◌}
use Rattle.std.specs.List.{Contains}
use Rattle.std.specs.Map.{update}
use Rattle.std.specs.Str.{bytes_eq}
use Rattle.std.proofs.lemmas.Slice.Eq.{bytes_eq-Decides}
use Rattle.std.specs.Cmp.Derive.{both_true}
use Rattle.pn_text.specs.Path.{Path, same_path, is_path, text_below}
use Rattle.pn_text.proofs.Paths.{same_path-Decides, and_left, and_right, same_path_refl}
use Rattle.pn_text.proofs.Bools.{or_right}
use Rattle.pn_digest.specs.declared.planned.Planned.{Planned}
use Rattle.pn_digest.specs.declared.planned.Planned.TheVariants.{Folder}
use Rattle.pn_draft.specs.Drawing.{is_below, is_within, or_else, with_leaf, IsPart}
use Rattle.pn_draft.specs.Sheets.{Sheet, marked, IsWhole, with_folders, Climbs}
use Rattle.pn_draft.proofs.Marked.{marked_update, tail_path, strictly, within_cases}
use Rattle.pn_draft.proofs.TopLemmas.{within_length, within_below, below_within, with_one, with_any}

-- what is marked once the folders from v up to m are
abbrev pub with_way : Sheet → Path → Path → Path → Option Planned
with_way g m v q = or_else (marked g q) (if is_within q v && is_within m q then Some Folder else None)

pub within_self : (p : Path) → is_within p p ≡ true
within_self p = ap (λ b. b || is_below p p) (same_path_refl p)

or_some : (o : Option Planned) (w : Planned) → is_some (or_else o (Some w)) ≡ true
or_some None w = refl
or_some (Some v) w = refl

or_none : (o : Option Planned) → or_else o None ≡ o
or_none None = refl
or_none (Some v) = refl

or_first : (o other : Option Planned) → is_some o ≡ true → or_else o other ≡ o
or_first None other h = cc
or_first (Some v) other h = refl

-- from a marked path up to the folder all are marked
pub chain : (tops : List Path) (m : Path) (g : Sheet) (v q : Path) → IsWhole tops g → Contains tops m → IsSome (marked g v) → is_within q v ≡ true → is_within m q ≡ true → IsSome (marked g q)
chain tops m g [] q whole c some up down = elim (within_cases q [] up) [ inl e ↦ subst (λ p. IsSome (marked g p)) e some | inr b ↦ cc ]
chain tops m g (y ∷ v) q whole c some up down = elim (within_cases q (y ∷ v) up) [
  | inl e ↦ subst (λ p. IsSome (marked g p)) e some
  | inr b ↦ elim (whole.parents y v some) [
    | inl top ↦
        let one : m ≡ y ∷ v = whole.apart m (y ∷ v) c top (below_within m (y ∷ v) (within_below m q (y ∷ v) down b)) in
        absurd (omega (arith, within_length q v b, within_length m q down, ap length one))
    | inr above ↦ chain tops m g v q whole c above b down
  ]
]

-- what is marked stays marked
stays : (g : Sheet) (p : Path) (w : Planned) (q : Path) → IsTrue (is_path p) → IsSome (marked g q) → IsSome (marked (update bytes_eq g (text_below p) (Some w)) q)
stays g p w q good some = ap is_some (marked_update g p w q good) ∙ elim (same_path p q) as (λ b. is_some (if b then Some w else marked g q) ≡ true) [ true ↦ refl | false ↦ some ]

pub whole_update : (tops : List Path) (g : Sheet) (y : List ℕ) (v : Path) (w : Planned) → IsWhole tops g → IsTrue (is_path (y ∷ v)) → IsSome (marked g v) → IsWhole tops (update bytes_eq g (text_below (y ∷ v)) (Some w))
whole_update tops g y v w whole good above = record {
  apart = whole.apart;
  good = whole.good;
  root = λ m c. stays g (y ∷ v) w m good (whole.root m c);
  keys = λ text some. elim (bytes_eq (text_below (y ∷ v)) text) as (λ b. bytes_eq (text_below (y ∷ v)) text ≡ b → is_some (if b then Some w else g text) ≡ true → (q : Path) × IsTrue (is_path q) × (text ≡ text_below q)) [
    | true ↦ λ is some. (y ∷ v, good, sym ((bytes_eq-Decides (text_below (y ∷ v)) text).0 is))
    | false ↦ λ is some. whole.keys text some
  ] refl some;
  parents = λ z q some. elim (same_path (y ∷ v) (z ∷ q)) as (λ b. same_path (y ∷ v) (z ∷ q) ≡ b → is_some (if b then Some w else marked g (z ∷ q)) ≡ true → Contains tops (z ∷ q) ⊎ IsSome (marked (update bytes_eq g (text_below (y ∷ v)) (Some w)) q)) [
    | true ↦ λ is some. let one : v ≡ q = cc ((same_path-Decides (y ∷ v) (z ∷ q)).0 is) in inr (stays g (y ∷ v) w q good (subst (λ p. IsSome (marked g p)) one above))
    | false ↦ λ is some. elim (whole.parents z q some) [ inl top ↦ inl top | inr up ↦ inr (stays g (y ∷ v) w q good up) ]
  ] refl (ap is_some (sym (marked_update g (y ∷ v) w (z ∷ q) good)) ∙ some);
}

pub record IsRaised (tops : List Path) (m : Path) (g : Sheet) (v : Path) (h : Sheet) : Type 0 where
  pub whole : IsWhole tops h
  pub way : (q : Path) → marked h q ≡ with_way g m v q

-- the folder of the way is marked
pub above_marked : (tops : List Path) (m : Path) (g : Sheet) (v : Path) (h : Sheet) → is_within m v ≡ true → IsRaised tops m g v h → IsSome (marked h v)
above_marked tops m g v h down r =
    ap is_some (r.way v ∙ ap (λ b. or_else (marked g v) (if b then Some Folder else None)) (both_true (within_self v) down)) ∙ or_some (marked g v) Folder

way_base : (tops : List Path) (m : Path) (g : Sheet) (v : Path) → IsWhole tops g → Contains tops m → IsSome (marked g v) → (q : Path) → marked g q ≡ with_way g m v q
way_base tops m g v whole c some q = elim (is_within q v && is_within m q) as (λ b. (is_within q v && is_within m q) ≡ b → marked g q ≡ or_else (marked g q) (if b then Some Folder else None)) [
  | true ↦ λ on. sym (or_first (marked g q) (Some Folder) (chain tops m g v q whole c some (and_left (is_within q v) (is_within m q) on) (and_right (is_within q v) (is_within m q) on)))
  | false ↦ λ off. sym (or_none (marked g q))
] refl

way_step : (m : Path) (g h : Sheet) (y : List ℕ) (v : Path) → IsTrue (is_path (y ∷ v)) → marked g (y ∷ v) ≡ None → is_within m (y ∷ v) ≡ true → ((q : Path) → marked h q ≡ with_way g m v q)
    → (q : Path) → marked (update bytes_eq h (text_below (y ∷ v)) (Some Folder)) q ≡ with_way g m (y ∷ v) q
way_step m g h y v good none down way q = marked_update h (y ∷ v) Folder q good
    ∙ elim (same_path (y ∷ v) q) as (λ b. same_path (y ∷ v) q ≡ b → (if b then Some Folder else marked h q) ≡ with_way g m (y ∷ v) q) [
      | true ↦ λ is. subst (λ p. Some Folder ≡ with_way g m (y ∷ v) p) ((same_path-Decides (y ∷ v) q).0 is)
          (sym (ap (λ o. or_else o (if is_within (y ∷ v) (y ∷ v) && is_within m (y ∷ v) then Some Folder else None)) none ∙ ap (λ b. if b then Some Folder else None) (both_true (within_self (y ∷ v)) down)))
      | false ↦ λ other. way q ∙ ap (λ b. or_else (marked g q) (if (b || is_within q v) && is_within m q then Some Folder else None)) (sym other)
    ] refl

pub raised : (tops : List Path) (m : Path) (g : Sheet) (x : List ℕ) (v : Path) (fs : List (List ℕ)) → IsWhole tops g → Contains tops m → IsTrue (is_path v) → is_within m v ≡ true → Climbs g (x ∷ v) fs → IsRaised tops m g v (with_folders g fs)
raised tops m g x v [] whole c good down climbs = record { whole = whole; way = way_base tops m g v whole c climbs }
raised tops m g x [] (f ∷ fs) whole c good down climbs = absurd (climbs.2)
raised tops m g x (y ∷ v) (f ∷ fs) whole c good down climbs =
    let r = raised tops m g y v fs whole c (tail_path y v good) (strictly g m (y ∷ v) (whole.root m c) climbs.0 down) climbs.2 in
    let above = above_marked tops m g v (with_folders g fs) (strictly g m (y ∷ v) (whole.root m c) climbs.0 down) r in
    let text : text_below (y ∷ v) ≡ f = sym climbs.1 in
    subst (λ t. IsRaised tops m g (y ∷ v) (update bytes_eq (with_folders g fs) t (Some Folder))) text (record {
      whole = whole_update tops (with_folders g fs) y v Folder r.whole good above;
      way = way_step m g (with_folders g fs) y v good climbs.0 down r.way;
    })

-- the folders that were marked before a refusal
pub record IsPartWay (tops : List Path) (m : Path) (g : Sheet) (v : Path) (h : Sheet) : Type 0 where
  pub at : Path
  pub on : (q : Path) → is_within q at ≡ true → is_within q v ≡ true
  pub raised : IsRaised tops m g at h

pub part_raised : (tops : List Path) (m : Path) (g : Sheet) (x : List ℕ) (v : Path) (before after : List (List ℕ)) → IsWhole tops g → Contains tops m → IsTrue (is_path v) → is_within m v ≡ true → Climbs g (x ∷ v) (before ++ after) → IsPartWay tops m g v (with_folders g after)
part_raised tops m g x v [] after whole c good down climbs = record { at = v; on = λ q h. h; raised = raised tops m g x v after whole c good down climbs }
part_raised tops m g x [] (b ∷ before) after whole c good down climbs = absurd (climbs.2)
part_raised tops m g x (y ∷ v) (b ∷ before) after whole c good down climbs =
    let p = part_raised tops m g y v before after whole c (tail_path y v good) (strictly g m (y ∷ v) (whole.root m c) climbs.0 down) climbs.2 in
    record { at = p.at; on = λ q h. or_right (same_path (y ∷ v) q) (is_within q v) (p.on q h); raised = p.raised }

-- so far each path is as before or as it will be
part_at : (m : Path) (g : Sheet) (x : List ℕ) (v at : Path) (w : Planned) (q : Path) → ((q : Path) → is_within q at ≡ true → is_within q v ≡ true)
    → (with_way g m at q ≡ marked g q) ⊎ (with_way g m at q ≡ with_one m (marked g) (x ∷ v) w q)
part_at m g x v at w q on = elim (is_within q at && is_within m q) as (λ b. (is_within q at && is_within m q) ≡ b
    → (or_else (marked g q) (if b then Some Folder else None) ≡ marked g q) ⊎ (or_else (marked g q) (if b then Some Folder else None) ≡ with_one m (marked g) (x ∷ v) w q)) [
      | true ↦ λ is.
          let up = on q (and_left (is_within q at) (is_within m q) is) in
          let down = and_right (is_within q at) (is_within m q) is in
          inr (elim (same_path (x ∷ v) q) as (λ b. same_path (x ∷ v) q ≡ b → or_else (marked g q) (Some Folder) ≡ (if b then Some w else or_else (marked g q) (if is_within q v && is_within m q then Some Folder else None))) [
            | true ↦ λ same. absurd (omega (arith, within_length q v up, ap length ((same_path-Decides (x ∷ v) q).0 same)))
            | false ↦ λ other. ap (λ b. or_else (marked g q) (if b then Some Folder else None)) (sym (both_true up down))
          ] refl)
      | false ↦ λ off. inl (or_none (marked g q))
    ] refl

pub part_drawn : (tops : List Path) (m : Path) (g h : Sheet) (x : List ℕ) (v : Path) (w : Planned) → IsWhole tops g → Contains tops m → is_within m v ≡ true → IsPartWay tops m g v h → IsPart (marked g) (with_leaf tops (marked g) (x ∷ v) w) (marked h)
part_drawn tops m g h x v w whole c down p q = elim (part_at m g x v p.at w q p.on) [
  | inl e ↦ inl (p.raised.way q ∙ e)
  | inr e ↦ inr (p.raised.way q ∙ e ∙ with_any tops m (marked g) (x ∷ v) w q whole.apart c down)
]

-- the path itself is marked last
pub leaf_drawn : (tops : List Path) (m : Path) (g h : Sheet) (x : List ℕ) (v : Path) (w : Planned) → Contains tops m → IsTrue (is_path (x ∷ v)) → is_within m v ≡ true → IsRaised tops m g v h
    → IsWhole tops (update bytes_eq h (text_below (x ∷ v)) (Some w)) × ((q : Path) → marked (update bytes_eq h (text_below (x ∷ v)) (Some w)) q ≡ with_leaf tops (marked g) (x ∷ v) w q)
leaf_drawn tops m g h x v w c good down r = (
  whole_update tops h x v w r.whole good (above_marked tops m g v h down r),
  λ q. marked_update h (x ∷ v) w q good ∙ ap (λ o. if same_path (x ∷ v) q then Some w else o) (r.way q) ∙ with_any tops m (marked g) (x ∷ v) w q r.whole.apart c down,
)
