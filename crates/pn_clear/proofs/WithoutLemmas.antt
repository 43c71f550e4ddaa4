-- Lemmas on entries that are taken away.
use Rattle.std.proofs.Common.{◌≡◌, ℕ, ◌+◌, ◌<◌, List, [], ◌∷◌, ◌++◌, length, take, drop, get_or, refl, sym, ap, ◌∙◌, subst, arith, Bool, true, false, Some, None, inl, inr, append_assoc}
use Rattle.std.specs.Prelude.{Option, IfSome, ◌||◌, ◌&&◌, if◌then◌else◌}
use Rattle.std.specs.Option.{ForSome, option_map}
use Rattle.std.specs.List.{Contains}
use Rattle.std.specs.Cmp.Lexicographic.{slice_cmp}
use Rattle.std.specs.Ordering.{nat_cmp}
use Rattle.std.specs.declared.cmp.Ordering.TheVariants.{Less, Greater}
use Rattle.std.proofs.lemmas.List.{drop_more, take-append-drop, drop_all, append-nil}
use Rattle.std.proofs.lemmas.List.Folds.{list_any-append}
use Rattle.std.proofs.lemmas.List.Elements.{Contains-append_cases}
use Rattle.pn_text.specs.Path.{Path, same_path, path_text, text_below}
use Rattle.pn_text.proofs.Paths.{same_path-Decides, same_path_refl, deeper}
use Rattle.pn_text.proofs.Bools.{and_left, and_right, neither, or_cases, or_right, both_false}
use Rattle.pn_text.proofs.Members.{in_cons, there, here}
use Rattle.pn_text.proofs.Orders.{not_before_self}
use Rattle.pn_text.proofs.Results.{for_some, if_some}
use Rattle.pn_fs.specs.Tree.{Entry, folder, file, link, Tree, CanRemove}
use Rattle.pn_fs.specs.Seen.{Seen}
use Rattle.pn_fs.specs.Made.{DiffersOnly}
use Rattle.pn_scan.specs.Scans.{Found}
use Rattle.pn_clear.specs.Items.{Item, Rises, is_doomed, is_gone, without}
use Rattle.pn_clear.specs.Clearing.{CanClear, Touched}
use Rattle.pn_fs.proofs.Listings.{cmp_behind}
use Rattle.pn_clear.proofs.RisesLemmas.{before_later, earlier}

-- nothing is gone yet
pub starts : (plan : List Item) (old : Option Tree) (es : List Found) → es ≡ [] → old ≡ option_map (without plan es) old
starts plan None es e = refl
starts plan (Some t) es e = ap (λ l. Some (without plan l t)) (sym e)

pub none_left : (plan : List Item) (old : Option Tree) (es : List Found) → old ≡ option_map (without plan (drop (length es) es)) old
none_left plan old es = starts plan old (drop (length es) es) (drop_all (length es) es (omega arith))

-- one more is gone
gone_more : (plan : List Item) (t : Tree) (e : Found) (es : List Found) → without plan (e ∷ []) (without plan es t) ≡ without plan (e ∷ es) t
gone_more plan t e es = λ i q. cases (same_path e.0 q && is_doomed plan e) (is_gone plan es q) (t q) i
  where
    cases : (a b : Bool) (o : Option Entry) → (if (a || false) then None else if b then None else o) ≡ (if (a || b) then None else o)
    cases true b o = refl
    cases false b o = refl

told_more : (plan : List Item) (e : Found) (es : List Found) (old : Option Tree) → option_map (without plan (e ∷ [])) (option_map (without plan es) old) ≡ option_map (without plan (e ∷ es)) old
told_more plan e es None = refl
told_more plan e es (Some t) = ap Some (gone_more plan t e es)

split_here : (es : List Found) (i left : ℕ) (e : Found) → left ≡ i + 1 → i < length es → e ≡ get_or es i e → drop i es ≡ e ∷ drop left es
split_here es i left e at h is = drop_more es i e h ∙ ap (λ x. x ∷ drop (i + 1) es) (sym is) ∙ ap (λ n. e ∷ drop n es) (sym at)

pub goes_on : (plan : List Item) (old now new : Option Tree) (es : List Found) (i left : ℕ) (e : Found) → left ≡ i + 1 → i < length es → e ≡ get_or es i e → now ≡ option_map (without plan (drop left es)) old
    → new ≡ option_map (without plan (e ∷ [])) now → new ≡ option_map (without plan (drop i es)) old
goes_on plan old now new es i left e at h is told gone =
    gone ∙ ap (λ s. option_map (without plan (e ∷ [])) s) told ∙ told_more plan e (drop left es) old ∙ ap (λ l. option_map (without plan l) old) (sym (split_here es i left e at h is))

pub all_gone : (plan : List Item) (old now : Option Tree) (es : List Found) (left : ℕ) → left ≡ 0 → now ≡ option_map (without plan (drop left es)) old → now ≡ option_map (without plan es) old
all_gone plan old now es left e told = told ∙ ap (λ n. option_map (without plan (drop n es)) old) e

-- an entry that is gone is one of those that are to go
pub gone_is : (plan : List Item) (es : List Found) (q : Path) → is_gone plan es q ≡ true → (e : Found) × Contains es e × (e.0 ≡ q) × (is_doomed plan e ≡ true)
gone_is plan [] q h = cc
gone_is plan (e ∷ es) q h = elim (or_cases (same_path e.0 q && is_doomed plan e) (is_gone plan es q) h) [
  | inl one ↦ (e, here e es, (same_path-Decides e.0 q).0 (and_left (same_path e.0 q) (is_doomed plan e) one), and_right (same_path e.0 q) (is_doomed plan e) one)
  | inr more ↦ let r = gone_is plan es q more in (r.0, there e es r.0 r.1, r.2, r.3)
]

pub is_gone_at : (plan : List Item) (es : List Found) (e : Found) → Contains es e → is_doomed plan e ≡ true → is_gone plan es e.0 ≡ true
is_gone_at plan [] e k h = absurd (omega (arith, k.1))
is_gone_at plan (x ∷ es) e k h = elim (in_cons x es e k) [
  | inl same ↦ subst (λ (y : Found). is_gone plan (x ∷ es) y.0 ≡ true) same (ap (λ b. b || is_gone plan es x.0) (both (same_path x.0 x.0) (is_doomed plan x) (same_path_refl x.0) (subst (λ (y : Found). is_doomed plan y ≡ true) (sym same) h)))
  | inr more ↦ or_right (same_path x.0 e.0 && is_doomed plan x) (is_gone plan es e.0) (is_gone_at plan es e more h)
] where
  both : (a b : Bool) → a ≡ true → b ≡ true → (a && b) ≡ true
  both a b h k = ap (λ x. x && b) h ∙ k

-- an entry is before its own entries in byte order
below_later : (x : List ℕ) (p : Path) (y : List ℕ) → slice_cmp nat_cmp (path_text (y ∷ x ∷ p)) (path_text (x ∷ p)) ≡ Less → ⊥
below_later x p y h =
    let s = text_below p ++ 47 ∷ x in
    let clash : Greater ≡ Less = sym (cmp_behind s (47 ∷ y) []) ∙ ap (slice_cmp nat_cmp (s ++ 47 ∷ y)) (append-nil s) ∙ h in
    cc clash

pub split_at : (es : List Found) (i : ℕ) (e : Found) → i < length es → e ≡ get_or es i e → es ≡ take i es ++ e ∷ drop (i + 1) es
split_at es i e h is = sym (take-append-drop i es) ∙ ap (λ r. take i es ++ r) (drop_more es i e h ∙ ap (λ x. x ∷ drop (i + 1) es) (sym is))

-- what differs where some are gone, and one more or not
pub differs_gone : (plan : List Item) (old now new : Option Tree) (es : List Found) (i left : ℕ) (e : Found) → left ≡ i + 1 → i < length es → e ≡ get_or es i e → now ≡ option_map (without plan (drop left es)) old
    → DiffersOnly (is_gone plan (e ∷ [])) now new → DiffersOnly (is_gone plan es) old new
differs_gone plan None now new es i left e at h is told d t some = cc
differs_gone plan (Some t) now new es i left e at h is told d u some =
    let same : t ≡ u = cc in
    let m = d (without plan (drop left es) t) told in (
      m.0,
      m.1,
      λ q out.
          let apart = out_of q out in
          m.2 q (both_false (same_path e.0 q && is_doomed plan e) false apart.0 refl) ∙ ap (λ b. if b then None else t q) (subst (λ n. is_gone plan (drop n es) q ≡ false) (sym at) apart.1) ∙ ap (λ v. v q) same,
    )
  where
    out_of : (q : Path) → is_gone plan es q ≡ false → ((same_path e.0 q && is_doomed plan e) ≡ false) × (is_gone plan (drop (i + 1) es) q ≡ false)
    out_of q out =
        let whole : (is_gone plan (take i es) q || is_gone plan (e ∷ drop (i + 1) es) q) ≡ false =
        sym (list_any-append (λ (x : Found). same_path x.0 q && is_doomed plan x) (take i es) (e ∷ drop (i + 1) es)) ∙ ap (λ l. is_gone plan l q) (sym (split_at es i e h is)) ∙ out in
        neither (same_path e.0 q && is_doomed plan e) (is_gone plan (drop (i + 1) es) q) (neither (is_gone plan (take i es) q) (is_gone plan (e ∷ drop (i + 1) es) q) whole).1

-- a told tree is told without them
pub without_told : (plan : List Item) (es : List Found) (old now : Option Tree) → now ≡ option_map (without plan es) old → ForSome old (λ t. (u : Tree) × (now ≡ Some u))
without_told plan es old now is t told = (without plan es t, is ∙ ap (λ o. option_map (without plan es) o) told)

-- paths that are written
pub touched_none : (Why : Path → Type 0) (a : Seen) → Touched Why a a
touched_none Why a = record { added = []; touched = sym (append-nil a.touched); why = λ p h. absurd (omega (arith, h.1)) }

pub touched_weaker : (Why More : Path → Type 0) (a b : Seen) → ((p : Path) → Why p → More p) → Touched Why a b → Touched More a b
touched_weaker Why More a b f h = record { added = h.added; touched = h.touched; why = λ p inside. f p (h.why p inside) }

pub touched_both : (Why : Path → Type 0) (a b c : Seen) → Touched Why a b → Touched Why b c → Touched Why a c
touched_both Why a b c h k = record {
  added = h.added ++ k.added;
  touched = k.touched ∙ ap (λ l. l ++ k.added) h.touched ∙ append_assoc a.touched h.added k.added;
  why = λ p inside. elim (Contains-append_cases h.added k.added p inside) [ inl x ↦ h.why p x | inr y ↦ k.why p y ];
}

pub touched_one : (plan : List Item) (e : Found) (a b : Seen) → is_doomed plan e ≡ true → IfSome a.tree (λ t. Touched (λ p. p ≡ e.0) a b) → IfSome a.tree (λ t. Touched (λ p. is_gone plan (e ∷ []) p ≡ true) a b)
touched_one plan e a b doomed h = if_some (λ t. Touched (λ p. is_gone plan (e ∷ []) p ≡ true) a b) a.tree (λ t told.
    touched_weaker (λ p. p ≡ e.0) (λ p. is_gone plan (e ∷ []) p ≡ true) a b (λ p same. subst (λ r. is_gone plan (e ∷ []) r ≡ true) (sym same) (is_gone_at plan (e ∷ []) e (here e []) doomed)) (for_some (λ t. Touched (λ p. p ≡ e.0) a b) a.tree h t told))

-- one more entry
pub touched_more : (plan : List Item) (es : List Found) (i left : ℕ) (e : Found) (a b c : Seen) → i < length es → e ≡ get_or es i e → b.tree ≡ option_map (without plan (drop left es)) a.tree
    → IfSome a.tree (λ t. Touched (λ p. is_gone plan es p ≡ true) a b) → IfSome b.tree (λ t. Touched (λ p. is_gone plan (e ∷ []) p ≡ true) b c) → IfSome a.tree (λ t. Touched (λ p. is_gone plan es p ≡ true) a c)
touched_more plan es i left e a b c h is told before one = if_some (λ t. Touched (λ p. is_gone plan es p ≡ true) a c) a.tree (λ t some.
    touched_both (λ p. is_gone plan es p ≡ true) a b c (for_some (λ t. Touched (λ p. is_gone plan es p ≡ true) a b) a.tree before t some)
    (touched_weaker (λ p. is_gone plan (e ∷ []) p ≡ true) (λ p. is_gone plan es p ≡ true) b c (λ p gone. whole p gone)
    (for_some (λ t. Touched (λ p. is_gone plan (e ∷ []) p ≡ true) b c) b.tree one (without plan (drop left es) t) (told ∙ ap (λ o. option_map (without plan (drop left es)) o) some))))
  where
    whole : (p : Path) → is_gone plan (e ∷ []) p ≡ true → is_gone plan es p ≡ true
    whole p gone = let r = gone_is plan (e ∷ []) p gone in
        elim (in_cons e [] r.0 r.1) [
          | inl same ↦ subst (λ q. is_gone plan es q ≡ true) (ap (λ (x : Found). x.0) same ∙ r.2) (is_gone_at plan es e (i, h, sym is) (subst (λ (x : Found). is_doomed plan x ≡ true) (sym same) r.3))
          | inr none ↦ absurd (omega (arith, none.1))
        ]

false_from : (b : Bool) → (b ≡ true → ⊥) → b ≡ false
false_from true h = absurd (h refl)
false_from false h = refl

nothing : (b : Bool) (o : Option Entry) → o ≡ None → (if b then None else o) ≡ None
nothing true o h = refl
nothing false o h = h

kinds : (v : Tree) (x : List ℕ) (p : Path) → ((y : List ℕ) → v (y ∷ x ∷ p) ≡ None) → (f : Entry) → v (x ∷ p) ≡ Some f → CanRemove v (x ∷ p)
kinds v x p none folder is = inr (inr (is, none))
kinds v x p none (file bytes) is = inl (bytes, is)
kinds v x p none (link text) is = inr (inl (text, is))

can_remove : (v : Tree) (x : List ℕ) (p : Path) → (v (x ∷ p) ≡ None → ⊥) → ((y : List ℕ) → v (y ∷ x ∷ p) ≡ None) → CanRemove v (x ∷ p)
can_remove v x p some none = elim (v (x ∷ p)) as (λ o. v (x ∷ p) ≡ o → CanRemove v (x ∷ p)) [
  | None ↦ λ is. absurd (some is)
  | Some f ↦ λ is. kinds v x p none f is
] refl

-- an entry that is to go can be taken away where all behind it that are to go are gone
pub removable : (plan : List Item) (old now : Option Tree) (es : List Found) (i left : ℕ) (e : Found) → left ≡ i + 1 → i < length es → e ≡ get_or es i e → Rises es → ForSome old (CanClear plan es)
    → now ≡ option_map (without plan (drop left es)) old → ForSome now (λ u. is_doomed plan e ≡ true → CanRemove u e.0)
removable plan None now es i left e at h is rising can told u some doomed = cc
removable plan (Some t) now es i left e at h is rising can told u some doomed =
    let c = can t refl in
    let inside : Contains es e = (i, h, sym is) in
    let way = c.below e inside doomed in
    let same : without plan (drop left es) t ≡ u = cc in
    subst (λ v. CanRemove v e.0) same (subst (CanRemove (without plan (drop left es) t)) (sym way.2)
    (can_remove (without plan (drop left es) t) way.0 way.1
    (λ none. c.stand e inside doomed (sym (stands e.0 self_out) ∙ subst (λ r. without plan (drop left es) t r ≡ None) (sym way.2) none))
    (λ y. no_child way.0 way.1 way.2 y inside)))
  where
    split : es ≡ take i es ++ e ∷ drop left es
    split = split_at es i e h is ∙ ap (λ n. take i es ++ e ∷ drop n es) (sym at)

    order : Rises (take i es ++ e ∷ drop left es)
    order = subst (λ (l : List Found). Rises l) split rising

    stands : (q : Path) → is_gone plan (drop left es) q ≡ false → without plan (drop left es) t q ≡ t q
    stands q out = ap (λ b. if b then None else t q) out

    self_out : is_gone plan (drop left es) e.0 ≡ false
    self_out = false_from (is_gone plan (drop left es) e.0) (λ is.
        let r = gone_is plan (drop left es) e.0 is in
        not_before_self (path_text e.0) (subst (λ p. slice_cmp nat_cmp (path_text e.0) (path_text p) ≡ Less) r.2 (before_later (take i es) e (drop left es) r.0 order r.1)))

    child_in : (x : List ℕ) (p : Path) → e.0 ≡ x ∷ p → (y : List ℕ) (f : Found) → f.0 ≡ y ∷ e.0 → Contains es f → Contains (drop left es) f
    child_in x p way y f deep within = elim (Contains-append_cases (take i es) (e ∷ drop left es) f (subst (λ (l : List Found). Contains l f) split within)) [
      | inl front ↦ absurd (below_later x p y (subst (λ q. slice_cmp nat_cmp (path_text (y ∷ q)) (path_text q) ≡ Less) way (subst (λ q. slice_cmp nat_cmp (path_text q) (path_text e.0) ≡ Less) deep (earlier (take i es) f e (drop left es) order front))))
      | inr back ↦ elim (in_cons e (drop left es) f back) [
        | inl one ↦ absurd (deeper y e.0 (sym deep ∙ sym (ap (λ (z : Found). z.0) one)))
        | inr more ↦ more
      ]
    ]

    no_child : (x : List ℕ) (p : Path) → e.0 ≡ x ∷ p → (y : List ℕ) → Contains es e → without plan (drop left es) t (y ∷ x ∷ p) ≡ None
    no_child x p way y inside = elim (t (y ∷ x ∷ p)) as (λ o. t (y ∷ x ∷ p) ≡ o → without plan (drop left es) t (y ∷ x ∷ p) ≡ None) [
      | None ↦ λ none. nothing (is_gone plan (drop left es) (y ∷ x ∷ p)) (t (y ∷ x ∷ p)) none
      | Some f ↦ λ some.
          let k = (can t refl).children e y f inside doomed (subst (λ r. t (y ∷ r) ≡ Some f) (sym way) some) in
          ap (λ b. if b then None else t (y ∷ x ∷ p)) (subst (λ r. is_gone plan (drop left es) (y ∷ r) ≡ true) way (is_gone_at plan (drop left es) (y ∷ e.0, k.0) (child_in x p way y (y ∷ e.0, k.0) refl k.1) k.2))
    ] refl
