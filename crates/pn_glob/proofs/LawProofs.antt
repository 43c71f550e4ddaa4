-- The laws of patterns.
use Rattle.std.proofs.Common.{◌≡◌, ℕ, Bool, true, false, List, [], ◌∷◌, ◌++◌, refl, sym, ap, subst, ◌∙◌, inl, inr}
use Rattle.std.specs.Prelude.{◌==◌, ◌&&◌, ◌||◌, not, if◌then◌else◌}
use Rattle.std.specs.List.{list_all, list_any}
use Rattle.std.proofs.lemmas.Bool.{and_from, and_parts, cases_Bool, eqb-true, not-true, or_cases, or_right}
use Rattle.std.proofs.lemmas.List.Folds.{list_any-append}
use Rattle.std.proofs.Math.Bool.{and-true, or-false}
use Rattle.pn_glob.specs.declared.kind.Kind.TheVariants.{Paths, Names}
use Rattle.pn_glob.specs.Bytes.{is_hidden, is_star, onto, parts}
use Rattle.pn_glob.specs.Gaps.{Matches, Rules, any_rest, first_and, is_end, matches, end, gap, piece}
use Rattle.pn_glob.specs.Laws.{LiteralLaw, MatchingLaw, NegativeLaw, StarLaw}
use Rattle.pn_glob.specs.Matching.{byte_rules, fits, part_fits, part_rules}
use Rattle.pn_glob.proofs.Gaps.{eq-true, gap-is, piece-is, piece-step, rest-here}

-- a run that a gap skips
record Run {A : Type 0} (skip : A → Bool) (test : List A → Bool) (t : List A) : Type 0 where
  run : List A
  rest : List A
  split : t ≡ run ++ rest
  skipped : list_all skip run ≡ true
  holds : test rest ≡ true

found-run : {A : Type 0} (skip : A → Bool) (test : List A → Bool) (t : List A) → any_rest skip test t ≡ true → Run skip test t
found-run skip test [] h = record { run = []; rest = []; split = refl; skipped = refl; holds = h }
found-run skip test (a ∷ t) h = elim (or_cases (test (a ∷ t)) (skip a && any_rest skip test t) h) [
  | inl this ↦ record { run = []; rest = a ∷ t; split = refl; skipped = refl; holds = this }
  | inr later ↦
      let r = found-run skip test t (and_parts (skip a) _ later).1 in
      record { run = a ∷ r.run; rest = r.rest; split = ap (λ y. a ∷ y) r.split; skipped = and_from (skip a) _ (and_parts (skip a) _ later).0 r.skipped; holds = r.holds }
]

run-found : {A : Type 0} (skip : A → Bool) (test : List A → Bool) (run t : List A) → list_all skip run ≡ true → test t ≡ true → any_rest skip test (run ++ t) ≡ true
run-found skip test [] t s h = rest-here skip test t h
run-found skip test (a ∷ run) t s h = or_right (test (a ∷ (run ++ t))) _
    (and_from (skip a) _ (and_parts (skip a) _ s).0 (run-found skip test run t (and_parts (skip a) _ s).1 h))

sound-piece : {C A : Type 0} (r : Rules C A) (c : C) (p : List C) (t : List A) → ((s : List A) → matches r p s ≡ true → Matches r p s) → r.is_gap c ≡ false
    → first_and (r.fits c) (matches r p) t ≡ true → Matches r (c ∷ p) t
sound-piece r c p [] below g h = cc h
sound-piece r c p (a ∷ t) below g h = piece c p a t g (and_parts (r.fits c a) _ h).0 (below t (and_parts (r.fits c a) _ h).1)

sound-gap : {C A : Type 0} (r : Rules C A) (c : C) (p : List C) (t : List A) → ((s : List A) → matches r p s ≡ true → Matches r p s) → r.is_gap c ≡ true
    → any_rest r.may_skip (matches r p) t ≡ true → Matches r (c ∷ p) t
sound-gap {C} {A} r c p t below g h =
    let f = found-run r.may_skip (matches r p) t h in
    subst (λ (y : List A). Matches r (c ∷ p) y) (sym f.split) (gap c p f.run f.rest g f.skipped (below f.rest f.holds))

pub sound : {C A : Type 0} (r : Rules C A) (p : List C) (t : List A) → matches r p t ≡ true → Matches r p t
sound r [] [] h = end
sound r [] (a ∷ t) h = cc h
sound r (c ∷ p) t h = elim (cases_Bool (r.is_gap c)) [
  | inl g ↦ sound-gap r c p t (sound r p) g (sym (gap-is r c p g t) ∙ h)
  | inr g ↦ sound-piece r c p t (sound r p) g (sym (piece-is r c p g t) ∙ h)
]

pub complete : {C A : Type 0} (r : Rules C A) (p : List C) (t : List A) → Matches r p t → matches r p t ≡ true
complete r _ _ end = refl
complete r _ _ (gap c p run t g s m) = gap-is r c p g (run ++ t) ∙ run-found r.may_skip (matches r p) run t s (complete r p t m)
complete r _ _ (piece c p a t g f m) = piece-step r c p a t g f ∙ complete r p t m

pub matching : MatchingLaw
matching = record {
  bytes = λ kind p t. (sound (byte_rules kind) p t, complete (byte_rules kind) p t);
  paths = λ p t. (sound part_rules (parts p) (parts t), complete part_rules (parts p) (parts t));
}

literal-same : (p t : List ℕ) → list_all (λ b. not (is_star b)) p ≡ true → matches (byte_rules Names) p t ≡ true → p ≡ t
literal-same [] [] l h = refl
literal-same [] (b ∷ t) l h = cc h
literal-same (c ∷ p) [] l h = cc (sym (piece-is (byte_rules Names) c p (not-true (is_star c) (and_parts (not (is_star c)) _ l).0) []) ∙ h)
literal-same (c ∷ p) (b ∷ t) l h =
    let both = sym (piece-is (byte_rules Names) c p (not-true (is_star c) (and_parts (not (is_star c)) _ l).0) (b ∷ t)) ∙ h in
    ap (λ z. z ∷ p) (eqb-true c b (and_parts (c == b) (matches (byte_rules Names) p t) both).0)
    ∙ ap (λ (y : List ℕ). b ∷ y) (literal-same p t (and_parts (not (is_star c)) _ l).1 (and_parts (c == b) (matches (byte_rules Names) p t) both).1)

literal-self : (p : List ℕ) → list_all (λ b. not (is_star b)) p ≡ true → matches (byte_rules Names) p p ≡ true
literal-self [] l = refl
literal-self (c ∷ p) l = piece-step (byte_rules Names) c p c p (not-true (is_star c) (and_parts (not (is_star c)) _ l).0) (eq-true c c refl)
    ∙ literal-self p (and_parts (not (is_star c)) _ l).1

pub literal : LiteralLaw
literal p t l = (literal-same p t l, λ e. subst (λ (y : List ℕ). fits Names p y ≡ true) e (literal-self p l))

star-any : (t : List ℕ) → any_rest (λ b. true) (λ (y : List ℕ). is_end y) t ≡ true
star-any [] = refl
star-any (b ∷ t) = star-any t

any-more : (f : List ℕ → Bool) (ns : List (List ℕ)) (n : List ℕ) → list_any f (ns ++ n ∷ []) ≡ (list_any f ns || f n)
any-more f ns n = list_any-append f ns (n ∷ []) ∙ ap (λ z. list_any f ns || z) (or-false (f n))

taken-away : (a b c : Bool) → (a && not (b || c)) ≡ ((a && not b) && not c)
taken-away false b c = refl
taken-away true true c = refl
taken-away true false c = refl

pub negative : NegativeLaw
negative kind ps ns n t = ap (λ z. list_any (λ p. fits kind p t) ps && not z) (any-more (λ p. fits kind p t) ns n)
    ∙ taken-away (list_any (λ p. fits kind p t) ps) (list_any (λ p. fits kind p t) ns) (fits kind n t)

-- the parts of a text are some, and where they are one it is the text
no-onto : (b : ℕ) (xs : List (List ℕ)) → onto b xs ≡ [] → ⊥
no-onto b [] h = cc h
no-onto b (x ∷ xs) h = cc h

no-parts : (t : List ℕ) → parts t ≡ [] → ⊥
no-parts [] h = cc h
no-parts (b ∷ t) h = elim (cases_Bool (b == 47)) [
  | inl slash ↦ cc (sym (ap (λ z. if z then [] ∷ parts t else onto b (parts t)) slash) ∙ h)
  | inr other ↦ no-onto b (parts t) (sym (ap (λ z. if z then [] ∷ parts t else onto b (parts t)) other) ∙ h)
]

onto-one : (b : ℕ) (xs : List (List ℕ)) (y : List ℕ) → (xs ≡ [] → ⊥) → onto b xs ≡ y ∷ [] → (x : List ℕ) × (xs ≡ x ∷ []) × (y ≡ b ∷ x)
onto-one b [] y some h = absurd (some refl)
onto-one b (x ∷ []) y some h = (x, refl, cc h)
onto-one b (x ∷ z ∷ xs) y some h = cc h

one-part : (t y : List ℕ) → parts t ≡ y ∷ [] → t ≡ y
one-part [] y h = cc h
one-part (b ∷ t) y h = elim (cases_Bool (b == 47)) [
  | inl slash ↦ absurd (no-parts t (cc (sym (ap (λ z. if z then [] ∷ parts t else onto b (parts t)) slash) ∙ h)))
  | inr other ↦
      let o = onto-one b (parts t) y (no-parts t) (sym (ap (λ z. if z then [] ∷ parts t else onto b (parts t)) other) ∙ h) in
      ap (λ (z : List ℕ). b ∷ z) (one-part t o.0 o.1) ∙ sym o.2
]

star-part : (y : List ℕ) → part_fits (42 ∷ []) y ≡ not (is_hidden y)
star-part y = ap (λ z. not (is_hidden y) && z) (star-any y) ∙ and-true (not (is_hidden y))

star-parts : (ys : List (List ℕ)) → first_and (part_fits (42 ∷ [])) (λ (z : List (List ℕ)). is_end z) ys ≡ true → (y : List ℕ) × (ys ≡ y ∷ []) × (is_hidden y ≡ false)
star-parts [] h = cc h
star-parts (y ∷ []) h = (y, refl, not-true (is_hidden y) (sym (star-part y) ∙ (and_parts (part_fits (42 ∷ []) y) true h).0))
star-parts (y ∷ z ∷ ys) h = cc (and_parts (part_fits (42 ∷ []) y) false h).1

star-only : (t : List ℕ) → fits Paths (42 ∷ []) t ≡ true → (parts t ≡ t ∷ []) × (is_hidden t ≡ false)
star-only t h =
    let s = star-parts (parts t) h in
    let e = one-part t s.0 s.1 in
    (s.1 ∙ ap (λ (y : List ℕ). y ∷ []) (sym e), ap is_hidden e ∙ s.2)

star-matches : (t : List ℕ) → (parts t ≡ t ∷ []) × (is_hidden t ≡ false) → fits Paths (42 ∷ []) t ≡ true
star-matches t h = ap (λ (ys : List (List ℕ)). matches part_rules ((42 ∷ []) ∷ []) ys) h.0 ∙ ap (λ z. z && true) (star-part t ∙ ap not h.1)

pub star : StarLaw
star = record { names = star-any; paths = λ t. (star-only t, star-matches t) }
