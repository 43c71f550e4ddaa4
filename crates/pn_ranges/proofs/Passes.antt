-- The automaton goes through comparators, ranges and sets of them.
use Rattle.std.proofs.Common.{◌≡◌, ℕ, Bool, true, false, List, [], ◌∷◌, ◌++◌, Option, Some, None, refl, sym, ap, subst, ◌∙◌, arith, inl, inr, append_assoc, append-nil}
use Rattle.std.specs.Prelude.{◌==◌, ◌&&◌, ◌||◌, not, if◌then◌else◌}
use Rattle.std.specs.List.{list_all}
use Rattle.std.proofs.lemmas.Bool.{and_parts, and_right, cases_Bool, not-false, not-true}
use Rattle.std.proofs.lemmas.Bool.Decides.{nat_tests}
use Rattle.pn_ranges.specs.declared.comparator.Sign.{Sign}
use Rattle.pn_ranges.specs.Bytes.{is_space, is_lead, is_wild, is_digit}
use Rattle.pn_ranges.specs.Forms.{AreCompared, AreForms, IsForm}
use Rattle.pn_ranges.specs.Forms as f
use Rattle.pn_ranges.specs.Grammar.{AreGaps, AreSpaces, IsComparator, IsEnd, IsSign}
use Rattle.pn_ranges.specs.Grammar as g
use Rattle.pn_ranges.specs.Places.{Turn, State, first, later, upper, after, start, gap, closed, bar, dash, far, sign, equal, operand, lead, step, end_step, comparator_step, operand_step, after_step}
use Rattle.pn_ranges.specs.Table.{Named}
use Rattle.pn_ranges.proofs.Accepts.{accepts, accepts-goes, by-more, end-goes, end-none, fresh, goes, stays-on}

-- a byte that a version begins with
starts-60 : (b : ℕ) → ((b == 60) || (b == 62) || (b == 126) || (b == 94)) ≡ true → is_lead b ≡ false
starts-60 b h = grind (arith, nat_tests)

starts-48 : (b : ℕ) → ((b == 60) || (b == 62) || (b == 126) || (b == 94)) ≡ true → (b == 48) ≡ false
starts-48 b h = grind (arith, nat_tests)

starts-wild : (b : ℕ) → ((b == 60) || (b == 62) || (b == 126) || (b == 94)) ≡ true → is_wild b ≡ false
starts-wild b h = grind (arith, nat_tests)

starts-digit : (b : ℕ) → ((b == 60) || (b == 62) || (b == 126) || (b == 94)) ≡ true → is_digit b ≡ false
starts-digit b h = grind (arith, nat_tests)

-- an end of `A - B` where another state stands in front of it
lead-operand : (text : List ℕ) → accepts (lead later) text ≡ true → accepts operand text ≡ true
lead-operand text h = sym (accepts-goes operand text refl) ∙ by-more false false (end_step later) operand_step (λ b. not (is_space b)) (λ h. h)
    (λ b y. end-none later b (not-false (is_space b) y)) (λ b y. rw (not-true (is_space b) y) refl) text (accepts-goes (lead later) text refl ∙ h)

lead-equal : (e : Turn) (text : List ℕ) → accepts (lead e) text ≡ true → accepts (equal e) text ≡ true
lead-equal e text h = sym (accepts-goes (equal e) text refl) ∙ by-more false false (end_step e) (step (equal e)) (λ b. not (is_space b)) (λ h. h)
    (λ b y. end-none e b (not-false (is_space b) y)) (λ b y. rw (not-true (is_space b) y) refl) text (accepts-goes (lead e) text refl ∙ h)

lead-far : (text : List ℕ) → accepts (lead upper) text ≡ true → accepts far text ≡ true
lead-far text h = sym (accepts-goes far text refl) ∙ by-more false false (end_step upper) (step far) (λ b. not (is_space b)) (λ h. h)
    (λ b y. end-none upper b (not-false (is_space b) y)) (λ b y. rw (not-true (is_space b) y) refl) text (accepts-goes (lead upper) text refl ∙ h)

operand-61 : (text : List ℕ) → accepts operand text ≡ true → accepts (sign 61) text ≡ true
operand-61 [] h = h
operand-61 (b ∷ rest) h = elim (cases_Bool (b == 61)) [
  | inl joins ↦ rw joins (lead-operand rest (rw (space-61 b joins, lead-61 b joins) at h))
  | inr other ↦ rw other (rw other at h)
] where
  space-61 : (b : ℕ) → (b == 61) ≡ true → is_space b ≡ false
  space-61 b h = grind (arith, nat_tests)

  lead-61 : (b : ℕ) → (b == 61) ≡ true → is_lead b ≡ true
  lead-61 b h = grind (arith, nat_tests)

operand-62 : (text : List ℕ) → accepts operand text ≡ true → accepts (sign 62) text ≡ true
operand-62 text h = sym (accepts-goes (sign 62) text refl) ∙ by-more false false operand_step (step (sign 62)) (λ b. not (b == 62)) (λ h. h)
    (λ b y. none b (not-false (b == 62) y)) (λ b y. rw (not-true (b == 62) y) refl) text (accepts-goes operand text refl ∙ h) where
      no-space : (b : ℕ) → (b == 62) ≡ true → is_space b ≡ false
      no-space b h = grind (arith, nat_tests)

      other : (b : ℕ) → (b == 62) ≡ true → ((b == 60) || (b == 62) || (b == 126) || (b == 94)) ≡ true
      other b h = grind (arith, nat_tests)

      none : (b : ℕ) → (b == 62) ≡ true → operand_step b ≡ None
      none b h = rw (no-space b h, starts-60 b (other b h), starts-48 b (other b h), starts-wild b (other b h), starts-digit b (other b h)) refl

lead-comparator : (e : Turn) (text : List ℕ) → accepts (lead e) text ≡ true → goes false (comparator_step e) text ≡ true
lead-comparator e [] h = h
lead-comparator e (b ∷ rest) h = elim (cases_Bool ((b == 60) || (b == 62) || (b == 126) || (b == 94))) [
  | inl mark ↦ absurd (let x : false ≡ true = rw (starts-60 b mark, starts-48 b mark, starts-wild b mark, starts-digit b mark) at h in cc)
  | inr other ↦ elim (cases_Bool (b == 61)) [
    | inl same ↦ rw (no-60 b other, no-62 b other, no-126 b other, no-94 b other, same) (lead-equal e rest (rw (lead-61 b same) at h))
    | inr none ↦ rw (no-60 b other, no-62 b other, no-126 b other, no-94 b other, none) (rw none at h)
  ]
] where
  lead-61 : (b : ℕ) → (b == 61) ≡ true → is_lead b ≡ true
  lead-61 b h = grind (arith, nat_tests)

  no-60 : (b : ℕ) → ((b == 60) || (b == 62) || (b == 126) || (b == 94)) ≡ false → (b == 60) ≡ false
  no-60 b h = grind (arith, nat_tests)

  no-62 : (b : ℕ) → ((b == 60) || (b == 62) || (b == 126) || (b == 94)) ≡ false → (b == 62) ≡ false
  no-62 b h = grind (arith, nat_tests)

  no-126 : (b : ℕ) → ((b == 60) || (b == 62) || (b == 126) || (b == 94)) ≡ false → (b == 126) ≡ false
  no-126 b h = grind (arith, nat_tests)

  no-94 : (b : ℕ) → ((b == 60) || (b == 62) || (b == 126) || (b == 94)) ≡ false → (b == 94) ≡ false
  no-94 b h = grind (arith, nat_tests)

-- what stands behind a comparator of this turn, which may be taken for the lower end of `A - B`
record Goes (e : Turn) (rest : List ℕ) : Type 0 where
  turn : goes true (after_step e) rest ≡ true
  later : goes true (after_step later) rest ≡ true

operand-goes : (s t rest : List ℕ) (n : Named) → AreSpaces s → IsEnd t n → goes true (after_step later) rest ≡ true → accepts operand ((s ++ t) ++ rest) ≡ true
operand-goes s t rest n a i h = subst (λ y. accepts operand y ≡ true) (sym (append_assoc s t rest))
    (stays-on operand is_space (λ b y. rw y refl) s (t ++ rest) a (lead-operand (t ++ rest) (end-goes t n i later rest h)))

equal-goes : (e : Turn) (s t rest : List ℕ) (n : Named) → AreSpaces s → IsEnd t n → Goes e rest → accepts (equal e) ((s ++ t) ++ rest) ≡ true
equal-goes e [] t rest n a i h = lead-equal e (t ++ rest) (end-goes t n i e rest h.turn)
equal-goes e (b ∷ s) t rest n a i h = rw (and_parts (is_space b) (list_all is_space s) a).0 (operand-goes s t rest n (and_parts (is_space b) (list_all is_space s) a).1 i h.later)

-- a state where spaces and comparators may come
record Opens (s : State) (e : Turn) : Type 0 where
  spaces : (b : ℕ) → is_space b ≡ true → step s b ≡ Some s
  compares : (text : List ℕ) → goes false (comparator_step e) text ≡ true → accepts s text ≡ true

comparator-goes : (s : State) (e : Turn) (t : List ℕ) (x : Sign) (n : Named) (rest : List ℕ) → Opens s e → IsComparator t x n → Goes e rest → accepts s (t ++ rest) ≡ true
comparator-goes s e _ x n rest o (g.comparator _ r t _ _ g.absent a i j) h = subst (λ y. accepts s y ≡ true) (sym (append_assoc r t rest))
    (stays-on s is_space o.spaces r (t ++ rest) a (o.compares (t ++ rest) (lead-comparator e (t ++ rest) (end-goes t n i e rest h.turn))))
comparator-goes s e _ x n rest o (g.comparator _ r t _ _ g.equal a i j) h = o.compares (61 ∷ ((r ++ t) ++ rest)) (equal-goes e r t rest n a i h)
comparator-goes s e _ x n rest o (g.comparator _ r t _ _ g.less a i j) h = o.compares (60 ∷ ((r ++ t) ++ rest)) (operand-61 ((r ++ t) ++ rest) (operand-goes r t rest n a i h.later))
comparator-goes s e _ x n rest o (g.comparator _ r t _ _ g.at_most a i j) h = o.compares (60 ∷ 61 ∷ ((r ++ t) ++ rest)) (operand-goes r t rest n a i h.later)
comparator-goes s e _ x n rest o (g.comparator _ r t _ _ g.greater a i j) h = o.compares (62 ∷ ((r ++ t) ++ rest)) (operand-61 ((r ++ t) ++ rest) (operand-goes r t rest n a i h.later))
comparator-goes s e _ x n rest o (g.comparator _ r t _ _ g.at_least a i j) h = o.compares (62 ∷ 61 ∷ ((r ++ t) ++ rest)) (operand-goes r t rest n a i h.later)
comparator-goes s e _ x n rest o (g.comparator _ r t _ _ g.tilde a i j) h = o.compares (126 ∷ ((r ++ t) ++ rest)) (operand-62 ((r ++ t) ++ rest) (operand-goes r t rest n a i h.later))
comparator-goes s e _ x n rest o (g.comparator _ r t _ _ g.tilde_greater a i j) h = o.compares (126 ∷ 62 ∷ ((r ++ t) ++ rest)) (operand-goes r t rest n a i h.later)
comparator-goes s e _ x n rest o (g.comparator _ r t _ _ g.caret a i j) h = o.compares (94 ∷ ((r ++ t) ++ rest)) (operand-goes r t rest n a i h.later)

gap-none : (e : Turn) (b : ℕ) → (is_space b || (b == 124) || (b == 45)) ≡ true → comparator_step e b ≡ None
gap-none e b h = grind (arith, nat_tests)

no-space : (b : ℕ) → (is_space b || (b == 124) || (b == 45)) ≡ false → is_space b ≡ false
no-space b h = grind (arith, nat_tests)

no-124 : (b : ℕ) → (is_space b || (b == 124) || (b == 45)) ≡ false → (b == 124) ≡ false
no-124 b h = grind (arith, nat_tests)

no-45 : (b : ℕ) → (is_space b || (b == 124) || (b == 45)) ≡ false → (b == 45) ≡ false
no-45 b h = grind (arith, nat_tests)

opens-start : Opens start first
opens-start = record {
  spaces = λ b h. rw h refl;
  compares = λ text h. sym (accepts-goes start text refl) ∙ by-more false true (comparator_step first) (step start) (λ b. not (is_space b || (b == 124) || (b == 45))) (λ h. refl)
      (λ b y. gap-none first b (not-false (is_space b || (b == 124) || (b == 45)) y)) (λ b y. rw (no-space b (not-true _ y), no-124 b (not-true _ y)) refl) text h;
}

opens-gap : (m : Bool) → Opens (gap m) later
opens-gap m = record {
  spaces = λ b h. rw h refl;
  compares = λ text h. sym (accepts-goes (gap m) text refl) ∙ by-more false true (comparator_step later) (step (gap m)) (λ b. not (is_space b || (b == 124) || (b == 45))) (λ h. refl)
      (λ b y. gap-none later b (not-false (is_space b || (b == 124) || (b == 45)) y)) (λ b y. rw (no-space b (not-true _ y), no-124 b (not-true _ y), no-45 b (not-true _ y), and_right m false refl) refl) text h;
}

-- where a range ends
abbrev closes : ℕ → Option State
closes b = if b == 124 then Some bar else None

space-124 : (b : ℕ) → (b == 124) ≡ true → is_space b ≡ false
space-124 b h = grind (arith, nat_tests)

closes-more : (f : ℕ → Option State) → ((b : ℕ) → is_space b ≡ false → (b == 124) ≡ true → f b ≡ Some bar) → (rest : List ℕ) → goes true closes rest ≡ true → goes true f rest ≡ true
closes-more f same = by-more true true closes f (λ b. b == 124) (λ h. h) (λ b y. rw y refl) (λ b y. same b (space-124 b y) y ∙ sym (rw y refl))

closes-after : (e : Turn) (s rest : List ℕ) → AreSpaces s → goes true closes rest ≡ true → goes true (after_step e) (s ++ rest) ≡ true
closes-after e [] rest a h = closes-more (after_step e) (λ b n y. rw (n, y) refl) rest h
closes-after e (b ∷ s) rest a h =
    rw (and_parts (is_space b) (list_all is_space s) a).0
    (ap (λ v. v && accepts (after e) (s ++ rest)) (after-fresh e (b ∷ (s ++ rest))) ∙ spaces e s (and_parts (is_space b) (list_all is_space s) a).1) where
      after-fresh : (e : Turn) (text : List ℕ) → fresh (after e) text ≡ true
      after-fresh first text = refl
      after-fresh later text = refl
      after-fresh upper text = refl

      spaces : (e : Turn) (s : List ℕ) → AreSpaces s → accepts (after e) (s ++ rest) ≡ true
      spaces first s a = stays-on (gap true) is_space (λ b y. rw y refl) s rest a
          (sym (accepts-goes (gap true) rest refl) ∙ closes-more (step (gap true)) (λ b n y. rw (n, y) refl) rest h)
      spaces later s a = stays-on (gap false) is_space (λ b y. rw y refl) s rest a
          (sym (accepts-goes (gap false) rest refl) ∙ closes-more (step (gap false)) (λ b n y. rw (n, y) refl) rest h)
      spaces upper s a = stays-on closed is_space (λ b y. rw y refl) s rest a
          (sym (accepts-goes closed rest refl) ∙ closes-more (step closed) (λ b n y. rw (n, y) refl) rest h)

start-spaces : (s rest : List ℕ) → AreSpaces s → accepts start rest ≡ true → accepts start (s ++ rest) ≡ true
start-spaces s rest a h = stays-on start is_space (λ b y. rw y refl) s rest a h

closes-start : (rest : List ℕ) → goes true closes rest ≡ true → accepts start rest ≡ true
closes-start rest h = sym (accepts-goes start rest refl) ∙ closes-more (step start) (λ b n y. rw (n, y) refl) rest h

-- comparators
gap-spaces : (m : Bool) (s rest : List ℕ) → AreSpaces s → accepts (gap m) rest ≡ true → accepts (gap m) (s ++ rest) ≡ true
gap-spaces m s rest a h = stays-on (gap m) is_space (λ b y. rw y refl) s rest a h

-- behind a comparator and a space more of them come
gap-goes : (s rest : List ℕ) → AreGaps s → ((m : Bool) → accepts (gap m) rest ≡ true) → Goes first (s ++ rest) × Goes later (s ++ rest)
gap-goes [] rest a h = absurd (let x : false ≡ true = a.some in cc)
gap-goes (b ∷ s) rest a h =
    let space = a.some in
    let more : AreSpaces s = (and_parts (is_space b) (list_all is_space s) a.spaces).1 in
    let one : goes true (after_step first) (b ∷ (s ++ rest)) ≡ true = rw space (gap-spaces true s rest more (h true)) in
    let two : goes true (after_step later) (b ∷ (s ++ rest)) ≡ true = rw space (gap-spaces false s rest more (h false)) in
    (record { turn = one; later = two }, record { turn = two; later = two })

compared-later : (t rest : List ℕ) → AreCompared t → Goes later rest → (m : Bool) → accepts (gap m) (t ++ rest) ≡ true
compared-later _ rest (f.one t x n c) h m = comparator-goes (gap m) later t x n rest (opens-gap m) c h
compared-later _ rest (f.more t s u x n c a d) h m =
    let same : t ++ (s ++ (u ++ rest)) ≡ (t ++ (s ++ u)) ++ rest = simp append_assoc in
    subst (λ y. accepts (gap m) y ≡ true) same (comparator-goes (gap m) later t x n (s ++ (u ++ rest)) (opens-gap m) c (gap-goes s (u ++ rest) a (compared-later u rest d h)).1)

compared-first : (t rest : List ℕ) → AreCompared t → Goes first rest → Goes later rest → accepts start (t ++ rest) ≡ true
compared-first _ rest (f.one t x n c) h k = comparator-goes start first t x n rest opens-start c h
compared-first _ rest (f.more t s u x n c a d) h k =
    let same : t ++ (s ++ (u ++ rest)) ≡ (t ++ (s ++ u)) ++ rest = simp append_assoc in
    subst (λ y. accepts start y ≡ true) same (comparator-goes start first t x n (s ++ (u ++ rest)) opens-start c (gap-goes s (u ++ rest) a (compared-later u rest d k)).0)

-- `A - B`
dash-goes : (r b rest : List ℕ) (high : Named) → AreGaps r → IsEnd b high → goes true (after_step upper) rest ≡ true → accepts dash (r ++ (b ++ rest)) ≡ true
dash-goes [] b rest high a i h = absurd (let x : false ≡ true = a.some in cc)
dash-goes (c ∷ r) b rest high a i h =
    rw a.some (stays-on far is_space (λ b y. rw y refl) r (b ++ rest) (and_parts (is_space c) (list_all is_space r) a.spaces).1 (lead-far (b ++ rest) (end-goes b high i upper rest h)))

hyphen-goes : (a s r b rest : List ℕ) (low high : Named) → IsEnd a low → AreGaps s → AreGaps r → IsEnd b high → goes true (after_step upper) rest ≡ true
    → accepts start (a ++ (s ++ 45 ∷ (r ++ (b ++ rest)))) ≡ true
hyphen-goes a s r b rest low high i p q j h =
    let behind = s ++ 45 ∷ (r ++ (b ++ rest)) in
    opens-start.compares (a ++ behind) (lead-comparator first (a ++ behind) (end-goes a low i first behind (gap s p))) where
      gap : (s : List ℕ) → AreGaps s → goes true (after_step first) (s ++ 45 ∷ (r ++ (b ++ rest))) ≡ true
      gap [] p = absurd (let x : false ≡ true = p.some in cc)
      gap (c ∷ s) p = rw p.some (gap-spaces true s (45 ∷ (r ++ (b ++ rest))) (and_parts (is_space c) (list_all is_space s) p.spaces).1 (dash-goes r b rest high q j h))

-- ranges
form-goes : (t r rest : List ℕ) → IsForm t → AreSpaces r → goes true closes rest ≡ true → accepts start (t ++ (r ++ rest)) ≡ true
form-goes _ r rest f.empty a h = start-spaces r rest a (closes-start rest h)
form-goes _ r rest (f.comparators t c) a h =
    let one = closes-after first r rest a h in
    let two = closes-after later r rest a h in
    compared-first t (r ++ rest) c (record { turn = one; later = two }) (record { turn = two; later = two })
form-goes _ r rest (f.hyphen x s y b low high i p q j) a h =
    let same : x ++ (s ++ 45 ∷ (y ++ (b ++ (r ++ rest)))) ≡ (x ++ (s ++ 45 ∷ (y ++ b))) ++ (r ++ rest) = simp append_assoc in
    subst (λ z. accepts start z ≡ true) same (hyphen-goes x s y b (r ++ rest) low high i p q j (closes-after upper r rest a h))

pub forms-go : (text : List ℕ) → AreForms text → accepts start text ≡ true
forms-go _ (f.one s t r a i b) =
    let h = form-goes t r [] i b refl in
    start-spaces s (t ++ r) a (subst (λ y. accepts start (t ++ y) ≡ true) (append-nil r) h)
forms-go _ (f.more s t r u a i b k) = start-spaces s (t ++ (r ++ 124 ∷ 124 ∷ u)) a (form-goes t r (124 ∷ 124 ∷ u) i b (forms-go u k))
