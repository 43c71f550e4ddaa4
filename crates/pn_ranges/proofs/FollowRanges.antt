-- What may follow a byte more, in comparators and ranges.
use Rattle.std.proofs.Common.{◌≡◌, ℕ, Bool, true, false, List, [], ◌∷◌, ◌++◌, refl, sym, ap, subst, ◌∙◌, inl, inr, append_assoc, append-nil}
use Rattle.std.specs.Prelude.{◌==◌, ◌&&◌, ◌||◌, ◌⊎◌}
use Rattle.std.proofs.lemmas.Bool.{and_parts, cases_Bool}
use Rattle.pn_ranges.specs.declared.comparator.Sign.{Sign}
use Rattle.pn_ranges.specs.declared.comparator.Sign.TheVariants as x
use Rattle.pn_ranges.specs.Bytes.{is_space, starts_with}
use Rattle.pn_ranges.specs.Forms.{AreCompared, AreForms, IsForm}
use Rattle.pn_ranges.specs.Forms as f
use Rattle.pn_ranges.specs.Grammar.{AreGaps, AreSpaces, IsComparator, IsEnd, IsSign, may_join}
use Rattle.pn_ranges.specs.Grammar as g
use Rattle.pn_ranges.specs.Places.{Turn, first, later, upper, bar, start, gap, closed, dash, far, sign, equal, step, end_step, comparator_step, operand_step}
use Rattle.pn_ranges.specs.Table.{Named}
use Rattle.pn_ranges.proofs.Comparisons.{and_first, end-comparator, starts-front}
use Rattle.pn_ranges.proofs.Follow.{Bar, Closed, Compared, Dash, Dashed, Ended, Equal, Far, Follows, Gap, Gapped, Operand, Rest, RestOf, Signed}
use Rattle.pn_ranges.proofs.Follow as w
use Rattle.pn_ranges.proofs.FollowParts.{Small, at-byte, bar-closed, end-step}

-- comparators
operand-space : (b : ℕ) (u : List ℕ) → is_space b ≡ true → Operand u → Operand (b ∷ u)
operand-space b _ h (w.operand s t v n a i k) = w.operand (b ∷ s) t v n (rw (h, a) refl) i k

ended-operand : (u : List ℕ) → Ended later u → Operand u
ended-operand _ (w.ended t v n i k) = w.operand [] t v n refl i k

pub operand-step : (b : ℕ) (text u : List ℕ) → Small (operand_step b) (b ∷ text) → RestOf (operand_step b) text u → Operand (b ∷ u)
operand-step b text u small h = elim (cases_Bool (is_space b)) [
  | inl space ↦ operand-space b u space (rw space at h)
  | inr other ↦ ended-operand (b ∷ u) (end-step later b text u (rw other at small) (rw other at h))
]

pub sign-step : (joins b : ℕ) (text u : List ℕ) → Small (step (sign joins) b) (b ∷ text) → RestOf (step (sign joins) b) text u → Signed joins (b ∷ u)
sign-step joins b text u small h = elim (cases_Bool (b == joins)) [
  | inl same ↦ at-byte (Signed joins) b joins u same (w.joined u (rw same at h))
  | inr other ↦ w.alone (b ∷ u) other (operand-step b text u (λ s e. small s (rw other e)) (subst (λ o. RestOf o text u) (rw other refl) h))
]

pub equal-step : (e : Turn) (b : ℕ) (text u : List ℕ) → Small (step (equal e) b) (b ∷ text) → RestOf (step (equal e) b) text u → Equal e (b ∷ u)
equal-step e b text u small h = elim (cases_Bool (is_space b)) [
  | inl space ↦ w.operand (b ∷ u) (operand-space b u space (rw space at h))
  | inr other ↦ w.ended (b ∷ u) (end-step e b text u (rw other at small) (rw other at h))
]

-- an operator and what follows it
compared : (e : Turn) (o : List ℕ) (x : Sign) (u : List ℕ) → IsSign o x → (may_join x && starts_with (λ b. b == 61) u) ≡ false → Operand u → Compared e (o ++ u)
compared e o x _ i j (w.operand s t v n a k f) =
    let same : (o ++ (s ++ t)) ++ v ≡ o ++ (s ++ (t ++ v)) = simp append_assoc in
    let alone = and_first (may_join x) (starts_with (λ b. b == 61) (s ++ (t ++ v))) (starts_with (λ b. b == 61) (s ++ t)) j
    (λ none. starts-front (λ b. b == 61) (s ++ t) v (subst (λ y. starts_with (λ b. b == 61) y ≡ false) (sym (append_assoc s t v)) none)) in
    subst (Compared e) same (w.comparator (o ++ (s ++ t)) v x n (g.comparator o s t x n i a k alone) f)

less-compared : (e : Turn) (u : List ℕ) → Signed 61 u → Compared e (60 ∷ u)
less-compared e _ (w.joined u a) = compared e (60 ∷ 61 ∷ []) x.AtMost u g.at_most refl a
less-compared e u (w.alone _ j a) = compared e (60 ∷ []) x.Less u g.less j a

greater-compared : (e : Turn) (u : List ℕ) → Signed 61 u → Compared e (62 ∷ u)
greater-compared e _ (w.joined u a) = compared e (62 ∷ 61 ∷ []) x.AtLeast u g.at_least refl a
greater-compared e u (w.alone _ j a) = compared e (62 ∷ []) x.Greater u g.greater j a

tilde-compared : (e : Turn) (u : List ℕ) → Signed 62 u → Compared e (126 ∷ u)
tilde-compared e _ (w.joined u a) = compared e (126 ∷ 62 ∷ []) x.Tilde u g.tilde_greater refl a
tilde-compared e u (w.alone _ j a) = compared e (126 ∷ []) x.Tilde u g.tilde refl a

equal-compared : (e : Turn) (u : List ℕ) → Equal e u → Compared e (61 ∷ u)
equal-compared e _ (w.ended _ (w.ended _ v _ (g.end l t n all p) k)) = w.ended (61 ∷ ((l ++ t) ++ v)) (w.ended (61 ∷ (l ++ t)) v n (g.end (61 ∷ l) t n all p) k)
equal-compared e u (w.operand _ a) = compared e (61 ∷ []) x.Exact u g.equal refl a

pub comparator-step : (e : Turn) (b : ℕ) (text u : List ℕ) → Small (comparator_step e b) (b ∷ text) → RestOf (comparator_step e b) text u → Compared e (b ∷ u)
comparator-step e b text u small h = elim (cases_Bool ((b == 60) || (b == 62))) [
  | inl angle ↦ elim (cases_Bool (b == 60)) [
    | inl less ↦ at-byte (Compared e) b 60 u less (less-compared e u (rw angle at h))
    | inr other ↦ at-byte (Compared e) b 62 u (rw other at angle) (greater-compared e u (rw angle at h))
  ]
  | inr none ↦ elim (cases_Bool (b == 126)) [
    | inl tilde ↦ at-byte (Compared e) b 126 u tilde (tilde-compared e u (rw (none, tilde) at h))
    | inr notilde ↦ elim (cases_Bool (b == 94)) [
      | inl caret ↦ at-byte (Compared e) b 94 u caret (compared e (94 ∷ []) x.Caret u g.caret refl (rw (none, notilde, caret) at h))
      | inr nocaret ↦ elim (cases_Bool (b == 61)) [
        | inl same ↦ at-byte (Compared e) b 61 u same (equal-compared e u (rw (none, notilde, nocaret, same) at h))
        | inr other ↦
            let is : comparator_step e b ≡ end_step e b = rw (none, notilde, nocaret, other) refl in
            w.ended (b ∷ u) (end-step e b text u (λ s r. small s (is ∙ r)) (subst (λ o. RestOf o text u) is h))
      ]
    ]
  ]
]

-- behind a range
record Ending (u : List ℕ) : Type 0 where
  spaces : List ℕ
  rest : List ℕ
  split : u ≡ spaces ++ rest
  blank : AreSpaces spaces
  is : (rest ≡ []) ⊎ ((more : List ℕ) × (rest ≡ 124 ∷ 124 ∷ more) × AreForms more)

closed-ending : (u : List ℕ) → Closed u → Ending u
closed-ending _ w.ends = record { spaces = []; rest = []; split = refl; blank = refl; is = inl refl }
closed-ending _ (w.bars u a) = record { spaces = []; rest = 124 ∷ 124 ∷ u; split = refl; blank = refl; is = inr (u, refl, a) }
closed-ending _ (w.space b u h c) =
    let i = closed-ending u c in
    record { spaces = b ∷ i.spaces; rest = i.rest; split = ap (λ z. b ∷ z) i.split; blank = rw (h, i.blank) refl; is = i.is }

form-closed : (t u : List ℕ) → IsForm t → Closed u → AreForms (t ++ u)
form-closed t u i c =
    let k = closed-ending u c in
    elim k.is [
      | inl none ↦
          let same : u ≡ k.spaces = k.split ∙ ap (λ z. k.spaces ++ z) none ∙ append-nil k.spaces in
          subst (λ z. AreForms (t ++ z)) (sym same) (f.one [] t k.spaces refl i k.blank)
      | inr more ↦
          let same : u ≡ k.spaces ++ 124 ∷ 124 ∷ more.0 = k.split ∙ ap (λ z. k.spaces ++ z) more.1 in
          subst (λ z. AreForms (t ++ z)) (sym same) (f.more [] t k.spaces more.0 refl i k.blank more.2)
    ]

-- comparators behind a space
data GapIs : List ℕ → Type 0 where
  bare : (u : List ℕ) → Closed u → GapIs u
  several : (s t v : List ℕ) → AreSpaces s → AreCompared t → Closed v → GapIs (s ++ (t ++ v))

gap-space : (b : ℕ) (u : List ℕ) → is_space b ≡ true → GapIs u → GapIs (b ∷ u)
gap-space b u h (bare _ c) = bare (b ∷ u) (w.space b u h c)
gap-space b _ h (several s t v a c k) = several (b ∷ s) t v (rw (h, a) refl) c k

gap-more : (t u : List ℕ) (x : Sign) (n : Named) (b : ℕ) → IsComparator t x n → is_space b ≡ true → GapIs u → GapIs (t ++ b ∷ u)
gap-more t u x n b i h (bare _ c) = several [] t (b ∷ u) refl (f.one t x n i) (w.space b u h c)
gap-more t _ x n b i h (several s y v a c k) =
    let same : (t ++ (b ∷ s ++ y)) ++ v ≡ t ++ b ∷ (s ++ (y ++ v)) = simp append_assoc in
    subst GapIs same (several [] (t ++ (b ∷ s ++ y)) v refl (f.more t (b ∷ s) y x n i (record { spaces = rw (h, a) refl; some = h }) c) k)

gap-is : (u : List ℕ) → Gap u → GapIs u
gap-is u (w.closed _ c) = bare u c
gap-is _ (w.space b u h k) = gap-space b u h (gap-is u k)
gap-is _ (w.last t v x n i c) = several [] t v refl (f.one t x n i) c
gap-is _ (w.more t v x n b i h k) = gap-more t v x n b i h (gap-is v k)

-- `A - B`
record Upper (u : List ℕ) : Type 0 where
  gaps : List ℕ
  front : List ℕ
  rest : List ℕ
  high : Named
  split : u ≡ gaps ++ (front ++ rest)
  blank : AreSpaces gaps
  is : IsEnd front high
  closed : Closed rest

far-upper : (u : List ℕ) → Far u → Upper u
far-upper _ (w.end t v n i c) = record { gaps = []; front = t; rest = v; high = n; split = refl; blank = refl; is = i; closed = c }
far-upper _ (w.space b u h k) =
    let i = far-upper u k in
    record { gaps = b ∷ i.gaps; front = i.front; rest = i.rest; high = i.high; split = ap (λ z. b ∷ z) i.split; blank = rw (h, i.blank) refl; is = i.is; closed = i.closed }

data DashedIs : List ℕ → Type 0 where
  is : (s r t v : List ℕ) (n : Named) → AreSpaces s → AreGaps r → IsEnd t n → Closed v → DashedIs (s ++ 45 ∷ (r ++ (t ++ v)))

dashed-is : (u : List ℕ) → Dashed u → DashedIs u
dashed-is _ (w.dashed _ (w.dash b u h k)) =
    let i = far-upper u k in
    subst (λ z. DashedIs (45 ∷ b ∷ z)) (sym i.split) (is [] (b ∷ i.gaps) i.front i.rest i.high refl (record { spaces = rw (h, i.blank) refl; some = h }) i.is i.closed)
dashed-is _ (w.space b u h k) = spaced u (dashed-is u k) where
  spaced : (u : List ℕ) → DashedIs u → DashedIs (b ∷ u)
  spaced _ (is s r t v n a p i c) = is (b ∷ s) r t v n (rw (h, a) refl) p i c

-- the first comparator of a range, and what follows it
spaced-forms : (t u : List ℕ) (x : Sign) (n : Named) (b : ℕ) → IsComparator t x n → is_space b ≡ true → GapIs u → AreForms (t ++ b ∷ u)
spaced-forms t u x n b i h (bare _ c) = form-closed t (b ∷ u) (f.comparators t (f.one t x n i)) (w.space b u h c)
spaced-forms t _ x n b i h (several s y v a c k) =
    let same : (t ++ (b ∷ s ++ y)) ++ v ≡ t ++ b ∷ (s ++ (y ++ v)) = simp append_assoc in
    subst AreForms same (form-closed (t ++ (b ∷ s ++ y)) v (f.comparators _ (f.more t (b ∷ s) y x n i (record { spaces = rw (h, a) refl; some = h }) c)) k)

dashed-forms : (t u : List ℕ) (n : Named) (b : ℕ) → IsEnd t n → is_space b ≡ true → DashedIs u → AreForms (t ++ b ∷ u)
dashed-forms t _ n b i h (is s r y v m a p j c) =
    let same : (t ++ (b ∷ s ++ 45 ∷ (r ++ y))) ++ v ≡ t ++ b ∷ (s ++ 45 ∷ (r ++ (y ++ v))) = simp append_assoc in
    subst AreForms same (form-closed (t ++ (b ∷ s ++ 45 ∷ (r ++ y))) v (f.hyphen t (b ∷ s) r y n m i (record { spaces = rw (h, a) refl; some = h }) p j) c)

ended-forms : (t u : List ℕ) (n : Named) → IsEnd t n → Follows first u → AreForms (t ++ u)
ended-forms t u n i (w.closed _ _ c) = form-closed t u (f.comparators t (f.one t x.Exact n (end-comparator t n i))) c
ended-forms t _ n i (w.first b u h k) = spaced-forms t u x.Exact n b (end-comparator t n i) h (gap-is u k)
ended-forms t _ n i (w.dashed b u h k) = dashed-forms t u n b i h (dashed-is u k)

comparator-forms : (t u : List ℕ) (x : Sign) (n : Named) → IsComparator t x n → Follows later u → AreForms (t ++ u)
comparator-forms t u x n i (w.closed _ _ c) = form-closed t u (f.comparators t (f.one t x n i)) c
comparator-forms t _ x n i (w.later b u h k) = spaced-forms t u x n b i h (gap-is u k)

compared-forms : (u : List ℕ) → Compared first u → AreForms u
compared-forms _ (w.ended _ (w.ended t v n i k)) = ended-forms t v n i k
compared-forms _ (w.comparator t v x n i k) = comparator-forms t v x n i k

comparator-gap : (t u : List ℕ) (x : Sign) (n : Named) → IsComparator t x n → Follows later u → Gap (t ++ u)
comparator-gap t u x n i (w.closed _ _ c) = w.last t u x n i c
comparator-gap t _ x n i (w.later b u h k) = w.more t u x n b i h k

compared-gap : (u : List ℕ) → Compared later u → Gap u
compared-gap _ (w.ended _ (w.ended t v n i k)) = comparator-gap t v x.Exact n (end-comparator t n i) k
compared-gap _ (w.comparator t v x n i k) = comparator-gap t v x n i k

-- the states between comparators
forms-space : (b : ℕ) (u : List ℕ) → is_space b ≡ true → AreForms u → AreForms (b ∷ u)
forms-space b _ h (f.one s t r a i c) = f.one (b ∷ s) t r (rw (h, a) refl) i c
forms-space b _ h (f.more s t r u a i c k) = f.more (b ∷ s) t r u (rw (h, a) refl) i c k

forms-bar : (b : ℕ) (u : List ℕ) → (b == 124) ≡ true → Bar u → AreForms (b ∷ u)
forms-bar b u h k = form-closed [] (b ∷ u) f.empty (bar-closed b u h k)

pub start-step : (b : ℕ) (text u : List ℕ) → Small (step start b) (b ∷ text) → RestOf (step start b) text u → AreForms (b ∷ u)
start-step b text u small h = elim (cases_Bool (is_space b)) [
  | inl space ↦ forms-space b u space (rw space at h)
  | inr other ↦ elim (cases_Bool (b == 124)) [
    | inl mark ↦ forms-bar b u mark (rw (other, mark) at h)
    | inr none ↦
        let is : step start b ≡ comparator_step first b = rw (other, none) refl in
        compared-forms (b ∷ u) (comparator-step first b text u (λ s r. small s (is ∙ r)) (subst (λ o. RestOf o text u) is h))
  ]
]

gapped-space : (m : Bool) (b : ℕ) (u : List ℕ) → is_space b ≡ true → Gapped m u → Gapped m (b ∷ u)
gapped-space m b u h (w.gap _ _ k) = w.gap m (b ∷ u) (w.space b u h k)
gapped-space _ b u h (w.dashed _ k) = w.dashed (b ∷ u) (w.space b u h k)

gapped-dash : (m : Bool) (b : ℕ) (u : List ℕ) → m ≡ true → (b == 45) ≡ true → Dash u → Gapped m (b ∷ u)
gapped-dash true b u e h k = at-byte (Gapped true) b 45 u h (w.dashed (45 ∷ u) (w.dashed u k))
gapped-dash false b u e h k = cc e

pub gap-step : (m : Bool) (b : ℕ) (text u : List ℕ) → Small (step (gap m) b) (b ∷ text) → RestOf (step (gap m) b) text u → Gapped m (b ∷ u)
gap-step m b text u small h = elim (cases_Bool (is_space b)) [
  | inl space ↦ gapped-space m b u space (rw space at h)
  | inr other ↦ elim (cases_Bool (b == 124)) [
    | inl mark ↦ w.gap m (b ∷ u) (w.closed (b ∷ u) (bar-closed b u mark (rw (other, mark) at h)))
    | inr none ↦ elim (cases_Bool (m && (b == 45))) [
      | inl minus ↦ gapped-dash m b u (and_parts m (b == 45) minus).0 (and_parts m (b == 45) minus).1 (rw (other, none, minus) at h)
      | inr nominus ↦
          let is : step (gap m) b ≡ comparator_step later b = rw (other, none, nominus) refl in
          w.gap m (b ∷ u) (compared-gap (b ∷ u) (comparator-step later b text u (λ s r. small s (is ∙ r)) (subst (λ o. RestOf o text u) is h)))
    ]
  ]
]

pub closed-step : (b : ℕ) (text u : List ℕ) → RestOf (step closed b) text u → Closed (b ∷ u)
closed-step b text u h = elim (cases_Bool (is_space b)) [
  | inl space ↦ w.space b u space (rw space at h)
  | inr other ↦ elim (cases_Bool (b == 124)) [
    | inl mark ↦ bar-closed b u mark (rw (other, mark) at h)
    | inr none ↦ absurd (rw (other, none) at h)
  ]
]

pub bar-step : (b : ℕ) (text u : List ℕ) → RestOf (step bar b) text u → Bar (b ∷ u)
bar-step b text u h = elim (cases_Bool (b == 124)) [
  | inl mark ↦ at-byte Bar b 124 u mark (w.bar u (rw mark at h))
  | inr none ↦ absurd (rw none at h)
]

pub dash-step : (b : ℕ) (text u : List ℕ) → RestOf (step dash b) text u → Dash (b ∷ u)
dash-step b text u h = elim (cases_Bool (is_space b)) [
  | inl space ↦ w.dash b u space (rw space at h)
  | inr none ↦ absurd (rw none at h)
]

ended-far : (u : List ℕ) → Ended upper u → Far u
ended-far _ (w.ended t v n i (w.closed _ _ c)) = w.end t v n i c

pub far-step : (b : ℕ) (text u : List ℕ) → Small (step far b) (b ∷ text) → RestOf (step far b) text u → Far (b ∷ u)
far-step b text u small h = elim (cases_Bool (is_space b)) [
  | inl space ↦ w.space b u space (rw space at h)
  | inr other ↦ ended-far (b ∷ u) (end-step upper b text u (rw other at small) (rw other at h))
]
