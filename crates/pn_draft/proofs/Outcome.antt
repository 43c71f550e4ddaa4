-- Lemmas on the planned tree that a draft gives.
use Rattle.std.proofs.Common.{◌≡◌, ℕ, ◌<◌, ◌≤◌, inl, inr, List, [], ◌∷◌, length, refl, sym, ap, ◌∙◌, subst, arith, true, false, Some, None}
use Rattle.std.specs.Prelude.{Option, IsTrue, is_some, String, string_bytes, ◌↔◌, if◌then◌else◌}
use Rattle.std.specs.List.{Contains}
use Rattle.std.specs.List.Sorted.{IsStrictlySortedBy}
use Rattle.std.specs.Map.{keys_of, lookup}
use Rattle.std.specs.BTreeMap.{BTreeMap, is_at}
use Rattle.std.specs.String.{string_cmp}
use Rattle.std.specs.Cmp.Lexicographic.{slice_cmp}
use Rattle.std.specs.Ordering.{nat_cmp}
use Rattle.std.specs.declared.cmp.Ordering.TheVariants.{Less}
use Rattle.std.proofs.lemmas.List.Elements.{Contains-append_cases}
use Rattle.pn_text.specs.Path.{Path, is_path, text_below, path_text}
use Rattle.pn_text.proofs.Members.{in_cons}
use Rattle.pn_text.proofs.Paths.{below_one}
use Rattle.pn_text.proofs.Orders.{not_before_self, not_both_before}
use Rattle.pn_digest.specs.declared.planned.Planned.{Planned}
use Rattle.pn_draft.specs.declared.fault.DraftFault.{DraftFault}
use Rattle.pn_draft.specs.declared.fault.DraftFault.TheVariants.{TooLong, Memory}
use Rattle.pn_digest.specs.PlannedTrees.{AreRising}
use Rattle.pn_draft.specs.Drawing.{Drawing, mark_at, drawn}
use Rattle.pn_draft.specs.Sheets.{sheet, texts, IsWhole}
use Rattle.pn_draft.specs.Finished.{Item, Finishes, IsFirstLongMark, FinishRefused, DraftRefused}
use Rattle.pn_draft.proofs.Climbing.{marked_at}
use Rattle.pn_draft.proofs.Drawings.{drawn_marks}
use Rattle.pn_draft.proofs.Finishing.{found}
use Rattle.pn_draft.proofs.Orders.{rising, sorted_texts, lookup_placed, found_placed, found_text, before_later}

pub rises : {A : Type 0} (marks : List (String A × Planned)) (es : List Item) → Finishes marks es → IsStrictlySortedBy string_cmp (keys_of marks) → AreRising es
rises marks es h ordered = rising es h.good (subst (λ l. IsStrictlySortedBy (slice_cmp nat_cmp) (keys_of l)) (sym h.same) (sorted_texts marks ordered))

-- what is drawn at a path is a path's
good_drawn : (d : Drawing) (q : Path) (w : Planned) → drawn d q ≡ Some w → IsTrue (is_path q) × (mark_at d.marks (text_below q) ≡ Some w)
good_drawn d q w h = elim (is_path q) as (λ b. (if b then mark_at d.marks (text_below q) else None) ≡ Some w → (b ≡ true) × (mark_at d.marks (text_below q) ≡ Some w)) [
  | true ↦ λ h. (refl, h)
  | false ↦ λ h. cc
] h

-- an entry of this path and this plan
drawn_entry : {A : Type 0} (tops : List Path) (marks : List (String A × Planned)) (es : List Item) (q : Path) (w : Planned) → Finishes marks es → drawn (record { tops = tops; marks = texts marks }) q ≡ Some w
    → (e : Item) × Contains es e × (e.0 ≡ q) × (e.1 ≡ w)
drawn_entry tops marks es q w h d =
    let g = good_drawn (record { tops = tops; marks = texts marks }) q w d in
    let r = found_placed es (text_below q) w (ap (λ l. mark_at l (text_below q)) h.same ∙ g.1) in
    (r.0, r.1, below_one r.0.0 q (h.good r.0 r.1) g.0 (sym r.2), r.3)

pub gives : {A : Type 0} (tops : List Path) (marks : List (String A × Planned)) (d : Drawing) (es : List Item) → record { tops = tops; marks = texts marks } ≡ d → Finishes marks es → IsStrictlySortedBy string_cmp (keys_of marks)
    → (q : Path) (w : Planned) → Contains es (q, w) ↔ (drawn d q ≡ Some w)
gives tops marks d es is h ordered q w = subst (λ (e : Drawing). Contains es (q, w) ↔ (drawn e q ≡ Some w)) is (
  (λ k.
      ap (λ b. if b then mark_at (texts marks) (text_below q) else None) (h.good _ k)
      ∙ ap (λ l. mark_at l (text_below q)) (sym h.same)
      ∙ lookup_placed es (q, w) (subst (λ l. IsStrictlySortedBy (slice_cmp nat_cmp) (keys_of l)) (sym h.same) (sorted_texts marks ordered)) k),
  (λ k. let r = drawn_entry tops marks es q w h k in let one : r.0 ≡ (q, w) = λ i. (r.2 i, r.3 i) in subst (Contains es) one r.1),
)

short_path : (q : Path) → length (text_below q) ≤ 4096 → length (path_text q) ≤ 4096
short_path [] h = omega arith
short_path (x ∷ q) h = h

pub short : {A : Type 0} (tops : List Path) (marks : List (String A × Planned)) (d : Drawing) (es : List Item) → record { tops = tops; marks = texts marks } ≡ d → Finishes marks es
    → (q : Path) (w : Planned) → drawn d q ≡ Some w → length (path_text q) ≤ 4096
short tops marks d es is h q w = subst (λ (e : Drawing). drawn e q ≡ Some w → length (path_text q) ≤ 4096) is (λ k.
    let r = drawn_entry tops marks es q w h k in short_path q (subst (λ p. length (text_below p) ≤ 4096) r.2 (h.short r.0 r.1)))

some_of : {T : Type 0} (o : Option T) → is_some o ≡ true → (x : T) × (o ≡ Some x)
some_of None h = cc
some_of (Some x) h = (x, refl)

long_path : (q : Path) → 4096 < length (text_below q) → path_text q ≡ text_below q
long_path [] h = absurd (omega (arith, h))
long_path (x ∷ q) h = refl

-- a path before the first long one is short
first_short : {A : Type 0} (tops : List Path) (marks : List (String A × Planned)) (n : ℕ) (h : IsFirstLongMark marks n) → IsStrictlySortedBy string_cmp (keys_of marks) → (r : Path) (v : Planned) → drawn (record { tops = tops; marks = texts marks }) r ≡ Some v
    → slice_cmp nat_cmp (path_text r) (string_bytes h.mark.0) ≡ Less → length (path_text r) ≤ 4096
first_short tops marks n h ordered [] v d before = omega arith
first_short {A} tops marks n h ordered (x ∷ r) v d before =
    let f = found_text marks (text_below (x ∷ r)) v (good_drawn (record { tops = tops; marks = texts marks }) (x ∷ r) v d).1 in
    let earlier : slice_cmp nat_cmp (string_bytes f.0.0) (string_bytes h.mark.0) ≡ Less = ap (λ t. slice_cmp nat_cmp t (string_bytes h.mark.0)) (sym f.2) ∙ before in
    elim (Contains-append_cases h.before (h.mark ∷ h.after) f.0 (subst (λ l. Contains l f.0) h.split f.1)) [
      | inl front ↦ omega (arith, ap length f.2, h.first f.0 front)
      | inr back ↦ elim (in_cons h.mark h.after f.0 back) [
        | inl same ↦ absurd (not_before_self (string_bytes f.0.0) (subst (λ (e : String A × Planned). slice_cmp nat_cmp (string_bytes f.0.0) (string_bytes e.0) ≡ Less) same earlier))
        | inr later ↦ absurd (not_both_before (string_bytes h.mark.0) (string_bytes f.0.0) (before_later h.before h.mark h.after f.0 (subst (λ l. IsStrictlySortedBy string_cmp (keys_of l)) h.split ordered) later) earlier)
      ]
    ]

pub refused : {A : Type 0} (tops : List Path) (marks : BTreeMap (String A) Planned) (d : Drawing) (e : DraftFault) → record { tops = tops; marks = texts marks.entries } ≡ d → IsWhole tops (sheet marks) → IsStrictlySortedBy string_cmp (keys_of marks.entries)
    → FinishRefused marks.entries e → DraftRefused d e
refused tops marks d (TooLong n) is whole ordered h =
    let some : is_some (sheet marks (string_bytes h.mark.0)) ≡ true = ap (λ es. is_some (lookup (is_at (λ k. slice_cmp nat_cmp (string_bytes h.mark.0) (string_bytes k))) es)) h.split ∙ found h.before h.mark h.after in
    let k = whole.keys (string_bytes h.mark.0) some in
    let v = some_of (sheet marks (string_bytes h.mark.0)) some in
    let text : path_text k.0 ≡ string_bytes h.mark.0 = long_path k.0 (omega (arith, h.long, h.size, ap length k.2)) ∙ sym k.2 in
    subst (λ (c : Drawing). DraftRefused c (TooLong n)) is (record {
      path = k.0;
      what = v.0;
      stands = drawn_marks tops marks k.0 ∙ marked_at (sheet marks) k.0 k.1 ∙ ap (sheet marks) (sym k.2) ∙ v.1;
      size = h.size ∙ ap length (sym text);
      long = h.long;
      first = λ r w there before. first_short tops marks.entries n h ordered r w there (subst (λ t. slice_cmp nat_cmp (path_text r) t ≡ Less) text before);
    })
refused tops marks d Memory is whole ordered h = tt
