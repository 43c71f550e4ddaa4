-- The last part is closed: it is a component.
use Rattle.std.proofs.Common.{◌≡◌, ◌≢◌, ◌<◌, ◌≤◌, ℕ, ◌+◌, List, [], ◌∷◌, ◌++◌, length, get_or, take, map, refl, sym, ap, ◌∙◌, subst, inl, inr, arith}
use Rattle.std.specs.List.{Contains}
use Rattle.std.proofs.lemmas.Bool.{cases_lt}
use Rattle.std.proofs.lemmas.List.{get_or-take, length-take-le, length-map, length_push}
use Rattle.std.proofs.lemmas.List.Elements.{Contains-push, Contains-push_cases}
use Rattle.pn_components.specs.declared.walk.Mark.{Mark}
use Rattle.pn_components.specs.declared.walk.Mark.TheVariants.{New, Open, Done}
use Rattle.pn_components.specs.declared.walk.Part.{Part}
use Rattle.pn_components.specs.Graphs.{Reaches}
use Rattle.pn_components.specs.Rows.{LeadsIn}
use Rattle.pn_components.specs.Walks.{IsOfPart, IsWalk, Meets, closed, follows, waits, mark_of}
use Rattle.pn_components.proofs.Reaching.{moved}
use Rattle.pn_components.proofs.PartLemmas.{all_before, front_rising, each_part, in_front}
use Rattle.pn_components.proofs.MarkLemmas.{closed_mark, mark-map, from_open, from_done, kept_open, now_done, unmet-closed}

module _ (rows : List (List ℕ)) (marks : List Mark) (stack : List ℕ) (front : List Part) (x : Part) (waiting : List ℕ) (numbers : ℕ) (h : IsWalk rows marks stack (front ++ x ∷ []) waiting numbers) (rests : length waiting ≤ x.waiting) where
  old_part : (y : Part) → Contains front y → Contains (front ++ x ∷ []) y
  old_part y c = in_front front x y c

  last_part : Contains (front ++ x ∷ []) x
  last_part = Contains-push front x

  mark_then : (v : ℕ) → mark_of (map (closed_mark x.first numbers) marks) v ≡ closed_mark x.first numbers (mark_of marks v)
  mark_then v = mark-map (closed_mark x.first numbers) refl marks v

  still_done : (v n : ℕ) → mark_of marks v ≡ Done n → mark_of (map (closed_mark x.first numbers) marks) v ≡ Done n
  still_done v n is = mark_then v ∙ ap (closed_mark x.first numbers) is

  still_open : (v i : ℕ) → mark_of marks v ≡ Open i → i < x.first → mark_of (map (closed_mark x.first numbers) marks) v ≡ Open i
  still_open v i is low = mark_then v ∙ ap (closed_mark x.first numbers) is ∙ kept_open x.first numbers i low

  new_done : (v i : ℕ) → mark_of marks v ≡ Open i → x.first ≤ i → mark_of (map (closed_mark x.first numbers) marks) v ≡ Done numbers
  new_done v i is high = mark_then v ∙ ap (closed_mark x.first numbers) is ∙ now_done x.first numbers i high

  long : length (take x.first stack) ≡ x.first
  long = let b = (h.begun x last_part).0 in length-take-le x.first stack (omega (arith, b))

  below : (i : ℕ) → i < length (take x.first stack) → i < x.first
  below i lt = omega (arith, lt, long)

  inside : (i : ℕ) → i < length (take x.first stack) → i < length stack
  inside i lt = let b = (h.begun x last_part).0 in omega (arith, lt, long, b)

  same_at : (i : ℕ) → i < x.first → get_or (take x.first stack) i 0 ≡ get_or stack i 0
  same_at i low = get_or-take x.first stack i 0 low

  still_meets : (i w : ℕ) → Meets marks (front ++ x ∷ []) waiting i w → Meets (map (closed_mark x.first numbers) marks) front waiting i w
  still_meets i w (closed n is) = closed n (still_done w n is)
  still_meets i w (follows j is f) = elim (cases_lt j x.first) [
    | inl low ↦ follows j (still_open w j is low) (λ y c. f y (old_part y c))
    | inr high ↦ closed numbers (new_done w j is high)
  ]
  still_meets i w (waits k lt is f) = waits k lt is (λ y c. f y (old_part y c))

  still_source : (k : ℕ) → k < length waiting → IsOfPart rows (take x.first stack) front k (get_or waiting k 0)
  still_source k lt =
      let s = h.sources k lt in
      let low : s.place < x.first = s.before x last_part (omega (arith, lt, rests)) in
      record {
        place = s.place;
        within = omega (arith, low, long);
        leads = subst (λ (v : ℕ). LeadsIn rows v (get_or waiting k 0)) (sym (same_at s.place low)) s.leads;
        after = λ y c. s.after y (old_part y c);
        before = λ y c. s.before y (old_part y c);
      }

  -- from a place of the component edges lead nowhere else but into earlier ones
  leaves : (i w : ℕ) → x.first ≤ i → Meets marks (front ++ x ∷ []) waiting i w → (m : ℕ) × (mark_of (map (closed_mark x.first numbers) marks) w ≡ Done m) × (m ≤ numbers)
  leaves i w high (closed n is) = (n, still_done w n is, let b = h.numbered w n is in omega (arith, b))
  leaves i w high (follows j is f) = (numbers, new_done w j is (f x last_part high), omega arith)
  leaves i w high (waits k lt is f) = absurd (let b = f x last_part high in omega (arith, b, lt, rests))

  still_falls : (v w n : ℕ) → mark_of (map (closed_mark x.first numbers) marks) v ≡ Done n → LeadsIn rows v w → (m : ℕ) × (mark_of (map (closed_mark x.first numbers) marks) w ≡ Done m) × (m ≤ n)
  still_falls v w n is leads = elim (from_done x.first numbers (mark_of marks v) n (sym (mark_then v) ∙ is)) [
    | inl old ↦ let f = h.falls v w n old leads in (f.0, still_done w f.0 f.1, f.2)
    | inr new ↦
        let o = h.opened v new.0 new.1 in
        let l = leaves new.0 w new.2 (h.meets new.0 w o.0 (subst (λ (u : ℕ). LeadsIn rows u w) (sym o.1) leads)) in
        let m : ℕ = l.0 in
        (m, l.1, let le = l.2 in let e = new.3 in omega (arith, le, e))
  ]

  -- all places of the component reach each other
  all_linked : (i j : ℕ) → i < length stack → j < length stack → x.first ≤ j → Reaches (LeadsIn rows) (get_or stack i 0) (get_or stack j 0)
  all_linked i j wi wj high = h.linked i j wi wj (each_part (λ (y : Part). y.first ≤ i → y.first ≤ j) front x (λ y c le. let b = (all_before front x y h.rising c).0 in omega (arith, b, high)) (λ le. high))

  still_joined : (v w n : ℕ) → mark_of (map (closed_mark x.first numbers) marks) v ≡ Done n → mark_of (map (closed_mark x.first numbers) marks) w ≡ Done n → Reaches (LeadsIn rows) v w
  still_joined v w n p q = elim (from_done x.first numbers (mark_of marks v) n (sym (mark_then v) ∙ p)) [
    | inl a ↦ (elim (from_done x.first numbers (mark_of marks w) n (sym (mark_then w) ∙ q)) [
      | inl b ↦ h.joined v w n a b
      | inr b ↦ absurd (let less = h.numbered v n a in let e = b.3 in omega (arith, less, e))
    ])
    | inr a ↦ (elim (from_done x.first numbers (mark_of marks w) n (sym (mark_then w) ∙ q)) [
      | inl b ↦ absurd (let less = h.numbered w n b in let e = a.3 in omega (arith, less, e))
      | inr b ↦
          let o = h.opened v a.0 a.1 in
          let r = h.opened w b.0 b.1 in
          moved (LeadsIn rows) (get_or stack a.0 0) v (get_or stack b.0 0) w (sym o.1) (sym r.1) (all_linked a.0 b.0 o.0 r.0 b.2)
    ])
  ]

  still_numbered : (v n : ℕ) → mark_of (map (closed_mark x.first numbers) marks) v ≡ Done n → n < numbers + 1
  still_numbered v n is = elim (from_done x.first numbers (mark_of marks v) n (sym (mark_then v) ∙ is)) [
    | inl old ↦ let b = h.numbered v n old in omega (arith, b)
    | inr new ↦ let e = new.3 in omega (arith, e)
  ]

  still_used : (n : ℕ) → n < numbers + 1 → (v : ℕ) × (mark_of (map (closed_mark x.first numbers) marks) v ≡ Done n)
  still_used n lt = elim (cases_lt n numbers) [
    | inl low ↦ let u = h.used n low in (u.0, still_done u.0 n u.1)
    | inr high ↦
        let begun = (h.begun x last_part).0 in
        let e : numbers ≡ n = omega (arith, lt, high) in
        (get_or stack x.first 0, new_done (get_or stack x.first 0) x.first (h.stacked x.first begun) (omega arith) ∙ ap Done e)
  ]

  pub closed_walk : IsWalk rows (map (closed_mark x.first numbers) marks) (take x.first stack) front waiting (numbers + 1)
  closed_walk = record {
    small = h.small;
    targets = h.targets;
    count = length-map marks (closed_mark x.first numbers) ∙ h.count;
    stacked = λ i lt. let low = below i lt in ap (mark_of (map (closed_mark x.first numbers) marks)) (same_at i low) ∙ still_open (get_or stack i 0) i (h.stacked i (inside i lt)) low;
    opened = λ v i is.
        let o = from_open x.first numbers (mark_of marks v) i (sym (mark_then v) ∙ is) in
        let low = o.1 in
        (omega (arith, low, long), same_at i low ∙ (h.opened v i o.0).1);
    begun = λ y c. let a = (all_before front x y h.rising c).0 in (omega (arith, a, long), (h.begun y (old_part y c)).1);
    rising = front_rising front x h.rising;
    covered = λ i lt. let k = h.covered i (inside i lt) in elim (Contains-push_cases front x k.0 k.1) [
      | inl old ↦ (k.0, old, k.2)
      | inr is ↦ absurd (let le : x.first ≤ i = subst (λ (y : Part). y.first ≤ i) (sym is) k.2 in omega (arith, le, below i lt))
    ];
    linked = λ i j wi wj f.
        moved (LeadsIn rows) _ _ _ _ (same_at i (below i wi)) (same_at j (below j wj))
        (h.linked i j (inside i wi) (inside j wj) (each_part (λ (y : Part). y.first ≤ i → y.first ≤ j) front x f (λ le. absurd (omega (arith, le, below i wi)))));
    meets = λ i w lt leads. still_meets i w (h.meets i w (inside i lt) (subst (λ (v : ℕ). LeadsIn rows v w) (same_at i (below i lt)) leads));
    sources = still_source;
    falls = still_falls;
    joined = still_joined;
    numbered = still_numbered;
    used = still_used;
    few = let f = h.few in omega (arith, f, length_push front x, unmet-closed x.first numbers marks);
  }

  pub closed_keeps : (w : ℕ) → mark_of marks w ≢ New → mark_of (map (closed_mark x.first numbers) marks) w ≢ New
  closed_keeps w met e = met (unclosed (mark_of marks w) (sym (mark_then w) ∙ e)) where
    unclosed : (m : Mark) → closed_mark x.first numbers m ≡ New → m ≡ New
    unclosed New g = refl
    unclosed (Done n) g = g
    unclosed (Open i) g = elim (cases_lt i x.first) [
      | inl low ↦ absurd (let k = kept_open x.first numbers i low in cc (k, g))
      | inr high ↦ absurd (let k = now_done x.first numbers i high in cc (k, g))
    ]
