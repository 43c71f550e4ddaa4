-- A place is put on the stack.
use Rattle.std.proofs.Common.{◌≡◌, ◌≢◌, ◌<◌, ◌≤◌, ℕ, ◌+◌, ◌-◌, List, [], ◌∷◌, ◌++◌, length, get_or, set, refl, sym, ap, ◌∙◌, subst, inl, inr, arith, length-append}
use Rattle.std.specs.List.{Contains}
use Rattle.std.proofs.lemmas.Bool.{cases_eq, cases_lt}
use Rattle.std.proofs.lemmas.List.{get_or_append_left, get_or_push, get_or_default, get_or-set_same, get_or-set_other, get_or-append-add, get_or-append_right, length-set, length_push}
use Rattle.std.proofs.lemmas.List.Elements.{Contains-push, Contains-get_or}
use Rattle.std.proofs.lemmas.List.Quantifiers.{all_pairs_push}
use Rattle.pn_components.specs.declared.walk.Mark.{Mark}
use Rattle.pn_components.specs.declared.walk.Mark.TheVariants.{New, Open, Done}
use Rattle.pn_components.specs.declared.walk.Part.{Part}
use Rattle.pn_components.specs.Graphs.{itself}
use Rattle.pn_components.specs.Rows.{LeadsIn}
use Rattle.pn_components.specs.Walks.{AllReach, IsBefore, IsOfPart, IsWalk, Meets, closed, follows, waits, mark_of}
use Rattle.pn_components.proofs.Reaching.{moved}
use Rattle.pn_components.proofs.PartLemmas.{each_part, in_front}
use Rattle.pn_components.proofs.MarkLemmas.{unmet-set}

-- the part that begins at the ends of these
abbrev pub new_part : List ℕ → List ℕ → Part
new_part stack waiting = record { first = length stack; waiting = length waiting }

module _ (rows : List (List ℕ)) (marks : List Mark) (stack : List ℕ) (parts : List Part) (waiting : List ℕ) (numbers v : ℕ) (h : IsWalk rows marks stack parts waiting numbers) (fresh : mark_of marks v ≡ New) (within : v < length rows) (reached : AllReach rows stack v) where
  own_mark : mark_of (set marks v (Open (length stack))) v ≡ Open (length stack)
  own_mark = get_or-set_same marks v (Open (length stack)) New (let c = h.count in omega (arith, within, c))

  other_mark : (w : ℕ) → w ≢ v → mark_of (set marks v (Open (length stack))) w ≡ mark_of marks w
  other_mark w ne = get_or-set_other marks v w (Open (length stack)) New ne

  kept : (w : ℕ) (m : Mark) → (m ≡ New → ⊥) → mark_of marks w ≡ m → mark_of (set marks v (Open (length stack))) w ≡ m
  kept w m other is = other_mark w (λ e. other (sym is ∙ ap (mark_of marks) e ∙ fresh)) ∙ is

  back : (w : ℕ) (m : Mark) → (m ≡ Open (length stack) → ⊥) → mark_of (set marks v (Open (length stack))) w ≡ m → mark_of marks w ≡ m
  back w m other is = elim (cases_eq w v) [
    | inl e ↦ absurd (other (sym is ∙ ap (mark_of (set marks v (Open (length stack)))) e ∙ own_mark))
    | inr ne ↦ sym (other_mark w ne) ∙ is
  ]

  old_at : (i : ℕ) → i < length stack → get_or (stack ++ v ∷ []) i 0 ≡ get_or stack i 0
  old_at i low = get_or_append_left stack (v ∷ []) 0 i low

  is_top : (i : ℕ) → i < length (stack ++ v ∷ []) → length stack ≤ i → length stack ≡ i
  is_top i low high = omega (arith, low, high, length_push stack v)

  top_at : (i : ℕ) → length stack ≡ i → get_or (stack ++ v ∷ []) i 0 ≡ v
  top_at i e = get_or_push stack v 0 i e

  -- each part is an old one or the new one
  of_parts : (P : Part → Type 0) → ((x : Part) → Contains parts x → P x) → P (new_part stack waiting) → (x : Part) → Contains (parts ++ new_part stack waiting ∷ []) x → P x
  of_parts P old new = each_part P parts (new_part stack waiting) old new

  old_meets : (i w : ℕ) → i < length stack → Meets marks parts waiting i w → Meets (set marks v (Open (length stack))) (parts ++ new_part stack waiting ∷ []) (waiting ++ get_or rows v []) i w
  old_meets i w low (closed n is) = closed n (kept w (Done n) (λ e. cc) is)
  old_meets i w low (follows j is f) = follows j (kept w (Open j) (λ e. cc) is) (of_parts (λ (x : Part). x.first ≤ i → x.first ≤ j) f (λ le. absurd (omega (arith, low, le))))
  old_meets i w low (waits k less is f) =
      waits k (omega (arith, less, length-append waiting (get_or rows v []))) (get_or_append_left waiting (get_or rows v []) 0 k less ∙ is)
      (of_parts (λ (x : Part). x.first ≤ i → x.waiting ≤ k) f (λ le. absurd (omega (arith, low, le))))

  new_meets : (i w : ℕ) → Contains (get_or rows v []) w → Meets (set marks v (Open (length stack))) (parts ++ new_part stack waiting ∷ []) (waiting ++ get_or rows v []) i w
  new_meets i w c =
      waits (length waiting + c.0) (let less = c.1 in omega (arith, less, length-append waiting (get_or rows v [])))
      (get_or-append-add waiting (get_or rows v []) c.0 0 ∙ get_or_default (get_or rows v []) c.0 0 w c.1 ∙ c.2)
      (of_parts (λ (x : Part). x.first ≤ i → x.waiting ≤ length waiting + c.0) (λ x p le. let b = (h.begun x p).1 in omega (arith, b)) (λ le. omega arith))

  old_source : (k : ℕ) → k < length waiting → IsOfPart rows (stack ++ v ∷ []) (parts ++ new_part stack waiting ∷ []) k (get_or (waiting ++ get_or rows v []) k 0)
  old_source k low = let s = h.sources k low in record {
    place = s.place;
    within = let w = s.within in omega (arith, w, length_push stack v);
    leads = subst (λ (x : ℕ). LeadsIn rows x (get_or (waiting ++ get_or rows v []) k 0)) (sym (old_at s.place s.within))
        (subst (λ (y : ℕ). LeadsIn rows (get_or stack s.place 0) y) (sym (get_or_append_left waiting (get_or rows v []) 0 k low)) s.leads);
    after = of_parts (λ (x : Part). x.waiting ≤ k → x.first ≤ s.place) s.after (λ le. absurd (omega (arith, low, le)));
    before = of_parts (λ (x : Part). k < x.waiting → s.place < x.first) s.before (λ lt. s.within);
  }

  new_source : (k : ℕ) → length waiting ≤ k → k < length (waiting ++ get_or rows v []) → IsOfPart rows (stack ++ v ∷ []) (parts ++ new_part stack waiting ∷ []) k (get_or (waiting ++ get_or rows v []) k 0)
  new_source k high low =
      let row = get_or rows v [] in
      let inside : k - length waiting < length row = omega (arith, high, low, length-append waiting row) in
      record {
        place = length stack;
        within = omega (arith, length_push stack v);
        leads = subst (λ (x : ℕ). LeadsIn rows x (get_or (waiting ++ row) k 0)) (sym (top_at (length stack) refl))
            (subst (λ (y : ℕ). LeadsIn rows v y) (sym (get_or-append_right waiting row (length waiting) k 0 refl high)) (Contains-get_or row (k - length waiting) 0 inside));
        after = of_parts (λ (x : Part). x.waiting ≤ k → x.first ≤ length stack) (λ x p le. let b = (h.begun x p).0 in omega (arith, b)) (λ le. omega arith);
        before = of_parts (λ (x : Part). k < x.waiting → length stack < x.first) (λ x p lt. let b = (h.begun x p).1 in absurd (omega (arith, b, lt, high))) (λ lt. absurd (omega (arith, lt, high)));
      }

  pub entered : IsWalk rows (set marks v (Open (length stack))) (stack ++ v ∷ []) (parts ++ new_part stack waiting ∷ []) (waiting ++ get_or rows v []) numbers
  entered = record {
    small = h.small;
    targets = h.targets;
    count = length-set marks v (Open (length stack)) ∙ h.count;
    stacked = λ i lt. elim (cases_lt i (length stack)) [
      | inl low ↦ ap (mark_of (set marks v (Open (length stack)))) (old_at i low) ∙ kept (get_or stack i 0) (Open i) (λ e. cc) (h.stacked i low)
      | inr high ↦ let e = is_top i lt high in ap (mark_of (set marks v (Open (length stack)))) (top_at i e) ∙ own_mark ∙ ap Open e
    ];
    opened = λ w i is. elim (cases_eq w v) [
      | inl e ↦
          let one : Open i ≡ Open (length stack) = sym is ∙ ap (mark_of (set marks v (Open (length stack)))) e ∙ own_mark in
          let same : length stack ≡ i = cc one in
          (omega (arith, same, length_push stack v), top_at i same ∙ sym e)
      | inr ne ↦ let o = h.opened w i (sym (other_mark w ne) ∙ is) in let low = o.0 in (omega (arith, low, length_push stack v), old_at i low ∙ o.1)
    ];
    begun = of_parts (λ (x : Part). (x.first < length (stack ++ v ∷ [])) × (x.waiting ≤ length (waiting ++ get_or rows v [])))
        (λ x p. let a = (h.begun x p).0 in let b = (h.begun x p).1 in (omega (arith, a, length_push stack v), omega (arith, b, length-append waiting (get_or rows v []))))
        (omega (arith, length_push stack v), omega (arith, length-append waiting (get_or rows v [])));
    rising = all_pairs_push IsBefore parts (new_part stack waiting) h.rising (λ k d lt. h.begun (get_or parts k d) (Contains-get_or parts k d lt));
    covered = λ i lt. elim (cases_lt i (length stack)) [
      | inl low ↦ let k = h.covered i low in (k.0, in_front parts (new_part stack waiting) k.0 k.1, k.2)
      | inr high ↦ (new_part stack waiting, Contains-push parts (new_part stack waiting), high)
    ];
    linked = λ i j wi wj f. elim (cases_lt i (length stack)) [
      | inl a ↦ (elim (cases_lt j (length stack)) [
        | inl b ↦ moved (LeadsIn rows) _ _ _ _ (old_at i a) (old_at j b) (h.linked i j a b (λ x c. f x (in_front parts (new_part stack waiting) x c)))
        | inr b ↦ moved (LeadsIn rows) _ _ _ _ (old_at i a) (top_at j (is_top j wj b)) (reached i a)
      ])
      | inr a ↦
          let b : length stack ≤ j = f (new_part stack waiting) (Contains-push parts (new_part stack waiting)) a in
          moved (LeadsIn rows) _ _ _ _ (top_at i (is_top i wi a)) (top_at j (is_top j wj b)) itself
    ];
    meets = λ i w lt leads. elim (cases_lt i (length stack)) [
      | inl low ↦ old_meets i w low (h.meets i w low (subst (λ (x : ℕ). LeadsIn rows x w) (old_at i low) leads))
      | inr high ↦ new_meets i w (subst (λ (x : ℕ). LeadsIn rows x w) (top_at i (is_top i lt high)) leads)
    ];
    sources = λ k lt. elim (cases_lt k (length waiting)) [
      | inl low ↦ old_source k low
      | inr high ↦ new_source k high lt
    ];
    falls = λ a w n is leads. let f = h.falls a w n (back a (Done n) (λ e. cc) is) leads in (f.0, kept w (Done f.0) (λ e. cc) f.1, f.2);
    joined = λ a w n p q. h.joined a w n (back a (Done n) (λ e. cc) p) (back w (Done n) (λ e. cc) q);
    numbered = λ a n is. h.numbered a n (back a (Done n) (λ e. cc) is);
    used = λ n lt. let u = h.used n lt in (u.0, kept u.0 (Done n) (λ e. cc) u.1);
    few = let f = h.few in let c = h.count in omega (arith, f, length_push parts (new_part stack waiting), unmet-set marks v (length stack) (omega (arith, within, c)) fresh);
  }

  pub entered_met : (mark_of (set marks v (Open (length stack))) v ≡ New → ⊥)
  entered_met e = let o = own_mark in cc (o, e)

  pub entered_keeps : (w : ℕ) → mark_of marks w ≢ New → mark_of (set marks v (Open (length stack))) w ≢ New
  entered_keeps w met e = met (back w New (λ g. cc) e)
