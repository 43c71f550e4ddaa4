-- A walk's start, and its end, where all places are in components.
use Rattle.std.proofs.Common.{◌≡◌, ◌≢◌, ◌<◌, ◌≤◌, ◌^◌, ℕ, List, [], length, get_or, map, replicate, refl, sym, ap, ◌∙◌, arith}
use Rattle.std.specs.List.{All}
use Rattle.std.proofs.lemmas.List.{get_or-map, get_or_default, length-map, length-replicate}
use Rattle.std.proofs.lemmas.List.Elements.{All-map, All-contains}
use Rattle.pn_text.proofs.Members.{none_in}
use Rattle.pn_components.specs.declared.walk.Mark.{Mark}
use Rattle.pn_components.specs.declared.walk.Mark.TheVariants.{New, Open, Done}
use Rattle.pn_components.specs.Graphs.{AreComponents, Edges, Leads, Reaches, itself, through}
use Rattle.pn_components.specs.Rows.{AreRows, AreWithin, LeadsIn}
use Rattle.pn_components.specs.Walks.{IsWalk, mark_of, number_of}
use Rattle.pn_components.proofs.CloseSteps.{marked_within}
use Rattle.pn_components.proofs.MarkLemmas.{mark-replicate, unmet-replicate}
use Rattle.pn_components.proofs.Reaching.{along}

-- ---- the start

no_mark : (n v : ℕ) (m : Mark) → (New ≡ m → ⊥) → mark_of (replicate n New) v ≡ m → ⊥
no_mark n v m other is = other (sym (mark-replicate n v) ∙ is)

pub first_walk : (rows : List (List ℕ)) (n : ℕ) → n ≡ length rows → AreWithin rows → length rows < 2 ^ 32 → IsWalk rows (replicate n New) [] [] [] 0
first_walk rows n long within small = record {
  small = small;
  targets = within;
  count = length-replicate n New ∙ long;
  stacked = λ i lt. absurd (omega arith);
  opened = λ v i is. absurd (no_mark n v (Open i) (λ e. cc) is);
  begun = λ x c. absurd (none_in x c);
  rising = λ i j d less lt. absurd (omega arith);
  covered = λ i lt. absurd (omega arith);
  linked = λ i j lt. absurd (omega arith);
  meets = λ i w lt. absurd (omega arith);
  sources = λ k lt. absurd (omega arith);
  falls = λ v w m is. absurd (no_mark n v (Done m) (λ e. cc) is);
  joined = λ v w m is. absurd (no_mark n v (Done m) (λ e. cc) is);
  numbered = λ v m is. absurd (no_mark n v (Done m) (λ e. cc) is);
  used = λ m lt. absurd (omega arith);
  few = omega (arith, unmet-replicate n, long);
}

-- ---- the end

module _ (edges : Edges) (rows : List (List ℕ)) (marks : List Mark) (stack : List ℕ) (waiting : List ℕ) (numbers count : ℕ) (h : IsWalk rows marks stack [] waiting numbers) (are : AreRows edges rows) (long : length rows ≡ count) (within : All (λ (e : ℕ × ℕ). (e.0 < count) × (e.1 < count)) edges) (met : (v : ℕ) → v < count → mark_of marks v ≢ New) where
  done_by : (v : ℕ) (m : Mark) → mark_of marks v ≡ m → m ≢ New → (n : ℕ) × (mark_of marks v ≡ Done n)
  done_by v New is other = absurd (other refl)
  done_by v (Done n) is other = (n, is)
  done_by v (Open i) is other = absurd (let o = h.opened v i is in let k = h.covered i o.0 in none_in k.0 k.1)

  done : (v : ℕ) → v < count → (n : ℕ) × (mark_of marks v ≡ Done n)
  done v lt = done_by v (mark_of marks v) refl (met v lt)

  number_at : (v n : ℕ) → v < count → mark_of marks v ≡ Done n → get_or (map number_of marks) v 0 ≡ n
  number_at v n lt is = get_or-map number_of marks v New 0 (let c = h.count in omega (arith, c, long, lt)) ∙ ap number_of is

  falls_along : (a b n : ℕ) → mark_of marks a ≡ Done n → Reaches (LeadsIn rows) a b → (m : ℕ) × (mark_of marks b ≡ Done m) × (m ≤ n)
  falls_along a _ n is itself = (n, is, omega arith)
  falls_along a _ n is (through x y r l) =
      let f = falls_along a x n is r in
      let g = h.falls x y f.0 f.1 l in
      let m : ℕ = g.0 in
      (m, g.1, let p = f.2 in let q = g.2 in omega (arith, p, q))

  same_done : (v n m : ℕ) → mark_of marks v ≡ Done n → mark_of marks v ≡ Done m → n ≡ m
  same_done v n m p q = cc (p, q)

  both_reach : (a b : ℕ) → a < count → b < count → get_or (map number_of marks) a 0 ≡ get_or (map number_of marks) b 0 → Reaches (LeadsIn rows) a b
  both_reach a b wa wb e =
      let p = done a wa in
      let q = done b wb in
      let same : q.0 ≡ p.0 = sym (number_at b q.0 wb q.1) ∙ sym e ∙ number_at a p.0 wa p.1 in
      h.joined a b p.0 p.1 (q.1 ∙ ap Done same)

  lower : (a b : ℕ) → a < count → b < count → Reaches (LeadsIn rows) a b → get_or (map number_of marks) b 0 ≤ get_or (map number_of marks) a 0
  lower a b wa wb r =
      let p = done a wa in
      let f = falls_along a b p.0 p.1 r in
      let le = f.2 in
      omega (arith, le, number_at a p.0 wa p.1, number_at b f.0 wb f.1)

  to_edges : (a b : ℕ) → Reaches (LeadsIn rows) a b → Reaches (Leads edges) a b
  to_edges = along (LeadsIn rows) (Leads edges) are.leads

  to_rows : (a b : ℕ) → Reaches (Leads edges) a b → Reaches (LeadsIn rows) a b
  to_rows = along (Leads edges) (LeadsIn rows) are.all

  number_few : (m : Mark) (v : ℕ) → v < count → mark_of marks v ≡ m → number_of m < count
  number_few m v lt is =
      let d = done v lt in
      let n : ℕ = d.0 in
      let low = h.numbered v n d.1 in
      let f = h.few in
      let e : number_of m ≡ n = ap number_of (sym is ∙ d.1) in
      omega (arith, low, f, long, e)

  used_at : (a n : ℕ) → a < count → n ≤ get_or (map number_of marks) a 0 → (b : ℕ) × (b < count) × (get_or (map number_of marks) b 0 ≡ n)
  used_at a n wa le =
      let p = done a wa in
      let low = h.numbered a p.0 p.1 in
      let u = h.used n (omega (arith, le, low, number_at a p.0 wa p.1)) in
      let inside = marked_within marks u.0 (λ e. let is = u.1 in cc (is, e)) in
      let within : u.0 < count = let c = h.count in omega (arith, inside, c, long) in
      (u.0, within, number_at u.0 n within u.1)

  pub components_of : AreComponents count edges (map number_of marks)
  components_of = record {
    all = length-map marks number_of ∙ h.count ∙ long;
    few = All-map (λ (n : ℕ). n < count) number_of marks (λ k d lt. number_few (get_or marks k d) k (let c = h.count in omega (arith, lt, c, long)) (get_or_default marks k New d lt));
    used = used_at;
    together = λ a b wa wb. (
      λ e. (to_edges a b (both_reach a b wa wb e), to_edges b a (both_reach b a wb wa (sym e))),
      λ r. let p = lower a b wa wb (to_rows a b r.0) in let q = lower b a wb wa (to_rows b a r.1) in omega (arith, p, q),
    );
    targets_first = λ a b leads.
        let w = All-contains (λ (e : ℕ × ℕ). (e.0 < count) × (e.1 < count)) edges (a, b) within leads in
        lower a b w.0 w.1 (through a b itself (are.all a b leads));
  }
