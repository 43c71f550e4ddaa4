-- Numbers that a limit raises to 2^64: where they stand.
use Rattle.std.proofs.Common.{◌≡◌, ◌≤◌, ◌<◌, ℕ, zero, suc, Bool, true, false, List, [], ◌∷◌, ◌++◌, length, Option, Some, None, refl, sym, ap, subst, ◌∙◌, arith, inl, inr, append_assoc}
use Rattle.std.specs.Prelude.{◌==◌, ◌&&◌, not, if◌then◌else◌}
use Rattle.std.specs.List.{list_all}
use Rattle.std.proofs.lemmas.Bool.{and_parts, cases_Bool}
use Rattle.std.proofs.lemmas.Bool.Decides.{nat_tests}
use Rattle.pn_ranges.specs.declared.comparator.Sign.{Sign}
use Rattle.pn_ranges.specs.declared.comparator.Sign.TheVariants as x
use Rattle.pn_ranges.specs.Bytes.{is_body, is_lead, is_open, is_space, behind, front_of, starts_with}
use Rattle.pn_ranges.specs.Grammar.{IsPart, IsPartial, IsSign, IsTail, may_join}
use Rattle.pn_ranges.specs.Reading.{Begins}
use Rattle.pn_ranges.specs.Grammar as g
use Rattle.pn_ranges.specs.Overs.{OverAt, OverUpper, PartsAt, PlacedAt, parts_of}
use Rattle.pn_ranges.specs.Overs as o
use Rattle.pn_ranges.specs.Table.{Named, all_fit, any, full, limits, major, minor, named, raised, upper_limits, upper_raised}
use Rattle.pn_ranges.proofs.Comparisons.{and_first, starts-front}
use Rattle.pn_ranges.proofs.FrontOfLemmas.{front-all, front-behind}
use Rattle.pn_ranges.proofs.Spaced.{gap-front}

-- how many parts are named
one-named : (a : Option ℕ) (p : List ℕ) → parts_of (named a None None p) ≤ 1
one-named None p = omega arith
one-named (Some a) p = omega arith

two-named : (a b : Option ℕ) (p : List ℕ) → parts_of (named a b None p) ≤ 2
two-named None b p = omega arith
two-named (Some a) None p = omega arith
two-named (Some a) (Some b) p = omega arith

three-named : (a b c : Option ℕ) (p : List ℕ) → parts_of (named a b c p) ≤ 3
three-named None b c p = omega arith
three-named (Some a) None c p = omega arith
three-named (Some a) (Some b) None p = omega arith
three-named (Some a) (Some b) (Some c) p = omega arith

-- the places of parts that are read
pub one-placed : (text rest none : List ℕ) (a : Option ℕ) (left : ℕ → ℕ) → none ≡ [] → Begins IsPart text a rest → left 0 ≡ length text
    → PartsAt (named a None None none) left text rest
one-placed text rest none a left n f l0 = record {
  leads = [];
  partial = f.front;
  split = f.split;
  lead = refl;
  is = subst (λ z. IsPartial f.front (named a None None z)) (sym n) (g.one f.front a f.spelled);
  places = at;
} where
  at : (k : ℕ) → k < parts_of (named a None None none) → PlacedAt f.front rest k (left k)
  at zero h = record { from = f.front; is = o.here f.front; place = l0 ∙ ap (λ (y : List ℕ). length y) f.split }
  at (suc k) h = absurd (let m = one-named a none in omega arith)

pub two-placed : (text mid next rest none : List ℕ) (a b : Option ℕ) (left : ℕ → ℕ) → none ≡ [] → Begins IsPart text a mid → mid ≡ 46 ∷ next → Begins IsPart next b rest
    → left 0 ≡ length text → left 1 ≡ length next → PartsAt (named a b None none) left text rest
two-placed text mid next rest none a b left n f d h l0 l1 = record {
  leads = [];
  partial = f.front ++ 46 ∷ h.front;
  split = split;
  lead = refl;
  is = subst (λ z. IsPartial (f.front ++ 46 ∷ h.front) (named a b None z)) (sym n) (g.two f.front h.front a b f.spelled h.spelled);
  places = at;
} where
  split : text ≡ (f.front ++ 46 ∷ h.front) ++ rest
  split = f.split ∙ ap (λ z. f.front ++ z) (d ∙ ap (λ z. 46 ∷ z) h.split) ∙ sym (append_assoc f.front (46 ∷ h.front) rest)

  at : (k : ℕ) → k < parts_of (named a b None none) → PlacedAt (f.front ++ 46 ∷ h.front) rest k (left k)
  at zero y = record { from = f.front ++ 46 ∷ h.front; is = o.here (f.front ++ 46 ∷ h.front); place = l0 ∙ ap (λ (z : List ℕ). length z) split }
  at (suc zero) y = record { from = h.front; is = o.behind f.front h.front h.front a 0 f.spelled (o.here h.front); place = l1 ∙ ap (λ (z : List ℕ). length z) h.split }
  at (suc (suc k)) y = absurd (let m = two-named a b none in omega arith)

pub three-placed : (text mid next mid2 next2 mid3 rest pre : List ℕ) (a b c : Option ℕ) (left : ℕ → ℕ) → Begins IsPart text a mid → mid ≡ 46 ∷ next → Begins IsPart next b mid2
    → mid2 ≡ 46 ∷ next2 → Begins IsPart next2 c mid3 → Begins IsTail mid3 pre rest → left 0 ≡ length text → left 1 ≡ length next → left 2 ≡ length next2
    → PartsAt (named a b c pre) left text rest
three-placed text mid next mid2 next2 mid3 rest pre a b c left f d h e k t l0 l1 l2 = record {
  leads = [];
  partial = f.front ++ 46 ∷ (h.front ++ 46 ∷ (k.front ++ t.front));
  split = split0;
  lead = refl;
  is = g.three f.front h.front k.front t.front pre a b c f.spelled h.spelled k.spelled t.spelled;
  places = at;
} where
  split2 : next2 ≡ (k.front ++ t.front) ++ rest
  split2 = k.split ∙ ap (λ z. k.front ++ z) t.split ∙ sym (append_assoc k.front t.front rest)

  split1 : next ≡ (h.front ++ 46 ∷ (k.front ++ t.front)) ++ rest
  split1 = h.split ∙ ap (λ z. h.front ++ z) (e ∙ ap (λ z. 46 ∷ z) split2) ∙ sym (append_assoc h.front (46 ∷ (k.front ++ t.front)) rest)

  split0 : text ≡ (f.front ++ 46 ∷ (h.front ++ 46 ∷ (k.front ++ t.front))) ++ rest
  split0 = f.split ∙ ap (λ z. f.front ++ z) (d ∙ ap (λ z. 46 ∷ z) split1) ∙ sym (append_assoc f.front (46 ∷ (h.front ++ 46 ∷ (k.front ++ t.front))) rest)

  at : (i : ℕ) → i < parts_of (named a b c pre) → PlacedAt (f.front ++ 46 ∷ (h.front ++ 46 ∷ (k.front ++ t.front))) rest i (left i)
  at zero y = record { from = _; is = o.here _; place = l0 ∙ ap (λ (z : List ℕ). length z) split0 }
  at (suc zero) y = record { from = h.front ++ 46 ∷ (k.front ++ t.front); is = o.behind f.front _ _ a 0 f.spelled (o.here _); place = l1 ∙ ap (λ (z : List ℕ). length z) split1 }
  at (suc (suc zero)) y = record {
    from = k.front ++ t.front;
    is = o.behind f.front _ _ a 1 f.spelled (o.behind h.front _ _ b 0 h.spelled (o.here _));
    place = l2 ∙ ap (λ (z : List ℕ). length z) split2;
  }
  at (suc (suc (suc i))) y = absurd (let m = three-named a b c pre in omega arith)

pub all-append : (test : ℕ → Bool) (s t : List ℕ) → list_all test s ≡ true → list_all test t ≡ true → list_all test (s ++ t) ≡ true
all-append test [] t h k = k
all-append test (b ∷ s) t h k = elim (cases_Bool (test b)) [
  | inl holds ↦ rw holds (all-append test s t (rw holds at h) k)
  | inr fails ↦ absurd (let y : false ≡ true = rw fails at h in cc)
]

pub led-placed : (text after rest : List ℕ) (n : Named) (left : ℕ → ℕ) → after ≡ behind is_lead text → PartsAt n left after rest → PartsAt n left text rest
led-placed text after rest n left h p = record {
  leads = front_of is_lead text ++ p.leads;
  partial = p.partial;
  split = front-behind is_lead text ∙ ap (λ z. front_of is_lead text ++ z) (sym h ∙ p.split) ∙ sym (append_assoc (front_of is_lead text) p.leads (p.partial ++ rest));
  lead = all-append is_lead (front_of is_lead text) p.leads (front-all is_lead text) p.lead;
  is = p.is;
  places = p.places;
}

-- a limit that has a number of 2^64 raises a part that is named
any-fits : (s : Sign) → all_fit (limits s any) ≡ true
any-fits x.Exact = refl
any-fits x.Less = refl
any-fits x.AtMost = refl
any-fits x.Greater = refl
any-fits x.AtLeast = refl
any-fits x.Tilde = refl
any-fits x.Caret = refl

one-of : (b : Bool) (m n top : ℕ) → m < top → n < top → (if b then m else n) < top
one-of true m n top h k = h
one-of false m n top h k = k

raised-named : (s : Sign) (n : Named) → all_fit (limits s n) ≡ false → raised s n < parts_of n
raised-named s any h = absurd (let y : true ≡ false = sym (any-fits s) ∙ h in cc)
raised-named s (major a) h = omega arith
raised-named s (minor a b) h = one-of _ 0 1 2 (omega arith) (omega arith)
raised-named s (full a b c pre) h = one-of _ 1 _ 3 (omega arith) (one-of _ 0 _ 3 (omega arith) (one-of _ 1 2 3 (omega arith) (omega arith)))

upper-named : (n : Named) → all_fit (upper_limits n) ≡ false → upper_raised n < parts_of n
upper-named any h = cc h
upper-named (major a) h = omega arith
upper-named (minor a b) h = omega arith
upper-named (full a b c pre) h = omega arith

-- nothing of a version stands before its first part
abbrev pub shut : ℕ → Bool
shut b = not (is_open b)

lead-shut : (b : ℕ) → is_lead b ≡ true → shut b ≡ true
lead-shut b h = grind (arith, nat_tests)

pub space-shut : (b : ℕ) → is_space b ≡ true → shut b ≡ true
space-shut b h = grind (arith, nat_tests)

leads-shut : (t : List ℕ) → list_all is_lead t ≡ true → list_all shut t ≡ true
leads-shut [] h = refl
leads-shut (b ∷ t) h = rw (lead-shut b (and_parts (is_lead b) (list_all is_lead t) h).0) (leads-shut t (and_parts (is_lead b) (list_all is_lead t) h).1)

pub spaces-shut : (t : List ℕ) → list_all is_space t ≡ true → list_all shut t ≡ true
spaces-shut [] h = refl
spaces-shut (b ∷ t) h = rw (space-shut b (and_parts (is_space b) (list_all is_space t) h).0) (spaces-shut t (and_parts (is_space b) (list_all is_space t) h).1)

sign-shut : (t : List ℕ) (s : Sign) → IsSign t s → list_all shut t ≡ true
sign-shut _ _ g.absent = refl
sign-shut _ _ g.equal = refl
sign-shut _ _ g.less = refl
sign-shut _ _ g.at_most = refl
sign-shut _ _ g.greater = refl
sign-shut _ _ g.at_least = refl
sign-shut _ _ g.tilde = refl
sign-shut _ _ g.tilde_greater = refl
sign-shut _ _ g.caret = refl

pub comparator-over : (text mid after rest : List ℕ) (s : Sign) (n : Named) (left : ℕ → ℕ) → Begins IsSign text s mid → (may_join s && starts_with (λ b. b == 61) mid) ≡ false
    → after ≡ behind is_space mid → PartsAt n left after rest → all_fit (limits s n) ≡ false → starts_with is_body rest ≡ false → OverAt text rest (left (raised s n))
comparator-over text mid after rest s n left f longest a p fit ends =
    let spaces = front_of is_space mid in
    let whole : mid ≡ (spaces ++ (p.leads ++ p.partial)) ++ rest = front-behind is_space mid ∙ ap (λ y. spaces ++ y) (sym a ∙ p.split) ∙ simp append_assoc in
    let at = p.places (raised s n) (raised-named s n fit) in
    let alone = and_first (may_join s) (starts_with (λ b. b == 61) mid) (starts_with (λ b. b == 61) (spaces ++ (p.leads ++ p.partial))) longest
    (λ none. starts-front (λ b. b == 61) (spaces ++ (p.leads ++ p.partial)) rest (subst (λ y. starts_with (λ b. b == 61) y ≡ false) whole none)) in
    record {
      front = f.front ++ (spaces ++ (p.leads ++ p.partial));
      from = at.from;
      sign = s;
      name = n;
      split = f.split ∙ ap (λ y. f.front ++ y) whole ∙ sym (append_assoc f.front (spaces ++ (p.leads ++ p.partial)) rest);
      read = g.comparator f.front spaces (p.leads ++ p.partial) s n f.spelled (front-all is_space mid) (g.end p.leads p.partial n p.lead p.is) alone;
      ends = ends;
      large = fit;
      part = record {
        before = f.front ++ (spaces ++ p.leads);
        partial = p.partial;
        split = simp append_assoc;
        outside = all-append shut f.front (spaces ++ p.leads) (sign-shut f.front s f.spelled)
            (all-append shut spaces p.leads (spaces-shut spaces (front-all is_space mid)) (leads-shut p.leads p.lead));
        is = p.is;
        part = at.is;
      };
      place = at.place;
    }

pub upper-over : (text start rest : List ℕ) (n : Named) (left : ℕ → ℕ) → starts_with is_space text ≡ true → start ≡ behind is_space text → PartsAt n left start rest
    → starts_with is_body rest ≡ false → all_fit (upper_limits n) ≡ false → OverUpper text (left (upper_raised n))
upper-over text start rest n left s h p ends fit =
    let at = p.places (upper_raised n) (upper-named n fit) in
    record {
      gaps = front_of is_space text;
      front = p.leads ++ p.partial;
      rest = rest;
      from = at.from;
      name = n;
      split = front-behind is_space text ∙ ap (λ y. front_of is_space text ++ y) (sym h ∙ p.split ∙ sym (append_assoc p.leads p.partial rest));
      apart = gap-front text s;
      read = g.end p.leads p.partial n p.lead p.is;
      ends = ends;
      large = fit;
      part = record { before = p.leads; partial = p.partial; split = refl; outside = leads-shut p.leads p.lead; is = p.is; part = at.is };
      place = at.place;
    }
