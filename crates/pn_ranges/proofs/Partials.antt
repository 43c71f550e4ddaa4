-- Partial versions: their grammar, and the automaton over them.
use Rattle.std.proofs.Common.{◌≡◌, ℕ, false, List, [], ◌∷◌, ◌++◌, Option, None, refl, sym, ap, subst, ◌∙◌, append_assoc}
use Rattle.std.specs.Prelude.{◌==◌}
use Rattle.std.proofs.lemmas.Bool.{and_right}
use Rattle.pn_ranges.specs.Bytes.{is_lead, front_of, behind, starts_with}
use Rattle.pn_ranges.specs.Grammar.{IsPart, IsPartial, IsTail, IsEnd}
use Rattle.pn_ranges.specs.Reading.{Begins}
use Rattle.pn_ranges.specs.Grammar as g
use Rattle.pn_ranges.specs.Places.{Turn, lead, dot, whole, first_fault, fault_after}
use Rattle.pn_ranges.specs.Table.{Named, named}
use Rattle.pn_ranges.proofs.FrontOfLemmas.{front-behind, front-all, behind-stops}
use Rattle.pn_ranges.proofs.FirstFaultLemmas.{after-same, run}

pub whole-dot1 : (e : Turn) (text rest : List ℕ) → text ≡ 46 ∷ rest → first_fault (whole e 1) text ≡ first_fault (dot e 1) rest
whole-dot1 e text rest t = ap (first_fault (whole e 1)) t

pub whole-dot2 : (e : Turn) (text rest : List ℕ) → text ≡ 46 ∷ rest → first_fault (whole e 2) text ≡ first_fault (dot e 2) rest
whole-dot2 e text rest t = ap (first_fault (whole e 2)) t

pub whole-end1 : (e : Turn) (text : List ℕ) → starts_with (λ b. b == 46) text ≡ false → first_fault (whole e 1) text ≡ fault_after e text
whole-end1 e [] h = refl
whole-end1 e (b ∷ rest) h = rw (h, and_right (b == 45) false refl, and_right (b == 43) false refl) (after-same (whole e 1) e b rest)

pub whole-end2 : (e : Turn) (text : List ℕ) → starts_with (λ b. b == 46) text ≡ false → first_fault (whole e 2) text ≡ fault_after e text
whole-end2 e [] h = refl
whole-end2 e (b ∷ rest) h = rw (h, and_right (b == 45) false refl, and_right (b == 43) false refl) (after-same (whole e 2) e b rest)

-- where no `v` or `=` comes, a part does
pub lead-dot : (e : Turn) (text : List ℕ) → starts_with is_lead text ≡ false → first_fault (lead e) text ≡ first_fault (dot e 0) text
lead-dot e [] h = refl
lead-dot e (b ∷ rest) h = rw h refl

pub lead-run : (e : Turn) (text : List ℕ) → first_fault (lead e) text ≡ first_fault (lead e) (behind is_lead text)
lead-run e = run (lead e) is_lead (λ b h. rw h refl)

pub lead-end : (e : Turn) (text after : List ℕ) → after ≡ behind is_lead text → first_fault (lead e) text ≡ first_fault (dot e 0) after
lead-end e text after h = lead-run e text ∙ lead-dot e (behind is_lead text) (behind-stops is_lead text) ∙ ap (first_fault (dot e 0)) (sym h)

pub one-partial : (text rest none : List ℕ) (a : Option ℕ) → none ≡ [] → Begins IsPart text a rest → Begins IsPartial text (named a None None none) rest
one-partial text rest none a n f = record {
  front = f.front;
  split = f.split;
  spelled = subst (λ x. IsPartial f.front (named a None None x)) (sym n) (g.one f.front a f.spelled);
}

pub two-partial : (text mid rest back none : List ℕ) (a b : Option ℕ) → none ≡ [] → Begins IsPart text a mid → mid ≡ 46 ∷ rest → Begins IsPart rest b back
    → Begins IsPartial text (named a b None none) back
two-partial text mid rest back none a b n f d h = record {
  front = f.front ++ 46 ∷ h.front;
  split = f.split ∙ ap (λ x. f.front ++ x) (d ∙ ap (λ x. 46 ∷ x) h.split) ∙ sym (append_assoc f.front (46 ∷ h.front) back);
  spelled = subst (λ x. IsPartial (f.front ++ 46 ∷ h.front) (named a b None x)) (sym n) (g.two f.front h.front a b f.spelled h.spelled);
}

pub three-partial : (text mid rest mid2 rest2 mid3 back pre : List ℕ) (a b c : Option ℕ) → Begins IsPart text a mid → mid ≡ 46 ∷ rest → Begins IsPart rest b mid2 → mid2 ≡ 46 ∷ rest2
    → Begins IsPart rest2 c mid3 → Begins IsTail mid3 pre back → Begins IsPartial text (named a b c pre) back
three-partial text mid rest mid2 rest2 mid3 back pre a b c f d h d2 k s = record {
  front = f.front ++ 46 ∷ (h.front ++ 46 ∷ (k.front ++ s.front));
  split = f.split ∙ ap (λ x. f.front ++ x) (d ∙ ap (λ x. 46 ∷ x) (h.split ∙ ap (λ x. h.front ++ x) (d2 ∙ ap (λ x. 46 ∷ x) (k.split ∙ ap (λ x. k.front ++ x) s.split))))
      ∙ simp append_assoc;
  spelled = g.three f.front h.front k.front s.front pre a b c f.spelled h.spelled k.spelled s.spelled;
}

pub led-end : (text after rest : List ℕ) (n : Named) → after ≡ behind is_lead text → Begins IsPartial after n rest → Begins IsEnd text n rest
led-end text after rest n h f = record {
  front = front_of is_lead text ++ f.front;
  split = front-behind is_lead text ∙ ap (λ x. front_of is_lead text ++ x) (sym h ∙ f.split) ∙ sym (append_assoc (front_of is_lead text) f.front rest);
  spelled = g.end (front_of is_lead text) f.front n (front-all is_lead text) f.spelled;
}
