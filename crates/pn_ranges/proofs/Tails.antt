-- Pre-releases and builds: their grammar, and the automaton over them.
use Rattle.std.proofs.Common.{◌≡◌, ◌-◌, ℕ, Bool, true, false, List, [], ◌∷◌, ◌++◌, length, take, refl, sym, ap, subst, ◌∙◌, arith, inl, inr, append_assoc, length-append}
use Rattle.std.specs.Prelude.{◌==◌}
use Rattle.std.proofs.Math.Seq.{take-append_seam}
use Rattle.std.proofs.lemmas.Bool.{and_right, cases_Bool}
use Rattle.semver.specs.Grammar.{is_build_identifier, is_identifier_byte, is_pre_identifier}
use Rattle.pn_ranges.specs.Bytes.{is_word, starts_with}
use Rattle.pn_ranges.specs.Grammar.{AreIdentifiers, IsBuild, IsTail}
use Rattle.pn_ranges.specs.Reading.{Begins, Fronted, Spanned}
use Rattle.pn_ranges.specs.Grammar as g
use Rattle.pn_ranges.specs.Places.{Turn, whole, hyphen, pre, plus, build, first_fault, fault_after, fault_build}
use Rattle.pn_ranges.proofs.FirstFaultLemmas.{after-same}

identifiers-snoc : (right : List ℕ → Bool) (t x : List ℕ) → AreIdentifiers right t → right x ≡ true → AreIdentifiers right (t ++ 46 ∷ x)
identifiers-snoc right t x (g.one _ h) r = g.more t x h (g.one x r)
identifiers-snoc right t x (g.more y u h a) r = subst (AreIdentifiers right) (sym (append_assoc y (46 ∷ u) (46 ∷ x))) (g.more y (u ++ 46 ∷ x) h (identifiers-snoc right u x a r))

-- the first identifier
pub first_identifier : (right : List ℕ → Bool) (text rest : List ℕ) → Spanned right text rest → Fronted (AreIdentifiers right) text rest
first_identifier right text rest s = record { front = s.front; split = s.split; is = g.one s.front s.passes }

-- one identifier more
pub next_identifier : (right : List ℕ → Bool) (text mid rest back : List ℕ) (b : ℕ) → Fronted (AreIdentifiers right) text mid → mid ≡ b ∷ rest → b ≡ 46
    → Spanned right rest back → Fronted (AreIdentifiers right) text back
next_identifier right text mid rest back b f m d s = record {
  front = f.front ++ 46 ∷ s.front;
  split = f.split ∙ ap (λ x. f.front ++ x) (m ∙ ap (λ x. x ∷ rest) d ∙ ap (λ x. 46 ∷ x) s.split) ∙ sym (append_assoc f.front (46 ∷ s.front) back);
  is = identifiers-snoc right f.front s.front f.is s.passes;
}

-- the automaton at a dot
pub pre-dot : (e : Turn) (mid rest : List ℕ) (b : ℕ) → mid ≡ b ∷ rest → b ≡ 46 → first_fault (pre e) mid ≡ first_fault (hyphen e) rest
pre-dot e mid rest b m d = ap (first_fault (pre e)) (m ∙ ap (λ x. x ∷ rest) d)

pub build-dot : (e : Turn) (mid rest : List ℕ) (b : ℕ) → mid ≡ b ∷ rest → b ≡ 46 → first_fault (build e) mid ≡ first_fault (plus e) rest
build-dot e mid rest b m d = ap (first_fault (build e)) (m ∙ ap (λ x. x ∷ rest) d)

-- where identifiers end
pub build-after : (e : Turn) (text : List ℕ) → starts_with is_word text ≡ false → first_fault (build e) text ≡ fault_after e text
build-after e [] h = refl
build-after e (b ∷ rest) h = elim (cases_Bool (is_identifier_byte b)) [
  | inl word ↦ absurd (let x : true ≡ false = rw word at h in cc)
  | inr other ↦ let dot : (b == 46) ≡ false = rw other at h in rw (other, dot) (after-same (build e) e b rest)
]

pub pre-build : (e : Turn) (text : List ℕ) → starts_with is_word text ≡ false → first_fault (pre e) text ≡ fault_build e text
pre-build e [] h = refl
pre-build e (b ∷ rest) h = elim (cases_Bool (is_identifier_byte b)) [
  | inl word ↦ absurd (let x : true ≡ false = rw word at h in cc)
  | inr other ↦
      let dot : (b == 46) ≡ false = rw other at h in
      elim (cases_Bool (b == 43)) [
        | inl mark ↦ rw (other, dot, mark) refl
        | inr nomark ↦ rw (other, dot, nomark) (after-same (pre e) e b rest)
      ]
]

-- behind three parts
pub whole-build : (e : Turn) (text : List ℕ) → starts_with (λ b. b == 45) text ≡ false → first_fault (whole e 3) text ≡ fault_build e text
whole-build e [] h = refl
whole-build e (b ∷ rest) h = elim (cases_Bool (b == 43)) [
  | inl mark ↦ rw (and_right (b == 46) false refl, h, mark) refl
  | inr nomark ↦ rw (and_right (b == 46) false refl, h, nomark) (after-same (whole e 3) e b rest)
]

pub whole-hyphen : (e : Turn) (text rest : List ℕ) (b : ℕ) → text ≡ b ∷ rest → b ≡ 45 → first_fault (whole e 3) text ≡ first_fault (hyphen e) rest
whole-hyphen e text rest b t h = ap (first_fault (whole e 3)) (t ∙ ap (λ x. x ∷ rest) h)

-- the grammar of builds
pub absent-build : (text : List ℕ) → Fronted IsBuild text text
absent-build text = record { front = []; split = refl; is = g.absent }

pub some-build : (text rest back : List ℕ) (b : ℕ) → text ≡ b ∷ rest → b ≡ 43 → Fronted (AreIdentifiers is_build_identifier) rest back → Fronted IsBuild text back
some-build text rest back b t m f = record {
  front = 43 ∷ f.front;
  split = t ∙ ap (λ x. x ∷ rest) m ∙ ap (λ x. 43 ∷ x) f.split;
  is = g.build f.front f.is;
}

-- the grammar of tails
pub bare-tail : (text rest none : List ℕ) → none ≡ [] → Fronted IsBuild text rest → Begins IsTail text none rest
bare-tail text rest none n f = record { front = f.front; split = f.split; spelled = subst (IsTail f.front) (sym n) (g.bare f.front f.is) }

take-front : (f r : List ℕ) → take (length (f ++ r) - length r) (f ++ r) ≡ f
take-front f r = let n : length (f ++ r) - length r ≡ length f = omega (arith, length-append f r) in rw n (take-append_seam f r)

pub pre-tail : (text rest mid back p : List ℕ) (b : ℕ) → text ≡ b ∷ rest → b ≡ 45 → Fronted (AreIdentifiers is_pre_identifier) rest mid
    → p ≡ take (length rest - length mid) rest → Fronted IsBuild mid back → Begins IsTail text p back
pre-tail text rest mid back p b t m f cut k =
    let same : p ≡ f.front = cut ∙ ap (λ (x : List ℕ). take (length x - length mid) x) f.split ∙ take-front f.front mid in
    record {
      front = 45 ∷ (f.front ++ k.front);
      split = t ∙ ap (λ x. x ∷ rest) m ∙ ap (λ x. 45 ∷ x) (f.split ∙ ap (λ x. f.front ++ x) k.split ∙ sym (append_assoc f.front k.front back));
      spelled = subst (IsTail (45 ∷ (f.front ++ k.front))) (sym same) (g.pre f.front k.front f.is k.is);
    }
