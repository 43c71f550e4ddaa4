-- Comparators: their grammar, and the automaton over them.
use Rattle.std.proofs.Common.{◌≡◌, ℕ, Bool, true, false, List, [], ◌∷◌, ◌++◌, refl, sym, ap, subst, ◌∙◌, append_assoc}
use Rattle.std.specs.Prelude.{◌==◌, ◌&&◌, not, if◌then◌else◌}
use Rattle.std.proofs.lemmas.Bool.{and_parts, not-true}
use Rattle.pn_ranges.specs.declared.comparator.Sign.{Sign}
use Rattle.pn_ranges.specs.declared.comparator.Sign.TheVariants as x
use Rattle.pn_ranges.specs.Bytes.{is_space, front_of, behind, starts_with}
use Rattle.pn_ranges.specs.Grammar.{IsComparator, IsEnd, IsSign, may_join}
use Rattle.pn_ranges.specs.Reading.{Begins, IsCompared}
use Rattle.pn_ranges.specs.Grammar as g
use Rattle.pn_ranges.specs.Places.{Turn, later, lead, operand, first_fault, fault_signed, is_exact, turn_of}
use Rattle.pn_ranges.specs.Table.{Named}
use Rattle.pn_ranges.proofs.FrontOfLemmas.{front-behind, front-all, behind-same, behind-stops}
use Rattle.pn_ranges.proofs.FirstFaultLemmas.{run}

pub no-sign : (text : List ℕ) → Begins IsSign text x.Exact text
no-sign text = record { front = []; split = refl; spelled = g.absent }

pub one-sign : (text rest : List ℕ) (b c : ℕ) (s : Sign) → text ≡ b ∷ rest → b ≡ c → IsSign (c ∷ []) s → Begins IsSign text s rest
one-sign text rest b c s t h i = record { front = c ∷ []; split = t ∙ ap (λ y. y ∷ rest) h; spelled = i }

pub two-signs : (text rest back : List ℕ) (b c d : ℕ) (s : Sign) → text ≡ b ∷ rest → b ≡ c → rest ≡ d ∷ back → IsSign (c ∷ d ∷ []) s → Begins IsSign text s back
two-signs text rest back b c d s t h r i = record { front = c ∷ d ∷ []; split = t ∙ ap (λ y. y ∷ rest) h ∙ ap (λ y. c ∷ y) r; spelled = i }

-- what a text doesn't begin with, its front doesn't either
pub starts-front : (test : ℕ → Bool) (u rest : List ℕ) → starts_with test (u ++ rest) ≡ false → starts_with test u ≡ false
starts-front test [] rest h = refl
starts-front test (b ∷ u) rest h = h

pub and_first : (m a b : Bool) → (m && a) ≡ false → (a ≡ false → b ≡ false) → (m && b) ≡ false
and_first true a b h f = f h
and_first false a b h f = refl

pub comparator-read : (text mid after rest : List ℕ) (s : Sign) (n : Named) → Begins IsSign text s mid → (may_join s && starts_with (λ b. b == 61) mid) ≡ false
    → after ≡ behind is_space mid → Begins IsEnd after n rest → Begins IsCompared text (s, n) rest
comparator-read text mid after rest s n f longest a h =
    let spaces = front_of is_space mid in
    let whole : mid ≡ (spaces ++ h.front) ++ rest = front-behind is_space mid ∙ ap (λ y. spaces ++ y) (sym a ∙ h.split) ∙ sym (append_assoc spaces h.front rest) in
    record {
      front = f.front ++ (spaces ++ h.front);
      split = f.split ∙ ap (λ y. f.front ++ y) whole ∙ sym (append_assoc f.front (spaces ++ h.front) rest);
      spelled = g.comparator f.front spaces h.front s n f.spelled (front-all is_space mid) h.spelled
          (and_first (may_join s) (starts_with (λ b. b == 61) mid) (starts_with (λ b. b == 61) (spaces ++ h.front)) longest
          (λ none. starts-front (λ b. b == 61) (spaces ++ h.front) rest (subst (λ y. starts_with (λ b. b == 61) y ≡ false) whole none)));
    }

lead-more : (t : List ℕ) (n : Named) → IsEnd t n → IsEnd (61 ∷ t) n
lead-more t n (g.end l u _ h p) = g.end (61 ∷ l) u n h p

exact-end : (o t : List ℕ) (s : Sign) (n : Named) → IsSign o s → is_exact s ≡ true → IsEnd t n → IsEnd (o ++ t) n
exact-end _ t _ n g.absent e h = h
exact-end _ t _ n g.equal e h = lead-more t n h
exact-end _ t _ n g.less e h = cc e
exact-end _ t _ n g.at_most e h = cc e
exact-end _ t _ n g.greater e h = cc e
exact-end _ t _ n g.at_least e h = cc e
exact-end _ t _ n g.tilde e h = cc e
exact-end _ t _ n g.tilde_greater e h = cc e
exact-end _ t _ n g.caret e h = cc e

pub plain-end : (text mid after rest : List ℕ) (s : Sign) (n : Named) → Begins IsSign text s mid → (is_exact s && not (starts_with is_space mid)) ≡ true
    → after ≡ behind is_space mid → Begins IsEnd after n rest → Begins IsEnd text n rest
plain-end text mid after rest s n f plain a h =
    let same : mid ≡ after = sym (a ∙ behind-same is_space mid (not-true _ (and_parts (is_exact s) _ plain).1)) in
    record {
      front = f.front ++ h.front;
      split = f.split ∙ ap (λ y. f.front ++ y) (same ∙ h.split) ∙ sym (append_assoc f.front h.front rest);
      spelled = exact-end f.front h.front s n f.spelled (and_parts _ (not (starts_with is_space mid)) plain).0 h.spelled;
    }

pub operand-lead : (text : List ℕ) → starts_with is_space text ≡ false → first_fault operand text ≡ first_fault (lead later) text
operand-lead [] h = refl
operand-lead (b ∷ rest) h = rw h refl

operand-run : (text : List ℕ) → first_fault operand text ≡ first_fault operand (behind is_space text)
operand-run = run operand is_space (λ b h. rw h refl)

-- behind an operator an end comes
pub signed-lead : (e : Turn) (s : Sign) (mid after : List ℕ) (plain : Bool) → plain ≡ (is_exact s && not (starts_with is_space mid)) → after ≡ behind is_space mid
    → fault_signed s e mid ≡ first_fault (lead (turn_of plain e)) after
signed-lead e s mid after true p a =
    let same : after ≡ mid = a ∙ behind-same is_space mid (not-true (starts_with is_space mid) (and_parts (is_exact s) (not (starts_with is_space mid)) (sym p)).1) in
    ap (λ v. if v then first_fault (lead e) mid else first_fault operand mid) (sym p) ∙ ap (first_fault (lead e)) (sym same)
signed-lead e s mid after false p a =
    ap (λ v. if v then first_fault (lead e) mid else first_fault operand mid) (sym p) ∙ operand-run mid ∙ operand-lead (behind is_space mid) (behind-stops is_space mid) ∙ ap (first_fault (lead later)) (sym a)

pub end-comparator : (t : List ℕ) (n : Named) → IsEnd t n → IsComparator t x.Exact n
end-comparator t n i = g.comparator [] [] t x.Exact n g.absent refl i refl
