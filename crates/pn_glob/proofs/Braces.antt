-- The choices of braces.
use Rattle.std.proofs.Common.{◌≡◌, ◌≤◌, ◌<◌, ◌+◌, ◌-◌, ℕ, suc, Bool, true, false, List, [], ◌∷◌, ◌++◌, length, map, take, Vec, Global, refl, sym, ap, subst, ◌∙◌, inl, inr, arith, Result, Ok, Err, IfErr, append_assoc, append-nil, length-append}
use Rattle.std.specs.Prelude.{◌==◌}
use Rattle.std.specs.List.{list_all}
use Rattle.std.specs.Result.{IsErrAnd}
use Rattle.std.proofs.lemmas.Bool.{and_from, and_parts, eqb-true, or_cases}
use Rattle.pn_glob.specs.Bytes.{is_bracket}
use Rattle.pn_glob.specs.Grammar.{Chosen, Spells, each_with, ends_choice, is_inner, is_plain, one, more, empty, plain, brace, outside, inside}
use Rattle.pn_glob.specs.Reading.{BadInner, ChoiceAt, FrontOf, Grown, NoChoice, Opened, OpenedAt, SpelledAt, Stops, StopsIn, starts_with, first, comma}
use Rattle.pn_glob.specs.declared.fault.Stop.{Stop}
use Rattle.pn_glob.specs.declared.fault.Stop.TheVariants as stop
use Rattle.pn_glob.proofs.Gaps.{eq-false}

pub front-more : (test : ℕ → Bool) (x : List ℕ) (b : ℕ) → list_all test x ≡ true → test b ≡ true → list_all test (x ++ b ∷ []) ≡ true
front-more test [] b f h = and_from (test b) true h refl
front-more test (a ∷ x) b f h = and_from (test a) _ (and_parts (test a) _ f).0 (front-more test x b (and_parts (test a) _ f).1 h)

take-front : (x rest : List ℕ) → take (length x) (x ++ rest) ≡ x
take-front [] rest = refl
take-front (b ∷ x) rest = ap (λ z. b ∷ z) (take-front x rest)

-- the front of a text by the length of its rest
pub front-taken : (text x rest : List ℕ) → text ≡ x ++ rest → take (length text - length rest) text ≡ x
front-taken text x rest h =
    let n = ap (λ (y : List ℕ). length y) h ∙ length-append x rest in
    let m : length text - length rest ≡ length x = omega arith in
    ap (λ z. take z text) m ∙ ap (λ (y : List ℕ). take (length x) y) h ∙ take-front x rest

pub opened-chosen : (cs : List (List ℕ)) (u x : List ℕ) (ds : List (List ℕ)) → Opened cs u ds → list_all is_inner x ≡ true → Chosen cs (u ++ x) (ds ++ each_with cs x)
opened-chosen cs _ x _ first h = one x h
opened-chosen cs _ x _ (comma u ds c few) h = subst (λ (y : List ℕ). Chosen cs y (ds ++ each_with cs x)) (sym (append_assoc u (44 ∷ []) x)) (more u x ds c few h)

-- the texts of a vector of byte vectors
abbrev pub items_of : List (Vec ℕ Global) → List (List ℕ)
items_of vs = map (λ (v : Vec ℕ Global). v.items) vs

pub exit_with : {T : Type 0} (P : Stop → Type 0) (r : Result T Stop) (x : Stop) → IsErrAnd r (λ y. y ≡ x) → P x → IfErr r P
exit_with P (Ok v) x h p = tt
exit_with P (Err s) x h p = subst P (sym h) p

pub opened-start : (cs : List (List ℕ)) (text : List ℕ) (ds : List (List ℕ)) → ds ≡ [] → OpenedAt cs text ds text
opened-start cs text ds e = record { front = []; split = refl; opened = subst (λ (d : List (List ℕ)). Opened cs [] d) (sym e) first }

-- a brace up to the end of a choice
pub record ChosenAt (cs : List (List ℕ)) (text : List ℕ) (ds : List (List ℕ)) (b : ℕ) (rest : List ℕ) : Type 0 where
  pub inner : List ℕ
  pub split : text ≡ inner ++ b ∷ rest
  pub chosen : Chosen cs inner ds
  pub ends : ends_choice (b ∷ rest) ≡ true

pub chosen-at : (cs : List (List ℕ)) (text : List ℕ) (ds : List (List ℕ)) (rest x : List ℕ) (b : ℕ) (behind : List ℕ) (es : List (List ℕ))
    → OpenedAt cs text ds rest → ChoiceAt rest x b behind → es ≡ ds ++ each_with cs x → ChosenAt cs text es b behind
chosen-at cs text ds rest x b behind es o c e = record {
  inner = o.front ++ x;
  split = o.split ∙ ap (λ (y : List ℕ). o.front ++ y) c.split ∙ sym (append_assoc o.front x (b ∷ behind));
  chosen = subst (λ (d : List (List ℕ)). Chosen cs (o.front ++ x) d) (sym e) (opened-chosen cs o.front x ds o.opened c.inner);
  ends = c.ends;
}

pub closed-grown : (cs : List (List ℕ)) (text : List ℕ) (ds : List (List ℕ)) (b : ℕ) (rest : List ℕ) → ChosenAt cs text ds b rest → b ≡ 125 → length ds ≤ 64
    → Grown cs (123 ∷ text) ds rest
closed-grown cs text ds b rest c e few =
    let split : text ≡ c.inner ++ 125 ∷ rest = c.split ∙ ap (λ y. c.inner ++ y ∷ rest) e in
    record {
      front = 123 ∷ (c.inner ++ 125 ∷ []);
      split = ap (λ (y : List ℕ). 123 ∷ y) (split ∙ sym (append_assoc c.inner (125 ∷ []) rest));
      spells = λ t s. brace t c.inner cs ds s c.chosen few;
      shorter = let n = ap (λ (y : List ℕ). length y) split ∙ length-append c.inner (125 ∷ rest) in omega arith;
    }

pub comma-opened : (cs : List (List ℕ)) (text : List ℕ) (ds : List (List ℕ)) (b : ℕ) (rest : List ℕ) → ChosenAt cs text ds b rest → (b ≡ 125 → ⊥) → length ds ≤ 64
    → OpenedAt cs text ds rest
comma-opened cs text ds b rest c ne few =
    let e : b ≡ 44 = elim (or_cases (b == 44) (b == 125) c.ends) [ inl same ↦ eqb-true b 44 same | inr close ↦ absurd (ne (eqb-true b 125 close)) ] in
    record {
      front = c.inner ++ 44 ∷ [];
      split = c.split ∙ ap (λ y. c.inner ++ y ∷ rest) e ∙ sym (append_assoc c.inner (44 ∷ []) rest);
      opened = comma c.inner ds c.chosen few;
    }

pub many-stops : (cs : List (List ℕ)) (text : List ℕ) (ds : List (List ℕ)) (b : ℕ) (rest : List ℕ) → ChosenAt cs text ds b rest → 64 < length ds → StopsIn cs (123 ∷ text) stop.TooMany
many-stops cs text ds b rest c many = λ t s. record {
  front = t;
  inner = c.inner;
  after = b ∷ rest;
  before = cs;
  chosen = ds;
  split = ap (λ (y : List ℕ). t ++ 123 ∷ y) c.split;
  spelled = s;
  choices = c.chosen;
  ends = c.ends;
  many = many;
}

open-stops : (cs : List (List ℕ)) (text : List ℕ) (ds : List (List ℕ)) (rest : List ℕ) → OpenedAt cs text ds rest → list_all is_inner rest ≡ true → StopsIn cs (123 ∷ text) stop.End
open-stops cs text ds rest o h = λ t s. record {
  front = t;
  inner = text;
  before = cs;
  chosen = ds ++ each_with cs rest;
  split = refl;
  spelled = s;
  choices = subst (λ (y : List ℕ). Chosen cs y (ds ++ each_with cs rest)) (sym o.split) (opened-chosen cs o.front rest ds o.opened h);
}

bad-stops : (cs : List (List ℕ)) (text : List ℕ) (ds : List (List ℕ)) (rest : List ℕ) (left : ℕ) → OpenedAt cs text ds rest → BadInner rest left → StopsIn cs (123 ∷ text) (stop.Byte left)
bad-stops cs text ds rest left o x = λ t s.
    let inner : List ℕ = o.front ++ x.front in
    let split : text ≡ inner ++ x.byte ∷ x.after = o.split ∙ ap (λ (y : List ℕ). o.front ++ y) x.split ∙ sym (append_assoc o.front x.front (x.byte ∷ x.after)) in
    let whole : t ++ 123 ∷ text ≡ (t ++ 123 ∷ inner) ++ x.byte ∷ x.after = ap (λ (y : List ℕ). t ++ 123 ∷ y) split ∙ sym (append_assoc t (123 ∷ inner) (x.byte ∷ x.after)) in (
      length (t ++ 123 ∷ inner),
      record {
        front = t ++ 123 ∷ inner;
        byte = x.byte;
        after = x.after;
        split = whole;
        stopped = inside t inner cs (ds ++ each_with cs x.front) x.byte s (opened-chosen cs o.front x.front ds o.opened x.inner) x.bracket x.other;
        place = refl;
      },
      ap (λ z. length (t ++ 123 ∷ inner) + z) x.place ∙ sym (length-append (t ++ 123 ∷ inner) (x.byte ∷ x.after)) ∙ sym (ap (λ (y : List ℕ). length y) whole),
    )

pub no-choice : (cs : List (List ℕ)) (text : List ℕ) (ds : List (List ℕ)) (rest : List ℕ) (s : Stop) → OpenedAt cs text ds rest → NoChoice rest s → StopsIn cs (123 ∷ text) s
no-choice cs text ds rest stop.End o h = open-stops cs text ds rest o h
no-choice cs text ds rest (stop.Byte left) o h = bad-stops cs text ds rest left o h
no-choice cs text ds rest stop.TooMany o h = absurd h
no-choice cs text ds rest stop.Memory o h = absurd h

filled : (text x rest : List ℕ) → starts_with is_plain text ≡ true → text ≡ x ++ rest → starts_with is_plain rest ≡ false → length rest < length text
filled text [] rest p e n = cc (sym p ∙ ap (starts_with is_plain) e ∙ n)
filled text (b ∷ x) rest p e n = let l = ap (λ (y : List ℕ). length y) e ∙ ap (λ z. suc z) (length-append x rest) in omega arith

pub plain-grown : (cs : List (List ℕ)) (text : List ℕ) (ds : List (List ℕ)) (rest x : List ℕ) → starts_with is_plain text ≡ true → FrontOf is_plain text rest
    → x ≡ take (length text - length rest) text → ds ≡ each_with cs x → Grown cs text ds rest
plain-grown cs text ds rest x p f e d =
    let whole : ds ≡ each_with cs f.front = d ∙ ap (each_with cs) (e ∙ front-taken text f.front rest f.split) in
    record {
      front = f.front;
      split = f.split;
      spells = λ t s. subst (λ (y : List (List ℕ)). Spells (t ++ f.front) y) (sym whole) (plain t f.front cs s f.passes);
      shorter = filled text f.front rest p f.split f.stops;
    }

pub bracket-stops : (cs : List (List ℕ)) (text : List ℕ) (b : ℕ) (behind : List ℕ) → text ≡ b ∷ behind → is_bracket b ≡ true → (b ≡ 123 → ⊥) → StopsIn cs text (stop.Byte (length text))
bracket-stops cs text b behind e h ne = λ t s. (
  length t,
  record {
    front = t;
    byte = b;
    after = behind;
    split = ap (λ (y : List ℕ). t ++ y) e;
    stopped = outside t cs b s h (eq-false b 123 ne);
    place = refl;
  },
  sym (length-append t text),
)

pub spelled-start : (body : List ℕ) (cs : List (List ℕ)) → cs ≡ [] ∷ [] → SpelledAt body cs body
spelled-start body cs e = record { front = []; split = refl; spells = subst (λ (d : List (List ℕ)). Spells [] d) (sym e) empty }

pub spelled-stops : (body : List ℕ) (cs : List (List ℕ)) (rest : List ℕ) (s : Stop) → SpelledAt body cs rest → StopsIn cs rest s → Stops body s
spelled-stops body cs rest s a h = subst (λ (y : List ℕ). Stops y s) (sym a.split) (h a.front a.spells)

pub spelled-next : (body : List ℕ) (cs : List (List ℕ)) (rest : List ℕ) (ds : List (List ℕ)) (after : List ℕ) → SpelledAt body cs rest → Grown cs rest ds after → SpelledAt body ds after
spelled-next body cs rest ds after a g = record {
  front = a.front ++ g.front;
  split = a.split ∙ ap (λ (y : List ℕ). a.front ++ y) g.split ∙ sym (append_assoc a.front g.front after);
  spells = g.spells a.front a.spells;
}

pub spelled-end : (body : List ℕ) (cs : List (List ℕ)) (rest : List ℕ) → SpelledAt body cs rest → rest ≡ [] → Spells body cs
spelled-end body cs rest a e = subst (λ (y : List ℕ). Spells y cs) (sym (a.split ∙ ap (λ (y : List ℕ). a.front ++ y) e ∙ append-nil a.front)) a.spells

-- a piece by the first byte of its text
pub grown-brace : (text : List ℕ) (b : ℕ) (behind : List ℕ) → text ≡ b ∷ behind → b ≡ 123 → 123 ∷ behind ≡ text
grown-brace text b behind e h = sym (e ∙ ap (λ z. z ∷ behind) h)
