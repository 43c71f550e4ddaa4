-- Texts with an `@`.
use Rattle.std.proofs.Common.{◌≡◌, ◌≢◌, ◌<◌, ℕ, suc, Bool, true, false, List, [], ◌∷◌, ◌++◌, length, get_or, take, Option, Some, None, refl, sym, ap, ◌∙◌, subst, arith, inl, inr, codes}
use Rattle.std.specs.Prelude.{nat_le, ◌==◌, ◌&&◌, ◌||◌, ◌⊎◌, Result, Ok, Err, IfErr, MatchOption}
use Rattle.std.specs.Borrow.{Bor}
use Rattle.std.specs.Result.{IsErrAnd}
use Rattle.std.specs.List.{list_all}
use Rattle.std.specs.Str.{NoCharPasses}
use Rattle.std.specs.Str.Pattern.{RFindsChar, SplitsAroundMatch}
use Rattle.std.proofs.lemmas.Bool.{and_parts, and_right, cases_Bool, eqb-true}
use Rattle.std.proofs.lemmas.Bool.Decides.{nat_tests}
use Rattle.std.proofs.lemmas.Str.Pattern.{NoCharPasses-char, drop_at_char}
use Rattle.std.proofs.lemmas.List.{take-append-drop}
use Rattle.pn_text.specs.Name.{IsName, is_first, is_name, is_name_byte, is_name_part}
use Rattle.pn_text.specs.Name as name
use Rattle.pn_text.proofs.NameTexts.{name_law}
use Rattle.pn_spec.specs.Ranges.{IsNoRange, has_foreign, is_foreign}
use Rattle.pn_spec.proofs.Foreign.{foreign}
use Rattle.pn_spec.specs.declared.fault.SpecFault.{SpecFault}
use Rattle.pn_spec.specs.declared.fault.SpecFault.TheVariants.{Unsupported, Memory}
use Rattle.pn_spec.specs.Refusals.{FitsNoWant, FitsNoWsWant, FitsNoWorkspace, FitsNoAlias, FitsNoForm, Refuses}
use Rattle.pn_spec.specs.Tags.{is_letter, is_tag, is_catalog}
use Rattle.pn_spec.specs.SpecTexts.{HasNoPart, IsParted, has_at}

none-at : (t : List ℕ) → ((i : ℕ) → i < length t → get_or t i 0 ≢ 64) → has_at t ≡ false
none-at [] h = refl
none-at (b ∷ t) h = elim (cases_Bool (b == 64)) [
  | inl hit ↦ absurd (h 0 (omega arith) (grind (arith, nat_tests, hit)))
  | inr miss ↦ rw miss (none-at t (λ i l. h (suc i) (omega (arith, l))))
]

pub no-at : (t : List ℕ) → NoCharPasses (λ d. d == 64) t → has_at t ≡ false
no-at t h = none-at t (λ i l. NoCharPasses-char 64 t i h (omega arith) l)

at-any : (n rest : List ℕ) → has_at (n ++ 64 ∷ rest) ≡ true
at-any [] rest = refl
at-any (b ∷ n) rest = elim (cases_Bool (b == 64)) [ inl hit ↦ rw hit refl | inr miss ↦ rw miss (at-any n rest) ]

pub no-part : (t : List ℕ) → has_at t ≡ false → HasNoPart t
no-part t h front rest e = absurd (let x : true ≡ false = sym (at-any front rest) ∙ ap has_at (sym e) ∙ h in cc x)

-- an `@` at the front alone
pub no-part-front : (t behind : List ℕ) → t ≡ 64 ∷ behind → has_at behind ≡ false → HasNoPart t
no-part-front t behind e h [] rest f = refl
no-part-front t behind e h (b ∷ front) rest f =
    let same : behind ≡ front ++ 64 ∷ rest = cc (e, f) in
    absurd (let x : true ≡ false = sym (at-any front rest) ∙ ap has_at (sym same) ∙ h in cc x)

-- where two texts with an `@` are one, they are parted at one place or the second has a later one
pub last-at : (a b c d : List ℕ) → a ++ 64 ∷ b ≡ c ++ 64 ∷ d → has_at b ≡ false → ((a ≡ c) × (b ≡ d)) ⊎ ((x : List ℕ) × (y : List ℕ) × (d ≡ x ++ 64 ∷ y))
last-at [] b [] d e h = inl (refl, cc e)
last-at [] b (k ∷ c) d e h =
    let same : b ≡ c ++ 64 ∷ d = cc e in
    absurd (let x : true ≡ false = sym (at-any c d) ∙ ap has_at (sym same) ∙ h in cc x)
last-at (k ∷ a) b [] d e h = inr (a, b, cc e)
last-at (k ∷ a) b (l ∷ c) d e h =
    let same : a ++ 64 ∷ b ≡ c ++ 64 ∷ d = cc e in
    let head : k ≡ l = cc e in
    elim (last-at a b c d same h) [
      | inl f ↦ inl (cc (head, f.0), f.1)
      | inr f ↦ inr f
    ]

-- such texts are no range, no tag, no name and nothing that is wanted
foreign-any : (n rest : List ℕ) → has_foreign (n ++ 64 ∷ rest) ≡ true
foreign-any [] rest = refl
foreign-any (b ∷ n) rest = elim (cases_Bool (is_foreign b)) [ inl hit ↦ rw hit refl | inr miss ↦ rw miss (foreign-any n rest) ]

plain-not : (n rest : List ℕ) → list_all is_name_byte (n ++ 64 ∷ rest) ≡ false
plain-not [] rest = refl
plain-not (b ∷ n) rest = elim (cases_Bool (is_name_byte b)) [ inl hit ↦ rw hit (plain-not n rest) | inr miss ↦ rw miss refl ]

tag-not : (n rest : List ℕ) → is_tag (n ++ 64 ∷ rest) ≡ false
tag-not [] rest = refl
tag-not (b ∷ n) rest = ap (λ x. is_letter b && x) (plain-not n rest) ∙ and_right (is_letter b) false refl

-- no range has an `@`
no-range-at : (t n rest : List ℕ) → t ≡ n ++ 64 ∷ rest → IsNoRange t
no-range-at t n rest e r spells = let none : true ≡ false = sym (ap has_foreign e ∙ foreign-any n rest) ∙ foreign t r spells in cc none

-- nor has one a `:`
colon-none : (t front : List ℕ) → t ≡ front → has_foreign front ≡ true → IsNoRange t
colon-none t front e h r spells = let none : true ≡ false = sym (ap has_foreign e ∙ h) ∙ foreign t r spells in cc none

workspace_none : (t rest : List ℕ) → t ≡ codes "workspace:" ++ rest → IsNoRange t
workspace_none t rest e = colon-none t (codes "workspace:" ++ rest) e refl

catalog_none : (t rest : List ℕ) → t ≡ codes "catalog:" ++ rest → IsNoRange t
catalog_none t rest e = colon-none t (codes "catalog:" ++ rest) e refl

alias_none : (t rest : List ℕ) → t ≡ codes "npm:" ++ rest → IsNoRange t
alias_none t rest e = colon-none t (codes "npm:" ++ rest) e refl

abbrev head_of : List ℕ → ℕ
head_of [] = 0
head_of (b ∷ t) = b

-- a prefixed text is of its form alone
pub workspace_refused : (fault : SpecFault) (t rest : List ℕ) → t ≡ codes "workspace:" ++ rest → Refuses (FitsNoWorkspace rest) fault → Refuses (FitsNoForm t) fault
workspace_refused Memory t rest e h = tt
workspace_refused Unsupported t rest e h = record {
  workspace = λ r f. let same : rest ≡ r = cc (e, f) in subst FitsNoWorkspace same h;
  catalog = λ r f. let heads : 119 ≡ 99 = ap head_of (sym e ∙ f) in absurd (omega (arith, heads));
  alias = λ r f. let heads : 119 ≡ 110 = ap head_of (sym e ∙ f) in absurd (omega (arith, heads));
  bare = record { no_range = workspace_none t rest e; no_tag = ap is_tag e };
}

pub catalog_refused : (fault : SpecFault) (t rest : List ℕ) → t ≡ codes "catalog:" ++ rest → Refuses (is_catalog rest ≡ false) fault → Refuses (FitsNoForm t) fault
catalog_refused Memory t rest e h = tt
catalog_refused Unsupported t rest e h = record {
  workspace = λ r f. let heads : 99 ≡ 119 = ap head_of (sym e ∙ f) in absurd (omega (arith, heads));
  catalog = λ r f. let same : rest ≡ r = cc (e, f) in subst (λ (x : List ℕ). is_catalog x ≡ false) same h;
  alias = λ r f. let heads : 99 ≡ 110 = ap head_of (sym e ∙ f) in absurd (omega (arith, heads));
  bare = record { no_range = catalog_none t rest e; no_tag = ap is_tag e };
}

pub alias_refused : (fault : SpecFault) (t rest : List ℕ) → t ≡ codes "npm:" ++ rest → Refuses (FitsNoAlias rest) fault → Refuses (FitsNoForm t) fault
alias_refused Memory t rest e h = tt
alias_refused Unsupported t rest e h = record {
  workspace = λ r f. let heads : 110 ≡ 119 = ap head_of (sym e ∙ f) in absurd (omega (arith, heads));
  catalog = λ r f. let heads : 110 ≡ 99 = ap head_of (sym e ∙ f) in absurd (omega (arith, heads));
  alias = λ r f. let same : rest ≡ r = cc (e, f) in subst FitsNoAlias same h;
  bare = record { no_range = alias_none t rest e; no_tag = ap is_tag e };
}

pub no-want-at : (t n rest : List ℕ) → t ≡ n ++ 64 ∷ rest → FitsNoWant t
no-want-at t n rest e = record {
  no_range = no-range-at t n rest e;
  no_tag = ap is_tag e ∙ tag-not n rest;
}

not-short : (t n rest : List ℕ) (c : ℕ) → t ≡ n ++ 64 ∷ rest → (64 == c) ≡ false → t ≢ c ∷ []
not-short t [] rest c e h f = let same : 64 ≡ c = cc (e, f) in cc (h, same)
not-short t (b ∷ n) rest c e h f = not-nil n rest (cc (e, f)) where
  not-nil : (n rest : List ℕ) → n ++ 64 ∷ rest ≡ [] → ⊥
  not-nil [] rest e = cc e
  not-nil (b ∷ n) rest e = cc e

pub no-ws-want-at : (t n rest : List ℕ) → t ≡ n ++ 64 ∷ rest → FitsNoWsWant t
no-ws-want-at t n rest e = record {
  no_any = not-short t n rest 42 e refl;
  no_caret = not-short t n rest 94 e refl;
  no_tilde = not-short t n rest 126 e refl;
  no_range = no-range-at t n rest e;
}

plain-no-at : (t : List ℕ) → list_all is_name_byte t ≡ true → has_at t ≡ false
plain-no-at [] h = refl
plain-no-at (b ∷ t) h = elim (cases_Bool (b == 64)) [
  | inl hit ↦ absurd (let same : b ≡ 64 = eqb-true b 64 hit in let off : (is_name_byte 64 && list_all is_name_byte t) ≡ true = subst (λ c. (is_name_byte c && list_all is_name_byte t) ≡ true) same h in cc off)
  | inr miss ↦ rw miss (plain-no-at t (and_parts (is_name_byte b) (list_all is_name_byte t) h).1)
]

letter-byte : (b : ℕ) → is_letter b ≡ true → is_name_byte b ≡ true
letter-byte b h = letter-in (nat_le 97 b && nat_le b 122) (nat_le 65 b && nat_le b 90) _ _ _ _ h where
  letter-in : (x y z u v w : Bool) → (x || y) ≡ true → ((((((x || y) || z) || u) || v) || w)) ≡ true
  letter-in x y z u v w h = rw h refl

pub tag-no-at : (t : List ℕ) → is_tag t ≡ true → has_at t ≡ false
tag-no-at [] h = refl
tag-no-at (b ∷ t) h = plain-no-at (b ∷ t) (rw (letter-byte b (and_parts (is_letter b) (list_all is_name_byte t) h).0, (and_parts (is_letter b) (list_all is_name_byte t) h).1) refl)

part-no-at : (t : List ℕ) → is_name_part t ≡ true → has_at t ≡ false
part-no-at [] h = refl
part-no-at (b ∷ t) h =
    let first : is_name_byte b ≡ true = rw (and_parts (is_first b) (list_all is_name_byte t) h).0 refl in
    plain-no-at (b ∷ t) (rw (first, (and_parts (is_first b) (list_all is_name_byte t) h).1) refl)

append-no-at : (s t : List ℕ) → has_at s ≡ false → has_at t ≡ false → has_at (s ++ t) ≡ false
append-no-at [] t h k = k
append-no-at (b ∷ s) t h k = elim (cases_Bool (b == 64)) [
  | inl hit ↦ absurd (let off : true ≡ false = sym (rw hit refl) ∙ h in cc off)
  | inr miss ↦ rw miss (append-no-at s t (sym (rw miss refl) ∙ h) k)
]

pub at-once : (t front rest : List ℕ) → has_at t ≡ false → t ≡ front ++ 64 ∷ rest → ⊥
at-once t front rest h e = let x : true ≡ false = sym (at-any front rest) ∙ ap has_at (sym e) ∙ h in cc x

-- a name has no `@` but at its front
name-part : (t front rest : List ℕ) → IsName t → t ≡ front ++ 64 ∷ rest → front ≢ [] → ⊥
name-part t [] rest n e some = some refl
name-part _ (c ∷ front) rest (name.plain [] h) e some = cc e
name-part _ (c ∷ front) rest (name.plain (b ∷ t) h) e some =
    let same : t ≡ front ++ 64 ∷ rest = cc e in
    at-once t front rest (plain-no-at t (and_parts (is_first b) (list_all is_name_byte t) h).1) same
name-part _ (c ∷ front) rest (name.scoped s x h k) e some =
    let same : s ++ 47 ∷ x ≡ front ++ 64 ∷ rest = cc e in
    at-once (s ++ 47 ∷ x) front rest (append-no-at s (47 ∷ x) (part-no-at s h) (part-no-at x k)) same

pub name-not : (t front rest : List ℕ) → t ≡ front ++ 64 ∷ rest → front ≢ [] → is_name t ≡ false
name-not t front rest e some = elim (cases_Bool (is_name t)) [
  | inl hit ↦ absurd (name-part t front rest ((name_law t).0 hit).0 e some)
  | inr miss ↦ miss
]

-- refusals of a text with a name in front
named-not : (N : List ℕ → Type 0) → ((t n rest : List ℕ) → t ≡ n ++ 64 ∷ rest → N t) → (t front behind : List ℕ) → IsParted t front behind
    → (is_name front ≡ false) ⊎ N behind → (n rest : List ℕ) → t ≡ n ++ 64 ∷ rest → is_name n ≡ true → N rest
named-not N at t front behind p off n rest e named = elim (last-at front behind n rest (sym p.split ∙ e) p.last) [
  | inl same ↦ elim off [
    | inl h ↦ absurd (let x : true ≡ false = sym named ∙ ap is_name (sym same.0) ∙ h in cc x)
    | inr h ↦ subst N same.1 h
  ]
  | inr later ↦ at rest later.0 later.1 later.2
]

pub no-alias : (t front behind : List ℕ) → IsParted t front behind → (is_name front ≡ false) ⊎ FitsNoWant behind → FitsNoAlias t
no-alias t front behind p off = record {
  bare = name-not t front behind p.split p.some;
  named = named-not FitsNoWant no-want-at t front behind p off;
}

pub no-workspace : (t front behind : List ℕ) → IsParted t front behind → (is_name front ≡ false) ⊎ FitsNoWsWant behind → FitsNoWorkspace t
no-workspace t front behind p off = record {
  bare = no-ws-want-at t front behind p.split;
  named = named-not FitsNoWsWant no-ws-want-at t front behind p off;
}

pub refuses-from : (P Q : Type 0) (e : SpecFault) → (P → Q) → Refuses P e → Refuses Q e
refuses-from P Q Unsupported f h = f h
refuses-from P Q Memory f h = tt

pub exit : {T : Type 0} (Q : Type 0) (r : Result T SpecFault) (x : SpecFault) → IsErrAnd r (λ y. y ≡ x) → Refuses Q x → IfErr r (Refuses Q)
exit Q (Ok v) x h f = tt
exit Q (Err e) x h f = subst (Refuses Q) (sym h) f

-- the clause of `rsplit_once`
pub part-at : (t front behind : List ℕ) → SplitsAroundMatch (RFindsChar 64) t front behind → (t ≡ front ++ 64 ∷ behind) × (has_at behind ≡ false)
part-at t front behind (i, j, (last, at), f, b, _, _, _) =
    (sym (take-append-drop i t) ∙ ap (λ x. take i t ++ x) (drop_at_char 64 t i j at (omega arith)) ∙ cc (f, b), no-at behind (subst (NoCharPasses (λ d. d == 64)) (sym b) last))

pub filled : (t : List ℕ) → false ≡ (length t == 0) → t ≢ []
filled [] h e = cc h
filled (b ∷ t) h e = cc e

pub front-empty : (t front behind : List ℕ) → t ≡ front ++ 64 ∷ behind → true ≡ (length front == 0) → t ≡ 64 ∷ behind
front-empty t [] behind e h = e
front-empty t (b ∷ front) behind e h = absurd (cc (h, long (length front))) where
  long : (n : ℕ) → (suc n == 0) ≡ false
  long n = grind arith

pub none-parted : (t : List ℕ) (r : Option (Bor (List ℕ) × Bor (List ℕ))) → r ≡ None → HasNoPart t → MatchOption r (HasNoPart t) (λ r. IsParted t r.0.now r.1.now)
none-parted t None e h = h
none-parted t (Some r) e h = absurd (cc e)
