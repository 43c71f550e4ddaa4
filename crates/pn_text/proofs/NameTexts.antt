-- Lemmas on the test of names, and on names as paths.
use Rattle.std.proofs.Common.{◌≡◌, ℕ, ◌≤◌, List, [], ◌∷◌, ◌++◌, length, refl, sym, ap, ◌∙◌, subst, arith, Bool, true, false, Some, None, inl, inr}
use Rattle.std.specs.Prelude.{◌==◌, ◌&&◌, ◌||◌, not, nat_le, IsTrue, if◌then◌else◌, ◌⊎◌}
use Rattle.std.specs.List.{list_all, list_any}
use Rattle.std.proofs.lemmas.List.{take_all}
use Rattle.std.specs.Cmp.Derive.{both_true}
use Rattle.pn_text.specs.declared.name_reader.State.TheVariants.{Start, Part, Scope, InScope, Slash, Second}
use Rattle.pn_text.specs.Path.{is_filled, is_part, is_path, text_below, SpellsParts}
use Rattle.pn_text.specs.Name.{is_first, is_name_byte, is_name_part, IsName, plain, scoped, on, then_on, runs, ends_whole, is_reserved, is_name, NameLaw, name_path}
use Rattle.pn_text.proofs.Bytes.{other_byte}
use Rattle.pn_text.proofs.Paths.{and_left, and_right, not_true, tail_of-spelled}
use Rattle.pn_text.proofs.Names.{runs-append, accepted}

pub first_byte : (b : ℕ) → is_first b ≡ true → is_name_byte b ≡ true
first_byte b h = ap (λ a. a || (b == 46) || (b == 95)) h

-- the reader goes on through name bytes
runs_part : (bs : List ℕ) → list_all is_name_byte bs ≡ true → runs Part bs ≡ Some Part
runs_part [] h = refl
runs_part (b ∷ bs) h =
    ap (λ r. then_on (on r Part) (λ s. runs s bs)) (and_left (is_name_byte b) (list_all is_name_byte bs) h)
    ∙ runs_part bs (and_right (is_name_byte b) (list_all is_name_byte bs) h)

runs_second : (bs : List ℕ) → list_all is_name_byte bs ≡ true → runs Second bs ≡ Some Second
runs_second [] h = refl
runs_second (b ∷ bs) h =
    ap (λ r. then_on (on r Second) (λ s. runs s bs)) (and_left (is_name_byte b) (list_all is_name_byte bs) h)
    ∙ runs_second bs (and_right (is_name_byte b) (list_all is_name_byte bs) h)

runs_scope : (bs : List ℕ) → list_all is_name_byte bs ≡ true → runs InScope bs ≡ Some InScope
runs_scope [] h = refl
runs_scope (b ∷ bs) h =
    let here = and_left (is_name_byte b) (list_all is_name_byte bs) h in
    ap (λ c. then_on (if c then Some Slash else on (is_name_byte b) InScope) (λ s. runs s bs)) (other_byte is_name_byte b 47 here refl)
    ∙ ap (λ r. then_on (on r InScope) (λ s. runs s bs)) here
    ∙ runs_scope bs (and_right (is_name_byte b) (list_all is_name_byte bs) h)

runs_from_slash : (x : List ℕ) → is_name_part x ≡ true → runs Slash x ≡ Some Second
runs_from_slash [] h = cc
runs_from_slash (b ∷ bs) h =
    ap (λ r. then_on (on r Second) (λ s. runs s bs)) (and_left (is_first b) (list_all is_name_byte bs) h)
    ∙ runs_second bs (and_right (is_first b) (list_all is_name_byte bs) h)

runs_from_scope : (s : List ℕ) → is_name_part s ≡ true → runs Scope s ≡ Some InScope
runs_from_scope [] h = cc
runs_from_scope (b ∷ bs) h =
    ap (λ r. then_on (on r InScope) (λ s. runs s bs)) (and_left (is_first b) (list_all is_name_byte bs) h)
    ∙ runs_scope bs (and_right (is_first b) (list_all is_name_byte bs) h)

runs_plain : (x : List ℕ) → is_name_part x ≡ true → runs Start x ≡ Some Part
runs_plain [] h = cc
runs_plain (b ∷ bs) h =
    let here = and_left (is_first b) (list_all is_name_byte bs) h in
    ap (λ c. then_on (if c then Some Scope else on (is_first b) Part) (λ s. runs s bs)) (other_byte is_first b 64 here refl)
    ∙ ap (λ r. then_on (on r Part) (λ s. runs s bs)) here
    ∙ runs_part bs (and_right (is_first b) (list_all is_name_byte bs) h)

runs_scoped : (s x : List ℕ) → is_name_part s ≡ true → is_name_part x ≡ true → runs Scope (s ++ 47 ∷ x) ≡ Some Second
runs_scoped s x h k =
    runs-append s (47 ∷ x) Scope
    ∙ ap (λ o. then_on o (λ r. runs r (47 ∷ x))) (runs_from_scope s h)
    ∙ runs_from_slash x k

-- the reader accepts each name
pub names_run : (text : List ℕ) → IsName text → ends_whole (runs Start text) ≡ true
names_run _ (plain x h) = ap ends_whole (runs_plain x h)
names_run _ (scoped s x h k) = ap ends_whole (runs_scoped s x h k)

-- and nothing else
whole_runs : (text : List ℕ) → ends_whole (runs Start text) ≡ true → IsName text
whole_runs text h = elim (runs Start text) as (λ o. runs Start text ≡ o → ends_whole o ≡ true → IsName text) [
  | None ↦ λ is w. cc
  | Some s ↦ λ is w. accepted text (length text) s (ap (runs Start) (take_all (length text) text (omega arith)) ∙ is) (omega arith) w
] refl h

le_true : (n m : ℕ) → nat_le n m ≡ true → n ≤ m
le_true n m h = grind arith

true_le : (n m : ℕ) → n ≤ m → nat_le n m ≡ true
true_le n m h = grind arith

false_not : (a : Bool) → a ≡ false → not a ≡ true
false_not a h = ap not h

pub name_law : NameLaw
name_law text = (
  (λ h.
      let a = and_left (nat_le (length text) 214) _ h in
      let r = and_right (nat_le (length text) 214) _ h in
      let g = and_left (ends_whole (runs Start text)) (not (is_reserved text)) r in
      let n = and_right (ends_whole (runs Start text)) (not (is_reserved text)) r in
      (whole_runs text g, le_true (length text) 214 a, not_true (is_reserved text) n)),
  (λ h. both_true (true_le (length text) 214 h.1) (both_true (names_run text h.0) (false_not (is_reserved text) h.2))),
)

pub name_of : (text : List ℕ) → is_name text ≡ true → IsName text
name_of text h = ((name_law text).0 h).0

pub short_of : (text : List ℕ) → is_name text ≡ true → length text ≤ 214
short_of text h = ((name_law text).0 h).1

-- no slash among name bytes
flat_bytes : (bs : List ℕ) → list_all is_name_byte bs ≡ true → list_any (λ b. b == 47) bs ≡ false
flat_bytes [] h = refl
flat_bytes (b ∷ bs) h =
    ap (λ a. a || list_any (λ b. b == 47) bs) (other_byte is_name_byte b 47 (and_left (is_name_byte b) (list_all is_name_byte bs) h) refl)
    ∙ flat_bytes bs (and_right (is_name_byte b) (list_all is_name_byte bs) h)

all_bytes : (x : List ℕ) → is_name_part x ≡ true → list_all is_name_byte x ≡ true
all_bytes [] h = refl
all_bytes (b ∷ bs) h = both_true (first_byte b (and_left (is_first b) (list_all is_name_byte bs) h)) (and_right (is_first b) (list_all is_name_byte bs) h)

name_filled : (x : List ℕ) → is_name_part x ≡ true → is_filled x ≡ true
name_filled [] h = h
name_filled (b ∷ []) h = ap not (other_byte is_first b 46 (and_left (is_first b) true h) refl)
name_filled (b ∷ c ∷ []) h = ap (λ a. not (a && (c == 46))) (other_byte is_first b 46 (and_left (is_first b) (list_all is_name_byte (c ∷ [])) h) refl)
name_filled (b ∷ c ∷ d ∷ bs) h = refl

-- a name's part is a path's part
pub part_of_name : (x : List ℕ) → is_name_part x ≡ true → is_part x ≡ true
part_of_name x h = both_true (ap not (flat_bytes x (all_bytes x h))) (name_filled x h)

scope_filled : (s : List ℕ) → is_filled (64 ∷ s) ≡ true
scope_filled [] = refl
scope_filled (b ∷ []) = refl
scope_filled (b ∷ c ∷ bs) = refl

-- and so is a scope
pub part_of_scope : (s : List ℕ) → is_name_part s ≡ true → is_part (64 ∷ s) ≡ true
part_of_scope s h = both_true (ap not (flat_bytes s (all_bytes s h))) (scope_filled s)

plain_spells : (x : List ℕ) → is_name_part x ≡ true → SpellsParts x (x ∷ [])
plain_spells x h = record { good = both_true (part_of_name x h) refl; spelled = refl }

scoped_spells : (s x : List ℕ) → is_name_part s ≡ true → is_name_part x ≡ true → SpellsParts (64 ∷ (s ++ 47 ∷ x)) (x ∷ (64 ∷ s) ∷ [])
scoped_spells s x h k = record { good = both_true (part_of_name x k) (both_true (part_of_scope s h) refl); spelled = refl }

-- a plain name's path is its part
pub plain_path : (x : List ℕ) → is_name_part x ≡ true → name_path x ≡ x ∷ []
plain_path x h = tail_of-spelled x (x ∷ []) (plain_spells x h)

-- a scoped name's path is its part in its scope
pub scoped_path : (s x : List ℕ) → is_name_part s ≡ true → is_name_part x ≡ true → name_path (64 ∷ (s ++ 47 ∷ x)) ≡ x ∷ (64 ∷ s) ∷ []
scoped_path s x h k = tail_of-spelled (64 ∷ (s ++ 47 ∷ x)) (x ∷ (64 ∷ s) ∷ []) (scoped_spells s x h k)

-- no part of a name begins with `@`
pub no_scope_in_part : (r : List ℕ) → is_name_part (64 ∷ r) ≡ true → ⊥
no_scope_in_part r h = cc

pub names_spell : (n : List ℕ) → IsName n → SpellsParts n (name_path n)
names_spell _ (plain x h) = subst (SpellsParts x) (sym (plain_path x h)) (plain_spells x h)
names_spell _ (scoped s x h k) = subst (SpellsParts (64 ∷ (s ++ 47 ∷ x))) (sym (scoped_path s x h k)) (scoped_spells s x h k)

pub name_is_path : (n : List ℕ) → IsName n → IsTrue (is_path (name_path n))
name_is_path n h = (names_spell n h).good

pub name_text : (n : List ℕ) → IsName n → text_below (name_path n) ≡ 47 ∷ n
name_text n h = sym (names_spell n h).spelled

pub name_path-injective : (m n : List ℕ) → IsName m → IsName n → name_path m ≡ name_path n → m ≡ n
name_path-injective m n h k e = let same : 47 ∷ m ≡ 47 ∷ n = sym (name_text m h) ∙ ap text_below e ∙ name_text n k in cc

-- what a name's path is
pub name_cases : (n : List ℕ) → IsName n →
    (IsTrue (is_name_part n) × (name_path n ≡ n ∷ []))
    ⊎ ((s : List ℕ) × (x : List ℕ) × IsTrue (is_name_part s) × IsTrue (is_name_part x) × (n ≡ 64 ∷ (s ++ 47 ∷ x)) × (name_path n ≡ x ∷ (64 ∷ s) ∷ []))
name_cases _ (plain x h) = inl (h, plain_path x h)
name_cases _ (scoped s x h k) = inr (s, x, h, k, refl, scoped_path s x h k)
