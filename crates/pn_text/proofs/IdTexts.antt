-- Lemmas on the texts of packages' ids.
use Rattle.std.proofs.Common.{◌≡◌, ◌<◌, ℕ, ◌+◌, List, [], ◌∷◌, ◌++◌, length, take, drop, get_or, true, false, Bool, refl, sym, ap, ◌∙◌, arith, Ok, Err, Some, None}
use Rattle.std.specs.Prelude.{◌==◌, ◌&&◌, if◌then◌else◌, not, Result, is_some, IsTrue}
use Rattle.std.specs.List.{list_all}
use Rattle.std.proofs.lemmas.Bool.Decides.{nat_tests}
use Rattle.std.proofs.lemmas.Bool.{eqb-true}
use Rattle.std.proofs.lemmas.List.{take_more, drop_more, take-append-drop, length-take-le}
use Rattle.semver.specs.Parse.{version_parts, Parts}
use Rattle.semver.specs.declared.error.Error.{Error}
use Rattle.pn_text.specs.Path.{is_part}
use Rattle.pn_text.specs.Name.{IsName, plain, scoped, is_name, is_first, is_name_byte, is_name_part}
use Rattle.pn_text.specs.Ids.{id_text, id_name, id_version, before_at, after_at, is_id, is_version, parts_text, ok_of, IdLaw, IsIdOf, id_of}
use Rattle.pn_text.proofs.Bools.{and_left, and_right}
use Rattle.pn_text.proofs.NameTexts.{name_of}
use Rattle.pn_text.proofs.VersionTexts.{version_is_part}
use Rattle.std.specs.Cmp.Derive.{both_true}

-- no `@` in it
abbrev pub has_no_at : List ℕ → Bool
has_no_at xs = list_all (λ b. not (b == 64)) xs

pub before_first : (xs ys : List ℕ) → has_no_at xs ≡ true → before_at (xs ++ 64 ∷ ys) ≡ xs
before_first [] ys h = refl
before_first (x ∷ xs) ys h = elim (x == 64) as (λ c. (not c && has_no_at xs) ≡ true → (if c then [] else x ∷ before_at (xs ++ 64 ∷ ys)) ≡ x ∷ xs) [
  | true ↦ λ h. cc
  | false ↦ λ h. ap (λ r. x ∷ r) (before_first xs ys h)
] h

pub after_first : (xs ys : List ℕ) → has_no_at xs ≡ true → after_at (xs ++ 64 ∷ ys) ≡ ys
after_first [] ys h = refl
after_first (x ∷ xs) ys h = elim (x == 64) as (λ c. (not c && has_no_at xs) ≡ true → (if c then xs ++ 64 ∷ ys else after_at (xs ++ 64 ∷ ys)) ≡ ys) [
  | true ↦ λ h. cc
  | false ↦ λ h. after_first xs ys h
] h

pub before_none : (xs : List ℕ) → has_no_at xs ≡ true → before_at xs ≡ xs
before_none [] h = refl
before_none (x ∷ xs) h = elim (x == 64) as (λ c. (not c && has_no_at xs) ≡ true → (if c then [] else x ∷ before_at xs) ≡ x ∷ xs) [
  | true ↦ λ h. cc
  | false ↦ λ h. ap (λ r. x ∷ r) (before_none xs h)
] h

pub after_none : (xs : List ℕ) → has_no_at xs ≡ true → after_at xs ≡ []
after_none [] h = refl
after_none (x ∷ xs) h = elim (x == 64) as (λ c. (not c && has_no_at xs) ≡ true → (if c then xs else after_at xs) ≡ []) [
  | true ↦ λ h. cc
  | false ↦ λ h. after_none xs h
] h

-- a text is put together again where something stands behind its `@`
pub around_again : (xs : List ℕ) (b : ℕ) (bs : List ℕ) → after_at xs ≡ b ∷ bs → before_at xs ++ 64 ∷ after_at xs ≡ xs
around_again [] b bs h = cc
around_again (x ∷ xs) b bs h = elim (x == 64) as (λ c. (x == 64) ≡ c → (if c then xs else after_at xs) ≡ b ∷ bs → (if c then [] else x ∷ before_at xs) ++ 64 ∷ (if c then xs else after_at xs) ≡ x ∷ xs) [
  | true ↦ λ is h. ap (λ y. y ∷ xs) (sym (eqb-true x 64 is))
  | false ↦ λ is h. ap (λ r. x ∷ r) (around_again xs b bs h)
] refl h

first_no_at : (b : ℕ) → is_first b ≡ true → (b == 64) ≡ false
first_no_at b h = grind (arith, nat_tests)

byte_no_at : (b : ℕ) → is_name_byte b ≡ true → (b == 64) ≡ false
byte_no_at b h = grind (arith, nat_tests)

bytes_no_at : (xs : List ℕ) → list_all is_name_byte xs ≡ true → has_no_at xs ≡ true
bytes_no_at [] h = refl
bytes_no_at (b ∷ xs) h = rw (byte_no_at b (and_left (is_name_byte b) (list_all is_name_byte xs) h)) (bytes_no_at xs (and_right (is_name_byte b) (list_all is_name_byte xs) h))

part_no_at : (x : List ℕ) → is_name_part x ≡ true → has_no_at x ≡ true
part_no_at [] h = refl
part_no_at (b ∷ xs) h = rw (first_no_at b (and_left (is_first b) (list_all is_name_byte xs) h)) (bytes_no_at xs (and_right (is_first b) (list_all is_name_byte xs) h))

no_at-append : (xs ys : List ℕ) → has_no_at xs ≡ true → has_no_at ys ≡ true → has_no_at (xs ++ ys) ≡ true
no_at-append [] ys h k = k
no_at-append (x ∷ xs) ys h k = rw (and_left (not (x == 64)) (has_no_at xs) h) (no_at-append xs ys (and_right (not (x == 64)) (has_no_at xs) h) k)

-- a name has an `@` only where it begins
HasFirst : List ℕ → Type 0
HasFirst name = (b : ℕ) × (bs : List ℕ) × (name ≡ b ∷ bs) × (has_no_at bs ≡ true)

name_begins : (name : List ℕ) → IsName name → HasFirst name
unfolding HasFirst
name_begins _ (plain x h) = begins x h where
  begins : (x : List ℕ) → is_name_part x ≡ true → HasFirst x
  begins [] h = cc
  begins (b ∷ xs) h = (b, xs, refl, bytes_no_at xs (and_right (is_first b) (list_all is_name_byte xs) h))
name_begins _ (scoped s x h k) = (64, s ++ 47 ∷ x, refl, no_at-append s (47 ∷ x) (part_no_at s h) (part_no_at x k))

pub name_of_id : (name version : List ℕ) → is_name name ≡ true → id_name (id_text name version) ≡ name
unfolding HasFirst
name_of_id name version h = let f = name_begins name (name_of name h) in
    ap (λ n. id_name (id_text n version)) f.2 ∙ ap (λ r. f.0 ∷ r) (before_first f.1 version f.3) ∙ sym f.2

pub version_of_id : (name version : List ℕ) → is_name name ≡ true → id_version (id_text name version) ≡ version
unfolding HasFirst
version_of_id name version h = let f = name_begins name (name_of name h) in
    ap (λ n. id_version (id_text n version)) f.2 ∙ after_first f.1 version f.3

-- an `@` behind the first byte, and none between
pub split_name : (text : List ℕ) (i : ℕ) → 0 < i → i < length text → get_or text i 0 ≡ 64 → has_no_at (drop 1 (take i text)) ≡ true → (take i text ≡ id_name text) × (drop (i + 1) text ≡ id_version text)
split_name text i some within is none =
    let cut : text ≡ take i text ++ 64 ∷ drop (i + 1) text = sym (take-append-drop i text) ∙ ap (λ r. take i text ++ r) (drop_more text i 0 within ∙ ap (λ b. b ∷ drop (i + 1) text) is) in
    split (take i text) (drop (i + 1) text) (omega (arith, length-take-le i text (omega arith))) none cut where
      split : (front back : List ℕ) → 0 < length front → has_no_at (drop 1 front) ≡ true → text ≡ front ++ 64 ∷ back → (front ≡ id_name text) × (back ≡ id_version text)
      split [] back some none cut = absurd (omega arith)
      split (b ∷ bs) back some none cut = (sym (ap id_name cut ∙ ap (λ r. b ∷ r) (before_first bs back none)), sym (ap id_version cut ∙ after_first bs back none))

-- one more byte without an `@`
pub no_at_more : (text : List ℕ) (i : ℕ) → i < length text → (0 < i → (get_or text i 0 == 64) ≡ false) → has_no_at (drop 1 (take i text)) ≡ true → has_no_at (drop 1 (take (i + 1) text)) ≡ true
no_at_more text i within isnt none = ap (λ t. has_no_at (drop 1 t)) (take_more text i 0 within) ∙ more (take i text) (get_or text i 0) (λ some. isnt (omega (arith, some, length-take-le i text (omega arith)))) none where
  more : (front : List ℕ) (x : ℕ) → (0 < length front → (x == 64) ≡ false) → has_no_at (drop 1 front) ≡ true → has_no_at (drop 1 (front ++ x ∷ [])) ≡ true
  more [] x isnt none = refl
  more (b ∷ bs) x isnt none = no_at-append bs (x ∷ []) none (rw (isnt (omega arith)) refl)

-- no `@` behind the first byte
pub whole_name : (text : List ℕ) → has_no_at (drop 1 text) ≡ true → (text ≡ id_name text) × ([] ≡ id_version text)
whole_name [] none = (refl, refl)
whole_name (b ∷ bs) none = (ap (λ r. b ∷ r) (sym (before_none bs none)), sym (after_none bs none))

-- the empty text is no version
some_version : (text : List ℕ) → is_version text ≡ true → (b : ℕ) × (bs : List ℕ) × (text ≡ b ∷ bs)
some_version [] h = cc h
some_version (b ∷ bs) h = (b, bs, refl)

pub text_again : (text : List ℕ) → is_version (id_version text) ≡ true → id_text (id_name text) (id_version text) ≡ text
text_again [] h = absurd (let s = some_version [] h in cc (s.2))
text_again (x ∷ xs) h = let s = some_version (after_at xs) h in ap (λ r. x ∷ r) (around_again xs s.0 s.1 s.2)

pub id_law : IdLaw
id_law = record {
  name = name_of_id;
  version = version_of_id;
  text = λ text h. text_again text (and_right (is_name (id_name text)) (is_version (id_version text)) h);
}

-- the parts of a text that is a version
version_read : (r : Result Parts Error) → is_some (ok_of r) ≡ true → (p : Parts) × (r ≡ Ok p)
version_read (Ok p) h = (p, refl)
version_read (Err e) h = cc

pub id_part : (text : List ℕ) → is_id text ≡ true → IsTrue (is_part (id_version text))
id_part text h = let r = version_read (version_parts (id_version text)) (and_right (is_name (id_name text)) (is_version (id_version text)) h) in version_is_part (id_version text) r.0 r.1

version_is : (r : Result Parts Error) (p : Parts) → Some p ≡ ok_of r → (r ≡ Ok p) × (is_some (ok_of r) ≡ true)
version_is (Ok q) p h = (cc, refl)
version_is (Err e) p h = cc

pub keeps_id : (name n version text : List ℕ) (p : Parts) → n ≡ name → is_name name ≡ true → text ≡ id_text name version → Some p ≡ parts_text version → IsIdOf n p text
keeps_id name n version text p same named spelled parsed =
    let front : id_name text ≡ name = ap id_name spelled ∙ name_of_id name version named in
    let back : id_version text ≡ version = ap id_version spelled ∙ version_of_id name version named in
    let v = version_is (version_parts version) p parsed in
    record {
      good = both_true (ap is_name front ∙ named) (ap is_version back ∙ v.1);
      name_is = same ∙ sym front;
      version_is = ap version_parts back ∙ v.0;
    }

pub read_is : (text name version : List ℕ) → name ≡ id_name text → version ≡ id_version text → is_name name ≡ true → id_of name version ≡ (if is_id text then Some text else None)
read_is text name version n v named =
    ap (λ x. id_of x version) n ∙ ap (λ x. id_of (id_name text) x) v
    ∙ again (is_version (id_version text)) refl
    ∙ ap (λ c. if c && is_version (id_version text) then Some text else None) (sym (ap is_name (sym n) ∙ named)) where
      again : (c : Bool) → is_version (id_version text) ≡ c → (if c then Some (id_text (id_name text) (id_version text)) else None) ≡ (if c then Some text else None)
      again true is = ap Some (text_again text is)
      again false is = refl

pub not_id : (text : List ℕ) → is_name (id_name text) ≡ false → is_id text ≡ false
not_id text h = ap (λ c. c && is_version (id_version text)) h
