-- The bytes of packages' names and ids.
use Rattle.std.proofs.Common.{◌≡◌, ℕ, List, [], ◌∷◌, Bool, true, false, refl, ap, ◌∙◌, subst, inl, inr, arith}
use Rattle.std.specs.Prelude.{◌==◌, ◌&&◌, ◌||◌, nat_le}
use Rattle.std.specs.List.{list_all}
use Rattle.std.proofs.lemmas.Bool.{cases_Bool, eqb-true}
use Rattle.std.proofs.lemmas.Bool.Decides.{nat_tests}
use Rattle.pn_text.specs.Ids.{id_text, id_name, id_version, is_id, is_version}
use Rattle.pn_text.specs.Name.{IsName, plain, scoped, is_name, is_first, is_name_byte, is_name_part}
use Rattle.pn_text.proofs.Bools.{and_left, and_right}
use Rattle.pn_text.proofs.IdTexts.{text_again}
use Rattle.pn_text.proofs.Members.{all-append}
use Rattle.pn_text.proofs.NameTexts.{first_byte, name_of}
use Rattle.pn_deppath.specs.Cuts.{has_byte}
use Rattle.pn_deppath.specs.Folders.{is_ascii}
use Rattle.pn_deppath.proofs.VersionBytes.{is_version_byte, version_bytes}

-- a byte of a name or a version, a slash or `@`
abbrev pub is_id_byte : ℕ → Bool
is_id_byte b = (nat_le 97 b && nat_le b 122) || (nat_le 64 b && nat_le b 90) || (nat_le 45 b && nat_le b 57) || (b == 95) || (b == 43)

-- what passes one test passes a weaker one
pub all_weaker : (f g : ℕ → Bool) → ((b : ℕ) → f b ≡ true → g b ≡ true) → (xs : List ℕ) → list_all f xs ≡ true → list_all g xs ≡ true
all_weaker f g turn [] h = refl
all_weaker f g turn (b ∷ xs) h = rw (turn b (and_left (f b) (list_all f xs) h)) (all_weaker f g turn xs (and_right (f b) (list_all f xs) h))

name_byte : (b : ℕ) → is_name_byte b ≡ true → is_id_byte b ≡ true
name_byte b h = grind (arith, nat_tests)

version_byte : (b : ℕ) → is_version_byte b ≡ true → is_id_byte b ≡ true
version_byte b h = grind (arith, nat_tests)

part_bytes : (x : List ℕ) → is_name_part x ≡ true → list_all is_id_byte x ≡ true
part_bytes [] h = refl
part_bytes (b ∷ xs) h =
    rw (name_byte b (first_byte b (and_left (is_first b) (list_all is_name_byte xs) h))) (all_weaker is_name_byte is_id_byte name_byte xs (and_right (is_first b) (list_all is_name_byte xs) h))

grammar_bytes : (name : List ℕ) → IsName name → list_all is_id_byte name ≡ true
grammar_bytes _ (plain x h) = part_bytes x h
grammar_bytes _ (scoped s x h k) = all-append is_id_byte s (47 ∷ x) (part_bytes s h) (part_bytes x k)

pub name_bytes : (name : List ℕ) → is_name name ≡ true → list_all is_id_byte name ≡ true
name_bytes name h = grammar_bytes name (name_of name h)

pub id_text_bytes : (name version : List ℕ) → is_name name ≡ true → is_version version ≡ true → list_all is_id_byte (id_text name version) ≡ true
id_text_bytes name version h k = all-append is_id_byte name (64 ∷ version) (name_bytes name h) (all_weaker is_version_byte is_id_byte version_byte version (version_bytes version k))

pub id_bytes : (id : List ℕ) → is_id id ≡ true → list_all is_id_byte id ≡ true
id_bytes id h =
    let named = and_left (is_name (id_name id)) (is_version (id_version id)) h in
    let versioned = and_right (is_name (id_name id)) (is_version (id_version id)) h in
    subst (λ (t : List ℕ). list_all is_id_byte t ≡ true) (text_again id versioned) (id_text_bytes (id_name id) (id_version id) named versioned)

pub id_ascii : (b : ℕ) → is_id_byte b ≡ true → is_ascii b ≡ true
id_ascii b h = grind (arith, nat_tests)

-- bytes that pass a test have none that fails it
pub without : (f : ℕ → Bool) (c : ℕ) (v : List ℕ) → list_all f v ≡ true → f c ≡ false → has_byte c v ≡ false
without f c [] h n = refl
without f c (b ∷ v) h n = elim (cases_Bool (b == c)) [
  | inl e ↦ absurd (let same = ap f (eqb-true b c e) in let good = and_left (f b) (list_all f v) h in cc (same, good, n))
  | inr e ↦ ap (λ (o : Bool). o || has_byte c v) e ∙ without f c v (and_right (f b) (list_all f v) h) n
]
