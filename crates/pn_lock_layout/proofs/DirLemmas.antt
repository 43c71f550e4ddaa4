-- The names of dep paths' folders.
use Rattle.std.proofs.Common.{◌≡◌, ◌≢◌, ◌⊎◌, ◌<◌, ℕ, zero, suc, ◌/◌, ◌%◌, List, [], ◌∷◌, ◌++◌, length, length-append, map, take, refl, sym, ap, ◌∙◌, subst, true, false, Bool, cond, inl, inr, arith}
use Rattle.std.specs.Prelude.{◌==◌, ◌||◌, ◌&&◌, nat_lt, not, IsTrue, slice_index}
use Rattle.std.specs.Cmp.Derive.{both_true}
use Rattle.std.specs.Fmt.{decimal, digit_glyph, digits, digits_onto}
use Rattle.std.proofs.lemmas.Bool.{cases_Bool, eqb-true, ltb-true, ne_eqb}
use Rattle.std.proofs.lemmas.Bool.Decides.{nat_tests}
use Rattle.std.proofs.lemmas.List.{length-take-le}
use Rattle.std.proofs.lemmas.List.Folds.{list_any-append}
use Rattle.hex.specs.Hex.{encode_lower, encode_with, lower_digits}
use Rattle.sha2.specs.Sha256.{sha256}
use Rattle.pn_text.specs.declared.limits.TheConstants.{ID_LIMIT}
use Rattle.pn_text.specs.Ids.{id_name, id_text}
use Rattle.pn_text.specs.Name.{is_name, modules}
use Rattle.pn_text.specs.Path.{is_filled, is_part}
use Rattle.pn_text.proofs.Bools.{and_right, both_false, left_false, or_right, or_true, right_false}
use Rattle.pn_node.specs.Plan.{marker_name}
use Rattle.pn_deppath.specs.Cuts.{before, has_byte}
use Rattle.pn_deppath.specs.Folders.{earlier, fitted, folder_name, numbered, ordinal, plain_name, spelled, spelled_behind, spelled_byte, without_last_close}
use Rattle.pn_deppath.specs.Paths.{is_dep_path}
use Rattle.pn_deppath.proofs.PathLemmas.{is_cut}
use Rattle.pn_lock_layout.specs.Places.{name_of}
use Rattle.pn_lock_layout.proofs.HomeLemmas.{named_path}

-- A text without a slash that begins with another byte than `.`, and is long or has an `@`.
pub record IsDir (t : List ℕ) : Type 0 where
  pub flat : has_byte 47 t ≡ false
  pub first : ℕ
  pub rest : List ℕ
  pub is : t ≡ first ∷ rest
  pub undotted : first ≢ 46
  pub large : (12 < length t) ⊎ (has_byte 64 t ≡ true)

-- ---- what such a text is

is_false : (b : Bool) → b ≡ false → not b ≡ true
is_false b h = ap not h

filled : (b : ℕ) (bs : List ℕ) → b ≢ 46 → is_filled (b ∷ bs) ≡ true
filled b [] h = ap not (ne_eqb b 46 h)
filled b (c ∷ []) h = ap (λ o. not (o && (c == 46))) (ne_eqb b 46 h)
filled b (c ∷ d ∷ bs) h = refl

pub dir_part : (t : List ℕ) → IsDir t → IsTrue (is_part t)
dir_part t h = both_true (is_false (has_byte 47 t) h.flat) (ap is_filled h.is ∙ filled h.first h.rest h.undotted)

pub dir_not_modules : (t : List ℕ) → IsDir t → t ≢ modules
dir_not_modules t h e = elim h.large [
  | inl long ↦ omega (arith, long, ap length e)
  | inr at ↦ let no : true ≡ false = sym at ∙ ap (has_byte 64) e in cc
]

pub dir_not_marker : (t : List ℕ) → IsDir t → t ≢ marker_name
dir_not_marker t h e = h.undotted (let f : h.first ∷ h.rest ≡ marker_name = sym h.is ∙ e in cc)

-- ---- more behind it

pub dir_more : (t more : List ℕ) → IsDir t → has_byte 47 more ≡ false → IsDir (t ++ more)
dir_more t more h flat = record {
  flat = list_any-append (λ b. b == 47) t more ∙ both_false (has_byte 47 t) (has_byte 47 more) h.flat flat;
  first = h.first;
  rest = h.rest ++ more;
  is = ap (λ s. s ++ more) h.is;
  undotted = h.undotted;
  large = elim h.large [
    | inl long ↦ inl (omega (arith, long, length-append t more))
    | inr at ↦ inr (list_any-append (λ b. b == 64) t more ∙ ap (λ o. o || has_byte 64 more) at)
  ];
}

glyph_flat : (d : ℕ) → (digit_glyph false d == 47) ≡ false
glyph_flat d = grind (arith, nat_tests)

onto_flat : (k n : ℕ) (acc : List ℕ) → has_byte 47 acc ≡ false → has_byte 47 (digits_onto k 10 false n acc) ≡ false
onto_flat zero n acc h = h
onto_flat (suc k) n acc h =
    let d = digit_glyph false (n % 10) in
    let more = both_false (d == 47) (has_byte 47 acc) (glyph_flat (n % 10)) h in
    elim (n / 10 == 0) as (λ b. has_byte 47 (cond b (d ∷ acc) (digits_onto k 10 false (n / 10) (d ∷ acc))) ≡ false) [
      | true ↦ more
      | false ↦ onto_flat k (n / 10) (d ∷ acc) more
    ]

decimal_flat : (n : ℕ) → has_byte 47 (decimal n) ≡ false
unfolding digits
decimal_flat n = onto_flat 64 n [] refl

pub dir_numbered : (taken : List (List ℕ)) (t : List ℕ) (k : ℕ) → IsDir t → IsDir (numbered taken t k)
dir_numbered taken t zero h = h
dir_numbered taken t (suc k) h = dir_more t (43 ∷ 126 ∷ decimal (ordinal taken t (suc k))) h (decimal_flat (ordinal taken t (suc k)))

-- ---- a dep path's name by itself

byte_flat : (b : ℕ) → (spelled_byte b == 47) ≡ false
byte_flat b = grind (arith, nat_tests)

spelled_flat : (last : ℕ) (t : List ℕ) → has_byte 47 (spelled_behind last t) ≡ false
spelled_flat last [] = refl
spelled_flat last (b ∷ rest) = elim ((last == 41) && (b == 40)) as (λ o. has_byte 47 (cond o (spelled_behind b rest) (spelled_byte b ∷ spelled_behind b rest)) ≡ false) [
  | true ↦ spelled_flat b rest
  | false ↦ both_false (spelled_byte b == 47) (has_byte 47 (spelled_behind b rest)) (byte_flat b) (spelled_flat b rest)
]

closed_at : (t : List ℕ) → has_byte 64 t ≡ true → has_byte 64 (without_last_close t) ≡ true
closed_at [] h = h
closed_at (b ∷ []) h = elim (b == 41) as (λ o. (b == 41) ≡ o → has_byte 64 (cond o [] (b ∷ [])) ≡ true) [
  | true ↦ λ e. let no : false ≡ true = ap (λ c. has_byte 64 (c ∷ [])) (sym (eqb-true b 41 e)) ∙ h in cc
  | false ↦ λ e. h
] refl
closed_at (b ∷ c ∷ rest) h = elim (b == 64) as (λ o. (o || has_byte 64 (c ∷ rest)) ≡ true → (o || has_byte 64 (without_last_close (c ∷ rest))) ≡ true) [
  | true ↦ λ e. refl
  | false ↦ λ e. closed_at (c ∷ rest) e
] h

spelled_at : (last : ℕ) (t : List ℕ) → has_byte 64 t ≡ true → has_byte 64 (spelled_behind last t) ≡ true
spelled_at last [] h = h
spelled_at last (b ∷ rest) h = elim (cases_Bool (b == 64)) [
  | inl at ↦ subst (λ c. has_byte 64 (spelled_behind last (c ∷ rest)) ≡ true) (sym (eqb-true b 64 at)) (by_last (last == 41))
  | inr other ↦
      let more = spelled_at b rest (ap (λ o. o || has_byte 64 rest) (sym other) ∙ h) in
      elim ((last == 41) && (b == 40)) as (λ o. has_byte 64 (cond o (spelled_behind b rest) (spelled_byte b ∷ spelled_behind b rest)) ≡ true) [
        | true ↦ more
        | false ↦ or_right (spelled_byte b == 64) (has_byte 64 (spelled_behind b rest)) more
      ]
] where
  by_last : (o : Bool) → has_byte 64 (cond (o && (64 == 40)) (spelled_behind 64 rest) (spelled_byte 64 ∷ spelled_behind 64 rest)) ≡ true
  by_last true = refl
  by_last false = refl

take_flat : (n : ℕ) (t : List ℕ) → has_byte 47 t ≡ false → has_byte 47 (take n t) ≡ false
take_flat zero t h = refl
take_flat (suc n) [] h = refl
take_flat (suc n) (b ∷ t) h = both_false (b == 47) (has_byte 47 (take n t)) (left_false (b == 47) (has_byte 47 t) h) (take_flat n t (right_false (b == 47) (has_byte 47 t) h))

flat_at : (xs : List ℕ) (k : ℕ) → has_byte 47 xs ≡ false → (slice_index xs k == 47) ≡ false
flat_at [] k h = refl
flat_at (x ∷ xs) zero h = left_false (x == 47) (has_byte 47 xs) h
flat_at (x ∷ xs) (suc k) h = flat_at xs k (right_false (x == 47) (has_byte 47 xs) h)

hex_flat : (d : List ℕ) → has_byte 47 (encode_lower d) ≡ false
unfolding encode_with
hex_flat [] = refl
hex_flat (b ∷ d) = both_false _ _ (flat_at lower_digits (b / 16) refl) (both_false _ _ (flat_at lower_digits (b % 16) refl) (hex_flat d))

-- a long name is cut, with digits behind it
pub dir_fitted : (path t : List ℕ) → IsDir t → IsDir (fitted path t)
unfolding fitted
dir_fitted path t h = elim (nat_lt ID_LIMIT (length t)) as (λ o. nat_lt ID_LIMIT (length t) ≡ o → IsDir (cond o (take 87 t ++ 95 ∷ take 32 (encode_lower (sha256 path))) t)) [
  | true ↦ λ is.
      let long : ID_LIMIT < length t = ltb-true ID_LIMIT (length t) is in
      let digits = take 32 (encode_lower (sha256 path)) in
      record {
        flat = list_any-append (λ b. b == 47) (take 87 t) (95 ∷ digits) ∙ both_false (has_byte 47 (take 87 t)) (has_byte 47 digits) (take_flat 87 t h.flat) (take_flat 32 (encode_lower (sha256 path)) (hex_flat (sha256 path)));
        first = h.first;
        rest = take 86 h.rest ++ 95 ∷ digits;
        is = ap (λ s. take 87 s ++ 95 ∷ digits) h.is;
        undotted = h.undotted;
        large = inl (omega (arith, long, length-take-le 87 t (omega (arith, long)), length-append (take 87 t) (95 ∷ digits)));
      }
  | false ↦ λ is. h
] refl

-- ---- the first byte of a dep path

undotted_name : (rest : List ℕ) → is_name (46 ∷ rest) ≡ true → ⊥
undotted_name rest h = let no : false ≡ true = and_right _ false h in cc

nameless : is_name [] ≡ true → ⊥
nameless h = let no : false ≡ true = h in cc

first_undotted : (b : ℕ) (rest : List ℕ) → is_name (name_of (b ∷ rest)) ≡ true → b ≢ 46
first_undotted b rest h e = elim (b == 40) as (λ o. is_name (id_name (cond o [] (b ∷ before 40 rest))) ≡ true → ⊥) [
  | true ↦ λ n. nameless n
  | false ↦ λ n. undotted_name _ (subst (λ c. is_name (id_name (c ∷ before 40 rest)) ≡ true) e n)
] h

at_inside : (path : List ℕ) → is_dep_path path ≡ true → has_byte 64 path ≡ true
at_inside path h =
    let c = is_cut path h in
    ap (has_byte 64) c.whole ∙ list_any-append (λ b. b == 64) (id_text c.name c.version) c.groups
    ∙ ap (λ o. o || has_byte 64 c.groups) (list_any-append (λ b. b == 64) c.name (64 ∷ c.version) ∙ or_true (has_byte 64 c.name))

second_there : (path : List ℕ) → is_dep_path path ≡ true → 1 < length path
second_there path h =
    let c = is_cut path h in
    omega (arith, ap length c.whole, length-append (id_text c.name c.version) c.groups, length-append c.name (64 ∷ c.version), some c.name c.named) where
      some : (n : List ℕ) → is_name n ≡ true → 0 < length n
      some [] k = absurd (nameless k)
      some (b ∷ n) k = omega arith

byte_undotted : (b : ℕ) → b ≢ 46 → spelled_byte b ≢ 46
byte_undotted b h e = elim ((b == 40) || (b == 41)) as (λ o. cond o 95 (cond ((b == 47) || (b == 58)) 43 b) ≡ 46 → ⊥) [
  | true ↦ λ k. omega (arith, k)
  | false ↦ elim ((b == 47) || (b == 58)) as (λ o. cond o 43 b ≡ 46 → ⊥) [ true ↦ λ k. omega (arith, k) | false ↦ h ]
] e

plain_dir : (path : List ℕ) → is_dep_path path ≡ true → IsDir (spelled (without_last_close path))
plain_dir path h = by path (named_path path h) (at_inside path h) (second_there path h) where
  by : (path : List ℕ) → is_name (name_of path) ≡ true → has_byte 64 path ≡ true → 1 < length path → IsDir (spelled (without_last_close path))
  by [] n at two = absurd (omega (arith, two))
  by (b ∷ []) n at two = absurd (omega (arith, two))
  by (b ∷ c ∷ rest) n at two = record {
    flat = spelled_flat 0 (without_last_close (b ∷ c ∷ rest));
    first = spelled_byte b;
    rest = spelled_behind b (without_last_close (c ∷ rest));
    is = refl;
    undotted = byte_undotted b (first_undotted b (c ∷ rest) n);
    large = inr (spelled_at 0 (without_last_close (b ∷ c ∷ rest)) (closed_at (b ∷ c ∷ rest) at));
  }

pub dir_of : (paths : List (List ℕ)) (path : List ℕ) → is_dep_path path ≡ true → IsDir (folder_name paths path)
unfolding plain_name
dir_of paths path h = dir_numbered (map plain_name paths) (plain_name path) (earlier plain_name paths path) (dir_fitted path (spelled (without_last_close path)) (plain_dir path h))
