-- The names of folders in the virtual store.
use Rattle.std.proofs.Common.{◌≡◌, ◌≢◌, ℕ, List, [], ◌∷◌, ◌++◌, refl, sym, ap, ◌∙◌, subst, true, false}
use Rattle.std.specs.Prelude.{◌==◌, ◌||◌, ◌&&◌, if◌then◌else◌, map, IsTrue, not}
use Rattle.std.specs.List.{list_any}
use Rattle.std.specs.Cmp.Derive.{both_true}
use Rattle.std.proofs.lemmas.Bool.{eqb-true}
use Rattle.std.proofs.lemmas.List.{map-append}
use Rattle.std.proofs.lemmas.List.Folds.{list_any-append}
use Rattle.pn_text.specs.Path.{is_flat, is_filled, is_part}
use Rattle.pn_text.specs.Name.{is_name, modules}
use Rattle.pn_text.specs.Ids.{id_name, id_version, id_text, is_id, is_version}
use Rattle.pn_text.proofs.Bools.{and_left, and_right, not_true, or_true}
use Rattle.pn_text.proofs.IdTexts.{id_law, id_part}
use Rattle.pn_text.proofs.NameTexts.{name_of}
use Rattle.pn_node.specs.Plan.{marker_name}
use Rattle.pn_package.specs.Links.{Id}
use Rattle.pn_layout.specs.Store.{plus_for_slash, dir_name}
use Rattle.pn_layout.proofs.Bytes.{Lacks, lacks_not, name_lacks}
use Rattle.pn_layout.proofs.Slashes.{flat_same}
use Rattle.pn_layout.proofs.Versions.{no_at}

-- a byte other than `+` can be read back
byte_back : (a b : ℕ) → a ≢ 43 → b ≢ 43 → plus_for_slash a ≡ plus_for_slash b → a ≡ b
byte_back a b h k e = elim (a == 47) as (λ c. (a == 47) ≡ c → (if c then 43 else a) ≡ plus_for_slash b → a ≡ b) [
  | true ↦ λ is e. elim (b == 47) as (λ c. (b == 47) ≡ c → 43 ≡ (if c then 43 else b) → a ≡ b) [
    | true ↦ λ it e. eqb-true a 47 is ∙ sym (eqb-true b 47 it)
    | false ↦ λ it e. absurd (k (sym e))
  ] refl e
  | false ↦ λ is e. elim (b == 47) as (λ c. (b == 47) ≡ c → a ≡ (if c then 43 else b) → a ≡ b) [
    | true ↦ λ it e. absurd (h e)
    | false ↦ λ it e. e
  ] refl e
] refl e

text_back : (xs ys : List ℕ) → Lacks 43 xs → Lacks 43 ys → map plus_for_slash xs ≡ map plus_for_slash ys → xs ≡ ys
text_back [] [] h k e = refl
text_back [] (y ∷ ys) h k e = cc
text_back (x ∷ xs) [] h k e = cc
text_back (x ∷ xs) (y ∷ ys) h k e =
    let heads : plus_for_slash x ≡ plus_for_slash y = cc in
    let tails : map plus_for_slash xs ≡ map plus_for_slash ys = cc in
    let first = byte_back x y h.0 k.0 heads in
    let rest = text_back xs ys h.1 k.1 tails in
    ap (λ b. b ∷ xs) first ∙ ap (λ bs. y ∷ bs) rest

-- a version is what stands behind the last `@`
pub last_at : (m n v w : List ℕ) → Lacks 64 v → Lacks 64 w → m ++ 64 ∷ v ≡ n ++ 64 ∷ w → (m ≡ n) × (v ≡ w)
last_at [] [] v w h k e = (refl, cc)
last_at [] (y ∷ n) v w h k e = let tails : v ≡ n ++ 64 ∷ w = cc in absurd (lacks_not 64 n w (subst (Lacks 64) tails h))
last_at (x ∷ m) [] v w h k e = let tails : w ≡ m ++ 64 ∷ v = cc in absurd (lacks_not 64 m v (subst (Lacks 64) tails k))
last_at (x ∷ m) (y ∷ n) v w h k e =
    let heads : x ≡ y = cc in
    let tails : m ++ 64 ∷ v ≡ n ++ 64 ∷ w = cc in
    let rest = last_at m n v w h k tails in
    (ap (λ b. b ∷ m) heads ∙ ap (λ bs. y ∷ bs) rest.0, rest.1)

pub named_id : (id : Id) → is_id id ≡ true → is_name (id_name id) ≡ true
named_id id h = and_left (is_name (id_name id)) (is_version (id_version id)) h

-- a version is one part of a path, so that it stays
dir_is : (id : Id) → is_id id ≡ true → dir_name id ≡ map plus_for_slash (id_name id) ++ 64 ∷ id_version id
dir_is id h =
    let part = id_part id h in
    ap (map plus_for_slash) (sym (id_law.text id h)) ∙ map-append plus_for_slash (id_name id) (64 ∷ id_version id)
    ∙ ap (λ v. map plus_for_slash (id_name id) ++ 64 ∷ v) (flat_same (id_version id) (not_true _ (and_left (is_flat (id_version id)) (is_filled (id_version id)) part)))

-- the id can be read from the folder's name
pub one_dir : (d e : Id) → is_id d ≡ true → is_id e ≡ true → dir_name d ≡ dir_name e → d ≡ e
one_dir d e s t h =
    let parts =
    last_at (map plus_for_slash (id_name d)) (map plus_for_slash (id_name e)) (id_version d) (id_version e) (no_at (id_version d) (version_id d s)) (no_at (id_version e) (version_id e t))
    (sym (dir_is d s) ∙ h ∙ dir_is e t) in
    let names = text_back (id_name d) (id_name e) (name_lacks (id_name d) (name_of (id_name d) (named_id d s))) (name_lacks (id_name e) (name_of (id_name e) (named_id e t))) parts.0 in
    sym (id_law.text d s) ∙ ap (λ n. id_text n (id_version d)) names ∙ ap (id_text (id_name e)) parts.1 ∙ id_law.text e t where
      version_id : (id : Id) → is_id id ≡ true → is_version (id_version id) ≡ true
      version_id id h = and_right (is_name (id_name id)) (is_version (id_version id)) h

-- it has an `@`
dir_at : (id : Id) → is_id id ≡ true → list_any (λ b. b == 64) (dir_name id) ≡ true
dir_at id h = ap (list_any (λ b. b == 64)) (dir_is id h) ∙ list_any-append (λ b. b == 64) (map plus_for_slash (id_name id)) (64 ∷ id_version id) ∙ or_true (list_any (λ b. b == 64) (map plus_for_slash (id_name id)))

pub dir_no_modules : (id : Id) → is_id id ≡ true → dir_name id ≢ modules
dir_no_modules id h e = let no : true ≡ false = sym (dir_at id h) ∙ ap (list_any (λ b. b == 64)) e in cc

pub dir_no_marker : (id : Id) → is_id id ≡ true → dir_name id ≢ marker_name
dir_no_marker id h e = let no : true ≡ false = sym (dir_at id h) ∙ ap (list_any (λ b. b == 64)) e in cc

byte_flat : (b : ℕ) → (plus_for_slash b == 47) ≡ false
byte_flat b = elim (b == 47) as (λ c. (b == 47) ≡ c → ((if c then 43 else b) == 47) ≡ false) [ true ↦ λ is. refl | false ↦ λ is. is ] refl

text_flat : (xs : List ℕ) → list_any (λ b. b == 47) (map plus_for_slash xs) ≡ false
text_flat [] = refl
text_flat (x ∷ xs) = ap (λ a. a || list_any (λ b. b == 47) (map plus_for_slash xs)) (byte_flat x) ∙ text_flat xs

filled_second : (a : ℕ) → is_filled (a ∷ 64 ∷ []) ≡ true
filled_second a = elim (a == 46) as (λ c. not (c && false) ≡ true) [ true ↦ refl | false ↦ refl ]

-- what stands before and behind an `@` makes it no `.` and no `..`
at_filled : (m v : List ℕ) → is_filled (m ++ 64 ∷ v) ≡ true
at_filled [] [] = refl
at_filled [] (b ∷ []) = refl
at_filled [] (b ∷ c ∷ v) = refl
at_filled (a ∷ []) [] = filled_second a
at_filled (a ∷ []) (b ∷ v) = refl
at_filled (a ∷ b ∷ []) v = refl
at_filled (a ∷ b ∷ c ∷ m) v = refl

-- it names an entry of a folder
pub dir_is_part : (id : Id) → is_id id ≡ true → IsTrue (is_part (dir_name id))
dir_is_part id h = both_true (ap not (text_flat id)) (ap is_filled (dir_is id h) ∙ at_filled (map plus_for_slash (id_name id)) (id_version id))
