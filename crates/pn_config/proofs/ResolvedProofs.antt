-- Where texts lead from a folder.
use Rattle.std.proofs.Common.{◌≡◌, ◌≢◌, ℕ, List, [], ◌∷◌, ◌++◌, refl, sym, ap, ◌∙◌, append_assoc, append-nil, true, false, if◌then◌else◌}
use Rattle.std.specs.Prelude.{Bool, IsTrue, codes, not, ◌&&◌, ◌||◌, ◌==◌}
use Rattle.std.specs.Cmp.Derive.{both_true}
use Rattle.std.specs.List.{list_any}
use Rattle.std.specs.Str.{bytes_eq}
use Rattle.std.proofs.lemmas.List.Folds.{list_any-append}
use Rattle.std.proofs.lemmas.Slice.Eq.{bytes_eq-Decides}
use Rattle.pn_text.specs.Path.{Path, SpellsAbs, SpellsParts, is_filled, is_flat, is_part, is_path, parts_from, tail_of, text_below}
use Rattle.pn_text.specs.Relative.{parent_of}
use Rattle.pn_text.proofs.Bools.{and_left, and_right}
use Rattle.pn_text.proofs.Cuts.{parts_cut}
use Rattle.pn_text.proofs.Joins.{begins_slash}
use Rattle.pn_text.proofs.Paths.{parts_from-text_below, tail_of-spelled}
use Rattle.pn_config.specs.Folders.{led, led_by, resolved, start_of}
use Rattle.pn_config.specs.Laws.{ResolvedLaw}
use Rattle.pn_config.proofs.WayLemmas.{last_good, one_part}

-- one after the other
led_on : (q p from : Path) → led_by from (q ++ p) ≡ led_by (led_by from p) q
led_on [] p from = refl
led_on (x ∷ q) p from = ap (led x) (led_on q p from)

-- what is read already stays behind the part that is read
behind : (text x : List ℕ) (p : Path) → parts_from (x ∷ p) text ≡ parts_from (x ∷ []) text ++ p
behind [] x p = refl
behind (b ∷ bs) x p = elim (b == 47) as (λ c. parts_from (if c then [] ∷ x ∷ p else (x ++ b ∷ []) ∷ p) bs ≡ parts_from (if c then [] ∷ x ∷ [] else (x ++ b ∷ []) ∷ []) bs ++ p) [
  | true ↦ behind bs [] (x ∷ p) ∙ sym (append_assoc (parts_from ([] ∷ []) bs) (x ∷ []) p) ∙ ap (λ q. q ++ p) (sym (behind bs [] (x ∷ [])))
  | false ↦ behind bs (x ++ b ∷ []) p
]

-- a text behind a slash leads on from where the parts before it lead
led_behind : (text : List ℕ) (p from : Path) → led_by from (parts_from ([] ∷ p) text) ≡ led_by (led_by from p) (tail_of text)
led_behind text p from = ap (led_by from) (behind text [] p) ∙ led_on (tail_of text) p from

absolute : (text : List ℕ) (root : Path) → resolved (47 ∷ text) root ≡ resolved (46 ∷ 47 ∷ text) []
absolute text root = led_behind text ([] ∷ []) [] ∙ sym (led_behind text ((46 ∷ []) ∷ []) [])

-- a text without a slash counts from the root
start_flat : (x : List ℕ) (root : Path) → IsTrue (is_flat x) → start_of x root ≡ root
start_flat [] root flat = refl
start_flat (b ∷ bs) root flat = elim (b == 47) as (λ c. IsTrue (not (c || list_any (λ d. d == 47) bs)) → (if c then [] else root) ≡ root) [
  | true ↦ λ none. cc
  | false ↦ λ some. refl
] flat

led_flat : (x : List ℕ) (root : Path) → IsTrue (is_flat x) → resolved x root ≡ led x root
led_flat x root flat = ap (led_by (start_of x root)) (one_part x flat) ∙ ap (led x) (start_flat x root flat)

last : (text part : List ℕ) (root : Path) → text ≢ [] → IsTrue (is_flat part) → resolved (text ++ 47 ∷ part) root ≡ resolved part (resolved text root)
last [] part root some flat = absurd (some refl)
last (b ∷ bs) part root some flat =
    ap (led_by (start_of (b ∷ bs) root)) (parts_cut (b ∷ (bs ++ 47 ∷ part)) (b ∷ bs) part refl flat) ∙ sym (led_flat part (resolved (b ∷ bs) root) flat)

-- a part is none of those that stay or lead up
differs : (x y : List ℕ) → is_filled x ≡ true → is_filled y ≡ false → bytes_eq x y ≡ false
differs x y filled bare = elim (bytes_eq x y) as (λ b. bytes_eq x y ≡ b → b ≡ false) [
  | true ↦ λ same. let both : true ≡ false = sym filled ∙ ap is_filled ((bytes_eq-Decides x y).0 same) ∙ bare in cc
  | false ↦ λ other. refl
] refl

led_part : (x : List ℕ) (p : Path) → is_filled x ≡ true → led x p ≡ x ∷ p
led_part x p filled = by (bytes_eq x []) (bytes_eq x (46 ∷ [])) (bytes_eq x (46 ∷ 46 ∷ [])) (differs x [] filled refl) (differs x (46 ∷ []) filled refl) (differs x (46 ∷ 46 ∷ []) filled refl) where
  by : (a b c : Bool) → a ≡ false → b ≡ false → c ≡ false → (if a || b then p else (if c then parent_of p else x ∷ p)) ≡ x ∷ p
  by true b c h k l = cc
  by false true c h k l = cc
  by false false true h k l = cc
  by false false false h k l = refl

filled_of : (x : List ℕ) → IsTrue (is_part x) → is_filled x ≡ true
filled_of x part = and_right (is_flat x) (is_filled x) part

flat_of : (x : List ℕ) → IsTrue (is_part x) → IsTrue (is_flat x)
flat_of x part = and_left (is_flat x) (is_filled x) part

down : (part : List ℕ) (root : Path) → IsTrue (is_part part) → resolved part root ≡ part ∷ root
down part root is = led_flat part root (flat_of part is) ∙ led_part part root (filled_of part is)

-- names lead down
led_names : (p from : Path) → IsTrue (is_path p) → led_by from p ≡ p ++ from
led_names [] from good = refl
led_names (x ∷ p) from good =
    ap (led x) (led_names p from (and_right (is_part x) (is_path p) good)) ∙ led_part x (p ++ from) (filled_of x (and_left (is_part x) (is_path p) good))

-- a text that begins with a slash
led_root : (rest : List ℕ) (p root : Path) → IsTrue (is_path p) → 47 ∷ rest ≡ text_below p → resolved (47 ∷ rest) root ≡ p
led_root rest p root good spelled =
    led_behind rest ([] ∷ []) []
    ∙ ap (led_by []) (ap (parts_from []) spelled ∙ parts_from-text_below p good)
    ∙ led_names p [] good
    ∙ append-nil p

own : (text : List ℕ) (p root : Path) → SpellsAbs text p → resolved text root ≡ p
own text [] root h = ap (λ t. resolved t root) h.spelled
own text (x ∷ p) root h =
    let begins = begins_slash text (x ∷ p) h in
    ap (λ t. resolved t root) begins.1 ∙ led_root begins.0 (x ∷ p) root h.good (sym begins.1 ∙ h.spelled)

-- the first part of a path isn't empty
start_below : (text : List ℕ) (p root : Path) → IsTrue (is_path p) → tail_of text ≡ p → start_of text root ≡ root
start_below [] p root good is = refl
start_below (b ∷ bs) p root good is = elim (b == 47) as (λ c. parts_from (if c then [] ∷ [] ∷ [] else (b ∷ []) ∷ []) bs ≡ p → (if c then [] else root) ≡ root) [
  | true ↦ λ slash. let bad = last_good p (parts_from ([] ∷ []) bs) [] (sym slash ∙ behind bs [] ([] ∷ [])) good in let none : false ≡ true = bad.1 in cc
  | false ↦ λ other. refl
] is

below : (text : List ℕ) (p root : Path) → SpellsParts text p → resolved text root ≡ p ++ root
below text p root h =
    let is = tail_of-spelled text p h in
    ap (λ from. led_by from (tail_of text)) (start_below text p root h.good is) ∙ ap (led_by root) is ∙ led_names p root h.good

abbrev all_flat : Path → Bool
all_flat [] = true
all_flat (x ∷ p) = is_flat x && all_flat p

flat_more : (x : List ℕ) (b : ℕ) → (b == 47) ≡ false → IsTrue (is_flat x) → IsTrue (is_flat (x ++ b ∷ []))
flat_more x b other flat = ap not (list_any-append (λ d. d == 47) x (b ∷ [])) ∙ by (list_any (λ d. d == 47) x) (b == 47) other flat where
  by : (a c : Bool) → c ≡ false → not a ≡ true → not (a || (c || false)) ≡ true
  by true c h k = cc
  by false true h k = cc
  by false false h k = refl

-- no part of a text has a slash
flat_parts : (text x : List ℕ) (p : Path) → IsTrue (is_flat x) → IsTrue (all_flat p) → IsTrue (all_flat (parts_from (x ∷ p) text))
flat_parts [] x p flat all = both_true flat all
flat_parts (b ∷ bs) x p flat all = elim (b == 47) as (λ c. (b == 47) ≡ c → IsTrue (all_flat (parts_from (if c then [] ∷ x ∷ p else (x ++ b ∷ []) ∷ p) bs))) [
  | true ↦ λ slash. flat_parts bs [] (x ∷ p) refl (both_true flat all)
  | false ↦ λ other. flat_parts bs (x ++ b ∷ []) p (flat_more x b other flat) all
] refl

parent_good : (p : Path) → IsTrue (is_path p) → IsTrue (is_path (parent_of p))
parent_good [] good = good
parent_good (x ∷ p) good = and_right (is_part x) (is_path p) good

-- a part that neither stays nor leads up is a name
filled_by : (x : List ℕ) → bytes_eq x [] ≡ false → bytes_eq x (46 ∷ []) ≡ false → bytes_eq x (46 ∷ 46 ∷ []) ≡ false → is_filled x ≡ true
filled_by [] a b c = cc
filled_by (d ∷ []) a b c = elim (d == 46) as (λ e. (e && true) ≡ false → not e ≡ true) [
  | true ↦ λ same. cc
  | false ↦ λ other. refl
] b
filled_by (d ∷ e ∷ []) a b c = elim (d == 46) as (λ x. (x && ((e == 46) && true)) ≡ false → not (x && (e == 46)) ≡ true) [
  | true ↦ elim (e == 46) as (λ y. (y && true) ≡ false → not y ≡ true) [
    | true ↦ λ same. cc
    | false ↦ λ other. refl
  ]
  | false ↦ λ other. refl
] c
filled_by (d ∷ e ∷ f ∷ x) a b c = refl

led_good : (x : List ℕ) (p : Path) → IsTrue (is_flat x) → IsTrue (is_path p) → IsTrue (is_path (led x p))
led_good x p flat good = by (bytes_eq x []) (bytes_eq x (46 ∷ [])) (bytes_eq x (46 ∷ 46 ∷ [])) refl refl refl where
  by : (a b c : Bool) → bytes_eq x [] ≡ a → bytes_eq x (46 ∷ []) ≡ b → bytes_eq x (46 ∷ 46 ∷ []) ≡ c → IsTrue (is_path (if a || b then p else (if c then parent_of p else x ∷ p)))
  by true b c h k l = good
  by false true c h k l = good
  by false false true h k l = parent_good p good
  by false false false h k l = both_true (both_true flat (filled_by x h k l)) good

led_all : (q from : Path) → IsTrue (all_flat q) → IsTrue (is_path from) → IsTrue (is_path (led_by from q))
led_all [] from flat good = good
led_all (x ∷ q) from flat good = led_good x (led_by from q) (and_left (is_flat x) (all_flat q) flat) (led_all q from (and_right (is_flat x) (all_flat q) flat) good)

start_good : (text : List ℕ) (root : Path) → IsTrue (is_path root) → IsTrue (is_path (start_of text root))
start_good [] root good = good
start_good (b ∷ bs) root good = elim (b == 47) as (λ c. IsTrue (is_path (if c then [] else root))) [
  | true ↦ refl
  | false ↦ good
]

path : (text : List ℕ) (root : Path) → IsTrue (is_path root) → IsTrue (is_path (resolved text root))
path text root good = led_all (tail_of text) (start_of text root) (flat_parts text [] [] refl refl) (start_good text root good)

pub resolves : ResolvedLaw
resolves = record {
  absolute = absolute;
  last = last;
  empty = λ root. led_flat [] root refl;
  here = λ root. led_flat (codes ".") root refl;
  up = λ root. led_flat (codes "..") root refl;
  down = down;
  own = own;
  below = below;
  path = path;
}
