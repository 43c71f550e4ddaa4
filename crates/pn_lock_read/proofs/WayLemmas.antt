-- The texts of links between projects.
use Rattle.std.proofs.Common.{◌≡◌, ℕ, zero, suc, true, false, cond, List, [], ◌∷◌, ◌++◌, length, drop, refl, sym, ap, ◌∙◌, subst, inl, inr, append-nil, Some, None, Ok}
use Rattle.std.specs.Prelude.{◌==◌, ◌&&◌, ◌||◌, not, nat_le, bytes_eq, codes, Option, option_map, reverse}
use Rattle.std.specs.List.{list_any}
use Rattle.std.proofs.lemmas.Bool.{cases_Bool, or_cases}
use Rattle.std.proofs.lemmas.List.{reverse-append}
use Rattle.std.proofs.lemmas.Slice.Eq.{bytes_eq-Decides}
use Rattle.pn_text.specs.Path.{Path, is_flat, is_filled, is_part, is_path, parts_from, tail_of, text_below}
use Rattle.pn_text.specs.Relative.{dots}
use Rattle.pn_text.specs.declared.limits.TheConstants.{PATH_LIMIT}
use Rattle.pn_text.proofs.Bools.{and_left, and_right, not_true}
use Rattle.pn_text.proofs.Paths.{parts_from-append, parts_from-flat}
use Rattle.pn_text.proofs.Joins.{below_begins}
use Rattle.pn_lock.specs.Folders.{is_folder}
use Rattle.pn_lock.proofs.FolderLemmas.{tail_again}
use Rattle.pn_lock_print.specs.TargetTexts.{folder_path, turned, steps_to, steps_text, link_text}
use Rattle.pn_lock_shape.specs.declared.drafts.Aim.TheVariants as aim
use Rattle.pn_lock_shape.specs.Targets.{folder_text, parent, step, on_some, led, is_relative, folder_at, walked, aim_at, target_in}

-- where steps lead from a folder, the last step first
abbrev climbed : Path → Path → Option Path
climbed from [] = Some from
climbed from (x ∷ steps) = on_some (climbed from steps) (step x)

-- ---- where steps lead

into : (x : List ℕ) (q : Path) → is_part x ≡ true → step x q ≡ Some (x ∷ q)
into x q g = elim (cases_Bool (bytes_eq x (codes ".."))) [
  | inl e ↦ absurd (cc (g, ap is_part ((bytes_eq-Decides x (codes "..")).0 e)))
  | inr e ↦ elim (cases_Bool (bytes_eq x [] || bytes_eq x (codes "."))) [
    | inl f ↦ elim (or_cases (bytes_eq x []) (bytes_eq x (codes ".")) f) [
      | inl k ↦ absurd (cc (g, ap is_part ((bytes_eq-Decides x []).0 k)))
      | inr k ↦ absurd (cc (g, ap is_part ((bytes_eq-Decides x (codes ".")).0 k)))
    ]
    | inr f ↦ ap (λ o. cond o (parent q) (cond (bytes_eq x [] || bytes_eq x (codes ".")) (Some q) (Some (x ∷ q)))) e ∙ ap (λ o. cond o (Some q) (Some (x ∷ q))) f
  ]
]

climbed_down : (c p : Path) → is_path p ≡ true → climbed c p ≡ Some (p ++ c)
climbed_down c [] h = refl
climbed_down c (x ∷ p) h = ap (λ o. on_some o (step x)) (climbed_down c p (and_right (is_part x) (is_path p) h)) ∙ into x (p ++ c) (and_left (is_part x) (is_path p) h)

climbed_up : (ups c : Path) → climbed (turned ups c) (dots (length ups)) ≡ Some c
climbed_up [] c = refl
climbed_up (x ∷ ups) c = ap (λ o. on_some o (step (codes ".."))) (climbed_up ups (x ∷ c))

some_same : (o : Option Path) → on_some o (λ b. Some b) ≡ o
some_same None = refl
some_same (Some b) = refl

chained : (o : Option Path) (f g : Path → Option Path) → on_some (on_some o f) g ≡ on_some o (λ b. on_some (f b) g)
chained None f g = refl
chained (Some b) f g = refl

climbed_append : (base p q : Path) → climbed base (p ++ q) ≡ on_some (climbed base q) (λ b. climbed b p)
climbed_append base [] q = sym (some_same (climbed base q))
climbed_append base (x ∷ p) q = ap (λ o. on_some o (step x)) (climbed_append base p q) ∙ chained (climbed base q) (λ b. climbed b p) (step x)

turned_append : (p a c : Path) → turned p (a ++ c) ≡ turned p a ++ c
turned_append [] a c = refl
turned_append (x ∷ p) a c = turned_append p (x ∷ a) c

turned_twice : (p a b : Path) → turned (turned p a) b ≡ turned a (p ++ b)
turned_twice [] a b = refl
turned_twice (x ∷ p) a b = turned_twice p (x ∷ a) b

path_turned : (p a : Path) → is_path p ≡ true → is_path a ≡ true → is_path (turned p a) ≡ true
path_turned [] a h k = k
path_turned (x ∷ p) a h k =
    path_turned p (x ∷ a) (and_right (is_part x) (is_path p) h) (ap (λ o. o && is_path a) (and_left (is_part x) (is_path p) h) ∙ k)

climbed_turned : (c downs : Path) → is_path downs ≡ true → climbed c (turned downs []) ≡ Some (turned downs c)
climbed_turned c downs h = climbed_down c (turned downs []) (path_turned downs [] h refl) ∙ ap Some (sym (turned_append downs [] c))

-- the steps lead there
walk : (c ups downs : Path) → is_path downs ≡ true → climbed (turned ups c) (steps_to ups downs) ≡ Some (turned downs c)
walk c [] downs h = climbed_turned c downs h
walk c (x ∷ ups) [] h = climbed_up (x ∷ ups) c
walk c (x ∷ ups) (y ∷ downs) h = (elim (bytes_eq x y) as (λ o. bytes_eq x y ≡ o → climbed (turned ups (x ∷ c)) (cond o (steps_to ups downs) (turned (y ∷ downs) [] ++ dots (suc (length ups)))) ≡ Some (turned downs (y ∷ c))) [
  | true ↦ λ e. walk (x ∷ c) ups downs (and_right (is_part y) (is_path downs) h) ∙ ap (λ z. Some (turned downs (z ∷ c))) ((bytes_eq-Decides x y).0 e)
  | false ↦ λ e. climbed_append (turned (x ∷ ups) c) (turned (y ∷ downs) []) (dots (suc (length ups)))
      ∙ ap (λ o. on_some o (λ b. climbed b (turned (y ∷ downs) []))) (climbed_up (x ∷ ups) c) ∙ climbed_turned c (y ∷ downs) h
]) refl

-- ---- the texts of steps

abbrev Fine : Path → Type 0
Fine [] = Unit {0}
Fine (x ∷ p) = (list_any (λ b. b == 47) x ≡ false) × ((b : ℕ) × (r : List ℕ) × (x ≡ b ∷ r)) × Fine p

fine_dots : (n : ℕ) → Fine (dots n)
fine_dots zero = tt
fine_dots (suc n) = (refl, (46, 46 ∷ [], refl), fine_dots n)

part_filled : (x : List ℕ) → is_part x ≡ true → (b : ℕ) × (r : List ℕ) × (x ≡ b ∷ r)
part_filled [] h = absurd (cc h)
part_filled (b ∷ r) h = (b, r, refl)

part_flat : (x : List ℕ) → is_part x ≡ true → list_any (λ b. b == 47) x ≡ false
part_flat x h = not_true _ (and_left (is_flat x) (is_filled x) h)

fine_path : (p : Path) → is_path p ≡ true → Fine p
fine_path [] h = tt
fine_path (x ∷ p) h = let g = and_left (is_part x) (is_path p) h in (part_flat x g, part_filled x g, fine_path p (and_right (is_part x) (is_path p) h))

fine_append : (p q : Path) → Fine p → Fine q → Fine (p ++ q)
fine_append [] q h k = k
fine_append (x ∷ p) q h k = (h.0, h.1, fine_append p q h.2 k)

fine_steps : (ups downs : Path) → is_path downs ≡ true → Fine (steps_to ups downs)
fine_steps [] downs h = fine_path (turned downs []) (path_turned downs [] h refl)
fine_steps (x ∷ ups) [] h = fine_dots (suc (length ups))
fine_steps (x ∷ ups) (y ∷ downs) h = elim (bytes_eq x y) as (λ o. Fine (cond o (steps_to ups downs) (turned (y ∷ downs) [] ++ dots (suc (length ups))))) [
  | true ↦ fine_steps ups downs (and_right (is_part y) (is_path downs) h)
  | false ↦ fine_append (turned (y ∷ downs) []) (dots (suc (length ups))) (fine_path (turned (y ∷ downs) []) (path_turned (y ∷ downs) [] h refl)) (fine_dots (suc (length ups)))
]

flat_parts : (p : Path) → Fine p → parts_from [] (text_below p) ≡ p
flat_parts [] h = refl
flat_parts (x ∷ p) h =
    parts_from-append (text_below p) (47 ∷ x) [] ∙ ap (λ q. parts_from q (47 ∷ x)) (flat_parts p h.2) ∙ parts_from-flat x p [] h.0

-- no slash at the front
relative_part : (x : List ℕ) → list_any (λ b. b == 47) x ≡ false → (b : ℕ) × (r : List ℕ) × (x ≡ b ∷ r) → is_relative x ≡ true
relative_part [] h s = absurd (cc s.2)
relative_part (b ∷ r) h s = (elim (b == 47) as (λ o. (o || list_any (λ c. c == 47) r) ≡ false → not o ≡ true) [ true ↦ λ g. absurd (cc g) | false ↦ λ g. refl ]) h

relative_more : (t z : List ℕ) → is_relative t ≡ true → is_relative (t ++ z) ≡ true
relative_more [] z h = absurd (cc h)
relative_more (b ∷ t) z h = h

drop_more : (t z rest : List ℕ) → t ≡ 47 ∷ rest → drop 1 (t ++ z) ≡ drop 1 t ++ z
drop_more t z rest e = ap (λ y. drop 1 (y ++ z)) e ∙ ap (λ y. drop 1 y ++ z) (sym e)

relative_steps : (x : List ℕ) (p : Path) → Fine (x ∷ p) → is_relative (drop 1 (text_below (x ∷ p))) ≡ true
relative_steps x [] h = relative_part x h.0 h.1
relative_steps x (y ∷ p) h =
    let b = below_begins y p in
    ap is_relative (drop_more (text_below (y ∷ p)) (47 ∷ x) b.0 b.1) ∙ relative_more (drop 1 (text_below (y ∷ p))) (47 ∷ x) (relative_steps y p h.2)

-- ---- parts, the first one first

same_some : (o : Option Path) → on_some o (λ r. Some r) ≡ o
same_some None = refl
same_some (Some r) = refl

led_append : (p : Path) (xs ys : List (List ℕ)) → led p (xs ++ ys) ≡ on_some (led p xs) (λ q. led q ys)
led_append p [] ys = refl
led_append p (x ∷ xs) ys = go (step x p) (λ q. led_append q xs ys) where
  go : (o : Option Path) → ((q : Path) → led q (xs ++ ys) ≡ on_some (led q xs) (λ q. led q ys)) → on_some o (λ q. led q (xs ++ ys)) ≡ on_some (on_some o (λ q. led q xs)) (λ q. led q ys)
  go None f = refl
  go (Some q) f = f q

one_step : (x : List ℕ) (o : Option Path) → on_some o (λ q. led q (x ∷ [])) ≡ on_some o (step x)
one_step x None = refl
one_step x (Some q) = same_some (step x q)

led_climbed : (p steps : Path) → led p (reverse steps) ≡ climbed p steps
led_climbed p [] = refl
led_climbed p (x ∷ steps) = ap (led p) (reverse-append (x ∷ []) steps) ∙ led_append p (reverse steps) (x ∷ []) ∙ one_step x (led p (reverse steps)) ∙ ap (λ o. on_some o (step x)) (led_climbed p steps)

with_slash : (t rest : List ℕ) → t ≡ 47 ∷ rest → 47 ∷ drop 1 t ≡ t
with_slash t rest e = ap (λ y. 47 ∷ drop 1 y) e ∙ sym e

steps_walked : (base p : Path) → Fine p → (is_relative (steps_text p) ≡ true) × (walked (steps_text p) base ≡ climbed base p)
steps_walked base [] h = (refl, refl)
steps_walked base (x ∷ p) h =
    let b = below_begins x p in
    (relative_steps x p h, ap (λ t. led base (reverse (parts_from [] t))) (with_slash (text_below (x ∷ p)) b.0 b.1) ∙ ap (λ (q : Path). led base (reverse q)) (flat_parts (x ∷ p) h) ∙ led_climbed base (x ∷ p))

-- ---- folders

text_of : (p : Path) (f : List ℕ) → text_below p ≡ 47 ∷ f → folder_text p ≡ f
text_of [] f h = absurd (cc h)
text_of (x ∷ p) f h = ap (drop 1) h

record Good (f : List ℕ) : Type 0 where
  path : is_path (folder_path f) ≡ true
  text : folder_text (folder_path f) ≡ f
  walk : walked f [] ≡ Some (folder_path f)

rel_walked : (f : List ℕ) → is_path (tail_of f) ≡ true → walked f [] ≡ Some (tail_of f)
rel_walked f h = led_climbed [] (tail_of f) ∙ climbed_down [] (tail_of f) h ∙ ap Some (append-nil (tail_of f))

folder_good : (f : List ℕ) → is_folder f ≡ true → Good f
folder_good f h = elim (cases_Bool (bytes_eq f (codes "."))) [
  | inl e ↦
      let dot : f ≡ codes "." = (bytes_eq-Decides f (codes ".")).0 e in
      subst Good (sym dot) (record { path = refl; text = refl; walk = refl })
  | inr e ↦
      let rel : (is_path (tail_of f) && nat_le (length f) PATH_LIMIT) ≡ true = sym (ap (λ o. o || (is_path (tail_of f) && nat_le (length f) PATH_LIMIT)) e) ∙ h in
      let good = and_left (is_path (tail_of f)) (nat_le (length f) PATH_LIMIT) rel in
      let path : folder_path f ≡ tail_of f = ap (λ o. cond o [] (tail_of f)) e in
      record {
        path = ap is_path path ∙ good;
        text = ap folder_text path ∙ text_of (tail_of f) f (tail_again f);
        walk = rel_walked f good ∙ ap Some (sym path);
      }
]

whole_turn : (p : Path) → turned (turned p []) [] ≡ p
whole_turn p = turned_twice p [] [] ∙ append-nil p

pub folder_back : (base to : List ℕ) → is_folder base ≡ true → is_folder to ≡ true → folder_at base (steps_text (steps_to (turned (folder_path base) []) (turned (folder_path to) []))) ≡ Some to
folder_back base to hb h =
    let b = folder_good base hb in
    let g = folder_good to h in
    let ups = turned (folder_path base) [] in
    let downs = turned (folder_path to) [] in
    let good : is_path downs ≡ true = path_turned (folder_path to) [] g.path refl in
    let steps = steps_to ups downs in
    let s = steps_walked (folder_path base) steps (fine_steps ups downs good) in
    let w : climbed (folder_path base) steps ≡ Some (folder_path to) = ap (λ c. climbed c steps) (sym (whole_turn (folder_path base))) ∙ walk [] ups downs good ∙ ap Some (whole_turn (folder_path to)) in
    ap (λ o. cond o (option_map folder_text (on_some (walked base []) (walked (steps_text steps)))) None) s.0
    ∙ ap (λ o. option_map folder_text (on_some o (walked (steps_text steps)))) b.walk
    ∙ ap (option_map folder_text) (s.1 ∙ w) ∙ ap Some g.text

pub link_back : (base alias to : List ℕ) → is_folder base ≡ true → is_folder to ≡ true → target_in (aim_at base alias (link_text base to)) ≡ Ok (aim.Folder (Some to) (link_text base to))
link_back base alias to b h = ap (λ o. Ok (aim.Folder o (link_text base to))) (folder_back base to b h)
