-- Lemmas on relative paths as texts of links.
use Rattle.std.proofs.Common.{◌≡◌, ◌≢◌, ℕ, List, [], ◌∷◌, ◌++◌, length, refl, sym, ap, ◌∙◌, subst, true, false, Some, None, zero, suc}
use Rattle.std.specs.Prelude.{Option, if◌then◌else◌, ◌==◌, ◌&&◌, IsTrue}
use Rattle.pn_text.specs.Path.{Path, is_path, is_part, is_flat, is_filled, text_below, parts_from, same_path}
use Rattle.pn_text.proofs.Paths.{and_left, and_right, not_true, parts_from-append, parts_from-flat, same_path-Decides}
use Rattle.pn_text.specs.Relative.{parent_of, above, dots, Leads, IsRelative}
use Rattle.pn_text.proofs.Relatives.{leads, dot_for_same}
use Rattle.pn_fs.specs.Tree.{folder, link, Tree, IsTree}
use Rattle.pn_node.specs.Find.{Step, into, up, at_entry, led, walk_on, walk, real, path_steps, text_steps, before_steps}
use Rattle.pn_node.proofs.Walks.{walk_down, real_in}
use Rattle.pn_text.proofs.Bools.{left_false}

-- a filled part that is not `.` or `..` is a step into an entry
into_part : (x : List ℕ) (steps : List Step) → is_filled x ≡ true → before_steps x steps ≡ into x ∷ steps
into_part [] steps h = cc
into_part (b ∷ []) steps h = ap (λ c. if c then steps else into (b ∷ []) ∷ steps) (not_true (b == 46) h)
into_part (b ∷ c ∷ []) steps h = ap (λ d. if d then up ∷ steps else into (b ∷ c ∷ []) ∷ steps) (not_true ((b == 46) && (c == 46)) h)
into_part (b ∷ c ∷ d ∷ bs) steps h = refl

filled : (x : List ℕ) (p : Path) → IsTrue (is_path (x ∷ p)) → is_filled x ≡ true
filled x p h = and_right (is_flat x) (is_filled x) (and_left (is_part x) (is_path p) h)

flat : (x : List ℕ) (p : Path) → IsTrue (is_path (x ∷ p)) → IsTrue (is_flat x)
flat x p h = and_left (is_flat x) (is_filled x) (and_left (is_part x) (is_path p) h)

-- the steps of a text's parts down, and before them the steps up
pub text_steps_down : (q dotted : Path) (steps : List Step) → IsTrue (is_path q) → text_steps (q ++ dotted) steps ≡ text_steps dotted (path_steps q steps)
text_steps_down [] dotted steps h = refl
text_steps_down (x ∷ q) dotted steps h =
    ap (text_steps (q ++ dotted)) (into_part x steps (filled x q h))
    ∙ text_steps_down q dotted (into x ∷ steps) (and_right (is_part x) (is_path q) h)

parent_above : (k : ℕ) (p : Path) → parent_of (above k p) ≡ above k (parent_of p)
parent_above zero p = refl
parent_above (suc k) p = parent_above k (parent_of p)

walk_up : (again : Path → List Step → Option Path) (t : Tree) (k : ℕ) (p : Path) (steps : List Step) → walk_on again t p (text_steps (dots k) steps) ≡ walk_on again t (above k p) steps
walk_up again t zero p steps = refl
walk_up again t (suc k) p steps = walk_up again t k p (up ∷ steps) ∙ ap (λ q. walk_on again t q steps) (parent_above k p)

-- Each part of such a text is filled and has no slash.
good_parts : Path → Type 0
good_parts [] = Unit {0}
good_parts (x ∷ p) = IsTrue (is_flat x) × (x ≢ []) × good_parts p

parts_of_text : (p : Path) → good_parts p → parts_from [] (text_below p) ≡ p
unfolding good_parts
parts_of_text [] h = refl
parts_of_text (x ∷ p) h = parts_from-append (text_below p) (47 ∷ x) [] ∙ ap (λ q. parts_from q (47 ∷ x)) (parts_of_text p h.2) ∙ parts_from-flat x p [] (not_true _ h.0)

good_dots : (k : ℕ) → good_parts (dots k)
unfolding good_parts
good_dots zero = tt
good_dots (suc k) = (refl, (λ e. cc), good_dots k)

not_empty : (x : List ℕ) → is_filled x ≡ true → x ≢ []
not_empty x h e = let no : false ≡ true = sym (ap is_filled e) ∙ h in cc

good_down : (q : Path) (k : ℕ) → IsTrue (is_path q) → good_parts (q ++ dots k)
unfolding good_parts
good_down [] k h = good_dots k
good_down (x ∷ q) k h = (flat x q h, not_empty x (filled x q h), good_down q k (and_right (is_part x) (is_path q) h))

-- Behind its first byte this text begins with a byte other than a slash.
Begins : List ℕ → Type 0
Begins [] = ⊥
Begins (a ∷ []) = ⊥
Begins (a ∷ b ∷ text) = (b == 47) ≡ false

begins_more : (xs ys : List ℕ) → Begins xs → Begins (xs ++ ys)
unfolding Begins
begins_more [] ys h = absurd h
begins_more (a ∷ []) ys h = absurd h
begins_more (a ∷ b ∷ xs) ys h = h

begins_part : (x : List ℕ) → IsTrue (is_flat x) → x ≢ [] → Begins (47 ∷ x)
unfolding Begins
begins_part [] h some = some refl
begins_part (b ∷ x) h some = left_false (b == 47) _ (not_true _ h)

begins : (p : Path) → good_parts p → p ≢ [] → Begins (text_below p)
unfolding good_parts
begins [] h some = absurd (some refl)
begins (x ∷ []) h some = begins_part x h.0 h.1
begins (x ∷ y ∷ p) h some = begins_more (text_below (y ∷ p)) (47 ∷ x) (begins (y ∷ p) h.2 (λ e. cc))

begins_leads : (text : List ℕ) (k : ℕ) (down : Path) → Leads text k down → Begins (47 ∷ text)
begins_leads text k down leads =
    subst Begins (sym leads.spelled) (begins (down ++ dots k) (good_down down k leads.good) (λ e. let no : 47 ∷ text ≡ [] = leads.spelled ∙ ap text_below e in cc))

led_by : (again : Path → List Step → Option Path) (p : Path) (text : List ℕ) (ps : Path) → Begins (47 ∷ text) → parts_from [] (47 ∷ text) ≡ ps → led again p text [] ≡ again p (text_steps ps [])
unfolding Begins
led_by again p [] ps h is = absurd h
led_by again p (b ∷ text) ps h is = ap (λ c. again (if c then [] else p) (text_steps (parts_from [] (47 ∷ b ∷ text)) [])) h ∙ ap (λ ps. again p (text_steps ps [])) is

-- a link's text leads up and then down
leads_to : (again : Path → List Step → Option Path) (t : Tree) → IsTree t → (p : Path) (text : List ℕ) (k : ℕ) (down : Path) → Leads text k down
    → t (down ++ above k p) ≡ Some folder → led (walk_on again t) p text [] ≡ Some (down ++ above k p)
leads_to again t tree p text k down leads there =
    led_by (walk_on again t) p text (down ++ dots k) (begins_leads text k down leads) (ap (parts_from []) leads.spelled ∙ parts_of_text (down ++ dots k) (good_down down k leads.good))
    ∙ ap (walk_on again t p) (text_steps_down down (dots k) [] leads.good)
    ∙ walk_up again t k p (path_steps down [])
    ∙ walk_down again t tree down (above k p) [] there

led_dot : (t : Tree) (p : Path) (text : List ℕ) → text ≡ 46 ∷ [] → led (walk 39 t) p text [] ≡ Some p
led_dot t p text is = ap (λ w. led (walk 39 t) p w []) is

-- a relative path to a folder leads there
relative_leads : (t : Tree) → IsTree t → (p : Path) (text : List ℕ) (target : Path) → IsRelative p target text → t target ≡ Some folder → led (walk 39 t) p text [] ≡ Some target
relative_leads t tree p text target rel there = elim (same_path p target) as (λ b. same_path p target ≡ b → led (walk 39 t) p text [] ≡ Some target) [
  | true ↦ λ is.
      let same : p ≡ target = (same_path-Decides p target).0 is in
      led_dot t p text (dot_for_same p text (subst (λ q. IsRelative p q text) (sym same) rel)) ∙ ap Some same
  | false ↦ λ is.
      let way = leads p target text rel (tree.paths target folder there).0 (λ e. let no : false ≡ true = sym is ∙ (same_path-Decides p target).1 e in cc) in
      leads_to (walk 38 t) t tree p text (length rel.up) rel.down way.0 (ap t way.1 ∙ there) ∙ ap Some way.1
] refl

-- the real path of a link with a relative path to a folder
pub real_link : (t : Tree) → IsTree t → (q : Path) (text : List ℕ) (target : Path) → t q ≡ Some (link text) → IsRelative (parent_of q) target text → t target ≡ Some folder → real t q ≡ Some target
real_link t tree [] text target is rel there = let no : Some folder ≡ Some (link text) = sym tree.root ∙ is in cc
real_link t tree (x ∷ p) text target is rel there =
    real_in t tree p x (tree.parents x p (link text) is)
    ∙ ap (λ e. at_entry e None (Some (x ∷ p)) (Some (x ∷ p)) (λ text. led (walk 39 t) p text [])) is
    ∙ relative_leads t tree p text target rel there
