-- The texts of package folders' paths.
use Rattle.std.proofs.Common.{◌≡◌, ◌<◌, ◌≤◌, ℕ, List, [], ◌∷◌, ◌++◌, length, refl, sym, ap, ◌∙◌, subst, true, false, arith, append_assoc}
use Rattle.std.specs.Prelude.{codes, nat_lt, IsTrue, if◌then◌else◌}
use Rattle.std.proofs.lemmas.Bool.{lt-ltb, ltb-true, ltb-false}
use Rattle.pn_text.specs.declared.limits.TheConstants.{PATH_LIMIT}
use Rattle.pn_text.specs.Ids.{id_name, is_id}
use Rattle.pn_text.specs.Path.{Path, is_path, path_text, text_below, SpellsAbs, SpellsParts}
use Rattle.pn_text.specs.Name.{name_path, modules}
use Rattle.pn_text.proofs.Joins.{joined}
use Rattle.pn_text.proofs.Paths.{spells_one}
use Rattle.pn_package.specs.Links.{Id}
use Rattle.pn_tree.proofs.DrawLemmas.{spells_name, spells_below, spells_part}
use Rattle.pn_layout.specs.Store.{dir_name, beside_of, home_of}
use Rattle.pn_layout.specs.Near.{near_home}
use Rattle.pn_layout.proofs.NearLemmas.{near_short}
use Rattle.pn_layout.proofs.Dirs.{dir_is_part, named_id}

home_parts : (id : Id) → is_id id ≡ true → SpellsParts (codes ".pnpm/" ++ (dir_name id ++ (codes "/node_modules/" ++ id_name id))) (home_of [] id)
home_parts id good =
    let name = id_name id in
    let store = spells_part (codes ".pnpm") refl in
    let dir = spells_below (codes ".pnpm") (dir_name id) (codes ".pnpm" ∷ []) (dir_name id ∷ []) store (spells_part (dir_name id) (dir_is_part id good)) in
    let beside = spells_below (codes ".pnpm" ++ 47 ∷ dir_name id) modules (dir_name id ∷ codes ".pnpm" ∷ []) (modules ∷ []) dir (spells_part modules refl) in
    let home = spells_below ((codes ".pnpm" ++ 47 ∷ dir_name id) ++ 47 ∷ modules) name (modules ∷ dir_name id ∷ codes ".pnpm" ∷ []) (name_path name) beside (spells_name name (named_id id good)) in
    subst (λ t. SpellsParts (codes ".pnpm/" ++ t) (home_of [] id)) (append_assoc (dir_name id) (47 ∷ modules) (47 ∷ name)) home

home_at : (top : Path) (id : Id) → home_of [] id ++ top ≡ home_of top id
home_at top id = append_assoc (name_path (id_name id)) (beside_of [] id) top

pub home_spelled : (text stem dir name : List ℕ) (top : Path) (id : Id) → text ≡ (((stem ++ codes "/.pnpm/") ++ dir) ++ codes "/node_modules/") ++ name → stem ≡ text_below top → IsTrue (is_path top) → dir ≡ dir_name id → name ≡ id_name id → is_id id ≡ true
    → SpellsAbs text (home_of top id)
home_spelled text stem dir name top id e s p d n good =
    let tail = dir ++ (codes "/node_modules/" ++ name) in
    let whole : text ≡ stem ++ 47 ∷ (codes ".pnpm/" ++ tail) = e ∙ append_assoc ((stem ++ codes "/.pnpm/") ++ dir) (codes "/node_modules/") name ∙ append_assoc (stem ++ codes "/.pnpm/") dir (codes "/node_modules/" ++ name) ∙ append_assoc stem (codes "/.pnpm/") tail in
    let same : codes ".pnpm/" ++ tail ≡ codes ".pnpm/" ++ (dir_name id ++ (codes "/node_modules/" ++ id_name id)) = λ i. codes ".pnpm/" ++ (d i ++ (codes "/node_modules/" ++ n i)) in
    subst (SpellsAbs text) (home_at top id) (joined text stem (codes ".pnpm/" ++ tail) top (home_of [] id) whole s p (subst (λ t. SpellsParts t (home_of [] id)) (sym same) (home_parts id good)))

-- a path that is too long, and one that is not
pub near_by : (top : Path) (id : Id) (text : List ℕ) (found : Path) → SpellsAbs text (home_of top id) → (PATH_LIMIT < length text → ⊥) → SpellsAbs text found → found ≡ near_home top id
near_by top id text found s short there =
    let fits : length (path_text (home_of top id)) ≤ PATH_LIMIT = subst (λ t. length t ≤ PATH_LIMIT) s.spelled (not_more short) in
    spells_one text found (home_of top id) there s ∙ sym (near_short top id fits) where
      not_more : (PATH_LIMIT < length text → ⊥) → length text ≤ PATH_LIMIT
      not_more h = elim (nat_lt PATH_LIMIT (length text)) as (λ b. nat_lt PATH_LIMIT (length text) ≡ b → length text ≤ PATH_LIMIT) [
        | true ↦ λ is. absurd (h (ltb-true PATH_LIMIT (length text) is))
        | false ↦ λ is. let k = ltb-false PATH_LIMIT (length text) is in omega (arith, k)
      ] refl

pub near_long : (top : Path) (id : Id) (text : List ℕ) → SpellsAbs text (home_of top id) → PATH_LIMIT < length text → near_home top id ≡ top
near_long top id text s long =
    let far : PATH_LIMIT < length (path_text (home_of top id)) = subst (λ t. PATH_LIMIT < length t) s.spelled long in
    ap (λ b. if b then top else home_of top id) (lt-ltb PATH_LIMIT (length (path_text (home_of top id))) far)
