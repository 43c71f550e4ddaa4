-- The texts of package folders' paths.
use Rattle.std.proofs.Common.{◌≡◌, ◌<◌, ℕ, List, [], ◌∷◌, ◌++◌, length, refl, sym, ap, ◌∙◌, subst, true, false, append_assoc}
use Rattle.std.specs.Prelude.{codes, nat_lt, IsTrue, if◌then◌else◌}
use Rattle.std.proofs.lemmas.Bool.{lt-ltb, ltb-true}
use Rattle.pn_text.specs.declared.limits.TheConstants.{PATH_LIMIT}
use Rattle.pn_text.specs.Ids.{id_name, id_version, is_id, is_version}
use Rattle.pn_text.specs.Path.{Path, is_part, is_path, path_text, text_below, SpellsAbs, SpellsParts}
use Rattle.pn_text.specs.Name.{is_name, name_path, modules}
use Rattle.pn_text.proofs.Bools.{and_left}
use Rattle.pn_text.proofs.Joins.{joined}
use Rattle.pn_text.proofs.Paths.{spells_one}
use Rattle.pn_tree.proofs.DrawLemmas.{spells_name, spells_below, spells_part}
use Rattle.pn_deppath.specs.Paths.{id_part, is_dep_path}
use Rattle.pn_lock_layout.specs.Folders.{home_in, near_at}
use Rattle.pn_lock_layout.specs.Places.{name_of}

pub id_of_path : (path : List ℕ) → is_dep_path path ≡ true → is_id (id_part path) ≡ true
id_of_path path h = and_left (is_id (id_part path)) _ h

pub named_path : (path : List ℕ) → is_dep_path path ≡ true → is_name (name_of path) ≡ true
named_path path h = and_left (is_name (id_name (id_part path))) (is_version (id_version (id_part path))) (id_of_path path h)

home_parts : (dir path : List ℕ) → IsTrue (is_part dir) → is_dep_path path ≡ true → SpellsParts (dir ++ (codes "/node_modules/" ++ name_of path)) (home_in [] dir path)
home_parts dir path part good =
    let name = name_of path in
    let beside = spells_below dir modules (dir ∷ []) (modules ∷ []) (spells_part dir part) (spells_part modules refl) in
    let home = spells_below (dir ++ 47 ∷ modules) name (modules ∷ dir ∷ []) (name_path name) beside (spells_name name (named_path path good)) in
    subst (λ t. SpellsParts t (home_in [] dir path)) (append_assoc dir (47 ∷ modules) (47 ∷ name)) home

pub home_spelled : (text stem dir name : List ℕ) (store : Path) (path : List ℕ) → text ≡ ((stem ++ codes "/") ++ dir) ++ codes "/node_modules/" ++ name → stem ≡ text_below store → IsTrue (is_path store) → IsTrue (is_part dir) → name ≡ name_of path → is_dep_path path ≡ true
    → SpellsAbs text (home_in store dir path)
home_spelled text stem dir name store path e s p part n good =
    let tail = codes "/node_modules/" ++ name in
    let whole : text ≡ stem ++ 47 ∷ (dir ++ tail) = e ∙ append_assoc ((stem ++ codes "/") ++ dir) (codes "/node_modules/") name ∙ append_assoc (stem ++ codes "/") dir tail ∙ append_assoc stem (codes "/") (dir ++ tail) in
    let parts = subst (λ m. SpellsParts (dir ++ (codes "/node_modules/" ++ m)) (home_in [] dir path)) (sym n) (home_parts dir path part good) in
    subst (SpellsAbs text) (append_assoc (name_path (name_of path)) (modules ∷ dir ∷ []) store) (joined text stem (dir ++ tail) store (home_in [] dir path) whole s p parts)

-- a path that is too long, and one that is not
pub near_by : (root store : Path) (dir path text : List ℕ) (found : Path) → SpellsAbs text (home_in store dir path) → (PATH_LIMIT < length text → ⊥) → SpellsAbs text found → found ≡ near_at root store dir path
near_by root store dir path text found s short there =
    let h = home_in store dir path in
    elim (nat_lt PATH_LIMIT (length (path_text h))) as (λ b. nat_lt PATH_LIMIT (length (path_text h)) ≡ b → found ≡ (if b then root else h)) [
      | true ↦ λ is. absurd (short (subst (λ t. PATH_LIMIT < length t) (sym s.spelled) (ltb-true PATH_LIMIT (length (path_text h)) is)))
      | false ↦ λ is. spells_one text found h there s
    ] refl

pub near_long : (root store : Path) (dir path text : List ℕ) → SpellsAbs text (home_in store dir path) → PATH_LIMIT < length text → root ≡ near_at root store dir path
near_long root store dir path text s long =
    let h = home_in store dir path in
    let far : PATH_LIMIT < length (path_text h) = subst (λ t. PATH_LIMIT < length t) s.spelled long in
    sym (ap (λ b. if b then root else h) (lt-ltb PATH_LIMIT (length (path_text h)) far))
