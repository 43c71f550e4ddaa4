-- The texts of paths in the registry.
use Rattle.std.proofs.Common.{◌≡◌, ℕ, List, ◌∷◌, ◌++◌, refl, sym, ap, ◌∙◌, codes}
use Rattle.std.proofs.lemmas.List.{append_assoc}
use Rattle.pn_text.specs.Path.{Path, text_below, SpellsParts}
use Rattle.pn_text.specs.Name.{name_path}
use Rattle.pn_text.specs.Ids.{id_name, id_version}
use Rattle.pn_registry.specs.Places.{Id, manifest_path}
use Rattle.pn_published.specs.Shelves.{tags_path}
use Rattle.pn_cmd.specs.Graph.{registry_text}

lead : (l : List ℕ) → codes "registry:/" ++ l ≡ codes "registry:" ++ 47 ∷ l
lead l = refl

-- the name's parts, the version and the file's name, each behind a slash
pub manifest_line : (id : Id) (p : Path) (text : List ℕ) → p ≡ name_path (id_name id) → SpellsParts text p → codes "registry:/" ++ (text ++ 47 ∷ (id_version id ++ codes "/package.json")) ≡ registry_text (manifest_path id)
manifest_line id p text at spells =
    lead (text ++ 47 ∷ (id_version id ++ codes "/package.json"))
    ∙ ap (λ (l : List ℕ). codes "registry:" ++ (l ++ 47 ∷ (id_version id ++ codes "/package.json"))) (spells.spelled ∙ ap text_below at)
    ∙ ap (λ (l : List ℕ). codes "registry:" ++ l) (sym (append_assoc (text_below (name_path (id_name id))) (47 ∷ id_version id) (codes "/package.json")))

-- the name's parts and the file's name, each behind a slash
pub tags_line : (name : List ℕ) (p : Path) (text : List ℕ) → p ≡ name_path name → SpellsParts text p → codes "registry:/" ++ (text ++ codes "/tags.json") ≡ registry_text (tags_path (name_path name))
tags_line name p text at spells =
    lead (text ++ codes "/tags.json")
    ∙ ap (λ (l : List ℕ). codes "registry:" ++ (l ++ codes "/tags.json")) (spells.spelled ∙ ap text_below at)
