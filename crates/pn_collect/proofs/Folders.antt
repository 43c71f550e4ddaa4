-- A package's folder has a short path.
use Rattle.std.proofs.Common.{◌≡◌, ◌+◌, ◌≤◌, ◌∷◌, true, length, sym, ap, ◌∙◌, arith, length-append}
use Rattle.pn_text.specs.declared.limits.TheConstants.{ID_LIMIT, PATH_LIMIT}
use Rattle.pn_text.specs.Ids.{id_name, id_version, is_id, is_version}
use Rattle.pn_text.specs.Path.{path_text, text_below}
use Rattle.pn_text.specs.Name.{is_name, name_path}
use Rattle.pn_text.proofs.Bools.{and_left, and_right}
use Rattle.pn_text.proofs.IdTexts.{text_again}
use Rattle.pn_text.proofs.NameTexts.{name_of, name_text}
use Rattle.pn_package.specs.Links.{Id}
use Rattle.pn_registry.specs.Places.{package_folder}

named_length : (id : Id) → is_name (id_name id) ≡ true → length (text_below (name_path (id_name id))) ≡ length (id_name id) + 1
named_length id named = ap length (name_text (id_name id) (name_of (id_name id) named)) ∙ omega arith

id_length : (id : Id) → is_version (id_version id) ≡ true → length id ≡ length (id_name id) + length (id_version id) + 1
id_length id good = ap length (sym (text_again id good)) ∙ length-append (id_name id) (64 ∷ id_version id) ∙ omega arith

pub folder_fits : (id : Id) → is_id id ≡ true → length id ≤ ID_LIMIT → length (path_text (package_folder id)) ≤ PATH_LIMIT
folder_fits id good short =
    let named = named_length id (and_left (is_name (id_name id)) (is_version (id_version id)) good) in
    let whole = id_length id (and_right (is_name (id_name id)) (is_version (id_version id)) good) in
    omega (arith, length-append (text_below (name_path (id_name id))) (47 ∷ id_version id), named, whole, short)
