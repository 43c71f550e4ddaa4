-- The path of a name's folder is short.
use Rattle.std.proofs.Common.{◌≡◌, ◌≤◌, ℕ, List, [], ◌∷◌, ◌++◌, length, refl, ap, ◌∙◌, subst, sym, arith, true}
use Rattle.std.proofs.lemmas.List.{length-append, append-nil}
use Rattle.pn_text.specs.declared.limits.TheConstants.{PATH_LIMIT}
use Rattle.pn_text.specs.Name.{is_name, name_path}
use Rattle.pn_text.specs.Path.{Path, path_text, text_below}
use Rattle.pn_text.proofs.NameTexts.{name_of, name_text, short_of}
use Rattle.pn_fs.specs.Calls.{IsEntryName}
use Rattle.pn_published.specs.Tags.{tags_name}

below_length : (n : List ℕ) → is_name n ≡ true → length (text_below (name_path n)) ≤ 215
below_length n h = omega (arith, ap length (name_text n (name_of n h)), short_of n h)

pub tags_entry : (n : List ℕ) → is_name n ≡ true → IsEntryName (name_path n) tags_name
tags_entry n h = record {
  part = refl;
  short = omega (arith, below_length n h, length-append (text_below (name_path n)) (47 ∷ tags_name));
}

text_short : (p : Path) → length (text_below p) ≤ 215 → length (path_text p) ≤ PATH_LIMIT
text_short [] h = omega arith
text_short (x ∷ p) h = omega (arith, h)

pub folder_short : (n : List ℕ) (tail root : Path) → is_name n ≡ true → tail ≡ name_path n → root ≡ [] → length (path_text (tail ++ root)) ≤ PATH_LIMIT
folder_short n tail root h is none =
    subst (λ (p : Path). length (path_text p) ≤ PATH_LIMIT) (sym (ap (λ (r : Path). tail ++ r) none ∙ append-nil tail ∙ is)) (text_short (name_path n) (below_length n h))
