-- Dep paths under aliases.
use Rattle.std.proofs.Common.{◌≡◌, ◌≢◌, ℕ, suc, List, [], ◌∷◌, ◌++◌, length, drop, refl, sym, ap, ◌∙◌, true, false, cond, append_assoc}
use Rattle.std.specs.Prelude.{bytes_eq}
use Rattle.std.proofs.lemmas.Slice.Eq.{bytes_eq-Decides}
use Rattle.pn_text.specs.Ids.{id_name, id_text}
use Rattle.pn_text.specs.Name.{is_name}
use Rattle.pn_text.proofs.IdTexts.{name_of_id}
use Rattle.pn_deppath.specs.Cuts.{before}
use Rattle.pn_deppath.specs.Paths.{id_part, is_dep_path}
use Rattle.pn_deppath.proofs.IdBytes.{is_id_byte, name_bytes, without}
use Rattle.pn_deppath.proofs.PathLemmas.{before_front, is_cut}
use Rattle.pn_lock_print.specs.TargetTexts.{path_text}

drop_front : (x rest : List ℕ) (b : ℕ) → drop (suc (length x)) (x ++ b ∷ rest) ≡ rest
drop_front [] rest b = refl
drop_front (y ∷ x) rest b = drop_front x rest b

-- the alias is the package's name
pub path_bare : (alias path rest : List ℕ) → is_name alias ≡ true → path ≡ alias ++ 64 ∷ rest → path_text alias path ≡ rest
path_bare alias path rest h e =
    let plain = without is_id_byte 40 alias (name_bytes alias h) refl in
    let name : id_name (id_part path) ≡ alias = ap (λ p. id_name (id_part p)) e ∙ ap id_name (before_front 40 alias (64 ∷ rest) plain) ∙ name_of_id alias (before 40 rest) h in
    ap (λ c. cond c (drop (suc (length alias)) path) path) ((bytes_eq-Decides (id_name (id_part path)) alias).1 name) ∙ ap (drop (suc (length alias))) e ∙ drop_front alias rest 64

-- it is another name
pub path_whole : (alias path : List ℕ) → is_dep_path path ≡ true → ((rest : List ℕ) → path ≢ alias ++ 64 ∷ rest) → path_text alias path ≡ path
path_whole alias path h other =
    let cut = is_cut path h in
    let name : id_name (id_part path) ≡ cut.name = ap id_name cut.id ∙ name_of_id cut.name cut.version cut.named in
    elim (bytes_eq (id_name (id_part path)) alias) as (λ c. bytes_eq (id_name (id_part path)) alias ≡ c → cond c (drop (suc (length alias)) path) path ≡ path) [
      | true ↦ λ is.
          let same : cut.name ≡ alias = sym name ∙ (bytes_eq-Decides (id_name (id_part path)) alias).0 is in
          absurd (other (cut.version ++ cut.groups) (cut.whole ∙ ap (λ n. id_text n cut.version ++ cut.groups) same ∙ append_assoc alias (64 ∷ cut.version) cut.groups))
      | false ↦ λ is. refl
    ] refl

-- what is behind a front
pub behind : (alias front path back rest : List ℕ) → front ≡ alias → path ≡ front ++ back → rest ≡ back → path ≡ alias ++ rest
behind alias front path back rest f p r = p ∙ ap (λ a. a ++ back) f ∙ ap (λ t. alias ++ t) (sym r)

-- nothing is printed of nothing
pub path_none : (alias path : List ℕ) → path ≡ [] → path_text alias path ≡ []
path_none alias path h = ap (path_text alias) h ∙ elim (bytes_eq [] alias) as (λ c. cond {A = List ℕ} c [] [] ≡ []) [ true ↦ refl | false ↦ refl ]
