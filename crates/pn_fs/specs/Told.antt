-- What is told of a tree is one tree, and it is finite.
use Rattle.std.specs.Prelude.{◌≡◌, ℕ, List, [], ◌∷◌, String, Some, None, map, string_bytes, true, false, if◌then◌else◌}
use Rattle.std.specs.Option.{option_map}
use Rattle.std.specs.List.{Contains}
use Rattle.std.specs.Map.{lookup}
use Rattle.std.specs.Cmp.Lexicographic.{slice_cmp}
use Rattle.std.specs.Ordering.{nat_cmp}
use Rattle.std.specs.BTreeMap.{BTreeMap, get_by_text, is_at}
use Rattle.std.proofs.Common.{subst, sym, ap, ◌∙◌, refl, arith}
use Rattle.std.proofs.lemmas.List.Elements.{Contains-append_right}
use Rattle.std.proofs.lemmas.Map.Text.{is_eq-slice_cmp}
use Rattle.std.proofs.lemmas.Slice.Eq.{bytes_eq-Decides}
use Rattle.pn_text.specs.Path.{Path, is_path, path_text, path_of}
use Rattle.pn_text.proofs.Paths.{path_of-spelled}
use Rattle.pn_fs.specs.Tree.{Entry, Tree, IsTree, IsFinite}
use Rattle.pn_fs.specs.Bodies.{entry_of}
use Rattle.pn_fs.specs.Nodes.{rooted}
use Rattle.pn_fs.specs.declared.body.Body.{Body}

pub told_tree : (t u : Tree) → IsTree t → Some t ≡ Some u → IsTree u
told_tree t u h e = let same : t ≡ u = cc in subst IsTree same h

-- what a look-up finds is at a key with that text
key_found : {A : Type 0} (text : List ℕ) (es : List (String A × Body)) (b : Body) → lookup (is_at (λ k. slice_cmp nat_cmp text (string_bytes k))) es ≡ Some b
    → Contains (map (λ e. path_of (string_bytes e.0)) es) (path_of text)
key_found text [] b h = cc
key_found text (e ∷ es) b h = elim (is_at (λ k. slice_cmp nat_cmp text (string_bytes k)) e.0) as (λ l. is_at (λ k. slice_cmp nat_cmp text (string_bytes k)) e.0 ≡ l → (if l then Some e.1 else lookup (is_at (λ k. slice_cmp nat_cmp text (string_bytes k))) es) ≡ Some b
    → Contains (map (λ d. path_of (string_bytes d.0)) (e ∷ es)) (path_of text)) [
      | true ↦ λ is found. (0, omega arith, ap path_of (sym ((bytes_eq-Decides text (string_bytes e.0)).0 (sym (is_eq-slice_cmp text (string_bytes e.0)) ∙ is))))
      | false ↦ λ is found. Contains-append_right (path_of (string_bytes e.0) ∷ []) (map (λ d. path_of (string_bytes d.0)) es) (path_of text) (key_found text es b found)
    ] refl h

-- nodes are finitely many
finite_nodes : {A : Type 0} (m : BTreeMap (String A) Body) → IsFinite (rooted m)
finite_nodes m = ([] ∷ map (λ e. path_of (string_bytes e.0)) m.entries, at) where
  at : (p : Path) (e : Entry) → rooted m p ≡ Some e → Contains ([] ∷ map (λ d. path_of (string_bytes d.0)) m.entries) p
  at [] e h = (0, omega arith, refl)
  at (x ∷ p) e h = elim (is_path (x ∷ p)) as (λ b. is_path (x ∷ p) ≡ b → (if b then option_map entry_of (get_by_text m (path_text (x ∷ p))) else None) ≡ Some e → Contains ([] ∷ map (λ d. path_of (string_bytes d.0)) m.entries) (x ∷ p)) [
    | true ↦ λ good some. elim (get_by_text m (path_text (x ∷ p))) as (λ o. get_by_text m (path_text (x ∷ p)) ≡ o → option_map entry_of o ≡ Some e → Contains ([] ∷ map (λ d. path_of (string_bytes d.0)) m.entries) (x ∷ p)) [
      | None ↦ λ is none. cc
      | Some b ↦ λ is held. subst (Contains ([] ∷ map (λ d. path_of (string_bytes d.0)) m.entries)) (path_of-spelled (path_text (x ∷ p)) (x ∷ p) (record { good = good; spelled = refl }))
          (Contains-append_right ([] ∷ []) (map (λ d. path_of (string_bytes d.0)) m.entries) (path_of (path_text (x ∷ p))) (key_found (path_text (x ∷ p)) m.entries b is))
    ] refl some
    | false ↦ λ bad none. cc
  ] refl h

pub told_finite : {A : Type 0} (m : BTreeMap (String A) Body) (u : Tree) → Some (rooted m) ≡ Some u → IsFinite u
told_finite m u e = let same : rooted m ≡ u = cc in subst IsFinite same (finite_nodes m)
