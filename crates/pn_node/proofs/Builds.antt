-- What helps to show that a tree has a build, and that a plan is sound.
use Rattle.std.proofs.Common.{◌≡◌, ℕ, List, [], ◌∷◌, ◌++◌, refl, sym, ap, ◌∙◌, true, false, Some, append_assoc, append-nil, subst, inl, inr, arith}
use Rattle.std.specs.Prelude.{IsTrue, codes}
use Rattle.std.specs.List.{Contains}
use Rattle.std.specs.Str.{bytes_eq}
use Rattle.std.proofs.Math.Bool.{or-true}
use Rattle.std.proofs.lemmas.Bool.{false≢true}
use Rattle.std.proofs.lemmas.List.Folds.{list_any-append}
use Rattle.pn_text.specs.Path.{Path}
use Rattle.pn_text.specs.Name.{is_name, is_name_part, name_path, modules, holds_modules}
use Rattle.pn_fs.specs.Tree.{Entry, folder, Tree, IsTree}
use Rattle.pn_node.specs.Plan.{Plan, IsPlanned, InBuild, managed, planned, between}
use Rattle.pn_node.proofs.NamePaths.{Shape, single, double, shape, snoc_same, name_clean}
use Rattle.pn_text.proofs.Bytes.{same_first}
use Rattle.pn_text.proofs.Relatives.{ends_nested}

-- the folders above an entry
pub folder_above : (t : Tree) → IsTree t → (below p : Path) (x : List ℕ) (e : Entry) → t (below ++ x ∷ p) ≡ Some e → t p ≡ Some folder
folder_above t tree [] p x e h = tree.parents x p e h
folder_above t tree (y ∷ below) p x e h = folder_above t tree below p x folder (tree.parents y (below ++ x ∷ p) e h)

-- A tree with the managed folders and all that is planned has all of the build.
pub has_build : (t : Tree) (plan : Plan) → IsTree t → ((m : Path) → Contains plan.managed m → t m ≡ Some folder) → ((q : Path) (e : Entry) → IsPlanned plan q e → t q ≡ Some e) → (q : Path) (e : Entry) → InBuild plan q e → t q ≡ Some e
has_build t plan tree folders there _ _ (managed m in_it) = folders m in_it
has_build t plan tree folders there _ _ (planned q e h) = there q e h
has_build t plan tree folders there _ _ (between m r below x e in_it h) = folder_above t tree below (r ++ m) x e (there (below ++ x ∷ (r ++ m)) e h)

holds_below : (p q : Path) → holds_modules (p ++ modules ∷ q) ≡ true
holds_below p q = list_any-append (λ x. bytes_eq x modules) p (modules ∷ q) ∙ or-true (holds_modules p)

-- the parts between two places of `node_modules`
one_end : (s p q : Path) → holds_modules p ≡ false → modules ∷ p ≡ s ++ modules ∷ q → (s ≡ []) × (p ≡ q)
one_end [] p q clean e = (refl, cc)
one_end (x ∷ s) p q clean e =
    let rest : p ≡ s ++ modules ∷ q = cc in
    let no : false ≡ true = sym clean ∙ ap holds_modules rest ∙ holds_below s q in
    cc

one_front : (s front back p q : Path) → holds_modules front ≡ false → front ≡ back ++ s → modules ∷ q ≡ s ++ modules ∷ p → (s ≡ []) × (q ≡ p)
one_front [] front back p q clean is e = (refl, cc)
one_front (x ∷ s) front back p q clean is e =
    let head : modules ≡ x = cc in
    let no : false ≡ true = sym clean ∙ ap holds_modules is ∙ ap (λ y. holds_modules (back ++ y ∷ s)) (sym head) ∙ holds_below back s in
    cc

-- The place of the last `node_modules` in a path is one.
pub same_modules : (front back p q : Path) → holds_modules front ≡ false → holds_modules p ≡ false → front ++ modules ∷ p ≡ back ++ modules ∷ q → (front ≡ back) × (p ≡ q)
same_modules front back p q clean_front clean_p e = elim (ends_nested front back (modules ∷ p) (modules ∷ q) e) [
  | inl m ↦ let end = one_end m.0 p q clean_p m.1 in (sym (m.2 ∙ ap (λ s. front ++ s) end.0 ∙ append-nil front), end.1)
  | inr m ↦ let end = one_front m.0 front back p q clean_front m.2 m.1 in (m.2 ∙ ap (λ s. back ++ s) end.0 ∙ append-nil back, sym end.1)
]

-- no part of a name's path begins with a dot
no_dot : (b : ℕ) (x y : List ℕ) → IsTrue (is_name_part x) → x ≡ b ∷ y → b ≡ 46 → ⊥
no_dot b [] y h e dot = cc
no_dot b (c ∷ x) y h e dot =
    let here : c ≡ 46 = cc in
    let no : is_name_part (46 ∷ x) ≡ true = subst (λ d. IsTrue (is_name_part (d ∷ x))) here h in
    false≢true no

dot_last : (n r : Path) (b : ℕ) (y : List ℕ) → Shape n → n ≡ r ++ (b ∷ y) ∷ [] → b ≡ 46 → ⊥
dot_last _ r b y (single x h) e dot = no_dot b x y h (snoc_same [] r x (b ∷ y) e).1 dot
dot_last _ r b y (double x s h k) e dot = let is : 64 ≡ b = same_first 64 b s y (snoc_same (x ∷ []) r (64 ∷ s) (b ∷ y) e).1 in omega (arith, is, dot)

-- A link of a project is outside `node_modules/.pnpm` of each folder.
pub outside_default : (n : List ℕ) (project root r : Path) → is_name n ≡ true → holds_modules project ≡ false → name_path n ++ modules ∷ project ≡ r ++ codes ".pnpm" ∷ modules ∷ root → ⊥
outside_default n project root r named clean e =
    dot_last (name_path n) r 46 (codes "pnpm") (shape n named)
    (same_modules (name_path n) (r ++ codes ".pnpm" ∷ []) project root (name_clean n named) clean (e ∙ sym (append_assoc r (codes ".pnpm" ∷ []) (modules ∷ root)))).0
    refl
