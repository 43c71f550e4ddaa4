-- Lemmas on walks along texts of paths, and on the lookup from folder to folder.
use Rattle.std.proofs.Common.{◌≡◌, ℕ, List, [], ◌∷◌, ◌++◌, sym, ap, ◌∙◌, Some, None, append-nil}
use Rattle.std.specs.Prelude.{Option, Result, Ok, Err, IfOk, IfSome}
use Rattle.pn_text.specs.Path.{Path, parts_from, tail_of, SpellsAbs, SpellsParts}
use Rattle.pn_text.specs.Name.{modules}
use Rattle.pn_text.proofs.Paths.{parts_from-text_below, tail_of-spelled}
use Rattle.pn_text.proofs.Joins.{below_begins}
use Rattle.pn_text.proofs.Splits.{parts_from-below}
use Rattle.pn_fs.specs.Tree.{folder, Tree, IsTree}
use Rattle.pn_node.specs.Find.{Step, into, text_steps, path_steps, walk, real}
use Rattle.pn_node.proofs.Walks.{steps_split, walk_into}
use Rattle.pn_node.proofs.Texts.{text_steps_down}

-- the steps of a relative path's text
pub rel_steps : (text : List ℕ) (p : Path) (steps : List Step) → SpellsParts text p → text_steps (tail_of text) steps ≡ path_steps p steps
rel_steps text p steps h =
    ap (λ q. text_steps q steps) (tail_of-spelled text p h ∙ sym (append-nil p)) ∙ text_steps_down p [] steps h.good

-- the steps of an absolute path's text
pub abs_steps : (text : List ℕ) (p : Path) (steps : List Step) → SpellsAbs text p → text_steps (tail_of text) steps ≡ path_steps p steps
abs_steps text [] steps h = ap (λ w. text_steps (tail_of w) steps) h.spelled
abs_steps text (x ∷ p) steps h =
    let b = below_begins x p in
    let begins : text ≡ 47 ∷ b.0 = h.spelled ∙ b.1 in
    let parts : tail_of b.0 ≡ x ∷ p = ap (parts_from []) (sym b.1) ∙ parts_from-text_below (x ∷ p) h.good in
    ap (λ w. text_steps (tail_of w) steps) begins
    ∙ ap (λ q. text_steps q steps) (parts_from-below b.0 [] ([] ∷ []) ∙ ap (λ q. q ++ [] ∷ []) parts)
    ∙ text_steps_down (x ∷ p) ([] ∷ []) steps h.good

pub real_found : (t : Tree) (p at : Path) (steps : List Step) (found : Option Path) → at ≡ [] → steps ≡ path_steps p [] → found ≡ walk 40 t at steps → found ≡ real t p
real_found t p at steps found root along is = is ∙ ap (λ q. walk 40 t q steps) root ∙ ap (walk 40 t []) along

-- the walk to a name in a folder's `node_modules`, from `/` and from the folder
pub leads_root : (t : Tree) (p name at : Path) (steps : List Step) → at ≡ [] → steps ≡ path_steps p (into modules ∷ path_steps name []) → walk 40 t at steps ≡ real t (name ++ modules ∷ p)
leads_root t p name at steps root along =
    ap (λ q. walk 40 t q steps) root ∙ ap (walk 40 t []) (along ∙ sym (steps_split name (modules ∷ p) []))

pub leads_from : (t : Tree) → IsTree t → (p name at : Path) (steps : List Step) → t p ≡ Some folder → at ≡ p → steps ≡ into modules ∷ path_steps name [] → walk 40 t at steps ≡ real t (name ++ modules ∷ p)
leads_from t tree p name at steps here same along =
    ap (λ q. walk 40 t q steps) same
    ∙ ap (walk 40 t p) along
    ∙ sym (walk_into (walk 39 t) t tree p (into modules ∷ path_steps name []) here)
    ∙ sym (ap (walk 40 t []) (steps_split name (modules ∷ p) []))

pub if_found : {E : Type 0} (P Q : Tree → Option Path → Type 0) (o : Option Tree) (r : Result (Option Path) E) → ((t : Tree) (found : Option Path) → P t found → Q t found) → IfSome o (λ t. IfOk r (P t)) → IfSome o (λ t. IfOk r (Q t))
if_found P Q None r f h = tt
if_found P Q (Some t) (Ok found) f h = f t found h
if_found P Q (Some t) (Err e) f h = tt
