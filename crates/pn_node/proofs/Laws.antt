-- The laws of the lookup in a build.
use Rattle.std.proofs.Common.{◌≡◌, ℕ, List, [], ◌∷◌, ◌++◌, refl, sym, ap, ◌∙◌, true, Some, None, append_assoc, inl, inr}
use Rattle.std.specs.List.{Contains}
use Rattle.pn_text.specs.Path.{Path}
use Rattle.pn_text.specs.Name.{is_name, name_path, modules}
use Rattle.pn_text.specs.Relative.{parent_of, IsRelative}
use Rattle.pn_fs.specs.Tree.{folder, link, Tree, IsTree}
use Rattle.pn_node.specs.Find.{real, find}
use Rattle.pn_node.specs.Plan.{Instance, Plan, beside, home, link_place, top_place, own, dependency, top, planned, IsBuilt, IsSound}
use Rattle.pn_node.specs.Finds.{LookupLaw, TopLaw, HomesLaw, RealLaw}
use Rattle.pn_node.proofs.Walks.{real_folder, real_missing}
use Rattle.pn_node.proofs.Ways.{has_text}
use Rattle.pn_node.proofs.Texts.{real_link}
use Rattle.pn_node.proofs.Searches.{HoldsNoModules, begins_beside, begins_in, found, passed}
use Rattle.pn_node.proofs.NamePaths.{Shape, single, double, shape}
use Rattle.pn_node.proofs.Places.{IsOf, nothing, tree_held, no_modules_in, is_of_name, scope_folder}

pub homes : HomesLaw
homes t plan g built g_in = built.all (home plan.store g) folder (planned (home plan.store g) folder (own g g_in))

none_inside : (t : Tree) (plan : Plan) → IsBuilt t plan → IsSound plan → (g : Instance) → Contains plan.instances g → (z : Path) → HoldsNoModules t z (beside plan.store g)
none_inside t plan built sound g g_in [] = tt
none_inside t plan built sound g g_in (x ∷ z) = (
  nothing t plan built sound g g_in (modules ∷ x ∷ z) (λ e h. let no = no_modules_in plan sound g g_in (modules ∷ x ∷ z) e h in cc),
  none_inside t plan built sound g g_in z,
)

-- the folder that stands below another one
folder_below : (t : Tree) → IsTree t → (q p : Path) → t (q ++ p) ≡ Some folder → t p ≡ Some folder
folder_below t tree [] p h = h
folder_below t tree (x ∷ q) p h = folder_below t tree q p (tree.parents x (q ++ p) folder h)

-- the real path of a link of the build
link_real : (t : Tree) → IsTree t → (q target : Path) → t target ≡ Some folder → ((text : List ℕ) → IsRelative (parent_of q) target text → t q ≡ Some (link text)) → real t q ≡ Some target
link_real t tree q target there stands =
    let text = has_text (parent_of q) target in
    real_link t tree q text.0 target (stands text.0 text.1) text.1 there

-- nothing stands at another name
no_real : (t : Tree) (plan : Plan) → IsTree t → IsBuilt t plan → IsSound plan → (g : Instance) → Contains plan.instances g → t (beside plan.store g) ≡ Some folder → (x : List ℕ) → is_name x ≡ true → (IsOf g x → ⊥) → (p : Path) → Shape p → p ≡ name_path x → real t (p ++ beside plan.store g) ≡ None
no_real t plan tree built sound g g_in base x named not_of _ (single y h) is =
    real_missing t tree (beside plan.store g) y [] base (nothing t plan built sound g g_in (y ∷ []) (λ e held. not_of (is_of_name plan sound g g_in x named (y ∷ []) e held is)))
no_real t plan tree built sound g g_in base x named not_of _ (double y s h k) is =
    let d = beside plan.store g in
    elim (t ((64 ∷ s) ∷ d)) as (λ o. t ((64 ∷ s) ∷ d) ≡ o → real t (y ∷ (64 ∷ s) ∷ d) ≡ None) [
      | None ↦ λ none. real_missing t tree d (64 ∷ s) (y ∷ []) base none
      | Some e ↦ λ some. real_missing t tree ((64 ∷ s) ∷ d) y []
          (some ∙ ap Some (scope_folder plan sound g g_in s ((64 ∷ s) ∷ []) e (tree_held t plan built sound g g_in ((64 ∷ s) ∷ []) e some) refl))
          (nothing t plan built sound g g_in (y ∷ (64 ∷ s) ∷ []) (λ e held. not_of (is_of_name plan sound g g_in x named (y ∷ (64 ∷ s) ∷ []) e held is)))
    ] refl

pub lookup : LookupLaw
lookup t plan g inner tree built sound leads g_in here =
    let d = beside plan.store g in
    let w = inner ++ name_path g.name in
    let whole : inner ++ home plan.store g ≡ w ++ d = sym (append_assoc inner (name_path g.name) d) in
    let below : t (w ++ d) ≡ Some folder = ap t (sym whole) ∙ here in
    let begins = λ (n : Path). ap (λ f. find t f n) whole ∙ begins_beside t tree w plan.store g.dir n (sound.dirs g g_in) below (none_inside t plan built sound g g_in w) in
    record {
      own = begins (name_path g.name) ∙ found t _ (home plan.store g) _ (real_folder t tree (home plan.store g) (homes t plan g built g_in)) (homes t plan g built g_in);
      dependency = λ x target x_in.
          let there = leads.links g x target g_in x_in in
          begins (name_path x)
          ∙ found t _ target _
          (link_real t tree (link_place plan.store g x) target there
          (λ text rel. built.all (link_place plan.store g x) (link text) (planned (link_place plan.store g x) (link text) (dependency g x target text g_in x_in rel))))
          there;
      other = λ x named not_own not_linked.
          begins (name_path x)
          ∙ passed t _ _ (no_real t plan tree built sound g g_in (folder_below t tree w d below) x named (λ of. elim of [ inl is ↦ not_own is | inr linked ↦ not_linked linked.0 linked.1 ]) (name_path x) (shape x named) refl);
    }

pub top_lookup : TopLaw
top_lookup t plan l from tree built sound leads l_in holder other =
    let first = begins_in t from (name_path l.name) other in
    let there = leads.tops l l_in in
    let place : top_place l ≡ name_path l.name ++ modules ∷ from = ap (λ h. name_path l.name ++ h) holder in
    first.1
    ∙ found t _ l.target _
    (ap (real t) (sym place)
    ∙ link_real t tree (top_place l) l.target there (λ text rel. built.all (top_place l) (link text) (planned (top_place l) (link text) (top l text l_in rel))))
    there

pub reals : RealLaw
reals t p tree here = real_folder t tree p here
