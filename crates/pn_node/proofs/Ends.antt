-- What real paths and lookups end at.
use Rattle.std.proofs.Common.{◌≡◌, ℕ, List, [], ◌∷◌, ◌++◌, refl, sym, ap, ◌∙◌, true, false, Some, None, zero, suc, inl, inr}
use Rattle.std.specs.Prelude.{Option, ◌⊎◌, ◌==◌, if◌then◌else◌}
use Rattle.pn_text.specs.Path.{Path, parts_from}
use Rattle.pn_text.specs.Relative.{parent_of}
use Rattle.pn_fs.specs.Tree.{folder, file, link, Tree, IsTree, IsFile}
use Rattle.pn_node.specs.Find.{Step, up, into, at_entry, at_file, led, walk_on, walk, real, path_steps, text_steps, folder_or, find_in, dirs}
use Rattle.pn_node.specs.Finds.{EndLaw, FoundLaw}
use Rattle.pn_node.proofs.Walks.{real_folder, real_in}

-- a folder or a file
Stands : Tree → Path → Type 0
Stands t q = (t q ≡ Some folder) ⊎ IsFile t q

-- What these steps from a folder come to stands.
EndsWell : Tree → (Path → List Step → Option Path) → Type 0
EndsWell t again = (p : Path) (steps : List Step) (q : Path) → t p ≡ Some folder → again p steps ≡ Some q → Stands t q

parent_stands : (t : Tree) → IsTree t → (p : Path) → t p ≡ Some folder → t (parent_of p) ≡ Some folder
parent_stands t tree [] h = h
parent_stands t tree (x ∷ p) h = tree.parents x p folder h

file_ends : (t : Tree) (p : Path) (bytes : List ℕ) (steps : List Step) (q : Path) → t p ≡ Some (file bytes) → at_file p steps ≡ Some q → Stands t q
unfolding Stands
file_ends t p bytes [] q here is = let same : p ≡ q = cc in inr (bytes, ap t (sym same) ∙ here)
file_ends t p bytes (s ∷ steps) q here is = cc

led_ends : (t : Tree) → IsTree t → (again : Path → List Step → Option Path) → EndsWell t again → (p : Path) (text : List ℕ) (steps : List Step) (q : Path) → t p ≡ Some folder → led again p text steps ≡ Some q → Stands t q
unfolding EndsWell
led_ends t tree again well p [] steps q here is = cc
led_ends t tree again well p (b ∷ bs) steps q here is = elim (b == 47) as (λ c. again (if c then [] else p) (text_steps (parts_from [] (47 ∷ b ∷ bs)) steps) ≡ Some q → Stands t q) [
  | true ↦ λ h. well [] (text_steps (parts_from [] (47 ∷ b ∷ bs)) steps) q tree.root h
  | false ↦ λ h. well p (text_steps (parts_from [] (47 ∷ b ∷ bs)) steps) q here h
] is

walk_on_ends : (t : Tree) → IsTree t → (again : Path → List Step → Option Path) → EndsWell t again → (steps : List Step) (p : Path) (q : Path) → t p ≡ Some folder → walk_on again t p steps ≡ Some q → Stands t q
unfolding Stands
walk_on_ends t tree again well [] p q here is = let same : p ≡ q = cc in inl (ap t (sym same) ∙ here)
walk_on_ends t tree again well (up ∷ steps) p q here is = walk_on_ends t tree again well steps (parent_of p) q (parent_stands t tree p here) is
walk_on_ends t tree again well (into x ∷ steps) p q here is =
    elim (t (x ∷ p)) as (λ e. t (x ∷ p) ≡ e → at_entry e None (walk_on again t (x ∷ p) steps) (at_file (x ∷ p) steps) (λ text. led again p text steps) ≡ Some q → Stands t q) [
      | None ↦ λ there h. cc
      | Some folder ↦ λ there h. walk_on_ends t tree again well steps (x ∷ p) q there h
      | Some (file bytes) ↦ λ there h. file_ends t (x ∷ p) bytes steps q there h
      | Some (link text) ↦ λ there h. led_ends t tree again well p text steps q here h
    ] refl is

walk_ends : (t : Tree) → IsTree t → (links : ℕ) → EndsWell t (walk links t)
unfolding EndsWell
walk_ends t tree zero p steps q here is = walk_on_ends t tree (λ r rest. None) (λ r rest s there h. cc) steps p q here is
walk_ends t tree (suc links) p steps q here is = walk_on_ends t tree (walk links t) (walk_ends t tree links) steps p q here is

own_real : (t : Tree) → IsTree t → (q : Path) → Stands t q → real t q ≡ Some q
unfolding Stands
own_real t tree q (inl here) = real_folder t tree q here
own_real t tree [] (inr here) = let no : Some folder ≡ Some (file here.0) = sym tree.root ∙ here.1 in cc
own_real t tree (x ∷ p) (inr here) =
    real_in t tree p x (tree.parents x p (file here.0) here.1)
    ∙ ap (λ e. at_entry e None (Some (x ∷ p)) (Some (x ∷ p)) (λ text. led (walk 39 t) p text [])) here.1

pub ends : EndLaw
unfolding Stands EndsWell
ends t p q tree is =
    let stands : Stands t q = walk_ends t tree 40 [] (path_steps p []) q tree.root is in
    record { stands = stands; own = own_real t tree q stands }

folder_found : (t : Tree) (r other : Option Path) (q : Path) → folder_or t r other ≡ Some q → (t q ≡ Some folder) ⊎ (other ≡ Some q)
folder_found t None other q is = inr is
folder_found t (Some p) other q is = elim (t p) as (λ e. t p ≡ e → at_entry e other (Some p) other (λ text. other) ≡ Some q → (t q ≡ Some folder) ⊎ (other ≡ Some q)) [
  | None ↦ λ there h. inr h
  | Some folder ↦ λ there h. let same : p ≡ q = cc in inl (ap t (sym same) ∙ there)
  | Some (file bytes) ↦ λ there h. inr h
  | Some (link text) ↦ λ there h. inr h
] refl is

found_in : (t : Tree) (ds : List Path) (name q : Path) → find_in t ds name ≡ Some q → t q ≡ Some folder
found_in t [] name q is = cc
found_in t (d ∷ ds) name q is = elim (folder_found t (real t (name ++ d)) (find_in t ds name) q is) [
  | inl here ↦ here
  | inr later ↦ found_in t ds name q later
]

pub finds : FoundLaw
finds t from name q is = found_in t (dirs from) name q is
