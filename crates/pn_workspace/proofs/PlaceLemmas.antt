-- Lemmas on where the virtual store lies.
use Rattle.std.proofs.Common.{◌≡◌, ◌≢◌, ℕ, List, [], ◌∷◌, ◌++◌, refl, sym, ap, ◌∙◌, subst, arith, true, false, length, length-append, codes}
use Rattle.std.specs.Prelude.{Bool, not, ◌&&◌, ◌||◌}
use Rattle.std.specs.List.{Contains, list_any}
use Rattle.std.proofs.lemmas.List.Folds.{list_any_at}
use Rattle.pn_text.specs.Path.{Path, same_path}
use Rattle.pn_text.proofs.Bools.{and_false, both_false, left_false, right_false, true_false}
use Rattle.pn_text.proofs.Paths.{deeper, same_path-Decides, same_path_refl}
use Rattle.pn_draft.specs.Drawing.{is_within}
use Rattle.pn_draft.proofs.WithinLemmas.{is_within_at, within_from}
use Rattle.pn_workspace.specs.Laws.{PlaceLaw}
use Rattle.pn_workspace.specs.Stores.{IsPlaced, default_store, is_in_way, is_misplaced, is_named, modules_name, store_of}
use Rattle.pn_workspace.specs.declared.search.Workspace.{Workspace}

none_passes : {X : Type 0} (test : X → Bool) (xs : List X) (x : X) → list_any test xs ≡ false → Contains xs x → test x ≡ false
none_passes test xs x none has = elim (test x) as (λ b. test x ≡ b → b ≡ false) [
  | true ↦ λ is. absurd (true_false (list_any test xs) (list_any_at test xs has.0 x has.1 (ap test has.2 ∙ is)) none)
  | false ↦ λ is. refl
] refl

-- no project is in the way of a store that has a place
free_of : (w : Workspace) (place : Path) (projects : List Path) (p q : Path) → IsPlaced w place projects p → Contains projects q → is_in_way (same_path p (default_store w.root)) p q ≡ false
free_of w place projects p q h has =
    let s = store_of w in
    let a = right_false (is_named modules_name s) _ h.free in
    let b = right_false (is_within (codes "pnpm-lock.yaml" ∷ w.root) s) _ a in
    let c = right_false (is_within (codes "pnpm-lock.yaml.pnpm-rs" ∷ w.root) s) _ b in
    let d = right_false (is_within (codes "package.json.pnpm-rs" ∷ place) s) _ c in
    subst (λ x. is_in_way (same_path x (default_store w.root)) x q ≡ false) (sym h.is) (none_passes (is_in_way (same_path s (default_store w.root)) s) projects q d has)

apart : (w : Workspace) (place : Path) (projects : List Path) (p q : Path) → IsPlaced w place projects p → Contains projects q → (s : Path) → q ≢ s ++ p
apart w place projects p q h has s e =
    true_false (is_within p q) (subst (λ x. is_within p x ≡ true) (sym e) (is_within_at s p)) (left_false (is_within p q) _ (free_of w place projects p q h has))

not_false : (a b : Bool) → a ≡ true → (a && not b) ≡ false → b ≡ true
not_false true true h e = refl
not_false true false h e = cc e
not_false false b h e = cc h

inside : (w : Workspace) (place : Path) (projects : List Path) (p q : Path) → IsPlaced w place projects p → Contains projects q → (s : Path) → p ≡ s ++ modules_name ∷ q → p ≡ default_store w.root
inside w place projects p q h has s e =
    let within : is_within (modules_name ∷ q) p ≡ true = subst (λ x. is_within (modules_name ∷ q) x ≡ true) (sym e) (is_within_at s (modules_name ∷ q)) in
    (same_path-Decides p (default_store w.root)).0 (not_false (is_within (modules_name ∷ q) p) (same_path p (default_store w.root)) within (right_false (is_within p q) _ (free_of w place projects p q h has)))

-- nothing is at or below an entry that the store may not be in
outside : (w : Workspace) (a p : Path) → is_within a (store_of w) ≡ false → p ≡ store_of w → (s : Path) → p ≢ s ++ a
outside w a p none is s e = true_false (is_within a (store_of w)) (subst (λ q. is_within a q ≡ true) (sym e ∙ is) (is_within_at s a)) none

lock : (w : Workspace) (place : Path) (projects : List Path) (p : Path) → IsPlaced w place projects p → (s : Path) → p ≢ s ++ codes "pnpm-lock.yaml" ∷ w.root
lock w place projects p h =
    let a = right_false (is_named modules_name (store_of w)) _ h.free in
    outside w (codes "pnpm-lock.yaml" ∷ w.root) p (left_false (is_within (codes "pnpm-lock.yaml" ∷ w.root) (store_of w)) _ a) h.is

new_lock : (w : Workspace) (place : Path) (projects : List Path) (p : Path) → IsPlaced w place projects p → (s : Path) → p ≢ s ++ codes "pnpm-lock.yaml.pnpm-rs" ∷ w.root
new_lock w place projects p h =
    let a = right_false (is_named modules_name (store_of w)) _ h.free in
    let b = right_false (is_within (codes "pnpm-lock.yaml" ∷ w.root) (store_of w)) _ a in
    outside w (codes "pnpm-lock.yaml.pnpm-rs" ∷ w.root) p (left_false (is_within (codes "pnpm-lock.yaml.pnpm-rs" ∷ w.root) (store_of w)) _ b) h.is

new_manifest : (w : Workspace) (place : Path) (projects : List Path) (p : Path) → IsPlaced w place projects p → (s : Path) → p ≢ s ++ codes "package.json.pnpm-rs" ∷ place
new_manifest w place projects p h =
    let a = right_false (is_named modules_name (store_of w)) _ h.free in
    let b = right_false (is_within (codes "pnpm-lock.yaml" ∷ w.root) (store_of w)) _ a in
    let c = right_false (is_within (codes "pnpm-lock.yaml.pnpm-rs" ∷ w.root) (store_of w)) _ b in
    outside w (codes "package.json.pnpm-rs" ∷ place) p (left_false (is_within (codes "package.json.pnpm-rs" ∷ place) (store_of w)) _ c) h.is

named : (w : Workspace) (place : Path) (projects : List Path) (q : Path) → IsPlaced w place projects (modules_name ∷ q) → ⊥
named w place projects q h = true_false (is_named modules_name (store_of w)) (subst (λ p. is_named modules_name p ≡ true) h.is (same_name q)) (left_false (is_named modules_name (store_of w)) _ h.free)
  where
    same_name : (q : Path) → is_named modules_name (modules_name ∷ q) ≡ true
    same_name q = refl

-- a path isn't below itself
too_deep : (s t : Path) (x : List ℕ) (p : Path) → p ≡ s ++ x ∷ (t ++ p) → ⊥
too_deep s t x p e = omega (arith, ap length e, length-append s (x ∷ (t ++ p)), length-append t p)

-- another entry of the root than its `node_modules` is apart from the default store
entry_apart : (name : List ℕ) (root : Path) → name ≢ modules_name → is_within (name ∷ root) (default_store root) ≡ false
entry_apart name root other = elim (is_within (name ∷ root) (default_store root)) as (λ b. is_within (name ∷ root) (default_store root) ≡ b → b ≡ false) [
  | true ↦ λ is. let w = within_from (name ∷ root) (default_store root) is in absurd (at w.0 w.1)
  | false ↦ λ is. refl
] refl
  where
    tail : Path → Path
    tail [] = []
    tail (x ∷ p) = p

    head : Path → List ℕ
    head [] = []
    head (x ∷ p) = x

    at : (s : Path) → default_store root ≡ s ++ name ∷ root → ⊥
    at [] e = deeper modules_name root (ap tail e)
    at (x ∷ []) e = other (sym (ap head (ap tail e)))
    at (x ∷ y ∷ s) e = too_deep s [] name root (ap tail (ap tail e))

not_above : (root : Path) → is_within (default_store root) root ≡ false
not_above root = elim (is_within (default_store root) root) as (λ b. is_within (default_store root) root ≡ b → b ≡ false) [
  | true ↦ λ is. let w = within_from (default_store root) root is in absurd (too_deep w.0 (modules_name ∷ []) (codes ".pnpm") root w.1)
  | false ↦ λ is. refl
] refl

-- where the first four are false
pub last_of_five : (a b c d e : Bool) → a ≡ false → b ≡ false → c ≡ false → d ≡ false → (a || (b || (c || (d || e)))) ≡ e
last_of_five a b c d e p q r s = ap (λ x. x || (b || (c || (d || e)))) p ∙ ap (λ x. x || (c || (d || e))) q ∙ ap (λ x. x || (d || e)) r ∙ ap (λ x. x || e) s

no_project : (root : Path) → is_in_way (same_path (default_store root) (default_store root)) (default_store root) root ≡ false
no_project root =
    let s = default_store root in
    both_false (is_within s root) _ (not_above root) (ap (λ b. is_within (modules_name ∷ root) s && not b) (same_path_refl s) ∙ and_false (is_within (modules_name ∷ root) s))

default : (root : Path) → is_misplaced root root (root ∷ []) (default_store root) ≡ false
default root =
    let s = default_store root in
    both_false (is_within (codes "pnpm-lock.yaml" ∷ root) s) _ (entry_apart (codes "pnpm-lock.yaml") root (λ e. cc e))
    (both_false (is_within (codes "pnpm-lock.yaml.pnpm-rs" ∷ root) s) _ (entry_apart (codes "pnpm-lock.yaml.pnpm-rs") root (λ e. cc e))
    (both_false (is_within (codes "package.json.pnpm-rs" ∷ root) s) _ (entry_apart (codes "package.json.pnpm-rs") root (λ e. cc e))
    (both_false (is_in_way (same_path s s) s root) false (no_project root) refl)))

pub place : PlaceLaw
place = record { apart = apart; inside = inside; lock = lock; new_lock = new_lock; new_manifest = new_manifest; named = named; default = default }
