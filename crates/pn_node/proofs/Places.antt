-- What a build holds beside and below an instance's package.
use Rattle.std.proofs.Common.{◌≡◌, ◌≢◌, ℕ, List, [], ◌∷◌, ◌++◌, length, refl, sym, ap, ◌∙◌, subst, true, false, Some, None, append_assoc, length-append, arith, inl, inr}
use Rattle.std.specs.Prelude.{◌⊎◌, ◌||◌}
use Rattle.std.specs.List.{Contains}
use Rattle.std.specs.Str.{bytes_eq}
use Rattle.std.proofs.lemmas.List.{append_cancel_right}
use Rattle.std.proofs.lemmas.List.Folds.{list_any-append}
use Rattle.pn_text.specs.Path.{Path}
use Rattle.pn_text.specs.Name.{is_name, name_path, modules, holds_modules}
use Rattle.pn_text.specs.Relative.{parent_of, IsRelative}
use Rattle.pn_fs.specs.Tree.{Entry, folder, file, link, Tree}
use Rattle.pn_node.specs.Plan.{Instance, Plan, beside, link_place, IsPlanned, marker, own, content, dependency, top, InBuild, managed, planned, between, IsBuilt, IsSound}
use Rattle.pn_node.proofs.NamePaths.{snoc_same, same_name, shape, shape_filled, no_lone_scope, name_clean}
use Rattle.pn_text.proofs.Bools.{neither}

-- What is planned at a path from an instance's `node_modules`.
pub data IsPlannedIn (plan : Plan) (g : Instance) : Path → Entry → Type 0 where
  package_in : IsPlannedIn plan g (name_path g.name) folder
  content_in : (f : Path) (bytes : List ℕ) → Contains g.files (f, bytes) → IsPlannedIn plan g (f ++ name_path g.name) (file bytes)
  link_in : (x : List ℕ) (target : Path) (text : List ℕ) → Contains g.links (x, target) → IsRelative (parent_of (link_place plan.store g x)) target text → IsPlannedIn plan g (name_path x) (link text)

-- what the build has there
pub data IsHeldIn (plan : Plan) (g : Instance) : Path → Entry → Type 0 where
  planned_in : (z : Path) (e : Entry) → IsPlannedIn plan g z e → IsHeldIn plan g z e
  way_in : (z below : Path) (x : List ℕ) (e : Entry) → IsPlannedIn plan g (below ++ x ∷ z) e → IsHeldIn plan g z folder

-- a path below an instance's `node_modules` is one below the virtual store
pub below_store : (z store : Path) (dir : List ℕ) → z ++ modules ∷ dir ∷ store ≡ (z ++ modules ∷ dir ∷ []) ++ store
below_store z store dir = sym (append_assoc z (modules ∷ dir ∷ []) store)

-- two such paths are one where they are the same from the virtual store on
below_same : (p q store : Path) (c d : List ℕ) → p ++ modules ∷ c ∷ store ≡ q ++ modules ∷ d ∷ store → (p ≡ q) × (c ≡ d)
below_same p q store c d e =
    let short : p ++ modules ∷ c ∷ [] ≡ q ++ modules ∷ d ∷ [] =
    append_cancel_right (p ++ modules ∷ c ∷ []) (q ++ modules ∷ d ∷ []) store (sym (below_store p store c) ∙ e ∙ below_store q store d) in
    let last = snoc_same (p ++ modules ∷ []) (q ++ modules ∷ []) c d (append_assoc p (modules ∷ []) (c ∷ []) ∙ short ∙ sym (append_assoc q (modules ∷ []) (d ∷ []))) in
    ((snoc_same p q modules modules last.0).0, last.1)

-- the virtual store's own `node_modules` is no instance's folder
not_hoisted : (n z store : Path) (dir : List ℕ) → dir ≢ modules → n ++ modules ∷ store ≡ z ++ modules ∷ dir ∷ store → ⊥
not_hoisted n z store dir other e =
    let short : n ++ modules ∷ [] ≡ (z ++ modules ∷ []) ++ dir ∷ [] =
    append_cancel_right (n ++ modules ∷ []) ((z ++ modules ∷ []) ++ dir ∷ []) store
    (append_assoc n (modules ∷ []) store ∙ e ∙ sym (append_assoc z (modules ∷ []) (dir ∷ store)) ∙ sym (append_assoc (z ++ modules ∷ []) (dir ∷ []) store)) in
    other (sym (snoc_same n (z ++ modules ∷ []) modules dir short).1)

-- What is planned below the virtual store, for one of its instances.
pub is_planned_in : (plan : Plan) → IsSound plan → (q : Path) (e : Entry) → IsPlanned plan q e → (g : Instance) → Contains plan.instances g → (z : Path) → q ≡ z ++ beside plan.store g → IsPlannedIn plan g z e
is_planned_in plan sound _ _ (marker m text in_it) g g_in z is =
    let at_store : m ≡ plan.store = sound.marked m (z ++ modules ∷ g.dir ∷ []) text in_it (is ∙ below_store z plan.store g.dir) in
    absurd (omega (arith, ap length is, ap length at_store, length-append z (modules ∷ g.dir ∷ plan.store)))
is_planned_in plan sound _ _ (own a a_in) g g_in z is =
    let same = below_same (name_path a.name) z plan.store a.dir g.dir is in
    subst (λ (h : Instance). IsPlannedIn plan h z folder) (sound.apart a g a_in g_in same.1) (subst (λ (w : Path). IsPlannedIn plan a w folder) same.0 package_in)
is_planned_in plan sound _ _ (content a f bytes a_in f_in) g g_in z is =
    let same = below_same (f ++ name_path a.name) z plan.store a.dir g.dir (append_assoc f (name_path a.name) (beside plan.store a) ∙ is) in
    subst (λ (h : Instance). IsPlannedIn plan h z (file bytes)) (sound.apart a g a_in g_in same.1) (subst (λ (w : Path). IsPlannedIn plan a w (file bytes)) same.0 (content_in f bytes f_in))
is_planned_in plan sound _ _ (dependency a x target text a_in x_in rel) g g_in z is =
    let same = below_same (name_path x) z plan.store a.dir g.dir is in
    subst (λ (h : Instance). IsPlannedIn plan h z (link text)) (sound.apart a g a_in g_in same.1) (subst (λ (w : Path). IsPlannedIn plan a w (link text)) same.0 (link_in x target text x_in rel))
is_planned_in plan sound _ _ (top l text in_it rel) g g_in z is = elim (sound.tops l in_it).outside [
  | inl at_store ↦ absurd (not_hoisted (name_path l.name) z plan.store g.dir (sound.dirs g g_in) (ap (λ h. name_path l.name ++ h) (sym at_store) ∙ is))
  | inr away ↦ absurd (away (z ++ modules ∷ g.dir ∷ []) (is ∙ below_store z plan.store g.dir))
]

-- What the build has there.
pub is_held_in : (plan : Plan) → IsSound plan → (q : Path) (e : Entry) → InBuild plan q e → (g : Instance) → Contains plan.instances g → (z : Path) → q ≡ z ++ beside plan.store g → IsHeldIn plan g z e
is_held_in plan sound _ _ (managed m in_it) g g_in z is =
    let none : z ++ modules ∷ g.dir ∷ [] ≡ [] = sound.stores m (z ++ modules ∷ g.dir ∷ []) in_it (is ∙ below_store z plan.store g.dir) in
    absurd (omega (arith, ap length none, length-append z (modules ∷ g.dir ∷ [])))
is_held_in plan sound _ _ (planned q e p) g g_in z is = planned_in z e (is_planned_in plan sound q e p g g_in z is)
is_held_in plan sound _ _ (between m r below x e in_it p) g g_in z is =
    way_in z below x e (is_planned_in plan sound (below ++ x ∷ (r ++ m)) e p g g_in (below ++ x ∷ z)
    (ap (λ w. below ++ x ∷ w) is ∙ sym (append_assoc below (x ∷ z) (beside plan.store g))))

-- what the tree has there
pub tree_held : (t : Tree) (plan : Plan) → IsBuilt t plan → IsSound plan → (g : Instance) → Contains plan.instances g → (z : Path) (e : Entry) → t (z ++ beside plan.store g) ≡ Some e → IsHeldIn plan g z e
tree_held t plan built sound g g_in z e here =
    let m = sound.under.0 in
    let r = z ++ modules ∷ g.dir ∷ sound.under.1 in
    let is : z ++ beside plan.store g ≡ r ++ m = ap (λ s. z ++ modules ∷ g.dir ∷ s) sound.under.3 ∙ sym (append_assoc z (modules ∷ g.dir ∷ sound.under.1) m) in
    is_held_in plan sound (r ++ m) e (built.only m r e sound.under.2 (ap t (sym is) ∙ here)) g g_in z (sym is)

-- where the build has nothing, the tree has nothing
pub nothing : (t : Tree) (plan : Plan) → IsBuilt t plan → IsSound plan → (g : Instance) → Contains plan.instances g → (z : Path) → ((e : Entry) → IsHeldIn plan g z e → ⊥) → t (z ++ beside plan.store g) ≡ None
nothing t plan built sound g g_in z none = elim (t (z ++ beside plan.store g)) as (λ o. t (z ++ beside plan.store g) ≡ o → o ≡ None) [
  | None ↦ λ is. refl
  | Some e ↦ λ is. absurd (none e (tree_held t plan built sound g g_in z e is))
] refl

-- the names that an instance has beside it
abbrev pub IsOf : Instance → List ℕ → Type 0
IsOf g n = (n ≡ g.name) ⊎ ((target : Path) × Contains g.links (n, target))

-- A path at or below the place of such a name.
record IsBelowName (g : Instance) (z : Path) : Type 0 where
  name : List ℕ
  front : Path
  named : is_name name ≡ true
  of : IsOf g name
  clean : holds_modules front ≡ false
  is : z ≡ front ++ name_path name

below_name : (plan : Plan) → IsSound plan → (g : Instance) → Contains plan.instances g → (z : Path) (e : Entry) → IsPlannedIn plan g z e → IsBelowName g z
below_name plan sound g g_in _ _ package_in = record { name = g.name; front = []; named = sound.names g g_in; of = inl refl; clean = refl; is = refl }
below_name plan sound g g_in _ _ (content_in f bytes f_in) =
    record { name = g.name; front = f; named = sound.names g g_in; of = inl refl; clean = (sound.files g f bytes g_in f_in).clean; is = refl }
below_name plan sound g g_in _ _ (link_in x target text x_in rel) =
    record { name = x; front = []; named = (sound.links g x target g_in x_in).0; of = inr (target, x_in); clean = refl; is = refl }

clean_planned : (plan : Plan) → IsSound plan → (g : Instance) → Contains plan.instances g → (z : Path) (e : Entry) → IsPlannedIn plan g z e → holds_modules z ≡ false
clean_planned plan sound g g_in z e h =
    let near = below_name plan sound g g_in z e h in
    ap holds_modules near.is
    ∙ list_any-append (λ x. bytes_eq x modules) near.front (name_path near.name)
    ∙ ap (λ b. b || holds_modules (name_path near.name)) near.clean
    ∙ name_clean near.name near.named

clean_end : (p q : Path) → holds_modules (p ++ q) ≡ false → holds_modules q ≡ false
clean_end p q h = (neither (holds_modules p) (holds_modules q) (sym (list_any-append (λ x. bytes_eq x modules) p q) ∙ h)).1

-- Below an instance's `node_modules` there is no further one.
pub no_modules_in : (plan : Plan) → IsSound plan → (g : Instance) → Contains plan.instances g → (z : Path) (e : Entry) → IsHeldIn plan g z e → holds_modules z ≡ false
no_modules_in plan sound g g_in _ _ (planned_in z e h) = clean_planned plan sound g g_in z e h
no_modules_in plan sound g g_in _ _ (way_in z below x e h) =
    clean_end (x ∷ []) z (clean_end below (x ∷ z) (clean_planned plan sound g g_in (below ++ x ∷ z) e h))

-- What stands at a name's place is the package or a dependency.
pub is_of_name : (plan : Plan) → IsSound plan → (g : Instance) → Contains plan.instances g → (x : List ℕ) → is_name x ≡ true → (z : Path) (e : Entry) → IsHeldIn plan g z e → z ≡ name_path x → IsOf g x
is_of_name plan sound g g_in x named _ _ (planned_in z e h) is =
    let near = below_name plan sound g g_in z e h in
    subst (IsOf g) (sym (same_name x near.name [] near.front named near.named (sym is ∙ near.is))) near.of
is_of_name plan sound g g_in x named _ _ (way_in z below y e h) is =
    let near = below_name plan sound g g_in (below ++ y ∷ z) e h in
    subst (IsOf g) (sym (same_name x near.name (below ++ y ∷ []) near.front named near.named (append_assoc below (y ∷ []) (name_path x) ∙ ap (λ w. below ++ y ∷ w) (sym is) ∙ near.is))) near.of

two_parts : (p q : Path) (x : List ℕ) → p ≢ [] → q ≢ [] → p ++ q ≡ x ∷ [] → ⊥
two_parts [] q x some more e = some refl
two_parts (y ∷ p) [] x some more e = more refl
two_parts (y ∷ p) (z ∷ q) x some more e = omega (arith, ap length e, length-append p (z ∷ q))

lone_planned : (plan : Plan) → IsSound plan → (g : Instance) → Contains plan.instances g → (s : List ℕ) (z : Path) (e : Entry) → IsPlannedIn plan g z e → z ≡ (64 ∷ s) ∷ [] → e ≡ folder
lone_planned plan sound g g_in s _ _ package_in is = refl
lone_planned plan sound g g_in s _ _ (content_in f bytes f_in) is =
    absurd (two_parts f (name_path g.name) (64 ∷ s) (sound.files g f bytes g_in f_in).below (shape_filled (name_path g.name) (shape g.name (sound.names g g_in))) is)
lone_planned plan sound g g_in s _ _ (link_in x target text x_in rel) is =
    absurd (no_lone_scope (name_path x) s (shape x (sound.links g x target g_in x_in).0) is)

-- What stands at a scope's place is a folder.
pub scope_folder : (plan : Plan) → IsSound plan → (g : Instance) → Contains plan.instances g → (s : List ℕ) (z : Path) (e : Entry) → IsHeldIn plan g z e → z ≡ (64 ∷ s) ∷ [] → e ≡ folder
scope_folder plan sound g g_in s _ _ (way_in z below x e h) is = refl
scope_folder plan sound g g_in s _ _ (planned_in z e h) is = lone_planned plan sound g g_in s z e h is
