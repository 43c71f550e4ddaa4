-- Instances as outer pairs are asked of them: their links, one after the other, and where these lead.
use Rattle.std.proofs.Common.{◌≡◌, ◌<◌, ◌+◌, ◌++◌, ℕ, zero, suc, List, [], ◌∷◌, Bool, true, false, cond, Some, length, get_or, drop, map, slice_get, inl, inr, refl, sym, ap, ap₂, ◌∙◌, subst, arith, append_assoc}
use Rattle.std.specs.Prelude.{◌||◌, ◌&&◌, ◌==◌, nat_lt, is_some}
use Rattle.std.specs.List.{Contains, list_all}
use Rattle.std.specs.Str.{bytes_eq}
use Rattle.std.proofs.lemmas.Bool.{cases_Bool, eqb-true, ltb-true}
use Rattle.std.proofs.lemmas.List.{drop_more}
use Rattle.std.proofs.lemmas.Slice.Eq.{bytes_eq-Decides}
use Rattle.pn_text.specs.declared.index.PkgIx.{PkgIx}
use Rattle.pn_text.proofs.Bools.{and_left, and_right}
use Rattle.pn_text.proofs.Members.{in_cons, none_in}
use Rattle.pn_graph.specs.declared.links.Dep.{Dep}
use Rattle.pn_graph.specs.declared.links.Package.{Package}
use Rattle.pn_graph.specs.Graphs.{aliases, has_name}
use Rattle.pn_graph.specs.Lookups.{dep_at, package_id}
use Rattle.pn_instances.specs.declared.goal.Goal.{Goal as AnyGoal}
use Rattle.pn_instances.specs.declared.goal.Goal.TheVariants.{Project as any_project, Inst as any_instance}
use Rattle.pn_instances.specs.declared.links.Link.{Link as AnyLink}
use Rattle.pn_instances.specs.Instances.{are_instances, are_links, in_range, link_names}
use Rattle.pn_graph.specs.Graphs.{rises}
use Rattle.pn_outer.specs.declared.instance.Goal.{Goal}
use Rattle.pn_outer.specs.declared.instance.Instance.{Instance}
use Rattle.pn_outer.specs.declared.instance.Link.{Link}
use Rattle.pn_outer.specs.Instances.{AreInRange, ArePeersThere, DependsOn, IsThere, deps_at, peers_at}
use Rattle.pn_dep_paths.specs.Converted.{alias_links, is_alias, outer_goal, outer_instances, outer_link, outer_of, peer_links}

eq_turned : (x y : List ℕ) → bytes_eq x y ≡ bytes_eq y x
eq_turned x y = elim (cases_Bool (bytes_eq x y)) [
  | inl e ↦ e ∙ sym ((bytes_eq-Decides y x).1 (sym ((bytes_eq-Decides x y).0 e)))
  | inr n ↦ elim (cases_Bool (bytes_eq y x)) [
    | inl e ↦ absurd (let h = (bytes_eq-Decides x y).1 (sym ((bytes_eq-Decides y x).0 e)) in cc (h, n))
    | inr m ↦ n ∙ sym m
  ]
]

pub some_alias : (name : List ℕ) (ds : List Dep) → is_some (dep_at name ds) ≡ has_name name (aliases ds)
some_alias name [] = refl
some_alias name (d ∷ ds) =
    (elim (bytes_eq d.alias name) as (λ b. is_some (cond b (Some d.to) (dep_at name ds)) ≡ (b || has_name name (aliases ds))) [ true ↦ refl | false ↦ some_alias name ds ])
    ∙ ap (λ (b : Bool). b || has_name name (aliases ds)) (eq_turned d.alias name)

-- the next link
pub next_link : (f : List AnyLink → List Link) (links : List AnyLink) (i : ℕ) (l : AnyLink) (whole old new part : List Link) → i < length links → l ≡ get_or links i l
    → f (l ∷ drop (i + 1) links) ≡ part ++ f (drop (i + 1) links) → new ≡ old ++ part → old ++ f (drop i links) ≡ whole → new ++ f (drop (i + 1) links) ≡ whole
next_link f links i l whole old new part lt at one is h =
    let rest = drop (i + 1) links in
    ap (λ (x : List Link). x ++ f rest) is ∙ append_assoc old part (f rest) ∙ ap (λ (x : List Link). old ++ x) (sym one)
    ∙ ap (λ (x : List AnyLink). old ++ f x) (ap (λ (x : AnyLink). x ∷ rest) at ∙ sym (drop_more links i l lt)) ∙ h

pub nil : {X : Type 0} (xs : List X) → xs ≡ xs ++ []
nil [] = refl
nil (x ∷ xs) = ap (λ l. x ∷ l) (nil xs)

module _ (packages : List Package) (k : PkgIx) (l : AnyLink) (rest : List AnyLink) where
  pub alias_one : (copy : Link) → copy ≡ outer_link l → is_alias packages k l.name ≡ true → alias_links packages k (l ∷ rest) ≡ (copy ∷ []) ++ alias_links packages k rest
  alias_one copy is e = ap (λ (b : Bool). cond b (outer_link l ∷ alias_links packages k rest) (alias_links packages k rest)) e ∙ ap (λ (x : Link). x ∷ alias_links packages k rest) (sym is)

  pub alias_none : is_alias packages k l.name ≡ false → alias_links packages k (l ∷ rest) ≡ [] ++ alias_links packages k rest
  alias_none e = ap (λ (b : Bool). cond b (outer_link l ∷ alias_links packages k rest) (alias_links packages k rest)) e

  pub peer_one : (copy : Link) → copy ≡ outer_link l → is_alias packages k l.name ≡ false → peer_links packages k (l ∷ rest) ≡ (copy ∷ []) ++ peer_links packages k rest
  peer_one copy is e = ap (λ (b : Bool). cond b (peer_links packages k rest) (outer_link l ∷ peer_links packages k rest)) e ∙ ap (λ (x : Link). x ∷ peer_links packages k rest) (sym is)

  pub peer_none : is_alias packages k l.name ≡ true → peer_links packages k (l ∷ rest) ≡ [] ++ peer_links packages k rest
  peer_none e = ap (λ (b : Bool). cond b (peer_links packages k rest) (outer_link l ∷ peer_links packages k rest)) e

-- the ids of the packages
pub ids_of : (packages : List Package) (ks : List PkgIx) (lists : List (List AnyLink)) → length lists ≡ length ks
    → map (λ (i : Instance). i.id) (outer_instances packages ks lists) ≡ map (λ (k : PkgIx). package_id (slice_get packages k.0)) ks
ids_of packages [] lists h = refl
ids_of packages (k ∷ ks) [] h = absurd (omega (arith, h))
ids_of packages (k ∷ ks) (links ∷ lists) h = ap (λ (l : List (List ℕ)). package_id (slice_get packages k.0) ∷ l) (ids_of packages ks lists (omega (arith, h)))

-- the next instance
pub next_instance : (packages : List Package) (ks : List PkgIx) (lists : List (List AnyLink)) (i : ℕ) (k : PkgIx) (links : List AnyLink) (one : Instance) (whole old new : List Instance) → i < length ks → i < length lists
    → k ≡ get_or ks i (record { 0 = 0 }) → links ≡ get_or lists i links → one ≡ outer_of packages k links → new ≡ old ++ one ∷ [] → old ++ outer_instances packages (drop i ks) (drop i lists) ≡ whole
    → new ++ outer_instances packages (drop (i + 1) ks) (drop (i + 1) lists) ≡ whole
next_instance packages ks lists i k links one whole old new lt lt' k-is links-is is more h =
    let rest = outer_instances packages (drop (i + 1) ks) (drop (i + 1) lists) in
    ap (λ (l : List Instance). l ++ rest) more ∙ append_assoc old (one ∷ []) rest ∙ ap (λ (x : Instance). old ++ x ∷ rest) is
    ∙ ap (λ (l : List Instance). old ++ l) (ap₂ (λ (x : PkgIx) (y : List AnyLink). outer_of packages x y ∷ rest) k-is links-is
    ∙ sym (ap₂ (outer_instances packages) (drop_more ks i (record { 0 = 0 }) lt) (drop_more lists i links lt'))) ∙ h

-- ---- where links lead

goal_there : (q n : ℕ) (g : AnyGoal) → in_range q n g ≡ true → IsThere n q (outer_goal g)
goal_there q n (any_project p) h = ltb-true p.0 q h
goal_there q n (any_instance i) h = ltb-true i.0 n h

alias_there : (packages : List Package) (k : PkgIx) (q n : ℕ) (links : List AnyLink) (l : Link) → list_all (λ (x : AnyLink). in_range q n x.to) links ≡ true → Contains (alias_links packages k links) l → IsThere n q l.to
alias_there packages k q n [] l h c = absurd (none_in l c)
alias_there packages k q n (x ∷ links) l h c =
    let one = goal_there q n x.to (and_left (in_range q n x.to) (list_all (λ (x : AnyLink). in_range q n x.to) links) h) in
    let more = alias_there packages k q n links l (and_right (in_range q n x.to) (list_all (λ (x : AnyLink). in_range q n x.to) links) h) in
    (elim (is_alias packages k x.name) as (λ b. Contains (cond b (outer_link x ∷ alias_links packages k links) (alias_links packages k links)) l → IsThere n q l.to) [
      | true ↦ λ c. elim (in_cons (outer_link x) (alias_links packages k links) l c) [ inl e ↦ subst (λ (y : Link). IsThere n q y.to) e one | inr r ↦ more r ]
      | false ↦ λ c. more c
    ]) c

peer_there : (packages : List Package) (k : PkgIx) (q n : ℕ) (links : List AnyLink) (l : Link) → list_all (λ (x : AnyLink). in_range q n x.to) links ≡ true → Contains (peer_links packages k links) l → IsThere n q l.to
peer_there packages k q n [] l h c = absurd (none_in l c)
peer_there packages k q n (x ∷ links) l h c =
    let one = goal_there q n x.to (and_left (in_range q n x.to) (list_all (λ (x : AnyLink). in_range q n x.to) links) h) in
    let more = peer_there packages k q n links l (and_right (in_range q n x.to) (list_all (λ (x : AnyLink). in_range q n x.to) links) h) in
    (elim (is_alias packages k x.name) as (λ b. Contains (cond b (peer_links packages k links) (outer_link x ∷ peer_links packages k links)) l → IsThere n q l.to) [
      | true ↦ λ c. more c
      | false ↦ λ c. elim (in_cons (outer_link x) (peer_links packages k links) l c) [ inl e ↦ subst (λ (y : Link). IsThere n q y.to) e one | inr r ↦ more r ]
    ]) c

targets : (q n : ℕ) (links : List AnyLink) → are_links q n links ≡ true → list_all (λ (x : AnyLink). in_range q n x.to) links ≡ true
targets q n links h = and_right (rises (link_names links)) (list_all (λ (x : AnyLink). in_range q n x.to) links) h

deps_there : (packages : List Package) (q n : ℕ) (ks : List PkgIx) (lists : List (List AnyLink)) → list_all (are_links q n) lists ≡ true → (i : ℕ) (l : Link) → Contains (deps_at (outer_instances packages ks lists) i) l → IsThere n q l.to
deps_there packages q n [] lists h zero l c = absurd (none_in l c)
deps_there packages q n [] lists h (suc i) l c = absurd (none_in l c)
deps_there packages q n (k ∷ ks) [] h zero l c = absurd (none_in l c)
deps_there packages q n (k ∷ ks) [] h (suc i) l c = absurd (none_in l c)
deps_there packages q n (k ∷ ks) (links ∷ lists) h zero l c = alias_there packages k q n links l (targets q n links (and_left (are_links q n links) (list_all (are_links q n) lists) h)) c
deps_there packages q n (k ∷ ks) (links ∷ lists) h (suc i) l c = deps_there packages q n ks lists (and_right (are_links q n links) (list_all (are_links q n) lists) h) i l c

peers_there : (packages : List Package) (q n : ℕ) (ks : List PkgIx) (lists : List (List AnyLink)) → list_all (are_links q n) lists ≡ true → (i : ℕ) (l : Link) → Contains (peers_at (outer_instances packages ks lists) i) l → IsThere n q l.to
peers_there packages q n [] lists h zero l c = absurd (none_in l c)
peers_there packages q n [] lists h (suc i) l c = absurd (none_in l c)
peers_there packages q n (k ∷ ks) [] h zero l c = absurd (none_in l c)
peers_there packages q n (k ∷ ks) [] h (suc i) l c = absurd (none_in l c)
peers_there packages q n (k ∷ ks) (links ∷ lists) h zero l c = peer_there packages k q n links l (targets q n links (and_left (are_links q n links) (list_all (are_links q n) lists) h)) c
peers_there packages q n (k ∷ ks) (links ∷ lists) h (suc i) l c = peers_there packages q n ks lists (and_right (are_links q n links) (list_all (are_links q n) lists) h) i l c

length-outer : (packages : List Package) (ks : List PkgIx) (lists : List (List AnyLink)) → length lists ≡ length ks → length (outer_instances packages ks lists) ≡ length ks
length-outer packages [] lists h = refl
length-outer packages (k ∷ ks) [] h = absurd (omega (arith, h))
length-outer packages (k ∷ ks) (links ∷ lists) h = let r = length-outer packages ks lists (omega (arith, h)) in omega (arith, r)

-- The converted instances are few, and lead to what is there.
pub record AreConverted (projects : ℕ) (instances : List Instance) : Type 0 where
  pub few : length instances < 4294967296
  pub within : AreInRange instances
  pub peers : ArePeersThere projects instances

five : (a b c d e : Bool) → (a && b && c && d && e) ≡ true → (a ≡ true) × (c ≡ true) × (d ≡ true)
five true true true true true h = (refl, refl, refl)
five false b c d e h = (cc)
five true false c d e h = (cc)
five true true false d e h = (cc)
five true true true false e h = (cc)
five true true true true false h = (cc)

pub are_converted : (packages : List Package) (ks : List PkgIx) (lists roots : List (List AnyLink)) (projects : ℕ) (instances : List Instance) → are_instances ks lists roots ≡ true → length roots ≡ projects
    → instances ≡ outer_instances packages ks lists → AreConverted projects instances
are_converted packages ks lists roots projects instances h q is =
    let p = five (nat_lt (length ks) 4294967296) (nat_lt (length roots) 4294967296) (length lists == length ks) (list_all (are_links (length roots) (length ks)) lists) (list_all (are_links (length roots) (length ks)) roots) h in
    let long : length instances ≡ length ks = ap length is ∙ length-outer packages ks lists (eqb-true (length lists) (length ks) p.1) in
    record {
      few = let lt = ltb-true (length ks) 4294967296 p.0 in omega (arith, lt, long);
      within = λ i j d.
          let all = subst (λ (x : List Instance). DependsOn x i j) is d in
          subst (λ (n : ℕ). j < n) (sym long) (subst (λ (g : Goal). IsThere (length ks) (length roots) g) all.to (deps_there packages (length roots) (length ks) ks lists p.2 i all.link all.has));
      peers = λ i pair c.
          subst (λ (m : ℕ). IsThere m projects pair.to) (sym long) (subst (λ (m : ℕ). IsThere (length ks) m pair.to) q
          (peers_there packages (length roots) (length ks) ks lists p.2 i pair (subst (λ (x : List Instance). Contains (peers_at x i) pair) is c)));
    }

pub links_count : (ks : List PkgIx) (lists roots : List (List AnyLink)) → are_instances ks lists roots ≡ true → length lists ≡ length ks
links_count ks lists roots h =
    let p = five (nat_lt (length ks) 4294967296) (nat_lt (length roots) 4294967296) (length lists == length ks) (list_all (are_links (length roots) (length ks)) lists) (list_all (are_links (length roots) (length ks)) roots) h in
    eqb-true (length lists) (length ks) p.1

pub converted_ids : (packages : List Package) (ks : List PkgIx) (lists roots : List (List AnyLink)) (instances : List Instance) → are_instances ks lists roots ≡ true → instances ≡ outer_instances packages ks lists
    → map (λ (i : Instance). i.id) instances ≡ map (λ (k : PkgIx). package_id (slice_get packages k.0)) ks
converted_ids packages ks lists roots instances h is = ap (map (λ (i : Instance). i.id)) is ∙ ids_of packages ks lists (links_count ks lists roots h)
