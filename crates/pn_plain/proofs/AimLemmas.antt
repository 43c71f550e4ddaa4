-- A wish leads to one aim, or is refused for one cause.
use Rattle.std.proofs.Common.{◌≡◌, ℕ, ◌+◌, Bool, true, false, List, Option, Some, None, refl, sym, ap, ◌∙◌, subst, arith}
use Rattle.semver.specs.Parse.{Parts}
use Rattle.pn_text.specs.declared.limits.TheConstants.{PACKAGE_LIMIT}
use Rattle.pn_text.proofs.Bools.{true_false}
use Rattle.pn_spec.specs.declared.want.Want.{Want}
use Rattle.pn_spec.specs.Refusals.{FitsNoForm}
use Rattle.pn_spec.specs.SpecTexts.{trimmed}
use Rattle.pn_spec.proofs.OneReading.{readings}
use Rattle.pn_walk.specs.declared.wish.Wish.{Wish}
use Rattle.pn_walk.specs.declared.node.Node.{Node}
use Rattle.pn_walk.specs.declared.wish.Aim.{Aim}
use Rattle.pn_walk.specs.declared.wish.Aim.TheVariants.{Project as to_project, Package as to_package}
use Rattle.pn_walk.specs.declared.wish.Place.{Place}
use Rattle.pn_walk.specs.Calls.{IsFull}
use Rattle.pn_walk.specs.Wants.{Id}
use Rattle.pn_walk.specs.Walks.{Turn, Lands, LandsAt, Meets, Takes, place_of}
use Rattle.pn_walk.specs.WalkLaws.{AreSettled, AreApart}
use Rattle.pn_published.specs.Shelves.{Shelf}
use Rattle.pn_plain.specs.Given.{Given, held_of, version_of}
use Rattle.pn_plain.specs.Readings.{Reading, of_package, of_project, no_entry, not_built, reading, built, Bearer, one, nobody, two}
use Rattle.pn_spec.specs.declared.spec.Spec.{Spec}
use Rattle.pn_plain.specs.Aims.{Found, Chooses, Borne, ReadingLeads, Reads, LeadsBy, Leads, bearer_of}
use Rattle.pn_plain.specs.Causes.{Cause, unsupported, unbuilt, no_catalog, no_project, two_projects, registry, no_version, packages, Shown, NoVersion, NoProject, ReadingRefused, NotMet, Refused, no_form, no_aim, not_met}

one_reading : (g : Given) (w : Wish) (r q : Reading) → Reads g w r → Reads g w q → r ≡ q
one_reading g w r q a b = a.is ∙ ap (λ (x : Spec). built g.spaces (reading g.catalogs w.alias x)) (readings.one w.specifier a.spec b.spec a.says b.says) ∙ sym b.is

one_choice : {F : Type 0} (P : List ℕ → Shelf → Type 0) (U : List ℕ → F → Type 0) (N : Node → Type 0) (R : Id → F → Type 0) → Shown P U N R → (g : Given) (n : List ℕ) (w : Want) (a b : Option Parts) → Chooses P g n w a → Chooses P g n w b → a ≡ b
one_choice P U N R s g n w a b x y = x.is ∙ ap (λ (p : Shelf). version_of p (held_of n g.held) w) (s.one_shelf n x.shelf y.shelf x.shows y.shows) ∙ sym y.is

found_once : (n : List ℕ) (o : Bool) (f : Option Parts) (a b : Option Aim) → Found n o f a → Found n o f b → a ≡ b
found_once n o None a b x y = x.1 ∙ sym y.1
found_once n o (Some v) a b x y = x ∙ sym y

borne_once : (o : Bool) (r : Bearer) (a b : Option Aim) → Borne o r a → Borne o r b → a ≡ b
borne_once o (one k) a b x y = x ∙ sym y
borne_once o nobody a b x y = x.1 ∙ sym y.1
borne_once o (two k j) a b x y = absurd x

leads_once : {F : Type 0} (P : List ℕ → Shelf → Type 0) (U : List ℕ → F → Type 0) (N : Node → Type 0) (R : Id → F → Type 0) → Shown P U N R → (g : Given) (o : Bool) (r : Reading) (a b : Option Aim)
    → ReadingLeads P g o r a → ReadingLeads P g o r b → a ≡ b
leads_once P U N R s g o (of_package n w) a b x y =
    let same : x.0 ≡ y.0 = one_choice P U N R s g n w x.0 y.0 x.1 y.1 in
    found_once n o y.0 a b (subst (λ (f : Option Parts). Found n o f a) same x.2) y.2
leads_once P U N R s g o (of_project n w) a b x y = borne_once o (bearer_of g n w) a b x y
leads_once P U N R s g o no_entry a b x y = absurd x
leads_once P U N R s g o not_built a b x y = absurd x

one_aim_by : {F : Type 0} (P : List ℕ → Shelf → Type 0) (U : List ℕ → F → Type 0) (N : Node → Type 0) (R : Id → F → Type 0) → Shown P U N R → (g : Given) (w : Wish) (c : Option Id) (a b : Option Aim)
    → LeadsBy P g w c a → LeadsBy P g w c b → a ≡ b
one_aim_by P U N R s g w None a b x y =
    leads_once P U N R s g w.optional y.0 a b (subst (λ (r : Reading). ReadingLeads P g w.optional r a) (one_reading g w x.0 y.0 x.1 y.1) x.2) y.2
one_aim_by P U N R s g w (Some i) a b x y = x ∙ sym y

-- Wishes and packages are settled by what the registry shows.
pub settled : {F : Type 0} (P : List ℕ → Shelf → Type 0) (U : List ℕ → F → Type 0) (N : Node → Type 0) (R : Id → F → Type 0) → Shown P U N R → (g : Given) → AreSettled (Leads P g) N
settled P U N R s g = record { one_aim = λ w a b x y. one_aim_by P U N R s g w w.chosen a b x y; one_node = s.one_node }

-- a version that isn't told, or isn't there
data Lack {F : Type 0} (P : List ℕ → Shelf → Type 0) (U : List ℕ → F → Type 0) (g : Given) (o : Bool) (n : List ℕ) (w : Want) (f : Cause F) : Type 0 where
  gap : (x : F) → U n x → f ≡ registry x → Lack P U g o n w f
  missing : Chooses P g n w None → o ≡ false → f ≡ no_version → Lack P U g o n w f

lack : {F : Type 0} (P : List ℕ → Shelf → Type 0) (U : List ℕ → F → Type 0) (g : Given) (o : Bool) (n : List ℕ) (w : Want) (f : Cause F) → NoVersion P U g o n w f → Lack P U g o n w f
lack P U g o n w unsupported h = absurd h
lack P U g o n w unbuilt h = absurd h
lack P U g o n w no_catalog h = absurd h
lack P U g o n w no_project h = absurd h
lack P U g o n w (two_projects k j) h = absurd h
lack P U g o n w (registry x) h = gap x h refl
lack P U g o n w no_version h = missing h.0 h.1 refl
lack P U g o n w (packages c) h = absurd h

one_lack : {F : Type 0} (P : List ℕ → Shelf → Type 0) (U : List ℕ → F → Type 0) (N : Node → Type 0) (R : Id → F → Type 0) → Shown P U N R → (g : Given) (o : Bool) (n : List ℕ) (w : Want) (f h : Cause F) → Lack P U g o n w f → Lack P U g o n w h → f ≡ h
one_lack P U N R s g o n w f h (gap x u e) (gap y v i) = e ∙ ap registry (s.one_gap n x y u v) ∙ sym i
one_lack P U N R s g o n w f h (gap x u e) (missing c b i) = absurd (s.no_gap n c.shelf x c.shows u)
one_lack P U N R s g o n w f h (missing c b e) (gap y v i) = absurd (s.no_gap n c.shelf y c.shows v)
one_lack P U N R s g o n w f h (missing c b e) (missing d a i) = e ∙ sym i

-- a version that leads on isn't lacking
no_lack : {F : Type 0} (P : List ℕ → Shelf → Type 0) (U : List ℕ → F → Type 0) (N : Node → Type 0) (R : Id → F → Type 0) → Shown P U N R → (g : Given) (o : Bool) (n : List ℕ) (w : Want) (f : Cause F) (v : Option Parts) (aim : Option Aim)
    → Chooses P g n w v → Found n o v aim → Lack P U g o n w f → ⊥
no_lack P U N R s g o n w f v aim c found (gap x u e) = s.no_gap n c.shelf x c.shows u
no_lack P U N R s g o n w f v aim c found (missing d must e) = required (subst (λ (x : Option Parts). Found n o x aim) (one_choice P U N R s g n w v None c d) found) where
  required : Found n o None aim → ⊥
  required h = true_false o h.0 must

data Bare {F : Type 0} (o : Bool) (b : Bearer) (f : Cause F) : Type 0 where
  alone : b ≡ nobody → o ≡ false → f ≡ no_project → Bare o b f
  twice : (k j : ℕ) → b ≡ two k j → f ≡ two_projects k j → Bare o b f

bare : {F : Type 0} (o : Bool) (b : Bearer) (f : Cause F) → NoProject o b f → Bare o b f
bare o b unsupported h = absurd h
bare o b unbuilt h = absurd h
bare o b no_catalog h = absurd h
bare o b no_project h = alone h.0 h.1 refl
bare o b (two_projects k j) h = twice k j h refl
bare o b (registry x) h = absurd h
bare o b no_version h = absurd h
bare o b (packages c) h = absurd h

pair_of : {F : Type 0} → Bearer → Cause F
pair_of (one k) = no_project
pair_of nobody = no_project
pair_of (two k j) = two_projects k j

is_pair : Bearer → Bool
is_pair (one k) = false
is_pair nobody = false
is_pair (two k j) = true

one_bare : {F : Type 0} (o : Bool) (b : Bearer) (f h : Cause F) → Bare o b f → Bare o b h → f ≡ h
unfolding is_pair pair_of
one_bare o b f h (alone x y e) (alone u v i) = e ∙ sym i
one_bare o b f h (alone x y e) (twice k j u i) = absurd (true_false (is_pair b) (ap is_pair u) (ap is_pair x))
one_bare o b f h (twice k j x e) (alone u v i) = absurd (true_false (is_pair b) (ap is_pair x) (ap is_pair u))
one_bare o b f h (twice k j x e) (twice l m u i) = e ∙ ap pair_of (sym x ∙ u) ∙ sym i

no_bare : {F : Type 0} (o : Bool) (b : Bearer) (f : Cause F) (aim : Option Aim) → Borne o b aim → Bare o b f → ⊥
no_bare o b f aim h (alone x y e) = required (subst (λ (c : Bearer). Borne o c aim) x h) where
  required : Borne o nobody aim → ⊥
  required k = true_false o k.0 y
no_bare o b f aim h (twice k j x e) = subst (λ (c : Bearer). Borne o c aim) x h

one_refusal : {F : Type 0} (P : List ℕ → Shelf → Type 0) (U : List ℕ → F → Type 0) (N : Node → Type 0) (R : Id → F → Type 0) → Shown P U N R → (g : Given) (o : Bool) (r : Reading) (f h : Cause F)
    → ReadingRefused P U g o r f → ReadingRefused P U g o r h → f ≡ h
one_refusal P U N R s g o (of_package n w) f h x y = one_lack P U N R s g o n w f h (lack P U g o n w f x) (lack P U g o n w h y)
one_refusal P U N R s g o (of_project n w) f h x y = one_bare o (bearer_of g n w) f h (bare o (bearer_of g n w) f x) (bare o (bearer_of g n w) h y)
one_refusal P U N R s g o no_entry f h x y = x ∙ sym y
one_refusal P U N R s g o not_built f h x y = x ∙ sym y

no_refusal : {F : Type 0} (P : List ℕ → Shelf → Type 0) (U : List ℕ → F → Type 0) (N : Node → Type 0) (R : Id → F → Type 0) → Shown P U N R → (g : Given) (o : Bool) (r : Reading) (f : Cause F) (aim : Option Aim)
    → ReadingLeads P g o r aim → ReadingRefused P U g o r f → ⊥
no_refusal P U N R s g o (of_package n w) f aim x y = no_lack P U N R s g o n w f x.0 aim x.1 x.2 (lack P U g o n w f y)
no_refusal P U N R s g o (of_project n w) f aim x y = no_bare o (bearer_of g n w) f aim x (bare o (bearer_of g n w) f y)
no_refusal P U N R s g o no_entry f aim x y = x
no_refusal P U N R s g o not_built f aim x y = x

-- a wish that leads somewhere has a form
has_form : (P : List ℕ → Shelf → Type 0) (g : Given) (w : Wish) (aim : Option Aim) → w.chosen ≡ None → FitsNoForm (trimmed w.specifier) → Leads P g w aim → ⊥
has_form P g w aim c none l =
    let h : LeadsBy P g w None aim = subst (λ (o : Option Id). LeadsBy P g w o aim) c l in
    readings.none w.specifier h.1.spec none h.1.says

-- a wish that leads somewhere has no cause there
has_aim : {F : Type 0} (P : List ℕ → Shelf → Type 0) (U : List ℕ → F → Type 0) (N : Node → Type 0) (R : Id → F → Type 0) → Shown P U N R → (g : Given) (w : Wish) (aim : Option Aim) (r : Reading) (f : Cause F)
    → w.chosen ≡ None → Reads g w r → ReadingRefused P U g w.optional r f → Leads P g w aim → ⊥
has_aim P U N R s g w aim r f c reads refused l =
    let h : LeadsBy P g w None aim = subst (λ (o : Option Id). LeadsBy P g w o aim) c l in
    no_refusal P U N R s g w.optional r f aim (subst (λ (q : Reading). ReadingLeads P g w.optional q aim) (one_reading g w h.0 r h.1 reads) h.2) refused

data Unmet {F : Type 0} (N : Node → Type 0) (R : Id → F → Type 0) (met : List Node) (i : Id) (f : Cause F) : Type 0 where
  fault : (x : F) → R i x → f ≡ registry x → Unmet N R met i f
  full : IsFull N met i → f ≡ packages (PACKAGE_LIMIT + 1) → Unmet N R met i f

unmet : {F : Type 0} (N : Node → Type 0) (R : Id → F → Type 0) (met : List Node) (i : Id) (f : Cause F) → NotMet N R met i f → Unmet N R met i f
unmet N R met i unsupported h = absurd h
unmet N R met i unbuilt h = absurd h
unmet N R met i no_catalog h = absurd h
unmet N R met i no_project h = absurd h
unmet N R met i (two_projects k j) h = absurd h
unmet N R met i (registry x) h = fault x h refl
unmet N R met i no_version h = absurd h
unmet N R met i (packages c) h = full h.1 (ap packages h.0)

found_fault : {F : Type 0} (P : List ℕ → Shelf → Type 0) (U : List ℕ → F → Type 0) (N : Node → Type 0) (R : Id → F → Type 0) → Shown P U N R → (m : Node) (i : Id) (x : F) → N m → m.id ≡ i → R i x → ⊥
found_fault P U N R s m i x is here r = s.no_fault m x is (subst (λ (j : Id). R j x) (sym here) r)

one_unmet : {F : Type 0} (P : List ℕ → Shelf → Type 0) (U : List ℕ → F → Type 0) (N : Node → Type 0) (R : Id → F → Type 0) → Shown P U N R → (met : List Node) (i : Id) (f h : Cause F) → Unmet N R met i f → Unmet N R met i h → f ≡ h
one_unmet P U N R s met i f h (fault x u e) (fault y v j) = e ∙ ap registry (s.one_fault i x y u v) ∙ sym j
one_unmet P U N R s met i f h (fault x u e) (full v j) = absurd (found_fault P U N R s v.found i x v.is v.here u)
one_unmet P U N R s met i f h (full u e) (fault y v j) = absurd (found_fault P U N R s u.found i y u.is u.here v)
one_unmet P U N R s met i f h (full u e) (full v j) = e ∙ sym j

id_in : Option Aim → Id → Id
id_in None d = d
id_in (Some (to_project q)) d = d
id_in (Some (to_package i)) d = i

one_cause : {F : Type 0} (P : List ℕ → Shelf → Type 0) (U : List ℕ → F → Type 0) (N : Node → Type 0) (R : Id → F → Type 0) → Shown P U N R → (g : Given) (met : List Node) (e : Turn) (f h : Cause F)
    → Refused P U N R g met e f → Refused P U N R g met e h → f ≡ h
unfolding id_in
one_cause P U N R s g met e f h (no_form c x i) (no_form d y j) = i ∙ sym j
one_cause P U N R s g met e f h (no_form c x i) (no_aim d r reads y) = absurd (readings.none e.wish.specifier reads.spec x reads.says)
one_cause P U N R s g met e f h (no_form c x i) (not_met id l p y) = absurd (has_form P g e.wish (Some (to_package id)) c x l)
one_cause P U N R s g met e f h (no_aim c r reads x) (no_form d y j) = absurd (readings.none e.wish.specifier reads.spec y reads.says)
one_cause P U N R s g met e f h (no_aim c r reads x) (no_aim d q others y) =
    one_refusal P U N R s g e.wish.optional q f h (subst (λ (k : Reading). ReadingRefused P U g e.wish.optional k f) (one_reading g e.wish r q reads others) x) y
one_cause P U N R s g met e f h (no_aim c r reads x) (not_met id l p y) = absurd (has_aim P U N R s g e.wish (Some (to_package id)) r f c reads x l)
one_cause P U N R s g met e f h (not_met id l p x) (no_form d y j) = absurd (has_form P g e.wish (Some (to_package id)) d y l)
one_cause P U N R s g met e f h (not_met id l p x) (no_aim d r reads y) = absurd (has_aim P U N R s g e.wish (Some (to_package id)) r h d reads y l)
one_cause P U N R s g met e f h (not_met id l p x) (not_met other m q y) =
    let same : id ≡ other = ap (λ (a : Option Aim). id_in a id) (one_aim_by P U N R s g e.wish e.wish.chosen (Some (to_package id)) (Some (to_package other)) l m) in
    one_unmet P U N R s met other f h (subst (λ (i : Id). Unmet N R met i f) same (unmet N R met id f x)) (unmet N R met other h y)

no_room : {F : Type 0} (P : List ℕ → Shelf → Type 0) (U : List ℕ → F → Type 0) (N : Node → Type 0) (R : Id → F → Type 0) → Shown P U N R → (met : List Node) (i : Id) (f : Cause F) (to : Option Place) (added : List Node)
    → Meets N met i to added → Unmet N R met i f → ⊥
no_room P U N R s met i f to added m (fault x u e) = found_fault P U N R s m.new i x m.is m.here u
no_room P U N R s met i f to added m (full u e) = absurd (omega (arith, m.room, u.full))

not_taken : {F : Type 0} (P : List ℕ → Shelf → Type 0) (U : List ℕ → F → Type 0) (N : Node → Type 0) (R : Id → F → Type 0) → Shown P U N R → (g : Given) (met : List Node) (e : Turn) (f : Cause F) (to : Option Place) (added : List Node)
    → Takes (Leads P g) N met e.wish to added → Refused P U N R g met e f → ⊥
not_taken P U N R s g met e f to added t (no_form c x i) = has_form P g e.wish t.aim c x t.aims
not_taken P U N R s g met e f to added t (no_aim c r reads x) = has_aim P U N R s g e.wish t.aim r f c reads x t.aims
not_taken P U N R s g met e f to added t (not_met id l p x) =
    let aim : t.aim ≡ Some (to_package id) = one_aim_by P U N R s g e.wish e.wish.chosen t.aim (Some (to_package id)) t.aims l in
    let lands : LandsAt N met id (place_of id met) to added = subst (λ (a : Option Aim). Lands N met a to added) aim t.lands in
    no_room P U N R s met id f to added (subst (λ (o : Option ℕ). LandsAt N met id o to added) p lands) (unmet N R met id f x)

-- An edge is taken, or refused for one cause.
pub apart : {F : Type 0} (P : List ℕ → Shelf → Type 0) (U : List ℕ → F → Type 0) (N : Node → Type 0) (R : Id → F → Type 0) → Shown P U N R → (g : Given) → AreApart (Leads P g) N (λ met e f. Refused P U N R g met e f)
apart P U N R s g = record { one_cause = one_cause P U N R s g; not_taken = not_taken P U N R s g }
