-- Each edge is taken or refused.
use Rattle.std.proofs.Common.{◌≡◌, ℕ, ◌+◌, Bool, true, false, List, [], ◌∷◌, length, Option, Some, None, refl, sym, subst, inl, inr}
use Rattle.std.specs.Prelude.{◌⊎◌, Result, Ok, Err}
use Rattle.std.proofs.lemmas.Bool.{cases_lt}
use Rattle.semver.specs.Parse.{Parts}
use Rattle.pn_text.specs.declared.limits.TheConstants.{PACKAGE_LIMIT}
use Rattle.pn_spec.specs.declared.want.Want.{Want}
use Rattle.pn_walk.specs.declared.node.Node.{Node}
use Rattle.pn_walk.specs.declared.wish.Aim.{Aim}
use Rattle.pn_walk.specs.declared.wish.Aim.TheVariants.{Project as to_project, Package as to_package}
use Rattle.pn_walk.specs.declared.wish.Place.TheVariants.{Project as at_project, Package as at_package}
use Rattle.pn_walk.specs.Wants.{Id}
use Rattle.pn_walk.specs.Walks.{Turn, LandsAt, place_of}
use Rattle.pn_published.specs.Shelves.{Shelf}
use Rattle.pn_plain.specs.Aims.{Chooses, Borne, ReadingLeads, Reads, Leads, LeadsBy, bearer_of, id_at}
use Rattle.pn_plain.specs.Causes.{Cause, unsupported, unbuilt, no_catalog, no_project, two_projects, registry, no_version, packages, ReadingRefused, NoProject, no_form, no_aim, not_met}
use Rattle.pn_plain.specs.EdgeLaws.{IsReadable, IsTotal, IsTaken, IsRefused, EdgeLaw}
use Rattle.pn_plain.specs.Given.{Given, held_of, version_of}
use Rattle.pn_plain.specs.Readings.{Reading, of_package, of_project, no_entry, not_built, reading, built, Bearer, one, nobody, two}
use Rattle.pn_manifest.specs.Said.{Said}
use Rattle.pn_plain.specs.Seen.{a_package, one_map, dependency_names, dropped, wishes_of}
use Rattle.pn_plain.specs.Told.{Told, IsToldShelf, IsGap, IsToldNode}

-- a reading leads somewhere, or is refused
record HasAim (t : Told) (g : Given) (o : Bool) (r : Reading) : Type 0 where
  aim : Option Aim
  leads : ReadingLeads (IsToldShelf t) g o r aim

record HasCause (t : Told) (g : Given) (o : Bool) (r : Reading) : Type 0 where
  cause : Cause ℕ
  why : ReadingRefused (IsToldShelf t) (IsGap t) g o r cause

chosen_or_not : (t : Told) (g : Given) (o : Bool) (n : List ℕ) (w : Want) (found : Option Parts) → Chooses (IsToldShelf t) g n w found → HasAim t g o (of_package n w) ⊎ HasCause t g o (of_package n w)
chosen_or_not t g o n w (Some v) c = inl (record { aim = Some (to_package (id_at n v)); leads = (Some v, c, refl) })
chosen_or_not t g true n w None c = inl (record { aim = None; leads = (None, c, (refl, refl)) })
chosen_or_not t g false n w None c = inr (record { cause = no_version; why = (c, refl) })

shelf_or_not : (t : Told) (g : Given) (o : Bool) (n : List ℕ) (w : Want) (r : Result Shelf ℕ) → t.shelf n ≡ r → HasAim t g o (of_package n w) ⊎ HasCause t g o (of_package n w)
shelf_or_not t g o n w (Ok shelf) e = chosen_or_not t g o n w (version_of shelf (held_of n g.held) w) (record { shelf = shelf; shows = e; is = refl })
shelf_or_not t g o n w (Err x) e = inr (record { cause = registry x; why = e })

borne_or_not : (o : Bool) (b : Bearer) → ((a : Option Aim) × Borne o b a) ⊎ ((f : Cause ℕ) × NoProject o b f)
borne_or_not o (one k) = inl (Some (to_project k), refl)
borne_or_not true nobody = inl (None, (refl, refl))
borne_or_not false nobody = inr (no_project, (refl, refl))
borne_or_not o (two k j) = inr (two_projects k j, refl)

aim_or_not : (t : Told) (g : Given) (o : Bool) (r : Reading) → HasAim t g o r ⊎ HasCause t g o r
aim_or_not t g o (of_package n w) = shelf_or_not t g o n w (t.shelf n) refl
aim_or_not t g o (of_project n w) = elim (borne_or_not o (bearer_of g n w)) [
  | inl a ↦ inl (record { aim = a.0; leads = a.1 })
  | inr f ↦ inr (record { cause = f.0; why = f.1 })
]
aim_or_not t g o no_entry = inr (record { cause = no_catalog; why = refl })
aim_or_not t g o not_built = inr (record { cause = unbuilt; why = refl })

-- a package that isn't met yet
new_or_not : (t : Told) → IsTotal t → (g : Given) (met : List Node) (e : Turn) (i : Id) → Leads (IsToldShelf t) g e.wish (Some (to_package i)) → place_of i met ≡ None
    → (r : Result Said ℕ) → t.manifest i ≡ r → IsTaken t g met e.wish ⊎ IsRefused t g met e
new_or_not t total g met e i leads fresh (Err x) is = inr (record { cause = registry x; why = not_met i leads fresh is })
new_or_not t total g met e i leads fresh (Ok said) is =
    let seen = t.hook a_package said in
    let over = total (one_map a_package seen) in
    let face = dropped (dependency_names (one_map a_package seen)) over.0 in
    let new : Node = record { id = i; wishes = wishes_of face; peers = face.peers } in
    let there : IsToldNode t new = record { said = said; says = is; face = face; seen = record { overridden = over.0; by_rules = over.1; is = refl }; wishes = refl; peers = refl } in
    elim (cases_lt (length met) PACKAGE_LIMIT) [
      | inl room ↦ inl (record {
        to = Some (at_package (length met));
        added = new ∷ [];
        takes = record {
          aim = Some (to_package i);
          aims = leads;
          lands = subst (λ (o : Option ℕ). LandsAt (IsToldNode t) met i o (Some (at_package (length met))) (new ∷ [])) (sym fresh)
              (record { new = new; is = there; here = refl; room = room; at = refl; only = refl });
        };
      })
      | inr full ↦ inr (record { cause = packages (PACKAGE_LIMIT + 1); why = not_met i leads fresh (refl, record { found = new; is = there; here = refl; full = full }) })
    ]

met_or_not : (t : Told) → IsTotal t → (g : Given) (met : List Node) (e : Turn) (i : Id) → Leads (IsToldShelf t) g e.wish (Some (to_package i))
    → (o : Option ℕ) → place_of i met ≡ o → IsTaken t g met e.wish ⊎ IsRefused t g met e
met_or_not t total g met e i leads None is = new_or_not t total g met e i leads is (t.manifest i) refl
met_or_not t total g met e i leads (Some k) is = inl (record {
  to = Some (at_package k);
  added = [];
  takes = record {
    aim = Some (to_package i);
    aims = leads;
    lands = subst (λ (o : Option ℕ). LandsAt (IsToldNode t) met i o (Some (at_package k)) []) (sym is) (record { at = refl; only = refl });
  };
})

-- an edge whose wish leads somewhere
landed_or_not : (t : Told) → IsTotal t → (g : Given) (met : List Node) (e : Turn) (aim : Option Aim) → Leads (IsToldShelf t) g e.wish aim → IsTaken t g met e.wish ⊎ IsRefused t g met e
landed_or_not t total g met e None leads = inl (record { to = None; added = []; takes = record { aim = None; aims = leads; lands = record { at = refl; only = refl } } })
landed_or_not t total g met e (Some (to_project q)) leads = inl (record { to = Some (at_project q); added = []; takes = record { aim = Some (to_project q); aims = leads; lands = record { at = refl; only = refl } } })
landed_or_not t total g met e (Some (to_package i)) leads = met_or_not t total g met e i leads (place_of i met) refl

read_or_not : (t : Told) → IsTotal t → (g : Given) (met : List Node) (e : Turn) → e.wish.chosen ≡ None → IsReadable e.wish.specifier → IsTaken t g met e.wish ⊎ IsRefused t g met e
read_or_not t total g met e none (inr fits) = inr (record { cause = unsupported; why = no_form none fits refl })
read_or_not t total g met e none (inl s) =
    let r = built g.spaces (reading g.catalogs e.wish.alias s.0) in
    let reads : Reads g e.wish r = record { spec = s.0; says = s.1; is = refl } in
    elim (aim_or_not t g e.wish.optional r) [
      | inl a ↦ landed_or_not t total g met e a.aim (subst (λ (o : Option Id). LeadsBy (IsToldShelf t) g e.wish o a.aim) (sym none) (r, reads, a.leads))
      | inr f ↦ inr (record { cause = f.cause; why = no_aim none r reads f.why })
    ]

by_chosen : (t : Told) → IsTotal t → (g : Given) (met : List Node) (e : Turn) → IsReadable e.wish.specifier → (c : Option Id) → e.wish.chosen ≡ c → IsTaken t g met e.wish ⊎ IsRefused t g met e
by_chosen t total g met e can None is = read_or_not t total g met e is can
by_chosen t total g met e can (Some i) is =
    landed_or_not t total g met e (Some (to_package i)) (subst (λ (o : Option Id). LeadsBy (IsToldShelf t) g e.wish o (Some (to_package i))) (sym is) refl)

pub edge_law : (t : Told) → EdgeLaw t
edge_law t total g met e can = by_chosen t total g met e can e.wish.chosen refl
