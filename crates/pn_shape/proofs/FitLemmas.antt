-- Walks whose end is a plain graph. No premise says that a wish leads to one aim, or that an id is that of one package.
use Rattle.std.proofs.Common.{◌≡◌, ◌<◌, ◌^◌, ◌+◌, ℕ, List, [], ◌∷◌, ◌++◌, true, false, Option, Some, None, length, map, refl, sym, ap, ◌∙◌, subst, arith, inl, inr}
use Rattle.std.specs.Prelude.{cond, slice_get}
use Rattle.std.specs.List.{All, Contains}
use Rattle.std.proofs.lemmas.List.{length-map, append-nil}
use Rattle.std.proofs.lemmas.Option.{slice_get_within}
use Rattle.std.proofs.lemmas.List.Elements.{All-map, All-weaker, All-contains, All-contains_itself, Contains-append_cases}
use Rattle.pn_text.proofs.Members.{to_map}
use Rattle.pn_manifest.specs.Said.{AreRising}
use Rattle.pn_walk.specs.declared.node.Node.{Node}
use Rattle.pn_walk.specs.declared.wish.Aim.{Aim}
use Rattle.pn_walk.specs.declared.wish.Aim.TheVariants.{Project as to_project, Package as to_package}
use Rattle.pn_walk.specs.declared.wish.Place.{Place}
use Rattle.pn_walk.specs.declared.wish.Place.TheVariants.{Project as at_project, Package as at_package}
use Rattle.pn_walk.specs.declared.wish.Wish.{Wish}
use Rattle.pn_walk.specs.Graphs.{id_of, turn_of, IsAt, IsRight}
use Rattle.pn_walk.specs.Starts.{turns_from}
use Rattle.pn_walk.specs.Walks.{Turn, Link, State, turns_of, start, same_place, asked_by, IsWalked}
use Rattle.pn_walk.proofs.GraphLemmas.{Fits, fits_walk, fits_start, all_taken, both_asked, moved}
use Rattle.pn_shape.specs.Shapes.{links_by}
use Rattle.pn_shape.specs.Fits.{IsPlace, IsEnd, IsBetween, alias_of, aliases_by, HasOwnNames, IsFit}
use Rattle.pn_shape.proofs.ListLemmas.{at_place, get_to_map}
use Rattle.pn_shape.proofs.AskedLemmas.{aliases_of, alias_in, turns_at, from_projects, from_packages, wishes_of, other_kind, asked_there, turn_aliases, asked_rise, IsNodeAt, asker_within}

-- The package asks in byte order of aliases. Its peers rise, its own name is neither alias nor peer, and no name is both.
pub record IsSoundNode (n : Node) : Type 0 where
  pub asks : AreRising (aliases_of n.wishes)
  pub own : HasOwnNames n (aliases_of n.wishes)

by_turns : (who : Place) (links : List Link) → map turn_of (links_by who links) ≡ asked_by who (map turn_of links)
by_turns who [] = refl
by_turns who (l ∷ ls) = elim (same_place l.turn.who who) as (λ b. map turn_of (cond b (l ∷ links_by who ls) (links_by who ls)) ≡ cond b (l.turn ∷ asked_by who (map turn_of ls)) (asked_by who (map turn_of ls))) [
  | true ↦ ap (λ (x : List Turn). l.turn ∷ x) (by_turns who ls)
  | false ↦ by_turns who ls
]

aliases_are : (ls : List Link) → map alias_of ls ≡ map alias_in (map turn_of ls)
aliases_are [] = refl
aliases_are (l ∷ ls) = ap (λ (x : List (List ℕ)). l.turn.wish.alias ∷ x) (aliases_are ls)

project_apart : (q j : ℕ) → same_place (at_package j) (at_project q) ≡ false
project_apart q j = refl

package_apart : (k j : ℕ) → same_place (at_project j) (at_package k) ≡ false
package_apart k j = refl

all_by : (leads : Wish → Option Aim → Type 0) (node : Node → Type 0) (wishes : List (List Wish)) (t : State) (who : Place) → Fits leads node (turns_from 0 wishes) t → t.todo ≡ []
    → aliases_by who t.links ≡ map alias_in (asked_by who (turns_at at_project 0 wishes) ++ asked_by who (turns_at at_package 0 (map wishes_of t.met)))
all_by leads node wishes t who h none =
    aliases_are (links_by who t.links)
    ∙ ap (map alias_in) (by_turns who t.links ∙ all_taken leads node (turns_from 0 wishes) t who h none ∙ both_asked who (turns_from 0 wishes) (turns_of 0 t.met)
    ∙ ap (λ (l : List Turn). asked_by who l ++ asked_by who (turns_of 0 t.met)) (from_projects 0 wishes)
    ∙ ap (λ (l : List Turn). asked_by who (turns_at at_project 0 wishes) ++ asked_by who l) (from_packages 0 t.met))

by_project : (leads : Wish → Option Aim → Type 0) (node : Node → Type 0) (wishes : List (List Wish)) (t : State) (q : ℕ) → Fits leads node (turns_from 0 wishes) t → t.todo ≡ []
    → aliases_by (at_project q) t.links ≡ map alias_in (asked_by (at_project q) (turns_at at_project 0 wishes))
by_project leads node wishes t q h none =
    let who = at_project q in
    all_by leads node wishes t who h none
    ∙ ap (λ (l : List Turn). map alias_in (asked_by who (turns_at at_project 0 wishes) ++ l)) (other_kind who at_package (project_apart q) 0 (map wishes_of t.met))
    ∙ ap (map alias_in) (append-nil (asked_by who (turns_at at_project 0 wishes)))

by_package : (leads : Wish → Option Aim → Type 0) (node : Node → Type 0) (wishes : List (List Wish)) (t : State) (k : ℕ) → Fits leads node (turns_from 0 wishes) t → t.todo ≡ []
    → aliases_by (at_package k) t.links ≡ map alias_in (asked_by (at_package k) (turns_at at_package 0 (map wishes_of t.met)))
by_package leads node wishes t k h none =
    let who = at_package k in
    all_by leads node wishes t who h none
    ∙ ap (λ (l : List Turn). map alias_in (l ++ asked_by who (turns_at at_package 0 (map wishes_of t.met)))) (other_kind who at_project (package_apart k) 0 wishes)

-- the aliases of a package are those of what it asks for
of_package : (leads : Wish → Option Aim → Type 0) (node : Node → Type 0) (wishes : List (List Wish)) (t : State) (k : ℕ) (n : Node) → Fits leads node (turns_from 0 wishes) t → t.todo ≡ [] → slice_get t.met k ≡ Some n
    → aliases_by (at_package k) t.links ≡ aliases_of n.wishes
of_package leads node wishes t k n h none there =
    by_package leads node wishes t k h none
    ∙ ap (map alias_in) (asked_there at_package (λ i j. refl) k 0 k (map wishes_of t.met) n.wishes (from_zero k) (get_to_map wishes_of t.met k n there))
    ∙ turn_aliases (at_package k) n.wishes
  where
    from_zero : (k : ℕ) → k ≡ 0 + k
    from_zero k = omega arith

aliases_rise : (leads : Wish → Option Aim → Type 0) (node : Node → Type 0) (wishes : List (List Wish)) (t : State) (who : Place) → Fits leads node (turns_from 0 wishes) t → t.todo ≡ [] → All (λ ws. AreRising (aliases_of ws)) wishes
    → ((n : Node) → node n → IsSoundNode n) → AreRising (aliases_by who t.links)
aliases_rise leads node wishes t (at_project q) h none rising sound = subst AreRising (sym (by_project leads node wishes t q h none)) (asked_rise at_project (λ i j. refl) q 0 wishes rising)
aliases_rise leads node wishes t (at_package k) h none rising sound =
    subst AreRising (sym (by_package leads node wishes t k h none))
    (asked_rise at_package (λ i j. refl) k 0 (map wishes_of t.met)
    (All-map (λ ws. AreRising (aliases_of ws)) wishes_of t.met (All-weaker node (λ (n : Node). AreRising (aliases_of n.wishes)) (λ n is. (sound n is).asks) t.met h.nodes)))

end_of : (leads : Wish → Option Aim → Type 0) (projects : ℕ) (met : List Node) (w : Wish) (aim : Option Aim) (to : Option Place) → ((w : Wish) (q : ℕ) → leads w (Some (to_project q)) → q < projects) → leads w aim → IsAt met aim to → IsEnd projects (length met) to
end_of leads projects met w None to within aims at = subst (IsEnd projects (length met)) (sym at) tt
end_of leads projects met w (Some (to_project q)) to within aims at = subst (IsEnd projects (length met)) (sym at) (within w q aims)
end_of leads projects met w (Some (to_package i)) to within aims at =
    subst (IsEnd projects (length met)) (sym at.1) (subst (λ (n : ℕ). at.0 < n) (length-map met id_of) (slice_get_within (map id_of met) at.0 i at.2))

place_of_project : (projects packages : ℕ) (who : Place) → IsNodeAt at_project 0 projects who → IsPlace projects packages who
place_of_project projects packages who h = subst (IsPlace projects packages) (sym h.is) (less h.place projects h.within) where
  less : (p n : ℕ) → p < 0 + n → p < n
  less p n h = omega (arith, h)

place_of_package : (projects packages : ℕ) (who : Place) → IsNodeAt at_package 0 packages who → IsPlace projects packages who
place_of_package projects packages who h = subst (IsPlace projects packages) (sym h.is) (less h.place packages h.within) where
  less : (p n : ℕ) → p < 0 + n → p < n
  less p n h = omega (arith, h)

asker_in : (leads : Wish → Option Aim → Type 0) (node : Node → Type 0) (wishes : List (List Wish)) (t : State) (l : Link) → Fits leads node (turns_from 0 wishes) t → t.todo ≡ [] → Contains t.links l → IsPlace (length wishes) (length t.met) l.turn.who
asker_in leads node wishes t l h none c =
    let e = l.turn in
    let asked : Contains (turns_from 0 wishes ++ turns_of 0 t.met) e =
    moved e (map turn_of t.links) (turns_from 0 wishes ++ turns_of 0 t.met) (all_taken leads node (turns_from 0 wishes) t e.who h none) (to_map turn_of t.links l c) in
    elim (Contains-append_cases (turns_from 0 wishes) (turns_of 0 t.met) e asked) [
      | inl p ↦ place_of_project (length wishes) (length t.met) e.who (asker_within at_project 0 wishes e (subst (λ (x : List Turn). Contains x e) (from_projects 0 wishes) p))
      | inr k ↦ place_of_package (length wishes) (length t.met) e.who
          (subst (λ (n : ℕ). IsNodeAt at_package 0 n e.who) (length-map t.met wishes_of) (asker_within at_package 0 (map wishes_of t.met) e (subst (λ (x : List Turn). Contains x e) (from_packages 0 t.met) k)))
    ]

-- Where projects and packages ask in byte order of aliases and under names of their own, the end is fit.
pub fit_of_walk : (leads : Wish → Option Aim → Type 0) (node : Node → Type 0) (folders : List (List ℕ)) (wishes : List (List Wish)) (t : State) → IsWalked leads node (start (turns_from 0 wishes)) t
    → length folders ≡ length wishes → AreRising folders → length folders < 2 ^ 32 → All (λ ws. AreRising (aliases_of ws)) wishes
    → ((w : Wish) (q : ℕ) → leads w (Some (to_project q)) → q < length folders) → ((n : Node) → node n → IsSoundNode n) → IsFit folders t
fit_of_walk leads node folders wishes t walked long rising few asks within sound =
    let h : Fits leads node (turns_from 0 wishes) t = fits_walk leads node (turns_from 0 wishes) t (start (turns_from 0 wishes)) walked.walk (fits_start leads node (turns_from 0 wishes)) in
    record {
      few = few;
      rising = rising;
      once = h.once;
      between = All-weaker (Contains t.links) (IsBetween (length folders) (length t.met))
          (λ l c.
          let r : IsRight leads t.met l = All-contains (IsRight leads t.met) t.links l h.right c in
          record {
            who = subst (λ (n : ℕ). IsPlace n (length t.met) l.turn.who) (sym long) (asker_in leads node wishes t l h walked.none c);
            to = end_of leads (length folders) t.met l.turn.wish r.aim l.to within r.aims r.at;
          })
          t.links (All-contains_itself t.links);
      aliases = λ who. aliases_rise leads node wishes t who h walked.none asks sound;
      own = λ k n there.
          subst (HasOwnNames n) (sym (of_package leads node wishes t k n h walked.none there))
          (sound n (All-contains node t.met n h.nodes (at_place t.met k n there))).own;
    }
