-- What dependencies lead to.
use Rattle.std.proofs.Common.{◌≡◌, ◌<◌, ◌≤◌, ℕ, zero, suc, ◌+◌, Bool, true, false, List, [], ◌∷◌, ◌++◌, length, get_or, inl, inr, ◌⊎◌, refl, sym, ap, ◌∙◌, subst, arith, length-append}
use Rattle.std.specs.Prelude.{slice_get}
use Rattle.std.specs.List.{Contains}
use Rattle.std.proofs.lemmas.Option.{slice_get-get_or}
use Rattle.std.proofs.lemmas.List.{get_or_default, get_or_append_left}
use Rattle.std.proofs.lemmas.List.Elements.{Contains-append_left, Contains-append_cases, Contains-get_or}
use Rattle.pn_graph.specs.Graphs.{Package}
use Rattle.pn_graph.specs.Reaches.{Leads, Reaches, itself, through}
use Rattle.pn_graph.specs.ReachLaw.{IsClosed, ReachLaw}
use Rattle.pn_graph.specs.Lookups.{package_deps}
use Rattle.pn_graph.specs.Founds.{AddsAll, IsMarked, IsExplored, AreReached}

pub onward : (packages : List Package) (i j k : ℕ) → Reaches packages i j → Reaches packages j k → Reaches packages i k
onward packages i j _ a itself = a
onward packages i j _ a (through m k b l) = through m k (onward packages i j m a b) l

least : (packages : List Package) (from : ℕ) (set : ℕ → Bool) → set from ≡ true → IsClosed packages set → (k : ℕ) → Reaches packages from k → set k ≡ true
least packages from set start closed _ itself = start
least packages from set start closed _ (through m k r l) = closed m k (least packages from set start closed m r) l

pub law : ReachLaw
law = record {
  own = λ packages k. itself;
  direct = λ packages i k l. through i k itself l;
  onward = onward;
  least = least;
}

-- where nothing but the start is met
pub first_explored : (packages : List Package) (from : ℕ) (order : List ℕ) → AddsAll (λ k. k ≡ from) [] order → IsExplored packages from 0 order
first_explored packages from order a = record {
  within = omega arith;
  start = a.all from refl;
  sound = λ k c. subst (λ (j : ℕ). Reaches packages from j) (sym (a.adds.each k (subst (λ (l : List ℕ). Contains l k) a.adds.is c))) itself;
  closed = λ j h. absurd (omega arith);
}

before_or_at : (j at : ℕ) → j < at + 1 → (j < at) ⊎ (j ≡ at)
before_or_at j at h = grind arith

before_within : (j at n : ℕ) → j < at → at < n → j < n
before_within j at n h w = omega arith

-- what the package at the place leads to is met too
pub more_explored : (packages : List Package) (from at : ℕ) (a b : List ℕ) → IsExplored packages from at a → at < length a → AddsAll (Leads packages (get_or a at 0)) a b → IsExplored packages from (at + 1) b
more_explored packages from at a b e h new =
    let more = new.adds.more in
    let kept = λ (k : ℕ) (c : Contains a k). subst (λ (l : List ℕ). Contains l k) (sym new.adds.is) (Contains-append_left a more k c) in
    let same = λ (j : ℕ) (w : j < length a). ap (λ (l : List ℕ). get_or l j 0) new.adds.is ∙ get_or_append_left a more 0 j w in
    record {
      within = let long : length b ≡ length (a ++ more) = ap length new.adds.is in let longer : length a ≤ length (a ++ more) = grind (arith, length-append) in omega arith;
      start = kept from e.start;
      sound = λ k c. elim (Contains-append_cases a more k (subst (λ (l : List ℕ). Contains l k) new.adds.is c)) [
        | inl old ↦ e.sound k old
        | inr fresh ↦ through (get_or a at 0) k (e.sound (get_or a at 0) (Contains-get_or a at 0 h)) (new.adds.each k fresh)
      ];
      closed = λ j below k leads. elim (before_or_at j at below) [
        | inl before ↦ kept k (e.closed j before k (subst (λ (i : ℕ). Leads packages i k) (same j (before_within j at (length a) before h)) leads))
        | inr here ↦ new.all k (subst (λ (i : ℕ). Leads packages i k) (same at h) (subst (λ (i : ℕ). Leads packages (get_or b i 0) k) here leads))
      ];
    }

first_within : (j n at : ℕ) → j < n → n ≤ at → j < at
first_within j n at h w = omega arith

complete : (packages : List Package) (from at : ℕ) (order : List ℕ) → IsExplored packages from at order → length order ≤ at → (k : ℕ) → Reaches packages from k → Contains order k
complete packages from at order e h _ itself = e.start
complete packages from at order e h _ (through i k r l) =
    let c = complete packages from at order e h i r in
    let is : get_or order c.0 0 ≡ i = get_or_default order c.0 0 i c.1 ∙ c.2 in
    e.closed c.0 (first_within c.0 (length order) at c.1 h) k (subst (λ (m : ℕ). Leads packages m k) (sym is) l)

-- where all that are met were followed
pub all_explored : (packages : List Package) (from at : ℕ) (order : List ℕ) → IsExplored packages from at order → length order ≤ at → AreReached packages from order
all_explored packages from at order e h = record { sound = e.sound; complete = λ k r. complete packages from at order e h k r }

-- a package that is met is one of those that there are
no_mark : (k : ℕ) → get_or [] k false ≡ true → ⊥
no_mark k e = (cc)

pub marked_within : (seen : List Bool) (k : ℕ) → get_or seen k false ≡ true → k < length seen
marked_within [] k e = absurd (no_mark k e)
marked_within (b ∷ bs) zero e = omega arith
marked_within (b ∷ bs) (suc k) e = let h = marked_within bs k e in omega arith

pub met_within : (seen : List Bool) (order : List ℕ) (at : ℕ) → IsMarked seen order → at < length order → get_or order at 0 < length seen
met_within seen order at m h = marked_within seen (get_or order at 0) (m.marked (get_or order at 0) (Contains-get_or order at 0 h))

pub deps_there : (packages : List Package) (i : ℕ) (p : Package) → i < length packages → package_deps (slice_get packages i) ≡ (get_or packages i p).deps
deps_there packages i p h = ap package_deps (slice_get-get_or packages i p h)

-- no more are met than there are
pub few_met : (seen : List Bool) (order : List ℕ) (n at : ℕ) → IsMarked seen order → length seen ≡ n → n ≤ at → length order ≤ at
few_met seen order n at m e h = let o = m.once in omega arith
