use Rattle.std.proofs.Common.{◌≡◌, ℕ, Bor, List, [], map, Option, option_map, sym, subst, ap, ◌∙◌, IsPermutation}
use Rattle.std.proofs.lemmas.List.Elements.{All-weaker}
use Rattle.std.specs.List.{All}
use Rattle.pn_text.proofs.Results.{if_ok}
use Rattle.pn_lock.specs.declared.lists.LockPackage.{LockPackage}
use Rattle.pn_lock.specs.Kept.{Rises}
use Rattle.pn_lock.specs.Locks.{Locked}
use Rattle.pn_lock_make.specs.Singles.{package_ids}
use Rattle.pn_wanted.specs.declared.wanted.Wanted.{Wanted}
use Rattle.pn_wanted.specs.Wanted.{ids_of}
use Rattle.pn_locking.specs.Wants.{locked_at, locked_in, wanted_of}
use Rattle.pn_locking.proofs.WantedLemmas.{all_locked, ids_same, no_ids_rise}
use Rattle.pn_locking.proofs.wants.wanted.Goals as goal

pub with_locked-requires-in-None : goal.with_locked-requires-in-None
with_locked-requires-in-None c = no_ids_rise

rises : (packages : List LockPackage) (slice ids : List (List ℕ)) (ws : List Wanted) → ws ≡ map (wanted_of packages) slice → slice ≡ ids → Rises ids → Rises (ids_of ws)
rises packages slice ids ws made same h = subst Rises (sym (ap ids_of made ∙ ids_same packages slice ∙ same)) h

ordered : (packages : List LockPackage) (all slice ids : List (List ℕ)) (ws : List Wanted) → ws ≡ map (wanted_of packages) slice → slice ≡ ids → IsPermutation all ids → IsPermutation all (ids_of ws)
ordered packages all slice ids ws made same h = subst (IsPermutation all) (sym (ap ids_of made ∙ ids_same packages slice ∙ same)) h

locked : (old : Option Locked) (packages : List LockPackage) (slice : List (List ℕ)) (ws : List Wanted) → ((id : List ℕ) → locked_in id packages ≡ locked_at old id)
    → ws ≡ map (wanted_of packages) slice → All (λ (w : Wanted). w.locked ≡ locked_at old w.id) ws
locked old packages slice ws same made =
    All-weaker (λ (w : Wanted). w.locked ≡ locked_in w.id packages) (λ (w : Wanted). w.locked ≡ locked_at old w.id) (λ w e. e ∙ same w.id) ws
    (subst (All (λ (w : Wanted). w.locked ≡ locked_in w.id packages)) (sym made) (all_locked packages slice))

pub returns-in-Some-clause-rising : goal.returns-in-Some-clause-rising
returns-in-Some-clause-rising c =
    if_ok c.with_locked.result (λ v e. rises c.packages.result.now c.deref.result.now c.in_ok-ids.ids.items v.items e c.deref.ensures.value c.in_ok-ids.ensures.rising) c.with_locked.ensures

pub returns-in-Some-clause-same : goal.returns-in-Some-clause-same
returns-in-Some-clause-same c = if_ok c.with_locked.result (λ v e. ordered c.packages.result.now (package_ids c.args.plain.now.packages) c.deref.result.now c.in_ok-ids.ids.items v.items e
    c.deref.ensures.value c.in_ok-ids.ensures.same) c.with_locked.ensures

pub returns-in-Some-clause-locked : goal.returns-in-Some-clause-locked
returns-in-Some-clause-locked c = if_ok c.with_locked.result (λ v e. locked (option_map (λ (l : Bor Locked). l.now) c.args.old) c.packages.result.now c.deref.result.now v.items
    (λ id. ap (locked_in id) c.packages.ensures.list ∙ ap (λ (o : Option (Bor Locked)). locked_at (option_map (λ (l : Bor Locked). l.now) o) id) (sym c.in-Some.is)) e) c.with_locked.ensures

pub returns-clause-rising : goal.returns-clause-rising
returns-clause-rising c =
    if_ok c.with_locked-in-None.result (λ v e. rises [] c.deref-in-None.result.now c.in_ok-ids.ids.items v.items e c.deref-in-None.ensures.value c.in_ok-ids.ensures.rising) c.with_locked-in-None.ensures

pub returns-clause-same : goal.returns-clause-same
returns-clause-same c = if_ok c.with_locked-in-None.result (λ v e. ordered [] (package_ids c.args.plain.now.packages) c.deref-in-None.result.now c.in_ok-ids.ids.items v.items e
    c.deref-in-None.ensures.value c.in_ok-ids.ensures.same) c.with_locked-in-None.ensures

pub returns-clause-locked : goal.returns-clause-locked
returns-clause-locked c = if_ok c.with_locked-in-None.result (λ v e. locked (option_map (λ (l : Bor Locked). l.now) c.args.old) [] c.deref-in-None.result.now v.items
    (λ id. ap (λ (o : Option (Bor Locked)). locked_at (option_map (λ (l : Bor Locked). l.now) o) id) (sym c.in-None.is)) e) c.with_locked-in-None.ensures
