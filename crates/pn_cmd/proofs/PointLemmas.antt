-- Lemmas on points that follow one another.
use Rattle.std.proofs.Common.{◌≡◌, refl, subst, inl, inr, Option}
use Rattle.pn_text.specs.Causes.{Rose}
use Rattle.pn_fs.specs.Seen.{Seen, Taken, Keeps}
use Rattle.pn_fs.specs.Tree.{Tree}
use Rattle.pn_fs.proofs.SeenLemmas.{keeps_same, rose_from}
use Rattle.pn_storecore.specs.Seen.{Seen as Stored}
use Rattle.pn_store.specs.declared.number.TheConstants.{NUMBERS}
use Rattle.pn_store.specs.Claims.{AreTaken}
use Rattle.pn_repair.specs.RepairFaults.{IsWrongFile}
use Rattle.pn_status.specs.declared.status.IntegrityWhy.TheVariants.{Stored as of_store}
use Rattle.pn_status.specs.declared.status.Which.TheVariants.{Numbers}
use Rattle.pn_status.specs.declared.status.Status.{Status}
use Rattle.pn_status.specs.declared.status.Status.TheVariants.{Memory, Integrity, Limit, DigestClash, ProjectFault, StoreFault, RegistryFault, SinkFault}
use Rattle.pn_cmd.specs.World.{World, Shown, AreKept, world, trees_of, shown}
use Rattle.pn_cmd.specs.Points.{Clashed, Point, Refuses, then}

same_trees : (old mid : World) → AreKept old mid → trees_of mid ≡ trees_of old
same_trees old mid k = λ i. record { project = k.project.tree i; registry = k.registry.tree i }

same_shown : (old mid : World) → AreKept old mid → shown mid ≡ shown old
same_shown old mid k = λ i. record { trees = same_trees old mid k i }

-- a refusal after calls that only read is one from before them
pub refuses_from : (C D : Shown → Status → Type 0) (old mid new : World) (s : Status) → AreKept old mid → ((s : Status) → C (shown old) s → D (shown old) s) → Refuses C mid new s → Refuses D old new s
refuses_from C D old mid new Memory k f h = tt
refuses_from C D old mid new ProjectFault k f h = (rose_from old.project.faults mid.project.faults new.project.faults k.project.later h.0, f ProjectFault (subst (λ w. C w ProjectFault) (same_shown old mid k) h.1))
refuses_from C D old mid new StoreFault k f h = (subst (λ (t : Stored). Rose t.faults new.store.faults) k.store h.0, f StoreFault (subst (λ w. C w StoreFault) (same_shown old mid k) h.1))
refuses_from C D old mid new (Integrity (of_store at found)) k f h = (subst (λ (t : Stored). IsWrongFile at found t new.store) k.store h.0, f (Integrity (of_store at found)) (subst (λ w. C w (Integrity (of_store at found))) (same_shown old mid k) h.1))
refuses_from C D old mid new (DigestClash at) k f h = (
  subst (λ (r : Option Tree). Clashed r at old.store new.store) k.registry.tree (subst (λ (t : Stored). Clashed mid.registry.tree at t new.store) k.store h.0),
  f (DigestClash at) (subst (λ w. C w (DigestClash at)) (same_shown old mid k) h.1),
)
refuses_from C D old mid new (Limit Numbers n) k f h = (subst (λ (t : Stored). AreTaken NUMBERS t new.store) k.store h.0, f (Limit Numbers n) (subst (λ w. C w (Limit Numbers n)) (same_shown old mid k) h.1))
refuses_from C D old mid new RegistryFault k f h = (rose_from old.registry.faults mid.registry.faults new.registry.faults k.registry.later h.0, f RegistryFault (subst (λ w. C w RegistryFault) (same_shown old mid k) h.1))
refuses_from C D old mid new SinkFault k f h = (subst (λ (t : Taken). Rose t.faults new.out.faults) k.out h.0, f SinkFault (subst (λ w. C w SinkFault) (same_shown old mid k) h.1))
refuses_from C D old mid new s k f h = f s (subst (λ w. C w s) (same_shown old mid k) h)

-- calls of the two trees
pub kept : (a b c d : Seen) (store : Stored) (out : Taken) → Keeps a b → Keeps c d → AreKept (world a c store out) (world b d store out)
kept a b c d store out h k = record { project = h; registry = k; store = refl; out = refl }

pub kept_none : (w : World) → AreKept w w
kept_none w = record { project = keeps_same w.project; registry = keeps_same w.registry; store = refl; out = refl }

-- the first point refuses
pub first_refuses : {X Y Z : Type 0} (p : Point X Y) (q : Point Y Z) (x : X) (old new : World) (s : Status) → Refuses (p.Cause x) old new s → Refuses ((then p q).Cause x) old new s
first_refuses p q x old new s h = refuses_from (p.Cause x) ((then p q).Cause x) old old new s (kept_none old) (λ s h. inl h) h

-- it is passed, and the second one refuses
pub second_refuses : {X Y Z : Type 0} (p : Point X Y) (q : Point Y Z) (x : X) (y : Y) (old mid new : World) (s : Status) → AreKept old mid → p.Finds x (trees_of old) y → Refuses (q.Cause y) mid new s → Refuses ((then p q).Cause x) old new s
second_refuses p q x y old mid new s k f h = refuses_from (q.Cause y) ((then p q).Cause x) old mid new s k (λ s h. inr (y, f, h)) h

-- both are passed
pub both_find : {X Y Z : Type 0} (p : Point X Y) (q : Point Y Z) (x : X) (y : Y) (z : Z) (old mid : World) → AreKept old mid → p.Finds x (trees_of old) y → q.Finds y (trees_of mid) z → (then p q).Finds x (trees_of old) z
both_find p q x y z old mid k f h = record { value = y; first = f; rest = subst (λ t. q.Finds y t z) (same_trees old mid k) h }

-- what follows from the causes of either
pub leads_then : {X Y Z : Type 0} {C : Type 0} (p : Point X Y) (q : Point Y Z) (x : X) (w : Shown) (s : Status) → (p.Cause x w s → C) → ((y : Y) → p.Finds x w.trees y → q.Cause y w s → C) → (then p q).Cause x w s → C
leads_then p q x w s f g (inl c) = f c
leads_then p q x w s f g (inr c) = g c.0 c.1 c.2
