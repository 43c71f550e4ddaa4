-- Lemmas on points that answer alike.
use Rattle.std.proofs.Common.{◌≡◌, sym, subst, inl, inr}
use Rattle.pn_status.specs.declared.status.IntegrityWhy.TheVariants.{Stored as of_store}
use Rattle.pn_status.specs.declared.status.Which.TheVariants.{Numbers}
use Rattle.pn_status.specs.declared.status.Status.{Status}
use Rattle.pn_status.specs.declared.status.Status.TheVariants.{Memory, Integrity, Limit, DigestClash, ProjectFault, StoreFault, RegistryFault, SinkFault}
use Rattle.pn_cmd.specs.World.{Shown}
use Rattle.pn_cmd.specs.Points.{Point, then, step, IsFree}
use Rattle.pn_cmd.specs.Laws.{IsOwn}

-- From what is alike a point finds what is alike, or refuses for one cause, and never both.
pub record IsSettled {X Y : Type 0} (w : Shown) (R : X → X → Type 0) (S : Y → Y → Type 0) (p : Point X Y) : Type 0 where
  pub finds : (x z : X) (y v : Y) → R x z → p.Finds x w.trees y → p.Finds z w.trees v → S y v
  pub apart : (x z : X) (y : Y) (s : Status) → R x z → p.Finds x w.trees y → p.Cause z w s → IsFree s
  pub other : (x z : X) (y : Y) (s : Status) → R x z → p.Cause x w s → p.Finds z w.trees y → IsFree s
  pub cause : (x z : X) (s v : Status) → R x z → p.Cause x w s → p.Cause z w v → IsOwn s → IsOwn v → s ≡ v

pub own_free : {C : Type 0} (s : Status) → IsOwn s → IsFree s → C
own_free Memory o f = absurd o
own_free ProjectFault o f = absurd o
own_free StoreFault o f = absurd o
own_free (Integrity (of_store at found)) o f = absurd o
own_free (DigestClash at) o f = absurd o
own_free (Limit Numbers n) o f = absurd o
own_free RegistryFault o f = absurd o
own_free SinkFault o f = absurd o
own_free s o f = absurd f

pub then_settled : {X Y Z : Type 0} (w : Shown) (R : X → X → Type 0) (S : Y → Y → Type 0) (T : Z → Z → Type 0) (p : Point X Y) (q : Point Y Z) → IsSettled w R S p → IsSettled w S T q → IsSettled w R T (then p q)
then_settled w R S T p q a b = record {
  finds = λ x z y v r f g. b.finds f.value g.value y v (a.finds x z f.value g.value r f.first g.first) f.rest g.rest;
  apart = λ x z y s r f c. apart x z y s r f c;
  other = λ x z y s r c f. other x z y s r c f;
  cause = λ x z s v r c d. cause x z s v r c d;
}
  where
    apart : (x z : _) (y : _) (s : Status) → R x z → (then p q).Finds x w.trees y → (then p q).Cause z w s → IsFree s
    apart x z y s r f (inl c) = a.apart x z f.value s r f.first c
    apart x z y s r f (inr c) = b.apart f.value c.0 y s (a.finds x z f.value c.0 r f.first c.1) f.rest c.2

    other : (x z : _) (y : _) (s : Status) → R x z → (then p q).Cause x w s → (then p q).Finds z w.trees y → IsFree s
    other x z y s r (inl c) f = a.other x z f.value s r c f.first
    other x z y s r (inr c) f = b.other c.0 f.value y s (a.finds x z c.0 f.value r c.1 f.first) c.2 f.rest

    cause : (x z : _) (s v : Status) → R x z → (then p q).Cause x w s → (then p q).Cause z w v → IsOwn s → IsOwn v → s ≡ v
    cause x z s v r (inl c) (inl d) o u = a.cause x z s v r c d o u
    cause x z s v r (inl c) (inr d) o u = own_free s o (a.other x z d.0 s r c d.1)
    cause x z s v r (inr c) (inl d) o u = own_free v u (a.apart x z c.0 v r c.1 d)
    cause x z s v r (inr c) (inr d) o u = b.cause c.0 d.0 s v (a.finds x z c.0 d.0 r c.1 d.1) c.2 d.2 o u

-- a point that asks for a part of what is known
pub step_settled : {A X Y Z : Type 0} (w : Shown) (Q : A → A → Type 0) (P : Y → Y → Type 0) (R : X → X → Type 0) (S : Z → Z → Type 0) (ask : X → A) (add : X → Y → Z) (p : Point A Y) → IsSettled w Q P p
    → ((x z : X) → R x z → Q (ask x) (ask z)) → ((x z : X) (y v : Y) → R x z → p.Finds (ask x) w.trees y → p.Finds (ask z) w.trees v → P y v → S (add x y) (add z v)) → IsSettled w R S (step ask add p)
step_settled w Q P R S ask add p a f g = record {
  finds = λ x z y v r k l. subst (λ m. S m v) (sym k.is) (subst (S (add x k.value)) (sym l.is) (g x z k.value l.value r k.found l.found (a.finds (ask x) (ask z) k.value l.value (f x z r) k.found l.found)));
  apart = λ x z y s r k c. a.apart (ask x) (ask z) k.value s (f x z r) k.found c;
  other = λ x z y s r c k. a.other (ask x) (ask z) k.value s (f x z r) c k.found;
  cause = λ x z s v r c d. a.cause (ask x) (ask z) s v (f x z r) c d;
}

-- a point that is settled of each single thing that it is asked
pub plain_settled : {X Y : Type 0} (w : Shown) (S : Y → Y → Type 0) (p : Point X Y) → ((x : X) (y v : Y) → p.Finds x w.trees y → p.Finds x w.trees v → S y v) → ((x : X) (y : Y) (s : Status) → p.Finds x w.trees y → p.Cause x w s → IsFree s)
    → ((x : X) (s v : Status) → p.Cause x w s → p.Cause x w v → IsOwn s → IsOwn v → s ≡ v) → IsSettled w (λ (x z : X). x ≡ z) S p
plain_settled w S p f a c = record {
  finds = λ x z y v e k l. f x y v k (subst (λ m. p.Finds m w.trees v) (sym e) l);
  apart = λ x z y s e k l. a x y s k (subst (λ m. p.Cause m w s) (sym e) l);
  other = λ x z y s e k l. a x y s (subst (λ m. p.Finds m w.trees y) (sym e) l) k;
  cause = λ x z s v e k l. c x s v k (subst (λ m. p.Cause m w v) (sym e) l);
}
