-- Lemmas on the steps of a fetch.
use Rattle.std.proofs.Common.{◌≡◌, ℕ, List, ◌∷◌, [], ◌++◌, refl, sym, ap, ◌∙◌, subst, ◌⊎◌, inl, inr, Some, append_assoc}
use Rattle.std.specs.Prelude.{Option}
use Rattle.std.specs.List.{Contains}
use Rattle.std.proofs.lemmas.List.{append_cancel_left}
use Rattle.sha2.specs.Sha512.{sha512}
use Rattle.pn_text.specs.Path.{Path}
use Rattle.pn_text.proofs.Results.{same_some}
use Rattle.pn_fs.specs.Tree.{Tree}
use Rattle.pn_storecore.specs.declared.step.Place.{Place}
use Rattle.pn_storecore.specs.declared.step.Place.TheVariants.{Files, Listings}
use Rattle.pn_storecore.specs.declared.step.StoreStep.{StoreStep}
use Rattle.pn_storecore.specs.declared.step.StoreStep.TheVariants.{Claim, Create, Append, Shard, PublishFile, PublishListing, DropTemp, Read, Discard}
use Rattle.pn_storecore.specs.Steps.{Journal}
use Rattle.pn_storecore.specs.Seen.{Seen}
use Rattle.pn_storecore.proofs.DidLemmas.{if_told, told_if}
use Rattle.pn_store.specs.Own.{AreOwn, MadeTo, Made, IsClaimStep, IsDropOf, IsPutStep, IsNoPublish, IsShardOf, IsBeside, PublishedNone, PublishedOneTo, PublishedOne, PublishedAtMost}
use Rattle.pn_store.specs.Puts.{PutAtMost}
use Rattle.pn_store.proofs.MadeLemmas.{at_most_none, made_weaker}
use Rattle.pn_package.specs.declared.packages.Package.{Package}
use Rattle.pn_fetch.specs.Steps.{IsPlaceOf, IsFileAt, IsListingAt, IsFirstOf, IsFetchStep}

own_and : (P Q : StoreStep → Type 0) (me : ℕ) (xs : Journal) → AreOwn P me xs → AreOwn Q me xs → AreOwn (λ s. P s × Q s) me xs
own_and P Q me [] h k = tt
own_and P Q me (e ∷ es) h k = (λ mine. (h.0 mine, k.0 mine), own_and P Q me es h.1 k.1)

own_each : (P Q : StoreStep → Type 0) (me : ℕ) (xs : Journal) → ((s : StoreStep) → P s → Q s) → AreOwn P me xs → AreOwn Q me xs
own_each P Q me [] f h = tt
own_each P Q me (e ∷ es) f h = (λ mine. f e.1 (h.0 mine), own_each P Q me es f h.1)

own_joined : (P : StoreStep → Type 0) (me : ℕ) (xs ys : Journal) → AreOwn P me xs → AreOwn P me ys → AreOwn P me (xs ++ ys)
own_joined P me [] ys h k = k
own_joined P me (e ∷ xs) ys h k = (h.0, own_joined P me xs ys h.1 k)

-- what is so of each step in two ways
made_and : (P Q : StoreStep → Type 0) (old new : Seen) → Made P old new → Made Q old new → Made (λ s. P s × Q s) old new
made_and P Q old new h k = record {
  kept = h.kept;
  journal = if_told (λ j. MadeTo (λ s. P s × Q s) old.me j new.journal) old.journal (λ x is.
      let one = told_if (λ j. MadeTo P old.me j new.journal) old.journal x is h.journal in
      let two = told_if (λ j. MadeTo Q old.me j new.journal) old.journal x is k.journal in
      let same : one.steps ≡ two.steps = append_cancel_left x one.steps two.steps (same_some (x ++ one.steps) (x ++ two.steps) (sym one.came ∙ two.came)) in
      record { steps = one.steps; own = own_and P Q old.me one.steps one.own (subst (AreOwn Q old.me) (sym same) two.own); came = one.came });
}

-- of steps of which at most one moves something to an address
at_most_made : (P : StoreStep → Type 0) (own : StoreStep) (old new : Seen) → ((s : StoreStep) → IsBeside own s → P s) → P own → PublishedAtMost own old new → Made P old new
at_most_made P own old new none such h = record {
  kept = h.kept;
  journal = if_told (λ j. MadeTo P old.me j new.journal) old.journal (λ x is.
      elim (told_if (λ j. MadeTo (IsBeside own) old.me j new.journal ⊎ PublishedOneTo own old.me j new.journal) old.journal x is h.journal) [
        | inl n ↦ record { steps = n.steps; own = own_each (IsBeside own) P old.me n.steps none n.own; came = n.came }
        | inr o ↦ record {
          steps = o.front ++ (old.me, own) ∷ o.back;
          own = own_joined P old.me o.front ((old.me, own) ∷ o.back) (own_each (IsBeside own) P old.me o.front none o.before) (λ mine. such, own_each (IsBeside own) P old.me o.back none o.behind);
          came = o.came ∙ ap Some (append_assoc x o.front ((old.me, own) ∷ o.back));
        }
      ]);
}

pub one_at_most : (own : StoreStep) (old new : Seen) → PublishedOne own old new → PublishedAtMost own old new
one_at_most own old new h = record {
  kept = h.kept;
  journal = if_told (λ j. MadeTo (IsBeside own) old.me j new.journal ⊎ PublishedOneTo own old.me j new.journal) old.journal (λ x is. inr (told_if (λ j. PublishedOneTo own old.me j new.journal) old.journal x is h.journal));
}

-- the step moves to an address nothing but what it may
IsMove : Option Tree → List Package → StoreStep → Type 0
IsMove r ps (PublishFile k n at) = IsFileAt r ps at
IsMove r ps (PublishListing k n at) = IsListingAt r ps at
IsMove r ps (Claim k) = Unit {0}
IsMove r ps (Create k n) = Unit {0}
IsMove r ps (Append k n more) = Unit {0}
IsMove r ps (Shard place first) = IsFirstOf r ps place first
IsMove r ps (DropTemp k n) = Unit {0}
IsMove r ps Read = Unit {0}
IsMove r ps (Discard taken) = Unit {0}

none_moves : (r : Option Tree) (ps : List Package) (s : StoreStep) → IsNoPublish s → IsMove r ps s
unfolding IsMove
none_moves r ps (PublishFile k n at) h = absurd h
none_moves r ps (PublishListing k n at) h = absurd h
none_moves r ps (Claim k) h = tt
none_moves r ps (Create k n) h = tt
none_moves r ps (Append k n more) h = tt
none_moves r ps (Shard place first) h = absurd h
none_moves r ps (DropTemp k n) h = tt
none_moves r ps Read h = tt
none_moves r ps (Discard taken) h = tt

shard_moves : (r : Option Tree) (ps : List Package) (own s : StoreStep) → IsMove r ps own → IsShardOf own s → IsMove r ps s
unfolding IsMove
shard_moves r ps (PublishFile k n at) s such is = subst (IsMove r ps) (sym is) (at, such, refl)
shard_moves r ps (PublishListing k n at) s such is = subst (IsMove r ps) (sym is) (at, such, refl)
shard_moves r ps own s such is = absurd is

beside_moves : (r : Option Tree) (ps : List Package) (own s : StoreStep) → IsMove r ps own → IsBeside own s → IsMove r ps s
beside_moves r ps own s such h = elim h [ inl none ↦ none_moves r ps s none | inr shard ↦ shard_moves r ps own s such shard ]

put_step : (r : Option Tree) (ps : List Package) (k : ℕ) (s : StoreStep) → IsPutStep k s × IsMove r ps s → IsFetchStep r ps s
unfolding IsMove
put_step r ps k (Claim q) h = tt
put_step r ps k (Create q n) h = h.0.1
put_step r ps k (Append q n more) h = h.0.1
put_step r ps k (Shard place first) h = h.1
put_step r ps k (PublishFile q n at) h = (h.0.1, h.1)
put_step r ps k (PublishListing q n at) h = (h.0.1, h.1)
put_step r ps k (DropTemp q n) h = tt
put_step r ps k Read h = tt
put_step r ps k (Discard taken) h = absurd h.0

put_made : (r : Option Tree) (ps : List Package) (k : ℕ) (own : StoreStep) (old new : Seen) → IsMove r ps own → Made (IsPutStep k) old new → PublishedAtMost own old new → Made (IsFetchStep r ps) old new
put_made r ps k own old new such puts h =
    made_weaker (λ s. IsPutStep k s × IsMove r ps s) (IsFetchStep r ps) old new (put_step r ps k)
    (made_and (IsPutStep k) (IsMove r ps) old new puts (at_most_made (IsMove r ps) own old new (λ s beside. beside_moves r ps own s such beside) such h))

-- a put of a file of one of the packages
pub file_made : (r : Option Tree) (ps : List Package) (k : ℕ) (at : List ℕ) (old new : Seen) → IsFileAt r ps at → Made (IsPutStep k) old new → PublishedAtMost (PublishFile k 0 at) old new → Made (IsFetchStep r ps) old new
unfolding IsMove
file_made r ps k at old new such puts h = put_made r ps k (PublishFile k 0 at) old new such puts h

pub listing_made : (r : Option Tree) (ps : List Package) (k : ℕ) (at : List ℕ) (old new : Seen) → IsListingAt r ps at → Made (IsPutStep k) old new → PublishedAtMost (PublishListing k 0 at) old new → Made (IsFetchStep r ps) old new
unfolding IsMove
listing_made r ps k at old new such puts h = put_made r ps k (PublishListing k 0 at) old new such puts h

-- calls that moved nothing to an address
pub none_made : (r : Option Tree) (ps : List Package) (k : ℕ) (old new : Seen) → Made (IsPutStep k) old new → PublishedNone old new → Made (IsFetchStep r ps) old new
unfolding IsMove
none_made r ps k old new puts h = put_made r ps k Read old new tt puts (at_most_none Read old new h)

-- a put of a file that was refused
pub refused_made : (r : Option Tree) (ps : List Package) (k : ℕ) (q : Path) (old new : Seen) → IsPlaceOf ps q → Made (IsPutStep k) old new → PutAtMost r q k old new → Made (IsFetchStep r ps) old new
refused_made r ps k q old new place puts h = elim h [
  | inl none ↦ none_made r ps k old new puts none
  | inr some ↦ file_made r ps k (sha512 some.0) old new (q, place, (some.0, some.1, refl)) puts some.2
]

claim_step : (r : Option Tree) (ps : List Package) (s : StoreStep) → IsClaimStep s → IsFetchStep r ps s
claim_step r ps (Claim k) h = tt
claim_step r ps s h = absurd h

drop_step : (r : Option Tree) (ps : List Package) (k : ℕ) (s : StoreStep) → IsDropOf k s → IsFetchStep r ps s
drop_step r ps k (DropTemp q n) h = tt
drop_step r ps k s h = absurd h

-- claims, and drops of a number
pub claims_made : (r : Option Tree) (ps : List Package) (old new : Seen) → Made IsClaimStep old new → Made (IsFetchStep r ps) old new
claims_made r ps old new h = made_weaker IsClaimStep (IsFetchStep r ps) old new (claim_step r ps) h

pub drops_made : (r : Option Tree) (ps : List Package) (k : ℕ) (old new : Seen) → Made (IsDropOf k) old new → Made (IsFetchStep r ps) old new
drops_made r ps k old new h = made_weaker (IsDropOf k) (IsFetchStep r ps) old new (drop_step r ps k) h

pub place_wider : (ps qs : List Package) → ((p : Package) → Contains ps p → Contains qs p) → (q : Path) → IsPlaceOf ps q → IsPlaceOf qs q
place_wider ps qs more q h = (h.0, more h.0 h.1, h.2)

first_wider : (r : Option Tree) (ps qs : List Package) → ((p : Package) → Contains ps p → Contains qs p) → (place : Place) (first : ℕ) → IsFirstOf r ps place first → IsFirstOf r qs place first
first_wider r ps qs more Files first h = (h.0, (h.1.0, place_wider ps qs more h.1.0 h.1.1, h.1.2), h.2)
first_wider r ps qs more Listings first h = (h.0, (h.1.0, more h.1.0 h.1.1, h.1.2), h.2)

step_wider : (r : Option Tree) (ps qs : List Package) → ((p : Package) → Contains ps p → Contains qs p) → (s : StoreStep) → IsFetchStep r ps s → IsFetchStep r qs s
step_wider r ps qs more (Claim k) h = tt
step_wider r ps qs more (Create k n) h = h
step_wider r ps qs more (Append k n bytes) h = h
step_wider r ps qs more (Shard place first) h = first_wider r ps qs more place first h
step_wider r ps qs more (PublishFile k n at) h = (h.0, (h.1.0, place_wider ps qs more h.1.0 h.1.1, h.1.2))
step_wider r ps qs more (PublishListing k n at) h = (h.0, (h.1.0, more h.1.0 h.1.1, h.1.2))
step_wider r ps qs more (DropTemp k n) h = tt
step_wider r ps qs more Read h = tt
step_wider r ps qs more (Discard taken) h = absurd h

-- steps for some packages are steps for more
pub made_wider : (r : Option Tree) (ps qs : List Package) → ((p : Package) → Contains ps p → Contains qs p) → (old new : Seen) → Made (IsFetchStep r ps) old new → Made (IsFetchStep r qs) old new
made_wider r ps qs more old new h = made_weaker (IsFetchStep r ps) (IsFetchStep r qs) old new (step_wider r ps qs more) h
