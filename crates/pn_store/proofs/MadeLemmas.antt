-- Lemmas on an installer's own steps.
use Rattle.std.proofs.Common.{◌≡◌, ℕ, List, [], ◌∷◌, ◌++◌, sym, ap, ◌∙◌, subst, ◌⊎◌, inl, inr, Some, Ok, Err, append_assoc}
use Rattle.std.specs.Prelude.{Option, Result, OnOk}
use Rattle.std.proofs.lemmas.List.{append-nil}
use Rattle.pn_text.specs.declared.fault.DevFault.{DevFault}
use Rattle.pn_storecore.specs.declared.step.Place.TheVariants.{Files, Listings}
use Rattle.pn_storecore.specs.declared.step.StoreStep.{StoreStep}
use Rattle.pn_storecore.specs.declared.step.StoreStep.TheVariants.{Append, PublishFile, PublishListing, DropTemp, Read}
use Rattle.pn_storecore.specs.Steps.{Journal}
use Rattle.pn_storecore.specs.World.{first_byte}
use Rattle.pn_storecore.specs.Lawful.{AreOthers}
use Rattle.pn_storecore.specs.Seen.{Seen, Keeps}
use Rattle.pn_storecore.specs.Calls.{Grows, Does}
use Rattle.pn_storecore.specs.Grew.{Did, DidTo, IsPart}
use Rattle.pn_storecore.proofs.DidLemmas.{if_told, told_if, part_case}
use Rattle.pn_storecore.proofs.GrewLemmas.{keeps_none, keeps_both}
use Rattle.pn_store.specs.Own.{AreOwn, MadeTo, Made, IsReadStep, IsDropOf, IsPutStep, IsShard, IsNoPublish, IsBeside, PublishedNone, PublishedOneTo, PublishedOne, PublishedAtMost}

others_own : (P : StoreStep → Type 0) (me : ℕ) (steps : Journal) → AreOthers me steps → AreOwn P me steps
others_own P me [] h = tt
others_own P me (e ∷ es) h = (λ mine. absurd (h.0 mine), others_own P me es h.1)

own_behind : (P : StoreStep → Type 0) (me : ℕ) (xs ys : Journal) → AreOwn P me xs → AreOwn P me ys → AreOwn P me (xs ++ ys)
own_behind P me [] ys first second = second
own_behind P me (e ∷ xs) ys first second = (first.0, own_behind P me xs ys first.1 second)

own_weaker : (P Q : StoreStep → Type 0) (me : ℕ) (steps : Journal) → ((s : StoreStep) → P s → Q s) → AreOwn P me steps → AreOwn Q me steps
own_weaker P Q me [] f h = tt
own_weaker P Q me (e ∷ es) f h = (λ mine. f e.1 (h.0 mine), own_weaker P Q me es f h.1)

did_made : (P : StoreStep → Type 0) (me : ℕ) (own : StoreStep) (j : Journal) (new : Option Journal) → ((made : StoreStep) → IsPart own made → P made) → DidTo me own j new → MadeTo P me j new
did_made P me own j new such d = elim d.came [
  | inl came ↦ record { steps = d.others; own = others_own P me d.others d.theirs; came = came }
  | inr p ↦ record {
    steps = d.others ++ (me, p.0) ∷ [];
    own = own_behind P me d.others ((me, p.0) ∷ []) (others_own P me d.others d.theirs) (λ mine. such p.0 p.1, tt);
    came = p.2 ∙ ap Some (append_assoc j d.others ((me, p.0) ∷ []));
  }
]

-- a call
pub made_call : (P : StoreStep → Type 0) (old new : Seen) (own : StoreStep) → Did own old new → P own → ((k n : ℕ) (a b : List ℕ) → P (Append k n a) → P (Append k n b)) → Made P old new
made_call P old new own d such more = record {
  kept = d.kept;
  journal = if_told (λ j. MadeTo P old.me j new.journal) old.journal (λ j is.
      did_made P old.me own j new.journal (λ made part. part_case P own made part such more) (told_if (λ j. DidTo old.me own j new.journal) old.journal j is d.journal));
}

pub made_none : (P : StoreStep → Type 0) (s : Seen) → Made P s s
made_none P s = record {
  kept = keeps_none s;
  journal = if_told (λ j. MadeTo P s.me j s.journal) s.journal (λ x is. record { steps = []; own = tt; came = is ∙ ap Some (sym (append-nil x)) });
}

made_behind : (P : StoreStep → Type 0) (me who : ℕ) (x steps : Journal) (new : Option Journal) → who ≡ me → AreOwn P me steps → MadeTo P who (x ++ steps) new → MadeTo P me x new
made_behind P me who x steps new same first two = record {
  steps = steps ++ two.steps;
  own = own_behind P me steps two.steps first (subst (λ m. AreOwn P m two.steps) same two.own);
  came = two.came ∙ ap Some (append_assoc x steps two.steps);
}

pub made_both : (P : StoreStep → Type 0) (a b c : Seen) → Made P a b → Made P b c → Made P a c
made_both P a b c first second = record {
  kept = keeps_both a b c first.kept second.kept;
  journal = if_told (λ j. MadeTo P a.me j c.journal) a.journal (λ x is.
      let one = told_if (λ j. MadeTo P a.me j b.journal) a.journal x is first.journal in
      made_behind P a.me b.me x one.steps c.journal first.kept.me one.own (told_if (λ j. MadeTo P b.me j c.journal) b.journal (x ++ one.steps) one.came second.journal));
}

pub made_weaker : (P Q : StoreStep → Type 0) (old new : Seen) → ((s : StoreStep) → P s → Q s) → Made P old new → Made Q old new
made_weaker P Q old new f h = record {
  kept = h.kept;
  journal = if_told (λ j. MadeTo Q old.me j new.journal) old.journal (λ x is.
      let one = told_if (λ j. MadeTo P old.me j new.journal) old.journal x is h.journal in
      record { steps = one.steps; own = own_weaker P Q old.me one.steps f one.own; came = one.came });
}

read_puts : (k : ℕ) (s : StoreStep) → IsReadStep s → IsPutStep k s
read_puts k Read h = tt
read_puts k s h = absurd h

read_none : (s : StoreStep) → IsReadStep s → IsNoPublish s
read_none Read h = tt
read_none s h = absurd h

drop_none : (k : ℕ) (s : StoreStep) → IsDropOf k s → IsNoPublish s
drop_none k (DropTemp q n) h = tt
drop_none k s h = absurd h

-- reads are steps of a put, and publish nothing
pub reads_put : (k : ℕ) (old new : Seen) → Made IsReadStep old new → Made (IsPutStep k) old new
reads_put k old new h = made_weaker IsReadStep (IsPutStep k) old new (read_puts k) h

pub reads_publish : (old new : Seen) → Made IsReadStep old new → PublishedNone old new
reads_publish old new h = made_weaker IsReadStep IsNoPublish old new read_none h

pub drops_publish : (k : ℕ) (old new : Seen) → Made (IsDropOf k) old new → PublishedNone old new
drops_publish k old new h = made_weaker (IsDropOf k) IsNoPublish old new (drop_none k) h

pub none_both : (a b c : Seen) → PublishedNone a b → PublishedNone b c → PublishedNone a c
none_both a b c first second = made_both IsNoPublish a b c first second

others_beside : (own : StoreStep) (me : ℕ) (steps : Journal) → AreOthers me steps → AreOwn (IsBeside own) me steps
others_beside own me steps h = others_own (IsBeside own) me steps h

-- calls that make the shard folder of a file's address, or of a listing's
pub shard_file : (k : ℕ) (at : List ℕ) (old new : Seen) → Made (IsShard Files (first_byte at)) old new → Made (IsBeside (PublishFile k 0 at)) old new
shard_file k at old new h = made_weaker (IsShard Files (first_byte at)) (IsBeside (PublishFile k 0 at)) old new (λ s is. inr is) h

pub shard_listing : (k : ℕ) (at : List ℕ) (old new : Seen) → Made (IsShard Listings (first_byte at)) old new → Made (IsBeside (PublishListing k 0 at)) old new
shard_listing k at old new h = made_weaker (IsShard Listings (first_byte at)) (IsBeside (PublishListing k 0 at)) old new (λ s is. inr is) h

-- a publish that was not refused
pub one_call : (old new : Seen) (own : StoreStep) (r : Result (Unit {0}) DevFault) → Keeps old new → Does old own new r → OnOk r (PublishedOne own old new)
one_call old new own (Err e) kept h = tt
one_call old new own (Ok v) kept h = record {
  kept = kept;
  journal = if_told (λ j. PublishedOneTo own old.me j new.journal) old.journal (λ j is.
      let g = told_if (λ j. Grows old.me j own (λ made. made ≡ own) (λ w answer. Unit {0}) new.journal (Ok v)) old.journal j is h in
      record { front = g.others; back = []; before = others_beside own old.me g.others g.theirs; behind = tt; came = g.ok.0 });
}

-- a publish, whatever it answered
pub at_most_call : (old new : Seen) (own : StoreStep) → Did own old new → ((made : StoreStep) → IsPart own made → made ≡ own) → PublishedAtMost own old new
at_most_call old new own d whole = record {
  kept = d.kept;
  journal = if_told (λ j. MadeTo (IsBeside own) old.me j new.journal ⊎ PublishedOneTo own old.me j new.journal) old.journal (λ j is.
      let g = told_if (λ j. DidTo old.me own j new.journal) old.journal j is d.journal in
      elim g.came [
        | inl none ↦ inl (record { steps = g.others; own = others_beside own old.me g.others g.theirs; came = none })
        | inr p ↦ inr (record {
          front = g.others;
          back = [];
          before = others_beside own old.me g.others g.theirs;
          behind = tt;
          came = p.2 ∙ ap (λ s. Some (j ++ g.others ++ (old.me, s) ∷ [])) (whole p.0 p.1);
        })
      ]);
}

one_behind : (own : StoreStep) (me who : ℕ) (x steps : Journal) (new : Option Journal) → who ≡ me → AreOwn (IsBeside own) me steps → PublishedOneTo own who (x ++ steps) new → PublishedOneTo own me x new
one_behind own me who x steps new same first two = record {
  front = steps ++ two.front;
  back = two.back;
  before = own_behind (IsBeside own) me steps two.front first (subst (λ m. AreOwn (IsBeside own) m two.front) same two.before);
  behind = subst (λ m. AreOwn (IsBeside own) m two.back) same two.behind;
  came = two.came ∙ ap (λ (y : Journal). Some (y ++ (who, own) ∷ two.back)) (append_assoc x steps two.front) ∙ ap (λ m. Some (x ++ (steps ++ two.front) ++ (m, own) ∷ two.back)) same;
}

-- calls that publish nothing, but may make the shard folder of an address, and then one that moves something there
pub beside_one : (own : StoreStep) (a b c : Seen) → Made (IsBeside own) a b → PublishedOne own b c → PublishedOne own a c
beside_one own a b c first second = record {
  kept = keeps_both a b c first.kept second.kept;
  journal = if_told (λ j. PublishedOneTo own a.me j c.journal) a.journal (λ x is.
      let one = told_if (λ j. MadeTo (IsBeside own) a.me j b.journal) a.journal x is first.journal in
      one_behind own a.me b.me x one.steps c.journal first.kept.me one.own (told_if (λ j. PublishedOneTo own b.me j c.journal) b.journal (x ++ one.steps) one.came second.journal));
}

pub beside_at_most : (own : StoreStep) (a b c : Seen) → Made (IsBeside own) a b → PublishedAtMost own b c → PublishedAtMost own a c
beside_at_most own a b c first second = record {
  kept = keeps_both a b c first.kept second.kept;
  journal = if_told (λ j. MadeTo (IsBeside own) a.me j c.journal ⊎ PublishedOneTo own a.me j c.journal) a.journal (λ x is.
      let one = told_if (λ j. MadeTo (IsBeside own) a.me j b.journal) a.journal x is first.journal in
      elim (told_if (λ j. MadeTo (IsBeside own) b.me j c.journal ⊎ PublishedOneTo own b.me j c.journal) b.journal (x ++ one.steps) one.came second.journal) [
        | inl none ↦ inl (made_behind (IsBeside own) a.me b.me x one.steps c.journal first.kept.me one.own none)
        | inr two ↦ inr (one_behind own a.me b.me x one.steps c.journal first.kept.me one.own two)
      ]);
}

-- none is at most one
pub at_most_beside : (own : StoreStep) (old new : Seen) → Made (IsBeside own) old new → PublishedAtMost own old new
at_most_beside own old new h = record {
  kept = h.kept;
  journal = if_told (λ j. MadeTo (IsBeside own) old.me j new.journal ⊎ PublishedOneTo own old.me j new.journal) old.journal (λ x is. inl (told_if (λ j. MadeTo (IsBeside own) old.me j new.journal) old.journal x is h.journal));
}

-- the same of calls that make no shard folder either
none_beside : (own : StoreStep) (old new : Seen) → PublishedNone old new → Made (IsBeside own) old new
none_beside own old new h = made_weaker IsNoPublish (IsBeside own) old new (λ s none. inl none) h

pub none_one : (own : StoreStep) (a b c : Seen) → PublishedNone a b → PublishedOne own b c → PublishedOne own a c
none_one own a b c first second = beside_one own a b c (none_beside own a b first) second

pub none_at_most : (own : StoreStep) (a b c : Seen) → PublishedNone a b → PublishedAtMost own b c → PublishedAtMost own a c
none_at_most own a b c first second = beside_at_most own a b c (none_beside own a b first) second

pub at_most_none : (own : StoreStep) (old new : Seen) → PublishedNone old new → PublishedAtMost own old new
at_most_none own old new h = at_most_beside own old new (none_beside own old new h)
