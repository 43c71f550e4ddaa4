-- What is known of calls beside which no other installer made a step.
use Rattle.std.proofs.Common.{◌≡◌, ℕ, List, [], ◌∷◌, ◌++◌, refl, sym, ap, ◌∙◌, subst, append-nil, append_assoc, ◌⊎◌, inl, inr, Some, None, Ok, Err}
use Rattle.std.specs.Prelude.{Option, Result, IfOk, OnOk, IfSome}
use Rattle.std.specs.List.{AllByRecursion}
use Rattle.std.specs.Option.{ForSome}
use Rattle.std.proofs.lemmas.List.{append_cancel_left}
use Rattle.pn_text.specs.declared.fault.DevFault.{DevFault}
use Rattle.pn_digest.specs.Listing.{Names}
use Rattle.pn_storecore.specs.declared.step.Discard.{Discard}
use Rattle.pn_storecore.specs.declared.step.Discard.TheVariants as what
use Rattle.pn_storecore.specs.declared.step.StoreStep.{StoreStep}
use Rattle.pn_storecore.specs.declared.step.StoreStep.TheVariants as step
use Rattle.pn_storecore.specs.World.{World, objects}
use Rattle.pn_storecore.specs.Steps.{Event, Journal, after, world_after, world_of, discarded}
use Rattle.pn_storecore.specs.Lawful.{AreOthers}
use Rattle.pn_storecore.specs.Sound.{IsSound}
use Rattle.pn_storecore.specs.Seen.{Seen, Keeps}
use Rattle.pn_storecore.specs.Calls.{Grows, Answers, Does, IsRead, AreAddresses, AreNumbersOf}
use Rattle.pn_storecore.specs.Held.{IsSoundStore}
use Rattle.pn_storecore.specs.Grew.{DidTo, Did}
use Rattle.pn_storecore.specs.DiscardLaws.{IsUnnamed, OwnTo, IsUndisturbed, ExtendedTo, Extended, IsWorld, AloneLaw}
use Rattle.pn_storecore.proofs.UpdateLemmas.{at_address}
use Rattle.pn_storecore.proofs.IsSoundLemmas.{emptied_at, sound_steps}
use Rattle.pn_storecore.proofs.GrowsLemmas.{Grown, before, world_now, grown}
use Rattle.pn_storecore.proofs.HoldsLemmas.{told_once, by_told, untold}
use Rattle.pn_storecore.proofs.DidLemmas.{if_told, told_if, told_part}
use Rattle.pn_storecore.proofs.GrewLemmas.{keeps_none, keeps_both}

abbrev AreMine : ℕ → Journal → Type 0
AreMine me steps = AllByRecursion (λ (e : Event). e.0 ≡ me) steps

mine_front : (me : ℕ) (xs ys : Journal) → AreMine me (xs ++ ys) → AreMine me xs
mine_front me [] ys h = tt
mine_front me (e ∷ xs) ys h = (h.0, mine_front me xs ys h.1)

mine_back : (me : ℕ) (xs ys : Journal) → AreMine me (xs ++ ys) → AreMine me ys
mine_back me [] ys h = h
mine_back me (e ∷ xs) ys h = mine_back me xs ys h.1

none_both : (me : ℕ) (xs : Journal) → AreOthers me xs → AreMine me xs → xs ≡ []
none_both me [] others mine = refl
none_both me (e ∷ xs) others mine = absurd (others.0 mine.0)

-- the steps behind, where they are told twice
same_behind : (new : Option Journal) (j xs ys : Journal) → new ≡ Some (j ++ xs) → new ≡ Some (j ++ ys) → xs ≡ ys
same_behind new j xs ys one two =
    let same : j ++ xs ≡ j ++ ys = cc (one, two) in
    append_cancel_left j xs ys same

none_before : (me : ℕ) (j others mine : Journal) (new : Option Journal) → AreOthers me others → OwnTo me j new → new ≡ Some (j ++ others ++ mine) → others ≡ []
none_before me j others mine new theirs own came =
    none_both me others theirs
    (mine_front me others mine (subst (AreMine me) (same_behind new j own.steps (others ++ mine) own.came (came ∙ ap Some (append_assoc j others mine))) own.mine))

none_if : (P : Journal → Type 0) (o : Option Journal) → o ≡ None → IfSome o P
none_if P o is = if_told P o (λ x told. let clash : None ≡ Some x = sym is ∙ told in cc)

parts_told : (a b c : Seen) (x : Journal) → a.journal ≡ Some x → Extended a b → Extended b c → OwnTo a.me x c.journal → IsUndisturbed a b × IsUndisturbed b c
parts_told a b c x is first second own =
    let one = told_if (λ j. ExtendedTo j b.journal) a.journal x is first.journal in
    let two = told_if (λ j. ExtendedTo j c.journal) b.journal (x ++ one.steps) one.came second.journal in
    let all : AreMine a.me (one.steps ++ two.steps) = subst (AreMine a.me) (same_behind c.journal x own.steps (one.steps ++ two.steps) own.came (two.came ∙ ap Some (append_assoc x one.steps two.steps))) own.mine in (
      if_told (λ j. OwnTo a.me j b.journal) a.journal (λ j told.
          let same : x ≡ j = cc (is, told) in
          subst (λ y. OwnTo a.me y b.journal) same (record { steps = one.steps; mine = mine_front a.me one.steps two.steps all; came = one.came })),
      if_told (λ j. OwnTo b.me j c.journal) b.journal (λ j told.
          let same : x ++ one.steps ≡ j = cc (one.came, told) in
          let back : AreMine b.me two.steps = subst (λ me. AreMine me two.steps) (sym first.kept.me) (mine_back a.me one.steps two.steps all) in
          subst (λ y. OwnTo b.me y c.journal) same (record { steps = two.steps; mine = back; came = two.came })),
    )

parts_alone : (a b c : Seen) → Extended a b → Extended b c → IsUndisturbed a c → IsUndisturbed a b × IsUndisturbed b c
parts_alone a b c first second h = elim a.journal as (λ o. a.journal ≡ o → IfSome o (λ j. OwnTo a.me j c.journal) → IsUndisturbed a b × IsUndisturbed b c) [
  | None ↦ λ is own. (none_if (λ j. OwnTo a.me j b.journal) a.journal is, none_if (λ j. OwnTo b.me j c.journal) b.journal (first.kept.untold is))
  | Some x ↦ λ is own. parts_told a b c x is first second own
] refl h

extended_none : (s : Seen) → Extended s s
extended_none s = record { kept = keeps_none s; journal = if_told (λ j. ExtendedTo j s.journal) s.journal (λ x is. record { steps = []; came = is ∙ ap Some (sym (append-nil x)) }) }

extended_both : (a b c : Seen) → Extended a b → Extended b c → Extended a c
extended_both a b c first second = record {
  kept = keeps_both a b c first.kept second.kept;
  journal = if_told (λ j. ExtendedTo j c.journal) a.journal (λ x is.
      let one = told_if (λ j. ExtendedTo j b.journal) a.journal x is first.journal in
      let two = told_if (λ j. ExtendedTo j c.journal) b.journal (x ++ one.steps) one.came second.journal in
      record { steps = one.steps ++ two.steps; came = two.came ∙ ap Some (append_assoc x one.steps two.steps) });
}

extended_to : (me : ℕ) (own : StoreStep) (j : Journal) (new : Option Journal) → DidTo me own j new → ExtendedTo j new
extended_to me own j new d = elim d.came [
  | inl none ↦ record { steps = d.others; came = none }
  | inr p ↦ record { steps = d.others ++ (me, p.0) ∷ []; came = p.2 ∙ ap Some (append_assoc j d.others ((me, p.0) ∷ [])) }
]

extended_call : (old new : Seen) (own : StoreStep) → Did own old new → Extended old new
extended_call old new own d = record {
  kept = d.kept;
  journal = if_told (λ j. ExtendedTo j new.journal) old.journal (λ j is. extended_to old.me own j new.journal (told_if (λ j. DidTo old.me own j new.journal) old.journal j is d.journal));
}

-- the world at which a call's own step comes is the one at its entry
alone_before : (old new : Seen) (x mine : Journal) (w : World) (g : Grown old new x mine) → new.journal ≡ Some x → IsUndisturbed old new → IsWorld old w → before old new x mine g ≡ w
alone_before old new x mine w g told alone is =
    let own = told_if (λ j. OwnTo old.me j new.journal) old.journal g.was g.told alone in
    ap (λ (ys : Journal). world_after (world_of g.was) ys) (none_before old.me g.was g.others mine new.journal g.theirs own (told ∙ ap Some g.came)) ∙ is g.was g.told

discard_alone : (old new : Seen) (taken : Discard) (w : World) (r : Result (Unit {0}) DevFault) → Keeps old new → Does old (step.Discard taken) new r → IsUndisturbed old new → IsWorld old w → OnOk r (IsWorld new (discarded taken w))
discard_alone old new taken w (Err e) kept h alone is = tt
discard_alone old new taken w (Ok v) kept h alone is = λ x told.
    let s = step.Discard taken in
    let g = (grown v (λ made. made ≡ s) (λ w answer. Unit {0}) old new s x kept h told).0 in
    let mine = (old.me, s) ∷ [] in
    world_now old new x mine g ∙ ap (discarded taken) (alone_before old new x mine w g told alone is)

-- a call makes its step on the world at its entry, or none
made_alone : (old new : Seen) (own made : StoreStep) (x : Journal) (w : World) → made ≡ own → (g : Grown old new x ((old.me, made) ∷ [])) → new.journal ≡ Some x → IsUndisturbed old new → IsWorld old w → world_of x ≡ after old.me own w
made_alone old new own made x w same g told alone is =
    let mine = (old.me, made) ∷ [] in
    world_now old new x mine g ∙ ap (λ s. after old.me s (before old new x mine g)) same ∙ ap (after old.me own) (alone_before old new x mine w g told alone is)

refused_alone : (old new : Seen) (taken : Discard) (w : World) → Did (step.Discard taken) old new → IsUndisturbed old new → IsWorld old w → IsWorld new w ⊎ IsWorld new (discarded taken w)
refused_alone old new taken w called alone is = by_told (IsWorld new w ⊎ IsWorld new (discarded taken w)) new
    (λ none. inl (untold (λ j. world_of j ≡ w) new.journal none))
    (λ y told. elim (told_part (step.Discard taken) old new y called told) [
      | inl g ↦ inl (told_once (λ j. world_of j ≡ w) new.journal y told (world_now old new y [] g ∙ alone_before old new y [] w g told alone is))
      | inr p ↦ inr (told_once (λ j. world_of j ≡ discarded taken w) new.journal y told (made_alone old new (step.Discard taken) p.0 y w p.1 p.2 told alone is))
    ])

same_alone : (old new : Seen) (w : World) → Did step.Read old new → IsUndisturbed old new → IsWorld old w → IsWorld new w
same_alone old new w called alone is x told = elim (told_part step.Read old new x called told) [
  | inl g ↦ world_now old new x [] g ∙ alone_before old new x [] w g told alone is
  | inr p ↦ made_alone old new step.Read p.0 x w p.1 p.2 told alone is
]

-- what a read answers is by the world at its entry
answer_alone : {T : Type 0} (v : T) (old new : Seen) (Answer : World → T → Type 0) → IsUndisturbed old new → Answers old step.Read new (Ok v) Answer → ForSome old.journal (λ j. Answer (world_of j) v)
answer_alone {T} v old new Answer alone h j told =
    let g = told_if (λ j. Grows old.me j step.Read (λ made. made ≡ step.Read) Answer new.journal (Ok v)) old.journal j told h in
    let own = told_if (λ j. OwnTo old.me j new.journal) old.journal j told alone in
    subst (λ (ys : Journal). Answer (world_after (world_of j) ys) v) (none_before old.me j g.others ((old.me, step.Read) ∷ []) new.journal g.theirs own g.ok.0) g.ok.1

answers_alone : {T : Type 0} (r : Result T DevFault) (old new : Seen) (Answer : World → T → Type 0) → IsUndisturbed old new → Answers old step.Read new r Answer → IfOk r (λ v. ForSome old.journal (λ j. Answer (world_of j) v))
answers_alone (Ok v) old new Answer alone h = answer_alone v old new Answer alone h
answers_alone (Err e) old new Answer alone h = tt

file_sound : (w : World) (at : List ℕ) → IsUnnamed at w → IsSound w → IsSound (discarded (what.File at) w)
file_sound w at unnamed sound = record {
  files = λ q bytes e. sound.files q bytes (emptied_at w.files.bytes at q bytes e);
  listings = λ q bytes e.
      let l = sound.listings q bytes e in
      record {
        addressed = l.addressed;
        whole = record {
          text = l.whole.text;
          named = λ file names. elim (at_address w.files.bytes at None file) [
            | inl here ↦ absurd (unnamed q bytes e (subst (Names bytes) (sym here.0) names))
            | inr other ↦ λ none. l.whole.named file names (sym other.1 ∙ none)
          ];
        };
      };
  owners = λ q a b p r. cc (p, r);
}

pub sound_file : (old new : Seen) (at : List ℕ) → Did (step.Discard (what.File at)) old new → IsUndisturbed old new → ForSome old.journal (λ j. IsUnnamed at (world_of j)) → IsSoundStore old → IsSoundStore new
sound_file old new at called alone unnamed sound x told = elim (told_part (step.Discard (what.File at)) old new x called told) [
  | inl g ↦ subst IsSound (sym (world_now old new x [] g)) (sound_steps (world_of g.was) g.others (sound g.was g.told) g.lawful)
  | inr p ↦
      let was = p.2.was in
      let entry : IsWorld old (world_of was) = λ j is. let same : j ≡ was = cc (is, p.2.told) in ap world_of same in
      subst IsSound (sym (made_alone old new (step.Discard (what.File at)) p.0 x (world_of was) p.1 p.2 told alone entry))
      (file_sound (world_of was) at (unnamed was p.2.told) (sound was p.2.told))
]

pub alone : AloneLaw
alone = record {
  none = extended_none;
  both = extended_both;
  call = extended_call;
  parts = parts_alone;
  changes = discard_alone;
  refused = refused_alone;
  same = same_alone;
  read = λ old new place at from into r kept h undisturbed. answers_alone r old new (λ w found. IsRead ((objects w place).bytes at) from into found) undisturbed h;
  list = λ old new place r kept h undisturbed. answers_alone r old new (λ w all. AreAddresses (objects w place) all.items) undisturbed h;
  numbers = λ old new r kept h undisturbed. answers_alone r old new (λ w all. AreNumbersOf w.temps all.items) undisturbed h;
}
