-- What a told call did to the journal: lawful steps of others came, and then its own step or none.
use Rattle.std.proofs.Common.{◌≡◌, ℕ, ◌≤◌, List, [], ◌∷◌, ◌++◌, length, take, arith, refl, sym, ap, ◌∙◌, subst, append-nil, ◌⊎◌, inl, inr, Some, None, Ok, Err}
use Rattle.std.specs.Prelude.{Result, IfSome}
use Rattle.std.proofs.Math.Seq.{take-length}
use Rattle.pn_text.specs.declared.fault.DevFault.{DevFault}
use Rattle.pn_storecore.specs.declared.step.StoreStep.{StoreStep}
use Rattle.pn_storecore.specs.declared.step.StoreStep.TheVariants.{Append}
use Rattle.pn_storecore.specs.World.{World, empty}
use Rattle.pn_storecore.specs.Steps.{Journal, world_after, world_of}
use Rattle.pn_storecore.specs.Lawful.{AreLawful, AreOthers}
use Rattle.pn_storecore.specs.Seen.{Seen, Keeps}
use Rattle.pn_storecore.specs.Calls.{Grows, Answers, Appends, IsFront}
use Rattle.pn_storecore.proofs.JournalLemmas.{after_both}

-- The journal that is told now is the one that was told, with lawful steps of others and these.
pub record Grown (old new : Seen) (now mine : Journal) : Type 0 where
  pub was : Journal
  pub told : old.journal ≡ Some was
  pub others : Journal
  pub lawful : AreLawful (world_of was) others
  pub theirs : AreOthers old.me others
  pub me : new.me ≡ old.me
  pub came : now ≡ was ++ others ++ mine

-- the world at which a call's own step comes
abbrev pub before : (old new : Seen) (now mine : Journal) → Grown old new now mine → World
before old new now mine g = world_after (world_of g.was) g.others

pub world_now : (old new : Seen) (now mine : Journal) (g : Grown old new now mine) → world_of now ≡ world_after (before old new now mine g) mine
world_now old new now mine g = ap world_of g.came ∙ after_both empty (g.was ++ g.others) mine ∙ ap (λ w. world_after w mine) (after_both empty g.was g.others)

pub none_told : (old new : Seen) (x : Journal) → Keeps old new → old.journal ≡ None → new.journal ≡ Some x → ⊥
none_told old new x kept none told = let clash : Some x ≡ None = sym told ∙ kept.untold none in cc

-- after a call that was Ok: its step came, and its answer is by the world before that
pub grown : {T : Type 0} (v : T) (Made : StoreStep → Type 0) (Answer : World → T → Type 0) (old new : Seen) (s : StoreStep) (x : Journal)
    → Keeps old new → IfSome old.journal (λ j. Grows old.me j s Made Answer new.journal (Ok v)) → new.journal ≡ Some x
    → (g : Grown old new x ((old.me, s) ∷ [])) × Answer (before old new x ((old.me, s) ∷ []) g) v
grown {T} v Made Answer old new s x kept h told =
    elim old.journal as (λ o. old.journal ≡ o → IfSome o (λ j. Grows old.me j s Made Answer new.journal (Ok v)) → (g : Grown old new x ((old.me, s) ∷ [])) × Answer (before old new x ((old.me, s) ∷ []) g) v) [
      | None ↦ λ is g. absurd (none_told old new x kept is told)
      | Some j ↦ λ is g. (record { was = j; told = is; others = g.others; lawful = g.lawful; theirs = g.theirs; me = kept.me; came = same j g.others (sym told ∙ g.ok.0) }, g.ok.1)
    ] refl h where
      same : (j others : Journal) → Some x ≡ Some (j ++ others ++ (old.me, s) ∷ []) → x ≡ j ++ others ++ (old.me, s) ∷ []
      same j others e = cc

-- after any call: none of its own came, or its step, or after a refusal what may have been made of it
pub grown_any : {T : Type 0} (r : Result T DevFault) (Made : StoreStep → Type 0) (Answer : World → T → Type 0) (old new : Seen) (s : StoreStep) (x : Journal)
    → Keeps old new → IfSome old.journal (λ j. Grows old.me j s Made Answer new.journal r) → new.journal ≡ Some x
    → Grown old new x [] ⊎ ((made : StoreStep) × ((made ≡ s) ⊎ Made made) × Grown old new x ((old.me, made) ∷ []))
grown_any {T} (Ok v) Made Answer old new s x kept h told = inr (s, inl refl, (grown v Made Answer old new s x kept h told).0)
grown_any {T} (Err e) Made Answer old new s x kept h told =
    elim old.journal as (λ o. old.journal ≡ o → IfSome o (λ j. Grows old.me j s Made Answer new.journal (Err e)) → Grown old new x [] ⊎ ((made : StoreStep) × ((made ≡ s) ⊎ Made made) × Grown old new x ((old.me, made) ∷ []))) [
      | None ↦ λ is g. absurd (none_told old new x kept is told)
      | Some j ↦ λ is g. elim g.err [
        | inl none ↦ inl (record { was = j; told = is; others = g.others; lawful = g.lawful; theirs = g.theirs; me = kept.me; came = same (j ++ g.others) (sym told ∙ none) ∙ sym (append-nil (j ++ g.others)) })
        | inr part ↦ inr (part.0, inr part.1, record { was = j; told = is; others = g.others; lawful = g.lawful; theirs = g.theirs; me = kept.me; came = same (j ++ g.others ++ (old.me, part.0) ∷ []) (sym told ∙ part.2) })
      ]
    ] refl h where
      same : (y : Journal) → Some x ≡ Some y → x ≡ y
      same y e = cc

-- the same where a refused call made its step or none
pub grown_once : {T : Type 0} (r : Result T DevFault) (Answer : World → T → Type 0) (old new : Seen) (s : StoreStep) (x : Journal)
    → Keeps old new → Answers old s new r Answer → new.journal ≡ Some x → Grown old new x [] ⊎ Grown old new x ((old.me, s) ∷ [])
grown_once r Answer old new s x kept h told = elim (grown_any r (λ made. made ≡ s) Answer old new s x kept h told) [
  | inl none ↦ inl none
  | inr one ↦ inr (subst (λ m. Grown old new x ((old.me, m) ∷ [])) (elim one.1 [ inl e ↦ e | inr e ↦ e ]) one.2)
]

-- the same of an append, of which a refusal may have made a front
pub grown_front : (r : Result (Unit {0}) DevFault) (old new : Seen) (k n : ℕ) (more : List ℕ) (x : Journal)
    → Keeps old new → Appends old k n more new r → new.journal ≡ Some x → Grown old new x [] ⊎ ((i : ℕ) × (i ≤ length more) × Grown old new x ((old.me, Append k n (take i more)) ∷ []))
grown_front r old new k n more x kept h told = elim (grown_any r (IsFront k n more) (λ w answer. Unit {0}) old new (Append k n more) x kept h told) [
  | inl none ↦ inl none
  | inr one ↦ inr (elim one.1 [ inl whole ↦ (length more, omega arith, of one.0 (length more) (whole ∙ ap (Append k n) (sym (take-length more))) one.2) | inr front ↦ (front.0, front.1, of one.0 front.0 front.2 one.2) ])
] where
  of : (made : StoreStep) (i : ℕ) → made ≡ Append k n (take i more) → Grown old new x ((old.me, made) ∷ []) → Grown old new x ((old.me, Append k n (take i more)) ∷ [])
  of made i e g = subst (λ m. Grown old new x ((old.me, m) ∷ [])) e g
