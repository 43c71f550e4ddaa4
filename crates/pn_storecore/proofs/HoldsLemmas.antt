-- What an installer holds and knows, after its calls.
use Rattle.std.proofs.Common.{◌≡◌, ℕ, ◌≤◌, Bool, true, false, List, [], ◌∷◌, ◌++◌, length, take, refl, sym, ap, ◌∙◌, subst, ◌⊎◌, inl, inr, Some, None, Ok, Err}
use Rattle.std.specs.Prelude.{Option, Result, IfOk, OnOk, OnErr, cond, nat_eq}
use Rattle.std.specs.Bool.{OnTrue}
use Rattle.std.specs.Option.{option_map, option_and_then}
use Rattle.std.proofs.lemmas.Map.{update-update}
use Rattle.pn_text.specs.declared.fault.DevFault.{DevFault}
use Rattle.pn_storecore.specs.declared.step.StoreStep.{StoreStep}
use Rattle.pn_storecore.specs.declared.step.StoreStep.TheVariants.{Claim, Create, Append, Shard, PublishFile, PublishListing, DropTemp, Read, Discard}
use Rattle.pn_storecore.specs.World.{Temp, World, owner_of, content, with_file, with_content}
use Rattle.pn_storecore.specs.Steps.{Journal, after, world_after, world_of}
use Rattle.pn_storecore.specs.Seen.{Seen, Keeps}
use Rattle.pn_storecore.specs.Calls.{Answers, Does, Appends, IsFront, IsClaim}
use Rattle.pn_storecore.specs.Held.{TempFiles, no_files, files_with, Holds, IsFree, IsIn, files_after}
use Rattle.pn_storecore.specs.CallLaws.{AsksLaw, HoldsLaw}
use Rattle.pn_storecore.proofs.UpdateLemmas.{at_number, none_some}
use Rattle.pn_storecore.proofs.OwnerLemmas.{others_keep, owners}
use Rattle.pn_storecore.proofs.GrowsLemmas.{Grown, before, world_now, grown, grown_once, grown_front}

-- a folder of the installer with these files
abbrev pub folder : ℕ → TempFiles → Temp
folder who files = record { owner = who; files = files }

owner_held : (w : World) (k who : ℕ) (files : TempFiles) → w.temps k ≡ Some (folder who files) → owner_of w k ≡ Some who
owner_held w k who files h = ap (option_map (λ (t : Temp). t.owner)) h

pub content_held : (w : World) (k n who : ℕ) (files : TempFiles) → w.temps k ≡ Some (folder who files) → content w k n ≡ files n
content_held w k n who files h = ap (option_and_then (λ (t : Temp). t.files n)) h

pub asks : AsksLaw
asks = record {
  create = λ s k n files holds none j told. let h = holds j told in
      record { owned = owner_held (world_of j) k s.me files h; absent = content_held (world_of j) k n s.me files h ∙ none };
  append = λ s k n more bytes files holds some j told. let h = holds j told in
      record { owned = owner_held (world_of j) k s.me files h; stands = none_some (content (world_of j) k n) bytes (content_held (world_of j) k n s.me files h ∙ some) };
  publish_file = λ s k n at bytes files holds some stored shard j told. let h = holds j told in
      record {
        owned = owner_held (world_of j) k s.me files h;
        bytes = bytes;
        stands = content_held (world_of j) k n s.me files h ∙ some;
        stored = stored;
        shard = shard j told;
      };
  publish_listing = λ s k n at bytes files holds some addressed text named shard j told. let h = holds j told in
      record {
        owned = owner_held (world_of j) k s.me files h;
        bytes = bytes;
        stands = content_held (world_of j) k n s.me files h ∙ some;
        stored = record { addressed = addressed; whole = record { text = text; named = λ file names. named file names j told } };
        shard = shard j told;
      };
  drop_file = λ s k n files holds j told. record { owned = owner_held (world_of j) k s.me files (holds j told); bare = λ whole. cc };
  drop_folder = λ s k files holds none j told. let h = holds j told in
      record { owned = owner_held (world_of j) k s.me files h; bare = λ whole m. content_held (world_of j) k m s.me files h ∙ none m };
}

-- a folder with another file of a number
with_one : (w : World) (k n who : ℕ) (files : TempFiles) (bytes : Option (List ℕ)) → w.temps k ≡ Some (folder who files) → (with_content w k n bytes).temps k ≡ Some (folder who (files_with files n bytes))
with_one w k n who files bytes h = elim (at_number w.temps k (option_map (with_file n bytes) (w.temps k)) k) [
  | inl here ↦ here.1 ∙ ap (option_map (with_file n bytes)) h
  | inr other ↦ absurd (other.0 refl)
]

-- what a step on a file makes of its folder
step_in : (w : World) (s : StoreStep) (k who : ℕ) (files : TempFiles) → IsIn k s → w.temps k ≡ Some (folder who files) → (after who s w).temps k ≡ Some (folder who (files_after s files))
step_in w (Claim q) k who files here h = absurd here
step_in w (Create q n) k who files here h = subst (λ x. (after who (Create x n) w).temps k ≡ Some (folder who (files_after (Create x n) files))) (sym here) (with_one w k n who files (Some []) h)
step_in w (Append q n more) k who files here h = subst (λ x. (after who (Append x n more) w).temps k ≡ Some (folder who (files_after (Append x n more) files))) (sym here)
    (with_one w k n who files _ h ∙ ap (λ o. Some (folder who (files_with files n (option_map (λ bytes. bytes ++ more) o)))) (content_held w k n who files h))
step_in w (Shard place first) k who files here h = absurd here
step_in w (PublishFile q n at) k who files here h = subst (λ x. (after who (PublishFile x n at) w).temps k ≡ Some (folder who (files_after (PublishFile x n at) files))) (sym here) (with_one w k n who files None h)
step_in w (PublishListing q n at) k who files here h = subst (λ x. (after who (PublishListing x n at) w).temps k ≡ Some (folder who (files_after (PublishListing x n at) files))) (sym here) (with_one w k n who files None h)
step_in w (DropTemp q (Some n)) k who files here h = subst (λ x. (after who (DropTemp x (Some n)) w).temps k ≡ Some (folder who (files_after (DropTemp x (Some n)) files))) (sym here) (with_one w k n who files None h)
step_in w (DropTemp q None) k who files here h = absurd here
step_in w Read k who files here h = absurd here
step_in w (Discard x) k who files here h = absurd here

-- the folder is what it was when the call's own step comes
pub held_before : (old new : Seen) (x mine : Journal) (k : ℕ) (files : TempFiles) (g : Grown old new x mine) → Holds old k files → (before old new x mine g).temps k ≡ Some (folder old.me files)
held_before old new x mine k files g holds =
    let h = holds g.was g.told in
    others_keep (world_of g.was) g.others old.me k (owner_held (world_of g.was) k old.me files h) g.lawful g.theirs ∙ h

-- what is so of the folder after the call's own step
pub held_now : (old new : Seen) (x mine : Journal) (k : ℕ) (files : TempFiles) (g : Grown old new x mine) → (world_after (before old new x mine g) mine).temps k ≡ Some (folder old.me files) → (world_of x).temps k ≡ Some (folder new.me files)
held_now old new x mine k files g h = ap (λ (w : World). w.temps k) (world_now old new x mine g) ∙ h ∙ ap (λ who. Some (folder who files)) (sym g.me)

pub kept_now : (old new : Seen) (x : Journal) (k : ℕ) (files : TempFiles) → Grown old new x [] → Holds old k files → (world_of x).temps k ≡ Some (folder new.me files)
kept_now old new x k files g holds = held_now old new x [] k files g (held_before old new x [] k files g holds)

made_now : (old new : Seen) (x : Journal) (s : StoreStep) (k : ℕ) (files : TempFiles) → Grown old new x ((old.me, s) ∷ []) → IsIn k s → Holds old k files → (world_of x).temps k ≡ Some (folder new.me (files_after s files))
made_now old new x s k files g here holds =
    let mine = (old.me, s) ∷ [] in
    held_now old new x mine k (files_after s files) g (step_in (before old new x mine g) s k old.me files here (held_before old new x mine k files g holds))

none_none : (b : Bool) (o : Option (List ℕ)) → cond b o o ≡ o
none_none true o = refl
none_none false o = refl

-- what is so of the one journal that is told
pub told_once : (P : Journal → Type 0) (o : Option Journal) (y : Journal) → o ≡ Some y → P y → (x : Journal) → o ≡ Some x → P x
told_once P o y is h x told = let same : y ≡ x = cc in subst P same h

-- a fact for each journal that is told, where it goes by which is told
pub by_told : (A : Type 0) (new : Seen) → (new.journal ≡ None → A) → ((y : Journal) → new.journal ≡ Some y → A) → A
by_told A new none some = elim new.journal as (λ o. new.journal ≡ o → A) [ None ↦ none | Some y ↦ some y ] refl

pub untold : (P : Journal → Type 0) (o : Option Journal) → o ≡ None → (x : Journal) → o ≡ Some x → P x
untold P o is x told = let clash : Some x ≡ None = sym told ∙ is in cc

abbrev pub HasFiles : Seen → ℕ → TempFiles → Journal → Type 0
HasFiles s k files j = (world_of j).temps k ≡ Some (folder s.me files)

module _ (old new : Seen) (kept : Keeps old new) (k : ℕ) (files : TempFiles) where
  made_ok : (own : StoreStep) (r : Result (Unit {0}) DevFault) → IsIn k own → Does old own new r → Holds old k files → OnOk r (Holds new k (files_after own files))
  made_ok own (Err e) here h holds = tt
  made_ok own (Ok v) here h holds = λ x told. made_now old new x own k files (grown v (λ made. made ≡ own) (λ w answer. Unit {0}) old new own x kept h told).0 here holds

  made_err : (own : StoreStep) (r : Result (Unit {0}) DevFault) → IsIn k own → Does old own new r → Holds old k files → OnErr r (Holds new k files ⊎ Holds new k (files_after own files))
  made_err own (Ok v) here h holds = tt
  made_err own (Err e) here h holds = by_told (Holds new k files ⊎ Holds new k (files_after own files)) new
      (λ none. inl (untold (HasFiles new k files) new.journal none))
      (λ y is. elim (grown_once {T = Unit {0}} (Err e) (λ w answer. Unit {0}) old new own y kept h is) [
        | inl g ↦ inl (told_once (HasFiles new k files) new.journal y is (kept_now old new y k files g holds))
        | inr g ↦ inr (told_once (HasFiles new k (files_after own files)) new.journal y is (made_now old new y own k files g here holds))
      ])

  appended_ok : (n : ℕ) (more : List ℕ) (r : Result (Unit {0}) DevFault) → Appends old k n more new r → Holds old k files → OnOk r (Holds new k (files_after (Append k n more) files))
  appended_ok n more (Err e) h holds = tt
  appended_ok n more (Ok v) h holds = λ x told. made_now old new x (Append k n more) k files (grown v (IsFront k n more) (λ w answer. Unit {0}) old new (Append k n more) x kept h told).0 refl holds

  appended_err : (n : ℕ) (more : List ℕ) (r : Result (Unit {0}) DevFault) → Appends old k n more new r → Holds old k files
      → OnErr r (Holds new k files ⊎ ((i : ℕ) × (i ≤ length more) × Holds new k (files_after (Append k n (take i more)) files)))
  appended_err n more (Ok v) h holds = tt
  appended_err n more (Err e) h holds = by_told (Holds new k files ⊎ ((i : ℕ) × (i ≤ length more) × Holds new k (files_after (Append k n (take i more)) files))) new
      (λ none. inl (untold (HasFiles new k files) new.journal none))
      (λ y is. elim (grown_front (Err e) old new k n more y kept h is) [
        | inl g ↦ inl (told_once (HasFiles new k files) new.journal y is (kept_now old new y k files g holds))
        | inr part ↦
            let now = files_after (Append k n (take part.0 more)) files in
            inr (part.0, part.1, told_once (HasFiles new k now) new.journal y is (made_now old new y (Append k n (take part.0 more)) k files part.2 refl holds))
      ])

claimed_ok : (old new : Seen) (k : ℕ) (r : Result Bool DevFault) → Keeps old new → Answers old (Claim k) new r (IsClaim k) → IfOk r (λ free. OnTrue free (Holds new k no_files))
claimed_ok old new k (Err e) kept h = tt
claimed_ok old new k (Ok false) kept h = tt
claimed_ok old new k (Ok true) kept h = λ x told.
    let g = grown true (λ made. made ≡ Claim k) (IsClaim k) old new (Claim k) x kept h told in
    let mine = (old.me, Claim k) ∷ [] in
    held_now old new x mine k no_files g.0 (owners.free (before old new x mine g.0) old.me k g.1)

-- the folder of a number is gone after the step that drops it
pub no_folder : (w : World) (who k : ℕ) → (after who (DropTemp k None) w).temps k ≡ None
no_folder w who k = elim (at_number w.temps k None k) [ inl here ↦ here.1 | inr other ↦ absurd (other.0 refl) ]

freed_now : (old new : Seen) (k : ℕ) (x : Journal) → Grown old new x ((old.me, DropTemp k None) ∷ []) → (world_of x).temps k ≡ None
freed_now old new k x g =
    let mine = (old.me, DropTemp k None) ∷ [] in
    ap (λ (w : World). w.temps k) (world_now old new x mine g) ∙ no_folder (before old new x mine g) old.me k

freed_ok : (old new : Seen) (k : ℕ) (r : Result (Unit {0}) DevFault) → Keeps old new → Does old (DropTemp k None) new r → OnOk r (IsFree new k)
freed_ok old new k (Err e) kept h = tt
freed_ok old new k (Ok v) kept h = λ x told. freed_now old new k x (grown v (λ made. made ≡ DropTemp k None) (λ w answer. Unit {0}) old new (DropTemp k None) x kept h told).0

freed_err : (old new : Seen) (k : ℕ) (files : TempFiles) (r : Result (Unit {0}) DevFault) → Keeps old new → Does old (DropTemp k None) new r → Holds old k files → OnErr r (Holds new k files ⊎ IsFree new k)
freed_err old new k files (Ok v) kept h holds = tt
freed_err old new k files (Err e) kept h holds = by_told (Holds new k files ⊎ IsFree new k) new
    (λ none. inl (untold (HasFiles new k files) new.journal none))
    (λ y is. elim (grown_once {T = Unit {0}} (Err e) (λ w answer. Unit {0}) old new (DropTemp k None) y kept h is) [
      | inl g ↦ inl (told_once (HasFiles new k files) new.journal y is (kept_now old new y k files g holds))
      | inr g ↦ inr (told_once (λ j. (world_of j).temps k ≡ None) new.journal y is (freed_now old new k y g))
    ])

pub holds : HoldsLaw
holds = record {
  claimed = claimed_ok;
  made = λ old new own k files r kept here h holds. made_ok old new kept k files own r here h holds;
  refused = λ old new own k files r kept here h holds. made_err old new kept k files own r here h holds;
  appended = λ old new k n more files r kept h holds. appended_ok old new kept k files n more r h holds;
  append_refused = λ old new k n more files r kept h holds. appended_err old new kept k files n more r h holds;
  freed = freed_ok;
  free_refused = freed_err;
  again = λ files n old new i m. update-update nat_eq files n old new m i;
  emptied = λ n i m. none_none (nat_eq n m) None i;
}
