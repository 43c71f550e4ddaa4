-- Ids of versions, and the versions that are held.
use Rattle.std.proofs.Common.{◌≡◌, ◌++◌, ◌∷◌, ◌<◌, ℕ, zero, suc, Bool, true, false, ltb, length, get_or, arith, List, [], Option, Some, None, Ok, Err, map, refl, sym, ap, ◌∙◌, if◌then◌else◌}
use Rattle.std.specs.Prelude.{Result, is_some, not, option_map, slice_get}
use Rattle.std.specs.List.{All}
use Rattle.std.specs.Str.{bytes_eq}
use Rattle.std.proofs.lemmas.List.{append-nil, map-append}
use Rattle.std.proofs.lemmas.List.Elements.{All-contains}
use Rattle.std.proofs.lemmas.Bool.{ltb-false, ltb-true}
use Rattle.std.proofs.lemmas.Option.{slice_get-map, slice_get_past}
use Rattle.semver.specs.Identifiers.{parts_of, parts_text as text_of_parts}
use Rattle.semver.specs.Parse.{Parts, version_parts}
use Rattle.semver.specs.declared.Version.{Version}
use Rattle.semver.proofs.Grammar.{version_parts-sound}
use Rattle.pn_text.specs.Ids.{id_text, id_of, id_name, id_version, ok_of, parts_text, is_version}
use Rattle.pn_published.specs.Versions.{IsParsed, AreParsed}
use Rattle.pn_shape.proofs.ListLemmas.{at_place}
use Rattle.pn_walk.specs.Wants.{Id}
use Rattle.pn_plain.specs.Aims.{id_at}
use Rattle.pn_plain.specs.Given.{Held, held_of}
use Rattle.pn_choice.specs.Given.{held_before, held_as, held_by}

ok_is : {E : Type 0} (r : Result Parts E) (v : Parts) → ok_of r ≡ Some v → r ≡ Ok v
ok_is (Ok w) v e = let same : w ≡ v = cc in ap Ok same
ok_is (Err f) v e = cc

-- the text of a version that was read is that version's
read_again : (v : Parts) → IsParsed v → parts_text (text_of_parts v) ≡ Some v
read_again v h =
    let text : text_of_parts v ≡ h.text = (version_parts-sound h.text v (ok_is (version_parts h.text) v h.is)).0 in
    ap parts_text text ∙ h.is

id_when : (n x : List ℕ) (b : Bool) → b ≡ true → (if b then Some (id_text n x) else None) ≡ Some (id_text n x)
id_when n x true e = refl
id_when n x false e = cc

pub parsed_id : (n : List ℕ) (v : Parts) → IsParsed v → id_of n (text_of_parts v) ≡ Some (id_at n v)
parsed_id n v h = id_when n (text_of_parts v) (is_version (text_of_parts v)) (ap is_some (read_again v h))

get_of : {X : Type 0} (P : X → Type 0) (xs : List X) (k : ℕ) (x : X) → slice_get xs k ≡ Some x → All P xs → P x
get_of P xs k x at all = All-contains P xs x all (at_place xs k x at)

got : (vs : List Version) (k : ℕ) (v : Version) → k < length vs → v ≡ get_or vs k v → slice_get vs k ≡ Some v
got [] k v h is = absurd (omega arith)
got (x ∷ xs) zero v h is = ap Some (sym is)
got (x ∷ xs) (suc k) v h is = got xs k v (omega arith) is

-- the version at a place of the list, and past its end
pub at_place_of : (n : List ℕ) (vs : List Version) (k : ℕ) (v : Version) → true ≡ ltb k (length vs) → v ≡ get_or vs k v → option_map (id_at n) (slice_get (map parts_of vs) k) ≡ Some (id_at n (parts_of v))
at_place_of n vs k v h is = ap (option_map (id_at n)) (slice_get-map parts_of vs k ∙ ap (option_map parts_of) (got vs k v (ltb-true k (length vs) (sym h)) is))

pub past_end : (n : List ℕ) (vs : List Version) (k : ℕ) → false ≡ ltb k (length vs) → option_map (id_at n) (slice_get (map parts_of vs) k) ≡ None
past_end n vs k h = ap (option_map (id_at n)) (slice_get-map parts_of vs k ∙ ap (option_map parts_of) (slice_get_past vs k (ltb-false k (length vs) (sym h))))

parsed_at : (vs : List Version) (k : ℕ) (v : Version) → slice_get vs k ≡ Some v → AreParsed (map parts_of vs) → IsParsed (parts_of v)
parsed_at vs k v at all = get_of IsParsed (map parts_of vs) k (parts_of v) (slice_get-map parts_of vs k ∙ ap (option_map parts_of) at) all

pub parsed_there : (vs : List Version) (k : ℕ) (v : Version) → true ≡ ltb k (length vs) → v ≡ get_or vs k v → AreParsed (map parts_of vs) → IsParsed (parts_of v)
parsed_there vs k v h is all = parsed_at vs k v (got vs k v (ltb-true k (length vs) (sym h)) is) all

-- an id of another name is of no version
held_unless : (n own : List ℕ) (o : Option Parts) (b : Bool) → bytes_eq own n ≡ b → b ≡ false → held_of n (held_before own o []) ≡ []
held_unless n own None b is e = refl
held_unless n own (Some v) b is e = ap (λ (c : Bool). if c then v ∷ [] else []) (is ∙ e)

pub held_other : (n : List ℕ) (i : Id) → bytes_eq (id_name i) n ≡ false → held_as n i ≡ []
held_other n i e = held_unless n (id_name i) (parts_text (id_version i)) false e refl

pub held_same : (n : List ℕ) (i : Id) (v : Parts) → bytes_eq (id_name i) n ≡ true → parts_text (id_version i) ≡ Some v → held_as n i ≡ v ∷ []
held_same n i v e is = ap (λ (o : Option Parts). held_of n (held_before (id_name i) o [])) is ∙ ap (λ (c : Bool). if c then v ∷ [] else []) e

-- what is put in after the versions that were there
pub put_other : (vs : List Parts) (n : List ℕ) (i : Id) → true ≡ not (bytes_eq (id_name i) n) → vs ≡ vs ++ held_as n i
put_other vs n i h = sym (append-nil vs) ∙ ap (λ (l : List Parts). vs ++ l) (sym (held_other n i (unequal (bytes_eq (id_name i) n) h)))
  where
    unequal : (b : Bool) → true ≡ not b → b ≡ false
    unequal true e = cc
    unequal false e = refl

pub put_same : (vs ws : List Version) (v : Version) (n : List ℕ) (i : Id) → false ≡ not (bytes_eq (id_name i) n) → parts_text (id_version i) ≡ Some (parts_of v) → ws ≡ vs ++ v ∷ [] → map parts_of ws ≡ map parts_of vs ++ held_as n i
put_same vs ws v n i h is pushed =
    ap (map parts_of) pushed ∙ map-append parts_of vs (v ∷ []) ∙ ap (λ (l : List Parts). map parts_of vs ++ l) (sym (held_same n i (parts_of v) (equal (bytes_eq (id_name i) n) h) is))
  where
    equal : (b : Bool) → false ≡ not b → b ≡ true
    equal true e = refl
    equal false e = cc

held_first : (n own : List ℕ) (o : Option Parts) (rest : List Held) → held_of n (held_before own o rest) ≡ held_of n (held_before own o []) ++ held_of n rest
held_first n own None rest = refl
held_first n own (Some v) rest = elim (bytes_eq own n) as (λ b. (if b then v ∷ held_of n rest else held_of n rest) ≡ (if b then v ∷ [] else []) ++ held_of n rest) [ true ↦ refl | false ↦ refl ]

-- one more id
pub held_next : (n : List ℕ) (i : Id) (is : List Id) → held_of n (held_by (i ∷ is)) ≡ held_as n i ++ held_of n (held_by is)
held_next n i is = held_first n (id_name i) (parts_text (id_version i)) (held_by is)
