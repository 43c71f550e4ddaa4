-- Words for the steps of the reader.
use Rattle.std.specs.Prelude.{◌≡◌, ◌≤◌, ◌<◌, ℕ, ◌+◌, ◌==◌, Bool, true, false, List, [], ◌∷◌, ◌++◌, length}
use Rattle.std.specs.List.{list_all}
use Rattle.pn_glob.specs.declared.fault.Stop.{Stop}
use Rattle.pn_glob.specs.declared.fault.Stop.TheVariants as stop
use Rattle.pn_glob.specs.Bytes.{is_bracket}
use Rattle.pn_glob.specs.Grammar.{Chosen, HasBadByte, HasMany, IsOpen, Spells, ends_choice, is_inner}

abbrev pub starts_with : (ℕ → Bool) → List ℕ → Bool
starts_with test [] = false
starts_with test (b ∷ t) = test b

-- a text's longest front of bytes that pass a test, and what is behind it
pub record FrontOf (test : ℕ → Bool) (text rest : List ℕ) : Type 0 where
  pub front : List ℕ
  pub split : text ≡ front ++ rest
  pub passes : list_all test front ≡ true
  pub stops : starts_with test rest ≡ false

-- a choice at the front of a text, the byte that ends it, and what is behind that
pub record ChoiceAt (text x : List ℕ) (b : ℕ) (rest : List ℕ) : Type 0 where
  pub split : text ≡ x ++ b ∷ rest
  pub inner : list_all is_inner x ≡ true
  pub ends : ends_choice (b ∷ rest) ≡ true

-- a bracket in a choice
pub record BadInner (text : List ℕ) (left : ℕ) : Type 0 where
  pub front : List ℕ
  pub byte : ℕ
  pub after : List ℕ
  pub split : text ≡ front ++ byte ∷ after
  pub inner : list_all is_inner front ≡ true
  pub bracket : is_bracket byte ≡ true
  pub other : (byte == 125) ≡ false
  pub place : left ≡ length (byte ∷ after)

abbrev pub NoChoice : List ℕ → Stop → Type 0
NoChoice text stop.End = list_all is_inner text ≡ true
NoChoice text (stop.Byte left) = BadInner text left
NoChoice text stop.TooMany = ⊥
NoChoice text stop.Memory = ⊥

-- what stands in a brace before one of its choices
pub data Opened (cs : List (List ℕ)) : List ℕ → List (List ℕ) → Type 0 where
  first : Opened cs [] []
  comma : (u : List ℕ) (ds : List (List ℕ)) → Chosen cs u ds → length ds ≤ 64 → Opened cs (u ++ 44 ∷ []) ds

pub record OpenedAt (cs : List (List ℕ)) (text : List ℕ) (ds : List (List ℕ)) (rest : List ℕ) : Type 0 where
  pub front : List ℕ
  pub split : text ≡ front ++ rest
  pub opened : Opened cs front ds

-- a piece of a pattern, behind texts
pub record Grown (cs : List (List ℕ)) (text : List ℕ) (ds : List (List ℕ)) (rest : List ℕ) : Type 0 where
  pub front : List ℕ
  pub split : text ≡ front ++ rest
  pub spells : (t : List ℕ) → Spells t cs → Spells (t ++ front) ds
  pub shorter : length rest < length text

-- why a pattern isn't read
abbrev pub Stops : List ℕ → Stop → Type 0
Stops body stop.End = IsOpen body
Stops body (stop.Byte left) = (k : ℕ) × HasBadByte body k × (k + left ≡ length body)
Stops body stop.TooMany = HasMany body
Stops body stop.Memory = Unit {0}

-- the same of the rest of a pattern, behind what spells texts
abbrev pub StopsIn : List (List ℕ) → List ℕ → Stop → Type 0
StopsIn cs text s = (t : List ℕ) → Spells t cs → Stops (t ++ text) s

-- the front of a pattern, and the texts that it spells
pub record SpelledAt (body : List ℕ) (ds : List (List ℕ)) (rest : List ℕ) : Type 0 where
  pub front : List ℕ
  pub split : body ≡ front ++ rest
  pub spells : Spells front ds
