-- The texts that may follow in each state of the automaton.
use Rattle.std.proofs.Common.{◌≡◌, ℕ, suc, Bool, true, false, List, [], ◌∷◌, ◌++◌, Option, Some, None}
use Rattle.std.specs.Prelude.{◌==◌, ◌&&◌, not, nat_lt}
use Rattle.std.specs.List.{list_all}
use Rattle.semver.specs.Grammar.{is_build_identifier, is_identifier_byte, is_pre_identifier}
use Rattle.semver.specs.Order.{is_numeric}
use Rattle.pn_ranges.specs.declared.comparator.Sign.{Sign}
use Rattle.pn_ranges.specs.Bytes.{is_space, is_digit, front_of, starts_with}
use Rattle.pn_ranges.specs.Forms.{AreForms}
use Rattle.pn_ranges.specs.Grammar.{AreIdentifiers, AreSpaces, IsComparator, IsEnd, IsPart}
use Rattle.pn_ranges.specs.Places.{Turn, State}
use Rattle.pn_ranges.specs.Places as p
use Rattle.pn_ranges.specs.Table.{Named}

-- behind a range
pub data Closed : List ℕ → Type 0 where
  ends : Closed []
  bars : (u : List ℕ) → AreForms u → Closed (124 ∷ 124 ∷ u)
  space : (b : ℕ) (u : List ℕ) → is_space b ≡ true → Closed u → Closed (b ∷ u)

-- behind a comparator and a space
pub data Gap : List ℕ → Type 0 where
  closed : (u : List ℕ) → Closed u → Gap u
  space : (b : ℕ) (u : List ℕ) → is_space b ≡ true → Gap u → Gap (b ∷ u)
  last : (t v : List ℕ) (x : Sign) (n : Named) → IsComparator t x n → Closed v → Gap (t ++ v)
  more : (t v : List ℕ) (x : Sign) (n : Named) (b : ℕ) → IsComparator t x n → is_space b ≡ true → Gap v → Gap (t ++ b ∷ v)

-- behind the `-` of `A - B` and a space
pub data Far : List ℕ → Type 0 where
  space : (b : ℕ) (u : List ℕ) → is_space b ≡ true → Far u → Far (b ∷ u)
  end : (t v : List ℕ) (n : Named) → IsEnd t n → Closed v → Far (t ++ v)

pub data Dash : List ℕ → Type 0 where
  dash : (b : ℕ) (u : List ℕ) → is_space b ≡ true → Far u → Dash (b ∷ u)

-- in front of that `-`
pub data Dashed : List ℕ → Type 0 where
  space : (b : ℕ) (u : List ℕ) → is_space b ≡ true → Dashed u → Dashed (b ∷ u)
  dashed : (u : List ℕ) → Dash u → Dashed (45 ∷ u)

pub data Gapped : Bool → List ℕ → Type 0 where
  gap : (m : Bool) (u : List ℕ) → Gap u → Gapped m u
  dashed : (u : List ℕ) → Dashed u → Gapped true u

-- behind a version
pub data Follows : Turn → List ℕ → Type 0 where
  closed : (e : Turn) (u : List ℕ) → Closed u → Follows e u
  first : (b : ℕ) (u : List ℕ) → is_space b ≡ true → Gap u → Follows p.first (b ∷ u)
  later : (b : ℕ) (u : List ℕ) → is_space b ≡ true → Gap u → Follows p.later (b ∷ u)
  dashed : (b : ℕ) (u : List ℕ) → is_space b ≡ true → Dashed u → Follows p.first (b ∷ u)

pub data Bar : List ℕ → Type 0 where
  bar : (u : List ℕ) → AreForms u → Bar (124 ∷ u)

-- builds and pre-releases
pub data Builds (e : Turn) : List ℕ → Type 0 where
  builds : (t v : List ℕ) → AreIdentifiers is_build_identifier t → Follows e v → Builds e (t ++ v)

pub data InBuild (e : Turn) : List ℕ → Type 0 where
  ends : (w v : List ℕ) → list_all is_identifier_byte w ≡ true → Follows e v → InBuild e (w ++ v)
  dot : (w u : List ℕ) → list_all is_identifier_byte w ≡ true → Builds e u → InBuild e (w ++ 46 ∷ u)

pub data MayBuild (e : Turn) : List ℕ → Type 0 where
  none : (v : List ℕ) → Follows e v → MayBuild e v
  plus : (u : List ℕ) → Builds e u → MayBuild e (43 ∷ u)

pub data Pres (e : Turn) : List ℕ → Type 0 where
  pres : (t v : List ℕ) → AreIdentifiers is_pre_identifier t → MayBuild e v → Pres e (t ++ v)

-- in an identifier of a pre-release that may go on so
pub data InPre (right : List ℕ → Bool) (e : Turn) : List ℕ → Type 0 where
  ends : (w v : List ℕ) → right w ≡ true → MayBuild e v → InPre right e (w ++ v)
  dot : (w u : List ℕ) → right w ≡ true → Pres e u → InPre right e (w ++ 46 ∷ u)

abbrev pub is_behind_zero : List ℕ → Bool
is_behind_zero w = is_pre_identifier (48 ∷ w)

abbrev pub is_behind_zeros : List ℕ → Bool
is_behind_zeros w = list_all is_identifier_byte w && not (is_numeric w)

-- versions
pub data Whole (e : Turn) : ℕ → List ℕ → Type 0 where
  ends : (k : ℕ) (v : List ℕ) → Follows e v → Whole e k v
  dot : (k : ℕ) (t v : List ℕ) (a : Option ℕ) → nat_lt k 3 ≡ true → IsPart t a → Whole e (suc k) v → Whole e k (46 ∷ (t ++ v))
  pre : (k : ℕ) (u : List ℕ) → (k == 3) ≡ true → Pres e u → Whole e k (45 ∷ u)
  plus : (k : ℕ) (u : List ℕ) → (k == 3) ≡ true → Builds e u → Whole e k (43 ∷ u)

pub data Parted (e : Turn) (k : ℕ) : List ℕ → Type 0 where
  parted : (t v : List ℕ) (a : Option ℕ) → IsPart t a → Whole e (suc k) v → Parted e k (t ++ v)

-- the digits are those that stand in the text
pub record Digits (e : Turn) (k : ℕ) (text u : List ℕ) : Type 0 where
  pub rest : List ℕ
  pub split : u ≡ front_of is_digit text ++ rest
  pub whole : Whole e k rest

pub data Ended (e : Turn) : List ℕ → Type 0 where
  ended : (t v : List ℕ) (n : Named) → IsEnd t n → Follows e v → Ended e (t ++ v)

-- comparators
pub data Operand : List ℕ → Type 0 where
  operand : (s t v : List ℕ) (n : Named) → AreSpaces s → IsEnd t n → Follows p.later v → Operand (s ++ (t ++ v))

pub data Signed (joins : ℕ) : List ℕ → Type 0 where
  joined : (u : List ℕ) → Operand u → Signed joins (joins ∷ u)
  alone : (u : List ℕ) → starts_with (λ b. b == joins) u ≡ false → Operand u → Signed joins u

pub data Equal (e : Turn) : List ℕ → Type 0 where
  ended : (u : List ℕ) → Ended e u → Equal e u
  operand : (u : List ℕ) → Operand u → Equal e u

pub data Compared (e : Turn) : List ℕ → Type 0 where
  ended : (u : List ℕ) → Ended e u → Compared e u
  comparator : (t v : List ℕ) (x : Sign) (n : Named) → IsComparator t x n → Follows p.later v → Compared e (t ++ v)

-- what may follow in a state, before this text
abbrev pub Rest : State → List ℕ → List ℕ → Type 0
Rest p.start text u = AreForms u
Rest (p.gap m) text u = Gapped m u
Rest p.closed text u = Closed u
Rest p.bar text u = Bar u
Rest p.dash text u = Dash u
Rest p.far text u = Far u
Rest (p.sign joins) text u = Signed joins u
Rest (p.equal e) text u = Equal e u
Rest p.operand text u = Operand u
Rest (p.lead e) text u = Ended e u
Rest (p.dot e k) text u = Parted e k u
Rest (p.whole e k) text u = Whole e k u
Rest (p.digits e k) text u = Digits e k text u
Rest (p.hyphen e) text u = Pres e u
Rest (p.naught e) text u = InPre is_behind_zero e u
Rest (p.zeros e) text u = InPre is_behind_zeros e u
Rest (p.pre e) text u = InPre (list_all is_identifier_byte) e u
Rest (p.plus e) text u = Builds e u
Rest (p.build e) text u = InBuild e u

abbrev pub RestOf : Option State → List ℕ → List ℕ → Type 0
RestOf None text u = ⊥
RestOf (Some s) text u = Rest s text u
