-- Where the reading of a text stops: an automaton that goes from byte to byte. `place_law` says in the words of the
-- grammar where it stops at a byte.
use Rattle.std.specs.Prelude.{ℕ, suc, ◌^◌, ◌==◌, ◌&&◌, ◌||◌, not, nat_le, nat_lt, Bool, true, false, List, [], ◌∷◌, length, Option, Some, None, if◌then◌else◌}
use Rattle.semver.specs.Grammar.{is_identifier_byte}
use Rattle.pn_ranges.specs.declared.fault.Stop.{Stop}
use Rattle.pn_ranges.specs.declared.fault.Stop.TheVariants.{Byte, Number}
use Rattle.pn_ranges.specs.declared.comparator.Sign.{Sign}
use Rattle.pn_ranges.specs.declared.comparator.Sign.TheVariants as x
use Rattle.pn_ranges.specs.Bytes.{is_space, is_lead, is_wild, is_digit, number_at, starts_with}

abbrev pub is_exact : Sign → Bool
is_exact x.Exact = true
is_exact s = false

-- which version of its range is read: the first, behind which a `-` may come, a later one, or the upper end of `A - B`
pub data Turn : Type 0 where
  first : Turn
  later : Turn
  upper : Turn

-- where the reader is
pub data State : Type 0 where
  start : State  -- at the start of a range
  gap : Bool → State  -- behind a comparator and a space, and whether a `-` may come
  closed : State  -- behind `A - B` and a space
  bar : State  -- behind a first `|`
  dash : State  -- behind the `-` of `A - B`
  far : State  -- behind it and a space
  sign : ℕ → State  -- behind an operator that this byte makes longer
  equal : Turn → State  -- behind the operator `=`
  operand : State  -- behind another operator
  lead : Turn → State  -- behind a leading `v` or `=`
  dot : Turn → ℕ → State  -- behind so many parts and a dot
  whole : Turn → ℕ → State  -- behind so many parts
  digits : Turn → ℕ → State  -- the same, where a digit may come
  hyphen : Turn → State  -- where an identifier of a pre-release begins
  naught : Turn → State  -- behind the identifier `0`
  zeros : Turn → State  -- behind digits with a leading zero
  pre : Turn → State  -- in an identifier of a pre-release
  plus : Turn → State  -- where an identifier of a build begins
  build : Turn → State  -- in an identifier of a build

-- a part, of which so many come before it
abbrev pub part_step : Turn → ℕ → ℕ → Option State
part_step e k b =
    if (b == 48) || is_wild b then Some (whole e (suc k)) else if is_digit b then Some (digits e (suc k)) else None

-- an end of `A - B`
abbrev pub end_step : Turn → ℕ → Option State
end_step e b = if is_lead b then Some (lead e) else part_step e 0 b

-- a comparator
abbrev pub comparator_step : Turn → ℕ → Option State
comparator_step e b =
    if (b == 60) || (b == 62) then Some (sign 61) else if b == 126 then Some (sign 62) else if b == 94 then Some operand
    else if b == 61 then Some (equal e) else end_step e b

abbrev pub operand_step : ℕ → Option State
operand_step b = if is_space b then Some operand else end_step later b

abbrev pub after : Turn → State
after first = gap true
after later = gap false
after upper = closed

-- behind a version
abbrev pub after_step : Turn → ℕ → Option State
after_step e b = if is_space b then Some (after e) else if b == 124 then Some bar else None

-- behind parts
abbrev pub whole_step : Turn → ℕ → ℕ → Option State
whole_step e k b =
    if (b == 46) && nat_lt k 3 then Some (dot e k) else if (b == 45) && (k == 3) then Some (hyphen e)
    else if (b == 43) && (k == 3) then Some (plus e) else after_step e b

-- behind an identifier of a pre-release
abbrev pub pre_step : Turn → ℕ → Option State
pre_step e b = if b == 46 then Some (hyphen e) else if b == 43 then Some (plus e) else after_step e b

-- the next state, if this byte may come
abbrev pub step : State → ℕ → Option State
step start b = if is_space b then Some start else if b == 124 then Some bar else comparator_step first b
step (gap hyphens) b = if is_space b then Some (gap hyphens) else if b == 124 then Some bar
    else if hyphens && (b == 45) then Some dash else comparator_step later b
step closed b = if is_space b then Some closed else if b == 124 then Some bar else None
step bar b = if b == 124 then Some start else None
step dash b = if is_space b then Some far else None
step far b = if is_space b then Some far else end_step upper b
step (sign joins) b = if b == joins then Some operand else operand_step b
step (equal e) b = if is_space b then Some operand else end_step e b
step operand b = operand_step b
step (lead e) b = end_step e b
step (dot e k) b = part_step e k b
step (whole e k) b = whole_step e k b
step (digits e k) b = if is_digit b then Some (digits e k) else whole_step e k b
step (hyphen e) b = if b == 48 then Some (naught e) else if is_identifier_byte b then Some (pre e) else None
step (naught e) b = if is_digit b then Some (zeros e) else if is_identifier_byte b then Some (pre e) else pre_step e b
step (zeros e) b = if is_digit b then Some (zeros e) else if is_identifier_byte b then Some (pre e) else None
step (pre e) b = if is_identifier_byte b then Some (pre e) else pre_step e b
step (plus e) b = if is_identifier_byte b then Some (build e) else None
step (build e) b = if is_identifier_byte b then Some (build e) else if b == 46 then Some (plus e) else after_step e b

-- whether a text may end there
abbrev pub may_end : State → Bool
may_end start = true
may_end (gap hyphens) = true
may_end closed = true
may_end (whole e k) = true
may_end (digits e k) = true
may_end (naught e) = true
may_end (pre e) = true
may_end (build e) = true
may_end s = false

abbrev pub is_digits : State → Bool
is_digits (digits e k) = true
is_digits s = false

-- whether a number of 2^64 or more begins with this step
abbrev pub is_large : State → State → List ℕ → Bool
is_large s next text = is_digits next && not (is_digits s) && nat_le (2 ^ 64) (number_at text)

abbrev pub on_step : Option State → (State → Option Stop) → Option Stop → Option Stop
on_step None f stop = stop
on_step (Some s) f stop = f s

-- the first fault in a text, by how many bytes are left from its place on
abbrev pub first_fault : State → List ℕ → Option Stop
first_fault s [] = if may_end s then None else Some (Byte 0)
first_fault s (b ∷ rest) = on_step (step s b)
    (λ next. if is_large s next (b ∷ rest) then Some (Number (length (b ∷ rest))) else first_fault next rest)
    (Some (Byte (length (b ∷ rest))))

-- the same behind a whole version
abbrev pub fault_after : Turn → List ℕ → Option Stop
fault_after e [] = None
fault_after e (b ∷ rest) = on_step (after_step e b) (λ next. first_fault next rest) (Some (Byte (length (b ∷ rest))))

-- the same where a build may come
abbrev pub fault_build : Turn → List ℕ → Option Stop
fault_build e [] = None
fault_build e (b ∷ rest) = if b == 43 then first_fault (plus e) rest else fault_after e (b ∷ rest)

-- the same where a comparator must come
abbrev pub fault_comparator : Turn → List ℕ → Option Stop
fault_comparator e [] = Some (Byte 0)
fault_comparator e (b ∷ rest) = on_step (comparator_step e b)
    (λ next. if is_large start next (b ∷ rest) then Some (Number (length (b ∷ rest))) else first_fault next rest)
    (Some (Byte (length (b ∷ rest))))

-- behind an operator, where `=` without spaces behind it may still begin `A - B`
abbrev pub fault_signed : Sign → Turn → List ℕ → Option Stop
fault_signed x e text = if is_exact x && not (starts_with is_space text) then first_fault (lead e) text else first_fault operand text

-- a comparator with an operator isn't the lower end of `A - B`
abbrev pub turn_of : Bool → Turn → Turn
turn_of plain e = if plain then e else later
