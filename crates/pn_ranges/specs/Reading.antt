-- What the reader has read, and where it stops.
use Rattle.std.specs.Prelude.{◌≡◌, ◌⊎◌, ◌==◌, ℕ, ◌+◌, Bool, true, false, List, [], ◌∷◌, ◌++◌, Option, Some, if◌then◌else◌}
use Rattle.pn_ranges.specs.declared.comparator.Sign.{Sign}
use Rattle.pn_ranges.specs.declared.comparator.Sign.TheVariants as x
use Rattle.pn_ranges.specs.declared.fault.Stop.{Stop}
use Rattle.pn_ranges.specs.declared.fault.Stop.TheVariants as stop
use Rattle.pn_ranges.specs.Bytes.{is_space, starts_with}
use Rattle.pn_ranges.specs.Grammar.{AreComparators, AreGaps, AreRanges, AreSpaces, IsComparator, IsEnd, IsRange}
use Rattle.pn_ranges.specs.Limits.{Limit}
use Rattle.pn_ranges.specs.Table.{Named, all_fit, between}
use Rattle.pn_ranges.specs.Unread.{ends_range}

-- a text begins with something that spells v, and the rest is behind it
pub record Begins {V : Type 0} (Spelled : List ℕ → V → Type 0) (text : List ℕ) (v : V) (rest : List ℕ) : Type 0 where
  pub front : List ℕ
  pub split : text ≡ front ++ rest
  pub spelled : Spelled front v

-- a text begins with bytes that pass a test, and the rest is behind them
pub record Spanned (right : List ℕ → Bool) (text rest : List ℕ) : Type 0 where
  pub front : List ℕ
  pub split : text ≡ front ++ rest
  pub passes : right front ≡ true

-- a text begins so, and the rest is behind that
pub record Fronted (Right : List ℕ → Type 0) (text rest : List ℕ) : Type 0 where
  pub front : List ℕ
  pub split : text ≡ front ++ rest
  pub is : Right front

-- a comparator and what it says
abbrev pub IsCompared : List ℕ → Sign × Named → Type 0
IsCompared t v = IsComparator t v.0 v.1

-- an operator, which a `=` makes longer, and what is behind it
abbrev pub joined : Sign → Sign → List ℕ → Sign × List ℕ
joined s l [] = (s, [])
joined s l (b ∷ t) = if b == 61 then (l, t) else (s, b ∷ t)

-- what is behind a `~`, or a `~>`
abbrev pub tilded : List ℕ → List ℕ
tilded [] = []
tilded (b ∷ t) = if b == 62 then t else b ∷ t

-- the operator at the front, and what is behind it
abbrev pub signed : List ℕ → Sign × List ℕ
signed [] = (x.Exact, [])
signed (b ∷ t) =
    if b == 60 then joined x.Less x.AtMost t else if b == 62 then joined x.Greater x.AtLeast t else if b == 126 then (x.Tilde, tilded t)
    else if b == 94 then (x.Caret, t) else if b == 61 then (x.Exact, t) else (x.Exact, b ∷ t)

-- comparators and the spaces behind them
pub record ComparatorsAt (text : List ℕ) (k : ℕ) (ls : List Limit) (rest : List ℕ) : Type 0 where
  pub front : List ℕ
  pub spaces : List ℕ
  pub split : text ≡ front ++ (spaces ++ rest)
  pub read : AreComparators front k ls
  pub blank : AreSpaces spaces
  pub apart : ends_range rest ≡ false → starts_with is_space spaces ≡ true

-- a comparator and the spaces behind it
pub record SpacedAt (text : List ℕ) (x : Sign) (n : Named) (rest : List ℕ) : Type 0 where
  pub front : List ℕ
  pub spaces : List ℕ
  pub split : text ≡ front ++ (spaces ++ rest)
  pub read : IsComparator front x n
  pub blank : AreSpaces spaces
  pub apart : ends_range rest ≡ false → starts_with is_space spaces ≡ true

-- a lower end of `A - B` and the spaces behind it
pub record LowerAt (text : List ℕ) (n : Named) (rest : List ℕ) : Type 0 where
  pub front : List ℕ
  pub spaces : List ℕ
  pub split : text ≡ front ++ (spaces ++ rest)
  pub read : IsEnd front n
  pub blank : AreSpaces spaces
  pub apart : ends_range rest ≡ false → starts_with is_space spaces ≡ true

-- spaces, an upper end of `A - B` and the spaces behind it
pub record UpperAt (text : List ℕ) (n : Named) (rest : List ℕ) : Type 0 where
  pub gaps : List ℕ
  pub front : List ℕ
  pub spaces : List ℕ
  pub split : text ≡ gaps ++ (front ++ (spaces ++ rest))
  pub apart : AreGaps gaps
  pub read : IsEnd front n
  pub blank : AreSpaces spaces
  pub behind : ends_range rest ≡ false → starts_with is_space spaces ≡ true

-- the same with the limits that a lower end gives it
pub record HyphenAt (low : Named) (text : List ℕ) (ls : List Limit) (rest : List ℕ) : Type 0 where
  pub high : Named
  pub read : UpperAt text high rest
  pub limits : ls ≡ between low high
  pub fit : all_fit ls ≡ true

-- a range and the spaces behind it
pub record RangeAt (text : List ℕ) (k : ℕ) (ls : List Limit) (rest : List ℕ) : Type 0 where
  pub front : List ℕ
  pub spaces : List ℕ
  pub split : text ≡ front ++ (spaces ++ rest)
  pub read : IsRange front k ls
  pub blank : AreSpaces spaces

-- spaces, a range and the spaces behind it
pub record SpacedRange (text : List ℕ) (k : ℕ) (ls : List Limit) (rest : List ℕ) : Type 0 where
  pub lead : List ℕ
  pub front : List ℕ
  pub spaces : List ℕ
  pub split : text ≡ lead ++ (front ++ (spaces ++ rest))
  pub before : AreSpaces lead
  pub read : IsRange front k ls
  pub blank : AreSpaces spaces

-- how many bytes are left from the place of a stop on
abbrev pub left_of : Stop → ℕ
left_of (stop.Byte n) = n
left_of (stop.Number n) = n
left_of stop.Memory = 0

-- why the reader stops: by the first fault of the automaton, where no bound is raised, or by a bound that is raised
abbrev pub Stops : (ℕ → Type 0) → Type 0 → Option Stop → Stop → Type 0
Stops Over none found stop.Memory = Unit {0}
Stops Over none found (stop.Byte n) = (found ≡ Some (stop.Byte n)) × none
Stops Over none found (stop.Number n) = ((found ≡ Some (stop.Number n)) × none) ⊎ Over n

-- ranges with `||` behind each, which ranges behind them go on from
pub record RangesBefore (text rest : List ℕ) (count : ℕ) (ranges : List (List Limit)) : Type 0 where
  pub front : List ℕ
  pub split : text ≡ front ++ rest
  pub more : (t : List ℕ) (k : ℕ) (lss : List (List Limit)) → AreRanges t k lss → AreRanges (front ++ t) (count + k) (ranges ++ lss)
