-- Lists of patterns, and why they are refused.
use Rattle.std.specs.Prelude.{◌≡◌, ◌⊎◌, ℕ, ◌+◌, ◌-◌, ◌==◌, ◌&&◌, Bool, true, false, List, [], ◌∷◌, ◌++◌, length, if◌then◌else◌}
use Rattle.std.specs.List.{list_all}
use Rattle.pn_glob.specs.declared.fault.GlobFault.{GlobFault}
use Rattle.pn_glob.specs.declared.fault.GlobFault.TheVariants as fault
use Rattle.pn_glob.specs.declared.kind.Kind.{Kind}
use Rattle.pn_glob.specs.declared.kind.Kind.TheVariants.{Paths, Names}
use Rattle.pn_glob.specs.Bytes.{is_bracket}
use Rattle.pn_glob.specs.Grammar.{HasBadByte, HasMany, IsOpen, Spells, is_plain}
use Rattle.pn_glob.specs.Matching.{Patterns}

-- a leading `!` makes a pattern negative
abbrev pub is_negative : List ℕ → Bool
is_negative [] = false
is_negative (b ∷ t) = b == 33

abbrev pub behind_bang : List ℕ → List ℕ
behind_bang [] = []
behind_bang (b ∷ t) = if b == 33 then t else b ∷ t

-- without a leading `./`
abbrev pub behind_dot : List ℕ → List ℕ
behind_dot [] = []
behind_dot (b ∷ []) = b ∷ []
behind_dot (b ∷ c ∷ t) = if (b == 46) && (c == 47) then t else b ∷ c ∷ t

-- without a final `/`
abbrev pub before_slash : List ℕ → List ℕ
before_slash [] = []
before_slash (b ∷ []) = if b == 47 then [] else b ∷ []
before_slash (b ∷ c ∷ t) = b ∷ before_slash (c ∷ t)

-- a pattern without its `!`, and for paths without a leading `./`
abbrev pub tail_of : Kind → List ℕ → List ℕ
tail_of Paths text = behind_dot (behind_bang text)
tail_of Names text = behind_bang text

-- Name patterns have no brackets and stand for themselves.
pub record IsName (body : List ℕ) (cs : List (List ℕ)) : Type 0 where
  pub plain : list_all is_plain body ≡ true
  pub itself : cs ≡ body ∷ []

-- the texts without braces that a pattern stands for
abbrev pub Reads : Kind → List ℕ → List (List ℕ) → Type 0
Reads Paths text cs = Spells (before_slash (tail_of Paths text)) cs
Reads Names text cs = IsName (tail_of Names text) cs

-- all of a list's patterns, and the texts that its positive and its negative ones stand for
pub data ReadAll (kind : Kind) : List (List ℕ) → List (List ℕ) → List (List ℕ) → Type 0 where
  none : ReadAll kind [] [] []
  positive : (ts ps ns cs : List (List ℕ)) (t : List ℕ) → ReadAll kind ts ps ns → is_negative t ≡ false → Reads kind t cs
      → ReadAll kind (ts ++ t ∷ []) (ps ++ cs) ns
  negative : (ts ps ns cs : List (List ℕ)) (t : List ℕ) → ReadAll kind ts ps ns → is_negative t ≡ true → Reads kind t cs
      → ReadAll kind (ts ++ t ∷ []) ps (ns ++ cs)

-- Where all are negative and some are, `*` is added.
abbrev pub or_star : List (List ℕ) → List (List ℕ) → List (List ℕ)
or_star [] [] = []
or_star [] (n ∷ ns) = (42 ∷ []) ∷ []
or_star (p ∷ ps) ns = p ∷ ps

pub record ArePaths (texts : List (List ℕ)) (l : Patterns) : Type 0 where
  pub kind : l.kind ≡ Paths
  pub read : ReadAll Paths texts l.positive l.negative

pub record AreNames (texts : List (List ℕ)) (l : Patterns) : Type 0 where
  pub kind : l.kind ≡ Names
  pub written : List (List ℕ)
  pub read : ReadAll Names texts written l.negative
  pub positive : l.positive ≡ or_star written l.negative

-- the first bracket of a name pattern
pub record HasBracket (body : List ℕ) (at : ℕ) : Type 0 where
  pub front : List ℕ
  pub byte : ℕ
  pub after : List ℕ
  pub split : body ≡ front ++ byte ∷ after
  pub plain : list_all is_plain front ≡ true
  pub bracket : is_bracket byte ≡ true
  pub place : at ≡ length front

-- the place behind what was taken off the front of a pattern
abbrev pub moved : Kind → List ℕ → ℕ → ℕ
moved kind text at = length text - length (tail_of kind text) + at

-- the first byte at which no reading goes on, or the length where the text ends too early
abbrev pub IsBadAt : Kind → List ℕ → ℕ → Type 0
IsBadAt Paths text at =
    ((k : ℕ) × HasBadByte (before_slash (tail_of Paths text)) k × (at ≡ moved Paths text k))
    ⊎ (IsOpen (before_slash (tail_of Paths text)) × (at ≡ length text))
IsBadAt Names text at = (k : ℕ) × HasBracket (tail_of Names text) k × (at ≡ moved Names text k)

abbrev pub IsLarge : Kind → List ℕ → Type 0
IsLarge Paths text = HasMany (before_slash (tail_of Paths text))
IsLarge Names text = ⊥

-- a pattern of a list, behind others that are read
pub record Met (kind : Kind) (texts : List (List ℕ)) (text : List ℕ) (index : ℕ) : Type 0 where
  pub front : List (List ℕ)
  pub after : List (List ℕ)
  pub positive : List (List ℕ)
  pub negative : List (List ℕ)
  pub split : texts ≡ front ++ text ∷ after
  pub read : ReadAll kind front positive negative
  pub place : index ≡ length front

-- why a list of patterns is refused: its first pattern that is outside the grammar or stands for too many texts
abbrev pub Refused : Kind → List (List ℕ) → GlobFault → Type 0
Refused kind texts (fault.BadByte index at) = (text : List ℕ) × Met kind texts text index × IsBadAt kind text at
Refused kind texts fault.TooMany = (text : List ℕ) × (index : ℕ) × Met kind texts text index × IsLarge kind text
Refused kind texts fault.Memory = Unit {0}
