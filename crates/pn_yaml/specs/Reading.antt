-- What the functions that read give, as contracts see it.
use Rattle.std.specs.Prelude.{◌≡◌, ℕ, List, ◌++◌, ◌==◌, ◌||◌, true, false}
use Rattle.std.specs.List.{list_any}
use Rattle.pn_yaml.specs.declared.node.Scalar.{Scalar}
use Rattle.pn_yaml.specs.declared.scalar.Place.{Place}
use Rattle.pn_yaml.specs.Bytes.{is_empty, starts}
use Rattle.pn_yaml.specs.Cuts.{is_cut}
use Rattle.pn_yaml.specs.Scalars.{Word, plain_front, plain_rest}

-- the scalar that was read
abbrev pub word_of : Scalar → Word
word_of s = record { text = s.text; plain = s.plain }

-- a plain scalar of the text ends where these bytes begin
pub record EndsPlain (p : Place) (text rest : List ℕ) : Type 0 where
  pub whole : text ≡ plain_front p text ++ rest
  pub behind : rest ≡ plain_rest p text
  pub cut : is_cut rest ≡ true

-- a text before the first one of two bytes, and from there on
pub record EndsAt (a b : ℕ) (text front rest : List ℕ) : Type 0 where
  pub whole : text ≡ front ++ rest
  pub free : list_any (λ c. c == a || c == b) front ≡ false
  pub ended : is_empty rest || starts a rest || starts b rest ≡ true
