-- What stands behind a backslash.
use Rattle.std.specs.Prelude.{ℕ, ◌+◌, ◌*◌, ◌==◌, List, [], ◌∷◌, Result, Ok, if◌then◌else◌}
use Rattle.pn_yaml.specs.declared.fault.Why.TheVariants as why
use Rattle.pn_yaml.specs.declared.fault.YamlFault.{YamlFault}
use Rattle.pn_yaml.specs.Outcome.{◌>>=◌, wrong}
use Rattle.pn_yaml.specs.Scalars.{on_some, escape_of, digit_of, is_surrogate}

-- a hexadecimal digit
abbrev pub digit_at : ℕ → List ℕ → Result (ℕ × List ℕ) YamlFault
digit_at line [] = wrong line why.Escape
digit_at line (b ∷ rest) = on_some (digit_of b) (λ d. Ok (d, rest)) (wrong line why.Escape)

-- a number and two more digits of it
unfoldable pub two_at : ℕ → ℕ → List ℕ → Result (ℕ × List ℕ) YamlFault
two_at line value text = digit_at line text >>= λ a. digit_at line a.1 >>= λ b. Ok ((value * 16 + a.0) * 16 + b.0, b.1)

-- a character with this code
abbrev pub character : ℕ → ℕ → List ℕ → Result (ℕ × List ℕ) YamlFault
character line code rest = if is_surrogate code then wrong line why.Escape else Ok (code, rest)

-- a character by its code, of so many digits
unfoldable pub code_at : ℕ → ℕ → List ℕ → Result (ℕ × List ℕ) YamlFault
code_at line b text =
    if b == 120 then two_at line 0 text >>= (λ v. character line v.0 v.1)
    else if b == 117 then two_at line 0 text >>= (λ v. two_at line v.0 v.1 >>= λ w. character line w.0 w.1)
    else wrong line why.Escape

-- a character by what is behind its backslash
unfoldable pub escape_at : ℕ → List ℕ → Result (ℕ × List ℕ) YamlFault
escape_at line [] = wrong line why.Escape
escape_at line (b ∷ rest) = on_some (escape_of b) (λ c. Ok (c, rest)) (code_at line b rest)
