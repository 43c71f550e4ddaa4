-- Where a text may be cut.
use Rattle.std.proofs.Common.{◌≡◌, ℕ, ◌<◌, ◌≤◌, length, get_or, arith, List, [], ◌∷◌, true}
use Rattle.std.specs.Str.{IsUtf8, IsCharBoundary}
use Rattle.std.proofs.lemmas.Bool.{eqb-true}
use Rattle.std.proofs.lemmas.Str.{IsCharBoundary-after_ascii}
use Rattle.pn_yaml.specs.Bytes.{starts}

-- behind the ASCII byte that a text begins with
pub behind_first : (b : ℕ) (text : List ℕ) → IsUtf8 text → b < 128 → starts b text ≡ true → IsCharBoundary text 1
behind_first b [] u low e = absurd cc
behind_first b (c ∷ rest) u low e =
    let same : c ≡ b = eqb-true c b e in
    IsCharBoundary-after_ascii (c ∷ rest) 0 u (omega arith) (omega arith)

pub behind_low : (text : List ℕ) → IsUtf8 text → 1 ≤ length text → get_or text 0 0 < 128 → IsCharBoundary text 1
behind_low text u some low = IsCharBoundary-after_ascii text 0 u (omega arith) low
