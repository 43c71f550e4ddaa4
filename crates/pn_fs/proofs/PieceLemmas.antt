-- Lemmas on a file that is read in pieces.
use Rattle.std.proofs.Common.{◌≡◌, ℕ, ◌+◌, ◌≤◌, List, ◌++◌, length, take, drop, sym, ap, ◌∙◌, arith, Some}
use Rattle.std.specs.Prelude.{Option, IfSome}
use Rattle.std.specs.Option.{ForSome}
use Rattle.std.proofs.Math.Seq.{take-add}
use Rattle.pn_text.specs.Path.{Path}
use Rattle.pn_text.proofs.Results.{for_some}
use Rattle.pn_fs.specs.Tree.{Entry, file, Tree}
use Rattle.pn_fs.specs.Pieces.{IsPiece}

-- the first bytes of the file that stands there
pub record IsFront (e : Option Entry) (bytes : List ℕ) (at : ℕ) : Type 0 where
  pub whole : List ℕ
  pub is : e ≡ Some (file whole)
  pub front : bytes ≡ take at whole
  pub within : at ≤ length whole

pub grown_front : (e : Option Entry) (bytes into : List ℕ) (at n : ℕ) → IsFront e bytes at → IsPiece e at into n → IsFront e (bytes ++ take n into) (at + n)
grown_front e bytes into at n f p =
    let same : p.bytes ≡ f.whole = cc (f.is, p.is) in
    record {
      whole = f.whole;
      is = f.is;
      front = ap (λ x. bytes ++ x) (p.came ∙ ap (λ b. take n (drop at b)) same) ∙ ap (λ x. x ++ take n (drop at f.whole)) f.front ∙ sym (take-add at n f.whole);
      within = omega (arith, p.inside (omega (arith, f.within, ap length same)), ap length same);
    }

-- a piece of the file, as the call tells it after others that only read
pub piece_of : (registry mid : Option Tree) (from : Path) (at n : ℕ) (into : List ℕ) → mid ≡ registry → IfSome mid (λ r. IsPiece (r from) at into n) → ForSome registry (λ r. IsPiece (r from) at into n)
piece_of registry mid from at n into same h r told = for_some (λ r. IsPiece (r from) at into n) mid h r (same ∙ told)
