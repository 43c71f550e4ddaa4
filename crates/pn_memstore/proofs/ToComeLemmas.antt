-- Lemmas on the entries of a schedule that had no turn yet.
use Rattle.std.proofs.Common.{◌≡◌, ℕ, zero, suc, ◌<◌, ◌+◌, List, [], ◌∷◌, length, get_or, drop, sym, ap, ◌∙◌, arith, add-one}
use Rattle.std.proofs.Math.Seq.{drop-cons}
use Rattle.pn_memstore.specs.Script.{Scheduled}

-- the entry at the front
pub next_entry : (xs : List Scheduled) (i : ℕ) (e : Scheduled) → i < length xs → e ≡ get_or xs i e → drop i xs ≡ e ∷ drop (suc i) xs
next_entry xs i e h is = drop-cons xs i e h ∙ ap (λ x. x ∷ drop (suc i) xs) (sym is)

front : (xs : List Scheduled) (i : ℕ) (e : Scheduled) (rest : List Scheduled) → drop i xs ≡ e ∷ rest → (i < length xs) × (drop (suc i) xs ≡ rest)
front [] zero e rest h = cc
front [] (suc i) e rest h = cc
front (x ∷ xs) zero e rest h = (omega arith, let same : xs ≡ rest = cc in same)
front (x ∷ xs) (suc i) e rest h = let later = front xs i e rest h in (omega arith, later.1)

pub within : (xs : List Scheduled) (i : ℕ) (e : Scheduled) (rest : List Scheduled) → drop i xs ≡ e ∷ rest → i < length xs
within xs i e rest h = (front xs i e rest h).0

pub passed : (xs : List Scheduled) (i : ℕ) (e : Scheduled) (rest : List Scheduled) → drop i xs ≡ e ∷ rest → drop (i + 1) xs ≡ rest
passed xs i e rest h = rw add-one ((front xs i e rest h).1)
