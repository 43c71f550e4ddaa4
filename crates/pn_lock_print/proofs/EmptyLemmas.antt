-- Lists that are empty, and others.
use Rattle.std.proofs.Common.{◌≡◌, ◌≢◌, List, [], length, ap, true, false}
use Rattle.std.specs.Prelude.{◌==◌}
use Rattle.std.proofs.lemmas.Bool.{eqb-true}
use Rattle.std.proofs.lemmas.List.{nil_from_length}

pub none_there : {A : Type 0} (xs : List A) → (length xs == 0) ≡ true → xs ≡ []
none_there xs h = nil_from_length xs (eqb-true (length xs) 0 h)

pub some_there : {A : Type 0} (xs : List A) → (length xs == 0) ≡ false → xs ≢ []
some_there xs h e = let t : (length xs == 0) ≡ true = ap (λ ys. length ys == 0) e in cc (t, h)
