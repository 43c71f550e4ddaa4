-- What is reached along edges.
use Rattle.std.proofs.Common.{◌≡◌, ℕ, sym, subst}
use Rattle.pn_components.specs.Graphs.{Reaches, itself, through}

pub onward : (L : ℕ → ℕ → Type 0) (a b c : ℕ) → Reaches L a b → Reaches L b c → Reaches L a c
onward L a b _ f itself = f
onward L a b _ f (through x y g l) = through x y (onward L a b x f g) l

-- along edges of one kind that are also of another
pub along : (L M : ℕ → ℕ → Type 0) → ((a b : ℕ) → L a b → M a b) → (a b : ℕ) → Reaches L a b → Reaches M a b
along L M turn a _ itself = itself
along L M turn a _ (through x y g l) = through x y (along L M turn a x g) (turn x y l)

-- between equal places
pub moved : (L : ℕ → ℕ → Type 0) (a a' b b' : ℕ) → a' ≡ a → b' ≡ b → Reaches L a b → Reaches L a' b'
moved L a a' b b' e f r = subst (λ (x : ℕ). Reaches L x b') (sym e) (subst (λ (y : ℕ). Reaches L a y) (sym f) r)
