-- Plain scalars, byte by byte.
use Rattle.std.proofs.Common.{◌≡◌, ℕ, List, [], ◌∷◌, ◌++◌, Bool, false, sym, ap, ◌∙◌, append_assoc}
use Rattle.std.specs.Prelude.{if◌then◌else◌}
use Rattle.pn_yaml.specs.declared.scalar.Place.{Place}
use Rattle.pn_yaml.specs.Scalars.{ends_plain, plain_front, plain_rest}

-- the bytes so far are of the scalar
pub record PlainSoFar (p : Place) (text front rest : List ℕ) : Type 0 where
  pub whole : text ≡ front ++ rest
  pub before : plain_front p text ≡ front ++ plain_front p rest
  pub behind : plain_rest p text ≡ plain_rest p rest

pub plain_more : (p : Place) (text front rest : List ℕ) (b : ℕ) (more : List ℕ) → PlainSoFar p text front rest → rest ≡ b ∷ more → ends_plain p (b ∷ more) ≡ false → PlainSoFar p text (front ++ b ∷ []) more
plain_more p text front rest b more so_far is goes = record {
  whole = so_far.whole ∙ ap (λ (r : List ℕ). front ++ r) is ∙ sym (append_assoc front (b ∷ []) more);
  before = so_far.before ∙ ap (λ (r : List ℕ). front ++ plain_front p r) is
      ∙ ap (λ (c : Bool). front ++ (if c then [] else b ∷ plain_front p more)) goes ∙ sym (append_assoc front (b ∷ []) (plain_front p more));
  behind = so_far.behind ∙ ap (plain_rest p) is ∙ ap (λ (c : Bool). if c then b ∷ more else plain_rest p more) goes;
}
