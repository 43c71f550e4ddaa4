-- Laws of patterns in the subject's own words.
use Rattle.std.specs.Prelude.{◌≡◌, ◌≢◌, ◌↔◌, ◌&&◌, not, ℕ, true, false, List, [], ◌∷◌, ◌++◌}
use Rattle.std.specs.List.{list_all}
use Rattle.pn_glob.specs.declared.fault.GlobFault.{GlobFault}
use Rattle.pn_glob.specs.declared.fault.GlobFault.TheVariants as fault
use Rattle.pn_glob.specs.declared.kind.Kind.{Kind}
use Rattle.pn_glob.specs.declared.kind.Kind.TheVariants.{Paths, Names}
use Rattle.pn_glob.specs.Bytes.{is_hidden, is_star, parts}
use Rattle.pn_glob.specs.Gaps.{Matches, matches}
use Rattle.pn_glob.specs.Lists.{AreNames, ArePaths, ReadAll, Refused}
use Rattle.pn_glob.specs.Matching.{Patterns, byte_rules, fits, list_matches, part_rules}

-- Patterns match exactly what the relation of gaps and pieces says: names byte by byte, paths part by part.
pub record MatchingLaw : Type 0 where
  pub bytes : (kind : Kind) (p t : List ℕ) → (matches (byte_rules kind) p t ≡ true) ↔ Matches (byte_rules kind) p t
  pub paths : (p t : List ℕ) → (fits Paths p t ≡ true) ↔ Matches part_rules (parts p) (parts t)

-- A name pattern without `*` matches exactly its own text.
abbrev pub LiteralLaw : Type 0
LiteralLaw = (p t : List ℕ) → list_all (λ b. not (is_star b)) p ≡ true → (fits Names p t ≡ true) ↔ (p ≡ t)

-- `*` matches each name, and exactly the paths of one part that doesn't begin with `.`.
pub record StarLaw : Type 0 where
  pub names : (t : List ℕ) → fits Names (42 ∷ []) t ≡ true
  pub paths : (t : List ℕ) → (fits Paths (42 ∷ []) t ≡ true) ↔ ((parts t ≡ t ∷ []) × (is_hidden t ≡ false))

-- A negative pattern takes away what it matches and nothing else.
abbrev pub NegativeLaw : Type 0
NegativeLaw = (kind : Kind) (ps ns : List (List ℕ)) (n t : List ℕ)
    → list_matches record { kind = kind; positive = ps; negative = ns ++ n ∷ [] } t
    ≡ (list_matches record { kind = kind; positive = ps; negative = ns } t && not (fits kind n t))

-- Texts have one answer, memory aside: what they are read as is one value, no texts are both read and refused, and texts
-- are refused with one fault.
pub record SettledLaw : Type 0 where
  pub read : (kind : Kind) (texts ps qs ns ms : List (List ℕ)) → ReadAll kind texts ps ns → ReadAll kind texts qs ms → (ps ≡ qs) × (ns ≡ ms)
  pub paths : (texts : List (List ℕ)) (l m : Patterns) → ArePaths texts l → ArePaths texts m → l ≡ m
  pub names : (texts : List (List ℕ)) (l m : Patterns) → AreNames texts l → AreNames texts m → l ≡ m
  pub unread : (kind : Kind) (texts ps ns : List (List ℕ)) (e : GlobFault) → e ≢ fault.Memory → Refused kind texts e → ReadAll kind texts ps ns → ⊥
  pub refusal : (kind : Kind) (texts : List (List ℕ)) (e f : GlobFault) → e ≢ fault.Memory → f ≢ fault.Memory → Refused kind texts e → Refused kind texts f
      → e ≡ f
