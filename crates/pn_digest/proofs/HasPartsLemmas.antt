-- The parts of a file's line.
use Rattle.std.proofs.Common.{◌≡◌, ℕ, List, ◌∷◌, sym, ◌∙◌, None, Some}
use Rattle.std.specs.Prelude.{◌↔◌}
use Rattle.hex.specs.Hex.{encode_lower}
use Rattle.pn_digest.specs.Digests.{IsDigest}
use Rattle.pn_digest.specs.Listing.{rel_text}
use Rattle.pn_digest.specs.Lines.{HasParts, IsFileLine, IsPathText}
use Rattle.pn_digest.proofs.IsDigestLemmas.{length-hex}
use Rattle.pn_digest.proofs.ListingTextLemmas.{parts_same}
use Rattle.pn_text.proofs.Bytes.{same_rest}

-- a file's line has the digits and the path's text
pub file_parts : (line : List ℕ) → (f : IsFileLine line) → HasParts line (encode_lower f.0.1) (rel_text f.0.0)
file_parts line f = record { whole = f.2; sized = length-hex f.0.1 f.1.digest }

pub no_parts : (line : List ℕ) → ((digits path : List ℕ) → HasParts line digits path → ⊥) → IsFileLine line → ⊥
no_parts line none f = none (encode_lower f.0.1) (rel_text f.0.0) (file_parts line f)

-- and no others
parts_are : (line digits path : List ℕ) → HasParts line digits path → (f : IsFileLine line) → (digits ≡ encode_lower f.0.1) × (32 ∷ path ≡ 32 ∷ rel_text f.0.0)
parts_are line digits path h f =
    let g = file_parts line f in
    parts_same digits (encode_lower f.0.1) (32 ∷ path) (32 ∷ rel_text f.0.0) (h.sized ∙ sym g.sized) (sym h.whole ∙ g.whole)

none_some : (d : List ℕ) → None ≡ Some d → ⊥
none_some d e = cc

pub no_digits : (line digits path : List ℕ) → HasParts line digits path → ((d : List ℕ) → (None ≡ Some d) ↔ ((digits ≡ encode_lower d) × IsDigest d)) → IsFileLine line → ⊥
no_digits line digits path h exact f = none_some f.0.1 ((exact f.0.1).1 ((parts_are line digits path h f).0, f.1.digest))

pub its_path : (line digits path : List ℕ) → HasParts line digits path → IsFileLine line → IsPathText path
its_path line digits path h f =
    (f.0.0, f.1.path, same_rest 32 32 path (rel_text f.0.0) (parts_are line digits path h f).1)
