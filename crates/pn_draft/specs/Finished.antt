-- A draft's marks as planned entries.
use Rattle.std.specs.Prelude.{◌≡◌, ℕ, ◌<◌, ◌≤◌, List, ◌∷◌, ◌++◌, map, length, IsTrue, String, string_bytes}
use Rattle.std.specs.List.{Contains}
use Rattle.pn_text.specs.declared.limits.TheConstants.{PATH_LIMIT}
use Rattle.pn_text.specs.Path.{Path, is_path, text_below}
use Rattle.pn_digest.specs.declared.planned.Planned.{Planned}
use Rattle.pn_draft.specs.declared.fault.DraftFault.{DraftFault}
use Rattle.pn_draft.specs.declared.fault.DraftFault.TheVariants.{TooLong, Memory}
use Rattle.pn_draft.specs.Drawing.{Drawing, drawn, IsFirstLong}
use Rattle.pn_draft.specs.Sheets.{texts}

-- why a text that is in the grammar gives no path
abbrev pub IsPathRefused : List ℕ → DraftFault → Type 0
IsPathRefused text (TooLong n) = (n ≡ length text) × (PATH_LIMIT < length text)
IsPathRefused text Memory = Unit {0}

-- a path, and what is planned there
abbrev pub Item : Type 0
Item = Path × Planned

-- entries under their texts
abbrev pub placed : List Item → List (List ℕ × Planned)
placed entries = map (λ (e : Item). (text_below e.0, e.1)) entries

-- The entries are the marks, in order, each at a path that is not too long.
pub record Finishes {A : Type 0} (marks : List (String A × Planned)) (entries : List Item) : Type 0 where
  pub same : placed entries ≡ texts marks
  pub good : (e : Item) → Contains entries e → IsTrue (is_path e.0)
  pub short : (e : Item) → Contains entries e → length (text_below e.0) ≤ PATH_LIMIT

-- The first text that is too long.
pub record IsFirstLongMark {A : Type 0} (marks : List (String A × Planned)) (n : ℕ) : Type 0 where
  pub before : List (String A × Planned)
  pub mark : String A × Planned
  pub after : List (String A × Planned)
  pub split : marks ≡ before ++ mark ∷ after
  pub size : n ≡ length (string_bytes mark.0)
  pub long : PATH_LIMIT < n
  pub first : (e : String A × Planned) → Contains before e → length (string_bytes e.0) ≤ PATH_LIMIT

abbrev pub FinishRefused : {A : Type 0} → List (String A × Planned) → DraftFault → Type 0
FinishRefused marks (TooLong n) = IsFirstLongMark marks n
FinishRefused marks Memory = Unit {0}

-- why a draft gives no planned tree
abbrev pub DraftRefused : Drawing → DraftFault → Type 0
DraftRefused d (TooLong n) = IsFirstLong (drawn d) n
DraftRefused d Memory = Unit {0}
