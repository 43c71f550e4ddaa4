-- Each edge is taken or refused, and so all inputs have an answer.
use Rattle.std.specs.Prelude.{◌⊎◌, ℕ, List, Option}
use Rattle.pn_spec.specs.declared.spec.Spec.{Spec}
use Rattle.pn_spec.specs.Forms.{IsSpec}
use Rattle.pn_spec.specs.Refusals.{FitsNoForm}
use Rattle.pn_spec.specs.SpecTexts.{trimmed}
use Rattle.pn_walk.specs.declared.node.Node.{Node}
use Rattle.pn_walk.specs.declared.wish.Place.{Place}
use Rattle.pn_walk.specs.declared.wish.Wish.{Wish}
use Rattle.pn_walk.specs.Walks.{Turn, State, Takes}
use Rattle.pn_plain.specs.Aims.{Leads}
use Rattle.pn_plain.specs.Causes.{Cause, Refused}
use Rattle.pn_plain.specs.Given.{Given}
use Rattle.pn_plain.specs.Plains.{Inputs}
use Rattle.pn_manifest.specs.Said.{Said}
use Rattle.pn_plain.specs.Told.{Told, IsToldShelf, IsGap, IsToldNode, IsUnread, IsOverridden, IsToldPlain, IsToldUnplain}

-- A text is a specifier, or has no form of one.
abbrev pub IsReadable : List ℕ → Type 0
IsReadable text = ((s : Spec) × IsSpec text s) ⊎ FitsNoForm (trimmed text)

-- Overrides make something of each manifest.
abbrev pub IsTotal : Told → Type 0
IsTotal told = (m : Said) → (s : Said) × IsOverridden told m s

-- The edge is taken, and these packages are added.
pub record IsTaken (told : Told) (g : Given) (met : List Node) (w : Wish) : Type 0 where
  pub to : Option Place
  pub added : List Node
  pub takes : Takes (Leads (IsToldShelf told) g) (IsToldNode told) met w to added

-- The edge is refused.
pub record IsRefused (told : Told) (g : Given) (met : List Node) (e : Turn) : Type 0 where
  pub cause : Cause ℕ
  pub why : Refused (IsToldShelf told) (IsGap told) (IsToldNode told) (IsUnread told) g met e cause

-- No edge is left without an answer.
abbrev pub EdgeLaw : Told → Type 0
EdgeLaw told = IsTotal told → (g : Given) (met : List Node) (e : Turn) → IsReadable e.wish.specifier → IsTaken told g met e.wish ⊎ IsRefused told g met e

-- The inputs have a plain graph.
pub record HasPlain (told : Told) (i : Inputs) : Type 0 where
  pub state : State
  pub plain : IsToldPlain told i state

-- Or they are refused.
pub record HasRefusal (told : Told) (i : Inputs) : Type 0 where
  pub state : State
  pub cause : Cause ℕ
  pub unplain : IsToldUnplain told i state cause

-- No inputs are left without an answer.
abbrev pub AnswerLaw : Told → Type 0
AnswerLaw told = IsTotal told → ((text : List ℕ) → IsReadable text) → (i : Inputs) → HasPlain told i ⊎ HasRefusal told i
