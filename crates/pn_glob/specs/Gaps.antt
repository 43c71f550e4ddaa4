-- Lists of pieces, some of them gaps, and the lists of items that they match.
use Rattle.std.specs.Prelude.{◌≡◌, ◌&&◌, ◌||◌, Bool, true, false, List, [], ◌∷◌, ◌++◌, if◌then◌else◌}
use Rattle.std.specs.List.{list_all}

-- which pieces are gaps, which items a gap may skip, and which item fits a piece that is no gap
pub record Rules (C A : Type 0) : Type 0 where
  pub is_gap : C → Bool
  pub may_skip : A → Bool
  pub fits : C → A → Bool

-- A gap stands for any run of items that may be skipped, each other piece for one item that fits.
pub data Matches {C A : Type 0} (r : Rules C A) : List C → List A → Type 0 where
  end : Matches r [] []
  gap : (c : C) (p : List C) (run t : List A) → r.is_gap c ≡ true → list_all r.may_skip run ≡ true → Matches r p t → Matches r (c ∷ p) (run ++ t)
  piece : (c : C) (p : List C) (a : A) (t : List A) → r.is_gap c ≡ false → r.fits c a ≡ true → Matches r p t → Matches r (c ∷ p) (a ∷ t)

-- whether a test holds of what is left behind some run of items that may be skipped
abbrev pub any_rest : {A : Type 0} → (A → Bool) → (List A → Bool) → List A → Bool
any_rest skip test [] = test []
any_rest skip test (a ∷ t) = test (a ∷ t) || (skip a && any_rest skip test t)

-- the same behind a run of one item at least
abbrev pub any_later : {A : Type 0} → (A → Bool) → (List A → Bool) → List A → Bool
any_later skip test [] = false
any_later skip test (a ∷ t) = skip a && any_rest skip test t

-- whether a test holds of the first item, and another of the others
abbrev pub first_and : {A : Type 0} → (A → Bool) → (List A → Bool) → List A → Bool
first_and first test [] = false
first_and first test (a ∷ t) = first a && test t

abbrev pub is_end : {A : Type 0} → List A → Bool
is_end [] = true
is_end (a ∷ t) = false

-- whether pieces match items
abbrev pub matches : {C A : Type 0} → Rules C A → List C → List A → Bool
matches r [] t = is_end t
matches r (c ∷ p) t = if r.is_gap c then any_rest r.may_skip (matches r p) t else first_and (r.fits c) (matches r p) t
