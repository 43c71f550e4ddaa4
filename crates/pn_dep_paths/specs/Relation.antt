-- The outer relation leads from an instance to those that its outer pairs lead to.
use Rattle.std.specs.Prelude.{◌≡◌, ◌<◌, ◌≤◌, ℕ, List, length, get_or}
use Rattle.pn_components.specs.Graphs.{Reaches}
use Rattle.pn_outer.specs.declared.instance.Goal.TheVariants.{Inst as to_instance}
use Rattle.pn_outer.specs.declared.instance.Instance.{Instance}
use Rattle.pn_outer.specs.declared.instance.Link.{Link}
use Rattle.pn_outer.specs.Outer.{IsOuter}

-- An outer pair of one instance leads to another.
pub record LeadsOut (instances : List Instance) (i j : ℕ) : Type 0 where
  pub pair : Link
  pub outer : IsOuter instances pair i
  pub to : pair.to ≡ to_instance (record { 0 = j })

-- two instances lead to each other, in one step or in several
abbrev pub AreTogether : List Instance → ℕ → ℕ → Type 0
AreTogether instances i j = Reaches (LeadsOut instances) i j × Reaches (LeadsOut instances) j i

-- Numbers of instances: those that lead to each other have one, and what an instance leads to has none that is greater.
pub record AreRanks (instances : List Instance) (numbers : List ℕ) : Type 0 where
  pub count : length numbers ≡ length instances
  pub few : (i : ℕ) → i < length instances → get_or numbers i 0 < length instances
  pub lower : (i j : ℕ) → LeadsOut instances i j → get_or numbers j 0 ≤ get_or numbers i 0
  pub same : (i j : ℕ) → LeadsOut instances i j → get_or numbers j 0 ≡ get_or numbers i 0 → AreTogether instances i j
  pub one : (i j : ℕ) → LeadsOut instances i j → AreTogether instances i j → get_or numbers j 0 ≡ get_or numbers i 0
