-- Lists of patterns as they are read, one pattern after another.
use Rattle.std.specs.Prelude.{◌≡◌, ℕ, List, ◌++◌, length, if◌then◌else◌}
use Rattle.pn_glob.specs.declared.fault.Bad.{Bad}
use Rattle.pn_glob.specs.declared.fault.Bad.TheVariants as bad
use Rattle.pn_glob.specs.declared.fault.GlobFault.{GlobFault}
use Rattle.pn_glob.specs.declared.fault.GlobFault.TheVariants as fault
use Rattle.pn_glob.specs.declared.kind.Kind.{Kind}
use Rattle.pn_glob.specs.Lists.{IsBadAt, IsLarge, ReadAll, Reads, is_negative}

-- why a pattern isn't read
abbrev pub IsBad : Kind → List ℕ → Bad → Type 0
IsBad kind text (bad.At at) = IsBadAt kind text at
IsBad kind text bad.TooMany = IsLarge kind text
IsBad kind text bad.Memory = Unit {0}

abbrev pub fault_of : ℕ → Bad → GlobFault
fault_of index (bad.At at) = fault.BadByte index at
fault_of index bad.TooMany = fault.TooMany
fault_of index bad.Memory = fault.Memory

-- the texts of one more pattern
pub record Added (kind : Kind) (text : List ℕ) (positive positive' negative negative' : List (List ℕ)) : Type 0 where
  pub texts : List (List ℕ)
  pub reads : Reads kind text texts
  pub positives : positive' ≡ (if is_negative text then positive else positive ++ texts)
  pub negatives : negative' ≡ (if is_negative text then negative ++ texts else negative)

-- the patterns before those that are left
pub record ReadBefore (kind : Kind) (texts left : List (List ℕ)) (index : ℕ) (positive negative : List (List ℕ)) : Type 0 where
  pub front : List (List ℕ)
  pub split : texts ≡ front ++ left
  pub read : ReadAll kind front positive negative
  pub place : index ≡ length front
