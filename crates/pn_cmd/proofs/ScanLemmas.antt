-- Lemmas on the scan of the managed folder.
use Rattle.std.proofs.Common.{◌≡◌, ◌≢◌, ◌≤◌, ◌⊎◌, List, [], ◌∷◌, ◌++◌, refl, sym, ◌∙◌, subst, arith, length, Some, inl, inr, true}
use Rattle.pn_text.specs.declared.limits.TheConstants.{PATH_LIMIT}
use Rattle.pn_text.specs.Path.{Path, path_text, same_path}
use Rattle.pn_text.proofs.Bools.{or_cases}
use Rattle.pn_text.proofs.Members.{none_in, here}
use Rattle.pn_fs.specs.Tree.{Entry, folder, Tree, IsTree}
use Rattle.pn_fs.specs.Seen.{Seen, Taken}
use Rattle.pn_registry.specs.Below.{IsDistinct as NoneTwice}
use Rattle.pn_registry.proofs.Distinct.{no_longer}
use Rattle.pn_scan.specs.Managed.{Managed, is_below, is_within, HasEntry, IsOurs, AreOurs, AreApart}
use Rattle.pn_scan.specs.ScanFaults.{IsDistinct, IsForeign, IsForeignAt, no_folder, unmarked, HasFew, HasMany, ScanRefused}
use Rattle.pn_scan.specs.declared.fault.ScanFault.{ScanFault}
use Rattle.pn_scan.specs.declared.fault.ScanFault.TheVariants.{Foreign as FaultForeign, Entries as FaultEntries, Fault, Memory as NoMemory}
use Rattle.pn_scan.proofs.ManagedLemmas.{same_is, within_cases}
use Rattle.pn_storecore.specs.Seen.{Seen as Stored}
use Rattle.pn_cmd.specs.World.{world}
use Rattle.pn_cmd.specs.Points.{Refuses}
use Rattle.pn_cmd.specs.Scans.{Unscanned, managed_of, scan_status}

-- one folder is apart
pub one_apart : (m : Managed) → AreApart (m ∷ [])
one_apart m [] n [] is k c = absurd (none_in k c)
one_apart m [] n (x ∷ after) is k c = cc is
one_apart m (x ∷ []) n after is k c = cc is
one_apart m (x ∷ y ∷ before) n after is k c = cc is

-- the status of a refusal has its cause
pub scan_refused : (fault : ScanFault) (p : Path) (old new registry : Seen) (store : Stored) (out : Taken) → length (path_text p) ≤ PATH_LIMIT → ScanRefused (managed_of p) old new fault
    → Refuses (Unscanned p) (world old registry store out) (world new registry store out) (scan_status fault)
scan_refused (FaultForeign q) p old new registry store out fits h = (fits, h)
scan_refused FaultEntries p old new registry store out fits h = (fits, refl, h)
scan_refused Fault p old new registry store out fits h = (h, fits)
scan_refused NoMemory p old new registry store out fits h = tt

-- of one folder, it is that one
only : (t : Tree) (m : Managed) (q : Path) → IsForeign t (m ∷ []) q → IsForeignAt t m q
only t m q h = at h.before h.after h.is
  where
    at : (before after : List Managed) → m ∷ [] ≡ before ++ h.first ∷ after → IsForeignAt t m q
    at [] after is = let same : h.first ≡ m = cc is in subst (λ (n : Managed). IsForeignAt t n q) same h.why
    at (x ∷ []) after is = cc is
    at (x ∷ y ∷ before) after is = cc is

-- what is strictly above an entry is a folder
above : (t : Tree) → IsTree t → (p q : Path) (e : Entry) → is_below p q ≡ true → t q ≡ Some e → t p ≡ Some folder
above t tree p [] e below stands = cc below
above t tree p (x ∷ q) e below stands =
    let parent = tree.parents x q e stands in
    elim (or_cases (same_path q p) (is_below p q) below) [
      | inl h ↦ subst (λ z. t z ≡ Some folder) (same_is q p h) parent
      | inr h ↦ above t tree p q folder h parent
    ]

-- two paths at or above a third one
chained : (p q m : Path) → is_within p m ≡ true → is_within q m ≡ true → (p ≡ q) ⊎ ((is_below p q ≡ true) ⊎ (is_below q p ≡ true))
chained p q [] h k = elim (within_cases p [] h) [
  | inl a ↦ elim (within_cases q [] k) [ inl b ↦ inl (sym a ∙ b) | inr b ↦ cc b ]
  | inr a ↦ cc a
]
chained p q (x ∷ m) h k = elim (within_cases p (x ∷ m) h) [
  | inl a ↦ elim (within_cases q (x ∷ m) k) [
    | inl b ↦ inl (sym a ∙ b)
    | inr b ↦ inr (inr (subst (λ z. is_below q z ≡ true) a b))
  ]
  | inr a ↦ elim (within_cases q (x ∷ m) k) [
    | inl b ↦ inr (inl (subst (λ z. is_below p z ≡ true) b a))
    | inr b ↦ chained p q m a b
  ]
]

no_file : {C : Type 0} (t : Tree) (p : Path) (e : Entry) → t p ≡ Some e → e ≢ folder → t p ≡ Some folder → C
no_file t p e stands other is = let same : e ≡ folder = (let both : Some e ≡ Some folder = sym stands ∙ is in cc both) in absurd (other same)

-- what is at or above a folder with an entry is a folder
on_way : (t : Tree) → IsTree t → (m : Managed) (q : Path) → is_within q m.0 ≡ true → HasEntry t m.0 → t q ≡ Some folder
on_way t tree m q within has =
    let itself = tree.parents has.0 m.0 has.1 has.2 in
    elim (within_cases q m.0 within) [
      | inl same ↦ subst (λ z. t z ≡ Some folder) same itself
      | inr below ↦ above t tree q m.0 folder below itself
    ]

-- A folder isn't the installer's by one path.
at_once : (t : Tree) → IsTree t → (m : Managed) (p q : Path) → IsForeignAt t m p → IsForeignAt t m q → p ≡ q
at_once t tree m _ _ (no_folder p e within stands other) (no_folder q f also there not) = elim (chained p q m.0 within also) [
  | inl same ↦ same
  | inr apart ↦ elim apart [
    | inl below ↦ no_file t p e stands other (above t tree p q f below there)
    | inr below ↦ no_file t q f there not (above t tree q p e below stands)
  ]
]
at_once t tree m _ _ (no_folder p e within stands other) (unmarked has none) = no_file t p e stands other (on_way t tree m p within has)
at_once t tree m _ _ (unmarked has none) (no_folder q f also there not) = no_file t q f there not (on_way t tree m q also has)
at_once t tree m _ _ (unmarked has none) (unmarked had other) = refl

pub foreign_once : (t : Tree) → IsTree t → (p q r : Path) → IsForeign t (managed_of p) q → IsForeign t (managed_of p) r → q ≡ r
foreign_once t tree p q r h k = at_once t tree _ q r (only t _ q h) (only t _ r k)

foreign_at : (t : Tree) (m : Managed) (q : Path) → IsOurs t m → IsForeignAt t m q → ⊥
foreign_at t m _ own (no_folder p e within stands other) = other (own.folders p e within stands)
foreign_at t m _ own (unmarked has none) = elim own.marked [ inl marked ↦ none marked | inr empty ↦ empty has ]

-- a folder that is the installer's isn't foreign
pub not_foreign : (t : Tree) (p q : Path) → AreOurs t (managed_of p) → IsForeign t (managed_of p) q → ⊥
not_foreign t p q own h = foreign_at t _ q (own _ (here _ [])) (only t _ q h)

as_distinct : (ps : List Path) → IsDistinct ps → NoneTwice ps
as_distinct [] d = tt
as_distinct (p ∷ ps) d = (d.0, as_distinct ps d.1)

pub few_or_many : (t : Tree) (managed : List Managed) → HasFew t managed → HasMany t managed → ⊥
few_or_many t managed few many = omega (arith, no_longer many.paths few.paths (as_distinct many.paths many.distinct) (λ p c. few.all p (many.stand p c)), many.many, few.few)
