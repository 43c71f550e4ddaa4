-- The worked locks keep what locks keep.
use Rattle.std.proofs.Common.{◌≡◌, ℕ, zero, suc, Bool, List, [], ◌∷◌, ◌++◌, true, refl, sym, ap, ◌∙◌, subst, arith}
use Rattle.std.specs.Prelude.{nat_lt}
use Rattle.std.specs.List.{list_all}
use Rattle.std.specs.List.Sorted.{IsStrictlySortedBy}
use Rattle.std.proofs.lemmas.Bool.Decides.{nat_tests}
use Rattle.base64.specs.GeneralPurpose.{IsBytes}
use Rattle.semver.specs.Parse.{digits_from, scan}
use Rattle.pn_digest.specs.Digests.{IsDigest}
use Rattle.pn_text.proofs.Bools.{and_left, and_right}
use Rattle.pn_lock.specs.declared.lists.LockCatalog.{LockCatalog}
use Rattle.pn_lock.specs.declared.lists.LockImporter.{LockImporter}
use Rattle.pn_lock.specs.declared.lists.LockPackage.{LockPackage}
use Rattle.pn_lock.specs.declared.lists.LockSnapshot.{LockSnapshot}
use Rattle.pn_lock.specs.declared.lists.Override.{Override}
use Rattle.pn_lock.specs.Kept.{IsLock}
use Rattle.pn_lock.specs.Locks.{Locked, locked}
use Rattle.pn_lock_print.specs.LockSamples.{digest_of_none, one_of_each, two_packages}

-- lists of one item, and of two
pub one_is : {A : Type 0} (xs : List A) (x y : A) → xs ≡ x ∷ [] → x ≡ y → xs ≡ y ∷ []
one_is xs x y h e = h ∙ ap (λ z. z ∷ []) e

pub two_is : {A : Type 0} (zs xs : List A) (x y a b : A) → zs ≡ xs ++ y ∷ [] → xs ≡ x ∷ [] → x ≡ a → y ≡ b → zs ≡ a ∷ b ∷ []
two_is zs xs x y a b h k e f = h ∙ ap (λ l. l ++ y ∷ []) (one_is xs x a k e) ∙ ap (λ z. a ∷ z ∷ []) f

-- lists that are those of a lock
pub made : (l : Locked) (auto : Bool) (cs : List LockCatalog) (os : List Override) (is : List LockImporter) (ps : List LockPackage) (ss : List LockSnapshot) → IsLock l
    → auto ≡ l.auto → cs ≡ l.catalogs → os ≡ l.overrides → is ≡ l.importers → ps ≡ l.packages → ss ≡ l.snapshots → IsLock (locked auto cs os is ps ss)
made l auto cs os is ps ss k a c o i p s =
    subst IsLock
    (sym (ap (λ x. locked x cs os is ps ss) a ∙ ap (λ x. locked l.auto x os is ps ss) c ∙ ap (λ x. locked l.auto l.catalogs x is ps ss) o ∙ ap (λ x. locked l.auto l.catalogs l.overrides x ps ss) i
    ∙ ap (λ x. locked l.auto l.catalogs l.overrides l.importers x ss) p ∙ ap (λ x. locked l.auto l.catalogs l.overrides l.importers l.packages x) s)) k

bytes_below : (bs : List ℕ) → list_all (λ b. nat_lt b 256) bs ≡ true → IsBytes bs
bytes_below [] h i = omega arith
bytes_below (b ∷ bs) h zero = let l = and_left (nat_lt b 256) (list_all (λ b. nat_lt b 256) bs) h in grind (arith, nat_tests)
bytes_below (b ∷ bs) h (suc i) = bytes_below bs (and_right (nat_lt b 256) (list_all (λ b. nat_lt b 256) bs) h) i

digest_kept : IsDigest digest_of_none
digest_kept = (refl, bytes_below digest_of_none refl)

pub two_packages_kept : IsLock two_packages
unfolding IsStrictlySortedBy digits_from scan
two_packages_kept = record {
  importers = (record { folder = refl; dependencies = (record { name = refl; range = omega arith }, tt); dev = tt; optional = tt; dependencies_rise = (tt, tt); dev_rise = tt; optional_rise = tt; dev_apart = tt; optional_apart = tt }, tt);
  packages = (record { id = refl; integrity = digest_kept; peers = tt; optional = tt; peers_rise = tt; optional_rise = tt }, (record { id = refl; integrity = digest_kept; peers = tt; optional = tt; peers_rise = tt; optional_rise = tt }, tt));
  snapshots = (record { path = refl; locked = refl; dependencies = (record { name = refl; range = omega arith; other = refl }, tt); optional = tt; transitive = tt; dependencies_rise = (tt, tt); optional_rise = tt; transitive_rise = tt; optional_apart = tt }, (record { path = refl; locked = refl; dependencies = tt; optional = tt; transitive = tt; dependencies_rise = tt; optional_rise = tt; transitive_rise = tt; optional_apart = tt }, tt));
  catalogs = tt;
  catalogs_rise = tt;
  entries_rise = tt;
  overrides_rise = tt;
  importers_rise = (tt, tt);
  packages_rise = ((refl, tt), (tt, tt));
  snapshots_rise = ((refl, tt), (tt, tt));
  importers_few = omega arith;
  snapshots_few = omega arith;
}

pub one_of_each_kept : IsLock one_of_each
unfolding IsStrictlySortedBy digits_from scan
one_of_each_kept = record {
  importers = (record { folder = refl; dependencies = (record { name = refl; range = omega arith }, tt); dev = (record { name = refl; range = omega arith }, tt); optional = tt; dependencies_rise = (tt, tt); dev_rise = (tt, tt); optional_rise = tt; dev_apart = (refl, tt); optional_apart = tt }, tt);
  packages = (record { id = refl; integrity = digest_kept; peers = (refl, tt); optional = (refl, tt); peers_rise = (tt, tt); optional_rise = (tt, tt) }, tt);
  snapshots = (record { path = refl; locked = refl; dependencies = (record { name = refl; range = omega arith; other = refl }, tt); optional = (record { name = refl; range = omega arith; other = refl }, tt); transitive = (refl, tt); dependencies_rise = (tt, tt); optional_rise = (tt, tt); transitive_rise = (tt, tt); optional_apart = (refl, tt) }, tt);
  catalogs = (refl, tt);
  catalogs_rise = (tt, tt);
  entries_rise = ((tt, tt), tt);
  overrides_rise = (tt, tt);
  importers_rise = (tt, tt);
  packages_rise = (tt, tt);
  snapshots_rise = (tt, tt);
  importers_few = omega arith;
  snapshots_few = omega arith;
}
