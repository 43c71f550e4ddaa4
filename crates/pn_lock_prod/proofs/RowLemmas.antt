-- The small lock keeps what locks keep.
use Rattle.std.proofs.Common.{◌≡◌, ℕ, zero, suc, Bool, List, [], ◌∷◌, true, refl, sym, ap, ◌∙◌, subst, arith}
use Rattle.std.specs.Prelude.{nat_lt, replicate}
use Rattle.std.specs.List.{list_all}
use Rattle.std.specs.List.Sorted.{IsStrictlySortedBy}
use Rattle.std.proofs.lemmas.Bool.Decides.{nat_tests}
use Rattle.base64.specs.GeneralPurpose.{IsBytes}
use Rattle.semver.specs.Parse.{digits_from, scan}
use Rattle.pn_digest.specs.Digests.{IsDigest}
use Rattle.pn_text.proofs.Bools.{and_left, and_right}
use Rattle.pn_lock.specs.declared.lists.LockCatalog.{LockCatalog}
use Rattle.pn_lock.specs.declared.lists.LockImporter.{LockImporter}
use Rattle.pn_lock.specs.declared.lists.LockPackage.{LockPackage}
use Rattle.pn_lock.specs.declared.lists.LockSnapshot.{LockSnapshot}
use Rattle.pn_lock.specs.declared.lists.Override.{Override}
use Rattle.pn_lock.specs.Kept.{IsLock}
use Rattle.pn_lock.specs.Locks.{Locked, locked}
use Rattle.pn_lock_prod.specs.Rows.{lock}

pub made : (l : Locked) (auto : Bool) (cs : List LockCatalog) (os : List Override) (is : List LockImporter) (ps : List LockPackage) (ss : List LockSnapshot) → IsLock l
    → auto ≡ l.auto → cs ≡ l.catalogs → os ≡ l.overrides → is ≡ l.importers → ps ≡ l.packages → ss ≡ l.snapshots → IsLock (locked auto cs os is ps ss)
made l auto cs os is ps ss k a c o i p s =
    subst IsLock
    (sym (ap (λ x. locked x cs os is ps ss) a ∙ ap (λ x. locked l.auto x os is ps ss) c ∙ ap (λ x. locked l.auto l.catalogs x is ps ss) o ∙ ap (λ x. locked l.auto l.catalogs l.overrides x ps ss) i
    ∙ ap (λ x. locked l.auto l.catalogs l.overrides l.importers x ss) p ∙ ap (λ x. locked l.auto l.catalogs l.overrides l.importers l.packages x) s)) k

bytes_below : (bs : List ℕ) → list_all (λ b. nat_lt b 256) bs ≡ true → IsBytes bs
bytes_below [] h i = omega arith
bytes_below (b ∷ bs) h zero = let l = and_left (nat_lt b 256) (list_all (λ b. nat_lt b 256) bs) h in grind (arith, nat_tests)
bytes_below (b ∷ bs) h (suc i) = bytes_below bs (and_right (nat_lt b 256) (list_all (λ b. nat_lt b 256) bs) h) i

digest_kept : IsDigest (replicate 64 7)
digest_kept = (refl, bytes_below (replicate 64 7) refl)

pub lock_kept : IsLock lock
unfolding IsStrictlySortedBy digits_from scan
lock_kept = record {
  importers = (record { folder = refl; dependencies = (record { name = refl; range = omega arith }, tt); dev = (record { name = refl; range = omega arith }, tt); optional = tt; dependencies_rise = (tt, tt); dev_rise = (tt, tt); optional_rise = tt; dev_apart = (refl, tt); optional_apart = tt }, tt);
  packages = (record { id = refl; integrity = digest_kept; peers = tt; optional = tt; peers_rise = tt; optional_rise = tt }, (record { id = refl; integrity = digest_kept; peers = tt; optional = tt; peers_rise = tt; optional_rise = tt }, tt));
  snapshots = (record { path = refl; locked = refl; dependencies = (record { name = refl; range = omega arith; other = refl }, tt); optional = tt; transitive = tt; dependencies_rise = (tt, tt); optional_rise = tt; transitive_rise = tt; optional_apart = tt }, (record { path = refl; locked = refl; dependencies = tt; optional = tt; transitive = tt; dependencies_rise = tt; optional_rise = tt; transitive_rise = tt; optional_apart = tt }, tt));
  catalogs = tt;
  catalogs_rise = tt;
  entries_rise = tt;
  overrides_rise = tt;
  importers_rise = (tt, tt);
  packages_rise = ((refl, tt), (tt, tt));
  snapshots_rise = ((refl, tt), (tt, tt));
  importers_few = omega arith;
  snapshots_few = omega arith;
}
