-- The small workspace keeps what locks keep, and is placed.
use Rattle.std.proofs.Common.{◌≡◌, ◌≢◌, ◌≤◌, ℕ, zero, suc, List, [], ◌∷◌, ◌++◌, get_or, length, length-append, true, false, refl, sym, ap, subst, arith, inl, inr}
use Rattle.std.specs.Prelude.{codes, nat_lt, replicate}
use Rattle.std.specs.List.{Contains, list_all}
use Rattle.std.specs.List.Sorted.{IsStrictlySortedBy}
use Rattle.std.proofs.lemmas.Bool.Decides.{nat_tests}
use Rattle.base64.specs.GeneralPurpose.{IsBytes}
use Rattle.semver.specs.Parse.{digits_from, scan}
use Rattle.pn_digest.specs.Digests.{IsDigest}
use Rattle.pn_digest.specs.Listing.{Entry}
use Rattle.pn_text.proofs.Bools.{and_left, and_right}
use Rattle.pn_text.proofs.Members.{here, in_cons, in_one, none_in}
use Rattle.pn_text.specs.declared.limits.TheConstants.{PATH_LIMIT}
use Rattle.pn_text.specs.Name.{holds_modules, modules}
use Rattle.pn_text.specs.Path.{Path, path_text, tail_of}
use Rattle.pn_lock.specs.declared.lists.LockCatalog.{LockCatalog}
use Rattle.pn_lock.specs.declared.lists.LockImporter.{LockImporter}
use Rattle.pn_lock.specs.declared.lists.LockPackage.{LockPackage}
use Rattle.pn_lock.specs.declared.lists.LockSnapshot.{LockSnapshot}
use Rattle.pn_lock.specs.declared.lists.Override.{Override}
use Rattle.pn_lock.specs.Kept.{IsLock}
use Rattle.pn_lock.specs.Locks.{locked}
use Rattle.pn_lock_layout.specs.Placed.{AreListings, IsCleanListing, IsPlaced}
use Rattle.pn_lock_layout.specs.Places.{default_store, folder_of, modules_of}
use Rattle.pn_lock_layout.specs.Rows.{importers, lock, other_project, packages, root_project, snapshots, w}

pub made : (is : List LockImporter) (ps : List LockPackage) (ss : List LockSnapshot) (cs : List LockCatalog) (os : List Override) → IsLock lock → cs ≡ [] → os ≡ [] → is ≡ importers → ps ≡ packages → ss ≡ snapshots → IsLock (locked true cs os is ps ss)
made is ps ss cs os k c o i p s = subst IsLock (sym (λ j. locked true (c j) (o j) (i j) (p j) (s j))) k

bytes_below : (bs : List ℕ) → list_all (λ b. nat_lt b 256) bs ≡ true → IsBytes bs
bytes_below [] h i = omega arith
bytes_below (b ∷ bs) h zero = let l = and_left (nat_lt b 256) (list_all (λ b. nat_lt b 256) bs) h in grind (arith, nat_tests)
bytes_below (b ∷ bs) h (suc i) = bytes_below bs (and_right (nat_lt b 256) (list_all (λ b. nat_lt b 256) bs) h) i

digest_kept : IsDigest (replicate 64 7)
digest_kept = (refl, bytes_below (replicate 64 7) refl)

pub lock_kept : IsLock lock
unfolding IsStrictlySortedBy digits_from scan
lock_kept = record {
  importers = (
    record { folder = refl; dependencies = (record { name = refl; range = omega arith }, tt); dev = (record { name = refl; range = omega arith }, tt); optional = tt; dependencies_rise = (tt, tt); dev_rise = (tt, tt); optional_rise = tt; dev_apart = (refl, tt); optional_apart = tt },
    (record { folder = refl; dependencies = (record { name = refl; range = omega arith }, tt); dev = tt; optional = tt; dependencies_rise = (tt, tt); dev_rise = tt; optional_rise = tt; dev_apart = tt; optional_apart = tt }, tt),
  );
  packages = (record { id = refl; integrity = digest_kept; peers = tt; optional = tt; peers_rise = tt; optional_rise = tt }, (record { id = refl; integrity = digest_kept; peers = tt; optional = tt; peers_rise = tt; optional_rise = tt }, tt));
  snapshots = (
    record { path = refl; locked = refl; dependencies = (record { name = refl; range = omega arith; other = refl }, tt); optional = (record { name = refl; range = omega arith; other = refl }, tt); transitive = tt; dependencies_rise = (tt, tt); optional_rise = (tt, tt); transitive_rise = tt; optional_apart = (refl, tt) },
    (record { path = refl; locked = refl; dependencies = tt; optional = tt; transitive = tt; dependencies_rise = tt; optional_rise = tt; transitive_rise = tt; optional_apart = tt }, tt),
  );
  catalogs = tt;
  catalogs_rise = tt;
  entries_rise = tt;
  overrides_rise = tt;
  importers_rise = ((refl, tt), (tt, tt));
  packages_rise = ((refl, tt), (tt, tt));
  snapshots_rise = ((refl, tt), (tt, tt));
  importers_few = omega arith;
  snapshots_few = omega arith;
}

-- what holds of both projects
both : (P : LockImporter → Type 0) → P root_project → P other_project → (i : LockImporter) → Contains lock.importers i → P i
both P a b i c = elim (in_cons root_project (other_project ∷ []) i c) [ inl e ↦ subst P e a | inr more ↦ subst P (in_one other_project i more) b ]

clean_rows : (i : LockImporter) → Contains lock.importers i → holds_modules (tail_of i.folder) ≡ false
clean_rows = both (λ i. holds_modules (tail_of i.folder) ≡ false) refl refl

short_rows : (i : LockImporter) → Contains lock.importers i → length (path_text (modules_of w i.folder)) ≤ PATH_LIMIT
short_rows = both (λ i. length (path_text (modules_of w i.folder)) ≤ PATH_LIMIT) (omega arith) (omega arith)

-- a project's folder has fewer parts than the default virtual store
deep : (n : ℕ) (s store p : Path) → length p ≡ n → n ≤ 2 → length store ≡ 3 → p ≢ s ++ store
deep n s store p h k l e = omega (arith, ap length e, length-append s store, h, k, l)

other_begin : (s : Path) (x : List ℕ) → (b : Path) → codes "b" ∷ codes "packages" ∷ codes "w" ∷ [] ≢ s ++ codes ".pnpm" ∷ codes "node_modules" ∷ codes "w" ∷ []
other_begin [] x b e = let no : codes "b" ≡ codes ".pnpm" = cc in absurd (omega (arith, ap length no))
other_begin (y ∷ s) x b e = omega (arith, ap length e, length-append s (codes ".pnpm" ∷ codes "node_modules" ∷ codes "w" ∷ []))

pub default_placed : IsPlaced lock w (default_store w) []
default_placed = record {
  clean = clean_rows;
  short = short_rows;
  named = λ q e. let no : codes ".pnpm" ≡ modules = cc in absurd (omega (arith, ap length no));
  apart = λ i s c. both (λ i. folder_of w i.folder ≢ s ++ default_store w) (λ e. omega (arith, ap length e, length-append s (default_store w))) (other_begin s [] []) i c;
  inside = λ i s c e. refl;
  rooted = λ e. (root_project, here root_project (other_project ∷ []), refl);
  hoists = λ h c. absurd (none_in h c);
  once = λ g h cg ch holders names. absurd (none_in g cg);
}

no_v : (s : Path) → w ≢ s ++ codes "v" ∷ []
no_v [] e = let no : 119 ≡ 118 = ap (λ (p : Path). get_or (get_or p 0 []) 0 0) e in absurd (omega (arith, no))
no_v (y ∷ s) e = omega (arith, ap length e, length-append s (codes "v" ∷ []))

no_v_below : (s : Path) → codes "b" ∷ codes "packages" ∷ codes "w" ∷ [] ≢ s ++ codes "v" ∷ []
no_v_below [] e = omega (arith, ap length e)
no_v_below (x ∷ []) e = omega (arith, ap length e)
no_v_below (x ∷ y ∷ []) e = let no : 119 ≡ 118 = ap (λ (p : Path). get_or (get_or p 2 []) 0 0) e in absurd (omega (arith, no))
no_v_below (x ∷ y ∷ z ∷ s) e = omega (arith, ap length e, length-append s (codes "v" ∷ []))

pub other_placed : IsPlaced lock w (codes "v" ∷ []) []
other_placed = record {
  clean = clean_rows;
  short = short_rows;
  named = λ q e. let no : codes "v" ≡ modules = cc in absurd (omega (arith, ap length no));
  apart = λ i s c. both (λ i. folder_of w i.folder ≢ s ++ codes "v" ∷ []) (no_v s) (no_v_below s) i c;
  inside = λ i s c e. absurd (both (λ i. codes "v" ∷ [] ≢ s ++ modules_of w i.folder) (λ e. omega (arith, ap length e, length-append s (modules ∷ w))) (λ e. omega (arith, ap length e, length-append s (modules_of w other_project.folder))) i c e);
  rooted = λ e. absurd (omega (arith, ap length e));
  hoists = λ h c. absurd (none_in h c);
  once = λ g h cg ch holders names. absurd (none_in g cg);
}

pub two_listings : (x y : List Entry) (all : List (List Entry)) → IsCleanListing x → IsCleanListing y → all ≡ x ∷ y ∷ [] → AreListings lock all
two_listings x y all a b e = subst (AreListings lock) (sym e) (record {
  count = refl;
  each = λ es c. elim (in_cons x (y ∷ []) es c) [ inl h ↦ subst IsCleanListing h a | inr more ↦ subst IsCleanListing (in_one y es more) b ];
})

pub placed_as : (store v : Path) → store ≡ v → IsPlaced lock w v [] → IsPlaced lock w store []
placed_as store v e h = subst (λ p. IsPlaced lock w p []) (sym e) h
