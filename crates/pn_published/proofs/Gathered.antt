-- What is gathered from a folder's entries.
use Rattle.std.proofs.Common.{◌≡◌, ◌≤◌, ℕ, List, [], ◌∷◌, Bool, true, false, Option, Some, None, length, refl, sym, ap, ◌∙◌, subst, inl, inr}
use Rattle.std.specs.Prelude.{option_to_list, if◌then◌else◌}
use Rattle.std.specs.List.{Contains}
use Rattle.std.specs.List.Sorted.{IsStrictlySortedBy}
use Rattle.std.specs.Cmp.Lexicographic.{slice_cmp}
use Rattle.std.specs.Ordering.{nat_cmp}
use Rattle.std.proofs.lemmas.List.Elements.{Contains-append_cases, Contains-append_left, Contains-append_right}
use Rattle.semver.specs.Parse.{Parts}
use Rattle.pn_text.specs.declared.limits.TheConstants.{ENTRY_LIMIT}
use Rattle.pn_text.specs.Path.{Path}
use Rattle.pn_text.specs.Ids.{parts_text}
use Rattle.pn_text.proofs.Members.{none_in, in_one, in_cons, here}
use Rattle.pn_fs.specs.Tree.{Tree, Entry, IsTree, folder, file, link}
use Rattle.pn_fs.specs.Calls.{IsListing}
use Rattle.pn_published.specs.Versions.{IsRising, HasSame}
use Rattle.pn_published.specs.Shelves.{HasVersion, AreVersions, HasFew}
use Rattle.pn_published.specs.Folders.{is_folder, version_at, versions_at}
use Rattle.pn_published.proofs.Rising.{rising_same}
use Rattle.pn_text.proofs.Orders.{not_both_before}

folder_is : (e : Option Entry) → is_folder e ≡ true → e ≡ Some folder
folder_is None h = cc h
folder_is (Some folder) h = refl
folder_is (Some (file bytes)) h = cc h
folder_is (Some (link text)) h = cc h

pub no_folder : (e : Option Entry) → is_folder e ≡ false → e ≡ Some folder → ⊥
no_folder e h k = let f : is_folder e ≡ true = ap is_folder k in cc (h, f)

in_option : (o : Option Parts) (v : Parts) → Contains (option_to_list o) v → o ≡ Some v
in_option None v h = absurd (none_in v h)
in_option (Some u) v h = ap Some (in_one u v h)

at_entry : (t : Tree) (p : Path) (x : List ℕ) (v : Parts) (b : Bool) → is_folder (t (x ∷ p)) ≡ b → (if b then parts_text x else None) ≡ Some v → HasVersion t p v
at_entry t p x v true f h = record { text = x; is = h; stands = folder_is (t (x ∷ p)) f }
at_entry t p x v false f h = absurd (never h) where
  never : None ≡ Some v → ⊥
  never e = cc e

found_sound : (t : Tree) (p : Path) (names : List (List ℕ)) (v : Parts) → Contains (versions_at t p names) v → HasVersion t p v
found_sound t p [] v h = absurd (none_in v h)
found_sound t p (x ∷ xs) v h = elim (Contains-append_cases (option_to_list (version_at t p x)) (versions_at t p xs) v h) [
  | inl i ↦ at_entry t p x v (is_folder (t (x ∷ p))) refl (in_option (version_at t p x) v i)
  | inr j ↦ found_sound t p xs v j
]

version_there : (t : Tree) (p : Path) (x : List ℕ) (v : Parts) → parts_text x ≡ Some v → t (x ∷ p) ≡ Some folder → version_at t p x ≡ Some v
version_there t p x v is stands = ap (λ e. if is_folder e then parts_text x else None) stands ∙ is

found_all : (t : Tree) (p : Path) (names : List (List ℕ)) (x : List ℕ) (v : Parts) → Contains names x → parts_text x ≡ Some v → t (x ∷ p) ≡ Some folder → Contains (versions_at t p names) v
found_all t p [] x v c is stands = absurd (none_in x c)
found_all t p (y ∷ ys) x v c is stands = elim (in_cons y ys x c) [
  | inl same ↦
      let at : version_at t p y ≡ Some v = ap (version_at t p) same ∙ version_there t p x v is stands in
      Contains-append_left (option_to_list (version_at t p y)) (versions_at t p ys) v (subst (λ o. Contains (option_to_list o) v) (sym at) (here v []))
  | inr later ↦ Contains-append_right (option_to_list (version_at t p y)) (versions_at t p ys) v (found_all t p ys x v later is stands)
]

pub are_versions : (t : Tree) (p : Path) (names : List (List ℕ)) (found versions : List Parts) → IsListing t p names → found ≡ versions_at t p names → IsRising versions → HasSame found versions → AreVersions t p versions
are_versions t p names found versions listed is rising same = record {
  rising = rising;
  sound = λ v h. found_sound t p names v (subst (λ l. Contains l v) is (same.from v h));
  all = λ v h. same.to v (subst (λ l. Contains l v) (sym is) (found_all t p names h.text v (listed.all h.text folder h.stands) h.is h.stands));
}

-- a folder has one listing
pub one_listing : (t : Tree) (p : Path) (a b : List (List ℕ)) → IsListing t p a → IsListing t p b → a ≡ b
one_listing t p a b h k = rising_same (slice_cmp nat_cmp) not_both_before a b h.rising k.rising
    (λ x c. let e = h.stands x c in k.all x e.0 e.1) (λ x c. let e = k.stands x c in h.all x e.0 e.1)

pub has_few : (t : Tree) (p : Path) (names : List (List ℕ)) → IsListing t p names → length names ≤ ENTRY_LIMIT → HasFew t p
has_few t p names h few = λ others k. subst (λ l. length l ≤ ENTRY_LIMIT) (one_listing t p names others h k) few

rising_none : IsStrictlySortedBy (slice_cmp nat_cmp) []
unfolding IsStrictlySortedBy
rising_none = tt

-- where no folder stands, there are no entries
pub empty_listing : (t : Tree) (p : Path) → IsTree t → is_folder (t p) ≡ false → IsListing t p []
empty_listing t p tree none = record {
  rising = rising_none;
  stands = λ x c. absurd (none_in x c);
  all = λ x e is. absurd (no_folder (t p) none (tree.parents x p e is));
}
