-- Files in byte order.
use Rattle.std.proofs.Common.{◌≡◌, ℕ, List, [], ◌∷◌, ◌++◌, length, map, refl, sym, ap, ◌∙◌, subst, true, Less, nat_cmp, Some}
use Rattle.std.specs.Prelude.{nat_eq, IsTrue, Option}
use Rattle.std.specs.Cmp.{on_total}
use Rattle.std.specs.Cmp.Lexicographic.{slice_cmp, pointwise, nat_list_cmp_total, texts_ties}
use Rattle.std.specs.List.{Contains, AllByRecursion, dedup}
use Rattle.std.specs.List.Sorted.{IsStrictlySortedBy, IsSorted, IsPermutation}
use Rattle.std.proofs.lemmas.List.Kept.{IsStrictlySortedBy-dedup, Any-dedup, Contains-from_dedup}
use Rattle.std.proofs.lemmas.List.Sorted.{Contains-permutation, IsPermutation-sym}
use Rattle.std.proofs.lemmas.Slice.Eq.{bytes_eq-Decides}
use Rattle.std.specs.Cmp.{on_equiv}
use Rattle.std.specs.Cmp.Lexicographic.{nat_list_eq_equiv}
use Rattle.pn_text.specs.Path.{Path, is_path, is_part, text_below}
use Rattle.pn_text.proofs.Bools.{and_left, and_right}
use Rattle.pn_text.proofs.Paths.{below_one}
use Rattle.pn_fs.specs.Tree.{Entry, Tree, IsTree, file}
use Rattle.pn_read.specs.Small.{IsFileOf}
use Rattle.pn_registry.specs.Files.{File, IsRising, IsFilesOf, KeepsPaths, entry_below}
use Rattle.pn_registry.specs.Listed.{file_of, text_of}
use Rattle.pn_registry.specs.declared.list.PackageFile.{PackageFile}
use Rattle.pn_text.proofs.Members.{from_map, to_map}
use Rattle.pn_registry.proofs.LineFeeds.{below_there}

pub rising_nil : IsRising []
unfolding IsStrictlySortedBy
rising_nil = tt

below_all : (x : List ℕ) (fs : List PackageFile) → AllByRecursion (λ f. slice_cmp nat_cmp x (text_of f) ≡ Less) fs
    → AllByRecursion (λ y. slice_cmp nat_cmp x y ≡ Less) (map (λ (f : File). text_below f.0) (map file_of fs))
below_all x [] h = tt
below_all x (f ∷ fs) h = (h.0, below_all x fs h.1)

rising_files : (fs : List PackageFile) → IsStrictlySortedBy (λ a b. slice_cmp nat_cmp (text_of a) (text_of b)) fs → IsRising (map file_of fs)
unfolding IsStrictlySortedBy
rising_files [] h = tt
rising_files (f ∷ fs) h = (below_all (text_of f) fs h.0, rising_files fs h.1)

pub rising_once : (fs : List PackageFile) → IsSorted (λ a b. slice_cmp nat_cmp (text_of a) (text_of b)) fs → IsRising (map file_of (dedup (λ a b. pointwise nat_eq (text_of a) (text_of b)) fs))
rising_once fs h = rising_files _ (IsStrictlySortedBy-dedup (on_total text_of nat_list_cmp_total) (λ x y. texts_ties (text_of x) (text_of y)) fs h)

pub same_text : (x y : List ℕ) → pointwise nat_eq x y ≡ true → x ≡ y
same_text x y h = (bytes_eq-Decides x y).0 h

-- sorting and leaving out repeated paths keeps each path
pub keeps_paths : (files sorted : List PackageFile) → IsPermutation files sorted → KeepsPaths (map file_of files) (map file_of (dedup (λ a b. pointwise nat_eq (text_of a) (text_of b)) sorted))
keeps_paths files sorted p =
    let kept = dedup (λ a b. pointwise nat_eq (text_of a) (text_of b)) sorted in
    record {
      from = λ f h.
          let r = from_map file_of kept f h in
          subst (λ z. Contains (map file_of files) z) r.2
          (to_map file_of files r.0 (Contains-permutation sorted files r.0 (IsPermutation-sym files sorted p) (Contains-from_dedup (λ a b. pointwise nat_eq (text_of a) (text_of b)) sorted r.0 r.1)));
      paths = λ f h.
          let r = from_map file_of files f h in
          let found = Any-dedup (on_equiv text_of nat_list_eq_equiv) sorted r.0 (Contains-permutation files sorted r.0 p r.1) in
          (file_of found.1, to_map file_of kept found.1 (found.0, found.2, found.3), sym (same_text (text_of r.0) (text_of found.1) found.4) ∙ ap (λ (g : File). text_below g.0) r.2);
    }

pub path_front : (q p : Path) → is_path (q ++ p) ≡ true → is_path q ≡ true
path_front [] p h = refl
path_front (x ∷ q) p h = let a = and_left (is_part x) (is_path (q ++ p)) h in let b = path_front q p (and_right (is_part x) (is_path (q ++ p)) h) in rw (a, b) refl

-- the path of a file below a folder is good
pub good_below : (t : Tree) → IsTree t → (at q : Path) (n : ℕ) → IsFileOf n (entry_below t at q) → IsTrue (is_path q)
good_below t tree at q n f = path_front q at (tree.paths (q ++ at) (file f.0) (below_there t at q (file f.0) f.1)).0

same_bytes : (x y : List ℕ) → Some (file x) ≡ Some (file y) → x ≡ y
same_bytes x y e = cc

pub same_length : (e : Option Entry) (m n : ℕ) → IsFileOf m e → IsFileOf n e → m ≡ n
same_length e m n a b = let same : a.0 ≡ b.0 = same_bytes a.0 b.0 (sym a.1 ∙ b.1) in a.2 ∙ ap length same ∙ sym b.2

-- in a tree nothing is left out
pub kept_files : (t : Tree) → IsTree t → (at : Path) (files list : List File) → IsFilesOf t at files → KeepsPaths files list → IsFilesOf t at list
kept_files t tree at files list of keeps = record {
  stands = λ q n h. of.stands q n (keeps.from (q, n) h);
  all = λ q bytes is.
      let r = keeps.paths (q, length bytes) (of.all q bytes is) in
      let g = r.0 in
      let stands = of.stands g.0 g.1 (keeps.from g r.1) in
      let mine : IsFileOf (length bytes) (entry_below t at q) = (bytes, is, refl) in
      let path : g.0 ≡ q = below_one g.0 q (good_below t tree at g.0 g.1 stands) (good_below t tree at q (length bytes) mine) r.2 in
      let size : g.1 ≡ length bytes = same_length (entry_below t at q) g.1 (length bytes) (subst (λ z. IsFileOf g.1 (entry_below t at z)) path stands) mine in
      let both : g ≡ (q, length bytes) = λ i. (path i, size i) in
      subst (λ z. Contains list z) both r.1;
}
