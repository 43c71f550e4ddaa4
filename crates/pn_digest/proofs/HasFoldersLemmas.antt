-- How a set gets the folders above files.
use Rattle.std.proofs.Common.{◌≡◌, ℕ, ◌+◌, ◌<◌, List, length, take, get_or, sym, subst, Bool, inl, inr}
use Rattle.std.specs.Prelude.{◌⊎◌, ◌↔◌, IsTrue}
use Rattle.pn_digest.specs.Listing.{Entry, IsRelPath, rel_text}
use Rattle.pn_digest.specs.Folders.{IsFolderText, HasFolders}
use Rattle.pn_digest.proofs.PlaceLemmas.{in_front_more, still_in_front, now_in_front}

pub has_more : (files : List Entry) (i : ℕ) (x : Entry) (old new : List ℕ → Bool) → i < length files → x ≡ get_or files i x → IsRelPath x.0 → HasFolders (take i files) old
    → ((t : List ℕ) → IsTrue (new t) ↔ (IsTrue (old t) ⊎ IsFolderText (rel_text x.0) t)) → HasFolders (take (i + 1) files) new
has_more files i x old new within is path has adds = record {
  paths = λ e h. elim (in_front_more files i x e within is h) [ inl a ↦ has.paths e a | inr s ↦ subst (λ (z : Entry). IsRelPath z.0) s path ];
  exact = λ t. (
    λ h. elim ((adds t).0 h) [
      | inl a ↦ let f = (has.exact t).0 a in (f.0, still_in_front files i x f.0 within is f.1, f.2)
      | inr g ↦ (x, now_in_front files i x within is, g)
    ],
    λ f. elim (in_front_more files i x f.0 within is f.1) [
      | inl a ↦ (adds t).1 (inl ((has.exact t).1 (f.0, a, f.2)))
      | inr s ↦ (adds t).1 (inr (subst (λ (z : Entry). IsFolderText (rel_text z.0) t) (sym s) f.2))
    ],
  );
}
