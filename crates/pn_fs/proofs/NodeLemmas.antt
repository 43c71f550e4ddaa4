-- Lemmas on the tree that nodes show.
use Rattle.std.proofs.Common.{◌≡◌, ◌≢◌, ℕ, List, [], ◌∷◌, refl, sym, ap, ◌∙◌, subst, ◌≤◌, length, Bool, true, false, Some, None}
use Rattle.std.specs.Prelude.{Option, String, IsTrue, if◌then◌else◌}
use Rattle.std.specs.Option.{option_map}
use Rattle.std.specs.Map.{update}
use Rattle.std.specs.Str.{bytes_eq}
use Rattle.std.specs.BTreeMap.{BTreeMap, get_by_text, UpdatesBy}
use Rattle.std.specs.Cmp.Lexicographic.{slice_cmp}
use Rattle.std.specs.Ordering.{nat_cmp}
use Rattle.std.specs.String.{string_cmp, string_bytes}
use Rattle.std.proofs.lemmas.Map.Text.{btree_map_updates_text}
use Rattle.pn_text.specs.Path.{Path, same_path, is_path, path_text, SpellsAbs}
use Rattle.pn_text.proofs.Paths.{same_path-Decides, same_texts}
use Rattle.pn_fs.specs.Tree.{put, grown, IsFile}
use Rattle.pn_fs.specs.Bodies.{entry_of}
use Rattle.pn_fs.specs.Nodes.{rooted, IsShortPath}
use Rattle.pn_fs.specs.declared.body.Body.{Body}
use Rattle.pn_fs.proofs.Puts.{put_own}
use Rattle.pn_text.specs.declared.limits.TheConstants.{PATH_LIMIT}
pub use Rattle.pn_text.proofs.Results.{on_ok, on_err}

option_map-if : (b : Bool) (v w : Option Body) → option_map entry_of (if b then v else w) ≡ (if b then option_map entry_of v else option_map entry_of w)
option_map-if true v w = refl
option_map-if false v w = refl

-- what is no path is another one
no_path : (text : List ℕ) (p q : Path) → SpellsAbs text p → is_path q ≡ false → same_path p q ≡ false
no_path text p q s bad = elim (same_path p q) as (λ b. (b ≡ true → p ≡ q) → b ≡ false) [
  | true ↦ λ one. let clash : true ≡ false = sym s.good ∙ ap is_path (one refl) ∙ bad in cc
  | false ↦ λ one. refl
] (same_path-Decides p q).0

module _ {A : Type 0} where
  -- what stands where a text spells the path
  pub stood : (m : BTreeMap (String A) Body) (text : List ℕ) (p : Path) → SpellsAbs text p → p ≢ [] → rooted m p ≡ option_map entry_of (get_by_text m text)
  stood m text [] s some = absurd (some refl)
  stood m text (x ∷ p) s some =
      ap (λ b. if b then option_map entry_of (get_by_text m (path_text (x ∷ p))) else None) s.good
      ∙ ap (λ t. option_map entry_of (get_by_text m t)) (sym s.spelled)

  -- a look-up at another path's text, after a change
  at_text : (m n : BTreeMap (String A) Body) (text : List ℕ) (p q : Path) (w : Option Body) → SpellsAbs text p → IsTrue (is_path q)
      → ((cs : List ℕ) → get_by_text n cs ≡ update bytes_eq (get_by_text m) text w cs)
      → get_by_text n (path_text q) ≡ (if same_path p q then w else get_by_text m (path_text q))
  at_text m n text p q w s good h =
      h (path_text q)
      ∙ ap (λ b. if b then w else get_by_text m (path_text q)) (same_texts text (path_text q) p q s (record { good = good; spelled = refl }))

  -- a change of the node at a path other than `/` is one of the tree
  pub changed : (m n : BTreeMap (String A) Body) (text : List ℕ) (p : Path) (w : Option Body) → SpellsAbs text p → p ≢ []
      → ((cs : List ℕ) → get_by_text n cs ≡ update bytes_eq (get_by_text m) text w cs)
      → rooted n ≡ put (rooted m) p (option_map entry_of w)
  changed m n text [] w s some h = absurd (some refl)
  changed m n text (x ∷ p) w s some h = λ i q. at q i where
    at : (q : Path) → rooted n q ≡ put (rooted m) (x ∷ p) (option_map entry_of w) q
    at [] = refl
    at (y ∷ q) = elim (is_path (y ∷ q)) as (λ b. is_path (y ∷ q) ≡ b → (if b then option_map entry_of (get_by_text n (path_text (y ∷ q))) else None)
        ≡ (if same_path (x ∷ p) (y ∷ q) then option_map entry_of w else if b then option_map entry_of (get_by_text m (path_text (y ∷ q))) else None)) [
          | true ↦ λ good. ap (option_map entry_of) (at_text m n text (x ∷ p) (y ∷ q) w s good h) ∙ option_map-if (same_path (x ∷ p) (y ∷ q)) w (get_by_text m (path_text (y ∷ q)))
          | false ↦ λ bad. sym (ap (λ b. if b then option_map entry_of w else None) (no_path text (x ∷ p) (y ∷ q) s bad))
        ] refl

-- the path that a text spells
pub short_path : (text : List ℕ) (p : Path) → SpellsAbs text p → length text ≤ PATH_LIMIT → IsShortPath p
short_path text p s short = (s.good, subst (λ t. length t ≤ PATH_LIMIT) s.spelled short)

-- a file stands at another path than `/`
pub file_apart : {A : Type 0} (m : BTreeMap (String A) Body) (p : Path) → IsFile (rooted m) p → p ≢ []
file_apart m [] h e = cc (h.1)
file_apart m (x ∷ p) h e = cc

-- a map that a call changed at a text
abbrev pub ChangesAt : {A : Type 0} → BTreeMap (String A) Body → BTreeMap (String A) Body → List ℕ → Option Body → Type 0
ChangesAt m n text w = UpdatesBy string_cmp (λ k. slice_cmp nat_cmp text (string_bytes k)) m n w

pub changed_by : {A : Type 0} (m n : BTreeMap (String A) Body) (text : List ℕ) (p : Path) (w : Option Body) → SpellsAbs text p → p ≢ [] → ChangesAt m n text w → rooted n ≡ put (rooted m) p (option_map entry_of w)
changed_by m n text p w s some h = changed m n text p w s some (btree_map_updates_text text m n w h)

pub grown_node : {A : Type 0} (m n : BTreeMap (String A) Body) (text : List ℕ) (p : Path) (old new : Body) (more : List ℕ) → SpellsAbs text p → p ≢ [] → ChangesAt m n text (Some new)
    → Some old ≡ get_by_text m text → Some (entry_of new) ≡ grown (Some (entry_of old)) more → rooted n ≡ put (rooted m) p (grown (rooted m p) more)
grown_node m n text p old new more s some h held e =
    changed_by m n text p (Some new) s some h
    ∙ ap (put (rooted m) p) (e ∙ ap (λ o. grown o more) (ap (option_map entry_of) held ∙ sym (stood m text p s some)))

pub kept_node : {A : Type 0} (m n : BTreeMap (String A) Body) (text : List ℕ) (p : Path) (old new : Body) → SpellsAbs text p → p ≢ [] → ChangesAt m n text (Some new)
    → Some old ≡ get_by_text m text → entry_of new ≡ entry_of old → rooted n ≡ rooted m
kept_node m n text p old new s some h held e =
    changed_by m n text p (Some new) s some h
    ∙ put_own (rooted m) p (Some (entry_of new)) (stood m text p s some ∙ sym (ap (option_map entry_of) held) ∙ ap Some (sym e))
