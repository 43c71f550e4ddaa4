-- Lemmas on the way up from a path to the first marked folder.
use Rattle.std.proofs.Common.{◌≡◌, ℕ, List, [], ◌∷◌, ◌++◌, refl, sym, ap, ◌∙◌, subst, append_assoc, append-nil, true, false, Some, None}
use Rattle.std.specs.Prelude.{Option, IsTrue, IsSome, is_some, if◌then◌else◌}
use Rattle.pn_text.specs.Path.{Path, is_path, text_below}
use Rattle.pn_text.proofs.Paths.{below_one}
use Rattle.pn_draft.specs.Drawing.{is_below}
use Rattle.pn_draft.specs.Sheets.{Sheet, marked, IsUnder, Climbs}
use Rattle.pn_draft.proofs.Marked.{tail_path, strictly}

-- Some folders above a path are passed, and this one comes next.
pub record IsGoing (g : Sheet) (text folder : List ℕ) (fs : List (List ℕ)) : Type 0 where
  pub path : Path
  pub good : IsTrue (is_path path)
  pub spelled : text ≡ text_below path
  pub part : List ℕ
  pub at : Path
  pub at_good : IsTrue (is_path (part ∷ at))
  pub is : folder ≡ text_below at
  pub top : Path
  pub below : is_below top (part ∷ at) ≡ true
  pub marked_top : IsSome (marked g top)
  pub climbs : (more : List (List ℕ)) → Climbs g (part ∷ at) more → Climbs g path (fs ++ more)

-- a path below another one has a part and a folder
pub has_part : (top path : Path) → is_below top path ≡ true → (x : List ℕ) × (p : Path) × (path ≡ x ∷ p)
has_part top [] h = cc
has_part top (x ∷ p) h = (x, p, refl)

pub sets_out : (g : Sheet) (text folder : List ℕ) → IsUnder g text → ((x : List ℕ) (p : Path) → IsTrue (is_path (x ∷ p)) → text ≡ text_below (x ∷ p) → folder ≡ text_below p) → IsGoing g text folder []
sets_out g text folder u parent =
    let b = has_part u.top u.path u.below in
    let good : IsTrue (is_path (b.0 ∷ b.1)) = subst (λ p. IsTrue (is_path p)) b.2 u.good in
    record {
      path = u.path;
      good = u.good;
      spelled = u.spelled;
      part = b.0;
      at = b.1;
      at_good = good;
      is = parent b.0 b.1 good (u.spelled ∙ ap text_below b.2);
      top = u.top;
      below = subst (λ p. is_below u.top p ≡ true) b.2 u.below;
      marked_top = u.marked;
      climbs = λ more h. subst (λ p. Climbs g p more) (sym b.2) h;
    }

pub marked_at : (g : Sheet) (p : Path) → IsTrue (is_path p) → marked g p ≡ g (text_below p)
marked_at g p good = ap (λ b. if b then g (text_below p) else None) good

none_of : {T : Type 0} (o : Option T) → is_some o ≡ false → o ≡ None
none_of None h = refl
none_of (Some x) h = cc

pub not_marked : (g : Sheet) (p : Path) (folder : List ℕ) → IsTrue (is_path p) → folder ≡ text_below p → is_some (g folder) ≡ false → marked g p ≡ None
not_marked g p folder good is none = marked_at g p good ∙ ap g (sym is) ∙ none_of (g folder) none

-- the folder that comes next isn't marked, so it has a part and a folder in turn
pub next_part : (g : Sheet) (text folder : List ℕ) (fs : List (List ℕ)) → (h : IsGoing g text folder fs) → is_some (g folder) ≡ false → (x : List ℕ) × (p : Path) × (h.at ≡ x ∷ p)
next_part g text folder fs h none =
    has_part h.top h.at (strictly g h.top h.at h.marked_top (not_marked g h.at folder (tail_path h.part h.at h.at_good) h.is none) h.below)

pub passes : (g : Sheet) (text folder up : List ℕ) (fs : List (List ℕ)) → IsGoing g text folder fs → is_some (g folder) ≡ false
    → ((x : List ℕ) (p : Path) → IsTrue (is_path (x ∷ p)) → folder ≡ text_below (x ∷ p) → up ≡ text_below p) → IsGoing g text up (fs ++ folder ∷ [])
passes g text folder up fs h none parent =
    let at_good = tail_path h.part h.at h.at_good in
    let out = not_marked g h.at folder at_good h.is none in
    let b = next_part g text folder fs h none in
    let good : IsTrue (is_path (b.0 ∷ b.1)) = subst (λ p. IsTrue (is_path p)) b.2 at_good in
    record {
      path = h.path;
      good = h.good;
      spelled = h.spelled;
      part = b.0;
      at = b.1;
      at_good = good;
      is = parent b.0 b.1 good (h.is ∙ ap text_below b.2);
      top = h.top;
      below = subst (λ p. is_below h.top p ≡ true) b.2 (strictly g h.top h.at h.marked_top out h.below);
      marked_top = h.marked_top;
      climbs = λ more k. subst (Climbs g h.path) (sym (append_assoc fs (folder ∷ []) more)) (h.climbs (folder ∷ more) (out, h.is, subst (λ p. Climbs g p more) (sym b.2) k));
    }

pub arrives : (g : Sheet) (text folder : List ℕ) (fs : List (List ℕ)) → IsGoing g text folder fs → is_some (g folder) ≡ true → (p : Path) → IsTrue (is_path p) → text ≡ text_below p → Climbs g p fs
arrives g text folder fs h some p good spelled =
    let here : IsSome (marked g h.at) = ap is_some (marked_at g h.at (tail_path h.part h.at h.at_good) ∙ ap g (sym h.is)) ∙ some in
    subst (λ q. Climbs g q fs) (below_one h.path p h.good good (sym h.spelled ∙ spelled)) (subst (Climbs g h.path) (append-nil fs) (h.climbs [] here))

-- the text of the folder that comes next is a path's with a part
pub going_part : (g : Sheet) (text folder : List ℕ) (fs : List (List ℕ)) → IsGoing g text folder fs → is_some (g folder) ≡ false → (x : List ℕ) × (p : Path) × IsTrue (is_path (x ∷ p)) × (folder ≡ text_below (x ∷ p))
going_part g text folder fs h none =
    let b = next_part g text folder fs h none in
    (b.0, b.1, subst (λ p. IsTrue (is_path p)) b.2 (tail_path h.part h.at h.at_good), h.is ∙ ap text_below b.2)

pub under_part : (g : Sheet) (text : List ℕ) → IsUnder g text → (x : List ℕ) × (p : Path) × IsTrue (is_path (x ∷ p)) × (text ≡ text_below (x ∷ p))
under_part g text u = let b = has_part u.top u.path u.below in (b.0, b.1, subst (λ p. IsTrue (is_path p)) b.2 u.good, u.spelled ∙ ap text_below b.2)
