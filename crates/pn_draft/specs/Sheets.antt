-- The marks of a draft, each under its path's parts after slashes, as a function of texts.
use Rattle.std.specs.Prelude.{◌≡◌, ◌⊎◌, ℕ, List, [], ◌∷◌, map, Option, Some, None, String, IsTrue, IsSome, true, if◌then◌else◌}
use Rattle.std.specs.List.{Contains}
use Rattle.std.specs.Map.{update}
use Rattle.std.specs.Str.{bytes_eq}
use Rattle.std.specs.String.{string_bytes}
use Rattle.std.specs.BTreeMap.{BTreeMap, get_by_text}
use Rattle.pn_text.specs.Path.{Path, is_path, text_below}
use Rattle.pn_digest.specs.declared.planned.Planned.{Planned}
use Rattle.pn_digest.specs.declared.planned.Planned.TheVariants.{Folder}
use Rattle.pn_draft.specs.Drawing.{is_below, AreApart, bare, with_leaf, IsPart}

abbrev pub Sheet : Type 0
Sheet = List ℕ → Option Planned

-- what is marked at a path
abbrev pub marked : Sheet → Path → Option Planned
marked g q = if is_path q then g (text_below q) else None

-- the sheet that a map keeps
abbrev pub sheet : {A : Type 0} → BTreeMap (String A) Planned → Sheet
sheet m = get_by_text m

-- the entries under their texts
abbrev pub texts : {A : Type 0} → List (String A × Planned) → List (List ℕ × Planned)
texts es = map (λ e. (string_bytes e.0, e.1)) es

-- Each key is a path's, the folders are marked, and so is the parent of each other path that is.
pub record IsWhole (tops : List Path) (g : Sheet) : Type 0 where
  pub apart : AreApart tops
  pub good : (m : Path) → Contains tops m → IsTrue (is_path m)
  pub root : (m : Path) → Contains tops m → IsSome (marked g m)
  pub keys : (text : List ℕ) → IsSome (g text) → (q : Path) × IsTrue (is_path q) × (text ≡ text_below q)
  pub parents : (x : List ℕ) (q : Path) → IsSome (marked g (x ∷ q)) → Contains tops (x ∷ q) ⊎ IsSome (marked g q)

-- Exactly these folders are marked.
pub record IsBare (tops : List Path) (g : Sheet) : Type 0 where
  pub good : (m : Path) → Contains tops m → IsTrue (is_path m)
  pub keys : (text : List ℕ) → IsSome (g text) → (m : Path) × Contains tops m × (text ≡ text_below m)
  pub drawn : (q : Path) → marked g q ≡ bare tops q

-- The sheet with folders marked at these texts, the last one first.
abbrev pub with_folders : Sheet → List (List ℕ) → Sheet
with_folders g [] = g
with_folders g (f ∷ fs) = update bytes_eq (with_folders g fs) f (Some Folder)

-- The text is that of a path strictly below a marked one.
pub record IsUnder (g : Sheet) (text : List ℕ) : Type 0 where
  pub top : Path
  pub path : Path
  pub good : IsTrue (is_path path)
  pub spelled : text ≡ text_below path
  pub below : is_below top path ≡ true
  pub marked : IsSome (marked g top)

-- The texts of the folders above a path up to the first marked one, from below; none of them is marked.
abbrev pub Climbs : Sheet → Path → List (List ℕ) → Type 0
Climbs g [] fs = ⊥
Climbs g (x ∷ p) [] = IsSome (marked g p)
Climbs g (x ∷ p) (f ∷ fs) = (marked g p ≡ None) × (f ≡ text_below p) × Climbs g p fs

-- One more path is marked, with the folders above it down from one of the folders.
pub record Draws (tops : List Path) (p : Path) (w : Planned) (old new : Sheet) : Type 0 where
  pub whole : IsWhole tops new
  pub drawn : (q : Path) → marked new q ≡ with_leaf tops (marked old) p w q

-- Some of the folders above the path may be marked, and no more.
pub record DrawsPart (tops : List Path) (p : Path) (w : Planned) (old new : Sheet) : Type 0 where
  pub whole : IsWhole tops new
  pub drawn : IsPart (marked old) (with_leaf tops (marked old) p w) (marked new)
