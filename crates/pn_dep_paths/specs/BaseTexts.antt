-- The base texts of instances.
use Rattle.std.specs.Prelude.{◌≡◌, ◌<◌, ◌++◌, ℕ, List, [], ◌∷◌, Option, Some, None, length, get_or, slice_get}
use Rattle.std.specs.List.{Contains, concat}
use Rattle.std.specs.List.Sorted.{IsStrictlySortedBy}
use Rattle.std.specs.Cmp.Lexicographic.{slice_cmp}
use Rattle.std.specs.Ordering.{nat_cmp}
use Rattle.pn_text.specs.declared.index.InstIx.{InstIx}
use Rattle.pn_text.specs.declared.index.ProjIx.{ProjIx}
use Rattle.pn_deppath.specs.Groups.{project_text, shortened}
use Rattle.pn_outer.specs.declared.instance.Goal.TheVariants.{Project as to_project, Inst as to_instance}
use Rattle.pn_outer.specs.declared.instance.Instance.{Instance}
use Rattle.pn_outer.specs.declared.instance.Link.{Link}
use Rattle.pn_outer.specs.Outer.{IsOuter}
use Rattle.pn_dep_paths.specs.Relation.{AreTogether}

abbrev pub id_of : Option Instance → List ℕ
id_of None = []
id_of (Some i) = i.id

-- the id of an instance's package
abbrev pub id_at : List Instance → ℕ → List ℕ
id_at instances i = id_of (slice_get instances i)

abbrev pub text_at : List (List ℕ) → ℕ → List ℕ
text_at texts i = get_or texts i []

abbrev pub in_parentheses : List ℕ → List ℕ
in_parentheses text = 40 ∷ (text ++ 41 ∷ [])

-- What the group of a pair holds: for a project the peer's name and the folder; for an instance that leads back its id; for
-- another one its base text.
pub data Holds (folders : List (List ℕ)) (instances : List Instance) (texts : List (List ℕ)) (i : ℕ) (pair : Link) (text : List ℕ) : Type 0 where
  project : (q : ProjIx) → pair.to ≡ to_project q → text ≡ project_text pair.name (text_at folders q.0) → Holds folders instances texts i pair text
  together : (j : InstIx) → pair.to ≡ to_instance j → AreTogether instances i j.0 → text ≡ id_at instances j.0 → Holds folders instances texts i pair text
  apart : (j : InstIx) → pair.to ≡ to_instance j → (AreTogether instances i j.0 → ⊥) → text ≡ text_at texts j.0 → Holds folders instances texts i pair text

-- The group of one of an instance's outer pairs.
pub record IsGroup (folders : List (List ℕ)) (instances : List Instance) (texts : List (List ℕ)) (i : ℕ) (group : List ℕ) : Type 0 where
  pub pair : Link
  pub outer : IsOuter instances pair i
  pub text : List ℕ
  pub holds : Holds folders instances texts i pair text
  pub is : group ≡ in_parentheses text

abbrev pub AreRising : List (List ℕ) → Type 0
AreRising groups = IsStrictlySortedBy (slice_cmp nat_cmp) groups

-- The groups of an instance, in byte order, each once.
pub record AreGroups (folders : List (List ℕ)) (instances : List Instance) (texts : List (List ℕ)) (i : ℕ) (groups : List (List ℕ)) : Type 0 where
  pub rising : AreRising groups
  pub right : (g : List ℕ) → Contains groups g → IsGroup folders instances texts i g
  pub all : (g : List ℕ) → IsGroup folders instances texts i g → Contains groups g

-- The base text of an instance, where the texts are those of the others: its id, and its groups.
pub record IsBaseText (folders : List (List ℕ)) (instances : List Instance) (texts : List (List ℕ)) (i : ℕ) (text : List ℕ) : Type 0 where
  pub groups : List (List ℕ)
  pub are : AreGroups folders instances texts i groups
  pub is : text ≡ id_at instances i ++ shortened (concat groups)

-- Each text is the base text of its instance by these same texts.
pub record AreBaseTexts (folders : List (List ℕ)) (instances : List Instance) (texts : List (List ℕ)) : Type 0 where
  pub count : length texts ≡ length instances
  pub each : (i : ℕ) → i < length instances → IsBaseText folders instances texts i (text_at texts i)

-- Of some instances there is one list of base texts.
pub record TextLaw : Type 0 where
  pub one : (folders : List (List ℕ)) (instances : List Instance) (a b : List (List ℕ)) → AreBaseTexts folders instances a → AreBaseTexts folders instances b → a ≡ b
