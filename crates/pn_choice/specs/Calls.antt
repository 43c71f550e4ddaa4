-- Which calls a registry gets.
use Rattle.std.specs.Prelude.{◌≡◌, ◌+◌, ℕ, Bool, true, false, List, [], ◌∷◌, map, String, Option, None, IfSome, is_some}
use Rattle.std.specs.List.{Contains}
use Rattle.std.specs.BTreeMap.{BTreeMap, get_by_text}
use Rattle.pn_text.specs.Name.{name_path}
use Rattle.pn_text.specs.declared.limits.TheConstants.{TEXT_LIMIT}
use Rattle.pn_fs.specs.Tree.{Tree}
use Rattle.pn_fs.specs.Seen.{Seen, Keeps, GaveAtMost}
use Rattle.pn_published.specs.Folders.{ListsOnce}
use Rattle.pn_published.specs.declared.published.Published.{Published}
use Rattle.pn_spec.specs.declared.want.Want.{Want}
use Rattle.pn_walk.specs.Graphs.{IsDistinct, IsWanted}
use Rattle.pn_walk.specs.Starts.{turns_from}
use Rattle.pn_walk.specs.Reads.{ReadsOnce}
use Rattle.pn_walk.specs.Walks.{Turn, start}
use Rattle.pn_walk.specs.Wants.{Id}
use Rattle.pn_walk.specs.declared.wish.Aim.{Aim}
use Rattle.pn_walk.specs.declared.node.Node.{Node}
use Rattle.pn_walk.specs.declared.wish.Wish.{Wish}
use Rattle.pn_plain.specs.Readings.{of_package}
use Rattle.pn_choice.specs.Given.{asked_by}
use Rattle.pn_choice.specs.Shows.{IsNodeOf}
use Rattle.pn_choice.specs.Ways.{LeadsBy, ReadsAs}
use Rattle.pn_choice.specs.declared.project.ProjectAt.{ProjectAt}

-- The manifest of a package is read, or the folder of a name is listed, with its tags.
pub data Ask : Type 0 where
  manifest : Id → Ask
  listing : List ℕ → Ask

-- Each gives at most as much as reading it once.
abbrev pub Gives : Ask → Seen → Seen → Type 0
Gives (manifest i) old new = IfSome old.tree (λ t. GaveAtMost old (TEXT_LIMIT + 1) 0 new)
Gives (listing n) old new = IfSome old.tree (λ t. ListsOnce t (name_path n) (TEXT_LIMIT + 1) old new)

-- These and no other calls are made of the registry, one after the other.
abbrev pub Asks : List Ask → Seen → Seen → Type 0
Asks [] old new = new ≡ old
Asks (x ∷ xs) old new = (mid : Seen) × Keeps old mid × Gives x old mid × Asks xs mid new

-- the packages whose manifests are read, in order
abbrev pub packages_of : List Ask → List Id
packages_of [] = []
packages_of (manifest i ∷ xs) = i ∷ packages_of xs
packages_of (listing n ∷ xs) = packages_of xs

-- the names whose folders are listed, in order
abbrev pub names_of : List Ask → List (List ℕ)
names_of [] = []
names_of (manifest i ∷ xs) = names_of xs
names_of (listing n ∷ xs) = n ∷ names_of xs

-- whether it is known what is published under a name
abbrev pub knows : {A : Type 0} → BTreeMap (String A) Published → List ℕ → Bool
knows shelves n = is_some (get_by_text shelves n)

-- One of these wishes, which has no package yet, asks by its specifier for a package of this name.
pub record IsSought (These : Wish → Type 0) (n : List ℕ) : Type 0 where
  pub wish : Wish
  pub one : These wish
  pub unchosen : wish.chosen ≡ None
  pub want : Want
  pub reads : ReadsAs wish (of_package n want)

-- An edge of the projects, or of a package that is reached, asks for a package of this name.
abbrev pub IsAskedName : Option Tree → List ProjectAt → List Id → Bool → List ℕ → Type 0
IsAskedName r projects held auto_peers = IsSought (IsWanted (LeadsBy r held) (IsNodeOf r) (turns_from 0 (map (asked_by auto_peers) projects)))

-- Calls read the manifests of exactly these packages, in this order, and list the folders of names that are sought and weren't
-- known, none twice. What was known is known still.
pub record ReadsThese (known known' : List ℕ → Bool) (old : Seen) (Sought : List ℕ → Type 0) (ids : List Id) (new : Seen) : Type 0 where
  pub asks : List Ask
  pub made : Asks asks old new
  pub packages : packages_of asks ≡ ids
  pub once : IsDistinct (names_of asks)
  pub asked : (n : List ℕ) → Contains (names_of asks) n → Sought n
  pub unknown : (n : List ℕ) → Contains (names_of asks) n → known n ≡ false
  pub still : (n : List ℕ) → known n ≡ true → known' n ≡ true

-- The same, and each name whose folder is listed is known afterwards.
pub record Learns (known known' : List ℕ → Bool) (old : Seen) (Sought : List ℕ → Type 0) (ids : List Id) (new : Seen) : Type 0 where
  pub reads : ReadsThese known known' old Sought ids new
  pub learnt : (n : List ℕ) → Contains (names_of reads.asks) n → known' n ≡ true

-- No manifest is read twice, and each name whose folder is listed is known afterwards.
pub record ReadsEach (known known' : List ℕ → Bool) (old : Seen) (Sought : List ℕ → Type 0) (ids : List Id) (new : Seen) : Type 0 where
  pub once : IsDistinct ids
  pub reads : Learns known known' old Sought ids new

-- the calls for these wishes and packages: folders of names are listed that one of the wishes asks for
abbrev pub ReadsFor : (List ℕ → Bool) → (List ℕ → Bool) → Seen → Seen → List Wish → List Id → Type 0
ReadsFor known known' old new ws ids = ReadsThese known known' old (IsSought (Contains ws)) ids new

-- Until the edge at which a walk stops, calls are made for the edges that are taken before it, in order, and at most for that edge.
abbrev pub ReadsUntil : (List ℕ → Bool) → (List ℕ → Bool) → Seen → (Wish → Option Aim → Type 0) → (Node → Type 0) → List Turn → Seen → Type 0
ReadsUntil known known' old leads node own new = ReadsOnce leads node (ReadsFor known known' old new) (start own)
