-- What is known of the registry already.
use Rattle.std.specs.Prelude.{◌≡◌, ℕ, List, String, Option, Some, IsSome}
use Rattle.std.specs.BTreeMap.{BTreeMap, get_by_text}
use Rattle.pn_fs.specs.Seen.{Seen}
use Rattle.pn_fs.specs.Tree.{Tree}
use Rattle.pn_published.specs.Shown.{shelf_of}
use Rattle.pn_published.specs.declared.published.Published.{Published}
use Rattle.pn_choice.specs.Shows.{Publishes}

-- Under each name is what the registry publishes.
abbrev pub AreShown : {A : Type 0} → Option Tree → BTreeMap (String A) Published → Type 0
AreShown r shelves = (n : List ℕ) (p : Published) → get_by_text shelves n ≡ Some p → Publishes r n (shelf_of p)

-- What was known is known still.
abbrev pub KeepsShelves : {A : Type 0} → BTreeMap (String A) Published → BTreeMap (String A) Published → Type 0
KeepsShelves old new = (n : List ℕ) → IsSome (get_by_text old n) → IsSome (get_by_text new n)

-- Where what is published under the name is known already, nothing is asked.
abbrev pub AsksOnce : {A : Type 0} → BTreeMap (String A) Published → List ℕ → Seen → Seen → Type 0
AsksOnce shelves n old new = IsSome (get_by_text shelves n) → new ≡ old
