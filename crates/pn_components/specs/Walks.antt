-- Walks along edges: what is known of places, of the stack and of its parts.
use Rattle.std.specs.Prelude.{◌≡◌, ◌≢◌, ◌<◌, ◌≤◌, ◌+◌, ◌++◌, ◌∷◌, ◌^◌, ℕ, suc, List, [], length, get_or}
use Rattle.std.specs.List.{AllPairs, Contains}
use Rattle.pn_components.specs.declared.walk.Mark.{Mark}
use Rattle.pn_components.specs.declared.walk.Mark.TheVariants.{New, Open, Done}
use Rattle.pn_components.specs.declared.walk.Part.{Part}
use Rattle.pn_components.specs.Graphs.{Reaches}
use Rattle.pn_components.specs.Rows.{AreWithin, LeadsIn}

-- ---- marks

abbrev pub mark_of : List Mark → ℕ → Mark
mark_of marks v = get_or marks v New

abbrev pub number_of : Mark → ℕ
number_of (Done n) = n
number_of New = 0
number_of (Open i) = 0

-- how many places aren't met
abbrev pub unmet : List Mark → ℕ
unmet [] = 0
unmet (New ∷ marks) = suc (unmet marks)
unmet (Open i ∷ marks) = unmet marks
unmet (Done n ∷ marks) = unmet marks

-- what is met stays so
abbrev pub KeepsMet : List Mark → List Mark → Type 0
KeepsMet old new = (v : ℕ) → mark_of old v ≢ New → mark_of new v ≢ New

-- how much there is to do at places that aren't met, and at their targets
abbrev pub work_at : List ℕ → Mark → ℕ
work_at row New = 2 + length row
work_at row (Open i) = 0
work_at row (Done n) = 0

abbrev pub work_in : List (List ℕ) → List Mark → ℕ
work_in [] marks = 0
work_in (row ∷ rows) [] = 0
work_in (row ∷ rows) (m ∷ marks) = work_at row m + work_in rows marks

-- ---- the stack and its parts

-- all on the stack reach a place
abbrev pub AllReach : List (List ℕ) → List ℕ → ℕ → Type 0
AllReach rows stack v = (i : ℕ) → i < length stack → Reaches (LeadsIn rows) (get_or stack i 0) v

-- of two places of the stack the second stands in the first one's part, or in a later part
abbrev pub Follows : List Part → ℕ → ℕ → Type 0
Follows parts i j = (x : Part) → Contains parts x → x.first ≤ i → x.first ≤ j

-- the last part begins there, and no target waits that is its own
pub record IsLast (parts : List Part) (first waiting : ℕ) : Type 0 where
  pub front : List Part
  pub last : Part
  pub is : parts ≡ front ++ last ∷ []
  pub begins : last.first ≡ first
  pub rests : last.waiting ≡ waiting

-- where an edge leads from a place of the stack: into a component, into this part or a later one, or the target waits
pub data Meets (marks : List Mark) (parts : List Part) (waiting : List ℕ) (i w : ℕ) : Type 0 where
  closed : (n : ℕ) → mark_of marks w ≡ Done n → Meets marks parts waiting i w
  follows : (j : ℕ) → mark_of marks w ≡ Open j → Follows parts i j → Meets marks parts waiting i w
  waits : (k : ℕ) → k < length waiting → get_or waiting k 0 ≡ w → ((x : Part) → Contains parts x → x.first ≤ i → x.waiting ≤ k) → Meets marks parts waiting i w

-- Whose target one is that waits: of a place in the part to which it belongs.
pub record IsOfPart (rows : List (List ℕ)) (stack : List ℕ) (parts : List Part) (k w : ℕ) : Type 0 where
  pub place : ℕ
  pub within : place < length stack
  pub leads : LeadsIn rows (get_or stack place 0) w
  pub after : (x : Part) → Contains parts x → x.waiting ≤ k → x.first ≤ place
  pub before : (x : Part) → Contains parts x → k < x.waiting → place < x.first

-- one part stands before another
abbrev pub IsBefore : Part → Part → Type 0
IsBefore x y = (x.first < y.first) × (x.waiting ≤ y.waiting)

-- What a walk keeps.
pub record IsWalk (rows : List (List ℕ)) (marks : List Mark) (stack : List ℕ) (parts : List Part) (waiting : List ℕ) (numbers : ℕ) : Type 0 where
  pub small : length rows < 2 ^ 32
  pub targets : AreWithin rows
  pub count : length marks ≡ length rows
  pub stacked : (i : ℕ) → i < length stack → mark_of marks (get_or stack i 0) ≡ Open i
  pub opened : (v i : ℕ) → mark_of marks v ≡ Open i → (i < length stack) × (get_or stack i 0 ≡ v)
  pub begun : (x : Part) → Contains parts x → (x.first < length stack) × (x.waiting ≤ length waiting)
  pub rising : AllPairs IsBefore parts
  pub covered : (i : ℕ) → i < length stack → (x : Part) × Contains parts x × (x.first ≤ i)
  pub linked : (i j : ℕ) → i < length stack → j < length stack → Follows parts i j → Reaches (LeadsIn rows) (get_or stack i 0) (get_or stack j 0)
  pub meets : (i w : ℕ) → i < length stack → LeadsIn rows (get_or stack i 0) w → Meets marks parts waiting i w
  pub sources : (k : ℕ) → k < length waiting → IsOfPart rows stack parts k (get_or waiting k 0)
  pub falls : (v w n : ℕ) → mark_of marks v ≡ Done n → LeadsIn rows v w → (m : ℕ) × (mark_of marks w ≡ Done m) × (m ≤ n)
  pub joined : (v w n : ℕ) → mark_of marks v ≡ Done n → mark_of marks w ≡ Done n → Reaches (LeadsIn rows) v w
  pub numbered : (v n : ℕ) → mark_of marks v ≡ Done n → n < numbers
  pub used : (n : ℕ) → n < numbers → (v : ℕ) × (mark_of marks v ≡ Done n)
  pub few : numbers + length parts + unmet marks ≤ length rows
