-- Lemmas on what writing calls leave.
use Rattle.std.proofs.Common.{◌≡◌, ◌≢◌, ℕ, List, [], ◌∷◌, ◌++◌, take, refl, sym, ap, ◌∙◌, subst, true, false, Some, Ok, Err, inl, inr, ◌⊎◌, append_assoc}
use Rattle.std.proofs.lemmas.List.{append-nil}
use Rattle.std.specs.Prelude.{Option, Result, IfSome, if◌then◌else◌}
use Rattle.std.specs.List.{Contains}
use Rattle.std.specs.Option.{ForSome, option_map}
use Rattle.std.proofs.lemmas.List.Elements.{Contains-append_cases}
use Rattle.pn_text.specs.Path.{Path, same_path}
use Rattle.pn_text.specs.declared.fault.DevFault.{DevFault}
use Rattle.pn_text.proofs.Paths.{same_path-Decides}
use Rattle.pn_text.proofs.Results.{for_some, if_some}
use Rattle.pn_text.proofs.Members.{none_in, here}
use Rattle.pn_fs.specs.Tree.{Entry, Tree, put, grown}
use Rattle.pn_fs.specs.Seen.{Seen, GaveNothing}
use Rattle.pn_fs.specs.Calls.{Makes, Grows, Touches}
use Rattle.pn_replace.specs.Writes.{Touched, WroteTold}

-- the told tree is one still and differs at such paths at most
abbrev pub Came : (Path → Type 0) → Option Tree → Option Tree → Type 0
Came Why old new = ForSome old (λ t. (u : Tree) × (new ≡ Some u) × ((q : Path) → (Why q → ⊥) → u q ≡ t q))

pub put_apart : (t : Tree) (p q : Path) (e : Option Entry) → q ≢ p → put t p e q ≡ t q
put_apart t p q e out = elim (same_path p q) as (λ b. (b ≡ true → p ≡ q) → (if b then e else t q) ≡ t q) [
  | true ↦ λ one. absurd (out (sym (one refl)))
  | false ↦ λ one. refl
] (same_path-Decides p q).0

pub came_same : (Why : Path → Type 0) (old new : Option Tree) → new ≡ old → Came Why old new
came_same Why old new same t told = (t, same ∙ told, λ q out. refl)

pub came_by : (Why : Path → Type 0) (f : Tree → Tree) (old new : Option Tree) → ((t : Tree) (q : Path) → (Why q → ⊥) → f t q ≡ t q) → new ≡ option_map f old → Came Why old new
came_by Why f old new kept is t told = (f t, is ∙ ap (option_map f) told, kept t)

pub came_made : {T : Type 0} (r : Result T DevFault) (Why : Path → Type 0) (f : Tree → Tree) (old new : Option Tree) → ((t : Tree) (q : Path) → (Why q → ⊥) → f t q ≡ t q) → Makes old (option_map f old) new r → Came Why old new
came_made (Ok x) Why f old new kept m = came_by Why f old new kept m.ok
came_made (Err x) Why f old new kept m = elim m.err [ inl same ↦ came_same Why old new same | inr made ↦ came_by Why f old new kept made ]

pub came_grown : {T : Type 0} (r : Result T DevFault) (Why : Path → Type 0) (p : Path) (more : List ℕ) (old new : Option Tree) → Why p → Grows old p more new r → Came Why old new
came_grown (Ok x) Why p more old new why m = came_by Why (λ t. put t p (grown (t p) more)) old new (λ t q out. put_apart t p q (grown (t p) more) (λ e. out (subst Why (sym e) why))) m.ok
came_grown (Err x) Why p more old new why m = elim m.err [
  | inl same ↦ came_same Why old new same
  | inr made ↦ came_by Why (λ t. put t p (grown (t p) (take made.0 more))) old new (λ t q out. put_apart t p q (grown (t p) (take made.0 more)) (λ e. out (subst Why (sym e) why))) made.2
]

pub came_both : (Why : Path → Type 0) (a b c : Option Tree) → Came Why a b → Came Why b c → Came Why a c
came_both Why a b c h k t told =
    let m = h t told in
    let n = k m.0 m.1 in
    (n.0, n.1, λ q out. n.2 q out ∙ m.2 q out)

pub touched_none : (Why : Path → Type 0) (a b : Seen) → b.touched ≡ a.touched → Touched Why a b
touched_none Why a b same = record { added = []; touched = same ∙ sym (append-nil a.touched); why = λ p h. absurd (none_in p h) }

pub touched_both : (Why : Path → Type 0) (a b c : Seen) → Touched Why a b → Touched Why b c → Touched Why a c
touched_both Why a b c h k = record {
  added = h.added ++ k.added;
  touched = k.touched ∙ ap (λ l. l ++ k.added) h.touched ∙ append_assoc a.touched h.added k.added;
  why = λ p inside. elim (Contains-append_cases h.added k.added p inside) [ inl x ↦ h.why p x | inr y ↦ k.why p y ];
}

pub touched_call : {T : Type 0} (r : Result T DevFault) (Why : Path → Type 0) (paths : List Path) (a b : Seen) (t : Tree) → a.tree ≡ Some t → ((q : Path) → Contains paths q → Why q) → Touches a b paths r → Touched Why a b
touched_call (Ok x) Why paths a b t told why h = record { added = paths; touched = for_some (λ t. b.touched ≡ a.touched ++ paths) a.tree h.ok t told; why = why }
touched_call (Err x) Why paths a b t told why h = elim (for_some (λ t. (b.touched ≡ a.touched) ⊎ (b.touched ≡ a.touched ++ paths)) a.tree h.err t told) [
  | inl same ↦ touched_none Why a b same
  | inr more ↦ record { added = paths; touched = more; why = why }
]

-- one call
pub wrote_call : {T : Type 0} (r : Result T DevFault) (Why : Path → Type 0) (paths : List Path) (a b : Seen) → ((q : Path) → Contains paths q → Why q) → Came Why a.tree b.tree → Touches a b paths r → IfSome a.tree (λ t. GaveNothing a b)
    → ForSome a.tree (λ t. WroteTold Why t a b)
wrote_call r Why paths a b why came touches gave t told =
    let u = came t told in
    record { tree = u.0; is = u.1; others = u.2; touched = touched_call r Why paths a b t told why touches; gave = for_some (λ t. GaveNothing a b) a.tree gave t told }

-- calls after each other
pub wrote_both : (Why : Path → Type 0) (a b c : Seen) → ForSome a.tree (λ t. WroteTold Why t a b) → ForSome b.tree (λ t. WroteTold Why t b c) → ForSome a.tree (λ t. WroteTold Why t a c)
wrote_both Why a b c h k t told =
    let m = h t told in
    let n = k m.tree m.is in
    record {
      tree = n.tree;
      is = n.is;
      others = λ q out. n.others q out ∙ m.others q out;
      touched = touched_both Why a b c m.touched n.touched;
      gave = record { bytes = n.gave.bytes ∙ m.gave.bytes; names = n.gave.names ∙ m.gave.names };
    }

pub touched_of : (Why : Path → Type 0) (a b : Seen) → ForSome a.tree (λ t. WroteTold Why t a b) → IfSome a.tree (λ t. Touched Why a b)
touched_of Why a b h = if_some (λ t. Touched Why a b) a.tree (λ t told. (h t told).touched)

pub gave_of : (Why : Path → Type 0) (a b : Seen) → ForSome a.tree (λ t. WroteTold Why t a b) → IfSome a.tree (λ t. GaveNothing a b)
gave_of Why a b h = if_some (λ t. GaveNothing a b) a.tree (λ t told. (h t told).gave)

-- a call that makes something of the tree
pub wrote_made : {T : Type 0} (r : Result T DevFault) (Why : Path → Type 0) (f : Tree → Tree) (paths : List Path) (a b : Seen) → ((t : Tree) (q : Path) → (Why q → ⊥) → f t q ≡ t q) → ((q : Path) → Contains paths q → Why q)
    → Makes a.tree (option_map f a.tree) b.tree r → Touches a b paths r → IfSome a.tree (λ t. GaveNothing a b) → ForSome a.tree (λ t. WroteTold Why t a b)
wrote_made r Why f paths a b kept why made touches gave = wrote_call r Why paths a b why (came_made r Why f a.tree b.tree kept made) touches gave

pub wrote_grown : {T : Type 0} (r : Result T DevFault) (Why : Path → Type 0) (p : Path) (more : List ℕ) (a b : Seen) → ((q : Path) → Contains (p ∷ []) q → Why q) → Grows a.tree p more b.tree r → Touches a b (p ∷ []) r → IfSome a.tree (λ t. GaveNothing a b)
    → ForSome a.tree (λ t. WroteTold Why t a b)
wrote_grown r Why p more a b why grows touches gave = wrote_call r Why (p ∷ []) a b why (came_grown r Why p more a.tree b.tree (why p (here p [])) grows) touches gave
