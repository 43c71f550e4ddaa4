-- Lemmas on what calls on one path leave.
use Rattle.std.proofs.Common.{◌≡◌, ℕ, ◌≤◌, List, [], ◌∷◌, ◌++◌, length, refl, sym, ap, ◌∙◌, subst, arith, true, false, Some, None, Ok, Err, inl, inr, ◌⊎◌, append_assoc, take}
use Rattle.std.proofs.lemmas.List.{append-nil}
use Rattle.std.specs.Prelude.{Option, Result, IfSome, if◌then◌else◌}
use Rattle.std.specs.List.{Contains}
use Rattle.std.specs.Option.{ForSome, option_map}
use Rattle.std.proofs.lemmas.List.Elements.{Contains-append_cases, Contains-push_cases}
use Rattle.pn_text.specs.Path.{Path, same_path}
use Rattle.pn_text.specs.Causes.{HasCause}
use Rattle.pn_text.specs.declared.fault.DevFault.{DevFault}
use Rattle.pn_text.proofs.Paths.{same_path-Decides, deeper}
use Rattle.pn_text.proofs.Results.{for_some}
use Rattle.pn_fs.specs.Tree.{Entry, file, link, Tree, IsFree, HasParent, put, grown}
use Rattle.pn_fs.specs.Seen.{Seen, GaveNothing}
use Rattle.pn_fs.specs.Calls.{Makes, Grows, Touches, told_grown}
use Rattle.pn_fs.proofs.Puts.{put_same}
use Rattle.pn_repair.specs.Repairs.{DiffersAt}
use Rattle.pn_repair.specs.Writes.{WroteAt, HasAt, IsAt}

-- a tree with something else at a path
abbrev told_with : Option Tree → Path → (Tree → Option Entry) → Option Tree
told_with s p f = option_map (λ t. put t p (f t)) s

-- what one call did to the tree: nothing, or something else stands at the path
abbrev Came : Path → Option Tree → Option Tree → Type 0
Came p old new = (new ≡ old) ⊎ ((f : Tree → Option Entry) × (new ≡ told_with old p f))

makes_came : {T : Type 0} (r : Result T DevFault) (p : Path) (e : Option Entry) (old new : Option Tree) → Makes old (told_with old p (λ t. e)) new r → Came p old new
makes_came (Ok x) p e old new m = inr ((λ t. e), m.ok)
makes_came (Err x) p e old new m = elim m.err [ inl same ↦ inl same | inr made ↦ inr ((λ t. e), made) ]

grows_came : {T : Type 0} (r : Result T DevFault) (p : Path) (more : List ℕ) (old new : Option Tree) → Grows old p more new r → Came p old new
grows_came (Ok x) p more old new m = inr ((λ t. grown (t p) more), m.ok)
grows_came (Err x) p more old new m = elim m.err [ inl same ↦ inl same | inr made ↦ inr ((λ t. grown (t p) (take made.0 more)), made.2) ]

-- the paths that one call added
touched_of : {T : Type 0} (r : Result T DevFault) (p : Path) (a b : Seen) (t : Tree) → a.tree ≡ Some t → Touches a b (p ∷ []) r → (b.touched ≡ a.touched) ⊎ (b.touched ≡ a.touched ++ p ∷ [])
touched_of (Ok x) p a b t told h = inr (for_some (λ t. b.touched ≡ a.touched ++ p ∷ []) a.tree h.ok t told)
touched_of (Err x) p a b t told h = for_some (λ t. (b.touched ≡ a.touched) ⊎ (b.touched ≡ a.touched ++ p ∷ [])) a.tree h.err t told

added_of : (p : Path) (a b : List Path) → (b ≡ a) ⊎ (b ≡ a ++ p ∷ []) → (added : List Path) × (b ≡ a ++ added) × ((q : Path) → Contains added q → q ≡ p)
added_of p a b (inl same) = ([], same ∙ sym (append-nil a), λ q h. absurd (omega (arith, h.1)))
added_of p a b (inr one) = (p ∷ [], one, λ q h. elim (Contains-push_cases [] p q h) [ inl none ↦ absurd (omega (arith, none.1)) | inr same ↦ sym same ])

tree_of : (p : Path) (old new : Option Tree) (t : Tree) → old ≡ Some t → Came p old new → (u : Tree) × (new ≡ Some u) × DiffersAt p t u
tree_of p None new t told came = cc
tree_of p (Some v) new t told (inl same) = (t, same ∙ told, record { others = λ q out. refl })
tree_of p (Some v) new t told (inr made) =
    let one : v ≡ t = cc in
    (put v p (made.0 v), made.1, record { others = λ q out. ap (λ b. if b then made.0 v else v q) out ∙ ap (λ w. w q) one })

untold_of : (p : Path) (old new : Option Tree) → Came p old new → old ≡ None → new ≡ None
untold_of p old new (inl same) none = same ∙ none
untold_of p old new (inr made) none = made.1 ∙ ap (λ s. told_with s p made.0) none

wrote_call : {T : Type 0} (r : Result T DevFault) (p : Path) (a b : Seen) → Came p a.tree b.tree → Touches a b (p ∷ []) r → IfSome a.tree (λ t. GaveNothing a b) → HasCause a.faults b.faults r → WroteAt p a b
wrote_call r p a b came touches gave cause = record {
  later = cause.later;
  untold = untold_of p a.tree b.tree came;
  told = λ t told.
      let u = tree_of p a.tree b.tree t told came in
      let more = added_of p a.touched b.touched (touched_of r p a b t told touches) in
      record { tree = u.0; is = u.1; differs = u.2; added = more.0; touched = more.1; alone = more.2; gave = for_some (λ t. GaveNothing a b) a.tree gave t told };
}

pub wrote_made : {T : Type 0} (r : Result T DevFault) (p : Path) (e : Option Entry) (a b : Seen) → Makes a.tree (told_with a.tree p (λ t. e)) b.tree r → Touches a b (p ∷ []) r → IfSome a.tree (λ t. GaveNothing a b) → HasCause a.faults b.faults r → WroteAt p a b
wrote_made r p e a b made touches gave cause = wrote_call r p a b (makes_came r p e a.tree b.tree made) touches gave cause

pub wrote_grown : {T : Type 0} (r : Result T DevFault) (p : Path) (more : List ℕ) (a b : Seen) → Grows a.tree p more b.tree r → Touches a b (p ∷ []) r → IfSome a.tree (λ t. GaveNothing a b) → HasCause a.faults b.faults r → WroteAt p a b
wrote_grown r p more a b grows touches gave cause = wrote_call r p a b (grows_came r p more a.tree b.tree grows) touches gave cause

-- two after each other
pub wrote_both : (p : Path) (a b c : Seen) → WroteAt p a b → WroteAt p b c → WroteAt p a c
wrote_both p a b c h k = record {
  later = omega (arith, h.later, k.later);
  untold = λ none. k.untold (h.untold none);
  told = λ t told.
      let m = h.told t told in
      let n = k.told m.tree m.is in
      record {
        tree = n.tree;
        is = n.is;
        differs = record { others = λ q out. n.differs.others q out ∙ m.differs.others q out };
        added = m.added ++ n.added;
        touched = n.touched ∙ ap (λ l. l ++ n.added) m.touched ∙ append_assoc a.touched m.added n.added;
        alone = λ q inside. elim (Contains-append_cases m.added n.added q inside) [ inl x ↦ m.alone q x | inr y ↦ n.alone q y ];
        gave = record { bytes = n.gave.bytes ∙ m.gave.bytes; names = n.gave.names ∙ m.gave.names };
      };
}

-- what stands at the path after a call
pub has_put : (p : Path) (e : Option Entry) (old new : Option Tree) → new ≡ told_with old p (λ t. e) → HasAt p (λ o. o ≡ e) new
has_put p e None new made u told = let none : None ≡ Some u = sym made ∙ told in cc
has_put p e (Some t) new made u told = let is : put t p e ≡ u = cc in ap (λ v. v p) (sym is) ∙ put_same t p e

pub is_put : (p : Path) (e : Option Entry) (old new : Option Tree) → (new ≡ old) ⊎ (new ≡ told_with old p (λ t. e)) → IsAt p (λ was o. (o ≡ was) ⊎ (o ≡ e)) old new
is_put p e old new (inl same) t told u is = let one : t ≡ u = cc in inl (ap (λ v. v p) (sym one))
is_put p e old new (inr made) t told u is = inr (has_put p e old new made u is)

pub has_grown : (p : Path) (bytes more : List ℕ) (old new : Option Tree) → HasAt p (λ o. o ≡ Some (file bytes)) old → new ≡ told_grown old p more → HasAt p (λ o. o ≡ Some (file (bytes ++ more))) new
has_grown p bytes more None new has made u told = let none : None ≡ Some u = sym made ∙ told in cc
has_grown p bytes more (Some t) new has made u told =
    let is : put t p (grown (t p) more) ≡ u = cc in
    ap (λ v. v p) (sym is) ∙ put_same t p (grown (t p) more) ∙ ap (λ o. grown o more) (has t refl)

pub half_grown : (p : Path) (bytes more : List ℕ) (old new : Option Tree) → HasAt p (λ o. o ≡ Some (file bytes)) old → (new ≡ old) ⊎ ((k : ℕ) × (k ≤ length more) × (new ≡ told_grown old p (take k more)))
    → HasAt p (λ o. (n : ℕ) × (o ≡ Some (file (bytes ++ take n more)))) new
half_grown p bytes more old new has (inl same) u told = (0, has u (sym same ∙ told) ∙ ap (λ b. Some (file b)) (sym (append-nil bytes)))
half_grown p bytes more old new has (inr made) u told = (made.0, has_grown p bytes (take made.0 more) old new has made.2 u told)

-- where nothing stood
pub link_put : (p : Path) (text : List ℕ) (old new : Option Tree) → ForSome old (λ t. IsFree t p) → (new ≡ old) ⊎ (new ≡ told_with old p (λ t. Some (link text))) → HasAt p (λ o. (o ≡ None) ⊎ (o ≡ Some (link text))) new
link_put p text old new free (inl same) u told = inl (free u (sym same ∙ told)).absent
link_put p text old new free (inr made) u told = inr (has_put p (Some (link text)) old new made u told)

pub wrote_none : (p : Path) (a : Seen) → WroteAt p a a
wrote_none p a = record {
  later = omega arith;
  untold = λ none. none;
  told = λ t told. record {
    tree = t;
    is = told;
    differs = record { others = λ q out. refl };
    added = [];
    touched = sym (append-nil a.touched);
    alone = λ q h. absurd (omega (arith, h.1));
    gave = record { bytes = refl; names = refl };
  };
}

-- a tree that is told after calls was told before them
pub told_before : (p : Path) (a b : Seen) (u : Tree) → WroteAt p a b → b.tree ≡ Some u → (t : Tree) × (a.tree ≡ Some t)
told_before p a b u h told = elim a.tree as (λ o. a.tree ≡ o → (t : Tree) × (a.tree ≡ Some t)) [
  | None ↦ λ none. let gone : b.tree ≡ None = h.untold none in cc (gone, told)
  | Some t ↦ λ is. (t, is)
] refl

not_parent : (x : List ℕ) (p : Path) → same_path (x ∷ p) p ≡ false
not_parent x p = elim (same_path (x ∷ p) p) as (λ b. same_path (x ∷ p) p ≡ b → b ≡ false) [
  | true ↦ λ yes. absurd (deeper x p ((same_path-Decides (x ∷ p) p).0 yes))
  | false ↦ λ out. refl
] refl

parent_at : (p : Path) (t u : Tree) → DiffersAt p t u → HasParent t p → HasParent u p
parent_at [] t u d h = h
parent_at (x ∷ p) t u d h = d.others p (not_parent x p) ∙ h

-- the parent is a folder still
pub parent_kept : (p : Path) (a b : Seen) → WroteAt p a b → ForSome a.tree (λ t. HasParent t p) → ForSome b.tree (λ u. HasParent u p)
parent_kept p a b h parent u told =
    let before = told_before p a b u h told in
    let w = h.told before.0 before.1 in
    let same : w.tree ≡ u = cc (w.is, told) in
    subst (λ v. HasParent v p) same (parent_at p before.0 w.tree w.differs (parent before.0 before.1))

-- an empty file begins each text
pub half_empty : (p : Path) (text : List ℕ) (old new : Option Tree) → IsAt p (λ was o. (o ≡ was) ⊎ (o ≡ Some (file []))) old new → IsAt p (λ was o. (o ≡ was) ⊎ ((n : ℕ) × (o ≡ Some (file (take n text))))) old new
half_empty p text old new h t told u is = elim (h t told u is) [ inl same ↦ inl same | inr empty ↦ inr (0, empty) ]

pub half_any : (p : Path) (old new : Option Tree) → IsAt p (λ was o. (o ≡ was) ⊎ (o ≡ Some (file []))) old new → IsAt p (λ was o. (o ≡ was) ⊎ ((bytes : List ℕ) × (o ≡ Some (file bytes)))) old new
half_any p old new h t told u is = elim (h t told u is) [ inl same ↦ inl same | inr empty ↦ inr ([], empty) ]

pub half_gone : (p : Path) (text : List ℕ) (old new : Option Tree) → IsAt p (λ was o. (o ≡ was) ⊎ (o ≡ None)) old new → IsAt p (λ was o. (o ≡ was) ⊎ (o ≡ None) ⊎ (o ≡ Some (link text))) old new
half_gone p text old new h t told u is = elim (h t told u is) [ inl same ↦ inl same | inr gone ↦ inr (inl gone) ]
