-- Lemmas on the calls of a file system that tells its tree.
use Rattle.std.proofs.Common.{◌≡◌, ◌≢◌, ℕ, List, [], ◌∷◌, refl, sym, ap, ◌∙◌, subst, true, false, Some, None, Ok, Err, inl, inr, get_or}
use Rattle.std.specs.Prelude.{Option, Result, OnOk, OnErr, if◌then◌else◌}
use Rattle.pn_text.specs.declared.fault.DevFault.{DevFault}
use Rattle.pn_text.specs.Path.{Path, same_path}
use Rattle.pn_text.proofs.Paths.{same_path-Decides}
use Rattle.pn_fs.specs.Tree.{Entry, folder, file, link, Tree, IsTree, IsFree, put, grown, moved, IsFile, IsLink, HasParent, CanCreate, CanRemove, CanRename}
use Rattle.std.specs.List.{All}
use Rattle.std.proofs.lemmas.List.Elements.{All-contains_itself}
use Rattle.pn_text.specs.Path.{is_part, is_path}
use Rattle.pn_text.proofs.Paths.{and_left}
use Rattle.pn_fs.specs.Calls.{Makes, Grows, IsListing, IsEntryName}
use Rattle.pn_fs.specs.Nodes.{IsShortPath}
use Rattle.pn_fs.proofs.Puts.{at_put, put_same, put_tree, put_own, put-put}
pub use Rattle.pn_text.proofs.Results.{if_ok}

-- below what is no folder stands nothing
pub none_below : (t : Tree) → IsTree t → (p : Path) → (t p ≡ Some folder → ⊥) → (x : List ℕ) → t (x ∷ p) ≡ None
none_below t tree p other x = elim (t (x ∷ p)) as (λ o. t (x ∷ p) ≡ o → o ≡ None) [
  | None ↦ λ e. refl
  | Some f ↦ λ e. absurd (other (tree.parents x p f e))
] refl

-- the parent of a file is a folder
pub file_parent : (t : Tree) → IsTree t → (p : Path) → IsFile t p → HasParent t p
file_parent t tree [] h = cc (h.1, tree.root)
file_parent t tree (x ∷ p) h = tree.parents x p (file h.0) h.1

pub file_root : (t : Tree) → IsTree t → (p : Path) → IsFile t p → p ≢ []
file_root t tree p h e = cc (h.1, tree.root, ap t e)

pub parent_root : (t : Tree) (p : Path) → HasParent t p → p ≢ []
parent_root t [] h e = h
parent_root t (x ∷ p) h e = cc

pub free_tree : (t : Tree) (p : Path) (e : Entry) → IsTree t → IsShortPath p → IsFree t p → IsTree (put t p (Some e))
free_tree t p e tree good h = put_tree t p (Some e) tree (λ f is. good) h.parent (none_below t tree p (λ f. cc (f, h.absent)))

pub create_tree : (t : Tree) (p : Path) (e : Option Entry) → IsTree t → IsShortPath p → CanCreate t p → IsTree (put t p e)
create_tree t p e tree good h = put_tree t p e tree (λ f is. good) h.parent (none_below t tree p (λ f. elim h.absent [ inl none ↦ cc | inr is ↦ cc (f, is.1) ]))

pub file_tree : (t : Tree) (p : Path) (e : Option Entry) → IsTree t → IsFile t p → IsTree (put t p e)
file_tree t p e tree h = put_tree t p e tree (λ f is. tree.paths p (file h.0) h.1) (file_parent t tree p h) (none_below t tree p (λ f. cc (f, h.1)))

pub remove_tree : (t : Tree) (p : Path) → IsTree t → CanRemove t p → IsTree (put t p None)
remove_tree t [] tree h = absurd h
remove_tree t (x ∷ p) tree h = elim h [
  | inl f ↦ file_tree t (x ∷ p) None tree f
  | inr g ↦ elim g [
    | inl l ↦ put_tree t (x ∷ p) None tree (λ f is. cc) (tree.parents x p (link l.0) l.1) (none_below t tree (x ∷ p) (λ f. cc (f, l.1)))
    | inr e ↦ put_tree t (x ∷ p) None tree (λ f is. cc) (tree.parents x p folder e.0) e.1
  ]
]

pub remove_root : (t : Tree) (p : Path) → CanRemove t p → p ≢ []
remove_root t [] h e = h
remove_root t (x ∷ p) h e = cc

-- a tree stays one by a call that makes one or changes nothing
pub keeps : {T E : Type 0} (r : Result T E) (t u v : Tree) → OnOk r (v ≡ u) → OnErr r (v ≡ t) → IsTree t → IsTree u → IsTree v
keeps (Ok x) t u v ok err is will = subst IsTree (sym ok) will
keeps (Err e) t u v ok err is will = subst IsTree (sym err) is

pub makes : {T : Type 0} (r : Result T DevFault) (t u v : Tree) → OnOk r (v ≡ u) → OnErr r (v ≡ t) → Makes (Some t) (Some u) (Some v) r
makes (Ok x) t u v ok err = record { ok = ap Some ok; err = tt }
makes (Err e) t u v ok err = record { ok = tt; err = inl (ap Some err) }

pub grows : {T : Type 0} (r : Result T DevFault) (t v : Tree) (p : Path) (bytes : List ℕ) → OnOk r (v ≡ put t p (grown (t p) bytes)) → OnErr r (v ≡ t) → Grows (Some t) p bytes (Some v) r
grows (Ok x) t v p bytes ok err = record { ok = ap Some ok; err = tt }
grows (Err e) t v p bytes ok err = record { ok = tt; err = inl (ap Some err) }

not_both : (p q : Path) → same_path p q ≡ false → p ≡ q → ⊥
not_both p q h e = cc (h, (same_path-Decides p q).1 e)

elsewhere : (q p : Path) → same_path p q ≡ false → same_path q p ≡ false
elsewhere q p h = elim (same_path q p) as (λ b. same_path q p ≡ b → b ≡ false) [
  | true ↦ λ e. absurd (not_both p q h (sym ((same_path-Decides q p).0 e)))
  | false ↦ λ e. refl
] refl

-- what stands elsewhere after a put
pub stays : (t : Tree) (from to : Path) (e : Option Entry) → same_path from to ≡ false → put t to e from ≡ t from
stays t from to e h = elim (at_put t to from e) [ inl s ↦ absurd (not_both from to h (sym s.1)) | inr o ↦ o.1 ]

-- a move by way of a folder at the new place
pub moved_by : (t one two three : Tree) (from to : Path) (e : Entry) (o : Option Entry) → same_path from to ≡ false
    → one ≡ put t to (Some e) → o ≡ one from → two ≡ put one from None → three ≡ put two to o → three ≡ moved t from to
moved_by t one two three from to e o apart first held second third =
    let same : o ≡ t from = held ∙ ap (λ u. u from) first ∙ stays t from to (Some e) apart in
    third ∙ ap (λ x. put two to x) same ∙ ap (λ u. put u to (t from)) (second ∙ ap (λ u. put u from None) first) ∙ swapped where
      swapped : put (put (put t to (Some e)) from None) to (t from) ≡ moved t from to
      swapped = λ i q. elim (same_path to q) as (λ b. (if b then t from else if same_path from q then None else if b then Some e else t q) ≡ (if b then t from else if same_path from q then None else t q)) [
        | true ↦ refl
        | false ↦ refl
      ] i

-- meanwhile the folder holds the new place, and the source stands
pub place_held : (t one two : Tree) (from to : Path) (e : Entry) → same_path from to ≡ false → one ≡ put t to (Some e) → two ≡ put one from None → two to ≢ None
place_held t one two from to e apart first second gone =
    let held : two to ≡ Some e = ap (λ u. u to) second ∙ stays one to from None (elsewhere to from apart) ∙ ap (λ u. u to) first ∙ put_same t to (Some e) in
    let clash : Some e ≡ None = sym held ∙ gone in cc

pub source_held : (t one : Tree) (from to : Path) (e : Entry) → same_path from to ≡ false → one ≡ put t to (Some e) → t from ≢ None → one from ≢ None
source_held t one from to e apart first stands gone = stands (sym (ap (λ u. u from) first ∙ stays t from to (Some e) apart) ∙ gone)

pub moved_nowhere : (t : Tree) (from to : Path) → same_path from to ≡ true → moved t from to ≡ t
moved_nowhere t from to h =
    let one : from ≡ to = (same_path-Decides from to).0 h in
    ap (λ q. put (put t q None) to (t from)) one ∙ put-put t to None (t from) ∙ put_own t to (t from) (sym (ap t one))

pub moved_tree : (t : Tree) (from to : Path) → IsTree t → IsShortPath to → CanRename t from to → IsTree (moved t from to)
moved_tree t from [] tree good h = absurd h.target.parent
moved_tree t from (x ∷ p) tree good h = create_tree (put t from None) (x ∷ p) (t from) (file_tree t from None tree h.source) good (record {
  absent = elim (at_put t from (x ∷ p) None) [
    | inl s ↦ inl s.2
    | inr o ↦ elim h.target.absent [ inl none ↦ inl (o.1 ∙ none) | inr is ↦ inr (is.0, o.1 ∙ is.1) ]
  ];
  parent = elim (at_put t from p None) [
    | inl s ↦ let clash : Some (file h.source.0) ≡ Some folder = sym h.source.1 ∙ ap t s.1 ∙ h.target.parent in cc
    | inr o ↦ o.1 ∙ h.target.parent
  ];
})

pub link_root : (t : Tree) → IsTree t → (p : Path) → IsLink t p → p ≢ []
link_root t tree p h e = cc (h.1, tree.root, ap t e)

pub file_held : (t : Tree) (p : Path) → IsFile t p → t p ≢ None
file_held t p h e = cc (h.1, e)

-- the names of a listing make the paths of entries
pub entry_names : (t : Tree) (p : Path) (names : List (List ℕ)) → IsTree t → IsListing t p names → All (IsEntryName p) names
entry_names t p names tree h k d l =
    let x = get_or names k d in
    let e = h.stands x (All-contains_itself names k d l) in
    let good = tree.paths (x ∷ p) e.0 e.1 in
    record { part = and_left (is_part x) (is_path p) good.0; short = good.1 }
