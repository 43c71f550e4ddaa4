-- Lemmas on what stands at a path by its kind.
use Rattle.std.proofs.Common.{◌≡◌, ℕ, List, [], ◌∷◌, true, false, Some, None, inl, inr, ◌⊎◌, refl, sym, ap, ◌∙◌, length, Bool}
use Rattle.std.specs.Prelude.{Option, IfSome}
use Rattle.std.specs.Bool.{MatchBool}
use Rattle.std.specs.Option.{ForSome}
use Rattle.pn_text.specs.Path.{Path}
use Rattle.pn_text.proofs.Results.{if_some}
use Rattle.pn_fs.specs.declared.kind.Kind.{Kind}
use Rattle.pn_fs.specs.declared.kind.Kind.TheVariants.{Absent, Folder as a_folder, File, Link as a_link}
use Rattle.pn_fs.specs.Tree.{Entry, folder, file, link, Tree, IsTree, IsFree, HasParent, CanCreate, CanRemove}
use Rattle.pn_fs.specs.Calls.{kind_of}
use Rattle.pn_fs.proofs.Puts.{is_absent, is_folder, is_file, is_link}
use Rattle.pn_digest.specs.declared.planned.Planned.TheVariants.{Folder, Bytes, Stored, Link}
use Rattle.pn_repair.specs.Stands.{StandsAs}
use Rattle.pn_repair.specs.Repairs.{fits}

pub can_remove : (t : Tree) (p : Path) → IsTree t → kind_of (t p) ≡ a_link → CanRemove t p
can_remove t [] tree kind = let l = is_link (t []) kind in let clash : Some folder ≡ Some (link l.0) = sym tree.root ∙ l.1 in cc
can_remove t (x ∷ p) tree kind = inr (inl (is_link (t (x ∷ p)) kind))

-- what fits a link
pub for_link : (text : List ℕ) (k : Kind) → fits (Link text) k ≡ true → (k ≡ Absent) ⊎ (k ≡ a_link)
for_link text Absent h = inl refl
for_link text a_folder h = cc
for_link text (File n) h = cc
for_link text a_link h = inr refl

stands_folder : (t : Tree) (p : Path) → IsTree t → (x : Entry) → t p ≡ Some x → (t p ≡ Some folder → ⊥) → HasParent t p
stands_folder t [] tree x is other = absurd (other tree.root)
stands_folder t (y ∷ p) tree x is other = tree.parents y p x is

-- the parent of what isn't a folder is one
parent_of : (t : Tree) (p : Path) → IsTree t → (t p ≡ None → HasParent t p) → (t p ≡ Some folder → ⊥) → HasParent t p
parent_of t p tree parent other = elim (t p) as (λ o. t p ≡ o → HasParent t p) [
  | None ↦ λ none. parent none
  | Some x ↦ λ is. stands_folder t p tree x is other
] refl

absent_kind : (e : Option Entry) (k : Kind) → kind_of e ≡ k → e ≡ None → k ≡ Absent
absent_kind e k kind none = sym kind ∙ ap kind_of none

-- where a folder isn't, nothing is that fits
pub free_folder : (t : Tree) (p : Path) (k : Kind) → IsTree t → fits Folder k ≡ true → kind_of (t p) ≡ k → (k ≡ Absent → HasParent t p) → (t p ≡ Some folder → ⊥) → IsFree t p
free_folder t p k tree fit kind parent other = record {
  absent = elim k as (λ x. k ≡ x → fits Folder x ≡ true → t p ≡ None) [
    | Absent ↦ λ is h. is_absent (t p) (kind ∙ is)
    | a_folder ↦ λ is h. absurd (other (is_folder (t p) (kind ∙ is)))
    | File n ↦ λ is h. cc
    | a_link ↦ λ is h. cc
  ] refl fit;
  parent = parent_of t p tree (λ none. parent (absent_kind (t p) k kind none)) other;
}

-- nothing or a file
file_kind : (k : Kind) (e : Option Entry) → (k ≡ Absent) ⊎ ((n : ℕ) × (k ≡ File n)) → kind_of e ≡ k → (e ≡ None) ⊎ ((bytes : List ℕ) × (e ≡ Some (file bytes)))
file_kind k e (inl absent) kind = inl (is_absent e (kind ∙ absent))
file_kind k e (inr a) kind = let f = is_file e a.0 (kind ∙ a.1) in inr (f.0, f.1)

no_folder : (e : Option Entry) → (e ≡ None) ⊎ ((bytes : List ℕ) × (e ≡ Some (file bytes))) → e ≡ Some folder → ⊥
no_folder e (inl none) is = cc
no_folder e (inr a) is = let same : Some (file a.0) ≡ Some folder = sym a.1 ∙ is in cc

can_create : (t : Tree) (p : Path) (k : Kind) → IsTree t → (k ≡ Absent) ⊎ ((n : ℕ) × (k ≡ File n)) → kind_of (t p) ≡ k → (k ≡ Absent → HasParent t p) → CanCreate t p
can_create t p k tree fit kind parent =
    let stands = file_kind k (t p) fit kind in
    record { absent = stands; parent = parent_of t p tree (λ none. parent (absent_kind (t p) k kind none)) (no_folder (t p) stands) }

for_bytes : (text : List ℕ) (k : Kind) → fits (Bytes text) k ≡ true → (k ≡ Absent) ⊎ ((n : ℕ) × (k ≡ File n))
for_bytes text Absent h = inl refl
for_bytes text a_folder h = cc
for_bytes text (File n) h = inr (n, refl)
for_bytes text a_link h = cc

for_stored : (d : List ℕ) (k : Kind) → fits (Stored d) k ≡ true → (k ≡ Absent) ⊎ ((n : ℕ) × (k ≡ File n))
for_stored d Absent h = inl refl
for_stored d a_folder h = cc
for_stored d (File n) h = inr (n, refl)
for_stored d a_link h = cc

pub create_text : (t : Tree) (p : Path) (text : List ℕ) (k : Kind) → IsTree t → fits (Bytes text) k ≡ true → kind_of (t p) ≡ k → (k ≡ Absent → HasParent t p) → CanCreate t p
create_text t p text k tree fit kind parent = can_create t p k tree (for_bytes text k fit) kind parent

pub create_stored : (t : Tree) (p : Path) (d : List ℕ) (k : Kind) → IsTree t → fits (Stored d) k ≡ true → kind_of (t p) ≡ k → (k ≡ Absent → HasParent t p) → CanCreate t p
create_stored t p d k tree fit kind parent = can_create t p k tree (for_stored d k fit) kind parent

link_no_folder : (e : Option Entry) (k : Kind) → (k ≡ Absent) ⊎ (k ≡ a_link) → kind_of e ≡ k → e ≡ Some folder → ⊥
link_no_folder e k (inl absent) kind is = let same : a_folder ≡ Absent = sym (ap kind_of is) ∙ kind ∙ absent in cc
link_no_folder e k (inr a) kind is = let same : a_folder ≡ a_link = sym (ap kind_of is) ∙ kind ∙ a in cc

pub link_parent : (t : Tree) (p : Path) (text : List ℕ) (k : Kind) → IsTree t → fits (Link text) k ≡ true → kind_of (t p) ≡ k → (k ≡ Absent → HasParent t p) → HasParent t p
link_parent t p text k tree fit kind parent = parent_of t p tree (λ none. parent (absent_kind (t p) k kind none)) (link_no_folder (t p) k (for_link text k fit) kind)

-- what has another kind doesn't stand as planned
pub no_text : (s : Option Tree) (p : Path) (text : List ℕ) (k : Kind) → ForSome s (λ t. kind_of (t p) ≡ k) → ((n : ℕ) → k ≡ File n → ⊥) → IfSome s (λ t. StandsAs (Bytes text) (t p) → ⊥)
no_text s p text k kind other = if_some (λ t. StandsAs (Bytes text) (t p) → ⊥) s (λ t told is. other (length text) (sym (kind t told) ∙ ap kind_of is))

pub no_stored : (s : Option Tree) (p : Path) (d : List ℕ) (k : Kind) → ForSome s (λ t. kind_of (t p) ≡ k) → ((n : ℕ) → k ≡ File n → ⊥) → IfSome s (λ t. StandsAs (Stored d) (t p) → ⊥)
no_stored s p d k kind other = if_some (λ t. StandsAs (Stored d) (t p) → ⊥) s (λ t told st. other (length st.0) (sym (kind t told) ∙ ap kind_of st.1))

pub no_link : (s : Option Tree) (p : Path) (text : List ℕ) (k : Kind) → ForSome s (λ t. kind_of (t p) ≡ k) → (k ≡ a_link → ⊥) → IfSome s (λ t. StandsAs (Link text) (t p) → ⊥)
no_link s p text k kind other = if_some (λ t. StandsAs (Link text) (t p) → ⊥) s (λ t told is. other (sym (kind t told) ∙ ap kind_of is))

pub folder_right : (s : Option Tree) (p : Path) (k : Kind) (right : Bool) → ForSome s (λ t. kind_of (t p) ≡ k) → MatchBool right (k ≡ a_folder) (k ≡ a_folder → ⊥) → IfSome s (λ t. MatchBool right (StandsAs Folder (t p)) (StandsAs Folder (t p) → ⊥))
folder_right s p k true kind h = if_some (λ t. StandsAs Folder (t p)) s (λ t told. is_folder (t p) (kind t told ∙ h))
folder_right s p k false kind h = if_some (λ t. StandsAs Folder (t p) → ⊥) s (λ t told is. h (sym (kind t told) ∙ ap kind_of is))
