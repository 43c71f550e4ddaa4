-- Lemmas on a tree with something else at a path.
use Rattle.std.proofs.Common.{◌≡◌, ℕ, List, [], ◌∷◌, refl, sym, ap, ◌∙◌, subst, Bool, true, false, Some, None, Ok, Err, ◌⊎◌, inl, inr, length}
use Rattle.std.specs.Prelude.{Option, Result, OnErr, if◌then◌else◌}
use Rattle.std.specs.Option.{ForSome}
use Rattle.pn_text.specs.declared.fault.DevFault.{DevFault}
use Rattle.pn_fs.specs.declared.kind.Kind.TheVariants.{Absent, Folder, File, Link}
use Rattle.pn_fs.specs.Calls.{kind_of, told_put, told_grown, Makes}
use Rattle.pn_fs.specs.Made.{DiffersOnly}
use Rattle.pn_text.specs.Path.{Path, same_path}
use Rattle.pn_text.proofs.Paths.{same_path-Decides}
use Rattle.pn_fs.specs.Tree.{Entry, folder, file, link, Tree, IsTree, IsFile, put, grown, HasParent}
use Rattle.pn_fs.specs.Nodes.{IsShortPath}
pub use Rattle.pn_text.proofs.Paths.{same_path_refl, deeper}
pub use Rattle.pn_text.proofs.Results.{for_some, if_some}

-- what is put is there
pub put_same : (t : Tree) (p : Path) (e : Option Entry) → put t p e p ≡ e
put_same t p e = ap (λ b. if b then e else t p) (same_path_refl p)

-- the last put counts
pub put-put : (t : Tree) (p : Path) (a b : Option Entry) → put (put t p a) p b ≡ put t p b
put-put t p a b = λ i q. elim (same_path p q) as (λ s. (if s then b else if s then a else t q) ≡ (if s then b else t q)) [ true ↦ refl | false ↦ refl ] i

-- What stands at a place after a put: the new entry at the same path, else what stood.
pub at_put : (t : Tree) (p q : Path) (e : Option Entry) → ((same_path p q ≡ true) × (p ≡ q) × (put t p e q ≡ e)) ⊎ ((same_path p q ≡ false) × (put t p e q ≡ t q))
at_put t p q e = elim (same_path p q) as (λ b. (b ≡ true → p ≡ q) → ((b ≡ true) × (p ≡ q) × ((if b then e else t q) ≡ e)) ⊎ ((b ≡ false) × ((if b then e else t q) ≡ t q))) [
  | true ↦ λ one. inl (refl, one refl, refl)
  | false ↦ λ one. inr (refl, refl)
] (same_path-Decides p q).0

-- An entry that is put keeps the tree one, where its path is one, the parent is a folder and nothing stands below it.
pub put_tree : (t : Tree) (p : Path) (e : Option Entry) → IsTree t → ((f : Entry) → e ≡ Some f → IsShortPath p) → HasParent t p → ((x : List ℕ) → t (x ∷ p) ≡ None) → IsTree (put t p e)
put_tree t [] e tree good parent none = absurd parent
put_tree t (y ∷ p) e tree good parent none = record {
  paths = λ q f h. elim (at_put t (y ∷ p) q e) [
    | inl s ↦ subst IsShortPath s.1 (good f (sym s.2 ∙ h))
    | inr o ↦ tree.paths q f (sym o.1 ∙ h)
  ];
  root = elim (at_put t (y ∷ p) [] e) [ inl s ↦ cc | inr o ↦ o.1 ∙ tree.root ];
  parents = λ x q f h. elim (at_put t (y ∷ p) (x ∷ q) e) [
    | inl s ↦
        let same : p ≡ q = cc in
        elim (at_put t (y ∷ p) q e) [
          | inl loop ↦ absurd (deeper y p (loop.1 ∙ sym same))
          | inr o ↦ o.1 ∙ subst (λ r. t r ≡ Some folder) same parent
        ]
    | inr o ↦
        let stood : t (x ∷ q) ≡ Some f = sym o.1 ∙ h in
        elim (at_put t (y ∷ p) q e) [
          | inl s ↦ let gone : Some f ≡ None = sym stood ∙ subst (λ r. t (x ∷ r) ≡ None) s.1 (none x) in cc
          | inr k ↦ k.1 ∙ tree.parents x q f stood
        ]
  ];
}

-- to put what stands changes nothing
pub put_own : (t : Tree) (p : Path) (e : Option Entry) → t p ≡ e → put t p e ≡ t
put_own t p e h = λ i q. elim (at_put t p q e) as (λ _. put t p e q ≡ t q) [ inl s ↦ s.2 ∙ sym h ∙ ap t s.1 | inr o ↦ o.1 ] i

-- what stands elsewhere
pub put_other : (t : Tree) (p q : Path) (e : Option Entry) → same_path p q ≡ false → put t p e q ≡ t q
put_other t p q e h = ap (λ b. if b then e else t q) h

-- what an answer of `kind` says of the entry
pub is_absent : (e : Option Entry) → kind_of e ≡ Absent → e ≡ None
is_absent None h = refl
is_absent (Some folder) h = cc
is_absent (Some (file bytes)) h = cc
is_absent (Some (link text)) h = cc

pub is_folder : (e : Option Entry) → kind_of e ≡ Folder → e ≡ Some folder
is_folder None h = cc
is_folder (Some folder) h = refl
is_folder (Some (file bytes)) h = cc
is_folder (Some (link text)) h = cc

pub is_file : (e : Option Entry) (n : ℕ) → kind_of e ≡ File n → (bytes : List ℕ) × (e ≡ Some (file bytes)) × (length bytes ≡ n)
is_file None n h = cc
is_file (Some folder) n h = cc
is_file (Some (file bytes)) n h = (bytes, refl, cc)
is_file (Some (link text)) n h = cc

pub is_link : (e : Option Entry) → kind_of e ≡ Link → (text : List ℕ) × (e ≡ Some (link text))
is_link None h = cc
is_link (Some folder) h = cc
is_link (Some (file bytes)) h = cc
is_link (Some (link text)) h = (text, refl)

-- an entry's parent is a folder
pub in_folder : (t : Tree) → IsTree t → (x : List ℕ) (p : Path) → (t (x ∷ p) ≡ None → ⊥) → t p ≡ Some folder
in_folder t tree x p stands = elim (t (x ∷ p)) as (λ o. t (x ∷ p) ≡ o → t p ≡ Some folder) [
  | None ↦ λ e. absurd (stands e)
  | Some f ↦ λ e. tree.parents x p f e
] refl

-- a file that is made and then grows
pub told_made : (shown : Option Tree) (p : Path) (bytes : List ℕ) → told_grown (told_put shown p (file [])) p bytes ≡ told_put shown p (file bytes)
told_made None p bytes = refl
told_made (Some t) p bytes =
    ap Some (ap (λ e. put (put t p (Some (file []))) p (grown e bytes)) (put_same t p (Some (file []))) ∙ put-put t p (Some (file [])) (Some (file bytes)))

-- what a told tree has at a path
abbrev pub told_at : Option Tree → Path → Option Entry
told_at None p = None
told_at (Some t) p = t p

-- a file that was made is one
pub made_is_file : (shown : Option Tree) (p : Path) (bytes : List ℕ) → ForSome (told_put shown p (file bytes)) (λ t. IsFile t p)
made_is_file None p bytes t e = cc
made_is_file (Some u) p bytes t e = (bytes, subst (λ o. told_at o p ≡ Some (file bytes)) e (put_same u p (Some (file bytes))))

-- a tree that differs at some paths
pub differs_none : (there : Path → Bool) (s : Option Tree) → DiffersOnly there s s
differs_none there s t told = (t, told, λ q h. refl)

pub differs_put : (s : Option Tree) (p : Path) (e : Entry) → DiffersOnly (same_path p) s (told_put s p e)
differs_put None p e t told = cc
differs_put (Some u) p e t told =
    let one : u ≡ t = cc in
    (put u p (Some e), refl, λ q h. ap (λ b. if b then Some e else u q) h ∙ ap (λ v. v q) one)

pub differs_more : (there here : Path → Bool) (a b c : Option Tree) → DiffersOnly there a b → ((q : Path) → there q ≡ false → here q ≡ false) → DiffersOnly here b c → DiffersOnly there a c
differs_more there here a b c h inside k t told =
    let m = h t told in
    let n = k m.0 m.1 in
    (n.0, n.1, λ q out. n.2 q (inside q out) ∙ m.2 q out)

-- a call that makes an entry, whatever it answers
pub differs_made : {T : Type 0} (r : Result T DevFault) (s new : Option Tree) (p : Path) (e : Entry) → Makes s (told_put s p e) new r → OnErr r (DiffersOnly (same_path p) s new)
differs_made (Ok x) s new p e m = tt
differs_made (Err x) s new p e m = elim m.err [
  | inl same ↦ subst (DiffersOnly (same_path p) s) (sym same) (differs_none (same_path p) s)
  | inr made ↦ subst (DiffersOnly (same_path p) s) (sym made) (differs_put s p e)
]

-- an Ok call of append behind an Ok call of create has put a file
pub made_grown : (shown made : Option Tree) (p : Path) (bytes more : List ℕ) → made ≡ told_put shown p (file []) → more ≡ bytes → told_grown made p more ≡ told_put shown p (file bytes)
made_grown shown made p bytes more e is = ap (λ s. told_grown s p more) e ∙ told_made shown p more ∙ ap (λ x. told_put shown p (file x)) is
