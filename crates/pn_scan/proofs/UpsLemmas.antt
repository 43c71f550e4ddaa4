-- The paths above a folder, from `/` on.
use Rattle.std.proofs.Common.{◌≡◌, ◌≢◌, List, [], ◌∷◌, ◌++◌, Bool, true, false, refl, sym, ap, ◌∙◌, subst, inl, inr, Some, None, append-nil, append_assoc}
use Rattle.std.specs.Prelude.{◌⊎◌, Option}
use Rattle.std.specs.List.{Contains}
use Rattle.std.proofs.lemmas.List.Elements.{Contains-append_left, Contains-append_right, Contains-append_cases}
use Rattle.pn_fs.specs.Calls.{kind_of}
use Rattle.pn_fs.specs.Tree.{Entry, folder, file, link, Tree, IsTree}
use Rattle.pn_fs.specs.declared.kind.Kind.{Kind}
use Rattle.pn_fs.specs.declared.kind.Kind.TheVariants.{Absent, Folder}
use Rattle.pn_text.specs.Path.{Path}
use Rattle.pn_text.proofs.Members.{none_in, in_cons, here, there}
use Rattle.pn_scan.specs.Managed.{is_below, is_within}
use Rattle.pn_scan.specs.Looks.{ups, AreFolders, IsNoFolder, StandsOrNot}
use Rattle.pn_scan.proofs.ManagedLemmas.{within_cases, within_itself, below_within, folder_above}

pub ups-within : (p q : Path) → Contains (ups p) q → is_within q p ≡ true
ups-within [] q c = absurd (none_in q c)
ups-within (x ∷ p) q c = elim (in_cons (x ∷ p) (ups p) q c) [
  | inl e ↦ subst (λ z. is_within z (x ∷ p) ≡ true) e (within_itself (x ∷ p))
  | inr i ↦ below_within q (x ∷ p) (ups-within p q i)
]

pub ups-all : (p q : Path) → is_within q p ≡ true → (q ≡ []) ⊎ Contains (ups p) q
ups-all [] q h = elim (within_cases q [] h) [ inl e ↦ inl (sym e) | inr b ↦ cc b ]
ups-all (x ∷ p) q h = elim (within_cases q (x ∷ p) h) [
  | inl e ↦ inr (subst (λ z. Contains (ups (x ∷ p)) z) e (here (x ∷ p) (ups p)))
  | inr b ↦ elim (ups-all p q b) [ inl n ↦ inl n | inr i ↦ inr (there (x ∷ p) (ups p) q i) ]
]

same_tails : (p q : Path) (ps qs : List Path) → p ∷ ps ≡ q ∷ qs → ps ≡ qs
same_tails p q ps qs e = cc

same_heads : (p q : Path) (ps qs : List Path) → p ∷ ps ≡ q ∷ qs → p ≡ q
same_heads p q ps qs e = cc

-- those before one of them are below it
pub ups-below : (p : Path) (rest done : List Path) (next q : Path) → ups p ≡ rest ++ next ∷ done → Contains rest q → is_below next q ≡ true
ups-below p [] done next q e c = absurd (none_in q c)
ups-below [] (r ∷ rest) done next q e c = cc e
ups-below (x ∷ p) (r ∷ rest) done next q e c =
    let tail : ups p ≡ rest ++ next ∷ done = same_tails (x ∷ p) r (ups p) (rest ++ next ∷ done) e in
    elim (in_cons r rest q c) [
      | inl s ↦
          let inside : Contains (ups p) next = subst (λ l. Contains l next) (sym tail) (Contains-append_right rest (next ∷ done) next (here next done)) in
          subst (λ z. is_below next z ≡ true) (same_heads (x ∷ p) r (ups p) (rest ++ next ∷ done) e ∙ s) (ups-within p next inside)
      | inr i ↦ ups-below p rest done next q tail i
    ]

-- What was asked on the way down is folders.
pub record Downs (t : Tree) (p : Path) (left : List Path) : Type 0 where
  pub done : List Path
  pub all : ups p ≡ left ++ done
  pub folders : (q : Path) → Contains done q → t q ≡ Some folder

pub at_top : (t : Tree) (p : Path) (left : List Path) → left ≡ ups p → Downs t p left
at_top t p left e = record { done = []; all = sym e ∙ sym (append-nil left); folders = λ q c. absurd (none_in q c) }

pub one_down : (t : Tree) (p : Path) (left rest : List Path) (next : Path) → left ≡ rest ++ next ∷ [] → t next ≡ Some folder → Downs t p left → Downs t p rest
one_down t p left rest next e is d = record {
  done = next ∷ d.done;
  all = d.all ∙ ap (λ l. l ++ d.done) e ∙ append_assoc rest (next ∷ []) d.done;
  folders = λ q c. elim (in_cons next d.done q c) [ inl s ↦ ap t (sym s) ∙ is | inr i ↦ d.folders q i ];
}

pub same_entry : (o : Option Entry) (e f : Entry) → o ≡ Some e → o ≡ Some f → e ≡ f
same_entry o e f h k = let same : Some e ≡ Some f = sym h ∙ k in cc same

-- all were folders
pub all_down : (t : Tree) → IsTree t → (p : Path) (left : List Path) → left ≡ [] → Downs t p left → StandsOrNot t p true
all_down t tree p left none d =
    let all : ups p ≡ d.done = d.all ∙ ap (λ l. l ++ d.done) none in
    let down : (q : Path) → is_within q p ≡ true → t q ≡ Some folder =
    λ q h. elim (ups-all p q h) [ inl n ↦ ap t n ∙ tree.root | inr i ↦ d.folders q (subst (λ l. Contains l q) all i) ] in
    (λ q e h is. same_entry (t q) e folder is (down q h), down p (within_itself p))

pub some_folder : (o : Option Entry) → o ≡ None → o ≡ Some folder → ⊥
some_folder o h k = let same : None ≡ Some folder = sym h ∙ k in cc same

none_from : (o : Option Entry) → ((e : Entry) → o ≡ Some e → ⊥) → o ≡ None
none_from None h = refl
none_from (Some e) h = absurd (h e refl)

module _ (t : Tree) (tree : IsTree t) (p : Path) (left rest : List Path) (next : Path) (e : left ≡ rest ++ next ∷ []) (d : Downs t p left) where
  whole : ups p ≡ rest ++ next ∷ d.done
  whole = d.all ∙ ap (λ l. l ++ d.done) e ∙ append_assoc rest (next ∷ []) d.done

  pub next_within : is_within next p ≡ true
  next_within = ups-within p next (subst (λ l. Contains l next) (sym whole) (Contains-append_right rest (next ∷ d.done) next (here next d.done)))

  module _ (absent : t next ≡ None) where
    none_below : (q : Path) (f : Entry) → is_below next q ≡ true → t q ≡ Some f → ⊥
    none_below q f b is = some_folder (t next) absent (folder_above t tree next q f b is)

    folders_above : (q : Path) (f : Entry) → is_within q p ≡ true → t q ≡ Some f → f ≡ folder
    folders_above q f h is = elim (ups-all p q h) [
      | inl n ↦ same_entry (t q) f folder is (ap t n ∙ tree.root)
      | inr i ↦ elim (Contains-append_cases rest (next ∷ d.done) q (subst (λ l. Contains l q) whole i)) [
        | inl a ↦ absurd (none_below q f (ups-below p rest d.done next q whole a) is)
        | inr b ↦ elim (in_cons next d.done q b) [
          | inl s ↦ let same : None ≡ Some f = sym absent ∙ ap t s ∙ is in cc same
          | inr j ↦ same_entry (t q) f folder is (d.folders q j)
        ]
      ]
    ]

    -- nothing stands there where nothing stands on the way
    pub none_down : StandsOrNot t p false
    none_down = (
      folders_above,
      elim (within_cases next p next_within) [
        | inl s ↦ ap t s ∙ absent
        | inr b ↦ none_from (t p) (λ f is. none_below p f b is)
      ],
    )

  -- what stands there is no folder
  pub no_folder_down : (f : Entry) → t next ≡ Some f → f ≢ folder → IsNoFolder t p next
  no_folder_down f is other = (next_within, (f, is, other))

pub folder_kind : (o : Option Entry) → Folder ≡ kind_of o → o ≡ Some folder
folder_kind None h = cc h
folder_kind (Some folder) h = refl
folder_kind (Some (file bytes)) h = cc h
folder_kind (Some (link text)) h = cc h

pub absent_kind : (o : Option Entry) → Absent ≡ kind_of o → o ≡ None
absent_kind None h = refl
absent_kind (Some folder) h = cc h
absent_kind (Some (file bytes)) h = cc h
absent_kind (Some (link text)) h = cc h

-- another kind is that of an entry that is no folder
pub other_kind : (o : Option Entry) (k : Kind) → k ≡ kind_of o → (k ≡ Folder → ⊥) → (k ≡ Absent → ⊥) → (e : Entry) × (o ≡ Some e) × (e ≢ folder)
other_kind None k h f a = absurd (a h)
other_kind (Some folder) k h f a = absurd (f h)
other_kind (Some (file bytes)) k h f a = (file bytes, refl, λ e. cc e)
other_kind (Some (link text)) k h f a = (link text, refl, λ e. cc e)
