-- Lemmas on a file that is written over what stands there.
use Rattle.std.proofs.Common.{◌≡◌, ◌≢◌, ℕ, List, [], ◌∷◌, length, refl, sym, ap, ◌∙◌, subst, arith, Some, None, inl, inr, ◌⊎◌, length-append}
use Rattle.std.specs.Prelude.{Option, IfSome}
use Rattle.std.specs.Option.{ForSome}
use Rattle.pn_text.specs.Path.{Path}
use Rattle.pn_text.proofs.Results.{for_some, if_some}
use Rattle.pn_fs.specs.Tree.{folder, file, Tree, CanCreate, HasParent, put}
use Rattle.pn_fs.specs.Seen.{Seen}
use Rattle.pn_fs.proofs.Puts.{put_same, at_put}
use Rattle.pn_replace.specs.Removes.{IsWithin, IsCut, Removed, HalfRemoved}
use Rattle.pn_replace.specs.Replaces.{told_replaced, HalfReplaced, IsHalfReplaced}
use Rattle.pn_replace.specs.Writes.{Touched}
use Rattle.pn_replace.proofs.WritesLemmas.{put_apart, touched_both}
use Rattle.pn_lockfile.specs.Rewrites.{AreBeside, IsRewritten, IsHalfRewritten, Rewritten, HalfRewritten}

heads : (x y : List ℕ) (p : Path) → x ∷ p ≡ y ∷ p → x ≡ y
heads x y p e = cc e

-- the path, or one at or below the temporary path
abbrev pub IsOurs : Path → Path → Path → Type 0
IsOurs path temp q = (q ≡ path) ⊎ IsWithin temp q

-- a name beside it isn't at or below it
beside_out : (x y : List ℕ) (p : Path) → x ≢ y → IsWithin (y ∷ p) (x ∷ p) → ⊥
beside_out x y p apart ([], e) = apart (heads x y p e)
beside_out x y p apart (z ∷ r, e) = absurd (omega (arith, ap length e, length-append r (y ∷ p)))

-- and neither is the folder
above_out : (y : List ℕ) (p : Path) → IsWithin (y ∷ p) p → ⊥
above_out y p w = absurd (omega (arith, ap length w.1, length-append w.0 (y ∷ p)))

pub path_out : (path temp : Path) → AreBeside path temp → IsWithin temp path → ⊥
path_out path temp b w = beside_out b.name b.other b.folder b.differ (subst (λ t. IsWithin t (b.name ∷ b.folder)) b.temp_is (subst (λ p. IsWithin temp p) b.path_is w))

pub at_temp : (temp : Path) → IsWithin temp temp
at_temp temp = ([], refl)

folder_stands : (t : Tree) (x : List ℕ) (p path : Path) → path ≡ x ∷ p → HasParent t path → t p ≡ Some folder
folder_stands t x p path is parent = subst (λ q. HasParent t q) is parent

-- what a cut at the temporary path leaves
pub cut_target : (path temp : Path) (t u : Tree) → AreBeside path temp → IsCut temp t u → CanCreate t path → CanCreate u path
cut_target path temp t u b cut can =
    let same : u path ≡ t path = cut.others path (path_out path temp b) in
    let parent : u b.folder ≡ Some folder =
    cut.others b.folder (λ w. above_out b.other b.folder (subst (λ q. IsWithin q b.folder) b.temp_is w)) ∙ folder_stands t b.name b.folder path b.path_is can.parent in
    record {
      absent = elim can.absent [ inl none ↦ inl (same ∙ none) | inr one ↦ inr (one.0, same ∙ one.1) ];
      parent = subst (λ q. HasParent u q) (sym b.path_is) parent;
    }

pub cut_free : (path temp : Path) (t u : Tree) → AreBeside path temp → IsCut temp t u → CanCreate t path → CanCreate u temp
cut_free path temp t u b cut can =
    let parent : u b.folder ≡ Some folder =
    cut.others b.folder (λ w. above_out b.other b.folder (subst (λ q. IsWithin q b.folder) b.temp_is w)) ∙ folder_stands t b.name b.folder path b.path_is can.parent in
    record { absent = inl (cut.gone temp (at_temp temp)); parent = subst (λ q. HasParent u q) (sym b.temp_is) parent }

-- the same where the tree is told
pub told_cut : {P Q : Tree → Type 0} (temp : Path) (a b : Option Tree) → ((t u : Tree) → IsCut temp t u → P t → Q u) → Removed temp a b → ForSome a P → ForSome b Q
told_cut {Q} temp None b step removed h u told = let gone : None ≡ Some u = sym removed ∙ told in cc gone
told_cut {Q} temp (Some t) b step removed h u told =
    let same : removed.0 ≡ u = cc (removed.1, told) in
    subst Q same (step t removed.0 removed.2 (h t refl))

none_put : (u : Tree) (p q : Path) → u q ≡ None → put u p None q ≡ None
none_put u p q none = elim (at_put u p q None) [ inl s ↦ s.2 | inr o ↦ o.1 ∙ none ]

-- the new file takes its place after the cut
rewrites : (path temp : Path) (bytes : List ℕ) (t u : Tree) → AreBeside path temp → IsCut temp t u → IsRewritten path temp bytes t (put (put u temp None) path (Some (file bytes)))
rewrites path temp bytes t u b cut = record {
  there = put_same (put u temp None) path (Some (file bytes));
  gone = λ q within.
      put_apart (put u temp None) path q (Some (file bytes)) (λ e. path_out path temp b (subst (λ z. IsWithin temp z) e within)) ∙ none_put u temp q (cut.gone q within);
  others = λ q off out.
      put_apart (put u temp None) path q (Some (file bytes)) off ∙ put_apart u temp q None (λ e. out (subst (λ z. IsWithin temp z) (sym e) (at_temp temp))) ∙ cut.others q out;
}

pub rewritten : (path temp : Path) (bytes : List ℕ) (old mid new : Option Tree) → AreBeside path temp → Removed temp old mid → new ≡ told_replaced mid path temp bytes → Rewritten path temp bytes old new
rewritten path temp bytes None mid new b removed made = made ∙ ap (λ s. told_replaced s path temp bytes) removed
rewritten path temp bytes (Some t) mid new b removed made =
    (put (put removed.0 temp None) path (Some (file bytes)), made ∙ ap (λ s. told_replaced s path temp bytes) removed.1, rewrites path temp bytes t removed.0 b removed.2)

pub half_cut : (path temp : Path) (bytes : List ℕ) (old new : Option Tree) → AreBeside path temp → HalfRemoved temp old new → HalfRewritten path temp bytes old new
half_cut path temp bytes old new b h t told =
    let u = h t told in (
      u.0,
      u.1,
      record {
        there = elim (u.2 path) [ inl same ↦ inl same | inr gone ↦ absurd (path_out path temp b gone.1) ];
        others = λ q off out. elim (u.2 q) [ inl same ↦ same | inr gone ↦ absurd (out gone.1) ];
      },
    )

half_of : (path temp : Path) (bytes : List ℕ) (t m u : Tree) → AreBeside path temp → IsCut temp t m → HalfReplaced path temp bytes m u → IsHalfRewritten path temp bytes t u
half_of path temp bytes t m u b cut h = record {
  there = elim h.there [ inl same ↦ inl (same ∙ cut.others path (path_out path temp b)) | inr made ↦ inr made ];
  others = λ q off out. h.others q off (λ e. out (subst (λ z. IsWithin temp z) (sym e) (at_temp temp))) ∙ cut.others q out;
}

pub half_replaced : (path temp : Path) (bytes : List ℕ) (old mid new : Option Tree) → AreBeside path temp → Removed temp old mid → IsHalfReplaced path temp bytes mid new → HalfRewritten path temp bytes old new
half_replaced path temp bytes None mid new b removed h t told = cc told
half_replaced path temp bytes (Some s) mid new b removed h t told =
    let same : s ≡ t = cc told in
    let u = h removed.0 removed.1 in
    (u.0, u.1, half_of path temp bytes t removed.0 u.0 b (subst (λ v. IsCut temp v removed.0) same removed.2) u.2)

-- on which paths writing calls were made
touched_more : (A B : Path → Type 0) (a b : Seen) → ((q : Path) → A q → B q) → Touched A a b → Touched B a b
touched_more A B a b more h = record { added = h.added; touched = h.touched; why = λ q inside. more q (h.why q inside) }

pub touched_cut : (path temp : Path) (a b : Seen) → IfSome a.tree (λ t. Touched (IsWithin temp) a b) → IfSome a.tree (λ t. Touched (IsOurs path temp) a b)
touched_cut path temp a b h = if_some (λ t. Touched (IsOurs path temp) a b) a.tree
    (λ t told. touched_more (IsWithin temp) (IsOurs path temp) a b (λ q w. inr w) (for_some (λ t. Touched (IsWithin temp) a b) a.tree h t told))

told_after : (temp : Path) (a b : Option Tree) (t : Tree) → Removed temp a b → a ≡ Some t → (u : Tree) × (b ≡ Some u)
told_after temp None b t removed told = cc told
told_after temp (Some s) b t removed told = (removed.0, removed.1)

pub touched_all : (path temp : Path) (a b c : Seen) → Removed temp a.tree b.tree → IfSome a.tree (λ t. Touched (IsWithin temp) a b) → IfSome b.tree (λ t. Touched (λ q. (q ≡ path) ⊎ (q ≡ temp)) b c)
    → IfSome a.tree (λ t. Touched (IsOurs path temp) a c)
touched_all path temp a b c removed h k = if_some (λ t. Touched (IsOurs path temp) a c) a.tree (λ t told.
    let u = told_after temp a.tree b.tree t removed told in
    touched_both (IsOurs path temp) a b c
    (touched_more (IsWithin temp) (IsOurs path temp) a b (λ q w. inr w) (for_some (λ t. Touched (IsWithin temp) a b) a.tree h t told))
    (touched_more (λ q. (q ≡ path) ⊎ (q ≡ temp)) (IsOurs path temp) b c (λ q e. elim e [ inl one ↦ inl one | inr other ↦ inr ([], other) ])
    (for_some (λ t. Touched (λ q. (q ≡ path) ⊎ (q ≡ temp)) b c) b.tree k u.0 u.1)))
