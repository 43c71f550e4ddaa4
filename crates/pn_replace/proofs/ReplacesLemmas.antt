-- Lemmas on a file that is replaced.
use Rattle.std.proofs.Common.{◌≡◌, ◌≢◌, List, ◌∷◌, [], ℕ, refl, sym, ap, ◌∙◌, subst, Some, None, inl, inr, ◌⊎◌}
use Rattle.std.specs.Prelude.{Option, Result, OnErr, Ok, Err, IfSome}
use Rattle.std.specs.Option.{ForSome}
use Rattle.std.specs.List.{Contains}
use Rattle.pn_text.specs.Path.{Path}
use Rattle.pn_text.specs.declared.fault.DevFault.{DevFault}
use Rattle.pn_text.proofs.Members.{in_cons, in_one}
use Rattle.pn_fs.specs.Tree.{Entry, folder, file, Tree, put, moved, IsFile, CanCreate, CanRename, HasParent}
use Rattle.pn_fs.specs.Seen.{Seen, GaveNothing}
use Rattle.pn_fs.specs.Calls.{told_put, told_moved, Makes, Grows, Touches}
use Rattle.pn_fs.proofs.Puts.{put_same, put-put}
use Rattle.pn_replace.specs.Replaces.{told_replaced, IsHalfReplaced}
use Rattle.pn_replace.specs.Writes.{WroteTold}
use Rattle.pn_replace.proofs.WritesLemmas.{put_apart, came_by, came_made, came_grown, came_both, wrote_made, wrote_grown}

-- one of the two paths
abbrev pub IsEither : Path → Path → Path → Type 0
IsEither path temp p = (p ≡ path) ⊎ (p ≡ temp)

-- a folder isn't where a file may be made
no_folder : (t : Tree) (p q : Path) → (t p ≡ None) ⊎ IsFile t p → t q ≡ Some folder → q ≢ p
no_folder t p q (inl none) f same = let at : t q ≡ t p = ap t same in cc (none, f, at)
no_folder t p q (inr one) f same = let at : t q ≡ t p = ap t same in let is : t p ≡ Some (file one.0) = one.1 in cc (is, f, at)

parent_kept : (t : Tree) (path temp : Path) (e : Option Entry) → (t temp ≡ None) ⊎ IsFile t temp → HasParent t path → HasParent (put t temp e) path
parent_kept t [] temp e h parent = parent
parent_kept t (x ∷ p) temp e h parent = put_apart t temp p e (no_folder t temp p h parent) ∙ parent

target_kept : (t : Tree) (path temp : Path) (e : Option Entry) → path ≢ temp → (t path ≡ None) ⊎ IsFile t path → (put t temp e path ≡ None) ⊎ IsFile (put t temp e) path
target_kept t path temp e apart (inl none) = inl (put_apart t temp path e apart ∙ none)
target_kept t path temp e apart (inr one) = inr (one.0, put_apart t temp path e apart ∙ one.1)

-- the temporary file can be moved
pub can_rename : (old now : Option Tree) (path temp : Path) (bytes : List ℕ) → path ≢ temp → ForSome old (λ t. CanCreate t path) → ForSome old (λ t. CanCreate t temp) → now ≡ told_put old temp (file bytes) → ForSome now (λ u. CanRename u temp path)
can_rename None now path temp bytes apart target free made u told = cc
can_rename (Some t) now path temp bytes apart target free made u told =
    let same : put t temp (Some (file bytes)) ≡ u = cc in
    subst (λ v. CanRename v temp path) same (record {
      source = (bytes, put_same t temp (Some (file bytes)));
      target = record { absent = target_kept t path temp (Some (file bytes)) apart (target t refl).absent; parent = parent_kept t path temp (Some (file bytes)) (free t refl).absent (target t refl).parent };
    })

-- what the move makes
pub moved_is : (old now : Option Tree) (path temp : Path) (bytes : List ℕ) → now ≡ told_put old temp (file bytes) → told_moved now temp path ≡ told_replaced old path temp bytes
moved_is None now path temp bytes made = ap (λ s. told_moved s temp path) made
moved_is (Some t) now path temp bytes made =
    ap (λ s. told_moved s temp path) made
    ∙ ap (λ e. Some (put (put (put t temp (Some (file bytes))) temp None) path e)) (put_same t temp (Some (file bytes)))
    ∙ ap (λ v. Some (put v path (Some (file bytes)))) (put-put t temp (Some (file bytes)) None)

-- the move leaves what is elsewhere
pub move_kept : (path temp : Path) (t : Tree) (q : Path) → (IsEither path temp q → ⊥) → moved t temp path q ≡ t q
move_kept path temp t q out = put_apart (put t temp None) path q (t temp) (λ e. out (inl e)) ∙ put_apart t temp q None (λ e. out (inr e))

pub temp_kept : (path temp : Path) (e : Entry) (t : Tree) (q : Path) → (IsEither path temp q → ⊥) → put t temp (Some e) q ≡ t q
temp_kept path temp e t q out = put_apart t temp q (Some e) (λ e. out (inr e))

pub in_temp : (path temp q : Path) → Contains (temp ∷ []) q → IsEither path temp q
in_temp path temp q h = inr (sym (in_one temp q h))

pub in_both : (path temp q : Path) → Contains (temp ∷ path ∷ []) q → IsEither path temp q
in_both path temp q h = elim (in_cons temp (path ∷ []) q h) [ inl one ↦ inr (sym one) | inr more ↦ inl (sym (in_one path q more)) ]

-- before the move the old bytes stand there
pub half_filled : (path temp : Path) (bytes : List ℕ) (old new : Option Tree) → path ≢ temp → ForSome old (λ t. (u : Tree) × (new ≡ Some u) × ((q : Path) → (q ≡ temp → ⊥) → u q ≡ t q)) → IsHalfReplaced path temp bytes old new
half_filled path temp bytes old new apart h t told =
    let u = h t told in
    (u.0, u.1, record { there = inl (u.2 path apart); others = λ q a b. u.2 q b })

half_moved : (old now new : Option Tree) (path temp : Path) (bytes : List ℕ) → path ≢ temp → now ≡ told_put old temp (file bytes) → (new ≡ now) ⊎ (new ≡ told_moved now temp path) → IsHalfReplaced path temp bytes old new
half_moved None now new path temp bytes apart made one t told = cc
half_moved (Some v) now new path temp bytes apart made (inl is) t told =
    let same : v ≡ t = cc in (
      put v temp (Some (file bytes)),
      is ∙ made,
      record {
        there = inl (put_apart v temp path (Some (file bytes)) apart ∙ ap (λ w. w path) same);
        others = λ q a b. put_apart v temp q (Some (file bytes)) b ∙ ap (λ w. w q) same;
      },
    )
half_moved (Some v) now new path temp bytes apart made (inr is) t told =
    let same : v ≡ t = cc in (
      put (put v temp None) path (Some (file bytes)),
      is ∙ moved_is (Some v) now path temp bytes made,
      record {
        there = inr (put_same (put v temp None) path (Some (file bytes)));
        others = λ q a b. put_apart (put v temp None) path q (Some (file bytes)) a ∙ put_apart v temp q None b ∙ ap (λ w. w q) same;
      },
    )

pub half_rename : {T : Type 0} (r : Result T DevFault) (old now new : Option Tree) (path temp : Path) (bytes : List ℕ) → path ≢ temp → now ≡ told_put old temp (file bytes) → Makes now (told_moved now temp path) new r → OnErr r (IsHalfReplaced path temp bytes old new)
half_rename (Ok x) old now new path temp bytes apart made m = tt
half_rename (Err x) old now new path temp bytes apart made m = half_moved old now new path temp bytes apart made m.err

-- what the calls leave
pub wrote_temp : {T : Type 0} (r : Result T DevFault) (path temp : Path) (e : Entry) (a b : Seen) → Makes a.tree (told_put a.tree temp e) b.tree r → Touches a b (temp ∷ []) r → IfSome a.tree (λ t. GaveNothing a b) → ForSome a.tree (λ t. WroteTold (IsEither path temp) t a b)
wrote_temp r path temp e a b made touches gave = wrote_made r (IsEither path temp) (λ t. put t temp (Some e)) (temp ∷ []) a b (temp_kept path temp e) (in_temp path temp) made touches gave

pub wrote_more : {T : Type 0} (r : Result T DevFault) (path temp : Path) (bytes : List ℕ) (a b : Seen) → Grows a.tree temp bytes b.tree r → Touches a b (temp ∷ []) r → IfSome a.tree (λ t. GaveNothing a b) → ForSome a.tree (λ t. WroteTold (IsEither path temp) t a b)
wrote_more r path temp bytes a b grows touches gave = wrote_grown r (IsEither path temp) temp bytes a b (in_temp path temp) grows touches gave

pub wrote_move : {T : Type 0} (r : Result T DevFault) (path temp : Path) (a b : Seen) → Makes a.tree (told_moved a.tree temp path) b.tree r → Touches a b (temp ∷ path ∷ []) r → IfSome a.tree (λ t. GaveNothing a b) → ForSome a.tree (λ t. WroteTold (IsEither path temp) t a b)
wrote_move r path temp a b made touches gave = wrote_made r (IsEither path temp) (λ t. moved t temp path) (temp ∷ path ∷ []) a b (move_kept path temp) (in_both path temp) made touches gave

-- a call that makes the temporary file leaves the old bytes there
pub half_made : {T : Type 0} (r : Result T DevFault) (path temp : Path) (bytes : List ℕ) (e : Entry) (old new : Option Tree) → path ≢ temp → Makes old (told_put old temp e) new r → IsHalfReplaced path temp bytes old new
half_made r path temp bytes e old new apart made = half_filled path temp bytes old new apart (came_made r (λ q. q ≡ temp) (λ t. put t temp (Some e)) old new (λ t q out. put_apart t temp q (Some e) out) made)

pub half_grown : {T : Type 0} (r : Result T DevFault) (path temp : Path) (bytes : List ℕ) (e : Entry) (old mid new : Option Tree) → path ≢ temp → mid ≡ told_put old temp e → Grows mid temp bytes new r → IsHalfReplaced path temp bytes old new
half_grown r path temp bytes e old mid new apart made grows = half_filled path temp bytes old new apart
    (came_both (λ q. q ≡ temp) old mid new (came_by (λ q. q ≡ temp) (λ t. put t temp (Some e)) old mid (λ t q out. put_apart t temp q (Some e) out) made) (came_grown r (λ q. q ≡ temp) temp bytes mid new refl grows))
