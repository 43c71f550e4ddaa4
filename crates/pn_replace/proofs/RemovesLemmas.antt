-- Lemmas on entries that are taken away with all below them.
use Rattle.std.proofs.Common.{◌≡◌, ◌≢◌, ℕ, ◌+◌, ◌≤◌, List, [], ◌∷◌, ◌++◌, length, drop, get_or, ◌<◌, refl, sym, ap, ◌∙◌, subst, arith, Some, None, Ok, Err, inl, inr, ◌⊎◌, append_assoc, length-append}
use Rattle.std.proofs.lemmas.List.{drop_more}
use Rattle.std.proofs.lemmas.List.Elements.{All-contains}
use Rattle.std.specs.Prelude.{Option, Result, IfSome, OnOk}
use Rattle.std.specs.List.{Contains, All}
use Rattle.std.specs.Option.{ForSome, MatchOption}
use Rattle.pn_text.specs.Path.{Path, text_below}
use Rattle.pn_text.specs.declared.fault.DevFault.{DevFault}
use Rattle.pn_text.proofs.Results.{for_some, if_some}
use Rattle.pn_text.proofs.Members.{none_in, in_cons, in_one}
use Rattle.pn_fs.specs.Tree.{Entry, folder, Tree, IsTree, put, CanRemove}
use Rattle.pn_fs.specs.Seen.{Seen, Keeps}
use Rattle.pn_fs.specs.Calls.{kind_of, IsListing, IsEntryName, Makes, Touches, told_gone}
use Rattle.pn_fs.specs.declared.kind.Kind.{Kind}
use Rattle.pn_fs.specs.declared.kind.Kind.TheVariants.{Folder}
use Rattle.pn_fs.proofs.Puts.{at_put, put_same, is_folder}
use Rattle.pn_replace.specs.Writes.{Touched}
use Rattle.pn_replace.specs.Removes.{IsWithin, IsCut, IsHalfCut, Removed, HalfRemoved, CutTold, Cuts}
use Rattle.pn_replace.proofs.WritesLemmas.{touched_none, touched_both, touched_call}

within_itself : (p q : Path) → q ≡ p → IsWithin p q
within_itself p q e = ([], e)

within_child : (x : List ℕ) (p q : Path) → IsWithin (x ∷ p) q → IsWithin p q
within_child x p q w = (w.0 ++ x ∷ [], w.1 ∙ sym (append_assoc w.0 (x ∷ []) p))

not_within : (x : List ℕ) (p : Path) → IsWithin (x ∷ p) p → ⊥
not_within x p w = absurd (omega (arith, ap length w.1, length-append w.0 (x ∷ p)))

-- nothing stands below what is absent
none_far : (u : Tree) → IsTree u → (p r : Path) → u p ≡ None → u (r ++ p) ≡ None
none_far u tree p [] none = none
none_far u tree p (x ∷ r) none = elim (u (x ∷ r ++ p)) as (λ o. u (x ∷ r ++ p) ≡ o → o ≡ None) [
  | None ↦ λ e. refl
  | Some f ↦ λ e. let above : u (r ++ p) ≡ Some folder = tree.parents x (r ++ p) f e in let none_above = none_far u tree p r none in cc (above, none_above)
] refl

cut_both : (p : Path) (t : Tree) (a b c : Seen) → (h : CutTold p t a b) → CutTold p h.tree b c → CutTold p t a c
cut_both p t a b c h k = record {
  tree = k.tree;
  is = k.is;
  half = λ q. elim (k.half q) [
    | inl same ↦ elim (h.half q) [ inl was ↦ inl (same ∙ was) | inr gone ↦ inr (same ∙ gone.0, gone.1) ]
    | inr gone ↦ inr gone
  ];
  touched = touched_both (IsWithin p) a b c h.touched k.touched;
}

touched_child : (x : List ℕ) (p : Path) (a b : Seen) → Touched (IsWithin (x ∷ p)) a b → Touched (IsWithin p) a b
touched_child x p a b h = record { added = h.added; touched = h.touched; why = λ q inside. within_child x p q (h.why q inside) }

cut_child : (x : List ℕ) (p : Path) (t : Tree) (a b : Seen) → CutTold (x ∷ p) t a b → CutTold p t a b
cut_child x p t a b h = record {
  tree = h.tree;
  is = h.is;
  half = λ q. elim (h.half q) [ inl same ↦ inl same | inr gone ↦ inr (gone.0, within_child x p q gone.1) ];
  touched = touched_child x p a b h.touched;
}

pub cuts_none : (p : Path) (a b : Seen) → b.tree ≡ a.tree → b.touched ≡ a.touched → Cuts p a b
cuts_none p a b same touched = record {
  untold = λ none. same ∙ none;
  told = λ t told. record { tree = t; is = same ∙ told; half = λ q. inl refl; touched = touched_none (IsWithin p) a b touched };
}

pub cuts_both : (p : Path) (a b c : Seen) → Cuts p a b → Cuts p b c → Cuts p a c
cuts_both p a b c h k = record {
  untold = λ none. k.untold (h.untold none);
  told = λ t told. let m = h.told t told in cut_both p t a b c m (k.told m.tree m.is);
}

-- one call of `remove`
half_put : (t : Tree) (p : Path) → IsHalfCut p t (put t p None)
half_put t p q = elim (at_put t p q None) [ inl s ↦ inr (s.2, within_itself p q (sym s.1)) | inr o ↦ inl o.1 ]

removed_told : (p : Path) (a b : Option Tree) (t : Tree) → a ≡ Some t → (b ≡ a) ⊎ (b ≡ told_gone a p) → (u : Tree) × (b ≡ Some u) × IsHalfCut p t u
removed_told p a b t told (inl same) = (t, same ∙ told, λ q. inl refl)
removed_told p a b t told (inr made) = (put t p None, made ∙ ap (λ s. told_gone s p) told, half_put t p)

removed_untold : (p : Path) (a b : Option Tree) → (b ≡ a) ⊎ (b ≡ told_gone a p) → a ≡ None → b ≡ None
removed_untold p a b (inl same) none = same ∙ none
removed_untold p a b (inr made) none = made ∙ ap (λ s. told_gone s p) none

came : {T : Type 0} (r : Result T DevFault) (p : Path) (a b : Option Tree) → Makes a (told_gone a p) b r → (b ≡ a) ⊎ (b ≡ told_gone a p)
came (Ok x) p a b m = inr m.ok
came (Err x) p a b m = m.err

pub cuts_call : {T : Type 0} (r : Result T DevFault) (p : Path) (a b : Seen) → Makes a.tree (told_gone a.tree p) b.tree r → Touches a b (p ∷ []) r → Cuts p a b
cuts_call r p a b made touches = record {
  untold = removed_untold p a.tree b.tree (came r p a.tree b.tree made);
  told = λ t told.
      let u = removed_told p a.tree b.tree t told (came r p a.tree b.tree made) in
      record { tree = u.0; is = u.1; half = u.2; touched = touched_call r (IsWithin p) (p ∷ []) a b t told (λ q inside. within_itself p q (sym (in_one p q inside))) touches };
}

gone_here : (p : Path) (a b : Option Tree) → b ≡ told_gone a p → ForSome b (λ u. u p ≡ None)
gone_here p None b made u told = let none : None ≡ Some u = sym made ∙ told in cc
gone_here p (Some t) b made u told = let is : put t p None ≡ u = cc in ap (λ v. v p) (sym is) ∙ put_same t p None

pub gone_call : {T : Type 0} (r : Result T DevFault) (p : Path) (a b : Option Tree) → Makes a (told_gone a p) b r → OnOk r (ForSome b (λ u. u p ≡ None))
gone_call (Ok x) p a b m = gone_here p a b m.ok
gone_call (Err x) p a b m = tt

-- Some of a folder's entries are gone: those that stand still are among these names.
pub record Cutting (p : Path) (left : List (List ℕ)) (t : Tree) (old now : Seen) : Type 0 where
  pub cut : CutTold p t old now
  pub stands : cut.tree p ≡ Some folder
  pub among : (y : List ℕ) (e : Entry) → cut.tree (y ∷ p) ≡ Some e → Contains left y

-- all entries stand
pub begins : (p : Path) (names items : List (List ℕ)) (k : Kind) (a b c : Seen) → k ≡ Folder → IfSome a.tree (λ t. k ≡ kind_of (t p)) → Keeps a b → Keeps b c → IfSome b.tree (λ t. IsListing t p items) → names ≡ items → ForSome a.tree (λ t. Cutting p names t a c)
unfolding cuts_none
begins p names items k a b c is kind first then listing same t told = record {
  cut = (cuts_none p a c (then.tree ∙ first.tree) (then.touched ∙ first.touched)).told t told;
  stands = is_folder (t p) (sym (for_some (λ t. k ≡ kind_of (t p)) a.tree kind t told) ∙ is);
  among = λ y e at. subst (λ l. Contains l y) (sym same) ((for_some (λ t. IsListing t p items) b.tree listing t (first.tree ∙ told)).all y e at);
}

-- one entry more
pub cuts_one : (p : Path) (x : List ℕ) (names : List (List ℕ)) (a b c : Seen) → ForSome a.tree (λ t. Cutting p (x ∷ names) t a b) → Cuts (x ∷ p) b c → ForSome c.tree (λ u. u (x ∷ p) ≡ None) → ForSome a.tree (λ t. Cutting p names t a c)
unfolding cut_both cut_child
cuts_one p x names a b c h k none t told =
    let m = h t told in
    let n = k.told m.cut.tree m.cut.is in
    record {
      cut = cut_both p t a b c m.cut (cut_child x p m.cut.tree b c n);
      stands = elim (n.half p) [ inl same ↦ same ∙ m.stands | inr gone ↦ absurd (not_within x p gone.1) ];
      among = λ y e at. elim (n.half (y ∷ p)) [
        | inl same ↦ elim (in_cons x names y (m.among y e (sym same ∙ at))) [
          | inl one ↦ let clash : None ≡ Some e = sym (none n.tree n.is) ∙ ap (λ z. n.tree (z ∷ p)) one ∙ at in cc
          | inr more ↦ more
        ]
        | inr gone ↦ let clash : None ≡ Some e = sym gone.0 ∙ at in cc
      ];
    }

pub child_is : (x text : List ℕ) (p inner : Path) → inner ≡ text ∷ p → text ≡ x → inner ≡ x ∷ p
child_is x text p inner at is = at ∙ ap (λ z. z ∷ p) is

pub one_more : (p : Path) (names : List (List ℕ)) (i : ℕ) (x : List ℕ) (inner : Path) (a b c : Seen) → i < length names → x ≡ get_or names i x → inner ≡ x ∷ p → ForSome a.tree (λ t. Cutting p (drop i names) t a b) → Cuts inner b c → ForSome c.tree (λ u. u inner ≡ None)
    → ForSome a.tree (λ t. Cutting p (drop (i + 1) names) t a c)
one_more p names i x inner a b c within is at h k none =
    let next : drop i names ≡ x ∷ drop (i + 1) names = drop_more names i x within ∙ ap (λ z. z ∷ drop (i + 1) names) (sym is) in
    cuts_one p x (drop (i + 1) names) a b c (subst (λ (l : List (List ℕ)). ForSome a.tree (λ t. Cutting p l t a b)) next h) (subst (λ q. Cuts q b c) at k) (subst (λ q. ForSome c.tree (λ u. u q ≡ None)) at none)

pub cuts_inner : (x : List ℕ) (p inner : Path) (a b : Seen) → inner ≡ x ∷ p → Cuts inner a b → Cuts p a b
cuts_inner x p inner a b at h =
    let k = subst (λ q. Cuts q a b) at h in
    record { untold = k.untold; told = λ t told. cut_child x p t a b (k.told t told) }

pub cuts_of : (p : Path) (left : List (List ℕ)) (a b : Seen) → (a.tree ≡ None → b.tree ≡ None) → ForSome a.tree (λ t. Cutting p left t a b) → Cuts p a b
cuts_of p left a b untold h = record { untold = untold; told = λ t told. (h t told).cut }

told_before : (a b : Option Tree) (u : Tree) → (a ≡ None → b ≡ None) → b ≡ Some u → (t : Tree) × (a ≡ Some t)
told_before None b u untold told = let gone : b ≡ None = untold refl in cc (gone, told)
told_before (Some t) b u untold told = (t, refl)

none_left : (o : Option Entry) → ((e : Entry) → o ≡ Some e → ⊥) → o ≡ None
none_left None h = refl
none_left (Some e) h = absurd (h e refl)

can_remove : (u : Tree) (p : Path) → p ≢ [] → u p ≡ Some folder → ((y : List ℕ) → u (y ∷ p) ≡ None) → CanRemove u p
can_remove u [] apart is none = absurd (apart refl)
can_remove u (x ∷ p) apart is none = inr (inr (is, none))

-- an empty folder can be taken away
pub can_remove_empty : (p : Path) (left : List (List ℕ)) (a b : Seen) → p ≢ [] → left ≡ [] → (a.tree ≡ None → b.tree ≡ None) → ForSome a.tree (λ t. Cutting p left t a b) → ForSome b.tree (λ u. CanRemove u p)
can_remove_empty p left a b apart empty untold h u told =
    let before = told_before a.tree b.tree u untold told in
    let m = h before.0 before.1 in
    let same : m.cut.tree ≡ u = cc (m.cut.is, told) in
    subst (λ v. CanRemove v p) same (can_remove m.cut.tree p apart m.stands (λ y. none_left (m.cut.tree (y ∷ p)) (λ e at. none_in y (subst (λ l. Contains l y) empty (m.among y e at)))))

-- a path has at most as many parts as its text has bytes
parts_short : (p : Path) → length p ≤ length (text_below p)
parts_short [] = omega arith
parts_short (x ∷ p) = omega (arith, parts_short p, length-append (text_below p) (47 ∷ x))

-- so an entry of a folder isn't too deep
pub child_short : (p : Path) (names items : List (List ℕ)) (i : ℕ) (x : List ℕ) → All (IsEntryName p) items → names ≡ items → i < length names → x ≡ get_or names i x → length p + 1 ≤ 4096
child_short p names items i x good same within is =
    let name = All-contains (IsEntryName p) names x (subst (λ l. All (IsEntryName p) l) (sym same) good) (i, within, sym is) in
    omega (arith, parts_short (x ∷ p), name.short)

-- after Ok nothing stands there
pub removed_all : (p : Path) (a b : Seen) → ((u : Tree) → b.tree ≡ Some u → IsTree u) → Cuts p a b → ForSome b.tree (λ u. u p ≡ None) → Removed p a.tree b.tree
removed_all p a b tree h none = elim a.tree as (λ o. a.tree ≡ o → MatchOption o (b.tree ≡ None) (λ t. (u : Tree) × (b.tree ≡ Some u) × IsCut p t u)) [
  | None ↦ λ e. h.untold e
  | Some t ↦ λ e.
      let m = h.told t e in (
        m.tree,
        m.is,
        record {
          gone = λ q within. ap m.tree within.1 ∙ none_far m.tree (tree m.tree m.is) p within.0 (none m.tree m.is);
          others = λ q out. elim (m.half q) [ inl same ↦ same | inr gone ↦ absurd (out gone.1) ];
        },
      )
] refl

pub half_removed : (p : Path) (a b : Seen) → Cuts p a b → HalfRemoved p a.tree b.tree
half_removed p a b h t told = let m = h.told t told in (m.tree, m.is, m.half)

pub removed_touched : (p : Path) (a b : Seen) → Cuts p a b → IfSome a.tree (λ t. Touched (IsWithin p) a b)
removed_touched p a b h = if_some (λ t. Touched (IsWithin p) a b) a.tree (λ t told. (h.told t told).touched)
