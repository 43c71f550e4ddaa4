-- What the drawing of some leaves has at each path.
use Rattle.std.proofs.Common.{◌≡◌, inl, inr, List, [], ◌∷◌, ◌++◌, length, refl, sym, ap, ◌∙◌, subst, append_assoc, append-nil, arith, true, false, Some, None}
use Rattle.std.specs.Prelude.{Option, ◌↔◌, ◌&&◌, if◌then◌else◌}
use Rattle.std.specs.List.{Contains}
use Rattle.std.proofs.lemmas.List.Elements.{Contains-append_left, Contains-push, Contains-push_cases}
use Rattle.std.specs.Cmp.Derive.{both_true}
use Rattle.pn_text.specs.Path.{Path, same_path}
use Rattle.pn_text.proofs.Paths.{same_path-Decides, and_left, and_right, same_path_refl}
use Rattle.pn_digest.specs.declared.planned.Planned.{Planned}
use Rattle.pn_digest.specs.declared.planned.Planned.TheVariants.{Folder}
use Rattle.pn_draft.specs.Drawing.{is_below, is_top, is_inside, AreApart, or_else, bare, with_leaf}
use Rattle.pn_draft.specs.Entries.{with_leaves, drawing, IsEntry, top, leaf, between, AreLeaves}
use Rattle.pn_draft.proofs.TopLemmas.{within_length, any_of, one_of, below_within}

-- a drawing has exactly the entries of these leaves
abbrev pub Shows : List Path → (Path → Option Planned) → List (Path × Planned) → Type 0
Shows tops d done = (q : Path) (w : Planned) → (d q ≡ Some w) ↔ IsEntry tops done q w

bare_shows : (tops : List Path) → Shows tops (bare tops) []
bare_shows tops q w = (there, back q w) where
  there : bare tops q ≡ Some w → IsEntry tops [] q w
  there h = elim (is_top tops q) as (λ b. is_top tops q ≡ b → (if b then Some Folder else None) ≡ Some w → IsEntry tops [] q w) [
    | true ↦ λ is h.
        let what : Folder ≡ w = cc in
        let k = one_of (λ m. same_path m q) tops is in
        subst (λ v. IsEntry tops [] q v) what (top q (subst (Contains tops) ((same_path-Decides k.0 q).0 k.2) k.1))
    | false ↦ λ other h. cc
  ] refl h

  back : (q : Path) (w : Planned) → IsEntry tops [] q w → bare tops q ≡ Some w
  back _ _ (top m c) = ap (λ b. if b then Some Folder else None) (any_of (λ k. same_path k m) tops m c (same_path_refl m))
  back _ _ (leaf p w c) = absurd (omega (arith, c.1))
  back _ _ (between q p w c b i) = absurd (omega (arith, c.1))

weaker : (tops : List Path) (done : List (Path × Planned)) (l : Path × Planned) (q : Path) (w : Planned) → IsEntry tops done q w → IsEntry tops (done ++ l ∷ []) q w
weaker tops done l _ _ (top m c) = top m c
weaker tops done l _ _ (leaf p w c) = leaf p w (Contains-append_left done (l ∷ []) (p, w) c)
weaker tops done l _ _ (between q p w c b i) = between q p w (Contains-append_left done (l ∷ []) (p, w) c) b i

-- a path strictly below another one is another one
below_apart : (a p : Path) → is_below a p ≡ true → same_path p a ≡ false
below_apart a [] h = cc
below_apart a (x ∷ p) h = elim (same_path (x ∷ p) a) as (λ b. same_path (x ∷ p) a ≡ b → b ≡ false) [
  | true ↦ λ is. absurd (omega (arith, within_length a p h, ap length ((same_path-Decides (x ∷ p) a).0 is)))
  | false ↦ λ other. refl
] refl

-- a path strictly below one of the folders is none of them
below_apart_top : (tops : List Path) (k m p : Path) → AreApart tops → Contains tops k → Contains tops m → is_below k p ≡ true → same_path p m ≡ false
below_apart_top tops k m p apart ck cm below = elim (same_path p m) as (λ b. same_path p m ≡ b → b ≡ false) [
  | true ↦ λ is.
      let deeper : is_below k m ≡ true = subst (λ r. is_below k r ≡ true) ((same_path-Decides p m).0 is) below in
      let one : k ≡ m = apart k m ck cm (below_within k m deeper) in
      let clash : true ≡ false = sym (same_path_refl m) ∙ below_apart m m (subst (λ r. is_below r m ≡ true) one deeper) in cc
  | false ↦ λ other. refl
] refl

-- what is drawn above a leaf is a folder
above_folder : (tops : List Path) (done : List (Path × Planned)) (l : Path × Planned) (q : Path) (u : Planned) → AreLeaves tops (done ++ l ∷ []) → is_below q l.0 ≡ true → IsEntry tops done q u → u ≡ Folder
above_folder tops done l _ _ leaves b (top m c) = refl
above_folder tops done l _ _ leaves b (leaf p w c) = leaves.above l.0 p l.1 w (Contains-push done l) (Contains-append_left done (l ∷ []) (p, w) c) b
above_folder tops done l _ _ leaves b (between q p w c k i) = refl

drawn_there : (tops : List Path) (d : Path → Option Planned) (done : List (Path × Planned)) (p : Path) (v : Planned) → Shows tops d done → (q : Path) (w : Planned) → with_leaf tops d p v q ≡ Some w → IsEntry tops (done ++ (p, v) ∷ []) q w
drawn_there tops d done p v shows q w h = elim (same_path p q) as (λ b. same_path p q ≡ b
    → (if b then Some v else or_else (d q) (if is_below q p && is_inside tops q then Some Folder else None)) ≡ Some w → IsEntry tops (done ++ (p, v) ∷ []) q w) [
      | true ↦ λ is h. let what : v ≡ w = cc in subst (λ u. IsEntry tops (done ++ (p, v) ∷ []) q u) what (subst (λ r. IsEntry tops (done ++ (p, v) ∷ []) r v) ((same_path-Decides p q).0 is) (leaf p v (Contains-push done (p, v))))
      | false ↦ λ other h. elim (d q) as (λ o. d q ≡ o → or_else o (if is_below q p && is_inside tops q then Some Folder else None) ≡ Some w → IsEntry tops (done ++ (p, v) ∷ []) q w) [
        | Some u ↦ λ is h. weaker tops done (p, v) q w ((shows q w).0 (is ∙ h))
        | None ↦ λ is h. elim (is_below q p && is_inside tops q) as (λ b. (is_below q p && is_inside tops q) ≡ b → (if b then Some Folder else None) ≡ Some w → IsEntry tops (done ++ (p, v) ∷ []) q w) [
          | true ↦ λ on h. let what : Folder ≡ w = cc in
              subst (λ u. IsEntry tops (done ++ (p, v) ∷ []) q u) what (between q p v (Contains-push done (p, v)) (and_left (is_below q p) (is_inside tops q) on) (and_right (is_below q p) (is_inside tops q) on))
          | false ↦ λ off h. cc
        ] refl h
      ] refl h
    ] refl h

-- what is drawn at another path stays
stays_drawn : (tops : List Path) (d : Path → Option Planned) (p : Path) (v : Planned) (q : Path) (w : Planned) → same_path p q ≡ false → d q ≡ Some w → with_leaf tops d p v q ≡ Some w
stays_drawn tops d p v q w other is =
    ap (λ b. if b then Some v else or_else (d q) (if is_below q p && is_inside tops q then Some Folder else None)) other ∙ ap (λ o. or_else o (if is_below q p && is_inside tops q then Some Folder else None)) is

or_folder : (o : Option Planned) → ((u : Planned) → o ≡ Some u → u ≡ Folder) → or_else o (Some Folder) ≡ Some Folder
or_folder None h = refl
or_folder (Some u) h = ap Some (h u refl)

leaf_back : (tops : List Path) (d : Path → Option Planned) (done : List (Path × Planned)) (p : Path) (v : Planned) → Shows tops d done → AreLeaves tops (done ++ (p, v) ∷ []) → (q : Path) (w : Planned) → Contains (done ++ (p, v) ∷ []) (q, w) → with_leaf tops d p v q ≡ Some w
leaf_back tops d done p v shows leaves q w c = elim (same_path p q) as (λ b. same_path p q ≡ b → with_leaf tops d p v q ≡ Some w) [
  | true ↦ λ is.
      let what : v ≡ w = leaves.one p v w (Contains-push done (p, v)) (subst (λ r. Contains (done ++ (p, v) ∷ []) (r, w)) (sym ((same_path-Decides p q).0 is)) c) in
      ap (λ b. if b then Some v else or_else (d q) (if is_below q p && is_inside tops q then Some Folder else None)) is ∙ ap Some what
  | false ↦ λ other. elim (Contains-push_cases done (p, v) (q, w) c) [
    | inl old ↦ stays_drawn tops d p v q w other ((shows q w).1 (leaf q w old))
    | inr same ↦ let yes : same_path p q ≡ true = (same_path-Decides p q).1 (ap (λ (l : Path × Planned). l.0) same) in cc
  ]
] refl

between_back : (tops : List Path) (d : Path → Option Planned) (done : List (Path × Planned)) (p : Path) (v : Planned) → Shows tops d done → AreLeaves tops (done ++ (p, v) ∷ []) → (q r : Path) (w : Planned) → Contains (done ++ (p, v) ∷ []) (r, w)
    → is_below q r ≡ true → is_inside tops q ≡ true → with_leaf tops d p v q ≡ Some Folder
between_back tops d done p v shows leaves q r w c b i = elim (same_path p q) as (λ s. same_path p q ≡ s → with_leaf tops d p v q ≡ Some Folder) [
  | true ↦ λ is.
      let what : v ≡ Folder = leaves.above r p w v c (Contains-push done (p, v)) (subst (λ a. is_below a r ≡ true) (sym ((same_path-Decides p q).0 is)) b) in
      ap (λ s. if s then Some v else or_else (d q) (if is_below q p && is_inside tops q then Some Folder else None)) is ∙ ap Some what
  | false ↦ λ other. elim (Contains-push_cases done (p, v) (r, w) c) [
    | inl old ↦ stays_drawn tops d p v q Folder other ((shows q Folder).1 (between q r w old b i))
    | inr same ↦
        let below : is_below q p ≡ true = subst (λ (l : Path × Planned). is_below q l.0 ≡ true) (sym same) b in
        ap (λ s. if s then Some v else or_else (d q) (if is_below q p && is_inside tops q then Some Folder else None)) other
        ∙ ap (λ s. or_else (d q) (if s then Some Folder else None)) (both_true below i)
        ∙ or_folder (d q) (λ u is. above_folder tops done (p, v) q u leaves below ((shows q u).0 is))
  ]
] refl

drawn_back : (tops : List Path) (d : Path → Option Planned) (done : List (Path × Planned)) (p : Path) (v : Planned) → Shows tops d done → AreLeaves tops (done ++ (p, v) ∷ []) → (q : Path) (w : Planned) → IsEntry tops (done ++ (p, v) ∷ []) q w → with_leaf tops d p v q ≡ Some w
drawn_back tops d done p v shows leaves _ _ (top m c) =
    let k = leaves.below p v (Contains-push done (p, v)) in
    stays_drawn tops d p v m Folder (below_apart_top tops k.0 m p leaves.apart k.1 c k.2) ((shows m Folder).1 (top m c))
drawn_back tops d done p v shows leaves _ _ (leaf q w c) = leaf_back tops d done p v shows leaves q w c
drawn_back tops d done p v shows leaves _ _ (between q r w c b i) = between_back tops d done p v shows leaves q r w c b i

-- some of the leaves
fewer : (tops : List Path) (done more : List (Path × Planned)) → AreLeaves tops (done ++ more) → AreLeaves tops done
fewer tops done more h = record {
  apart = h.apart;
  below = λ p w c. h.below p w (Contains-append_left done more (p, w) c);
  one = λ p v w c k. h.one p v w (Contains-append_left done more (p, v) c) (Contains-append_left done more (p, w) k);
  above = λ p q v w c k. h.above p q v w (Contains-append_left done more (p, v) c) (Contains-append_left done more (q, w) k);
}

pub leaves_shown : (tops : List Path) (d : Path → Option Planned) (done leaves : List (Path × Planned)) → Shows tops d done → AreLeaves tops (done ++ leaves) → Shows tops (with_leaves tops d leaves) (done ++ leaves)
leaves_shown tops d done [] shows h = subst (Shows tops d) (sym (append-nil done)) shows
leaves_shown tops d done (l ∷ ls) shows h =
    let split : (done ++ l ∷ []) ++ ls ≡ done ++ l ∷ ls = append_assoc done (l ∷ []) ls in
    let k : AreLeaves tops ((done ++ l ∷ []) ++ ls) = subst (AreLeaves tops) (sym split) h in
    let f = fewer tops (done ++ l ∷ []) ls k in
    subst (Shows tops (with_leaves tops (with_leaf tops d l.0 l.1) ls)) split
    (leaves_shown tops (with_leaf tops d l.0 l.1) (done ++ l ∷ []) ls (λ q w. (drawn_there tops d done l.0 l.1 shows q w, drawn_back tops d done l.0 l.1 shows f q w)) k)

-- the drawing has exactly the folder, the leaves and the folders between
pub drawing_entries : (tops : List Path) (leaves : List (Path × Planned)) → AreLeaves tops leaves → (q : Path) (w : Planned) → (drawing tops leaves q ≡ Some w) ↔ IsEntry tops leaves q w
drawing_entries tops leaves h = leaves_shown tops (bare tops) [] leaves (bare_shows tops) h
