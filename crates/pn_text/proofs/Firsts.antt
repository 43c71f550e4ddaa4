-- A list has one first item that fails.
use Rattle.std.proofs.Common.{◌≡◌, List, [], ◌∷◌, ◌++◌, refl, sym, ap, ◌∙◌, subst}
use Rattle.std.specs.List.{AllByRecursion}
use Rattle.pn_text.specs.First.{FirstFails}

module _ {A F : Type 0} (Passes : A → Type 0) (Fails : A → F → Type 0) where
  pub first_here : (x : A) (xs : List A) (fault : F) → Fails x fault → FirstFails Passes Fails (x ∷ xs) fault
  first_here x xs fault h = record { before = []; at = x; after = xs; cut = refl; passed = tt; failed = h }

  pub first_later : (x : A) (xs : List A) (fault : F) → Passes x → FirstFails Passes Fails xs fault → FirstFails Passes Fails (x ∷ xs) fault
  first_later x xs fault h f = record { before = x ∷ f.before; at = f.at; after = f.after; cut = ap (λ r. x ∷ r) f.cut; passed = (h, f.passed); failed = f.failed }

  -- behind items that pass
  pub first_behind : (front xs : List A) (fault : F) → AllByRecursion Passes front → FirstFails Passes Fails xs fault → FirstFails Passes Fails (front ++ xs) fault
  first_behind [] xs fault h f = f
  first_behind (x ∷ front) xs fault h f = first_later x (front ++ xs) fault h.0 (first_behind front xs fault h.1 f)

  module _ (apart : (x : A) (fault : F) → Passes x → Fails x fault → ⊥) where
    -- a list whose items pass has none
    pub none_fails : (items : List A) (fault : F) → AllByRecursion Passes items → FirstFails Passes Fails items fault → ⊥
    none_fails items fault h f = at f.before items f.cut f.failed h where
      at : (before items : List A) → items ≡ before ++ f.at ∷ f.after → Fails f.at fault → AllByRecursion Passes items → ⊥
      at [] [] e bad h = cc
      at [] (x ∷ xs) e bad h = let one : x ≡ f.at = cc in apart x fault h.0 (subst (λ y. Fails y fault) (sym one) bad)
      at (y ∷ ys) [] e bad h = cc
      at (y ∷ ys) (x ∷ xs) e bad h = let rest : xs ≡ ys ++ f.at ∷ f.after = cc in at ys xs rest bad h.1

    first_once : (b c d e : List A) (x y : A) (f g : F) → b ++ x ∷ d ≡ c ++ y ∷ e → AllByRecursion Passes b → AllByRecursion Passes c → Fails x f → Fails y g → (b ≡ c) × (x ≡ y)
    first_once [] [] d e x y f g is p q h k = (refl, cc)
    first_once [] (z ∷ c) d e x y f g is p q h k = let one : x ≡ z = cc in absurd (apart z f q.0 (subst (λ w. Fails w f) one h))
    first_once (z ∷ b) [] d e x y f g is p q h k = let one : z ≡ y = cc in absurd (apart z g p.0 (subst (λ w. Fails w g) (sym one) k))
    first_once (z ∷ b) (w ∷ c) d e x y f g is p q h k =
        let one : z ≡ w = cc in
        let rest : b ++ x ∷ d ≡ c ++ y ∷ e = cc in
        let more = first_once b c d e x y f g rest p.1 q.1 h k in
        (ap (λ t. t ∷ b) one ∙ ap (λ t. w ∷ t) more.0, more.1)

    -- both first failures are of one item, behind the same others
    pub same_place : (items : List A) (f g : F) (h : FirstFails Passes Fails items f) (k : FirstFails Passes Fails items g) → (h.before ≡ k.before) × (h.at ≡ k.at)
    same_place items f g h k = first_once h.before k.before h.after k.after h.at k.at f g (sym h.cut ∙ k.cut) h.passed k.passed h.failed k.failed

    -- where an item fails in one way, so does the list
    pub one_fault : ((x : A) (f g : F) → Fails x f → Fails x g → f ≡ g) → (items : List A) (f g : F) → FirstFails Passes Fails items f → FirstFails Passes Fails items g → f ≡ g
    one_fault one items f g h k = one k.at f g (subst (λ x. Fails x f) (same_place items f g h k).1 h.failed) k.failed
