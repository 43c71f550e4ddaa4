-- One more of a list.
use Rattle.std.proofs.Common.{◌≡◌, ◌+◌, ◌<◌, ℕ, List, [], ◌∷◌, ◌++◌, map, length, take, drop, get_or, sym, ap, ◌∙◌, subst}
use Rattle.std.specs.List.{All}
use Rattle.std.proofs.lemmas.List.{map-append, take_more, drop_more, take-append-drop}
use Rattle.std.proofs.lemmas.List.Elements.{All-push}

pub image_more : {A B C : Type 0} (f : A → C) (g : B → C) (found : List B) (k : ℕ) (q : B) (vs ws : List A) (p : A) → k < length found → q ≡ get_or found k q → ws ≡ vs ++ p ∷ []
    → map f vs ≡ map g (take k found) → f p ≡ g q → map f ws ≡ map g (take (k + 1) found)
image_more {A} {B} {C} f g found k q vs ws p within is added e same =
    let more : take (k + 1) found ≡ take k found ++ q ∷ [] = take_more found k q within ∙ ap (λ (x : B). take k found ++ x ∷ []) (sym is) in
    ap (map f) added ∙ map-append f vs (p ∷ []) ∙ ap (λ (l : List C). l ++ f p ∷ []) e ∙ ap (λ (x : C). map g (take k found) ++ x ∷ []) same
    ∙ sym (ap (map g) more ∙ map-append g (take k found) (q ∷ []))

pub listed_more : {A B : Type 0} (g : B → A) (found : List B) (k : ℕ) (q : B) (vs ws : List A) (p : A) → k < length found → q ≡ get_or found k q → ws ≡ vs ++ p ∷ [] → vs ≡ map g (take k found) → p ≡ g q → ws ≡ map g (take (k + 1) found)
listed_more {A} {B} g found k q vs ws p within is added e same =
    let more : take (k + 1) found ≡ take k found ++ q ∷ [] = take_more found k q within ∙ ap (λ (x : B). take k found ++ x ∷ []) (sym is) in
    added ∙ ap (λ (l : List A). l ++ p ∷ []) e ∙ ap (λ (x : A). map g (take k found) ++ x ∷ []) same ∙ sym (ap (map g) more ∙ map-append g (take k found) (q ∷ []))

pub all_more : {A : Type 0} (P : A → Type 0) (vs ws : List A) (p : A) → ws ≡ vs ++ p ∷ [] → All P vs → P p → All P ws
all_more P vs ws p added h k = subst (All P) (sym added) (All-push P vs p h k)

-- one more of those that are taken
pub taken_more : {A : Type 0} (P : A → Type 0) (found : List A) (k : ℕ) (q : A) → k < length found → q ≡ get_or found k q → All P (take k found) → P q → All P (take (k + 1) found)
taken_more {A} P found k q within is h p =
    let more : take (k + 1) found ≡ take k found ++ q ∷ [] = take_more found k q within ∙ ap (λ (x : A). take k found ++ x ∷ []) (sym is) in
    subst (All P) (sym more) (All-push P (take k found) q h p)

-- a list about one of its places
pub split_at : {A : Type 0} (found : List A) (k : ℕ) (q : A) → k < length found → q ≡ get_or found k q → found ≡ take k found ++ q ∷ drop (k + 1) found
split_at {A} found k q within is =
    sym (take-append-drop k found) ∙ ap (λ (l : List A). take k found ++ l) (drop_more found k q within ∙ ap (λ (x : A). x ∷ drop (k + 1) found) (sym is))
