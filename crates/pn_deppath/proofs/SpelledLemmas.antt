-- How a dep path is spelled as a folder's name.
use Rattle.std.proofs.Common.{◌≡◌, ◌<◌, ℕ, ◌+◌, ◌-◌, List, [], ◌∷◌, ◌++◌, length, get_or, drop, Bool, true, false, cond, refl, sym, ap, ◌∙◌, append_assoc, take, ◌≢◌, arith, eq-eqb}
use Rattle.std.specs.Prelude.{◌==◌, ◌&&◌}
use Rattle.std.proofs.lemmas.Bool.{ne_eqb}
use Rattle.std.proofs.lemmas.List.{drop_more, take_all, take_more}
use Rattle.pn_deppath.specs.Folders.{spelled_behind, spelled_byte, without_last_close}

-- the last byte goes where it is the parenthesis
pub close_last : (front : List ℕ) (b : ℕ) → without_last_close (front ++ b ∷ []) ≡ cond (b == 41) front (front ++ b ∷ [])
close_last [] b = refl
close_last (c ∷ []) b = elim (b == 41) as (λ o. c ∷ cond o [] (b ∷ []) ≡ cond o (c ∷ []) (c ∷ b ∷ [])) [ true ↦ refl | false ↦ refl ]
close_last (c ∷ d ∷ front) b = ap (λ (t : List ℕ). c ∷ t) (close_last (d ∷ front) b)
    ∙ (elim (b == 41) as (λ o. c ∷ cond o (d ∷ front) (d ∷ (front ++ b ∷ [])) ≡ cond o (c ∷ d ∷ front) (c ∷ d ∷ (front ++ b ∷ []))) [ true ↦ refl | false ↦ refl ])

pub closed_last : (text front : List ℕ) (b : ℕ) → text ≡ front ++ b ∷ [] → (b == 41) ≡ true → without_last_close text ≡ front
closed_last text front b is h = ap without_last_close is ∙ close_last front b ∙ ap (λ (o : Bool). cond o front (front ++ b ∷ [])) h

pub other_last : (text front : List ℕ) (b : ℕ) → text ≡ front ++ b ∷ [] → (b == 41) ≡ false → without_last_close text ≡ text
other_last text front b is h = ap without_last_close is ∙ close_last front b ∙ ap (λ (o : Bool). cond o front (front ++ b ∷ [])) h ∙ sym is

-- one byte more
pub spelled_more : (text name : List ℕ) (i before : ℕ) → i < length text → (((before == 41) && (get_or text i 0 == 40)) ≡ false)
    → (name ++ spelled_byte (get_or text i 0) ∷ []) ++ spelled_behind (get_or text i 0) (drop (i + 1) text) ≡ name ++ spelled_behind before (drop i text)
spelled_more text name i before within h =
    append_assoc name (spelled_byte (get_or text i 0) ∷ []) (spelled_behind (get_or text i 0) (drop (i + 1) text))
    ∙ ap (λ (t : List ℕ). name ++ t) (sym (ap (spelled_behind before) (drop_more text i 0 within)
    ∙ ap (λ (o : Bool). cond o (spelled_behind (get_or text i 0) (drop (i + 1) text)) (spelled_byte (get_or text i 0) ∷ spelled_behind (get_or text i 0) (drop (i + 1) text))) h))

pub spelled_less : (text name : List ℕ) (i before : ℕ) → i < length text → (((before == 41) && (get_or text i 0 == 40)) ≡ true)
    → name ++ spelled_behind (get_or text i 0) (drop (i + 1) text) ≡ name ++ spelled_behind before (drop i text)
spelled_less text name i before within h =
    ap (λ (t : List ℕ). name ++ t) (sym (ap (spelled_behind before) (drop_more text i 0 within)
    ∙ ap (λ (o : Bool). cond o (spelled_behind (get_or text i 0) (drop (i + 1) text)) (spelled_byte (get_or text i 0) ∷ spelled_behind (get_or text i 0) (drop (i + 1) text))) h))

last_split : (xs : List ℕ) (n : ℕ) → length xs ≡ n + 1 → xs ≡ take n xs ++ get_or xs n 0 ∷ []
last_split xs n h = sym (take_all (n + 1) xs (omega arith)) ∙ take_more xs n 0 (omega arith)

pub not_empty : (text : List ℕ) → false ≡ (length text == 0) → length text ≡ length text - 1 + 1
not_empty [] h = absurd (cc h)
not_empty (b ∷ text) h = omega arith

pub close_at : (path : List ℕ) (n : ℕ) → length path ≡ n + 1 → get_or path n 0 ≡ 41 → take n path ≡ without_last_close path
close_at path n long is = sym (closed_last path (take n path) (get_or path n 0) (last_split path n long) (eq-eqb (get_or path n 0) 41 is))

pub keep_at : (path : List ℕ) (n : ℕ) → length path ≡ n + 1 → get_or path n 0 ≢ 41 → path ≡ without_last_close path
keep_at path n long is = sym (other_last path (take n path) (get_or path n 0) (last_split path n long) (ne_eqb (get_or path n 0) 41 is))
