-- A text names one project, and one package.
use Rattle.std.proofs.Common.{◌≡◌, ◌≢◌, ℕ, true, false, List, [], ◌∷◌, ◌++◌, Option, Some, None, refl, sym, ap, ◌∙◌, inl, inr}
use Rattle.std.specs.Prelude.{◌==◌}
use Rattle.std.proofs.lemmas.Bool.{or_parts}
use Rattle.pn_text.specs.Name.{is_name}
use Rattle.pn_spec.specs.declared.want.Want.{Want}
use Rattle.pn_spec.specs.declared.want.Want.TheVariants as want
use Rattle.pn_spec.specs.declared.workspace.WsWant.{WsWant}
use Rattle.pn_spec.specs.declared.workspace.WsWant.TheVariants as ws
use Rattle.pn_spec.specs.Forms.{IsNamed, IsWant, IsWsWant}
use Rattle.pn_spec.specs.Laws.{NameLaw, ProjectLaw}
use Rattle.pn_spec.specs.Ranges.{has_foreign, is_foreign}
use Rattle.pn_spec.specs.SpecTexts.{has_at}
use Rattle.pn_spec.proofs.Ats.{at-once, last-at, name-not, tag-no-at}
use Rattle.pn_spec.proofs.Foreign.{foreign}

own-at : (t : List ℕ) → has_foreign t ≡ false → has_at t ≡ false
own-at [] h = refl
own-at (b ∷ t) h = rw ((or_parts (b == 64) (b == 58) (or_parts (is_foreign b) (has_foreign t) h).0).0, own-at t (or_parts (is_foreign b) (has_foreign t) h).1) refl

pub ws-no-at : (t : List ℕ) (w : WsWant) → IsWsWant t w → has_at t ≡ false
ws-no-at t ws.Any h = ap has_at h
ws-no-at t ws.Caret h = ap has_at h
ws-no-at t ws.Tilde h = ap has_at h
ws-no-at t (ws.Range r) h = own-at t (foreign t r h.1)

pub want-no-at : (t : List ℕ) (w : Want) → IsWant t w → has_at t ≡ false
want-no-at t (want.Range r) h = own-at t (foreign t r h)
want-no-at t (want.Tag x) h = tag-no-at t h.bytes

-- around the same `@`
pub one-parts : (n m s r t : List ℕ) → t ≡ n ++ 64 ∷ s → t ≡ m ++ 64 ∷ r → has_at s ≡ false → has_at r ≡ false → (n ≡ m) × (s ≡ r)
one-parts n m s r t e f h k = elim (last-at n s m r (sym e ∙ f) h) [
  | inl same ↦ same
  | inr later ↦ absurd (at-once r later.0 later.1 k later.2)
]

one-front : (n m s r t : List ℕ) → t ≡ n ++ 64 ∷ s → t ≡ m ++ 64 ∷ r → has_at s ≡ false → has_at r ≡ false → n ≡ m
one-front n m s r t e f h k = (one-parts n m s r t e f h k).0

one-project : (t : List ℕ) (w v : WsWant) (n m : Option (List ℕ)) → IsNamed (λ rest. IsWsWant rest w) t n → IsNamed (λ rest. IsWsWant rest v) t m → n ≡ m
one-project t w v None None h k = refl
one-project t w v None (Some m) h k = absurd (at-once t m k.0 (ws-no-at t w h) k.1)
one-project t w v (Some n) None h k = absurd (at-once t n h.0 (ws-no-at t v k) h.1)
one-project t w v (Some n) (Some m) h k = ap Some (one-front n m h.0 k.0 t h.1 k.1 (ws-no-at h.0 w h.3) (ws-no-at k.0 v k.3))

pub project : ProjectLaw
project t w v h k = one-project t w.want v.want w.name v.name h k

named-some : (n : List ℕ) → is_name n ≡ true → n ≢ []
named-some [] h e = cc h
named-some (b ∷ n) h e = cc e

pub bare-front : (t n m r : List ℕ) → t ≡ n → is_name n ≡ true → t ≡ m ++ 64 ∷ r → is_name m ≡ true → ⊥
bare-front t n m r e h f k = let off : true ≡ false = sym h ∙ ap is_name (sym e) ∙ name-not t m r f (named-some m k) in cc off

pub name : NameLaw
name t n m w v (inl h) (inl k) = sym h.0 ∙ k.0
name t n m w v (inl h) (inr k) = absurd (bare-front t n m k.0 h.0 h.1 k.1 k.2)
name t n m w v (inr h) (inl k) = absurd (bare-front t m n h.0 k.0 k.1 h.1 h.2)
name t n m w v (inr h) (inr k) = one-front n m h.0 k.0 t h.1 k.1 (want-no-at h.0 w h.3) (want-no-at k.0 v k.3)
