-- A text has one reading, and none where it is refused.
use Rattle.std.proofs.Common.{◌≡◌, ℕ, true, false, List, [], ◌∷◌, Option, Some, None, refl, sym, ap, subst, ◌∙◌, inl, inr, codes}
use Rattle.std.specs.Prelude.{◌==◌}
use Rattle.std.proofs.lemmas.Bool.{both_ways, eqb-false}
use Rattle.pn_ranges.specs.declared.fault.Stop.TheVariants as stop
use Rattle.pn_ranges.specs.Grammar.{Spells}
use Rattle.pn_ranges.specs.Limits.{Limit}
use Rattle.pn_ranges.specs.Places.{first_fault, start}
use Rattle.pn_ranges.proofs.Counts.{reading}
use Rattle.pn_ranges.proofs.Stopped.{no-byte, ranges-form}
use Rattle.pn_text.specs.Name.{is_name}
use Rattle.pn_spec.specs.declared.spec.Spec.{Spec}
use Rattle.pn_spec.specs.declared.spec.Spec.TheVariants as spec
use Rattle.pn_spec.specs.declared.want.Want.{Want}
use Rattle.pn_spec.specs.declared.want.Want.TheVariants as want
use Rattle.pn_spec.specs.declared.workspace.WsSpec.{WsSpec}
use Rattle.pn_spec.specs.declared.workspace.WsWant.{WsWant}
use Rattle.pn_spec.specs.declared.workspace.WsWant.TheVariants as ws
use Rattle.pn_spec.specs.Entries.{IsNoEntry, is_entry}
use Rattle.pn_spec.specs.Forms.{IsAlias, IsForm, IsNamed, IsSpec, IsWant, IsWorkspace, IsWsWant}
use Rattle.pn_spec.specs.Laws.{Form, workspace, catalog, alias, bare, form_of}
use Rattle.pn_spec.specs.ReadingLaw.{ReadingLaw}
use Rattle.pn_spec.specs.Refusals.{FitsNoAlias, FitsNoForm, FitsNoWant, FitsNoWorkspace, FitsNoWsWant}
use Rattle.pn_spec.specs.SpecTexts.{trimmed}
use Rattle.pn_spec.proofs.LawProofs.{form}
use Rattle.pn_spec.proofs.Named.{bare-front, name, one-parts, project, want-no-at, ws-no-at}

abbrev head_of : List ℕ → ℕ
head_of [] = 0
head_of (b ∷ t) = b

-- an operator alone is no range
no-range : (t : List ℕ) (r : List (List Limit)) → first_fault start t ≡ Some (stop.Byte 0) → Spells t r → ⊥
no-range t r h s = no-byte t 0 (ranges-form t s.count r s.read) h

-- what is wanted
want-one : (t : List ℕ) (w v : Want) → IsWant t w → IsWant t v → w ≡ v
want-one t (want.Range r) (want.Range s) h k = ap (λ z. want.Range z) (reading.one t r s h k)
want-one t (want.Range r) (want.Tag x) h k = absurd (k.no_range r h)
want-one t (want.Tag x) (want.Range s) h k = absurd (h.no_range s k)
want-one t (want.Tag x) (want.Tag y) h k = ap (λ z. want.Tag z) (h.named ∙ sym k.named)

heads-differ : (t : List ℕ) (b c : ℕ) → t ≡ b ∷ [] → t ≡ c ∷ [] → (b == c) ≡ false → ⊥
heads-differ t b c h k e = eqb-false b c e (ap head_of (sym h ∙ k))

ws-one : (t : List ℕ) (w v : WsWant) → IsWsWant t w → IsWsWant t v → w ≡ v
ws-one t ws.Any ws.Any h k = refl
ws-one t ws.Any ws.Caret h k = absurd (heads-differ t 42 94 h k refl)
ws-one t ws.Any ws.Tilde h k = absurd (heads-differ t 42 126 h k refl)
ws-one t ws.Any (ws.Range r) h k = absurd (k.0 h)
ws-one t ws.Caret ws.Any h k = absurd (heads-differ t 94 42 h k refl)
ws-one t ws.Caret ws.Caret h k = refl
ws-one t ws.Caret ws.Tilde h k = absurd (heads-differ t 94 126 h k refl)
ws-one t ws.Caret (ws.Range r) h k = absurd (no-range t r (ap (first_fault start) h) k.1)
ws-one t ws.Tilde ws.Any h k = absurd (heads-differ t 126 42 h k refl)
ws-one t ws.Tilde ws.Caret h k = absurd (heads-differ t 126 94 h k refl)
ws-one t ws.Tilde ws.Tilde h k = refl
ws-one t ws.Tilde (ws.Range r) h k = absurd (no-range t r (ap (first_fault start) h) k.1)
ws-one t (ws.Range r) ws.Any h k = absurd (h.0 k)
ws-one t (ws.Range r) ws.Caret h k = absurd (no-range t r (ap (first_fault start) k) h.1)
ws-one t (ws.Range r) ws.Tilde h k = absurd (no-range t r (ap (first_fault start) k) h.1)
ws-one t (ws.Range r) (ws.Range s) h k = ap (λ z. ws.Range z) (reading.one t r s h.1 k.1)

ws-behind : (t : List ℕ) (w v : WsWant) (n m : Option (List ℕ)) → IsNamed (λ rest. IsWsWant rest w) t n → IsNamed (λ rest. IsWsWant rest v) t m → n ≡ m → w ≡ v
ws-behind t w v None None h k e = ws-one t w v h k
ws-behind t w v None (Some m) h k e = cc e
ws-behind t w v (Some n) None h k e = cc e
ws-behind t w v (Some n) (Some m) h k e =
    let same = one-parts n m h.0 k.0 t h.1 k.1 (ws-no-at h.0 w h.3) (ws-no-at k.0 v k.3) in
    ws-one k.0 w v (subst (λ z. IsWsWant z w) same.1 h.3) k.3

alias-one : (t n m : List ℕ) (w v : Want) → IsAlias t n w → IsAlias t m v → w ≡ v
alias-one t n m w v (inl h) (inl k) = want-one (codes "*") w v h.2 k.2
alias-one t n m w v (inl h) (inr k) = absurd (bare-front t n m k.0 h.0 h.1 k.1 k.2)
alias-one t n m w v (inr h) (inl k) = absurd (bare-front t m n h.0 k.0 k.1 h.1 h.2)
alias-one t n m w v (inr h) (inr k) =
    let same = one-parts n m h.0 k.0 t h.1 k.1 (want-no-at h.0 w h.3) (want-no-at k.0 v k.3) in
    want-one k.0 w v (subst (λ z. IsWant z w) same.1 h.3) k.3

-- the forms
abbrev code : Form → ℕ
code workspace = 0
code catalog = 1
code alias = 2
code bare = 3

unlike : (t : List ℕ) (x y : Spec) → IsForm t x → IsForm t y → (code (form_of x) == code (form_of y)) ≡ false → x ≡ y
unlike t x y h k e = absurd (eqb-false (code (form_of x)) (code (form_of y)) e (ap (λ f. code f) (form t x y h k)))

abbrev project_of : Option (List ℕ) → WsWant → WsSpec
project_of n w = record { name = n; want = w }

project-same : (w v : WsSpec) → w.name ≡ v.name → w.want ≡ v.want → w ≡ v
project-same w v h k = ap (λ n. project_of n w.want) h ∙ ap (λ u. project_of v.name u) k

form-one : (t : List ℕ) (x y : Spec) → IsForm t x → IsForm t y → x ≡ y
form-one t (spec.Workspace w) (spec.Workspace v) (r, e, h) (q, f, k) =
    let same : r ≡ q = cc (e, f) in
    let i = subst (λ z. IsWorkspace z w) same h in
    let names = project q w v i k in
    ap (λ z. spec.Workspace z) (project-same w v names (ws-behind q w.want v.want w.name v.name i k names))
form-one t (spec.Catalog c) (spec.Catalog d) (r, e, (h, i)) (q, f, (k, j)) =
    let same : r ≡ q = cc (e, f) in
    let names : c ≡ d = cc (same, i, j) in
    ap (λ z. spec.Catalog z) names
form-one t (spec.Alias n w) (spec.Alias m v) (r, e, h) (q, f, k) =
    let same : r ≡ q = cc (e, f) in
    let i = subst (λ z. IsAlias z n w) same h in
    ap (λ z. spec.Alias z w) (name q n m w v i k) ∙ ap (λ z. spec.Alias m z) (alias-one q n m w v i k)
form-one t (spec.Range r) (spec.Range s) h k = ap (λ z. spec.Range z) (reading.one t r s h k)
form-one t (spec.Range r) (spec.Tag x) h k = absurd (k.no_range r h)
form-one t (spec.Tag x) (spec.Range s) h k = absurd (h.no_range s k)
form-one t (spec.Tag x) (spec.Tag y) h k = ap (λ z. spec.Tag z) (h.named ∙ sym k.named)
form-one t x y h k = unlike t x y h k refl

-- where nothing fits
want-none : (t : List ℕ) (w : Want) → FitsNoWant t → IsWant t w → ⊥
want-none t (want.Range r) f h = f.no_range r h
want-none t (want.Tag x) f h = both_ways _ f.no_tag h.bytes

ws-none : (t : List ℕ) (w : WsWant) → FitsNoWsWant t → IsWsWant t w → ⊥
ws-none t ws.Any f h = f.no_any h
ws-none t ws.Caret f h = f.no_caret h
ws-none t ws.Tilde f h = f.no_tilde h
ws-none t (ws.Range r) f h = f.no_range r h.1

workspace-none : (t : List ℕ) (w : WsWant) (n : Option (List ℕ)) → FitsNoWorkspace t → IsNamed (λ rest. IsWsWant rest w) t n → ⊥
workspace-none t w None f h = ws-none t w f.bare h
workspace-none t w (Some n) f h = ws-none h.0 w (f.named n h.0 h.1 h.2) h.3

alias-none : (t n : List ℕ) (w : Want) → FitsNoAlias t → IsAlias t n w → ⊥
alias-none t n w f (inl h) = both_ways (is_name n) (ap is_name (sym h.0) ∙ f.bare) h.1
alias-none t n w f (inr h) = want-none h.0 w (f.named n h.0 h.1 h.2) h.3

form-none : (t : List ℕ) (x : Spec) → FitsNoForm t → IsForm t x → ⊥
form-none t (spec.Workspace w) f (r, e, h) = workspace-none r w.want w.name (f.workspace r e) h
form-none t (spec.Catalog c) f (r, e, (h, i)) = both_ways _ (f.catalog r e) h
form-none t (spec.Alias n w) f (r, e, h) = alias-none r n w (f.alias r e) h
form-none t (spec.Range s) f h = f.bare.no_range s h
form-none t (spec.Tag x) f h = both_ways _ f.bare.no_tag h.bytes

entry-none : (text : List ℕ) (x : Spec) → IsNoEntry text → IsSpec text x → is_entry x ≡ true → ⊥
entry-none text x (inl f) h k = form-none (trimmed text) x f h
entry-none text x (inr (y, i, e)) h k = both_ways (is_entry x) (ap is_entry (form-one (trimmed text) x y h i) ∙ e) k

pub readings : ReadingLaw
readings = record { one = λ text x y h k. form-one (trimmed text) x y h k; none = λ text x f h. form-none (trimmed text) x f h; entry = entry-none }
