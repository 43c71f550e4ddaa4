-- Lemmas on the search for a workspace file.
use Rattle.std.proofs.Common.{◌≡◌, ℕ, List, [], ◌∷◌, ◌++◌, refl, sym, ap, ◌∙◌, subst, arith, length-append, Option, Some, None, true, false}
use Rattle.std.specs.Prelude.{IfSome, if◌then◌else◌}
use Rattle.std.specs.Option.{ForSome}
use Rattle.pn_text.specs.Path.{Path, text_below}
use Rattle.pn_fs.specs.Seen.{Seen, Keeps}
use Rattle.pn_fs.specs.Tree.{Entry, folder, file, link, Tree}
use Rattle.pn_fs.proofs.SeenLemmas.{rose_from}
use Rattle.pn_read.specs.Small.{IsFileOf, IsNoFile}
use Rattle.pn_workspace.specs.Contents.{IsText}
use Rattle.pn_workspace.specs.Roots.{is_file, nearest, or_here, root_of, settings_name, settings_path}
use Rattle.pn_workspace.specs.Workspaces.{Fits, Refused, Unread}
use Rattle.pn_workspace.specs.declared.fault.WorkspaceFault.{WorkspaceFault}
use Rattle.pn_workspace.specs.declared.fault.WorkspaceFault.TheVariants as fault

-- a folder's own file is the nearest one
pub here : (t : Tree) (p : Path) (bytes : List ℕ) → t (settings_path p) ≡ Some (file bytes) → nearest t p ≡ Some p
here t [] bytes h = ap (λ e. if is_file e then Some [] else None) h
here t (x ∷ p) bytes h = ap (λ e. if is_file e then Some (x ∷ p) else nearest t p) h

no_file : (e : Option Entry) → IsNoFile e → is_file e ≡ false
no_file None h = refl
no_file (Some folder) h = refl
no_file (Some (file bytes)) h = absurd (h bytes refl)
no_file (Some (link text)) h = refl

pub is_no_file : (e : Option Entry) → is_file e ≡ false → IsNoFile e
is_no_file e h bytes is = absurd (clash (sym h ∙ ap is_file is))
  where
    clash : false ≡ true → ⊥
    clash c = cc c

-- else the search goes on in the folder above
above : (t : Tree) (x : List ℕ) (p : Path) → IsNoFile (t (settings_path (x ∷ p))) → nearest t (x ∷ p) ≡ nearest t p
above t x p h = ap (λ b. if b then Some (x ∷ p) else nearest t p) (no_file (t (settings_path (x ∷ p))) h)

nowhere : (t : Tree) → IsNoFile (t (settings_path [])) → nearest t [] ≡ None
nowhere t h = ap (λ b. if b then Some [] else None) (no_file (t (settings_path [])) h)

-- the file of the folder above has a shorter path
pub fits_above : (x : List ℕ) (p q : Path) → q ≡ x ∷ p → Fits q → Fits p
fits_above x p q e h =
    let k : Fits (x ∷ p) = subst Fits e h in
    omega (arith, k, length-append (text_below p) (47 ∷ settings_name), length-append (text_below p) (47 ∷ x), length-append (text_below p ++ 47 ∷ x) (47 ∷ settings_name))

-- The search came so far.
abbrev pub Searched : Option Tree → Path → Path → Type 0
Searched shown place at = ForSome shown (λ t. nearest t place ≡ nearest t at)

pub further : (shown : Option Tree) (place at p q : Path) (x : List ℕ) → Searched shown place at → q ≡ settings_path at → at ≡ x ∷ p → IfSome shown (λ t. IsNoFile (t q)) → Searched shown place p
further None place at p q x same path up none t told = cc told
further (Some t) place at p q x same path up none u told =
    let one : t ≡ u = some_one t u told in
    subst (λ t. nearest t place ≡ nearest t p) one
    (same t refl ∙ ap (nearest t) up ∙ above t x p (subst (λ r. IsNoFile (t (settings_path r))) up (subst (λ r. IsNoFile (t r)) path none)))
  where
    some_one : (t u : Tree) → Some t ≡ Some u → t ≡ u
    some_one t u e = cc e

pub ended : (shown : Option Tree) (place at q : Path) → Searched shown place at → q ≡ settings_path at → at ≡ [] → IfSome shown (λ t. IsNoFile (t q)) → IfSome shown (λ t. nearest t place ≡ None)
ended None place at q same path up none = tt
ended (Some t) place at q same path up none =
    same t refl ∙ ap (nearest t) up ∙ nowhere t (subst (λ r. IsNoFile (t (settings_path r))) up (subst (λ r. IsNoFile (t r)) path none))

pub came : (shown : Option Tree) (place at q : Path) (bytes : List ℕ) → Searched shown place at → q ≡ settings_path at → IfSome shown (λ t. IsText (t q) bytes) → IfSome shown (λ t. (nearest t place ≡ Some at) × IsText (t (settings_path at)) bytes)
came None place at q bytes same path h = tt
came (Some t) place at q bytes same path h =
    let text : IsText (t (settings_path at)) bytes = subst (λ r. IsText (t r) bytes) path h in
    (same t refl ∙ here t at bytes text.is, text)

large : (shown : Option Tree) (place at q : Path) (n : ℕ) → Searched shown place at → q ≡ settings_path at → IfSome shown (λ t. IsFileOf n (t q)) → IfSome shown (λ t. IsFileOf n (t (settings_path (root_of t place))))
large None place at q n same path h = tt
large (Some t) place at q n same path h =
    let own : IsFileOf n (t (settings_path at)) = subst (λ r. IsFileOf n (t r)) path h in
    subst (λ r. IsFileOf n (t (settings_path r))) (sym (ap (or_here place) (same t refl ∙ here t at own.0 own.1))) own

-- a file on the way isn't read
pub unread : (e : WorkspaceFault) (old mid new : Seen) (place at q : Path) → Fits place → Keeps old mid → Searched old.tree place at → q ≡ settings_path at → Unread mid new q e → Refused old new place e
unread (fault.TooLarge n) old mid new place at q fits k same path h = (fits, h.0, large old.tree place at q n same path (subst (λ (o : Option Tree). IfSome o (λ t. IsFileOf n (t q))) k.tree h.1))
unread fault.Fault old mid new place at q fits k same path h = (rose_from old.faults mid.faults new.faults k.later h, fits)
unread fault.Memory old mid new place at q fits k same path h = tt
unread (fault.Long n) old mid new place at q fits k same path h = absurd h
unread (fault.Wrong p why) old mid new place at q fits k same path h = absurd h
