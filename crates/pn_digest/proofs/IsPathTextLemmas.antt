-- Bytes that are no path's text.
use Rattle.std.proofs.Common.{◌≡◌, ℕ, ◌≤◌, List, [], ◌∷◌, ◌++◌, length, refl, sym, ap, ◌∙◌, subst, arith, true, false}
use Rattle.std.specs.Prelude.{IsUtf8, ◌==◌}
use Rattle.std.specs.List.{list_any}
use Rattle.std.proofs.lemmas.Str.{IsUtf8-from_is_utf8}
use Rattle.pn_text.specs.declared.limits.TheConstants.{PATH_LIMIT}
use Rattle.pn_text.specs.Path.{Path, is_path, is_part, is_flat, is_filled, text_below, parts_from, IsPartsEnd, SpellsParts, HasBadPart}
use Rattle.pn_text.specs.Faults.{RelFault}
use Rattle.pn_text.specs.declared.fault.PathFault.{PathFault}
use Rattle.pn_text.specs.declared.fault.PathFault.TheVariants.{NotAbsolute, BadPart, Long, Memory}
use Rattle.pn_text.proofs.Paths.{and_left, and_right, not_true, parts_from-append, parts_from-flat, parts_from-text_below}
use Rattle.pn_text.proofs.Splits.{parts_from-below}
use Rattle.pn_digest.specs.Listing.{rel_text}
use Rattle.pn_digest.specs.Lines.{IsPathText, line_fault}
use Rattle.pn_digest.specs.ListingFaults.{UnlessSo}
use Rattle.pn_digest.specs.declared.fault.ListingFault.{ListingFault}
use Rattle.pn_digest.specs.declared.fault.ListingFault.TheVariants.{BadPath, Twice, NotListing, Memory as no_memory}

path_back : (q p : Path) → is_path (q ++ p) ≡ true → is_path p ≡ true
path_back [] p h = h
path_back (x ∷ q) p h = path_back q p (and_right (is_part x) (is_path (q ++ p)) h)

-- what is read behind a part keeps it
kept : (after x : List ℕ) (before : Path) → IsPartsEnd after → (q : Path) × (parts_from (x ∷ before) after ≡ q ++ x ∷ before)
kept [] x before ends = ([], refl)
kept (b ∷ more) x before ends =
    (parts_from ([] ∷ []) more, ap (λ c. parts_from (x ∷ before) (c ∷ more)) ends ∙ parts_from-below more [] (x ∷ before))

no_bad_part : (text : List ℕ) (at : ℕ) (p : Path) → HasBadPart text at → SpellsParts text p → ⊥
no_bad_part text at p bad s =
    let behind : parts_from ([] ∷ bad.before) (bad.part ++ bad.after) ≡ parts_from (bad.part ∷ bad.before) bad.after =
    parts_from-append bad.part bad.after ([] ∷ bad.before) ∙ ap (λ z. parts_from z bad.after) (parts_from-flat bad.part bad.before [] (not_true (list_any (λ b. b == 47) bad.part) bad.flat)) in
    let k = kept bad.after bad.part bad.before bad.ends in
    let is : p ≡ k.0 ++ bad.part ∷ bad.before =
    sym (parts_from-text_below p s.good)
    ∙ ap (parts_from []) (sym s.spelled ∙ bad.spelled)
    ∙ parts_from-append (text_below bad.before) (47 ∷ (bad.part ++ bad.after)) []
    ∙ ap (λ z. parts_from z (47 ∷ (bad.part ++ bad.after))) (parts_from-text_below bad.before bad.good)
    ∙ behind ∙ k.1 in
    let good = path_back k.0 (bad.part ∷ bad.before) (subst (λ z. is_path z ≡ true) is s.good) in
    let filled = and_right (is_flat bad.part) (is_filled bad.part) (and_left (is_part bad.part) (is_path bad.before) good) in
    let f : true ≡ false = sym filled ∙ bad.bad in
    cc

pub not_utf8 : (bytes : List ℕ) → (IsUtf8 bytes → ⊥) → IsPathText bytes → ⊥
not_utf8 bytes never t = never (subst IsUtf8 (sym t.2) (IsUtf8-from_is_utf8 (rel_text t.0) t.1.utf8))

not_rel : (text : List ℕ) (fault : PathFault) → RelFault text fault → UnlessSo (IsPathText text) (line_fault fault)
not_rel text NotAbsolute fault = absurd fault
not_rel text (BadPart at) fault = λ t. no_bad_part text at t.0 fault (subst (λ z. SpellsParts z t.0) (sym t.2) t.1.spelled)
not_rel text Long fault = λ t.
    let short = subst (λ z. length z ≤ PATH_LIMIT) (sym t.2) t.1.short in
    omega (arith, fault.2, short)
not_rel text Memory fault = tt

-- bytes that are refused as a path
pub refused_path : (bytes text : List ℕ) (fault : PathFault) (given : ListingFault) → text ≡ bytes → given ≡ line_fault fault → RelFault text fault → UnlessSo (IsPathText bytes) given
refused_path bytes text fault given same is bad =
    subst (UnlessSo (IsPathText bytes)) (sym is) (subst (λ z. UnlessSo (IsPathText z) (line_fault fault)) same (not_rel text fault bad))

-- what is refused unless it is Q is refused unless it is P, where P is no more than Q
pub unless_from : (P Q : Type 0) (fault : ListingFault) → (P → Q) → UnlessSo Q fault → UnlessSo P fault
unless_from P Q (BadPath at) f u = u
unless_from P Q (Twice at) f u = u
unless_from P Q NotListing f u = λ p. u (f p)
unless_from P Q no_memory f u = tt
