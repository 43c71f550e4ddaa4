-- What projects and packages ask for is in order.
use Rattle.std.proofs.Common.{◌≡◌, ℕ, Bool, true, false, List, Option, Some, None, refl, sym, ap, ◌∙◌, codes}
use Rattle.std.specs.Str.{bytes_eq}
use Rattle.std.proofs.lemmas.Slice.Eq.{bytes_eq-Decides}
use Rattle.pn_text.specs.Ids.{id_name}
use Rattle.pn_fs.specs.Tree.{Tree}
use Rattle.pn_manifest.specs.Fields.{Spot, or_else}
use Rattle.pn_manifest.specs.Said.{Said}
use Rattle.pn_registry.specs.Package.{states, unless}
use Rattle.pn_walk.specs.Wants.{Id}
use Rattle.pn_walk.specs.declared.wish.Wish.{Wish}
use Rattle.pn_walk.specs.declared.wish.Aim.TheVariants.{Project as to_project}
use Rattle.semver.specs.Parse.{Parts}
use Rattle.pn_plain.specs.Aims.{Found, ReadingLeads, LeadsBy as LeadsGiven}
use Rattle.pn_plain.specs.Readings.{Reading, of_package, of_project, no_entry, not_built}
use Rattle.pn_plain.specs.SeenLaws.{IsOwn}
use Rattle.pn_choice.specs.Given.{given_of}
use Rattle.pn_choice.specs.Shows.{Publishes, HasManifest}
use Rattle.pn_choice.specs.Ways.{LeadsBy}
use Rattle.pn_choice.proofs.LeadsLemmas.{never_project}

stated : (b : Bool) (own x : List ℕ) (rest : Option Spot) → bytes_eq own x ≡ b → or_else (unless b (codes "name")) rest ≡ None → own ≡ x
stated true own x rest same e = (bytes_eq-Decides own x).0 same
stated false own x rest same e = cc

named : (n : Option (List ℕ)) (x : List ℕ) (rest : Option Spot) → or_else (unless (states n x) (codes "name")) rest ≡ None → n ≡ Some x
named None x rest e = cc
named (Some own) x rest e = ap Some (stated (bytes_eq own x) own x rest refl e)

right : (w : Option Spot) (n : Option (List ℕ)) (x : List ℕ) (rest : Option Spot) → or_else w (or_else (unless (states n x) (codes "name")) rest) ≡ None → n ≡ Some x
right None n x rest e = named n x rest e
right (Some s) n x rest e = cc

-- a package's manifest states the package's name
pub own_name : (r : Option Tree) (i : Id) (m : Said) → HasManifest r i m → IsOwn m (id_name i)
own_name r i m h = ap (λ (s : Said). s.name) h.says ∙ right _ _ (id_name i) _ h.right

found_package : (n : List ℕ) (o : Bool) (found : Option Parts) (q : ℕ) → Found n o found (Some (to_project q)) → ⊥
found_package n o None q h = let e = h.1 in cc
found_package n o (Some v) q h = cc

reading_package : (r : Option Tree) (held : List Id) (o : Bool) (x : Reading) (q : ℕ) → ((n : List ℕ) (w : _) → x ≡ of_project n w → ⊥) → ReadingLeads (Publishes r) (given_of held) o x (Some (to_project q)) → ⊥
reading_package r held o (of_package n v) q f h = found_package n o h.0 q h.2
reading_package r held o (of_project n v) q f h = f n v refl
reading_package r held o no_entry q f h = h
reading_package r held o not_built q f h = h

by_chosen : (r : Option Tree) (held : List Id) (w : Wish) (c : Option Id) (q : ℕ) → LeadsGiven (Publishes r) (given_of held) w c (Some (to_project q)) → ⊥
by_chosen r held w None q h = reading_package r held w.optional h.0 q (λ n v e. never_project n v _ (sym e ∙ h.1.is)) h.2
by_chosen r held w (Some id) q h = cc

-- no wish leads to a project
pub no_project : (r : Option Tree) (held : List Id) (w : Wish) (q : ℕ) → LeadsBy r held w (Some (to_project q)) → ⊥
no_project r held w q h = by_chosen r held w w.chosen q h
