use Rattle.std.proofs.Common.{◌≡◌, ◌∙◌, ℕ, List, length, map, ap, subst, sym, IsPermutation}
use Rattle.std.proofs.lemmas.List.{length-map}
use Rattle.sha2.specs.Sha512.{sha512}
use Rattle.pn_digest.specs.Listing.{Entry, listing_text}
use Rattle.pn_graph.specs.declared.links.Package.{Package}
use Rattle.pn_lock_make.specs.Packages.{packages_from}
use Rattle.pn_lock_make.specs.Singles.{IsMadeSingly, package_ids}
use Rattle.pn_wanted.specs.declared.wanted.Wanted.{Wanted}
use Rattle.pn_wanted.specs.Wanted.{ids_of}
use Rattle.pn_locking.specs.Integrities.{digest_at, digests_of, integrities_of}
use Rattle.pn_locking.proofs.MadeLemmas.{ids_are, integrities_are, many}
use Rattle.pn_locking.proofs.locks.lock.Goals as goal

pub integrities_of-requires-clause-many : goal.integrities_of-requires-clause-many
integrities_of-requires-clause-many c =
    ap length (c.deref.ensures.value ∙ c.in_ok-ids.ensures) ∙ many c.args.plain.now.packages (ids_of c.args.wanted.now) c.requires.same ∙ ap length (sym c.as_slice.ensures)

integrities : (c : goal.After-drop-ids-2) → c.deref-3.result.now ≡ integrities_of c.args.plain.now c.args.wanted.now c.args.listings.now
integrities c =
    c.deref-3.ensures.value ∙ c.in_ok-integrities.ensures ∙ ap (λ (is : List (List ℕ)). map (digest_at is c.deref-2.result.now) (package_ids c.as_slice.result.now)) (c.deref.ensures.value ∙ c.in_ok-ids.ensures)
    ∙ ap (λ (ds : List (List ℕ)). map (digest_at (ids_of c.args.wanted.now) ds) (package_ids c.as_slice.result.now)) (c.deref-2.ensures.value ∙ c.in_ok-digests.ensures)
    ∙ ap (λ (qs : List Package). map (digest_at (ids_of c.args.wanted.now) (digests_of c.args.listings.now)) (package_ids qs)) c.as_slice.ensures

pub returns-clause-made : goal.returns-clause-made
returns-clause-made c = subst (λ (is : List (List ℕ)). IsMadeSingly c.args.asked.now c.args.plain.now is c.in_ok-lock.lock) (integrities c) c.in_ok-lock.ensures.made

pub returns-clause-ids : goal.returns-clause-ids
returns-clause-ids c =
    ids_are c.deref-3.result.now c.args.plain.now.packages (ids_of c.args.wanted.now) c.in_ok-lock.lock c.packages.ensures.kept c.in_ok-lock.ensures.made.made.packages c.requires.same c.requires.rising

pub returns-clause-integrities : goal.returns-clause-integrities
returns-clause-integrities c =
    let count = length-map c.args.listings.now (λ (l : List Entry). sha512 (listing_text l)) ∙ c.requires.listed ∙ sym (length-map c.args.wanted.now (λ (w : Wanted). w.id)) in
    integrities_are c.args.plain.now.packages (ids_of c.args.wanted.now) (digests_of c.args.listings.now) c.in_ok-lock.lock c.packages.ensures.kept
    (subst (λ (is : List (List ℕ)). IsPermutation (packages_from is 0 c.args.plain.now.packages) c.in_ok-lock.lock.packages) (integrities c) c.in_ok-lock.ensures.made.made.packages)
    c.requires.same c.requires.rising count
