use Rattle.std.proofs.Common.{List, [], ◌∷◌, ◌∙◌, ap, sym, subst}
use Rattle.std.specs.Prelude.{codes}
use Rattle.pn_digest.specs.Listing.{Entry}
use Rattle.pn_package.specs.Links.{Pair}
use Rattle.pn_package.specs.Sound.{AreWhole}
use Rattle.pn_package.specs.declared.packages.Package.{Package}
use Rattle.pn_layout.specs.Listed.{AreOfPackages}
use Rattle.pn_layout.proofs.RowLemmas.{row_whole, row_listed}
use Rattle.pn_layout.proofs.tests.planned.Goals as goal

pub layout-requires-clause-whole : goal.layout-requires-clause-whole
layout-requires-clause-whole c =
    subst (λ (ps : List Package). AreWhole c.in_ok-direct.direct ps) (sym (c.deref.ensures.value ∙ c.in_ok-packages.ensures))
    (row_whole c.in_ok-first.first c.in_ok-second.second c.in_ok-first.ensures.id c.in_ok-second.ensures.id c.in_ok-direct.direct (codes "b") (codes "@s/a") (codes "c")
    (c.in_ok-direct.ensures ∙ ap (λ (x : Pair). x ∷ []) c.in_ok-to_second.ensures.pair) (c.in_ok-first.ensures.links ∙ c.no_links.ensures)
    (c.in_ok-second.ensures.links ∙ c.in_ok-links.ensures ∙ (λ i. c.in_ok-to_first.ensures.pair i ∷ c.in_ok-to_itself.ensures.pair i ∷ [])))

pub layout-requires-clause-listings : goal.layout-requires-clause-listings
layout-requires-clause-listings c =
    subst (λ (ps : List Package). AreOfPackages ps c.deref-2.result.now) (sym (c.deref.ensures.value ∙ c.in_ok-packages.ensures))
    (subst (λ (ls : List (List Entry)). AreOfPackages (c.in_ok-first.first ∷ c.in_ok-second.second ∷ []) ls) (sym (c.deref-2.ensures.value ∙ c.in_ok-listings.ensures))
    (row_listed c.in_ok-first.first c.in_ok-second.second c.in_ok-first.ensures.id c.in_ok-second.ensures.id c.in_ok-first.of_first c.in_ok-second.of_second c.in_ok-first.ensures.listing c.in_ok-second.ensures.listing))
