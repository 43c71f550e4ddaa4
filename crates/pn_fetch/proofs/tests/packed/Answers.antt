use Rattle.std.proofs.Common.{[], ◌∙◌, ◌≤◌, ◌++◌, length, ap, map, sym, subst}
use Rattle.std.specs.List.{All}
use Rattle.std.proofs.lemmas.List.Elements.{All-contains}
use Rattle.pn_text.specs.Path.{Path, path_text}
use Rattle.pn_text.specs.declared.limits.TheConstants.{PATH_LIMIT}
use Rattle.pn_fetch.specs.Listings.{path_of}
use Rattle.std.specs.List.Sorted.{IsStrictlySortedBy}
use Rattle.pn_package.specs.Links.{IsRising}
use Rattle.pn_package.specs.Listed.{pair_of}
use Rattle.pn_fetch.proofs.AreListableLemmas.{listable_as}
use Rattle.pn_fetch.proofs.tests.packed.Goals as goal

none_rises : IsRising []
unfolding IsStrictlySortedBy
none_rises = tt

pub of-links-requires : goal.of-links-requires
of-links-requires c = subst (λ links. IsRising (map pair_of links)) (sym c.new-none.ensures.items) none_rises

pub returns : goal.returns
returns c =
    let files = c.in_ok-files.files.items in
    let short = λ (folder f : Path). length (path_text (f ++ folder)) ≤ PATH_LIMIT in
    record {
      files = listable_as c.in_ok-listing.listing files c.as_slice.ensures.listing (c.in_ok-files.ensures.same ∙ ap (map path_of) c.as_slice.ensures.files);
      short = λ f among. All-contains (short c.in_ok-folder.folder) files f (subst (λ a. All (short a) files) (sym c.in_ok-folder.ensures) c.in_ok-files.ensures.short) among;
    }
