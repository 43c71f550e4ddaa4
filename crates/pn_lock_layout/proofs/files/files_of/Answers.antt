use Rattle.std.proofs.Common.{◌≡◌, ◌∙◌, [], ap, sym, true, false, arith}
use Rattle.std.proofs.lemmas.List.{get_or_default}
use Rattle.pn_text.proofs.Results.{if_ok}
use Rattle.pn_lock.specs.Locks.{ids_of}
use Rattle.pn_lock_layout.specs.Layouts.{listing_at}
use Rattle.pn_lock_layout.proofs.PlaceLemmas.{none_absent}
use Rattle.pn_lock_layout.proofs.files.files_of.Goals as goal

pub unreachable-requires : goal.unreachable-requires
unreachable-requires c =
    let no : true ≡ false = sym c.requires.among ∙ none_absent c.args.id.now (ids_of c.args.packages.now) (sym c.place_of.ensures.place ∙ c.in-None.is) in cc

pub returns : goal.returns
returns c = if_ok c.copied.result (λ l h. h ∙ c.index-listings-n.is ∙ get_or_default c.args.listings.now c.in-Some.n c.index-listings-n.result [] (omega (arith, c.in-Some.ensures.within, c.requires.count))
    ∙ sym (ap (listing_at c.args.listings.now) (sym c.place_of.ensures.place ∙ c.in-Some.is))) c.copied.ensures
