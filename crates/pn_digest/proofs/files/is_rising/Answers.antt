use Rattle.std.proofs.Common.{rules}
use Rattle.std.specs.Ordering.{is_lt, nat_cmp}
use Rattle.std.specs.Cmp.Lexicographic.{slice_cmp}
use Rattle.std.proofs.lemmas.List.Sorted.{answers_always}
use Rattle.pn_digest.specs.Listing.{rel_text}
use Rattle.pn_digest.proofs.RisingTextLemmas.{is_rising_answer}
use Rattle.pn_digest.proofs.IsRisingLemmas.{entry_text}
use Rattle.pn_digest.proofs.files.is_rising.Goals as goal

pub returns : goal.returns
returns c =
    is_rising_answer entry_text c.args.files.now c.is_sorted_by.result
    (c.is_sorted_by.ensures.cases (λ a b. is_lt (slice_cmp nat_cmp (rel_text a.0) (rel_text b.0))) (answers_always _ _ _ (λ f a r g called. search rules)))
