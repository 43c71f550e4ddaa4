use Rattle.std.proofs.Common.{rules}
use Rattle.std.specs.Ordering.{is_lt, nat_cmp}
use Rattle.std.specs.Cmp.Lexicographic.{slice_cmp}
use Rattle.std.proofs.lemmas.List.Sorted.{answers_always}
use Rattle.pn_text.specs.Path.{path_text}
use Rattle.pn_digest.proofs.RisingTextLemmas.{is_rising_answer}
use Rattle.pn_digest.proofs.tree.is_rising.Goals as goal

pub returns : goal.returns
returns c =
    is_rising_answer (λ e. path_text e.0) c.args.entries.now c.is_sorted_by.result
    (c.is_sorted_by.ensures.cases (λ a b. is_lt (slice_cmp nat_cmp (path_text a.0) (path_text b.0))) (answers_always _ _ _ (λ f a r g called. search rules)))
