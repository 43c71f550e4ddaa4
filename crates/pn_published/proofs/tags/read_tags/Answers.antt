use Rattle.std.proofs.Common.{subst, sym, map}
use Rattle.pn_published.specs.Tags.{AreRising}
use Rattle.pn_published.specs.Listed.{said}
use Rattle.pn_published.proofs.SaidLemmas.{none_rise}
use Rattle.pn_published.proofs.tags.read_tags.Goals as goal

pub returns-in-Err-Missing-clause-rising : goal.returns-in-Err-Missing-clause-rising
returns-in-Err-Missing-clause-rising g c = subst (λ items. AreRising (map said items)) (sym c.new.ensures.items) none_rise
