use Rattle.std.proofs.Common.{◌≡◌, ◌∙◌, sym, ap, append-nil, map, Some}
use Rattle.serde_json.specs.View.{members_view}
use Rattle.pn_published.specs.Tags.{said_of}
use Rattle.pn_published.specs.Listed.{said}
use Rattle.pn_published.proofs.SaidLemmas.{onto_said, said_rise}
use Rattle.pn_published.proofs.tags.said_of.Goals as goal

pub returns-clause-rising : goal.returns-clause-rising
returns-clause-rising c =
    let read : said_of (members_view c.args.members.now.entries) ≡ Some (map said c.loop-name.all.items) =
    sym c.loop-name.invariant ∙ ap (λ left. onto_said (map said c.loop-name.all.items) (said_of (members_view left))) c.in-None.ensures.steps.0 ∙ ap Some (append-nil (map said c.loop-name.all.items)) in
    said_rise c.args.members.now.entries (map said c.loop-name.all.items) c.iter-name-items.ensures.ordered read
