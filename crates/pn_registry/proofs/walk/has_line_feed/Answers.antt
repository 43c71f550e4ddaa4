use Rattle.std.proofs.Common.{◌∙◌, ap}
use Rattle.std.specs.List.{list_any}
use Rattle.std.specs.Prelude.{nat_eq}
use Rattle.pn_registry.proofs.LineFeeds.{spelled_feeds}
use Rattle.pn_registry.proofs.walk.has_line_feed.Goals as goal

pub returns : goal.returns
returns c = c.contains.ensures.value ∙ ap (list_any (λ b. nat_eq b 10)) c.as_bytes.ensures.value ∙ spelled_feeds c.as_str.result.now c.args.path.now c.as_str.ensures.text
