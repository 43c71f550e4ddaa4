use Rattle.std.proofs.Common.{◌∙◌, sym}
use Rattle.semver.specs.Identifiers.{parts_of}
use Rattle.pn_published.specs.Versions.{same_version}
use Rattle.pn_published.proofs.ChoiceLemmas.{any_map}
use Rattle.pn_published.proofs.choice.is_held.Goals as goal

pub returns : goal.returns
returns c = c.any_same.ensures ∙ sym (any_map parts_of (λ u. same_version u (parts_of c.args.version.now)) c.args.held.now)
