use Rattle.std.proofs.Common.{◌∙◌}
use Rattle.pn_yaml.specs.View.{view}
use Rattle.pn_lock_shape.specs.Bare.{tree}
use Rattle.pn_lock_shape.proofs.ApartLemmas.{apart_bare}
use Rattle.pn_lock_shape.proofs.DraftLemmas.{kept_of}
use Rattle.pn_lock_shape.proofs.whole.read.Goals as goal

pub read_draft-requires : goal.read_draft-requires
read_draft-requires c = apart_bare (view c.args.node.now) ∙ c.requires

pub returns-clause-kept : goal.returns-clause-kept
returns-clause-kept c = kept_of (tree c.args.node.now) c.read_draft.result (apart_bare (view c.args.node.now) ∙ c.requires) c.read_draft.ensures
