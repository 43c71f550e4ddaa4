use Rattle.std.proofs.Common.{◌≤◌, ℕ, List, length, subst}
use Rattle.pn_text.specs.declared.limits.TheConstants.{PATH_LIMIT}
use Rattle.pn_text.specs.Path.{Path, path_text}
use Rattle.pn_registry.proofs.Texts.{slash_behind, leads_there}
use Rattle.pn_registry.proofs.walk.below.Goals as goal

pub behind-rest-requires : goal.behind-rest-requires
behind-rest-requires c = slash_behind c.args.at.now c.args.path.now c.as_str-2.result.now c.as_str.result.now c.requires.deep c.requires.within c.requires.below c.as_str-2.ensures.text c.as_str.ensures.text

pub returns-in-Ok-clause-path : goal.returns-in-Ok-clause-path
returns-in-Ok-clause-path c =
    leads_there c.args.at.now c.args.path.now c.in-Ok.path c.as_str-2.result.now c.as_str.result.now c.behind-rest.result.now c.requires.deep c.requires.within c.requires.below c.as_str-2.ensures.text c.as_str.ensures.text c.behind-rest.ensures c.in-Ok.ensures.ok

pub returns-in-Ok-clause-short : goal.returns-in-Ok-clause-short
returns-in-Ok-clause-short c =
    subst (λ (p : Path). length (path_text p) ≤ PATH_LIMIT) (returns-in-Ok-clause-path c) (subst (λ (t : List ℕ). length t ≤ PATH_LIMIT) c.as_str.ensures.text.spelled c.as_str.ensures.short)
