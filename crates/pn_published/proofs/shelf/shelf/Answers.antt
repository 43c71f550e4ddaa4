use Rattle.std.proofs.Common.{subst, sym, map}
use Rattle.semver.specs.Identifiers.{parts_of}
use Rattle.pn_published.specs.Tags.{AreRisingTags}
use Rattle.pn_published.specs.Listed.{said}
use Rattle.pn_published.proofs.SaidLemmas.{tags_rise}
use Rattle.pn_published.proofs.shelf.shelf.Goals as goal

pub of-requires : goal.of-requires
of-requires c = subst AreRisingTags (sym c.in_ok-tags.ensures) (tags_rise (map parts_of c.as_slice.result.now) (map said c.args.texts.now) c.requires)
