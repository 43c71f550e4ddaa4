use Rattle.pn_fetch.proofs.IsListingOfLemmas.{only_memory}
use Rattle.pn_fetch.proofs.listed.listed.Goals as goal

pub wanting-requires : goal.wanting-requires
wanting-requires c = only_memory c.args.files.items c.in-Err.fault c.requires c.in-Err.ensures.refused
