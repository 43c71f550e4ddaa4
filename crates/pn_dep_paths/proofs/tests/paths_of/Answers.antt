use Rattle.std.proofs.Common.{◌≡◌, ℕ, length, subst, arith}
use Rattle.pn_outer.specs.Instances.{ArePeersThere}
use Rattle.pn_dep_paths.proofs.tests.paths_of.Goals as goal

pub base_texts-requires-clause-within : goal.base_texts-requires-clause-within
base_texts-requires-clause-within c = c.are_in_range.ensures.dependencies c.if-not-are_in_range.false

pub base_texts-requires-clause-peers : goal.base_texts-requires-clause-peers
base_texts-requires-clause-peers c =
    let counted = c.len.ensures in
    let same = c.deref.ensures.len in
    let long : c.len.result ≡ length c.deref.result.now = omega (arith, counted, same) in
    subst (λ (n : ℕ). ArePeersThere n c.args.instances.now) long (c.are_in_range.ensures.peers c.if-not-are_in_range.false)
