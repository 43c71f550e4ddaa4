use Rattle.std.proofs.Common.{◌≡◌, ◌++◌, true, drop}
use Rattle.std.specs.List.{All}
use Rattle.pn_text.specs.Name.{is_name}
use Rattle.pn_outer.specs.declared.instance.Link.{Link}
use Rattle.pn_dep_paths.specs.Converted.{alias_links, peer_links}
use Rattle.pn_dep_paths.proofs.convert.outer_of.Given as goal

abbrev pub invariant-loop-link : goal.invariant-loop-link
invariant-loop-link l = record {
  deps : l.deps.items ++ alias_links l.plain.packages l.at (drop l.link-index l.links) ≡ alias_links l.plain.packages l.at l.links;
  peers : l.peers.items ++ peer_links l.plain.packages l.at (drop l.link-index l.links) ≡ peer_links l.plain.packages l.at l.links;
  names : All (λ (x : Link). is_name x.name ≡ true) l.peers.items;
}
