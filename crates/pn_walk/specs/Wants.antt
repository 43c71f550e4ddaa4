-- What projects and packages ask for, and what that leads to.
use Rattle.std.specs.Prelude.{ℕ, Bool, List}
use Rattle.std.specs.Str.{bytes_eq}
pub use Rattle.pn_walk.specs.declared.wish.Wish.{Wish}
pub use Rattle.pn_manifest.specs.declared.peers.Peer.{Peer}
pub use Rattle.pn_walk.specs.declared.node.Node.{Node}
pub use Rattle.pn_walk.specs.declared.wish.Aim.{Aim}
pub use Rattle.pn_walk.specs.declared.wish.Aim.TheVariants.{Project as to_project, Package as to_package}
pub use Rattle.pn_walk.specs.declared.wish.Place.{Place}
pub use Rattle.pn_walk.specs.declared.wish.Place.TheVariants.{Project as at_project, Package as at_package}

-- a package by the text of its id, `name@version`
abbrev pub Id : Type 0
Id = List ℕ

abbrev pub same_id : Id → Id → Bool
same_id = bytes_eq
