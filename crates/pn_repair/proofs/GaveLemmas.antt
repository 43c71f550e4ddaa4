-- Lemmas on what calls of a tree gave, one after the other.
use Rattle.std.proofs.Common.{◌≡◌, refl, ◌∙◌, Some}
use Rattle.std.specs.Prelude.{IfSome}
use Rattle.std.specs.Option.{ForSome}
use Rattle.pn_text.proofs.Results.{for_some, if_some}
use Rattle.pn_fs.specs.Tree.{Tree}
use Rattle.pn_fs.specs.Seen.{Seen, GaveNothing}

pub nothing_none : (a : Seen) → IfSome a.tree (λ t. GaveNothing a a)
nothing_none a = if_some (λ t. GaveNothing a a) a.tree (λ t told. record { bytes = refl; names = refl })

pub nothing_both : (a b c : Seen) → ForSome a.tree (λ t. (u : Tree) × (b.tree ≡ Some u)) → IfSome a.tree (λ t. GaveNothing a b) → IfSome b.tree (λ u. GaveNothing b c) → IfSome a.tree (λ t. GaveNothing a c)
nothing_both a b c mid h k = if_some (λ t. GaveNothing a c) a.tree (λ t told.
    let u = mid t told in
    let g = for_some (λ t. GaveNothing a b) a.tree h t told in
    let s = for_some (λ u. GaveNothing b c) b.tree k u.0 u.1 in
    record { bytes = s.bytes ∙ g.bytes; names = s.names ∙ g.names })
