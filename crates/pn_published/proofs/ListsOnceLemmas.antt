-- What a listing gives, once.
use Rattle.std.proofs.Common.{◌≡◌, ◌≤◌, ◌+◌, ◌∙◌, ℕ, List, length, ap, arith}
use Rattle.std.specs.Prelude.{IfSome}
use Rattle.pn_text.specs.Path.{Path}
use Rattle.pn_text.proofs.Results.{for_some, if_some}
use Rattle.pn_fs.specs.Calls.{IsListing}
use Rattle.pn_fs.specs.Seen.{Seen, GaveNothing, GaveNames, GaveAtMost}
use Rattle.pn_published.specs.Folders.{ListsOnce}
use Rattle.pn_published.proofs.Gathered.{one_listing}

-- nothing was given
pub once_same : (p : Path) (most : ℕ) (a : Seen) → IfSome a.tree (λ t. ListsOnce t p most a a)
once_same p most a = if_some (λ t. ListsOnce t p most a a) a.tree (λ t told names h. record { bytes = omega arith; names = omega arith })

pub once_nothing : (p : Path) (most : ℕ) (a b : Seen) → IfSome a.tree (λ t. GaveNothing a b) → IfSome a.tree (λ t. ListsOnce t p most a b)
once_nothing p most a b gave = if_some (λ t. ListsOnce t p most a b) a.tree (λ t told names h.
    let g = for_some (λ t. GaveNothing a b) a.tree gave t told in
    record { bytes = omega (arith, g.bytes); names = omega (arith, g.names) })

-- a folder was listed
pub once_listed : (p : Path) (names : List (List ℕ)) (a b c : Seen) → b.tree ≡ a.tree → IfSome a.tree (λ t. GaveNothing a b) → IfSome b.tree (λ t. IsListing t p names) → IfSome b.tree (λ t. GaveNames b (length names) c) → IfSome a.tree (λ t. ListsOnce t p 0 a c)
once_listed p names a b c same first listed gave = if_some (λ t. ListsOnce t p 0 a c) a.tree (λ t told others h.
    let f = for_some (λ t. GaveNothing a b) a.tree first t told in
    let l = for_some (λ t. IsListing t p names) b.tree listed t (same ∙ told) in
    let g = for_some (λ t. GaveNames b (length names) c) b.tree gave t (same ∙ told) in
    record { bytes = omega (arith, f.bytes, g.bytes); names = omega (arith, f.names, g.names, ap length (one_listing t p names others l h)) })

-- and then no names were given
pub once_on : (p : Path) (k m n : ℕ) (a b c : Seen) → b.tree ≡ a.tree → IfSome a.tree (λ t. ListsOnce t p k a b) → IfSome b.tree (λ t. GaveAtMost b m 0 c) → k + m ≤ n → IfSome a.tree (λ t. ListsOnce t p n a c)
once_on p k m n a b c same first gave le = if_some (λ t. ListsOnce t p n a c) a.tree (λ t told names h.
    let f = for_some (λ t. ListsOnce t p k a b) a.tree first t told names h in
    let g = for_some (λ t. GaveAtMost b m 0 c) b.tree gave t (same ∙ told) in
    record { bytes = omega (arith, f.bytes, g.bytes, le); names = omega (arith, f.names, g.names) })
