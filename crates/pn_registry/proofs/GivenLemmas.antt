-- What calls gave, one after the other.
use Rattle.std.proofs.Common.{ℕ, List, [], ◌≤◌, ◌+◌, length, refl, arith, inl, inr}
use Rattle.std.specs.Prelude.{IfSome}
use Rattle.std.specs.Option.{ForSome}
use Rattle.pn_text.specs.Path.{Path}
use Rattle.pn_text.proofs.Results.{for_some, if_some}
use Rattle.pn_fs.specs.Calls.{IsListing}
use Rattle.pn_fs.specs.Seen.{Seen, GaveNothing, GaveNames, GaveAtMost}
use Rattle.pn_fs.specs.Tree.{Tree}
use Rattle.pn_registry.specs.Below.{IsWithin}
use Rattle.pn_registry.specs.Turns.{GaveListings}

pub nothing_same : (a : Seen) → IfSome a.tree (λ t. GaveNothing a a)
nothing_same a = if_some (λ t. GaveNothing a a) a.tree (λ t told. record { bytes = refl; names = refl })

pub most_same : (a : Seen) (m n : ℕ) → ForSome a.tree (λ t. GaveAtMost a m n a)
most_same a m n = λ t told. record { bytes = omega arith; names = omega arith }

pub most_on : (a b c : Seen) (m n k l p q : ℕ) → GaveAtMost a m n b → GaveAtMost b k l c → m + k ≤ p → n + l ≤ q → GaveAtMost a p q c
most_on a b c m n k l p q h i bytes names = record { bytes = omega (arith, h.bytes, i.bytes, bytes); names = omega (arith, h.names, i.names, names) }

pub names_most : (a b : Seen) (n : ℕ) → GaveNames a n b → GaveAtMost a 0 n b
names_most a b n h = record { bytes = omega (arith, h.bytes); names = omega (arith, h.names) }

pub nothing_most : (a b : Seen) (m n : ℕ) → GaveNothing a b → GaveAtMost a m n b
nothing_most a b m n h = record { bytes = omega (arith, h.bytes); names = omega (arith, h.names) }

-- no folder more
pub few_listings : (t : Tree) (at : Path) (most more : ℕ) (a b : Seen) → most ≤ more → GaveAtMost a 0 most b → GaveListings t at more a b
few_listings t at most more a b le h = record { last = []; listed = inl refl; gave = record { bytes = h.bytes; names = omega (arith, h.names, le) } }

pub listings_same : (at : Path) (a : Seen) (most : ℕ) → IfSome a.tree (λ t. GaveListings t at most a a)
listings_same at a most = if_some (λ t. GaveListings t at most a a) a.tree (λ t told. few_listings t at 0 most a a (omega arith) (most_same a 0 0 t told))

-- one folder, of which nothing more was asked
pub one_listing : (t : Tree) (at p : Path) (names : List (List ℕ)) (a b c : Seen) → IsWithin at p → IsListing t p names → GaveNames a (length names) b → GaveAtMost b 0 0 c → GaveListings t at 0 a c
one_listing t at p names a b c within listing h i = record { last = names; listed = inr (p, within, listing); gave = most_on a b c 0 (length names) 0 0 0 (0 + length names) (names_most a b (length names) h) i (omega arith) (omega arith) }

-- folders, and then one at most
pub listings_on : (t : Tree) (at : Path) (n most : ℕ) (a b c : Seen) → n ≤ most → GaveAtMost a 0 n b → GaveListings t at 0 b c → GaveListings t at most a c
listings_on t at n most a b c le h g = record { last = g.last; listed = g.listed; gave = most_on a b c 0 n 0 (0 + length g.last) 0 (most + length g.last) h g.gave (omega arith) (omega (arith, le)) }

pub nothing_listings : (at : Path) (a b : Seen) (most : ℕ) → IfSome a.tree (λ t. GaveNothing a b) → IfSome a.tree (λ t. GaveListings t at most a b)
nothing_listings at a b most h = if_some (λ t. GaveListings t at most a b) a.tree (λ t told. few_listings t at 0 most a b (omega arith) (nothing_most a b 0 0 (for_some (λ t. GaveNothing a b) a.tree h t told)))
