-- What calls gave, one after the other.
use Rattle.std.proofs.Common.{◌≡◌, ◌≤◌, ◌+◌, ℕ, List, [], ◌∷◌, ◌++◌, length, refl, sym, ap, ◌∙◌, arith, inl, inr, true}
use Rattle.std.specs.Prelude.{IfSome}
use Rattle.std.specs.Option.{ForSome}
use Rattle.pn_fs.specs.Calls.{IsListing}
use Rattle.pn_fs.specs.Seen.{Seen, GaveNothing, GaveNames, GaveAtMost}
use Rattle.pn_fs.specs.Tree.{Tree}
use Rattle.pn_text.specs.Path.{Path}
use Rattle.pn_text.proofs.Results.{for_some, if_some}
use Rattle.pn_scan.specs.Managed.{Managed, is_managed}
use Rattle.pn_scan.specs.Looks.{GaveListing, GaveListings, marker_bytes}

pub most_same : (a : Seen) (m n : ℕ) → GaveAtMost a m n a
most_same a m n = record { bytes = omega arith; names = omega arith }

pub most_on : (a b c : Seen) (m n k l p q : ℕ) → GaveAtMost a m n b → GaveAtMost b k l c → m + k ≤ p → n + l ≤ q → GaveAtMost a p q c
most_on a b c m n k l p q h i bytes names = record { bytes = omega (arith, h.bytes, i.bytes, bytes); names = omega (arith, h.names, i.names, names) }

pub most_more : (a b : Seen) (m n p q : ℕ) → GaveAtMost a m n b → m ≤ p → n ≤ q → GaveAtMost a p q b
most_more a b m n p q h bytes names = record { bytes = omega (arith, h.bytes, bytes); names = omega (arith, h.names, names) }

pub nothing_most : (a b : Seen) (m n : ℕ) → GaveNothing a b → GaveAtMost a m n b
nothing_most a b m n h = record { bytes = omega (arith, h.bytes); names = omega (arith, h.names) }

pub names_most : (a b : Seen) (n : ℕ) → GaveNames a n b → GaveAtMost a 0 n b
names_most a b n h = record { bytes = omega (arith, h.bytes); names = omega (arith, h.names) }

pub nothing_on : (a b c : Seen) → GaveNothing a b → GaveNothing b c → GaveNothing a c
nothing_on a b c h k = record { bytes = k.bytes ∙ h.bytes; names = k.names ∙ h.names }

pub nothing_same : (a : Seen) → GaveNothing a a
nothing_same a = record { bytes = refl; names = refl }

-- no folder's names
pub no_listing : (t : Tree) (p : Path) (m k : ℕ) (a b : Seen) → m ≤ k → GaveAtMost a m 0 b → GaveListing t p k a b
no_listing t p m k a b le h = record { last = []; listed = inl refl; gave = record { bytes = omega (arith, h.bytes, le); names = h.names } }

pub one_listing : (t : Tree) (p : Path) (names : List (List ℕ)) (k : ℕ) (a b : Seen) → IsListing t p names → GaveAtMost a k (length names) b → GaveListing t p k a b
one_listing t p names k a b l h = record { last = names; listed = inr l; gave = h }

pub listing_on : (t : Tree) (p : Path) (m k n : ℕ) (a b c : Seen) → GaveAtMost a m 0 b → GaveListing t p k b c → m + k ≤ n → GaveListing t p n a c
listing_on t p m k n a b c h g le = record { last = g.last; listed = g.listed; gave = most_on a b c m 0 k (length g.last) n (length g.last) h g.gave le (omega arith) }

pub no_listings : (t : Tree) (managed : List Managed) (m n p q : ℕ) (a b : Seen) → m ≤ p → n ≤ q → GaveAtMost a m n b → GaveListings t managed p q a b
no_listings t managed m n p q a b le few h = record { at = []; last = []; within = inl refl; gave = most_more a b m n p (q + 0) h le (omega (arith, few)) }

-- one folder's names, behind the others
pub listings_on : (t : Tree) (managed : List Managed) (at : Path) (m n k p q : ℕ) (a b c : Seen) → is_managed managed at ≡ true → GaveAtMost a m n b → GaveListing t at k b c → m + k ≤ p → n ≤ q → GaveListings t managed p q a c
listings_on t managed at m n k p q a b c inside h g bytes names = record {
  at = at;
  last = g.last;
  within = elim g.listed [ inl e ↦ inl e | inr l ↦ inr (inside, l) ];
  gave = most_on a b c m n k (length g.last) p (q + length g.last) h g.gave bytes (omega (arith, names));
}

pub listings_more : (t : Tree) (managed : List Managed) (m n k l p q : ℕ) (a b c : Seen) → GaveAtMost a m n b → GaveListings t managed k l b c → m + k ≤ p → n + l ≤ q → GaveListings t managed p q a c
listings_more t managed m n k l p q a b c h g bytes names = record {
  at = g.at;
  last = g.last;
  within = g.within;
  gave = most_on a b c m n k (l + length g.last) p (q + length g.last) h g.gave bytes (omega (arith, names));
}

pub listings_wider : (t : Tree) (managed : List Managed) (m n p q : ℕ) (a b : Seen) → GaveListings t managed m n a b → m ≤ p → n ≤ q → GaveListings t managed p q a b
listings_wider t managed m n p q a b g bytes names = listings_more t managed 0 0 m n p q a a b (most_same a 0 0) g (omega (arith, bytes)) (omega (arith, names))

pub marker_bytes-append : (ms ns : List Managed) → marker_bytes (ms ++ ns) ≡ marker_bytes ms + marker_bytes ns
marker_bytes-append [] ns = omega arith
marker_bytes-append (m ∷ ms) ns = omega (arith, marker_bytes-append ms ns)
