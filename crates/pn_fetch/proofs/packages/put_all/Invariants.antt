use Rattle.std.proofs.Common.{◌≡◌, ◌*◌, take}
use Rattle.std.specs.List.{All}
use Rattle.std.specs.Option.{ForSome}
use Rattle.pn_fs.specs.Seen.{GaveAtMost}
use Rattle.pn_fetch.specs.Listings.{AreListingsOf, IsStored}
use Rattle.pn_fetch.specs.Puts.{WasListed, WasPut, bytes_at, places}
use Rattle.pn_fetch.specs.Steps.{Fetches}
use Rattle.pn_fetch.proofs.packages.put_all.Given as goal

-- the first packages were put
abbrev pub invariant-loop-one : goal.invariant-loop-one
invariant-loop-one g l =
    let store = g.D.StoreDisk.seen in
    let source = g.R.ReadFs.seen in
    record {
      claim : l.claim ≡ l.fn.claim;
      listings : AreListingsOf (source l.fn.registry).tree (take l.one-index l.packages) l.all.items;
      stored : All (IsStored (store l.disk)) l.all.items;
      listed : All (WasListed (store l.fn.disk) (store l.disk)) l.all.items;
      was : All (WasPut (source l.fn.registry).tree (store l.fn.disk) (store l.disk)) (places (take l.one-index l.packages));
      gave : ForSome (source l.fn.registry).tree (λ t. GaveAtMost (source l.fn.registry) (2 * bytes_at t (places (take l.one-index l.packages))) 0 (source l.registry));
      fetches : Fetches l.packages l.fn.claim (source l.fn.registry) (source l.registry) (store l.fn.disk) (store l.disk);
    }
