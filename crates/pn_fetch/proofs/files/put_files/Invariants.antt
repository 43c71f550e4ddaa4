use Rattle.std.proofs.Common.{◌≡◌, ◌*◌, [], ◌∷◌, ◌++◌, map, take}
use Rattle.std.specs.List.{All}
use Rattle.std.specs.Option.{ForSome}
use Rattle.pn_fs.specs.Seen.{GaveAtMost}
use Rattle.pn_fetch.specs.Listings.{IsFilePut, path_of}
use Rattle.pn_fetch.specs.Puts.{WasPut, bytes_at}
use Rattle.pn_fetch.specs.Steps.{Fetches}
use Rattle.pn_fetch.proofs.files.put_files.Given as goal

-- the first files were put
abbrev pub invariant-loop-path : goal.invariant-loop-path
invariant-loop-path g l =
    let store = g.D.StoreDisk.seen in
    let source = g.R.ReadFs.seen in
    record {
      claim : l.claim ≡ l.fn.claim;
      paths : map path_of l.all.items ≡ take l.path-index l.paths;
      put : All (IsFilePut (source l.fn.registry).tree l.one.folder (store l.disk)) l.all.items;
      was : All (WasPut (source l.fn.registry).tree (store l.fn.disk) (store l.disk)) (map (λ f. f ++ l.one.folder) (take l.path-index l.paths));
      gave : ForSome (source l.fn.registry).tree (λ t. GaveAtMost (source l.fn.registry) (2 * bytes_at t (map (λ f. f ++ l.one.folder) (take l.path-index l.paths))) 0 (source l.registry));
      fetches : Fetches (l.one ∷ []) l.fn.claim (source l.fn.registry) (source l.registry) (store l.fn.disk) (store l.disk);
    }
