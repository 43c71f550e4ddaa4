-- The wishes of a project whose wanted peers count as dependencies.
use Rattle.std.proofs.Common.{◌≡◌, Bool, true, false, List, [], ◌++◌, refl, sym, ap, ◌∙◌, map}
use Rattle.std.specs.Prelude.{filter}
use Rattle.std.proofs.lemmas.List.{map-append}
use Rattle.pn_manifest.specs.Said.{Said}
use Rattle.pn_manifest.specs.declared.peers.Peer.{Peer}
use Rattle.pn_walk.specs.declared.wish.Wish.{Wish}
use Rattle.pn_plain.specs.Seen.{is_wanted, pair_of, counted, wish, put_wishes, wishes_of}
use Rattle.pn_seen.proofs.SortLemmas.{puts_append}

abbrev pub wanted : Said → List Peer
wanted s = filter (is_wanted s) s.peers

abbrev pub wanted_wishes : Said → List Wish
wanted_wishes s = map (wish false) (map pair_of (wanted s))

-- the wishes of the dependencies that count, without the peers and with them
pub without_peers : (auto : Bool) (s : Said) → auto ≡ false → map (wish false) s.dependencies ≡ map (wish false) (counted auto s).dependencies
without_peers true s e = cc
without_peers false s e = refl

pub with_peers : (auto : Bool) (s : Said) → auto ≡ true → map (wish false) s.dependencies ++ wanted_wishes s ≡ map (wish false) (counted auto s).dependencies
with_peers true s e = sym (map-append (wish false) s.dependencies (map pair_of (wanted s)))
with_peers false s e = cc

-- put one by one, these are the wishes of what counts
puts_three : (first dev optional : List Wish) → put_wishes ((first ++ dev) ++ optional) [] ≡ put_wishes first (put_wishes dev (put_wishes optional []))
puts_three first dev optional = puts_append (first ++ dev) optional [] ∙ puts_append first dev (put_wishes optional [])

pub puts_counted : (auto : Bool) (s : Said) (first : List Wish) → first ≡ map (wish false) (counted auto s).dependencies
    → put_wishes ((first ++ map (wish false) s.dev) ++ map (wish true) s.optional) [] ≡ wishes_of (counted auto s)
puts_counted true s first e = puts_three first _ _ ∙ ap (λ ws. put_wishes ws (put_wishes (map (wish false) s.dev) (put_wishes (map (wish true) s.optional) []))) e
puts_counted false s first e = puts_three first _ _ ∙ ap (λ ws. put_wishes ws (put_wishes (map (wish false) s.dev) (put_wishes (map (wish true) s.optional) []))) e
