-- Lemmas on the places of packages' files, and on how many bytes are there.
use Rattle.std.proofs.Common.{◌≡◌, ◌<◌, ◌≤◌, ◌+◌, ◌*◌, ℕ, List, [], ◌∷◌, ◌++◌, map, length, take, get_or, suc, refl, sym, ap, ◌∙◌, arith}
use Rattle.std.specs.Prelude.{drop, IfSome}
use Rattle.std.specs.List.{Contains}
use Rattle.std.specs.Option.{ForSome}
use Rattle.std.proofs.Math.Seq.{split_at}
use Rattle.std.proofs.lemmas.List.{map-append, take_more}
use Rattle.std.proofs.lemmas.List.Concat.{flat_map-append}
use Rattle.std.proofs.lemmas.List.Sums.{sum_by-append}
use Rattle.pn_text.specs.Path.{Path}
use Rattle.pn_text.proofs.Members.{from_map}
use Rattle.pn_text.proofs.Results.{for_some, if_some}
use Rattle.pn_fs.specs.Tree.{Tree}
use Rattle.pn_fs.specs.Seen.{Seen as Source, GaveAtMost}
use Rattle.pn_store.specs.Puts.{file_length}
use Rattle.pn_package.specs.declared.packages.Package.{Package}
use Rattle.pn_package.proofs.Contents.{from_flat_map}
use Rattle.pn_fetch.specs.Puts.{bytes_at, places, places_of}
use Rattle.pn_fetch.specs.Steps.{IsPlaceOf}

-- a list cut around an element
cut_at : {X : Type 0} (xs : List X) (k : ℕ) (x : X) → k < length xs → x ≡ get_or xs k x → xs ≡ take k xs ++ (x ∷ drop (suc k) xs)
cut_at xs k x within is = split_at xs k x within ∙ ap (λ y. take k xs ++ (y ∷ drop (suc k) xs)) (sym is)

more_at : {X : Type 0} (xs : List X) (k : ℕ) (x : X) → k < length xs → x ≡ get_or xs k x → take (k + 1) xs ≡ take k xs ++ x ∷ []
more_at xs k x within is = take_more xs k x within ∙ ap (λ y. take k xs ++ y ∷ []) (sym is)

module _ (folder : Path) where
  abbrev pub below : List Path → List Path
  below files = map (λ f. f ++ folder) files

  -- the places of files before one, of it and of those after it
  pub files_cut : (files : List Path) (k : ℕ) (f : Path) → k < length files → f ≡ get_or files k f → below files ≡ below (take k files) ++ (((f ++ folder) ∷ []) ++ below (drop (suc k) files))
  files_cut files k f within is = ap below (cut_at files k f within is) ∙ map-append (λ f. f ++ folder) (take k files) (f ∷ drop (suc k) files)

  pub files_more : (files : List Path) (k : ℕ) (f : Path) → k < length files → f ≡ get_or files k f → below (take (k + 1) files) ≡ below (take k files) ++ ((f ++ folder) ∷ [])
  files_more files k f within is = ap below (more_at files k f within is) ∙ map-append (λ f. f ++ folder) (take k files) (f ∷ [])

-- the same of packages
pub packages_cut : (packages : List Package) (k : ℕ) (p : Package) → k < length packages → p ≡ get_or packages k p → places packages ≡ places (take k packages) ++ (places_of p ++ places (drop (suc k) packages))
packages_cut packages k p within is = ap places (cut_at packages k p within is) ∙ flat_map-append places_of (take k packages) (p ∷ drop (suc k) packages)

none_behind : {X : Type 0} (xs : List X) → xs ++ [] ≡ xs
none_behind [] = refl
none_behind (x ∷ xs) = ap (λ r. x ∷ r) (none_behind xs)

pub packages_more : (packages : List Package) (k : ℕ) (p : Package) → k < length packages → p ≡ get_or packages k p → places (take (k + 1) packages) ≡ places (take k packages) ++ places_of p
packages_more packages k p within is =
    ap places (more_at packages k p within is) ∙ flat_map-append places_of (take k packages) (p ∷ []) ∙ ap (λ r. places (take k packages) ++ r) (none_behind (places_of p))

-- the places are those of the packages' files
pub place_among : (packages : List Package) (q : Path) → Contains (places packages) q → IsPlaceOf packages q
place_among packages q c =
    let one = from_flat_map places_of packages q c in
    let f = from_map (λ f. f ++ one.0.folder) one.0.files.items q one.2 in
    (one.0, one.1, (f.0, f.1, sym f.2))

bytes_joined : (t : Tree) (a b : List Path) → bytes_at t (a ++ b) ≡ bytes_at t a + bytes_at t b
bytes_joined t a b = sum_by-append (λ q. file_length (t q)) a b

-- the bytes at places before some and at those are at most all
pub bytes_front : (t : Tree) (all front some back : List Path) → all ≡ front ++ (some ++ back) → 2 * bytes_at t front + 2 * bytes_at t some ≤ 2 * bytes_at t all
bytes_front t all front some back is = omega (arith, ap (bytes_at t) is, bytes_joined t front (some ++ back), bytes_joined t some back)

pub bytes_more : (t : Tree) (more front some : List Path) → more ≡ front ++ some → 2 * bytes_at t front + 2 * bytes_at t some ≤ 2 * bytes_at t more
bytes_more t more front some is = omega (arith, ap (bytes_at t) is, bytes_joined t front some)

-- calls that gave at most the bytes at some places twice, and calls that gave at most those at more
pub gave_on : (a b c : Source) (front some all : List Path) → b.tree ≡ a.tree → ForSome a.tree (λ t. GaveAtMost a (2 * bytes_at t front) 0 b) → IfSome b.tree (λ t. GaveAtMost b (2 * bytes_at t some) 0 c)
    → ((t : Tree) → 2 * bytes_at t front + 2 * bytes_at t some ≤ 2 * bytes_at t all) → ForSome a.tree (λ t. GaveAtMost a (2 * bytes_at t all) 0 c)
gave_on a b c front some all same first second fits = λ t told.
    let g = first t told in
    let s = for_some (λ t. GaveAtMost b (2 * bytes_at t some) 0 c) b.tree second t (same ∙ told) in
    record { bytes = omega (arith, g.bytes, s.bytes, fits t); names = omega (arith, g.names, s.names) }

pub gave_front : (a b : Source) (front all : List Path) → ForSome a.tree (λ t. GaveAtMost a (2 * bytes_at t front) 0 b) → ((t : Tree) → 2 * bytes_at t front ≤ 2 * bytes_at t all) → IfSome a.tree (λ t. GaveAtMost a (2 * bytes_at t all) 0 b)
gave_front a b front all first fits = if_some (λ t. GaveAtMost a (2 * bytes_at t all) 0 b) a.tree (λ t told.
    let g = first t told in
    record { bytes = omega (arith, g.bytes, fits t); names = omega (arith, g.names) })

-- the same as a clause
pub gave_end : (a b c : Source) (front some all : List Path) → b.tree ≡ a.tree → ForSome a.tree (λ t. GaveAtMost a (2 * bytes_at t front) 0 b) → IfSome b.tree (λ t. GaveAtMost b (2 * bytes_at t some) 0 c)
    → ((t : Tree) → 2 * bytes_at t front + 2 * bytes_at t some ≤ 2 * bytes_at t all) → IfSome a.tree (λ t. GaveAtMost a (2 * bytes_at t all) 0 c)
gave_end a b c front some all same first second fits = if_some (λ t. GaveAtMost a (2 * bytes_at t all) 0 c) a.tree (gave_on a b c front some all same first second fits)
