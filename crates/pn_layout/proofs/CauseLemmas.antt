-- A layout and its first long path are settled by what the packages have.
use Rattle.std.proofs.Common.{◌≡◌, List, [], ◌∷◌, map, length, arith, refl, sym, ap, ◌∙◌, subst, inl, inr}
use Rattle.std.specs.Prelude.{zip}
use Rattle.std.specs.List.{AllZip, Contains}
use Rattle.std.proofs.lemmas.List.Sorted.{Contains-permutation}
use Rattle.pn_text.specs.Ids.{id_name}
use Rattle.pn_text.specs.Path.{Path}
use Rattle.pn_text.proofs.Members.{from_map, to_map, none_in, in_cons, here, there}
use Rattle.pn_digest.specs.Listing.{Entry}
use Rattle.pn_package.specs.Links.{Pair}
use Rattle.pn_package.specs.Sound.{Contents, contents}
use Rattle.pn_package.specs.declared.packages.Package.{Package}
use Rattle.pn_tree.specs.declared.instance.Instance.{Instance}
use Rattle.pn_layout.specs.Store.{store_of, dir_name}
use Rattle.pn_layout.specs.Listed.{Listed, HasListing, AreOfPackages}
use Rattle.pn_layout.specs.Layout.{marker_text, target_of, instance_of, top_of, layout_of}
use Rattle.pn_layout.specs.Laws.{SameLaw, PassedLaw, CauseLaw}
use Rattle.pn_layout.proofs.AlikeLemmas.{HasPathsOf, HavePathsOf, long_of, one_long, none_long}
use Rattle.pn_layout.proofs.SoundLemmas.{listed_file}

instance_by : Path → Contents × List Entry → Instance
instance_by top x = record { dir = dir_name x.0.id; name = id_name x.0.id; files = x.1; links = map (target_of top) x.0.links }

instances_by : (top : Path) (ps : List Package) (ls : List (List Entry)) → map (instance_of top) (zip ps ls) ≡ map (instance_by top) (zip (map contents ps) ls)
unfolding instance_by
instances_by top [] ls = refl
instances_by top (p ∷ ps) [] = refl
instances_by top (p ∷ ps) (l ∷ ls) = ap (λ gs. instance_of top (p, l) ∷ gs) (instances_by top ps ls)

pub same : SameLaw
same top direct packages others listings e =
    let gs : map (instance_of top) (zip packages listings) ≡ map (instance_of top) (zip others listings) = instances_by top packages listings ∙ ap (λ cs. map (instance_by top) (zip cs listings)) e ∙ sym (instances_by top others listings) in
    λ i. record { store = store_of top; managed = (top, marker_text) ∷ []; instances = gs i; tops = map (top_of top) direct }

first_same : {X : Type 0} (x y : X) (xs ys : List X) → x ∷ xs ≡ y ∷ ys → x ≡ y
first_same x y xs ys e = cc

rest_same : {X : Type 0} (x y : X) (xs ys : List X) → x ∷ xs ≡ y ∷ ys → xs ≡ ys
rest_same x y xs ys e = cc

-- The same package, with another listing.
record IsRelisted (x y : Listed) : Type 0 where
  same : contents x.0 ≡ contents y.0
  left : HasListing x.0 x.1
  right : HasListing y.0 y.1

relisted : (ps os : List Package) (ls rs : List (List Entry)) → map contents ps ≡ map contents os → AllZip HasListing ps ls → AllZip HasListing os rs → (x : Listed) → Contains (zip ps ls) x → (y : Listed) × Contains (zip os rs) y × IsRelisted x y
relisted [] os ls rs e h k x c = absurd (none_in x c)
relisted (p ∷ ps) os [] rs e h k x c = absurd h
relisted (p ∷ ps) [] (l ∷ ls) rs e h k x c = absurd (omega (arith, ap length e))
relisted (p ∷ ps) (o ∷ os) (l ∷ ls) [] e h k x c = absurd k
relisted (p ∷ ps) (o ∷ os) (l ∷ ls) (r ∷ rs) e h k x c = elim (in_cons (p, l) (zip ps ls) x c) [
  | inl one ↦ ((o, r), here (o, r) (zip os rs), subst (λ (z : Listed). IsRelisted z (o, r)) one (record { same = first_same (contents p) (contents o) (map contents ps) (map contents os) e; left = h.0; right = k.0 }))
  | inr more ↦
      let y = relisted ps os ls rs (rest_same (contents p) (contents o) (map contents ps) (map contents os) e) h.1 k.1 x more in
      (y.0, there (o, r) (zip os rs) y.0 y.1, y.2)
]

alike : (top : Path) (x y : Listed) → IsRelisted x y → HasPathsOf (instance_of top x) (instance_of top y)
alike top x y h = record {
  dir = ap (λ (c : Contents). dir_name c.id) h.same;
  name = ap (λ (c : Contents). id_name c.id) h.same;
  files = λ f d c.
      let there = subst (λ (s : Contents). Contains s.files f) h.same (listed_file x.0 x.1 h.left f d c) in
      let e = from_map (λ (e : Entry). e.0) y.1 f (Contains-permutation y.0.files.items (map (λ (e : Entry). e.0) y.1) f h.right.files there) in
      (e.0.1, subst (λ q. Contains y.1 (q, e.0.1)) e.2 e.1);
  links = λ k c. (k, subst (λ (s : Contents). Contains (map (target_of top) s.links) k) h.same c, refl);
}

pub have_paths : (top : Path) (direct : List Pair) (packages others : List Package) (listings relist : List (List Entry)) → map contents packages ≡ map contents others → AreOfPackages packages listings → AreOfPackages others relist
    → HavePathsOf (map (instance_of top) (zip packages listings)) (map (instance_of top) (zip others relist)) (map (top_of top) direct) (map (top_of top) direct)
have_paths top direct packages others listings relist e h k = record {
  instances = λ g c.
      let x = from_map (instance_of top) (zip packages listings) g c in
      let y = relisted packages others listings relist e h.each k.each x.0 x.1 in
      (instance_of top y.0, to_map (instance_of top) (zip others relist) y.0 y.1, subst (λ (a : Instance). HasPathsOf a (instance_of top y.0)) x.2 (alike top x.0 y.0 y.2));
  tops = λ t c. (t, c, refl, refl);
}

pub cause : CauseLaw
cause top direct packages others listings relist size other e h k a b =
    one_long (layout_of top direct packages listings) size other a
    (long_of (store_of top) ((top, marker_text) ∷ []) (map (instance_of top) (zip others relist)) (map (instance_of top) (zip packages listings)) (map (top_of top) direct) (map (top_of top) direct) other
    (have_paths top direct others packages relist listings (sym e) k h) (have_paths top direct packages others listings relist e h k) b)

pub passed : PassedLaw
passed top direct packages others listings relist size e h k fits b =
    none_long (layout_of top direct packages listings) size fits
    (long_of (store_of top) ((top, marker_text) ∷ []) (map (instance_of top) (zip others relist)) (map (instance_of top) (zip packages listings)) (map (top_of top) direct) (map (top_of top) direct) size
    (have_paths top direct others packages relist listings (sym e) k h) (have_paths top direct packages others listings relist e h k) b)
