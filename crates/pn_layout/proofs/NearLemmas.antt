-- Where no path is too long the links lead to the package folders; and where links lead doesn't matter for paths.
use Rattle.std.proofs.Common.{◌≡◌, ◌≤◌, ◌<◌, ℕ, List, [], ◌∷◌, map, length, refl, sym, ap, ◌∙◌, subst, true, false, arith, Ok, Err}
use Rattle.std.specs.Prelude.{nat_lt, zip, if◌then◌else◌, Result, IfOk, OnOk}
use Rattle.std.specs.List.{Contains}
use Rattle.std.proofs.lemmas.Bool.{ltb-true}
use Rattle.pn_text.specs.declared.limits.TheConstants.{PATH_LIMIT}
use Rattle.pn_text.specs.Path.{Path, path_text}
use Rattle.pn_text.proofs.Members.{from_map, to_map, here, there}
use Rattle.pn_digest.specs.Listing.{Entry}
use Rattle.pn_digest.specs.declared.planned.Planned.TheVariants.{Folder}
use Rattle.pn_package.specs.Links.{Id, Pair}
use Rattle.pn_package.specs.Sound.{IsAmong, AreWhole}
use Rattle.pn_package.specs.declared.packages.Package.{Package}
use Rattle.pn_tree.specs.declared.instance.Instance.{Instance}
use Rattle.pn_tree.specs.declared.instance.Target.{Target}
use Rattle.pn_tree.specs.declared.instance.Top.{Top}
use Rattle.pn_tree.specs.Trees.{Managed, Layout, laid, own, leaf}
use Rattle.pn_tree.specs.Refusals.{IsTooLong, LayoutRefused}
use Rattle.pn_tree.specs.declared.fault.LayoutFault.{LayoutFault}
use Rattle.pn_tree.specs.declared.fault.LayoutFault.TheVariants.{TooLong, Memory as no_memory}
use Rattle.pn_layout.specs.Store.{store_of, home_of}
use Rattle.pn_layout.specs.Listed.{Listed, HasListing, AreOfPackages}
use Rattle.pn_layout.specs.Layout.{marker_text, layout_of, Fits}
use Rattle.pn_layout.specs.Near.{near_home, target_to, instance_to, top_to, layout_to}
use Rattle.pn_layout.proofs.AlikeLemmas.{HasPathsOf, HavePathsOf, long_of}
use Rattle.pn_layout.proofs.RisingLemmas.{zip_all, zip_has}

module _ (lead other : Id → Path) (top : Path) where
  alike : (x : Listed) → HasPathsOf (instance_to lead x) (instance_to other x)
  alike x = record {
    dir = refl;
    name = refl;
    files = λ f d c. (d, c);
    links = λ k c.
        let l = from_map (target_to lead) x.0.links k c in
        (target_to other l.0, to_map (target_to other) x.0.links l.0 l.1, sym (ap (λ (j : Target). j.name) l.2));
  }

  pub alike_to : (direct : List Pair) (all : List Listed) → HavePathsOf (map (instance_to lead) all) (map (instance_to other) all) (map (top_to lead top) direct) (map (top_to other top) direct)
  alike_to direct all = record {
    instances = λ g c.
        let x = from_map (instance_to lead) all g c in
        (instance_to other x.0, to_map (instance_to other) all x.0 x.1, subst (λ h. HasPathsOf h (instance_to other x.0)) x.2 (alike x.0));
    tops = λ t c.
        let l = from_map (top_to lead top) direct t c in
        (top_to other top l.0, to_map (top_to other top) direct l.0 l.1, sym (ap (λ (u : Top). u.holder) l.2), sym (ap (λ (u : Top). u.name) l.2));
  }

-- the first path that is too long doesn't depend on where links lead
pub long_to : (lead other : Id → Path) (top : Path) (direct : List Pair) (packages : List Package) (listings : List (List Entry)) (n : ℕ) → IsTooLong (layout_to lead top direct packages listings) n → IsTooLong (layout_to other top direct packages listings) n
long_to lead other top direct packages listings n h =
    long_of (store_of top) ((top, marker_text) ∷ []) (map (instance_to lead) (zip packages listings)) (map (instance_to other) (zip packages listings)) (map (top_to lead top) direct) (map (top_to other top) direct) n
    (alike_to lead other top direct (zip packages listings)) (alike_to other lead top direct (zip packages listings)) h

map_same : {X Y : Type 0} (f g : X → Y) (xs : List X) → ((x : X) → Contains xs x → f x ≡ g x) → map f xs ≡ map g xs
map_same f g [] h = refl
map_same f g (x ∷ xs) h =
    let first = h x (here x xs) in
    let rest = map_same f g xs (λ y c. h y (there x xs y c)) in
    λ i. first i ∷ rest i

-- links that lead to one folder each
pub same_lead : (lead other : Id → Path) (top : Path) (direct : List Pair) (packages : List Package) (listings : List (List Entry)) → AreWhole direct packages → AreOfPackages packages listings
    → ((p : Package) → Contains packages p → lead p.id ≡ other p.id) → layout_to lead top direct packages listings ≡ layout_to other top direct packages listings
same_lead lead other top direct packages listings whole h one =
    let gs = map_same (instance_to lead) (instance_to other) (zip packages listings) (λ x c. same_instance x (zip_all HasListing packages listings h.each x c).0) in
    let ts = map_same (top_to lead top) (top_to other top) direct (λ l c. λ i. record { holder = top; name = l.0; to = same_id l.1 (whole.project l c) i }) in
    λ i. record { store = store_of top; managed = (top, marker_text) ∷ []; instances = gs i; tops = ts i } where
      same_id : (id : Id) → IsAmong packages id → lead id ≡ other id
      same_id id a = ap lead (sym a.2) ∙ one a.0 a.1 ∙ ap other a.2

      same_instance : (x : Listed) → Contains packages x.0 → instance_to lead x ≡ instance_to other x
      same_instance x c =
          let ls = map_same (target_to lead) (target_to other) x.0.links (λ l k. λ i. record { name = l.0; to = same_id l.1 (whole.others x.0 l c k) i }) in
          λ i. record { dir = (instance_to lead x).dir; name = (instance_to lead x).name; files = x.1; links = ls i }

pub near_short : (top : Path) (id : Id) → length (path_text (home_of top id)) ≤ PATH_LIMIT → near_home top id ≡ home_of top id
near_short top id h = elim (nat_lt PATH_LIMIT (length (path_text (home_of top id)))) as (λ b. nat_lt PATH_LIMIT (length (path_text (home_of top id))) ≡ b → (if b then top else home_of top id) ≡ home_of top id) [
  | true ↦ λ is. let long : PATH_LIMIT < length (path_text (home_of top id)) = ltb-true PATH_LIMIT (length (path_text (home_of top id))) is in absurd (omega (arith, long, h))
  | false ↦ λ is. refl
] refl

-- where no path is too long, each link leads to a package folder
pub near_is : (top : Path) (direct : List Pair) (packages : List Package) (listings : List (List Entry)) → AreWhole direct packages → AreOfPackages packages listings → Fits (layout_to (near_home top) top direct packages listings)
    → layout_to (near_home top) top direct packages listings ≡ layout_of top direct packages listings
near_is top direct packages listings whole h fits = same_lead (near_home top) (home_of top) top direct packages listings whole h (λ p c.
    let x = zip_has HasListing packages listings h.each p c in
    let g = instance_to (near_home top) (p, x.0) in
    near_short top p.id (fits (home_of top p.id) Folder (leaf (home_of top p.id) Folder (own g (to_map (instance_to (near_home top)) (zip packages listings) (p, x.0) x.1)))))

-- the parts of the layout, as they were made
pub laid_is : (top store : Path) (ms : List Managed) (gs : List Instance) (ts : List Top) (direct pairs : List Pair) (packages : List Package) (listings : List (List Entry)) → store ≡ store_of top → ms ≡ (top, marker_text) ∷ []
    → gs ≡ map (instance_to (near_home top)) (zip packages listings) → ts ≡ map (top_to (near_home top) top) pairs → pairs ≡ direct → laid store ms gs ts ≡ layout_to (near_home top) top direct packages listings
laid_is top store ms gs ts direct pairs packages listings s m g t p =
    let tops : ts ≡ map (top_to (near_home top) top) direct = t ∙ ap (map (top_to (near_home top) top)) p in
    λ i. record { store = s i; managed = m i; instances = g i; tops = tops i }

-- Where no path of the layout that was made is too long it is that of the install.
pub fits_is : (top : Path) (l : Layout) (direct : List Pair) (packages : List Package) (listings : List (List Entry)) → AreWhole direct packages → AreOfPackages packages listings → l ≡ layout_to (near_home top) top direct packages listings → Fits l
    → l ≡ layout_of top direct packages listings
fits_is top l direct packages listings whole h e fits = e ∙ near_is top direct packages listings whole h (subst Fits e fits)

pub refused_near : (top : Path) (l : Layout) (direct : List Pair) (packages : List Package) (listings : List (List Entry)) → l ≡ layout_to (near_home top) top direct packages listings → (fault : LayoutFault) → LayoutRefused l fault
    → LayoutRefused (layout_of top direct packages listings) fault
refused_near top l direct packages listings e (TooLong n) h = long_to (near_home top) (home_of top) top direct packages listings n (subst (λ l. IsTooLong l n) e h)
refused_near top l direct packages listings e no_memory h = tt

pub ok_with : {T E A : Type 0} {P Q : T → Type 0} (r : Result T E) → (A → (v : T) → P v → Q v) → OnOk r A → IfOk r P → IfOk r Q
ok_with (Ok v) f a h = f a v h
ok_with (Err e) f a h = tt
