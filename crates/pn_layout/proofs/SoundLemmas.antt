-- The layout of sound packages is sound.
use Rattle.std.proofs.Common.{◌≡◌, ℕ, List, [], ◌∷◌, map, length, refl, sym, ap, ◌∙◌, subst, true, arith, inl, inr}
use Rattle.std.specs.Prelude.{codes, zip}
use Rattle.std.specs.List.{Contains}
use Rattle.std.proofs.lemmas.List.Sorted.{Contains-permutation, IsPermutation-sym}
use Rattle.pn_text.specs.Path.{Path}
use Rattle.pn_text.specs.Name.{is_name}
use Rattle.pn_text.proofs.Members.{from_map, to_map, in_one, here}
use Rattle.pn_digest.specs.Listing.{Entry}
use Rattle.pn_package.specs.Links.{Id, Pair}
use Rattle.pn_package.specs.Sound.{IsSoundPackage, AreSound, AreSoundLinks}
use Rattle.pn_package.specs.declared.packages.Package.{Package}
use Rattle.pn_tree.specs.declared.instance.Instance.{Instance}
use Rattle.pn_tree.specs.declared.instance.Target.{Target}
use Rattle.pn_tree.specs.declared.instance.Top.{Top}
use Rattle.pn_tree.specs.Sound.{IsSoundInstance, IsSoundTop, IsSoundLayout}
use Rattle.pn_layout.specs.Store.{dir_name}
use Rattle.pn_layout.specs.Listed.{Listed, HasListing, AreOfPackages}
use Rattle.pn_layout.specs.Layout.{marker_text}
use Rattle.pn_layout.specs.Near.{target_to, instance_to, top_to, layout_to}
use Rattle.pn_layout.proofs.Dirs.{one_dir, dir_no_modules, dir_no_marker, dir_is_part, named_id}
use Rattle.pn_layout.proofs.RisingLemmas.{once, zip_all, one_of_id}

-- the package and the listing of an instance
pub of_instance : (lead : Id → Path) (all : List Listed) (g : Instance) → Contains (map (instance_to lead) all) g → (x : Listed) × Contains all x × (instance_to lead x ≡ g)
of_instance lead all g c = from_map (instance_to lead) all g c

pub link_of : (lead : Id → Path) (links : List Pair) (k : Target) → Contains (map (target_to lead) links) k → (l : Pair) × Contains links l × (target_to lead l ≡ k)
link_of lead links k c = from_map (target_to lead) links k c

ones : {X : Type 0} (x y z : X) → Contains (x ∷ []) y → Contains (x ∷ []) z → y ≡ z
ones x y z h k = sym (in_one x y h) ∙ in_one x z k

longer : (top : Path) (x : List ℕ) → top ≡ x ∷ top → ⊥
longer top x e = omega (arith, ap length e)

-- a listed file is one of the package
pub listed_file : (p : Package) (es : List Entry) → HasListing p es → (f : Path) (d : List ℕ) → Contains es (f, d) → Contains p.files.items f
listed_file p es h f d c = Contains-permutation (map (λ (e : Entry). e.0) es) p.files.items f (IsPermutation-sym p.files.items (map (λ (e : Entry). e.0) es) h.files) (to_map (λ (e : Entry). e.0) es (f, d) c)

pub sound_instance : (lead : Id → Path) (x : Listed) → IsSoundPackage x.0 → HasListing x.0 x.1 → IsSoundInstance (instance_to lead x)
sound_instance lead x s h = record {
  part = dir_is_part x.0.id s.id;
  dir = dir_no_modules x.0.id s.id;
  unmarked = dir_no_marker x.0.id s.id;
  name = named_id x.0.id s.id;
  files = h.listing;
  clean = λ f d c. (s.files f (listed_file x.0 x.1 h f d c)).clean;
  links = λ k c. let l = link_of lead x.0.links k c in subst (λ (j : Target). is_name j.name ≡ true) l.2 (s.links.each l.0 l.1).named;
  others = λ k c e. let l = link_of lead x.0.links k c in s.others l.0 l.1 (ap (λ (j : Target). j.name) l.2 ∙ e);
  once = λ j k cj ck e.
      let a = link_of lead x.0.links j cj in
      let b = link_of lead x.0.links k ck in
      let one : a.0 ≡ b.0 = once (λ (l : Pair). l.0) x.0.links s.links.rising a.0 b.0 a.1 b.1 (ap (λ (t : Target). t.name) a.2 ∙ e ∙ sym (ap (λ (t : Target). t.name) b.2)) in
      sym a.2 ∙ ap (target_to lead) one ∙ b.2;
}

pub sound_layout : (lead : Id → Path) (top : Path) (direct : List Pair) (packages : List Package) (listings : List (List Entry)) → AreSoundLinks direct → AreSound packages → AreOfPackages packages listings
    → IsSoundLayout (layout_to lead top direct packages listings)
sound_layout lead top direct packages listings d s h = record {
  apart = λ a b ca cb e. ones top a b ca cb;
  marked = λ a b ca cb e. ones (top, marker_text) a b ca cb;
  store = ((top, marker_text), here (top, marker_text) [], inr refl);
  dirs = λ a b ca cb e.
      let x = of_instance lead (zip packages listings) a ca in
      let y = of_instance lead (zip packages listings) b cb in
      let dirs : dir_name x.0.0.id ≡ dir_name y.0.0.id = ap (λ (g : Instance). g.dir) x.2 ∙ e ∙ sym (ap (λ (g : Instance). g.dir) y.2) in
      let one : x.0 ≡ y.0 = one_of_id packages listings h x.0 y.0 x.1 y.1 (one_dir x.0.0.id y.0.0.id (sound_of x.0 x.1).id (sound_of y.0 y.1).id dirs) in
      sym x.2 ∙ ap (instance_to lead) one ∙ y.2;
  instances = λ g c.
      let x = of_instance lead (zip packages listings) g c in
      subst IsSoundInstance x.2 (sound_instance lead x.0 (sound_of x.0 x.1) (zip_all HasListing packages listings h.each x.0 x.1).1);
  tops = λ t c.
      let l = from_map (top_to lead top) direct t c in
      subst (IsSoundTop (layout_to lead top direct packages listings)) l.2 (record { name = (d.each l.0 l.1).named; holder = inl (here top [], λ e. longer top (codes ".pnpm") e) });
  once = λ t u ct cu holders names.
      let a = from_map (top_to lead top) direct t ct in
      let b = from_map (top_to lead top) direct u cu in
      let one : a.0 ≡ b.0 = once (λ (l : Pair). l.0) direct d.rising a.0 b.0 a.1 b.1 (ap (λ (t : Top). t.name) a.2 ∙ names ∙ sym (ap (λ (t : Top). t.name) b.2)) in
      sym a.2 ∙ ap (top_to lead top) one ∙ b.2;
} where
  sound_of : (x : Listed) → Contains (zip packages listings) x → IsSoundPackage x.0
  sound_of x c = s.each x.0 (zip_all HasListing packages listings h.each x c).0
