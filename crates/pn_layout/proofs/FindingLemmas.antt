-- What an installed tree is.
use Rattle.std.proofs.Common.{◌≡◌, List, ◌++◌, map, sym, ap, ◌∙◌, subst, inl}
use Rattle.std.specs.Prelude.{zip}
use Rattle.std.specs.List.{Contains}
use Rattle.pn_text.specs.Path.{Path}
use Rattle.pn_text.proofs.Members.{from_map, to_map}
use Rattle.pn_fs.specs.Tree.{Tree}
use Rattle.pn_digest.specs.Listing.{Entry}
use Rattle.pn_digest.specs.declared.planned.Planned.TheVariants.{Stored}
use Rattle.pn_package.specs.Links.{Id, Pair}
use Rattle.pn_package.specs.Sound.{IsAmong, AreWhole}
use Rattle.pn_package.specs.declared.packages.Package.{Package}
use Rattle.pn_tree.specs.declared.instance.Instance.{Instance}
use Rattle.pn_tree.specs.declared.instance.Target.{Target}
use Rattle.pn_tree.specs.declared.instance.Top.{Top}
use Rattle.pn_tree.specs.Trees.{home, content, leaf}
use Rattle.pn_tree.specs.Laws as tree
use Rattle.pn_tree.proofs.BuiltLemmas.{built}
use Rattle.pn_tree.proofs.FindsLemmas.{finds as tree_finds}
use Rattle.pn_tree.proofs.SoundLemmas.{sound}
use Rattle.pn_layout.specs.Store.{store_of, home_of}
use Rattle.pn_layout.specs.Listed.{Listed, HasListing, AreOfPackages}
use Rattle.pn_layout.specs.Layout.{target_of, instance_of, top_of, layout_of}
use Rattle.pn_layout.specs.Laws.{FindsOwn, FindsLaw, HoldsFiles, HeldLaw}
use Rattle.pn_layout.proofs.RisingLemmas.{zip_all, zip_has, all_zipped}
use Rattle.pn_layout.proofs.SoundLemmas.{sound_layout}

-- the package folder of a package is that of an instance
home_among : (top : Path) (packages : List Package) (listings : List (List Entry)) → AreOfPackages packages listings → (id : Id) → IsAmong packages id
    → (h : Instance) × Contains (map (instance_of top) (zip packages listings)) h × (home_of top id ≡ home (store_of top) h)
home_among top packages listings listed id among =
    let x = zip_has HasListing packages listings listed.each among.0 among.1 in
    (instance_of top (among.0, x.0), to_map (instance_of top) (zip packages listings) (among.0, x.0) x.1, ap (home_of top) (sym among.2))

-- each link leads to one
whole_tree : (u : Tree) (top : Path) (direct : List Pair) (packages : List Package) (listings : List (List Entry)) → AreOfPackages packages listings → AreWhole direct packages → tree.AreWhole u (layout_of top direct packages listings)
whole_tree u top direct packages listings listed whole = record {
  links = λ g k gc kc.
      let x = from_map (instance_of top) (zip packages listings) g gc in
      let l = from_map (target_of top) x.0.0.links k (subst (λ (h : Instance). Contains h.links k) (sym x.2) kc) in
      let h = home_among top packages listings listed l.0.1 (whole.others x.0.0 l.0 (zip_all HasListing packages listings listed.each x.0 x.1).0 l.1) in
      inl (h.0, h.1, sym (ap (λ (j : Target). j.to) l.2) ∙ h.2);
  tops = λ t c.
      let l = from_map (top_of top) direct t c in
      let h = home_among top packages listings listed l.0.1 (whole.project l.0 l.1) in
      inl (h.0, h.1, sym (ap (λ (u : Top). u.to) l.2) ∙ h.2);
}

-- what an instance's folder finds, said of its package
finds_own : (u : Tree) (top : Path) (direct : List Pair) (packages : List Package) (listings : List (List Entry)) (x : Listed) (from : Path) → tree.FindsOwn u (layout_of top direct packages listings) (instance_of top x) from → FindsOwn u top x.0 from
finds_own u top direct packages listings x from h = record {
  own = h.own;
  dependency = λ l c. h.dependency (target_of top l) (to_map (target_of top) x.0.links l c);
  other = λ n named not_own not_linked. h.other n named not_own (λ k c e. let l = from_map (target_of top) x.0.links k c in not_linked l.0 l.1 (ap (λ (j : Target). j.name) l.2 ∙ e));
}

pub finds : FindsLaw
finds u top direct packages listings tree_is direct_sound packages_sound listed whole h =
    let l = layout_of top direct packages listings in
    let good = sound_layout (home_of top) top direct packages listings direct_sound packages_sound listed in
    let all = tree_finds u l tree_is (sound u l good) (whole_tree u top direct packages listings listed whole) (built l h.plan u h.entries h.has) in
    record {
      inside = λ p inner c here.
          let x = zip_has HasListing packages listings listed.each p c in
          finds_own u top direct packages listings (p, x.0) (inner ++ home_of top p.id) (all.inside (instance_of top (p, x.0)) inner (to_map (instance_of top) (zip packages listings) (p, x.0) x.1) here);
      project = λ place d holder other c. all.tops (top_of top d) place (to_map (top_of top) direct d c) holder other;
    }

-- the files of the packages stand
pub held : HeldLaw
held u top direct packages listings listed h = all_zipped HasListing (HoldsFiles u top) packages listings listed.each (λ x c f d fc.
    let g = instance_of top x in
    let q = f ++ home_of top x.0.id in
    h.has.planned (q, Stored d) ((h.entries q (Stored d)).1 (leaf q (Stored d) (content g f d (to_map (instance_of top) (zip packages listings) x c) fc))))
