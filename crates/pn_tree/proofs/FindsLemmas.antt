-- What the folders of an install find.
use Rattle.std.proofs.Common.{◌≡◌, ◌∙◌, ap, sym, subst, inl, inr, ℕ, List, Some}
use Rattle.std.specs.List.{Contains}
use Rattle.pn_text.specs.Path.{Path}
use Rattle.pn_text.proofs.Members.{from_map, to_map}
use Rattle.pn_fs.specs.Tree.{folder, Tree}
use Rattle.pn_node.specs.Finds.{Finds, LeadsToFolders}
use Rattle.pn_node.specs.Plan.{IsBuilt, planned, own}
use Rattle.pn_node.proofs.Laws.{lookup, top_lookup}
use Rattle.pn_tree.specs.declared.instance.Instance.{Instance}
use Rattle.pn_tree.specs.declared.instance.Target.{Target}
use Rattle.pn_tree.specs.Trees.{Layout, home, built_instance, built_top, build_of}
use Rattle.pn_tree.specs.Laws.{AreWhole, FindsOwn, FindsLaw}
use Rattle.pn_tree.proofs.SoundLemmas.{of_instance, link_from}

home_stands : (u : Tree) (l : Layout) → IsBuilt u (build_of u l) → (h : Instance) → Contains l.instances h → u (home l.store h) ≡ Some folder
home_stands u l built h c = built.all (home l.store h) folder (planned (home l.store h) folder (own (built_instance u l.store h) (to_map (built_instance u l.store) l.instances h c)))

leads : (u : Tree) (l : Layout) → IsBuilt u (build_of u l) → AreWhole u l → LeadsToFolders u (build_of u l)
leads u l built whole = record {
  links = λ b x to c xc.
      let g = of_instance u l b c in
      let k = link_from u l g.0 x to (subst (λ y. Contains y.links (x, to)) (sym g.2) xc) in
      elim (whole.links g.0 k.0 g.1 k.1) [
        | inl h ↦ ap u (sym k.3 ∙ h.2) ∙ home_stands u l built h.0 h.1
        | inr stands ↦ ap u (sym k.3) ∙ stands
      ];
  tops = λ b c.
      let t = from_map built_top l.tops b c in
      subst (λ b. u b.target ≡ Some folder) t.2 (elim (whole.tops t.0 t.1) [
        | inl h ↦ ap u h.2 ∙ home_stands u l built h.0 h.1
        | inr stands ↦ stands
      ]);
}

finds_own : (u : Tree) (l : Layout) (g : Instance) (from : Path) → Finds u (build_of u l) (built_instance u l.store g) from → FindsOwn u l g from
finds_own u l g from h = record {
  own = h.own;
  dependency = λ k c. h.dependency k.name k.to (to_map (λ (k : Target). let b : List ℕ × Path = (k.name, k.to) in b) g.links k c);
  other = λ x named not_own not_linked. h.other x named not_own (λ to c. let k = link_from u l g x to c in not_linked k.0 k.1 k.2);
}

pub finds : FindsLaw
finds u l tree sound whole built =
    let lead = leads u l built whole in
    record {
      inside = λ g inner c here. finds_own u l g _ (lookup u (build_of u l) (built_instance u l.store g) inner tree built sound lead (to_map (built_instance u l.store) l.instances g c) here);
      tops = λ t place c holder other. top_lookup u (build_of u l) (built_top t) place tree built sound lead (to_map built_top l.tops t c) holder other;
    }
