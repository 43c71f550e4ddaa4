-- Lemmas on what a repair leaves.
use Rattle.std.proofs.Common.{◌≡◌, ℕ, [], ◌++◌, refl, sym, ap, ◌∙◌, arith, Some, None, inl}
use Rattle.std.specs.Prelude.{Option, IfSome}
use Rattle.std.specs.Option.{ForSome}
use Rattle.std.proofs.lemmas.List.{append-nil}
use Rattle.pn_text.specs.Path.{Path}
use Rattle.pn_text.proofs.Results.{for_some, if_some}
use Rattle.pn_fs.specs.Tree.{Entry, Tree}
use Rattle.pn_fs.specs.Seen.{Seen, Keeps, GaveAtMost}
use Rattle.pn_digest.specs.declared.planned.Planned.{Planned}
use Rattle.pn_digest.specs.declared.planned.Planned.TheVariants.{Folder, Bytes, Stored, Link}
use Rattle.pn_repair.specs.Stands.{StandsAs}
use Rattle.pn_repair.specs.Repairs.{DiffersAt, Repaired, HalfRepaired, IsHalf, Touches, TouchesWrong}
use Rattle.pn_repair.specs.Writes.{WroteAt, HasAt, IsAt}

repaired_at : (p : Path) (w : Planned) (old new : Option Tree) → (old ≡ None → new ≡ None) → ForSome old (λ t. (u : Tree) × (new ≡ Some u) × DiffersAt p t u × StandsAs w (u p)) → Repaired (p, w) old new
repaired_at p w None new untold told = untold refl
repaired_at p w (Some t) new untold told = told t refl

pub repaired_right : (p : Path) (w : Planned) (a b : Seen) → Keeps a b → IfSome a.tree (λ t. StandsAs w (t p)) → Repaired (p, w) a.tree b.tree
repaired_right p w a b k right = repaired_at p w a.tree b.tree (λ none. k.tree ∙ none) (λ t told.
    (t, k.tree ∙ told, record { others = λ q out. refl }, for_some (λ t. StandsAs w (t p)) a.tree right t told))

pub repaired_anew : (p : Path) (w : Planned) (a b c : Seen) → Keeps a b → WroteAt p b c → HasAt p (StandsAs w) c.tree → Repaired (p, w) a.tree c.tree
repaired_anew p w a b c k h has = repaired_at p w a.tree c.tree (λ none. h.untold (k.tree ∙ none)) (λ t told.
    let m = h.told t (k.tree ∙ told) in (m.tree, m.is, m.differs, has m.tree m.is))

half_same : (w : Planned) (o : Option Entry) → IsHalf w o o
half_same Folder o = inl refl
half_same (Bytes text) o = inl refl
half_same (Stored d) o = inl refl
half_same (Link text) o = inl refl

pub half_kept : (p : Path) (w : Planned) (a b : Seen) → Keeps a b → HalfRepaired (p, w) a.tree b.tree
half_kept p w a b k t told = (t, k.tree ∙ told, record { others = λ q out. refl }, half_same w (t p))

pub half_anew : (p : Path) (w : Planned) (a b c : Seen) → Keeps a b → WroteAt p b c → IsAt p (IsHalf w) b.tree c.tree → HalfRepaired (p, w) a.tree c.tree
half_anew p w a b c k h half t told = let m = h.told t (k.tree ∙ told) in (m.tree, m.is, m.differs, half t (k.tree ∙ told) m.tree m.is)

pub touches_none : (p : Path) (w : Planned) (a b : Seen) → Keeps a b → Touches (p, w) a b
touches_none p w a b k = if_some (λ t. TouchesWrong (p, w) t a b) a.tree (λ t told. record {
  added = [];
  touched = k.touched ∙ sym (append-nil a.touched);
  alone = λ q h. absurd (omega (arith, h.1));
  wrong = λ right. refl;
})

pub touches_wrong : (p : Path) (w : Planned) (a b c : Seen) → Keeps a b → WroteAt p b c → IfSome a.tree (λ t. StandsAs w (t p) → ⊥) → Touches (p, w) a c
touches_wrong p w a b c k h wrong = if_some (λ t. TouchesWrong (p, w) t a c) a.tree (λ t told.
    let m = h.told t (k.tree ∙ told) in
    record {
      added = m.added;
      touched = m.touched ∙ ap (λ l. l ++ m.added) k.touched;
      alone = m.alone;
      wrong = λ right. absurd (for_some (λ t. StandsAs w (t p) → ⊥) a.tree wrong t told right);
    })

pub gave_then : (p : Path) (n : ℕ) (a b c : Seen) → Keeps a b → IfSome a.tree (λ t. GaveAtMost a n 0 b) → WroteAt p b c → IfSome a.tree (λ t. GaveAtMost a n 0 c)
gave_then p n a b c k gave h = if_some (λ t. GaveAtMost a n 0 c) a.tree (λ t told.
    let g = for_some (λ t. GaveAtMost a n 0 b) a.tree gave t told in
    let m = h.told t (k.tree ∙ told) in
    record { bytes = omega (arith, g.bytes, m.gave.bytes); names = omega (arith, g.names, m.gave.names) })
