use Rattle.std.proofs.Common.{◌≡◌, ◌∷◌, [], ℕ, List, ap, arith, length, sym, subst, ◌∙◌}
use Rattle.std.specs.Prelude.{Option, MatchOption}
use Rattle.pn_text.specs.Path.{Path}
use Rattle.pn_text.proofs.Results.{on_ok, on_err, any_err}
use Rattle.pn_scan.specs.Looks.{AreFolders}
use Rattle.pn_reconcile.specs.Phases.{IsDown, IsHalfDown}
use Rattle.pn_reconcile.proofs.DownLemmas.{above_folders, absent_made, down_made, down_none, free_at, half_of_down, half_of_half, kept_half, kept_made, made_still, stands_made, touches_half, touches_made}
use Rattle.pn_reconcile.proofs.folders.+make_down.Goals as goal

pub returns-then-branch-clause-ok : goal.returns-then-branch-clause-ok
returns-then-branch-clause-ok g t c =
    let s = g.P.ReadFs.seen in
    let p = c.args.path.now in
    made_still (IsDown p) (s c.args.fs.now).tree (s c.is_folder.new.fs).tree c.in_ok-is_folder.ensures.kept.tree
    (λ u told. down_none u p (g.met.P.ReadFs.well_formed c.args.fs.now u told) (stands_made (s c.args.fs.now).tree p c.in_ok-is_folder.field-0 c.if-branch.true c.in_ok-is_folder.ensures.stands u told))

pub make_down-requires : goal.make_down-requires
make_down-requires g t c κs within =
    let at = subst (λ (o : Option Path). MatchOption o (c.args.path.now ≡ []) (λ p. (x : List ℕ) × (c.args.path.now ≡ x ∷ p))) c.in-Some.is c.in_ok-above.ensures.ok in
    (omega (arith, c.decreases, ap length at.1), (within, λ u told. above_folders u at.0 c.in-Some.above (subst (λ q. AreFolders u q) at.1 (c.requires u (sym c.in_ok-is_folder.ensures.kept.tree ∙ told)))))

pub returns-in_err-make_down-clause-err : goal.returns-in_err-make_down-clause-err
returns-in_err-make_down-clause-err g t c =
    let s = g.P.ReadFs.seen in
    let p = c.args.path.now in
    let a = (s c.args.fs.now).tree in
    let at = subst (λ (o : Option Path). MatchOption o (p ≡ []) (λ q. (x : List ℕ) × (p ≡ x ∷ q))) c.in-Some.is c.in_ok-above.ensures.ok in
    any_err c.from_residual-in_err-make_down.result (half_of_half p at.0 c.in-Some.above at.1 a (s c.make_down.new.fs).tree (absent_made a p c.in_ok-is_folder.field-0 c.requires c.if-branch.false c.in_ok-is_folder.ensures.stands)
    (kept_half (IsHalfDown c.in-Some.above) a (s c.is_folder.new.fs).tree (s c.make_down.new.fs).tree c.in_ok-is_folder.ensures.kept.tree c.in_err-make_down.ensures.err))

pub returns-in_err-make_down-clause-touched : goal.returns-in_err-make_down-clause-touched
returns-in_err-make_down-clause-touched g t c =
    let s = g.P.ReadFs.seen in
    let p = c.args.path.now in
    let at = subst (λ (o : Option Path). MatchOption o (p ≡ []) (λ q. (x : List ℕ) × (p ≡ x ∷ q))) c.in-Some.is c.in_ok-above.ensures.ok in
    touches_half p at.0 c.in-Some.above at.1 (s c.args.fs.now) (s c.is_folder.new.fs) (s c.make_down.new.fs) c.in_ok-is_folder.ensures.kept.tree c.in_ok-is_folder.ensures.kept.touched c.make_down.ensures.touched

pub make-requires-2 : goal.make-requires-2
make-requires-2 g t c =
    let s = g.P.ReadFs.seen in
    let p = c.args.path.now in
    let a = (s c.args.fs.now).tree in
    let at = subst (λ (o : Option Path). MatchOption o (p ≡ []) (λ q. (x : List ℕ) × (p ≡ x ∷ q))) c.in-Some.is c.in_ok-above.ensures.ok in
    free_at p at.0 c.in-Some.above at.1 a (s c.make_down.new.fs).tree (absent_made a p c.in_ok-is_folder.field-0 c.requires c.if-branch.false c.in_ok-is_folder.ensures.stands)
    (kept_made (IsDown c.in-Some.above) a (s c.is_folder.new.fs).tree (s c.make_down.new.fs).tree c.in_ok-is_folder.ensures.kept.tree c.in_ok-make_down.ensures.ok)

pub returns-clause-ok : goal.returns-clause-ok
returns-clause-ok g t c =
    let s = g.P.ReadFs.seen in
    let p = c.args.path.now in
    let a = (s c.args.fs.now).tree in
    let b = (s c.make_down.new.fs).tree in
    let at = subst (λ (o : Option Path). MatchOption o (p ≡ []) (λ q. (x : List ℕ) × (p ≡ x ∷ q))) c.in-Some.is c.in_ok-above.ensures.ok in
    on_ok c.make-2.result (down_made p at.0 c.in-Some.above at.1 a b (absent_made a p c.in_ok-is_folder.field-0 c.requires c.if-branch.false c.in_ok-is_folder.ensures.stands) (s c.make-2.new.fs).tree
    (kept_made (IsDown c.in-Some.above) a (s c.is_folder.new.fs).tree b c.in_ok-is_folder.ensures.kept.tree c.in_ok-make_down.ensures.ok)) c.make-2.ensures.ok

pub returns-clause-err : goal.returns-clause-err
returns-clause-err g t c =
    let s = g.P.ReadFs.seen in
    let p = c.args.path.now in
    let a = (s c.args.fs.now).tree in
    let b = (s c.make_down.new.fs).tree in
    let at = subst (λ (o : Option Path). MatchOption o (p ≡ []) (λ q. (x : List ℕ) × (p ≡ x ∷ q))) c.in-Some.is c.in_ok-above.ensures.ok in
    on_err c.make-2.result (half_of_down p at.0 c.in-Some.above at.1 a b (absent_made a p c.in_ok-is_folder.field-0 c.requires c.if-branch.false c.in_ok-is_folder.ensures.stands) (s c.make-2.new.fs).tree
    (kept_made (IsDown c.in-Some.above) a (s c.is_folder.new.fs).tree b c.in_ok-is_folder.ensures.kept.tree c.in_ok-make_down.ensures.ok)) c.make-2.ensures.err

pub returns-clause-touched : goal.returns-clause-touched
returns-clause-touched g t c =
    let s = g.P.ReadFs.seen in
    let p = c.args.path.now in
    let at = subst (λ (o : Option Path). MatchOption o (p ≡ []) (λ q. (x : List ℕ) × (p ≡ x ∷ q))) c.in-Some.is c.in_ok-above.ensures.ok in
    touches_made p at.0 c.in-Some.above at.1 (s c.args.fs.now) (s c.is_folder.new.fs) (s c.make_down.new.fs) (s c.make-2.new.fs) c.in_ok-is_folder.ensures.kept.tree c.in_ok-is_folder.ensures.kept.touched
    (absent_made (s c.args.fs.now).tree p c.in_ok-is_folder.field-0 c.requires c.if-branch.false c.in_ok-is_folder.ensures.stands) c.in_ok-make_down.ensures.ok c.make_down.ensures.touched c.make-2.ensures.touched
