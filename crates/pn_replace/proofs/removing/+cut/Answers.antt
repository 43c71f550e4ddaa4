use Rattle.std.proofs.Common.{◌∷◌, ◌∙◌, ◌≡◌, ap, arith, length}
use Rattle.std.proofs.lemmas.List.{drop_all}
use Rattle.pn_replace.proofs.RemovesLemmas.{begins, child_is, child_short, cuts_both, cuts_inner, cuts_none, cuts_of, can_remove_empty, one_more}
use Rattle.pn_replace.proofs.removing.+cut.Goals as goal

pub names-init : goal.names-init
names-init g t c =
    let s = g.P.ReadFs.seen in
    let a = s c.args.fs.now in
    let b = s c.kind.new.self in
    let d = s c.list.new.self in
    record {
      untold = λ none. c.list.ensures.kept.tree ∙ c.kind.ensures.kept.tree ∙ none;
      cutting = begins c.args.path.now _ _ c.in_ok-kind.field-0 a b d c.in-Folder.is c.in_ok-kind.ensures.kind c.kind.ensures.kept c.list.ensures.kept c.in_ok-names-in-Folder.ensures.names c.deref-name-items.ensures.value;
      later = omega (arith, c.list.ensures.kept.later, c.kind.ensures.kept.later);
    }

pub returns-in_err-inner-in-Folder-clause-cuts : goal.returns-in_err-inner-in-Folder-clause-cuts
returns-in_err-inner-in-Folder-clause-cuts g t c =
    let inv = c.names.invariant in
    cuts_of c.args.path.now _ (g.P.ReadFs.seen c.args.fs.now) (g.P.ReadFs.seen c.names.fs) inv.untold inv.cutting

pub cut-requires : goal.cut-requires
cut-requires g t c κs within =
    let x = c.name-item.result in
    let p = c.args.path.now in
    let at : c.in_ok-inner-in-Folder.inner ≡ x ∷ p = child_is c.name-item.result c.as_str.result.now p c.in_ok-inner-in-Folder.inner c.in_ok-inner-in-Folder.ensures.path c.as_str.ensures in
    let short = child_short p c.deref-name-items.result.now _ c.names.name-index x c.in_ok-names-in-Folder.ensures.good c.deref-name-items.ensures.value c.names-test.true c.name-item.is in
    (omega (arith, c.decreases, ap length at, short), (within, λ empty. cc (at, empty)))

pub returns-in_err-cut-in-Folder-clause-cuts : goal.returns-in_err-cut-in-Folder-clause-cuts
returns-in_err-cut-in-Folder-clause-cuts g t c =
    let s = g.P.ReadFs.seen in
    let inv = c.names.invariant in
    let p = c.args.path.now in
    let at : c.in_ok-inner-in-Folder.inner ≡ c.name-item.result ∷ p = child_is c.name-item.result c.as_str.result.now p c.in_ok-inner-in-Folder.inner c.in_ok-inner-in-Folder.ensures.path c.as_str.ensures in
    cuts_both p (s c.args.fs.now) (s c.names.fs) (s c.cut.new.fs) (cuts_of p _ (s c.args.fs.now) (s c.names.fs) inv.untold inv.cutting)
    (cuts_inner c.name-item.result p c.in_ok-inner-in-Folder.inner (s c.names.fs) (s c.cut.new.fs) at c.cut.ensures.cuts)

pub names-preserved : goal.names-preserved
names-preserved g t c =
    let s = g.P.ReadFs.seen in
    let inv = c.names.invariant in
    let p = c.args.path.now in
    let at : c.in_ok-inner-in-Folder.inner ≡ c.name-item.result ∷ p = child_is c.name-item.result c.as_str.result.now p c.in_ok-inner-in-Folder.inner c.in_ok-inner-in-Folder.ensures.path c.as_str.ensures in
    record {
      untold = λ none. c.cut.ensures.cuts.untold (inv.untold none);
      cutting = one_more p c.deref-name-items.result.now c.names.name-index c.name-item.result c.in_ok-inner-in-Folder.inner (s c.args.fs.now) (s c.names.fs) (s c.cut.new.fs) c.names-test.true c.name-item.is at inv.cutting c.cut.ensures.cuts c.in_ok-cut-in-Folder.ensures.gone;
      later = omega (arith, inv.later, c.cut.ensures.cause.later);
    }

pub remove-requires-in-Folder : goal.remove-requires-in-Folder
remove-requires-in-Folder g t c =
    let s = g.P.ReadFs.seen in
    let inv = c.names.invariant in
    can_remove_empty c.args.path.now _ (s c.args.fs.now) (s c.names.fs) c.requires (drop_all c.names.name-index c.deref-name-items.result.now (omega (arith, c.names-test.false))) inv.untold inv.cutting

pub returns-in-File-clause-cuts : goal.returns-in-File-clause-cuts
returns-in-File-clause-cuts g t c =
    let s = g.P.ReadFs.seen in
    cuts_both c.args.path.now (s c.args.fs.now) (s c.kind.new.self) (s c.remove.new.fs) (cuts_none c.args.path.now (s c.args.fs.now) (s c.kind.new.self) c.kind.ensures.kept.tree c.kind.ensures.kept.touched) c.remove.ensures.cuts

pub returns-in-Link-clause-cuts : goal.returns-in-Link-clause-cuts
returns-in-Link-clause-cuts g t c =
    let s = g.P.ReadFs.seen in
    cuts_both c.args.path.now (s c.args.fs.now) (s c.kind.new.self) (s c.remove-in-Link.new.fs) (cuts_none c.args.path.now (s c.args.fs.now) (s c.kind.new.self) c.kind.ensures.kept.tree c.kind.ensures.kept.touched) c.remove-in-Link.ensures.cuts

pub returns-after-names-clause-cuts : goal.returns-after-names-clause-cuts
returns-after-names-clause-cuts g t c =
    let s = g.P.ReadFs.seen in
    let inv = c.names.invariant in
    let p = c.args.path.now in
    cuts_both p (s c.args.fs.now) (s c.names.fs) (s c.remove-in-Folder.new.fs) (cuts_of p _ (s c.args.fs.now) (s c.names.fs) inv.untold inv.cutting) c.remove-in-Folder.ensures.cuts
