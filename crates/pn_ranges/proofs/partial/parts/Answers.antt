use Rattle.std.proofs.Common.{refl}
use Rattle.pn_ranges.proofs.OverProofs.{one-placed, two-placed, three-placed}
use Rattle.pn_ranges.proofs.Partials.{one-partial, two-partial, three-partial}
use Rattle.pn_ranges.proofs.Inside.{byte-inside, exit_inside, part-inside}
use Rattle.pn_ranges.proofs.partial.parts.Goals as goal

pub returns-in_default-clause-read : goal.returns-in_default-clause-read
returns-in_default-clause-read c = one-partial _ _ _ _ c.split_at.ensures.front c.in_ok-major.ensures.read

pub returns-in_default-strip-clause-read : goal.returns-in_default-strip-clause-read
returns-in_default-strip-clause-read c = two-partial _ _ _ _ _ _ _ c.split_at.ensures.front c.in_ok-major.ensures.read c.in-Some.ensures c.in_ok-minor.ensures.read

pub returns-clause-read : goal.returns-clause-read
returns-clause-read c = three-partial _ _ _ _ _ _ _ _ _ _ _ c.in_ok-major.ensures.read c.in-Some.ensures c.in_ok-minor.ensures.read c.in-Some-strip.ensures c.in_ok-patch.ensures.read c.in_ok-pre.ensures.read

pub returns-in_default-clause-places : goal.returns-in_default-clause-places
returns-in_default-clause-places c = one-placed _ _ _ _ _ c.split_at.ensures.front c.in_ok-major.ensures.read refl

pub returns-in_default-strip-clause-places : goal.returns-in_default-strip-clause-places
returns-in_default-strip-clause-places c = two-placed _ _ _ _ _ _ _ _ c.split_at.ensures.front c.in_ok-major.ensures.read c.in-Some.ensures c.in_ok-minor.ensures.read refl refl

pub returns-clause-places : goal.returns-clause-places
returns-clause-places c = three-placed _ _ _ _ _ _ _ _ _ _ _ _ c.in_ok-major.ensures.read c.in-Some.ensures c.in_ok-minor.ensures.read c.in-Some-strip.ensures c.in_ok-patch.ensures.read c.in_ok-pre.ensures.read refl refl refl

pub returns-in_err-minor-clause-inside : goal.returns-in_err-minor-clause-inside
returns-in_err-minor-clause-inside c = exit_inside c.args.text.now _ _ c.from_residual-in_err-minor.ensures.1
    (part-inside c.args.text.now c.in_ok-major.after_major.now c.in_ok-major.major _ c.in_ok-major.ensures.read
    (byte-inside c.in_ok-major.after_major.now c.in-Some.minor_text.now 46 _ c.in-Some.ensures refl c.in_err-minor.ensures.inside))

pub returns-in_err-patch-clause-inside : goal.returns-in_err-patch-clause-inside
returns-in_err-patch-clause-inside c = exit_inside c.args.text.now _ _ c.from_residual-in_err-patch.ensures.1
    (part-inside c.args.text.now c.in_ok-major.after_major.now c.in_ok-major.major _ c.in_ok-major.ensures.read
    (byte-inside c.in_ok-major.after_major.now c.in-Some.minor_text.now 46 _ c.in-Some.ensures refl
    (part-inside c.in-Some.minor_text.now c.in_ok-minor.after_minor.now c.in_ok-minor.minor _ c.in_ok-minor.ensures.read
    (byte-inside c.in_ok-minor.after_minor.now c.in-Some-strip.patch_text.now 46 _ c.in-Some-strip.ensures refl c.in_err-patch.ensures.inside))))

pub returns-in_err-pre-clause-inside : goal.returns-in_err-pre-clause-inside
returns-in_err-pre-clause-inside c = exit_inside c.args.text.now _ _ c.from_residual-in_err-pre.ensures.1
    (part-inside c.args.text.now c.in_ok-major.after_major.now c.in_ok-major.major _ c.in_ok-major.ensures.read
    (byte-inside c.in_ok-major.after_major.now c.in-Some.minor_text.now 46 _ c.in-Some.ensures refl
    (part-inside c.in-Some.minor_text.now c.in_ok-minor.after_minor.now c.in_ok-minor.minor _ c.in_ok-minor.ensures.read
    (byte-inside c.in_ok-minor.after_minor.now c.in-Some-strip.patch_text.now 46 _ c.in-Some-strip.ensures refl
    (part-inside c.in-Some-strip.patch_text.now c.in_ok-patch.after_patch.now c.in_ok-patch.patch _ c.in_ok-patch.ensures.read c.in_err-pre.ensures.inside)))))
