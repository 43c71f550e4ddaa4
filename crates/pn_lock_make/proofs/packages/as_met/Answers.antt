use Rattle.std.proofs.Common.{◌≡◌, ◌<◌, ◌∙◌, [], ◌∷◌, ◌+◌, ap, arith, length, drop, get_or, suc, sym}
use Rattle.std.proofs.lemmas.List.{get_or_default}
use Rattle.pn_lock.specs.declared.lists.LockPackage.{LockPackage}
use Rattle.pn_lock_make.specs.Packages.{package_of, packages_from}
use Rattle.pn_lock_make.specs.Names.{IsNamedPackage}
use Rattle.pn_lock_make.proofs.StepLemmas.{all_more, numbered_step}
use Rattle.pn_lock_make.proofs.packages.as_met.Goals as goal

pub loop-n-preserved : goal.loop-n-preserved
loop-n-preserved c =
    let integrities = c.args.integrities.now in
    let packages = c.args.packages.now in
    let n = c.loop-n.n in
    let q = c.index-packages-n.result in
    let found = c.index-integrities-n.result in
    let within : n < length packages = c.loop-n-test.true in
    let few : length integrities ≡ length packages = c.requires in
    let low : n < length integrities = omega (arith, within, few) in
    let one : c.in_ok-one.one ≡ package_of q (get_or integrities n []) =
    c.in_ok-one.ensures.made ∙ ap (package_of q) (c.index-integrities-n.is ∙ get_or_default integrities n found [] low) in
    record {
      made = numbered_step (packages_from integrities) packages n q c.in_ok-one.one c.loop-n.all.items c.push.new.self.items (packages_from integrities 0 packages) within c.index-packages-n.is
          (ap (λ (p : LockPackage). p ∷ packages_from integrities (suc n) (drop (n + 1) packages)) (sym one)) c.in_ok-push.ensures.items c.loop-n.invariant.made;
      named = all_more IsNamedPackage c.loop-n.all.items c.push.new.self.items c.in_ok-one.one c.in_ok-push.ensures.items c.loop-n.invariant.named c.in_ok-one.ensures.named;
    }
