use Rattle.pn_lock_make.proofs.GraphLemmas.{package_range, project_range}
use Rattle.pn_lock_make.proofs.catalogs.uses_of.Goals as goal

pub push_uses-requires : goal.push_uses-requires
push_uses-requires c =
    project_range c.args.plain.now c.as_slice-project-items.result.now c.loop-project.project-index c.project-item.result c.as_slice.result.now c.as_slice-project-items.ensures c.loop-project-test.true c.project-item.is
    c.as_slice.ensures

pub push_uses-requires-in-loop-package : goal.push_uses-requires-in-loop-package
push_uses-requires-in-loop-package c =
    package_range c.args.plain.now c.as_slice-package-items.result.now c.loop-package.package-index c.package-item.result c.as_slice-in-loop-package.result.now c.as_slice-package-items.ensures c.loop-package-test.true
    c.package-item.is c.as_slice-in-loop-package.ensures
