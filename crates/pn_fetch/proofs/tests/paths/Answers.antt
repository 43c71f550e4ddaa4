use Rattle.std.proofs.Common.{◌≤◌, ◌++◌, length}
use Rattle.pn_text.specs.Path.{Path, path_text}
use Rattle.pn_text.specs.declared.limits.TheConstants.{PATH_LIMIT}
use Rattle.pn_fetch.proofs.AreListableLemmas.{paths_on}
use Rattle.pn_fetch.proofs.IsListingOfLemmas.{each_more}
use Rattle.pn_fetch.proofs.tests.paths.Goals as goal

pub loop-file-preserved : goal.loop-file-preserved
loop-file-preserved c = record {
  same = paths_on c.args.files.now c.loop-file.file-index c.file-item.result c.loop-file.all.items c.push.new.self.items c.in_ok-path.path c.loop-file-test.true c.file-item.is c.in_ok-push.ensures.items c.loop-file.invariant.same c.in_ok-path.ensures.same;
  short = each_more (λ (f : Path). length (path_text (f ++ c.args.folder.now)) ≤ PATH_LIMIT) c.loop-file.all.items c.push.new.self.items c.in_ok-path.path c.in_ok-push.ensures.items c.loop-file.invariant.short c.in_ok-path.ensures.short;
}
