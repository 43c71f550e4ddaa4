use Rattle.std.proofs.Common.{◌≡◌, ◌<◌, ◌∙◌, ◌∷◌, ◌+◌, List, ap, arith, length, drop, suc, sym}
use Rattle.pn_instances.specs.declared.links.Link.{Link}
use Rattle.pn_instances.specs.Lookups.{links_at}
use Rattle.pn_lock.specs.declared.lists.LockImporter.{LockImporter}
use Rattle.pn_lock_make.specs.Importers.{importer_of, importers_from}
use Rattle.pn_lock_make.specs.Names.{IsNamedImporter}
use Rattle.pn_lock_make.proofs.ImporterLemmas.{links_item}
use Rattle.pn_lock_make.proofs.StepLemmas.{all_more, numbered_step}
use Rattle.pn_lock_make.proofs.importers.importers.Goals as goal

pub loop-n-preserved : goal.loop-n-preserved
loop-n-preserved c =
    let ranks = c.args.ranks.now in
    let roots = c.args.roots.now in
    let projects = c.args.projects.now in
    let n = c.loop-n.n in
    let q = c.index-projects-n.result in
    let within : n < length projects = c.loop-n-test.true in
    let few : length projects ≡ length roots = c.requires.count in
    let low : n < length roots = omega (arith, within, few) in
    let one : c.in_ok-one.one ≡ importer_of ranks (links_at roots n) q =
    c.in_ok-one.ensures.made ∙ ap (λ (links : List Link). importer_of ranks links q) (c.as_slice.ensures ∙ links_item roots n c.index-roots-n.result low c.index-roots-n.is) in
    record {
      made = numbered_step (importers_from ranks roots) projects n q c.in_ok-one.one c.loop-n.all c.push.new.self (importers_from ranks roots 0 projects) within c.index-projects-n.is
          (ap (λ (i : LockImporter). i ∷ importers_from ranks roots (suc n) (drop (n + 1) projects)) (sym one)) c.in_ok-push.ensures.ok c.loop-n.invariant.made;
      named = all_more IsNamedImporter c.loop-n.all c.push.new.self c.in_ok-one.one c.in_ok-push.ensures.ok c.loop-n.invariant.named c.in_ok-one.ensures.named;
    }
