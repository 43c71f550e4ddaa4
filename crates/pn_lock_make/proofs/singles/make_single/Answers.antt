use Rattle.std.proofs.Common.{◌≡◌, ◌∙◌, ℕ, List, map, true, ap, sym, subst}
use Rattle.std.specs.List.{All}
use Rattle.pn_text.specs.Ids.{is_id}
use Rattle.pn_text.proofs.Results.{if_ok}
use Rattle.pn_lock.specs.Locks.{Locked}
use Rattle.pn_instances.specs.declared.links.Link.{Link}
use Rattle.pn_instances.specs.Singles.{project_links}
use Rattle.pn_lock_make.specs.Made.{AreResolved, IsMade}
use Rattle.pn_lock_make.specs.Singles.{package_ids}
use Rattle.pn_lock_make.proofs.SingleLemmas.{single_belongs}
use Rattle.pn_lock_make.proofs.singles.make_single.Goals as goal

pub make-requires : goal.make-requires
make-requires c =
    single_belongs c.args.asked.now c.args.plain.now c.in_ok-instances.instances c.deref.result.now c.args.integrities.now c.requires
    (record { packages = c.in_ok-instances.ensures.packages; links = c.in_ok-instances.ensures.links; roots = c.in_ok-instances.ensures.roots })
    (c.deref.ensures.value ∙ c.in_ok-paths.ensures.same ∙ ap package_ids c.as_slice.ensures)
    (subst (λ (l : List (List ℕ)). All (λ (id : List ℕ). is_id id ≡ true) l) (sym c.deref.ensures.value) c.in_ok-paths.ensures.ids)

pub returns-clause-made : goal.returns-clause-made
returns-clause-made c = if_ok c.make.result (λ (l : Locked) m. record {
  instances = c.in_ok-instances.instances;
  single = (record { packages = c.in_ok-instances.ensures.packages; links = c.in_ok-instances.ensures.links; roots = c.in_ok-instances.ensures.roots });
  made = subst (λ (ps : List (List ℕ)). IsMade c.args.asked.now c.args.plain.now c.in_ok-instances.instances ps c.args.integrities.now l)
      (c.deref.ensures.value ∙ c.in_ok-paths.ensures.same ∙ ap package_ids c.as_slice.ensures) m;
}) c.make.ensures.made

pub returns-clause-fits : goal.returns-clause-fits
returns-clause-fits c = if_ok c.make.result (λ (l : Locked) f. λ (r : AreResolved c.args.asked.now c.args.plain.now (map project_links c.args.plain.now.projects)).
    f (subst (λ (roots : List (List Link)). AreResolved c.args.asked.now c.args.plain.now roots) (sym c.in_ok-instances.ensures.roots) r)) c.make.ensures.fits
