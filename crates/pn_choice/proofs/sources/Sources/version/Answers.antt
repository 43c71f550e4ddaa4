use Rattle.std.proofs.Common.{◌≡◌, ◌∙◌, ap, sym, Some, subst, List}
use Rattle.std.specs.Prelude.{Option}
use Rattle.std.specs.BTreeMap.{get_by_text}
use Rattle.pn_fs.specs.Tree.{Tree}
use Rattle.pn_published.specs.Shown.{shelf_of}
use Rattle.pn_walk.specs.Wants.{Id}
use Rattle.pn_choice.specs.Shows.{Publishes}
use Rattle.pn_choice.specs.Ways.{IsVersionIn}
use Rattle.pn_choice.proofs.SeekLemmas.{version_in}
use Rattle.pn_choice.proofs.sources.Sources.version.Goals as goal

pub returns-clause-version : goal.returns-clause-version
returns-clause-version g c =
    let found : get_by_text c.list.new.self.shelves.now c.args.asked.name ≡ Some c.in-Some.list.now = ap (get_by_text c.list.new.self.shelves.now) (sym c.as_str.ensures.text) ∙ sym c.in-Some.ensures.value in
    let shows : Publishes (g.R.ReadFs.seen c.args.self.now.registry.now).tree c.args.asked.name (shelf_of c.in-Some.list.now) =
    subst (λ (r : Option Tree). Publishes r c.args.asked.name (shelf_of c.in-Some.list.now)) c.list.ensures.goes.kept.tree (c.list.ensures.good c.args.asked.name c.in-Some.list.now found) in
    subst (λ (held : List Id). IsVersionIn (g.R.ReadFs.seen c.args.self.now.registry.now).tree held c.args.asked.name c.args.asked.want c.in_ok-chosen-in-Some.field-0) c.list.ensures.goes.held_is
    (version_in (g.R.ReadFs.seen c.args.self.now.registry.now).tree c.list.new.self.held.now c.args.asked.name c.args.asked.want c.in-Some.list.now c.in_ok-chosen-in-Some.field-0 shows c.in_ok-chosen-in-Some.ensures)
