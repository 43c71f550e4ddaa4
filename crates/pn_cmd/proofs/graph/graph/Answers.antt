use Rattle.std.proofs.Common.{◌≡◌, rules, subst}
use Rattle.pn_manifest.specs.Says.{said_of}
use Rattle.pn_choice.specs.Graphs.{IsGraphOf}
use Rattle.pn_choice.specs.Refusals.{Unplain}
use Rattle.pn_choice.specs.Refusals.{Refuses as ChoiceRefuses}
use Rattle.pn_cmd.specs.World.{world}
use Rattle.pn_cmd.specs.Points.{Refuses}
use Rattle.pn_cmd.specs.Graph.{HasNoGraph, inputs_of, root}
use Rattle.pn_cmd.proofs.GraphLemmas.{one_rises, graph_stands, graph_short, graph_refused}
use Rattle.pn_cmd.proofs.graph.graph.Goals as goal

pub plain-requires-clause-folders : goal.plain-requires-clause-folders
plain-requires-clause-folders g c = one_rises c.in_ok-folder.folder

pub returns-in-Ok-clause-stand : goal.returns-in-Ok-clause-stand
returns-in-Ok-clause-stand g c =
    let is : IsGraphOf (g.R.ReadFs.seen c.args.registry.now).tree (inputs_of (said_of c.args.manifest)) root c.in-Ok.plain = search rules in
    graph_stands (g.R.ReadFs.seen c.args.registry.now).tree (inputs_of (said_of c.args.manifest)) root c.in-Ok.plain (g.met.R.ReadFs.well_formed c.args.registry.now) is

pub returns-in-Ok-clause-short : goal.returns-in-Ok-clause-short
returns-in-Ok-clause-short g c =
    let is : IsGraphOf (g.R.ReadFs.seen c.args.registry.now).tree (inputs_of (said_of c.args.manifest)) root c.in-Ok.plain = search rules in
    graph_short (g.R.ReadFs.seen c.args.registry.now).tree (inputs_of (said_of c.args.manifest)) root c.in-Ok.plain is

pub returns-clause-refused : goal.returns-clause-refused
returns-clause-refused g c project store out =
    let seen = g.R.ReadFs.seen in
    let m = said_of c.args.manifest in
    let refused : ChoiceRefuses (λ r f. Unplain (inputs_of m) r f) (seen c.args.registry.now) (seen c.plain.new.sources.registry.now) c.in-Err.fault = search rules in
    let same : c.plain.new.sources.registry.now ≡ c.registry-1.given.0 = search rules in
    subst (λ x. Refuses (HasNoGraph m) (world project (seen c.args.registry.now) store out) (world project (seen x) store out) c.ungraphed.result) same
    (graph_refused m project (seen c.args.registry.now) (seen c.plain.new.sources.registry.now) store out c.in-Err.fault c.ungraphed.result refused c.ungraphed.ensures)
