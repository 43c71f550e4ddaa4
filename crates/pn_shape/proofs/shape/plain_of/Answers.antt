use Rattle.std.proofs.Common.{◌≡◌, ◌<◌, ◌^◌, length, [], arith}
use Rattle.pn_walk.specs.Calls.{at}
use Rattle.pn_shape.specs.Shapes.{IsShape}
use Rattle.pn_shape.proofs.ShapeLemmas.{shape_of}
use Rattle.pn_shape.proofs.GraphOfLemmas.{graph_of_fit}
use Rattle.pn_shape.proofs.shape.plain_of.Goals as goal

pub of-requires-2 : goal.of-requires-2
of-requires-2 c =
    let folders = c.args.folders.items in
    let t = at [] c.args.queue in
    let projects = c.in_ok-projects.projects in
    let packages = c.in_ok-packages.packages in
    let long : length folders ≡ c.len.result = omega (arith, c.len.ensures) in
    let few : length t.met < 2 ^ 32 = omega (arith, c.args.queue.few) in
    graph_of_fit c.args.root folders t projects packages c.requires.fit few c.requires.root
    (shape_of folders t c.in_ok-lists.lists projects packages c.len.result c.len-2.result c.in_ok-lists.ensures long c.in_ok-projects.ensures c.in_ok-packages.ensures)

pub returns-clause-shape : goal.returns-clause-shape
returns-clause-shape c =
    let folders = c.args.folders.items in
    let t = at [] c.args.queue in
    let long : length folders ≡ c.len.result = omega (arith, c.len.ensures) in
    let shape : IsShape folders t c.in_ok-projects.projects c.in_ok-packages.packages =
    shape_of folders t c.in_ok-lists.lists c.in_ok-projects.projects c.in_ok-packages.packages c.len.result c.len-2.result c.in_ok-lists.ensures long c.in_ok-projects.ensures c.in_ok-packages.ensures in
    rw (c.of-2.ensures.projects, c.of-2.ensures.packages) shape
