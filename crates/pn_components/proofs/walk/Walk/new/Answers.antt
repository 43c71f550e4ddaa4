use Rattle.std.proofs.Common.{rules, ◌≡◌, length}
use Rattle.std.proofs.lemmas.List.{length-map}
use Rattle.pn_components.specs.Rows.{rows_of}
use Rattle.pn_components.proofs.EndLemmas.{first_walk}
use Rattle.pn_components.proofs.walk.Walk.new.Goals as goal

pub returns-clause-walk : goal.returns-clause-walk
returns-clause-walk c =
    let long : c.len.result ≡ length (rows_of c.args.rows.items) = search (rules, length-map) in
    search (rules, first_walk (rows_of c.args.rows.items) c.len.result long c.requires.within (search (rules, length-map)))
