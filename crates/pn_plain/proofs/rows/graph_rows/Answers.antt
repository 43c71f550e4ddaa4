use Rattle.pn_plain.proofs.GraphRowLemmas.{graph_rows}
use Rattle.pn_plain.proofs.rows.graph_rows.Goals as goal

pub returns : goal.returns
returns c = graph_rows
