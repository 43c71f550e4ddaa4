use Rattle.std.proofs.Common.{rules, ◌∙◌}
use Rattle.pn_spec.proofs.Ends.{end-less}
use Rattle.pn_spec.proofs.parts.trim_end.Goals as goal

pub bytes-preserved : goal.bytes-preserved
bytes-preserved c =
    let s = c.in-Some.ensures in
    record {
      utf8 = search rules;
      same = end-less c.bytes.rest.now c.in-Some.front.now s.0 s.1 s.2 ∙ c.bytes.invariant.same;
    }
