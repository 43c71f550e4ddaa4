use Rattle.std.proofs.Common.{rules, arith}
use Rattle.pn_config.specs.Folders.{led_by}
use Rattle.pn_text.specs.Path.{tail_of}
use Rattle.pn_config.proofs.WayLemmas.{shorter, way_last, way_more}
use Rattle.pn_config.proofs.folder.way_of.Goals as goal

pub parts-preserved : goal.parts-preserved
parts-preserved c =
    let cut = c.in-Some.ensures.0 in
    let puts = c.in_ok-put.ensures in
    record {
      utf8 = search rules;
      good = puts.good c.parts.invariant.good;
      few = omega (arith, puts.few, c.parts.invariant.few, shorter c.parts.front.now c.in-Some.rest.now c.in-Some.part.now cut);
      leads = λ from. way_more c.parts.front.now c.in-Some.rest.now c.in-Some.part.now c.parts.way c.put.new.self from (led_by from (tail_of c.args.text.now)) cut c.in-Some.ensures.1 puts (c.parts.invariant.leads from);
    }

pub returns : goal.returns
returns c =
    let puts = c.in_ok-put-2.ensures in
    record {
      good = puts.good c.parts.invariant.good;
      leads = λ from. way_last c.parts.front.now c.parts.way c.put-2.new.self from (led_by from (tail_of c.args.text.now)) c.in_default.ensures puts (c.parts.invariant.leads from);
    }
