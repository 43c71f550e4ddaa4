use Rattle.std.proofs.Common.{◌∙◌, ap, sym, subst, Result}
use Rattle.pn_yaml.specs.declared.fault.YamlFault.{YamlFault}
use Rattle.pn_yaml.specs.Blocks.{text_says}
use Rattle.pn_yaml.specs.Data.{Data}
use Rattle.pn_yaml.specs.Outcome.{Gives}
use Rattle.pn_yaml.specs.View.{view}
use Rattle.pn_yaml.proofs.ReadFacts.{apart_when_read, flat_when_read}
use Rattle.pn_yaml.proofs.SaysLemmas.{says_text, says_other}
use Rattle.pn_yaml.proofs.reading.read.Goals as goal

pub returns-in-Ok : goal.returns-in-Ok
returns-in-Ok c = record {
  says = subst (λ (r : Result Data YamlFault). Gives view c.read_text.result r) (ap text_says c.in-Ok.ensures.cases.0 ∙ sym (says_text c.args.bytes.now c.in-Ok.ensures.cases.1)) c.read_text.ensures;
  apart = apart_when_read c.in-Ok.text.now c.read_text.result c.read_text.ensures;
  flat = flat_when_read c.in-Ok.text.now c.read_text.result c.read_text.ensures;
}

pub returns-in-Err : goal.returns-in-Err
returns-in-Err c = record { says = says_other c.args.bytes.now c.in-Err.ensures.cases.0; apart = tt; flat = tt }
