use Rattle.pn_yaml.proofs.Quotes.{same_ends}
use Rattle.pn_yaml.proofs.quoted.parted.Goals as goal

pub returns : goal.returns
returns c = same_ends c.args.a c.args.b c.args.text.now c.as_bytes.result.now c.end_at.ensures.0 c.end_at.result.now c.split_before.result.0.now c.split_before.result.1.now
    c.as_bytes.ensures.value c.end_at.ensures.1 c.split_before.ensures.whole c.split_before.ensures.rest
