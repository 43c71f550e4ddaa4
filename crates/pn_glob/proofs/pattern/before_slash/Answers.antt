use Rattle.pn_glob.proofs.Heads.{slash-none, slash-some}
use Rattle.pn_glob.proofs.pattern.before_slash.Goals as goal

pub returns-then-b-eq47 : goal.returns-then-b-eq47
returns-then-b-eq47 c = slash-some c.args.text.now c.in-Some.front.now c.in-Some.b c.in-Some.ensures c.if-b-eq47.true

pub returns-else-b-eq47 : goal.returns-else-b-eq47
returns-else-b-eq47 c = slash-none c.args.text.now c.in-Some.front.now c.in-Some.b c.in-Some.ensures c.if-b-eq47.false
