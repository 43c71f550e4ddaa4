use Rattle.pn_choice.proofs.SettledLemmas.{same, cause, passed, graph}
use Rattle.pn_choice.proofs.laws.settled_law.Goals as goal

pub returns : goal.returns
returns c = λ t. record {
  same = λ i root p q a b. same t i root p q a b;
  cause = λ i f g a b. cause t i f g a b;
  passed = λ i root p f a b. passed t i root p f a b;
  graph = λ i root p h. graph t i h.state h.walked;
}
