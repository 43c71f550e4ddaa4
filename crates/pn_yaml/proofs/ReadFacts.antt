-- What is read has no key twice in a map, and is nested at most 64 deep.
use Rattle.std.proofs.Common.{◌≡◌, ◌≤◌, ℕ, List, true, Result, Ok, Err, IfOk}
use Rattle.pn_yaml.specs.declared.fault.YamlFault.{YamlFault}
use Rattle.pn_yaml.specs.declared.node.Node.{Node}
use Rattle.pn_yaml.specs.Blocks.{text_says}
use Rattle.pn_yaml.specs.Data.{are_apart, depth}
use Rattle.pn_yaml.specs.Outcome.{Gives}
use Rattle.pn_yaml.specs.View.{view}
use Rattle.pn_yaml.proofs.BlockApart.{read-law}

pub apart_when_read : (text : List ℕ) (r : Result Node YamlFault) → Gives view r (text_says text) → IfOk r (λ n. are_apart (view n) ≡ true)
apart_when_read text (Ok n) h = read-law.apart text (view n) h
apart_when_read text (Err e) h = tt

pub flat_when_read : (text : List ℕ) (r : Result Node YamlFault) → Gives view r (text_says text) → IfOk r (λ n. depth (view n) ≤ 64)
flat_when_read text (Ok n) h = read-law.flat text (view n) h
flat_when_read text (Err e) h = tt
