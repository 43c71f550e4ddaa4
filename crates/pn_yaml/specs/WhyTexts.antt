-- How faults are told.
use Rattle.std.specs.Prelude.{ℕ, List, codes}
use Rattle.pn_yaml.specs.declared.fault.Why.{Why}
use Rattle.pn_yaml.specs.declared.fault.Why.TheVariants.{Tab, Indent, Key, Quote, Escape, Flow, Twice, LeftOut}

-- what is told of a line at fault
abbrev pub why_text : Why → List ℕ
why_text Tab = codes "tab"
why_text Indent = codes "indentation"
why_text Key = codes "key"
why_text Quote = codes "quote"
why_text Escape = codes "escape"
why_text Flow = codes "flow"
why_text Twice = codes "key twice"
why_text LeftOut = codes "left out"
