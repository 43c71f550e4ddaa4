-- What a schedule still has.
use Rattle.std.specs.Prelude.{List, drop}
use Rattle.pn_memstore.specs.declared.schedule.Schedule.{Schedule}
use Rattle.pn_memstore.specs.Script.{Scheduled}

-- the entries that had no turn yet
abbrev pub to_come : Schedule → List Scheduled
to_come s = drop s.gone s.entries.items
