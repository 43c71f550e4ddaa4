use Rattle.std.proofs.Common.{◌≡◌, ◌++◌, map, drop}
use Rattle.pn_walk.specs.Starts.{asked_of, folders_of}
use Rattle.pn_choice.specs.Given.{folder_of, asked_by}
use Rattle.pn_choice.proofs.face.asks.Given as goal

-- what is left leads to the whole
abbrev pub invariant-loop-project : goal.invariant-loop-project
invariant-loop-project l = record {
  folders : folders_of l.all.items ++ map folder_of (drop l.project-index l.projects) ≡ map folder_of l.projects;
  wishes : asked_of l.all.items ++ map (asked_by l.auto_peers) (drop l.project-index l.projects) ≡ map (asked_by l.auto_peers) l.projects;
}
