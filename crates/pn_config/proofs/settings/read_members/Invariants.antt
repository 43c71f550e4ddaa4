use Rattle.std.proofs.Common.{ℕ, List, drop}
use Rattle.pn_yaml.specs.View.{members_view}
use Rattle.pn_config.specs.declared.settings.Settings.{Settings}
use Rattle.pn_config.specs.Files.{FirstBad, ReadsOn}
use Rattle.pn_config.specs.Settings.{default_settings}
use Rattle.pn_config.proofs.settings.read_members.Given as goal

-- what is left leads from the settings so far to the whole
abbrev pub invariant-loop-key : goal.invariant-loop-key
invariant-loop-key l = record {
  left : (s : Settings) → ReadsOn l.settings (members_view (drop l.key-index l.members)) s → ReadsOn default_settings (members_view l.members) s;
  bad : (k : List ℕ) → FirstBad l.settings (members_view (drop l.key-index l.members)) k → FirstBad default_settings (members_view l.members) k;
}
