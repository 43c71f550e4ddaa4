use Rattle.std.proofs.Common.{◌≡◌, ◌+◌, ◌≤◌, length, IsTrue}
use denote.Text.{Utf8}
use denote.Shadow.{shadow}
use Rattle.pn_text.specs.Path.{Path, is_path, tail_of}
use Rattle.pn_config.specs.Folders.{led_by}
use Rattle.pn_config.specs.Ways.{led_along}
use Rattle.pn_config.proofs.folder.way_of.Given as goal

abbrev pub invariant-parts : goal.invariant-parts
invariant-parts l = record {
  utf8 : shadow (Utf8 l.front);
  good : IsTrue (is_path l.way.parts.items);
  few : l.way.ups + length l.front ≤ length l.text;
  leads : (from : Path) → led_along l.way (led_by from (tail_of l.front)) ≡ led_by from (tail_of l.text);
}

abbrev pub decreases-parts : goal.decreases-parts
decreases-parts l = length l.front
