-- What contracts see of tags and of places.
use Rattle.std.specs.Prelude.{ℕ}
use Rattle.pn_text.specs.declared.index.VersionIx.{VersionIx}
use Rattle.pn_published.specs.Tags.{Said, Tagged}
use Rattle.pn_published.specs.declared.published.Tag.{Tag}
use Rattle.pn_published.specs.declared.tags.SaidTag.{SaidTag}

abbrev pub number : VersionIx → ℕ
number i = i.0

abbrev pub tagged : Tag → Tagged
tagged t = (t.name, number t.version)

abbrev pub said : SaidTag → Said
said s = (s.name, s.text)
