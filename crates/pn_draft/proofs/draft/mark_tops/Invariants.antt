use Rattle.std.proofs.Common.{◌≡◌, take}
use Rattle.pn_draft.specs.Sheets.{sheet, IsBare}
use Rattle.pn_draft.proofs.draft.mark_tops.Given as goal

-- the first folders are marked, and copied
abbrev pub invariant-tops : goal.invariant-tops
invariant-tops l = record {
  items : l.all.items ≡ take l.top-index l.tops;
  bare : IsBare (take l.top-index l.tops) (sheet l.marks);
}
