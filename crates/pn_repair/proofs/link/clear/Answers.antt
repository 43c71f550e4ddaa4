use Rattle.std.proofs.Common.{◌∙◌, inl, inr}
use Rattle.pn_fs.proofs.Puts.{is_absent}
use Rattle.pn_repair.proofs.FitsLemmas.{can_remove}
use Rattle.pn_repair.proofs.WroteAtLemmas.{wrote_none, parent_kept}
use Rattle.pn_text.proofs.Results.{on_ok}
use Rattle.pn_repair.proofs.link.clear.Goals as goal

pub remove-requires : goal.remove-requires
remove-requires g c t told = can_remove t c.args.path.now (g.met.P.ReadFs.well_formed c.args.fs.now t told) (c.requires.found t told ∙ c.in-Link.is)

pub returns-in-Link-clause-ok : goal.returns-in-Link-clause-ok
returns-in-Link-clause-ok g c =
    let parent = parent_kept c.args.path.now (g.P.ReadFs.seen c.args.fs.now) (g.P.ReadFs.seen c.remove.new.fs) c.remove.ensures.wrote c.requires.parent in
    on_ok c.remove.result (λ gone t told. record { absent = gone t told; parent = parent t told }) c.remove.ensures.ok

pub returns-in_default : goal.returns-in_default
returns-in_default g c = record {
  ok = λ t told. record {
    absent = elim c.requires.kind [
      | inl absent ↦ is_absent (t c.args.path.now) (c.requires.found t told ∙ absent)
      | inr link ↦ absurd (c.in_default.not-Link link)
    ];
    parent = c.requires.parent t told;
  };
  err = tt;
  wrote = wrote_none c.args.path.now (g.P.ReadFs.seen c.args.fs.now);
  fault = tt;
}
