use Rattle.std.proofs.Common.{subst}
use Rattle.pn_digest.specs.Listing.{Names}
use Rattle.pn_memstore.proofs.puts.put.Goals as goal

pub put_both-requires-clause-named : goal.put_both-requires-clause-named
put_both-requires-clause-named g c file names = c.in_ok-text.ensures.named file (subst (λ text. Names text file) c.as_slice.ensures.value names)

pub returns-clause-file : goal.returns-clause-file
returns-clause-file g c = c.put_both.ensures.file

pub returns-clause-free : goal.returns-clause-free
returns-clause-free g c = c.put_both.ensures.free

pub returns-clause-grew : goal.returns-clause-grew
returns-clause-grew g c = c.put_both.ensures.grew

pub returns-clause-sound : goal.returns-clause-sound
returns-clause-sound g c = c.put_both.ensures.sound

pub returns-in_err-text-clause-grew : goal.returns-in_err-text-clause-grew
returns-in_err-text-clause-grew g c = c.grew_law.ensures.none (g.D.StoreDisk.seen c.args.disk.now)

pub returns-in_err-text-clause-sound : goal.returns-in_err-text-clause-sound
returns-in_err-text-clause-sound g c sound = sound
