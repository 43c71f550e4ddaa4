use Rattle.std.proofs.Common.{◌≡◌, ◌<◌, suc, length, drop, slice_index_or, subst}
use Rattle.pn_memstore.proofs.ToComeLemmas.{next_entry}
use Rattle.pn_memstore.proofs.schedule.Schedule.next.Goals as goal

pub returns-in-Some : goal.returns-in-Some
returns-in-Some c =
    let xs = c.args.self.now.entries.items in
    let i = c.args.self.now.gone in
    let e = c.in-Some.entry.now in
    let h = c.in-Some.ensures.lookup in
    let at = subst (λ ys. (i < length ys) × (e ≡ slice_index_or ys i e)) c.as_slice.ensures.value (h.3.0, h.1) in
    (c.if-entry-call.true, (drop (suc i) xs, next_entry xs i e at.0 at.1))
