use Rattle.std.proofs.Common.{◌≡◌}
use Rattle.pn_text.proofs.Results.{if_ok}
use Rattle.pn_graph.specs.PeerRanges.{IsAny, IsPeerRange, other}
use Rattle.pn_ranges.specs.declared.fault.RangeFault.TheVariants.{Memory as no_memory}
use Rattle.pn_graph.proofs.peer.peer_range.Goals as goal

pub returns-in-Err-BadByte : goal.returns-in-Err-BadByte
returns-in-Err-BadByte c =
    let none = c.in-Err-BadByte.ensures.none (λ (e : c.in-Err-BadByte.field-0 ≡ no_memory). (cc c.in-Err-BadByte.field-0-is)) in
    if_ok {P = IsAny} {Q = IsPeerRange c.args.text.now} c.any.result (λ r any. other none any) c.any.ensures

pub returns-in-Err-NumberTooLarge : goal.returns-in-Err-NumberTooLarge
returns-in-Err-NumberTooLarge c =
    let none = c.in-Err-NumberTooLarge.ensures.none (λ (e : c.in-Err-NumberTooLarge.field-0 ≡ no_memory). (cc c.in-Err-NumberTooLarge.field-0-is)) in
    if_ok {P = IsAny} {Q = IsPeerRange c.args.text.now} c.any-in-Err-NumberTooLarge.result (λ r any. other none any) c.any-in-Err-NumberTooLarge.ensures

pub returns-in-Err-TooMany : goal.returns-in-Err-TooMany
returns-in-Err-TooMany c =
    let none = c.in-Err-TooMany.ensures.none (λ (e : c.in-Err-TooMany.field-0 ≡ no_memory). (cc c.in-Err-TooMany.field-0-is)) in
    if_ok {P = IsAny} {Q = IsPeerRange c.args.text.now} c.any-in-Err-TooMany.result (λ r any. other none any) c.any-in-Err-TooMany.ensures
