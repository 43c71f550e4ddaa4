use Rattle.std.proofs.Common.{Some, []}
use Rattle.pn_text.proofs.Results.{on_ok, any_err}
use Rattle.pn_walk.proofs.ReadsLemmas.{read_linked, for_met}
use Rattle.pn_walk.proofs.TookLemmas.{took_package}
use Rattle.pn_walk.proofs.state.Queue.take_package.Goals as goal

pub returns-in-Ok-clause-took : goal.returns-in-Ok-clause-took
returns-in-Ok-clause-took g c =
    let a = c.args.ways.now in
    let W = g.W.Ways in
    on_ok c.link.result (λ h. took_package (W.leads a) (W.node a) c.args.who c.args.wish.now c.args.id.now c.in-Ok.place c.args.self.now c.meet.new.self c.link.new.self c.requires.leads c.in-Ok.ensures.met h.0 h.1) c.link.ensures.linked

pub returns-in-Ok-clause-read : goal.returns-in-Ok-clause-read
returns-in-Ok-clause-read g c =
    let a = c.args.ways.now in
    let d = c.meet.new.ways in
    on_ok c.link.result (λ h. read_linked (λ is. g.W.Ways.follows a [] is d) c.args.who c.args.wish.now (Some c.in-Ok.place) c.args.self.now c.meet.new.self c.link.new.self c.in-Ok.ensures.read c.in-Ok.ensures.met.links h.0 h.1) c.link.ensures.linked

pub returns-in-Ok-clause-once : goal.returns-in-Ok-clause-once
returns-in-Ok-clause-once g c =
    let a = c.args.ways.now in
    let d = c.meet.new.ways in
    let W = g.W.Ways in
    any_err c.link.result (for_met (W.leads a) (W.node a) (λ is. W.follows a [] is d) (λ is. W.stops a [] is d) c.args.wish.now c.args.id.now c.in-Ok.place c.args.self.now c.meet.new.self (g.met.W.Ways.may_stop a d []) c.requires.leads c.in-Ok.ensures.met c.in-Ok.ensures.read)
