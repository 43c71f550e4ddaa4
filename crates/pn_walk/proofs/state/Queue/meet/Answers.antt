use Rattle.std.proofs.Common.{rules, ◌≡◌, ◌∷◌, [], None, Ok, Err}
use Rattle.std.specs.Prelude.{Result, IfOk, OnOk}
use Rattle.pn_text.proofs.Results.{any_err}
use Rattle.pn_walk.specs.Walks.{place_of}
use Rattle.pn_walk.specs.Calls.{at}
use Rattle.pn_walk.proofs.ReadsLemmas.{read_none, read_one, for_one}
use Rattle.pn_walk.proofs.state.Queue.meet.Goals as goal

from_ok : {T E Q : Type 0} {P : T → Type 0} (r : Result T E) → ((v : T) → P v → Q) → IfOk r P → OnOk r Q
from_ok (Ok v) f h = f v h
from_ok (Err e) f h = tt

pub returns-in-Some-clause-read : goal.returns-in-Some-clause-read
returns-in-Some-clause-read g c =
    let a = c.args.ways.now in
    read_none (λ ws is. g.W.Ways.follows a [] is a) (at [] c.args.self.now) (g.met.W.Ways.rests a)

pub returns-in-Ok-clause-read : goal.returns-in-Ok-clause-read
returns-in-Ok-clause-read g c =
    let a = c.args.ways.now in
    let fresh : None ≡ place_of c.args.id.now c.args.self.now.nodes.items = search rules in
    from_ok c.add.result (λ to h. read_one (λ is. g.W.Ways.follows a [] is c.read.new.self) c.args.self.now c.add.new.self c.args.id.now c.in-Ok.node fresh c.in-Ok.ensures.here h.1 h.2 c.in-Ok.ensures.follows) c.add.ensures.added

pub returns-in-Ok-clause-once : goal.returns-in-Ok-clause-once
returns-in-Ok-clause-once g c =
    let a = c.args.ways.now in
    let fresh : None ≡ place_of c.args.id.now c.args.self.now.nodes.items = search rules in
    any_err c.add.result (for_one (g.W.Ways.leads a) (λ is. g.W.Ways.stops a [] is c.read.new.self) c.args.self.now.nodes.items c.args.wish.now c.args.id.now c.requires.leads fresh (g.met.W.Ways.may_stop a c.read.new.self [] (c.args.id.now ∷ []) c.in-Ok.ensures.follows))

pub returns-in-Err-clause-once : goal.returns-in-Err-clause-once
returns-in-Err-clause-once g c =
    let a = c.args.ways.now in
    let fresh : None ≡ place_of c.args.id.now c.args.self.now.nodes.items = search rules in
    for_one (g.W.Ways.leads a) (λ is. g.W.Ways.stops a [] is c.read.new.self) c.args.self.now.nodes.items c.args.wish.now c.args.id.now c.requires.leads fresh c.in-Err.ensures.stops
