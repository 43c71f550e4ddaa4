use Rattle.std.proofs.Common.{rules, [], ◌∷◌}
use Rattle.std.specs.List.{Contains}
use Rattle.pn_text.proofs.Results.{any_err}
use Rattle.pn_choice.specs.Calls.{knows, IsSought}
use Rattle.pn_choice.specs.Goes.{learns_nothing}
use Rattle.pn_choice.proofs.CallsLemmas.{learns_sought, reads_sought}
use Rattle.pn_choice.specs.Ways.{Loses}
use Rattle.pn_choice.proofs.SeekLemmas.{unasked_loses, unlisted_loses, leads_to, leads_nowhere, lost_version, asks_once}
use Rattle.pn_choice.proofs.sources.Sources.seek.Goals as goal

pub returns-in_err-asked-clause-lost : goal.returns-in_err-asked-clause-lost
returns-in_err-asked-clause-lost g c =
    let lost : Loses (g.R.ReadFs.seen c.args.self.now.registry.now).tree c.args.self.now.held.now c.args.wish.now c.in_err-asked.field-0.0 =
    unasked_loses (g.R.ReadFs.seen c.args.self.now.registry.now).tree c.args.self.now.held.now c.args.wish.now c.in_err-asked.field-0.0 c.requires.asks c.in_err-asked.ensures.refused in
    search rules

pub returns-in_err-id-clause-lost : goal.returns-in_err-id-clause-lost
returns-in_err-id-clause-lost g c =
    let lost : Loses (g.R.ReadFs.seen c.args.self.now.registry.now).tree c.args.self.now.held.now c.args.wish.now c.in_err-id.field-0.0 =
    unlisted_loses (g.R.ReadFs.seen c.args.self.now.registry.now).tree c.args.self.now.held.now c.args.wish.now c.in_ok-asked.asked.name c.in_ok-asked.asked.want c.in_err-id.field-0.0 c.requires.asks c.in_ok-asked.ensures.reads c.in_err-id.ensures.unlisted in
    search rules

pub returns-in-Some-clause-leads : goal.returns-in-Some-clause-leads
returns-in-Some-clause-leads g c =
    leads_to (g.R.ReadFs.seen c.args.self.now.registry.now).tree c.args.self.now.held.now c.args.wish.now c.in_ok-asked.asked.name c.in_ok-asked.asked.want c.in_ok-id.field-0 c.in-Some.id c.requires.asks c.in_ok-asked.ensures.reads
    c.in_ok-id.ensures.version c.in-Some.is

pub returns-in-None-2-clause-lost : goal.returns-in-None-2-clause-lost
returns-in-None-2-clause-lost g c =
    lost_version (g.R.ReadFs.seen c.args.self.now.registry.now).tree c.args.self.now.held.now c.args.wish.now c.in_ok-asked.asked.name c.in_ok-asked.asked.want c.in_ok-id.field-0 c.requires.asks c.in_ok-asked.ensures.reads
    c.in_ok-id.ensures.version c.in-None-2.is c.if-wish.false

pub returns-in_err-id-clause-once : goal.returns-in_err-id-clause-once
returns-in_err-id-clause-once g c =
    asks_once c.args.wish.now c.in_ok-asked.asked.name c.in_ok-asked.asked.want c.args.self.now.shelves.now (g.R.ReadFs.seen c.args.self.now.registry.now) (g.R.ReadFs.seen c.version.new.self.registry.now) c.in_ok-asked.ensures.reads
    c.version.ensures.once

pub returns-in-Some-clause-once : goal.returns-in-Some-clause-once
returns-in-Some-clause-once g c =
    asks_once c.args.wish.now c.in_ok-asked.asked.name c.in_ok-asked.asked.want c.args.self.now.shelves.now (g.R.ReadFs.seen c.args.self.now.registry.now) (g.R.ReadFs.seen c.version.new.self.registry.now) c.in_ok-asked.ensures.reads
    c.version.ensures.once

pub returns-in-None-clause-once : goal.returns-in-None-clause-once
returns-in-None-clause-once g c =
    asks_once c.args.wish.now c.in_ok-asked.asked.name c.in_ok-asked.asked.want c.args.self.now.shelves.now (g.R.ReadFs.seen c.args.self.now.registry.now) (g.R.ReadFs.seen c.version.new.self.registry.now) c.in_ok-asked.ensures.reads
    c.version.ensures.once

pub returns-in-None-2-clause-once : goal.returns-in-None-2-clause-once
returns-in-None-2-clause-once g c =
    asks_once c.args.wish.now c.in_ok-asked.asked.name c.in_ok-asked.asked.want c.args.self.now.shelves.now (g.R.ReadFs.seen c.args.self.now.registry.now) (g.R.ReadFs.seen c.version.new.self.registry.now) c.in_ok-asked.ensures.reads
    c.version.ensures.once

pub returns-in-None-clause-leads : goal.returns-in-None-clause-leads
returns-in-None-clause-leads g c =
    leads_nowhere (g.R.ReadFs.seen c.args.self.now.registry.now).tree c.args.self.now.held.now c.args.wish.now c.in_ok-asked.asked.name c.in_ok-asked.asked.want c.in_ok-id.field-0 c.requires.asks c.in_ok-asked.ensures.reads
    c.in_ok-id.ensures.version c.in-None.is c.if-wish.true

pub returns-in_err-asked-clause-reads : goal.returns-in_err-asked-clause-reads
returns-in_err-asked-clause-reads g c =
    let a = g.R.ReadFs.seen c.args.self.now.registry.now in
    any_err c.from_residual.result ((learns_nothing (IsSought (Contains (c.args.wish.now ∷ []))) (knows c.args.self.now.shelves.now) a).reads)

pub returns-in_err-id-clause-reads : goal.returns-in_err-id-clause-reads
returns-in_err-id-clause-reads g c = any_err c.from_residual-in_err-id.result (reads_sought (knows c.args.self.now.shelves.now) (knows c.version.new.self.shelves.now) c.args.wish.now c.in_ok-asked.asked.name c.in_ok-asked.asked.want (g.R.ReadFs.seen c.args.self.now.registry.now) (g.R.ReadFs.seen c.version.new.self.registry.now) c.requires.asks c.in_ok-asked.ensures.reads c.in_err-id.ensures.reads)

pub returns-in-Some-clause-learns : goal.returns-in-Some-clause-learns
returns-in-Some-clause-learns g c = learns_sought (knows c.args.self.now.shelves.now) (knows c.version.new.self.shelves.now) c.args.wish.now c.in_ok-asked.asked.name c.in_ok-asked.asked.want (g.R.ReadFs.seen c.args.self.now.registry.now) (g.R.ReadFs.seen c.version.new.self.registry.now) c.requires.asks c.in_ok-asked.ensures.reads c.in_ok-id.ensures.learns

pub returns-in-None-clause-learns : goal.returns-in-None-clause-learns
returns-in-None-clause-learns g c = learns_sought (knows c.args.self.now.shelves.now) (knows c.version.new.self.shelves.now) c.args.wish.now c.in_ok-asked.asked.name c.in_ok-asked.asked.want (g.R.ReadFs.seen c.args.self.now.registry.now) (g.R.ReadFs.seen c.version.new.self.registry.now) c.requires.asks c.in_ok-asked.ensures.reads c.in_ok-id.ensures.learns

pub returns-in-None-2-clause-reads : goal.returns-in-None-2-clause-reads
returns-in-None-2-clause-reads g c = (learns_sought (knows c.args.self.now.shelves.now) (knows c.version.new.self.shelves.now) c.args.wish.now c.in_ok-asked.asked.name c.in_ok-asked.asked.want (g.R.ReadFs.seen c.args.self.now.registry.now) (g.R.ReadFs.seen c.version.new.self.registry.now) c.requires.asks c.in_ok-asked.ensures.reads c.in_ok-id.ensures.learns).reads
