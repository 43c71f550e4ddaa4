use Rattle.std.proofs.Common.{◌≡◌, ◌∙◌, ap, sym, subst, map, List, [], ℕ}
use Rattle.pn_walk.specs.Calls.{at, Stops}
use Rattle.pn_walk.specs.Starts.{turns_from, asked_of, folders_of}
use Rattle.pn_walk.specs.Walks.{start, IsWalked}
use Rattle.pn_walk.specs.declared.wish.Wish.{Wish}
use Rattle.pn_choice.specs.Given.{folder_of, asked_by, inputs_by}
use Rattle.pn_choice.specs.Refusals.{Refuses, Unplain}
use Rattle.pn_choice.specs.Shows.{IsNodeOf}
use Rattle.pn_choice.specs.Ways.{LeadsBy, Loses, IsUntold}
use Rattle.pn_choice.specs.declared.fault.ChoiceFault.{ChoiceFault}
use Rattle.pn_text.proofs.Results.{any_err}
use Rattle.pn_choice.specs.Calls.{knows, ReadsFor, ReadsUntil}
use Rattle.pn_choice.proofs.CallsLemmas.{each_read, once_as, read_start, until_none}
use Rattle.pn_choice.proofs.StopLemmas.{refuses}
use Rattle.pn_choice.proofs.top.walk.Goals as goal

pub returns-in-Ok-clause-walked : goal.returns-in-Ok-clause-walked
returns-in-Ok-clause-walked g c =
    let r = (g.R.ReadFs.seen c.args.sources.now.registry.now).tree in
    let held = c.args.sources.now.held.now in
    let asks : asked_of c.as_slice.result.now ≡ map (asked_by c.args.auto_peers) c.args.projects.now = ap asked_of c.as_slice.ensures.value ∙ c.in_ok-asks.ensures.wishes in
    subst (λ (ws : List (List Wish)). IsWalked (LeadsBy r held) (IsNodeOf r) (start (turns_from 0 ws)) (at [] c.in-Ok.queue)) asks c.in-Ok.ensures.walked

pub returns-clause-refused : goal.returns-clause-refused
returns-clause-refused g c =
    let old = g.R.ReadFs.seen c.args.sources.now.registry.now in
    let new = g.R.ReadFs.seen c.walked.new.ways.registry.now in
    let held = c.args.sources.now.held.now in
    let asks : asked_of c.as_slice.result.now ≡ map (asked_by c.args.auto_peers) c.args.projects.now = ap asked_of c.as_slice.ensures.value ∙ c.in_ok-asks.ensures.wishes in
    let folders : folders_of c.as_slice.result.now ≡ map folder_of c.args.projects.now = ap folders_of c.as_slice.ensures.value ∙ c.in_ok-asks.ensures.folders in
    let stops : Stops (LeadsBy old.tree held) (IsNodeOf old.tree) (Loses old.tree held) (IsUntold old.tree) (map folder_of c.args.projects.now) (start (turns_from 0 (map (asked_by c.args.auto_peers) c.args.projects.now))) c.in-Err.fault =
    subst (λ (ws : List (List Wish)). Stops (LeadsBy old.tree held) (IsNodeOf old.tree) (Loses old.tree held) (IsUntold old.tree) (map folder_of c.args.projects.now) (start (turns_from 0 ws)) c.in-Err.fault) asks
    (subst (λ (fs : List (List ℕ)). Stops (LeadsBy old.tree held) (IsNodeOf old.tree) (Loses old.tree held) (IsUntold old.tree) fs (start (turns_from 0 (asked_of c.as_slice.result.now))) c.in-Err.fault) folders c.in-Err.ensures.refused) in
    subst (λ (f : ChoiceFault). Refuses (λ s e. Unplain (inputs_by c.args.projects.now held c.args.auto_peers) s e) old new f) (sym c.choice_fault.ensures)
    (refuses c.args.projects.now held c.args.auto_peers old new c.in-Err.fault stops c.in-Err.ensures.broke)

pub returns-in_err-asks-clause-once : goal.returns-in_err-asks-clause-once
returns-in_err-asks-clause-once g c =
    let a = g.R.ReadFs.seen c.args.sources.now.registry.now in
    any_err c.from_residual.result (until_none (LeadsBy a.tree c.args.sources.now.held.now) (IsNodeOf a.tree) (turns_from 0 (map (asked_by c.args.auto_peers) c.args.projects.now)) (knows c.args.sources.now.shelves.now) a)

pub returns-in-Ok-clause-read : goal.returns-in-Ok-clause-read
returns-in-Ok-clause-read g c =
    let a = g.R.ReadFs.seen c.args.sources.now.registry.now in
    let b = g.R.ReadFs.seen c.walked.new.ways.registry.now in
    let held = c.args.sources.now.held.now in
    let asks : asked_of c.as_slice.result.now ≡ map (asked_by c.args.auto_peers) c.args.projects.now = ap asked_of c.as_slice.ensures.value ∙ c.in_ok-asks.ensures.wishes in
    let walks = subst (λ (ws : List (List Wish)). IsWalked (LeadsBy a.tree held) (IsNodeOf a.tree) (start (turns_from 0 ws)) (at [] c.in-Ok.queue)) asks c.in-Ok.ensures.walked in
    each_read (LeadsBy a.tree held) (IsNodeOf a.tree) (turns_from 0 (map (asked_by c.args.auto_peers) c.args.projects.now)) (at [] c.in-Ok.queue) _ (knows c.args.sources.now.shelves.now) (knows c.walked.new.ways.shelves.now) a b (λ ws is h. h.2) walks c.in-Ok.ensures.read

pub returns-in-Ok-clause-all : goal.returns-in-Ok-clause-all
returns-in-Ok-clause-all g c =
    let a = g.R.ReadFs.seen c.args.sources.now.registry.now in
    let b = g.R.ReadFs.seen c.walked.new.ways.registry.now in
    read_start _ (ReadsFor (knows c.args.sources.now.shelves.now) (knows c.walked.new.ways.shelves.now) a b) (turns_from 0 (map (asked_by c.args.auto_peers) c.args.projects.now)) (at [] c.in-Ok.queue) (λ ws is h. h.2.reads) c.in-Ok.ensures.read

pub returns-clause-once : goal.returns-clause-once
returns-clause-once g c =
    let a = g.R.ReadFs.seen c.args.sources.now.registry.now in
    let b = g.R.ReadFs.seen c.walked.new.ways.registry.now in
    let held = c.args.sources.now.held.now in
    let f = knows c.args.sources.now.shelves.now in
    let e = knows c.walked.new.ways.shelves.now in
    let asks : asked_of c.as_slice.result.now ≡ map (asked_by c.args.auto_peers) c.args.projects.now = ap asked_of c.as_slice.ensures.value ∙ c.in_ok-asks.ensures.wishes in
    subst (λ (ws : List (List Wish)). ReadsUntil f e a (LeadsBy a.tree held) (IsNodeOf a.tree) (turns_from 0 ws) b) asks
    (once_as (LeadsBy a.tree held) (IsNodeOf a.tree) _ (ReadsFor f e a b) (start (turns_from 0 (asked_of c.as_slice.result.now))) (λ ws is h. h.2) c.in-Err.ensures.once)
