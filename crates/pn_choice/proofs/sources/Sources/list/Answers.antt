use Rattle.std.proofs.Common.{◌≡◌, List, ℕ, false, ap, sym, ◌∙◌}
use Rattle.std.specs.Prelude.{is_some}
use Rattle.std.specs.BTreeMap.{get_by_text}
use Rattle.pn_text.proofs.Results.{any_err}
use Rattle.pn_choice.specs.Calls.{knows}
use Rattle.pn_choice.specs.Goes.{learns_nothing}
use Rattle.pn_choice.proofs.CachedLemmas.{unknown}
use Rattle.pn_choice.proofs.CallsLemmas.{reads_listing, learns_listing}
use Rattle.pn_choice.proofs.sources.Sources.list.Goals as goal

pub returns-in_err-list-clause-once : goal.returns-in_err-list-clause-once
returns-in_err-list-clause-once g c =
    let shelves = c.args.self.now.shelves.now in
    unknown shelves c.args.name.now (g.R.ReadFs.seen c.args.self.now.registry.now) (g.R.ReadFs.seen c.shelf.new.registry)
    (ap (λ (n : List ℕ). is_some (get_by_text shelves n)) (sym c.as_str.ensures.text) ∙ sym c.contains_key.ensures ∙ c.if-contains_key.false)

pub returns-in_err-keep-clause-once : goal.returns-in_err-keep-clause-once
returns-in_err-keep-clause-once g c =
    let shelves = c.args.self.now.shelves.now in
    unknown shelves c.args.name.now (g.R.ReadFs.seen c.args.self.now.registry.now) (g.R.ReadFs.seen c.shelf.new.registry)
    (ap (λ (n : List ℕ). is_some (get_by_text shelves n)) (sym c.as_str.ensures.text) ∙ sym c.contains_key.ensures ∙ c.if-contains_key.false)

pub returns-clause-once : goal.returns-clause-once
returns-clause-once g c =
    let shelves = c.args.self.now.shelves.now in
    unknown shelves c.args.name.now (g.R.ReadFs.seen c.args.self.now.registry.now) (g.R.ReadFs.seen c.shelf.new.registry)
    (ap (λ (n : List ℕ). is_some (get_by_text shelves n)) (sym c.as_str.ensures.text) ∙ sym c.contains_key.ensures ∙ c.if-contains_key.false)

pub returns-then-contains_key-clause-learns : goal.returns-then-contains_key-clause-learns
returns-then-contains_key-clause-learns g c = learns_nothing (λ n. n ≡ c.args.name.now) (knows c.args.self.now.shelves.now) (g.R.ReadFs.seen c.args.self.now.registry.now)

pub returns-in_err-list-clause-reads : goal.returns-in_err-list-clause-reads
returns-in_err-list-clause-reads g c =
    let shelves = c.args.self.now.shelves.now in
    let fresh : knows shelves c.args.name.now ≡ false = ap (λ (n : List ℕ). is_some (get_by_text shelves n)) (sym c.as_str.ensures.text) ∙ sym c.contains_key.ensures ∙ c.if-contains_key.false in
    any_err c.from_residual.result (reads_listing (knows shelves) (knows shelves) c.args.name.now (g.R.ReadFs.seen c.args.self.now.registry.now) (g.R.ReadFs.seen c.shelf.new.registry) c.shelf.ensures.kept c.shelf.ensures.gave fresh (λ n known. known))

pub returns-in_err-keep-clause-reads : goal.returns-in_err-keep-clause-reads
returns-in_err-keep-clause-reads g c =
    let shelves = c.args.self.now.shelves.now in
    let fresh : knows shelves c.args.name.now ≡ false = ap (λ (n : List ℕ). is_some (get_by_text shelves n)) (sym c.as_str.ensures.text) ∙ sym c.contains_key.ensures ∙ c.if-contains_key.false in
    any_err c.from_residual-in_err-keep.result (reads_listing (knows shelves) (knows c.keep.new.shelves) c.args.name.now (g.R.ReadFs.seen c.args.self.now.registry.now) (g.R.ReadFs.seen c.shelf.new.registry) c.shelf.ensures.kept c.shelf.ensures.gave fresh c.keep.ensures.known)

pub returns-clause-learns : goal.returns-clause-learns
returns-clause-learns g c =
    let shelves = c.args.self.now.shelves.now in
    let fresh : knows shelves c.args.name.now ≡ false = ap (λ (n : List ℕ). is_some (get_by_text shelves n)) (sym c.as_str.ensures.text) ∙ sym c.contains_key.ensures ∙ c.if-contains_key.false in
    learns_listing (knows shelves) (knows c.keep.new.shelves) c.args.name.now (g.R.ReadFs.seen c.args.self.now.registry.now) (g.R.ReadFs.seen c.shelf.new.registry) c.shelf.ensures.kept c.shelf.ensures.gave fresh c.keep.ensures.known c.in_ok-keep.ensures.listed
