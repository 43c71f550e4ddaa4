use Rattle.std.proofs.Common.{◌<◌, ◌∙◌, ap, sym, arith, length, inl, inr}
use Rattle.std.specs.BTreeSet.{contains_text}
use Rattle.pn_digest.specs.Listing.{has_feed}
use Rattle.pn_digest.proofs.IsBadAtLemmas.{none_bad_more, first_bad, bad_nowhere, entries_all}
use Rattle.pn_digest.proofs.files.first_bad.Goals as goal
use Rattle.pn_digest.proofs.files.first_bad.Goals.{then-has_feed-via-then-has_feed, then-has_feed-via-else-has_feed+then-contains}

pub returns-then-has_feed-clause-first : goal.returns-then-has_feed-clause-first
returns-then-has_feed-clause-first c =
    let text = c.text_of-text.ensures.text in
    let has = contains_text c.args.folders.now in
    let within : c.loop-i.i < length c.args.files.now = omega (arith, c.loop-i-test.true) in
    first_bad c.args.files.now has c.loop-i.i c.index-files-i.result c.requires c.loop-i.invariant within c.index-files-i.is c.text_of-text.ensures.path
    (elim c.then-has_feed.branch [
      | then-has_feed-via-then-has_feed w ↦ inl (ap has_feed (sym text) ∙ sym c.has_feed.ensures ∙ w.if-has_feed.true)
      | then-has_feed-via-else-has_feed+then-contains w ↦ inr (ap has (sym text) ∙ sym w.contains.ensures ∙ w.if-contains.true)
    ])

pub loop-i-preserved : goal.loop-i-preserved
loop-i-preserved c =
    let text = c.text_of-text.ensures.text in
    let has = contains_text c.args.folders.now in
    let within : c.loop-i.i < length c.args.files.now = omega (arith, c.loop-i-test.true) in
    none_bad_more c.args.files.now has c.loop-i.i c.index-files-i.result c.requires c.loop-i.invariant within c.index-files-i.is c.text_of-text.ensures.path c.text_of-text.ensures.digest
    (ap has_feed (sym text) ∙ sym c.has_feed.ensures ∙ c.if-has_feed.false) (ap has (sym text) ∙ sym c.contains.ensures ∙ c.if-contains.false)

pub returns-clause-first : goal.returns-clause-first
returns-clause-first c = bad_nowhere c.args.files.now c.loop-i.i (omega (arith, c.loop-i-test.false)) c.loop-i.invariant

pub returns-clause-entries : goal.returns-clause-entries
returns-clause-entries c = λ _. entries_all c.args.files.now c.loop-i.i (omega (arith, c.loop-i-test.false)) c.loop-i.invariant
