use Rattle.std.proofs.Common.{◌≡◌, ◌<◌, ◌∙◌, sym, subst, arith, length, List, ℕ, true, false, cond}
use Rattle.std.specs.Prelude.{string_bytes}
use Rattle.std.specs.Str.{bytes_eq}
use Rattle.std.specs.BTreeSet.{contains_text}
use Rattle.std.proofs.lemmas.Map.Text.{btree_set_updates_text}
use Rattle.pn_digest.specs.Listing.{rel_text}
use Rattle.pn_digest.proofs.IsTwiceAtLemmas.{none_twice_more, first_twice, twice_nowhere}
use Rattle.pn_digest.proofs.files.first_twice.Goals as goal
use Rattle.pn_text.proofs.Bools.{not_false, not_true}

pub returns-then-not-is_new : goal.returns-then-not-is_new
returns-then-not-is_new c =
    let has = contains_text c.loop-i.seen in
    let within : c.loop-i.i < length c.args.files.now = omega (arith, c.loop-i-test.true) in
    let key : string_bytes c.in_ok-text.text ≡ rel_text c.index-files-i.result.0 = c.in_ok-text.ensures.ok ∙ c.text_of.ensures.text in
    let old : has (string_bytes c.in_ok-text.text) ≡ true = not_false _ (sym c.in_ok-is_new.ensures.added ∙ c.if-not-is_new.true) in
    first_twice c.args.files.now has c.loop-i.i c.index-files-i.result c.loop-i.invariant within c.index-files-i.is c.text_of.ensures.path
    (subst (λ t. has t ≡ true) key old)

pub loop-i-preserved : goal.loop-i-preserved
loop-i-preserved c =
    let has = contains_text c.loop-i.seen in
    let has' = contains_text c.insert.new.self in
    let within : c.loop-i.i < length c.args.files.now = omega (arith, c.loop-i-test.true) in
    let key : string_bytes c.in_ok-text.text ≡ rel_text c.index-files-i.result.0 = c.in_ok-text.ensures.ok ∙ c.text_of.ensures.text in
    let new : has (string_bytes c.in_ok-text.text) ≡ false = not_true _ (sym c.in_ok-is_new.ensures.added ∙ c.if-not-is_new.false) in
    let adds = btree_set_updates_text (string_bytes c.in_ok-text.text) c.loop-i.seen c.insert.new.self true c.in_ok-is_new.ensures.updates in
    none_twice_more c.args.files.now has c.loop-i.i c.index-files-i.result c.loop-i.invariant within c.index-files-i.is c.text_of.ensures.path has'
    (subst (λ t. has t ≡ false) key new)
    (subst (λ s. (t : List ℕ) → has' t ≡ cond (bytes_eq s t) true (has t)) key adds)

pub returns : goal.returns
returns c = twice_nowhere c.args.files.now (contains_text c.loop-i.seen) c.loop-i.i (omega (arith, c.loop-i-test.false)) c.loop-i.invariant
