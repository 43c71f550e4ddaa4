use Rattle.std.proofs.Common.{◌≡◌, ◌≤◌, ◌<◌, ◌++◌, ◌∷◌, arith, ℕ, List, Vec, Global, length, ap, subst, ◌∙◌}
use Rattle.std.proofs.lemmas.List.{length-map}
use Rattle.pn_glob.specs.Grammar.{each_with}
use Rattle.pn_glob.specs.Reading.{StopsIn}
use Rattle.pn_glob.proofs.Braces.{chosen-at, closed-grown, comma-opened, exit_with, items_of, many-stops, no-choice, opened-start}
use Rattle.pn_glob.proofs.choices.brace.Goals as goal

counted : (vs ws : List (Vec ℕ Global)) → ws ≡ vs → length ws ≡ length (items_of vs)
counted vs ws e = let l = length-map vs (λ (v : Vec ℕ Global). v.items) in let d = ap (λ (y : List (Vec ℕ Global)). length y) e in omega arith

few : (vs ws : List (Vec ℕ Global)) → ws ≡ vs → length ws ≤ 64 → length (items_of vs) ≤ 64
few vs ws e h = subst (λ n. n ≤ 64) (counted vs ws e) h

many : (vs ws : List (Vec ℕ Global)) → ws ≡ vs → 64 < length ws → 64 < length (items_of vs)
many vs ws e h = subst (λ n. 64 < n) (counted vs ws e) h

pushed : (vs ws : List (Vec ℕ Global)) (ds es : List (List ℕ)) (x : List ℕ) → ws ≡ vs → es ≡ ds ++ each_with (items_of ws) x → es ≡ ds ++ each_with (items_of vs) x
pushed vs ws ds es x e h = h ∙ ap (λ (y : List (Vec ℕ Global)). ds ++ each_with (items_of y) x) e

pub choices-init : goal.choices-init
choices-init c = opened-start (items_of c.args.texts.items) c.args.text.now (items_of c.new-grown.result.items) (ap items_of c.new-grown.ensures.items)

pub returns-in_err-more-clause-err : goal.returns-in_err-more-clause-err
returns-in_err-more-clause-err c = exit_with (StopsIn (items_of c.args.texts.items) (123 ∷ c.args.text.now)) _ _ c.from_residual.ensures.1
    (no-choice (items_of c.args.texts.items) c.args.text.now (items_of c.choices.grown.items) c.choices.rest.now _ c.choices.invariant c.in_err-more.ensures.err)

pub returns-then-are_many-clause-err : goal.returns-then-are_many-clause-err
returns-then-are_many-clause-err c = many-stops (items_of c.args.texts.items) c.args.text.now _ c.in_ok-more.b c.in_ok-more.behind.now
    (chosen-at _ _ _ c.choices.rest.now c.in_ok-more.more.now _ _ _ c.choices.invariant c.in_ok-more.ensures.ok c.in_ok-move_each.ensures.ok)
    (many c.move_each.new.grown.items _ c.deref.ensures.value (c.are_many.ensures.0 c.if-are_many.true))

pub returns-then-b-eq125-clause-ok : goal.returns-then-b-eq125-clause-ok
returns-then-b-eq125-clause-ok c = closed-grown (items_of c.args.texts.items) c.args.text.now _ c.in_ok-more.b c.in_ok-more.behind.now
    (chosen-at _ _ _ c.choices.rest.now c.in_ok-more.more.now _ _ _ c.choices.invariant c.in_ok-more.ensures.ok c.in_ok-move_each.ensures.ok)
    c.if-b-eq125.true
    (few c.move_each.new.grown.items _ c.deref.ensures.value (c.are_many.ensures.1 c.if-are_many.false))

pub returns-then-are_many-2-clause-err : goal.returns-then-are_many-2-clause-err
returns-then-are_many-2-clause-err c = many-stops (items_of c.args.texts.items) c.args.text.now _ c.in_ok-more.b c.in_ok-more.behind.now
    (chosen-at _ _ _ c.choices.rest.now c.in_ok-more.more.now _ _ _ c.choices.invariant c.in_ok-more.ensures.ok
    (pushed c.args.texts.items _ _ _ _ c.deref-in-choices.ensures.value c.in_ok-push_each.ensures.ok))
    (many c.push_each.new.grown.items _ c.deref-in-choices-2.ensures.value (c.are_many-in-choices.ensures.0 c.if-are_many-2.true))

pub choices-preserved : goal.choices-preserved
choices-preserved c = comma-opened (items_of c.args.texts.items) c.args.text.now _ c.in_ok-more.b c.in_ok-more.behind.now
    (chosen-at _ _ _ c.choices.rest.now c.in_ok-more.more.now _ _ _ c.choices.invariant c.in_ok-more.ensures.ok
    (pushed c.args.texts.items _ _ _ _ c.deref-in-choices.ensures.value c.in_ok-push_each.ensures.ok))
    c.if-b-eq125.false
    (few c.push_each.new.grown.items _ c.deref-in-choices-2.ensures.value (c.are_many-in-choices.ensures.1 c.if-are_many-2.false))
