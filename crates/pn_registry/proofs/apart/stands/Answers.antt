use Rattle.std.proofs.Common.{◌∷◌, rules, sym, subst, map}
use Rattle.std.specs.Bool.{MatchBool}
use Rattle.std.specs.Cmp.Lexicographic.{slice_cmp}
use Rattle.std.specs.Ordering.{nat_cmp}
use Rattle.std.proofs.lemmas.Fn.{always_returns_same}
use Rattle.pn_registry.specs.Listed.{file_of, text_of}
use Rattle.pn_registry.specs.Apart.{HasText}
use Rattle.pn_registry.proofs.Above.{searched}
use Rattle.pn_registry.proofs.apart.stands.Goals as goal

pub returns : goal.returns
returns c =
    let facts = c.binary_search_by.ensures in
    let x = 47 ∷ c.args.text.now in
    let found = facts.position (λ y. slice_cmp nat_cmp (text_of y) x) (always_returns_same _ _ _ (λ a r g called. search rules)) in
    subst (λ b. MatchBool b (HasText (map file_of c.args.files.now) x) (HasText (map file_of c.args.files.now) x → ⊥)) (sym c.is_ok.ensures.value) (searched x c.args.files.now c.binary_search_by.result c.requires facts.bound found)
