use Rattle.std.proofs.Common.{◌≡◌, true, false, ap, ◌∙◌}
use Rattle.std.specs.Prelude.{◌&&◌, not}
use Rattle.std.specs.List.{list_any}
use Rattle.pn_glob.specs.Matching.{Patterns, fits, list_matches}
use Rattle.pn_glob.proofs.Braces.{items_of}
use Rattle.pn_glob.proofs.Heads.{any-items}
use Rattle.pn_glob.proofs.list.PatternList.matches.Goals as goal

pub returns-then-some_fits : goal.returns-then-some_fits
returns-then-some_fits c =
    let kind = c.self.inside.kind in
    let positive : true ≡ list_any (λ p. fits kind p c.args.text.now) (items_of c.self.inside.positive.items) =
    c.if-some_fits.ensures ∙ any-items kind c.as_bytes.result.now c.args.text.now c.deref.result.now c.self.inside.positive.items c.as_bytes.ensures.value c.deref.ensures.value in
    let negative = c.some_fits-then-some_fits.ensures
    ∙ any-items kind c.as_bytes-then-some_fits.result.now c.args.text.now c.deref-then-some_fits.result.now c.self.inside.negative.items c.as_bytes-then-some_fits.ensures.value c.deref-then-some_fits.ensures.value in
    ap not negative ∙ ap (λ z. z && not (list_any (λ p. fits kind p c.args.text.now) (items_of c.self.inside.negative.items))) positive ∙ ap (λ (l : Patterns). list_matches l c.args.text.now) c.self.view_is

pub returns-else-some_fits : goal.returns-else-some_fits
returns-else-some_fits c =
    let kind = c.self.inside.kind in
    let positive : false ≡ list_any (λ p. fits kind p c.args.text.now) (items_of c.self.inside.positive.items) =
    c.if-some_fits.ensures ∙ any-items kind c.as_bytes.result.now c.args.text.now c.deref.result.now c.self.inside.positive.items c.as_bytes.ensures.value c.deref.ensures.value in
    c.if-some_fits.false ∙ ap (λ z. z && not (list_any (λ p. fits kind p c.args.text.now) (items_of c.self.inside.negative.items))) positive ∙ ap (λ (l : Patterns). list_matches l c.args.text.now) c.self.view_is
