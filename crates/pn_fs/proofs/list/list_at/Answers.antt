use Rattle.std.proofs.Common.{◌≡◌, ap, sym, ◌∙◌, subst, ◌∷◌, [], ◌++◌, Some, refl}
use Rattle.std.specs.Prelude.{string_bytes}
use Rattle.std.specs.List.{All}
use Rattle.std.specs.BTreeMap.{get_by_text}
use Rattle.pn_text.specs.Path.{text_below}
use Rattle.pn_fs.specs.Calls.{IsListing}
use Rattle.pn_fs.specs.Nodes.{rooted}
use Rattle.pn_fs.proofs.Listings.{forward, listing, names_in, names_step, names_all}
use Rattle.pn_fs.proofs.list.list_at.Goals as goal

pub range-key-items-requires : goal.range-key-items-requires
range-key-items-requires c = forward c.args.nodes.now (text_below c.args.path.now) c.in_ok-first.first c.in_ok-past.past c.in_ok-first.ensures.text c.in_ok-past.ensures.text

pub loop-key-preserved : goal.loop-key-preserved
loop-key-preserved c =
    names_step (string_bytes c.in_ok-front.front) c.loop-key.names.items c.add_name.new.names.items _ c.loop-key.key-iterator c.next.new.self (c.in-Some.key.now, c.in-Some._body.now)
    c.as_str-in-loop-key.result.now c.as_str.result.now c.in-Some.ensures.steps c.as_str-in-loop-key.ensures.value c.as_str.ensures.value c.in_ok-add_name.ensures.ok c.loop-key.invariant

pub returns-clause-names : goal.returns-clause-names
returns-clause-names c =
    let m = c.args.nodes.now in
    let p = c.args.path.now in
    let range = c.range-key-items.ensures in
    let are = c.into_iter-key-iterator.ensures.into_iter_gives ∙ range.between tt in
    let names = names_all (string_bytes c.in_ok-front.front) (text_below p ++ 47 ∷ []) c.loop-key.names.items c.loop-key.key-iterator c.into_iter-key-iterator.result c.in_ok-front.ensures.text c.in-None.ensures.steps.0 c.loop-key.invariant in
    let found = subst (All (λ e. get_by_text m (string_bytes e.0) ≡ Some e.1)) (range.between tt) (λ k d h. ((range.in_range tt).0 k d h).1) in
    subst (IsListing (rooted m) p) (sym (names ∙ ap (names_in (text_below p ++ 47 ∷ [])) are))
    (listing m (text_below p) c.in_ok-first.first c.in_ok-past.past c.in_ok-first.ensures.text c.in_ok-past.ensures.text p refl c.edge.ensures.good found range.ordered)
