use Rattle.std.proofs.Common.{◌≡◌, List, ℕ, [], ◌∷◌, ◌++◌, map, take, get_or, sym, ap, ◌∙◌}
use Rattle.std.specs.Prelude.{Option, unwrap_or}
use Rattle.std.specs.BTreeMap.{get_by_text}
use Rattle.std.proofs.lemmas.List.{map_more}
use Rattle.pn_deppath.specs.Folders.{folder_name}
use Rattle.pn_deppath.proofs.folder.in_order.Goals as goal

pub unreachable-requires : goal.unreachable-requires
unreachable-requires c =
    let i = c.loop-path.path-index in
    let p = c.path-item.result in
    let got = c.in-None.ensures.value in
    let key : c.as_str.result.now ≡ get_or c.args.paths.now i p = c.as_str.ensures ∙ c.path-item.is in
    let one = c.requires i p c.loop-path-test.true in
    let same = ap (get_by_text c.args.folders.now) key in
    cc (got, one, same)

pub loop-path-preserved : goal.loop-path-preserved
loop-path-preserved c =
    let paths = c.args.paths.now in
    let i = c.loop-path.path-index in
    let p = c.path-item.result in
    let got = c.in-Some.ensures.value in
    let key : c.as_str.result.now ≡ get_or paths i p = c.as_str.ensures ∙ c.path-item.is in
    let one = c.requires i p c.loop-path-test.true in
    let same = ap (get_by_text c.args.folders.now) key in
    let name : c.in-Some.name.now ≡ folder_name paths (get_or paths i p) = ap (λ (o : Option (List ℕ)). unwrap_or o []) (got ∙ same ∙ one) in
    c.in_ok-push-in-Some.ensures.items ∙ ap (λ (t : List (List ℕ)). t ++ c.in_ok-copy-in-Some.field-0 ∷ []) c.loop-path.invariant
    ∙ ap (λ (x : List ℕ). map (folder_name paths) (take i paths) ++ x ∷ []) (c.in_ok-copy-in-Some.ensures ∙ name) ∙ sym (map_more (folder_name paths) paths i p c.loop-path-test.true)
