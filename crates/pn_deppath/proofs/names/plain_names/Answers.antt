use Rattle.std.proofs.Common.{◌≡◌, List, ℕ, [], ◌∷◌, ◌++◌, map, take, sym, ap, ◌∙◌, subst, Some, ◌+◌}
use Rattle.std.specs.Prelude.{string_bytes, bytes_eq}
use Rattle.std.specs.BTreeMap.{get_by_text}
use Rattle.std.proofs.lemmas.List.{map_more}
use Rattle.std.proofs.lemmas.Map.Text.{btree_map_updates_text}
use Rattle.std.specs.Map.{update}
use Rattle.pn_deppath.specs.Folders.{plain_name}
use Rattle.pn_deppath.specs.Numbers.{HasNumbers}
use Rattle.pn_deppath.proofs.NumberLemmas.{names_more}
use Rattle.pn_deppath.proofs.names.plain_names.Goals as goal

pub loop-path-preserved : goal.loop-path-preserved
loop-path-preserved c =
    let paths = c.args.paths.now in
    let i = c.loop-path.path-index in
    let p = c.path-item.result in
    let old = c.loop-path.names in
    let new = c.insert.new.self in
    let name : string_bytes c.in_ok-name.name ≡ plain_name p = c.in_ok-name.ensures in
    let step = subst (λ (k : List ℕ). (q : List ℕ) → get_by_text new q ≡ update bytes_eq (get_by_text old) k (Some 0) q) name
    (btree_map_updates_text (string_bytes c.in_ok-name.name) old new (Some 0) c.in_ok-insert.ensures.updates) in
    let next : map plain_name (take (i + 1) paths) ≡ map plain_name (take i paths) ++ plain_name p ∷ [] =
    map_more plain_name paths i p c.loop-path-test.true ∙ ap (λ (x : List ℕ). map plain_name (take i paths) ++ plain_name x ∷ []) (sym c.path-item.is) in
    subst (λ (t : List (List ℕ)). HasNumbers new t (λ q. 0)) (sym next) (names_more old new (map plain_name (take i paths)) (plain_name p) c.loop-path.invariant step)
