use Rattle.std.proofs.Common.{◌≡◌, ◌++◌, ◌∷◌, [], ◌∙◌, ap, sym, subst, map, List, ℕ, Bor}
use Rattle.std.proofs.lemmas.List.{map-append}
use Rattle.pn_draft.specs.Sheets.{sheet}
use Rattle.pn_draft.proofs.Climbing.{IsGoing, under_part, sets_out, going_part, passes, arrives}
use Rattle.pn_draft.proofs.marks.unmarked.Goals as goal

pub parent-folder-requires : goal.parent-folder-requires
parent-folder-requires c = under_part _ _ c.requires

pub up-init : goal.up-init
up-init c = record {
  utf8 = c.parent-folder.utf8;
  going = subst (λ (l : List (Bor (List ℕ))). IsGoing (sheet c.args.marks.now) c.args.text.now c.parent-folder.result.now (map (λ f. f.now) l)) (sym c.new-folders.ensures.items)
      (sets_out _ _ _ c.requires c.parent-folder.ensures.parent);
}

pub parent-folder-requires-in-up : goal.parent-folder-requires-in-up
parent-folder-requires-in-up c = going_part _ _ _ _ c.up.invariant.going (sym c.contains_key.ensures ∙ c.up-test.true)

pub up-preserved : goal.up-preserved
up-preserved c =
    let items : map (λ (f : Bor (List ℕ)). f.now) c.push.new.self.items ≡ map (λ (f : Bor (List ℕ)). f.now) c.up.folders.items ++ c.up.folder.now ∷ [] =
    ap (map (λ (f : Bor (List ℕ)). f.now)) c.in_ok-push.ensures.items ∙ map-append (λ (f : Bor (List ℕ)). f.now) c.up.folders.items (c.up.folder ∷ []) in
    record {
      utf8 = c.parent-folder-in-up.utf8;
      going = subst (IsGoing (sheet c.args.marks.now) c.args.text.now c.parent-folder-in-up.result.now) (sym items)
          (passes _ _ _ _ _ c.up.invariant.going (sym c.contains_key.ensures ∙ c.up-test.true) c.parent-folder-in-up.ensures.parent);
    }

pub returns-clause-climbs : goal.returns-clause-climbs
returns-clause-climbs c = arrives _ _ _ _ c.up.invariant.going (sym c.contains_key.ensures ∙ c.up-test.false)
