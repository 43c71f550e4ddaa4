-- Lemmas on what drawing one path makes of a sheet.
use Rattle.std.proofs.Common.{◌≡◌, ℕ, List, [], ◌∷◌, ◌++◌, sym, ap, ◌∙◌, subst, true, Some}
use Rattle.std.specs.Prelude.{IsTrue}
use Rattle.std.specs.List.{Contains}
use Rattle.std.specs.Map.{update}
use Rattle.std.specs.Str.{bytes_eq}
use Rattle.pn_text.specs.Path.{Path, is_path, text_below}
use Rattle.pn_digest.specs.declared.planned.Planned.{Planned}
use Rattle.pn_draft.specs.Drawing.{is_below}
use Rattle.pn_draft.specs.Sheets.{Sheet, IsWhole, with_folders, Climbs, Draws, DrawsPart}
use Rattle.pn_draft.proofs.Marked.{tail_path}
use Rattle.pn_draft.proofs.Raising.{IsRaised, raised, part_raised, part_drawn, leaf_drawn}

pub draws : (g h new : Sheet) (text : List ℕ) (fs : List (List ℕ)) (w : Planned) → ((p : Path) → IsTrue (is_path p) → text ≡ text_below p → Climbs g p fs) → h ≡ with_folders g fs
    → ((cs : List ℕ) → new cs ≡ update bytes_eq h text (Some w) cs) → (tops : List Path) (m p : Path) → IsWhole tops g → Contains tops m → IsTrue (is_path p) → text ≡ text_below p → is_below m p ≡ true → Draws tops p w g new
draws g h new text fs w climbs folders last tops m [] whole c good spelled below = cc
draws g h new text fs w climbs folders last tops m (x ∷ v) whole c good spelled below =
    let r : IsRaised tops m g v h = subst (IsRaised tops m g v) (sym folders) (raised tops m g x v fs whole c (tail_path x v good) below (climbs (x ∷ v) good spelled)) in
    let l = leaf_drawn tops m g h x v w c good below r in
    let same : new ≡ update bytes_eq h text (Some w) = λ i cs. last cs i in
    subst (Draws tops (x ∷ v) w g) (sym (same ∙ ap (λ t. update bytes_eq h t (Some w)) spelled)) (record { whole = l.0; drawn = l.1 })

pub draws_part : (g new : Sheet) (text : List ℕ) (fs before after : List (List ℕ)) (w : Planned) → ((p : Path) → IsTrue (is_path p) → text ≡ text_below p → Climbs g p fs) → fs ≡ before ++ after → new ≡ with_folders g after
    → (tops : List Path) (m p : Path) → IsWhole tops g → Contains tops m → IsTrue (is_path p) → text ≡ text_below p → is_below m p ≡ true → DrawsPart tops p w g new
draws_part g new text fs before after w climbs split folders tops m [] whole c good spelled below = cc
draws_part g new text fs before after w climbs split folders tops m (x ∷ v) whole c good spelled below =
    let p = part_raised tops m g x v before after whole c (tail_path x v good) below (subst (Climbs g (x ∷ v)) split (climbs (x ∷ v) good spelled)) in
    subst (DrawsPart tops (x ∷ v) w g) (sym folders) (record { whole = p.raised.whole; drawn = part_drawn tops m g (with_folders g after) x v w whole c below p })
