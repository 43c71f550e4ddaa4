-- Paths with a line feed in a part.
use Rattle.std.proofs.Common.{◌≡◌, ℕ, ◌+◌, ◌-◌, List, [], ◌∷◌, ◌++◌, length, take, refl, ap, ◌∙◌, arith, true, false, Some, None, length-append}
use Rattle.std.specs.Prelude.{Bool, Option, ◌==◌, ◌||◌, if◌then◌else◌}
use Rattle.std.specs.List.{list_any}
use Rattle.std.proofs.lemmas.List.Folds.{list_any-append}
use Rattle.pn_text.specs.Path.{Path, text_below, SpellsParts}
use Rattle.pn_fs.specs.Tree.{Entry, Tree, file}
use Rattle.pn_read.specs.Small.{IsFileOf}
use Rattle.pn_registry.specs.Files.{holds_line_feed, entry_below}
use Rattle.pn_registry.specs.Turns.{path_from, without_line_feeds}

or_comm : (a b : Bool) → (a || b) ≡ (b || a)
or_comm true true = refl
or_comm true false = refl
or_comm false true = refl
or_comm false false = refl

text_feeds : (p : Path) → list_any (λ b. b == 10) (text_below p) ≡ holds_line_feed p
text_feeds [] = refl
text_feeds (x ∷ p) =
    list_any-append (λ b. b == 10) (text_below p) (47 ∷ x)
    ∙ ap (λ o. o || list_any (λ b. b == 10) x) (text_feeds p)
    ∙ or_comm (holds_line_feed p) (list_any (λ b. b == 10) x)

-- a path's text has a line feed where one of its parts has
pub spelled_feeds : (text : List ℕ) (p : Path) → SpellsParts text p → list_any (λ b. b == 10) text ≡ holds_line_feed p
spelled_feeds text p s = ap (list_any (λ b. b == 10)) s.spelled ∙ text_feeds p

take_front : (q at : Path) → take (length q) (q ++ at) ≡ q
take_front [] at = refl
take_front (x ∷ q) at = ap (λ (p : Path). x ∷ p) (take_front q at)

pub path_from_is : (at q : Path) → path_from at (q ++ at) ≡ q
path_from_is at q =
    let n : length (q ++ at) - length at ≡ length q = omega (arith, length-append q at) in
    ap (λ k. take k (q ++ at)) n ∙ take_front q at

-- what stands below the folder in the tree without such paths
pub told_below : (t : Tree) (at q : Path) → without_line_feeds at t (q ++ at) ≡ entry_below t at q
told_below t at q = ap (λ (z : Path). if holds_line_feed z then None else t (q ++ at)) (path_from_is at q)

was_there : (b : Bool) (e : Option Entry) (f : Entry) → (if b then None else e) ≡ Some f → e ≡ Some f
was_there true e f h = cc h
was_there false e f h = h

pub told_there : (t : Tree) (at p : Path) (f : Entry) → without_line_feeds at t p ≡ Some f → t p ≡ Some f
told_there t at p f h = was_there (holds_line_feed (path_from at p)) (t p) f h

pub below_there : (t : Tree) (at q : Path) (f : Entry) → entry_below t at q ≡ Some f → t (q ++ at) ≡ Some f
below_there t at q f h = was_there (holds_line_feed q) (t (q ++ at)) f h

pub file_there : (t : Tree) (at q : Path) (n : ℕ) → IsFileOf n (entry_below t at q) → IsFileOf n (t (q ++ at))
file_there t at q n f = (f.0, below_there t at q (file f.0) f.1, f.2)
