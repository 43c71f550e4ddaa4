-- What a flow still has to print behind some of its entries, and how lists and maps of a block begin.
use Rattle.std.proofs.Common.{Bool, false, length, get_or, true, add-one, ◌≡◌, ℕ, zero, suc, ◌+◌, ◌<◌, ◌≤◌, List, [], ◌∷◌, ◌++◌, drop, refl, sym, ap, ◌∙◌, arith, append_assoc}
use Rattle.std.specs.Prelude.{◌==◌, replicate, take}
use Rattle.std.proofs.lemmas.List.{drop_more}
use Rattle.pn_yaml.specs.Bytes.{space}
use Rattle.pn_yaml.specs.Data.{Data, map, Items, Members, member}
use Rattle.pn_yaml.specs.View.{view, items_view, members_view}
use Rattle.pn_yaml_print.specs.Printing.{Level, flow_text, items_lines, members_lines, value_lines, items_text, later_items_text, members_text, later_members_text, key_text, spaces}
use Rattle.pn_yaml_print.specs.Levels.{list_lines}
use Rattle.pn_yaml.specs.declared.node.Node.{Node}

pub take-spaces : (n m : ℕ) → n ≤ m → take n (replicate m 32) ≡ spaces n
take-spaces zero m h = refl
take-spaces (suc n) zero h = absurd (omega arith)
take-spaces (suc n) (suc m) h = ap (λ y. 32 ∷ y) (take-spaces n m (omega arith))

-- what stands before the entry at an index, and what is printed from there on
abbrev pub comma : ℕ → List ℕ
comma zero = []
comma (suc i) = 44 ∷ 32 ∷ []

abbrev pub items_from : ℕ → Items → List ℕ
items_from zero ds = items_text ds
items_from (suc i) ds = later_items_text ds

abbrev pub members_from : ℕ → Members → List ℕ
members_from zero ms = members_text ms
members_from (suc i) ms = later_members_text ms

member_text : (i : ℕ) (k : List ℕ) (d : Data) (ms : Members) → members_from i (member k d ms) ≡ (comma i ++ (key_text true k ++ space ∷ flow_text d)) ++ later_members_text ms
member_text zero k d ms = sym (append_assoc (key_text true k) (space ∷ flow_text d) (later_members_text ms))
member_text (suc i) k d ms = ap (λ y. 44 ∷ space ∷ y) (sym (append_assoc (key_text true k) (space ∷ flow_text d) (later_members_text ms)))

members_later : (i : ℕ) (ms : Members) → members_from (i + 1) ms ≡ later_members_text ms
members_later i ms = rw add-one refl

-- one member more
pub members_more : (i : ℕ) (xs : List (List ℕ × Node)) (m : List ℕ × Node) (out mid new all : List ℕ) → i < length xs → m ≡ get_or xs i m → mid ≡ out ++ comma i
    → new ≡ mid ++ (key_text true m.0 ++ space ∷ flow_text (view m.1)) → out ++ members_from i (members_view (drop i xs)) ≡ all
    → new ++ members_from (i + 1) (members_view (drop (i + 1) xs)) ≡ all
members_more i xs m out mid new all lt is front more so_far =
    let here : drop i xs ≡ m ∷ drop (i + 1) xs = drop_more xs i m lt ∙ ap (λ y. y ∷ drop (i + 1) xs) (sym is) in
    let rest = members_view (drop (i + 1) xs) in
    let one = key_text true m.0 ++ space ∷ flow_text (view m.1) in
    let text : members_from i (members_view (drop i xs)) ≡ (comma i ++ one) ++ later_members_text rest = ap (λ ys. members_from i (members_view ys)) here ∙ member_text i m.0 (view m.1) rest in
    let whole : new ≡ out ++ (comma i ++ one) = more ∙ ap (λ y. y ++ one) front ∙ append_assoc out (comma i) one in
    ap (λ y. new ++ y) (members_later i rest) ∙ ap (λ y. y ++ later_members_text rest) whole ∙ append_assoc out (comma i ++ one) (later_members_text rest)
    ∙ ap (λ y. out ++ y) (sym text) ∙ so_far

pub comma_none : (i : ℕ) → i ≤ 0 → comma i ≡ []
comma_none zero h = refl
comma_none (suc i) h = absurd (omega arith)

pub comma_some : (i : ℕ) → 0 < i → comma i ≡ 44 ∷ 32 ∷ []
comma_some zero h = absurd (omega arith)
comma_some (suc i) h = refl

pub list_opens : (indent : ℕ) (ns : List Node) → (length ns == 0) ≡ false → list_lines indent (items_view ns) ≡ 10 ∷ items_lines (2 + indent) (items_view ns)
list_opens indent [] h = cc
list_opens indent (n ∷ ns) h = refl

pub map_opens : (level : Level) (flow : Bool) (indent : ℕ) (ms : List (List ℕ × Node)) → flow ≡ false → (length ms == 0) ≡ false
    → value_lines level flow indent (map (members_view ms)) ≡ 10 ∷ members_lines level (2 + indent) (members_view ms)
map_opens level flow indent [] f h = cc
map_opens level true indent (m ∷ ms) f h = cc
map_opens level false indent (m ∷ ms) f h = refl
