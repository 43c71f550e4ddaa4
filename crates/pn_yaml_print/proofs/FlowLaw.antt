-- Data printed as a flow is read back, and what stands behind it is left.
use Rattle.std.proofs.Common.{◌≡◌, ◌≤◌, ℕ, zero, suc, max, Bool, true, false, List, [], ◌∷◌, ◌++◌, length, Ok, Result, refl, sym, ap, subst, ◌∙◌, append_assoc, arith}
use Rattle.std.specs.Prelude.{◌==◌, ◌&&◌, ◌||◌, not, codes, if◌then◌else◌}
use Rattle.std.proofs.lemmas.List.{length-append}
use Rattle.std.proofs.lemmas.Bool.{and_parts, not-true}
use Rattle.pn_yaml.specs.declared.fault.Why.TheVariants as why
use Rattle.pn_yaml.specs.declared.fault.YamlFault.{YamlFault}
use Rattle.pn_yaml.specs.declared.scalar.Place.TheVariants as place
use Rattle.pn_yaml.specs.Bytes.{space, starts, is_empty, tail_of, unindented, is_bare}
use Rattle.pn_yaml.specs.Data.{Data, scalar, list, map, Items, no_items, item, Members, no_members, member, depth, items_depth, members_depth, is_among, are_apart, items_apart, members_apart}
use Rattle.pn_yaml.specs.Flow.{Reader, behind_value, flow_at, flow_items, flow_key, flow_member, flow_members, flow_value, is_flow, list_in, map_in, with_item, with_member}
use Rattle.pn_yaml.specs.Outcome.{◌>>=◌, wrong}
use Rattle.pn_yaml.specs.Scalars.{Word, is_colon, word_at}
use Rattle.pn_yaml_print.specs.PrintedScalars.{is_one_of, is_plain, word_text}
use Rattle.pn_yaml_print.specs.Printing.{flow_text, items_text, later_items_text, members_text, later_members_text, key_text, flow_marked, flow_items_marked, flow_members_marked}
use Rattle.pn_yaml_print.proofs.ByteTests.{apart, fewer}
use Rattle.pn_yaml_print.proofs.PlainLaw.{may_end}
use Rattle.pn_yaml_print.proofs.WordLaw.{Begins, word_begins, word_law}

abbrev shut : List ℕ
shut = codes "]}# "

-- a byte that a printed value or key may begin with
abbrev opens_value : ℕ → Bool
opens_value b = not (is_one_of shut b)

word_opens : (flow : Bool) (text : List ℕ) (plain : Bool) → Begins opens_value (word_text flow text plain)
word_opens flow text plain =
    let b = word_begins flow text plain in
    record { first = b.first; later = b.later; whole = b.whole; good = ap not (fewer shut (codes "-?:,[]{}#&*!|>%@` ") b.first refl (not-true _ b.good)) }

flow_opens : (d : Data) → Begins opens_value (flow_text d)
flow_opens (scalar text plain) = word_opens true text plain
flow_opens (list ds) = record { first = 91; later = items_text ds ++ 93 ∷ []; whole = refl; good = refl }
flow_opens (map ms) = record { first = 123; later = members_text ms ++ 125 ∷ []; whole = refl; good = refl }

opens_more : (y tail : List ℕ) → Begins opens_value y → Begins opens_value (y ++ tail)
opens_more y tail b = record { first = b.first; later = b.later ++ tail; whole = ap (λ z. z ++ tail) b.whole; good = b.good }

-- an item, a key or a value comes behind the spaces of a text
record Leads (text y : List ℕ) : Type 0 where
  cut : is_bare text ≡ false
  front : unindented text ≡ y
  open_list : starts 93 y ≡ false
  open_map : starts 125 y ≡ false

leads_first : (b : ℕ) (rest : List ℕ) → opens_value b ≡ true → Leads (b ∷ rest) (b ∷ rest)
leads_first b rest h =
    let far : (c : ℕ) → is_one_of shut c ≡ true → (b == c) ≡ false = λ c i. apart shut b c (not-true _ h) i in
    let same : unindented (b ∷ rest) ≡ b ∷ rest = ap (λ z. if z then unindented rest else b ∷ rest) (far 32 refl) in
    record {
      cut = ap (λ z. is_empty z || ((b == space) && starts 35 z)) same ∙ ap (λ z. z && (b == 35)) (far 32 refl);
      front = same;
      open_list = far 93 refl;
      open_map = far 125 refl;
    }

leads_space : (b : ℕ) (rest : List ℕ) → opens_value b ≡ true → Leads (space ∷ b ∷ rest) (b ∷ rest)
leads_space b rest h =
    let far : (c : ℕ) → is_one_of shut c ≡ true → (b == c) ≡ false = λ c i. apart shut b c (not-true _ h) i in
    let same : unindented (b ∷ rest) ≡ b ∷ rest = ap (λ z. if z then unindented rest else b ∷ rest) (far 32 refl) in
    record {
      cut = ap (λ z. is_empty z || starts 35 z) same ∙ far 35 refl;
      front = same;
      open_list = far 93 refl;
      open_map = far 125 refl;
    }

leads : (text y : List ℕ) → text ≡ y → Begins opens_value y → Leads text y
leads text y h b =
    let P : List ℕ → Type 0 = λ z. Leads z z in
    let Q : List ℕ → Type 0 = λ z. Leads z y in
    subst Q (sym h) (subst P (sym b.whole) (leads_first b.first b.later b.good))

leads_behind : (text y : List ℕ) → text ≡ y → Begins opens_value y → Leads (space ∷ text) y
leads_behind text y h b =
    let P : List ℕ → Type 0 = λ z. Leads (space ∷ z) z in
    let Q : List ℕ → Type 0 = λ z. Leads (space ∷ z) y in
    subst Q (sym h) (subst P (sym b.whole) (leads_space b.first b.later b.good))

-- what is behind a value or an item
items_end : (ds : Items) (tail : List ℕ) → may_end place.Flow (later_items_text ds ++ 93 ∷ tail) ≡ true
items_end no_items tail = refl
items_end (item d ds) tail = refl

members_end : (ms : Members) (tail : List ℕ) → may_end place.Flow (later_members_text ms ++ 125 ∷ tail) ≡ true
members_end no_members tail = refl
members_end (member k d ms) tail = refl

abbrev items_behind_text : Items → List ℕ → List ℕ
items_behind_text ds tail = later_items_text ds ++ 93 ∷ tail

abbrev members_behind_text : Members → List ℕ → List ℕ
members_behind_text ms tail = later_members_text ms ++ 125 ∷ tail

-- an item, and then the others
items_next : (value : Reader) (d e : Data) (es : Items) (line steps : ℕ) (text behind tail : List ℕ) → value (flow_text d ++ behind) ≡ Ok (e, behind)
    → behind_value line 93 no_items (flow_items value line steps) (unindented behind) ≡ Ok (es, tail) → Leads text (flow_text d ++ behind)
    → flow_items value line (suc steps) text ≡ Ok (item e es, tail)
items_next value d e es line steps text behind tail reads later l =
    let y = flow_text d ++ behind in
    let next : Result (Data × List ℕ) YamlFault → Result (Items × List ℕ) YamlFault
    = λ r. r >>= λ v. with_item v.0 (behind_value line 93 no_items (flow_items value line steps) (unindented v.1)) in
    let body : List ℕ → Result (Items × List ℕ) YamlFault = λ u. if starts 93 u then Ok (no_items, tail_of u) else next (value u) in
    ap (λ z. if z then wrong line why.Flow else body (unindented text)) l.cut ∙ ap body l.front ∙ ap (λ z. if z then Ok (no_items, tail_of y) else next (value y)) l.open_list
    ∙ ap next reads ∙ ap (with_item e) later

-- a printed key begins no flow
key_begins : (k rest : List ℕ) → is_flow (key_text true k ++ rest) ≡ false
key_begins k rest =
    let b = word_begins true k false in
    let far : (c : ℕ) → is_one_of (codes "-?:,[]{}#&*!|>%@` ") c ≡ true → starts c (key_text true k ++ rest) ≡ false
    = λ c i. ap (λ z. starts c ((z ++ 58 ∷ []) ++ rest)) b.whole ∙ apart (codes "-?:,[]{}#&*!|>%@` ") b.first c (not-true _ b.good) i in
    ap (λ z. z || starts 123 (key_text true k ++ rest)) (far 91 refl) ∙ far 123 refl

key_read : (k : List ℕ) (line : ℕ) (seen : List (List ℕ)) (y : List ℕ) → is_among k seen ≡ false → flow_key line seen (key_text true k ++ space ∷ y) ≡ Ok (k, space ∷ y)
key_read k line seen y new =
    let got : Result (Word × List ℕ) YamlFault → Result (List ℕ × List ℕ) YamlFault
    = λ r. r >>= λ w. if not (is_colon w.1) then wrong line why.Flow else if is_among w.0.text seen then wrong line why.Twice else Ok (w.0.text, tail_of w.1) in
    let key : Result (List ℕ × List ℕ) YamlFault = Ok (k, space ∷ y) in
    ap (λ z. if z then wrong line why.Flow else got (word_at place.Flow line (key_text true k ++ space ∷ y))) (key_begins k (space ∷ y))
    ∙ ap (λ z. got (word_at place.Flow line z)) (append_assoc (word_text true k false) (58 ∷ []) (space ∷ y))
    ∙ ap got (word_law place.Flow line k false (58 ∷ space ∷ y) refl)
    ∙ ap (λ z. if z then wrong line why.Twice else key) new

-- a key and its value
member_read : (value : Reader) (k : List ℕ) (d e : Data) (line : ℕ) (seen : List (List ℕ)) (behind : List ℕ) → value (flow_text d ++ behind) ≡ Ok (e, behind) → is_among k seen ≡ false
    → flow_member value line seen (key_text true k ++ space ∷ (flow_text d ++ behind)) ≡ Ok ((k, e), behind)
member_read value k d e line seen behind reads new =
    let y = flow_text d ++ behind in
    let l : Leads (space ∷ y) y = leads_behind y y refl (opens_more (flow_text d) behind (flow_opens d)) in
    let last : Result (Data × List ℕ) YamlFault → Result ((List ℕ × Data) × List ℕ) YamlFault = λ r. r >>= λ v. Ok ((k, v.0), v.1) in
    let keyed : Result (List ℕ × List ℕ) YamlFault → Result ((List ℕ × Data) × List ℕ) YamlFault = λ r. r >>= λ j. flow_value value line j.1 >>= λ v. Ok ((j.0, v.0), v.1) in
    ap keyed (key_read k line seen y new)
    ∙ ap (λ z. last (if z then wrong line why.Flow else value (unindented (space ∷ y)))) l.cut
    ∙ ap (λ z. last (value z)) l.front
    ∙ ap last reads

-- a member, and then the others
members_next : (value : Reader) (k : List ℕ) (d e : Data) (es : Members) (line steps : ℕ) (seen : List (List ℕ)) (text behind tail : List ℕ) → value (flow_text d ++ behind) ≡ Ok (e, behind)
    → is_among k seen ≡ false → behind_value line 125 no_members (flow_members value line steps (k ∷ seen)) (unindented behind) ≡ Ok (es, tail)
    → Leads text (key_text true k ++ space ∷ (flow_text d ++ behind)) → flow_members value line (suc steps) seen text ≡ Ok (member k e es, tail)
members_next value k d e es line steps seen text behind tail reads new later l =
    let y = key_text true k ++ space ∷ (flow_text d ++ behind) in
    let next : Result ((List ℕ × Data) × List ℕ) YamlFault → Result (Members × List ℕ) YamlFault
    = λ r. r >>= λ m. with_member m.0.0 m.0.1 (behind_value line 125 no_members (flow_members value line steps (m.0.0 ∷ seen)) (unindented m.1)) in
    let body : List ℕ → Result (Members × List ℕ) YamlFault = λ u. if starts 125 u then Ok (no_members, tail_of u) else next (flow_member value line seen u) in
    ap (λ z. if z then wrong line why.Flow else body (unindented text)) l.cut ∙ ap body l.front
    ∙ ap (λ z. if z then Ok (no_members, tail_of y) else next (flow_member value line seen y)) l.open_map
    ∙ ap next (member_read value k d e line seen behind reads new) ∙ ap (with_member k e) later

-- how many items there are: not more than the bytes that print them
abbrev items_count : Items → ℕ
items_count no_items = 0
items_count (item d ds) = suc (items_count ds)

abbrev members_count : Members → ℕ
members_count no_members = 0
members_count (member k d ms) = suc (members_count ms)

items_few : (ds : Items) (tail : List ℕ) → items_count ds ≤ length (later_items_text ds ++ tail)
items_few no_items tail = omega arith
items_few (item d ds) tail =
    let h = items_few ds tail in
    let a = length-append (flow_text d ++ later_items_text ds) tail in
    let b = length-append (flow_text d) (later_items_text ds) in
    let c = length-append (later_items_text ds) tail in
    omega arith

members_few : (ms : Members) (tail : List ℕ) → members_count ms ≤ length (later_members_text ms ++ tail)
members_few no_members tail = omega arith
members_few (member k d ms) tail =
    let h = members_few ms tail in
    let a = length-append (key_text true k ++ space ∷ (flow_text d ++ later_members_text ms)) tail in
    let b = length-append (key_text true k) (space ∷ (flow_text d ++ later_members_text ms)) in
    let e = length-append (flow_text d) (later_members_text ms) in
    let c = length-append (later_members_text ms) tail in
    omega arith

-- a scalar in a flow
scalar_law : (text : List ℕ) (plain : Bool) (levels line : ℕ) (tail : List ℕ) → may_end place.Flow tail ≡ true
    → flow_at (suc levels) line (word_text true text plain ++ tail) ≡ Ok (scalar text (is_plain true text plain), tail)
scalar_law text plain levels line tail ends =
    let y = word_text true text plain ++ tail in
    let b = word_begins true text plain in
    let far : (c : ℕ) → is_one_of (codes "-?:,[]{}#&*!|>%@` ") c ≡ true → starts c y ≡ false
    = λ c i. ap (λ z. starts c (z ++ tail)) b.whole ∙ apart (codes "-?:,[]{}#&*!|>%@` ") b.first c (not-true _ b.good) i in
    let in_list = list_in (flow_items (flow_at levels line) line (length y) (tail_of y)) in
    let in_map = map_in (flow_members (flow_at levels line) line (length y) [] (tail_of y)) in
    let read : Result (Word × List ℕ) YamlFault → Result (Data × List ℕ) YamlFault = λ r. r >>= λ w. Ok (scalar w.0.text w.0.plain, w.1) in
    ap (λ z. if z then in_list else if starts 123 y then in_map else read (word_at place.Flow line y)) (far 91 refl)
    ∙ ap (λ z. if z then in_map else read (word_at place.Flow line y)) (far 123 refl)
    ∙ ap read (word_law place.Flow line text plain tail ends)

-- how the texts of items and members are put together
items_whole : (y l tail : List ℕ) → ((y ++ l) ++ 93 ∷ []) ++ tail ≡ y ++ (l ++ 93 ∷ tail)
items_whole y l tail = append_assoc (y ++ l) (93 ∷ []) tail ∙ append_assoc y l (93 ∷ tail)

member_whole : (k y l z : List ℕ) → (k ++ space ∷ (y ++ l)) ++ z ≡ k ++ space ∷ (y ++ (l ++ z))
member_whole k y l z = append_assoc k (space ∷ (y ++ l)) z ∙ ap (λ w. k ++ space ∷ w) (append_assoc y l z)

members_whole : (k y l tail : List ℕ) → ((k ++ space ∷ (y ++ l)) ++ 125 ∷ []) ++ tail ≡ k ++ space ∷ (y ++ (l ++ 125 ∷ tail))
members_whole k y l tail = append_assoc (k ++ space ∷ (y ++ l)) (125 ∷ []) tail ∙ member_whole k y l (125 ∷ tail)

longer : (text y z : List ℕ) (n : ℕ) → text ≡ y ++ z → n ≤ length z → n ≤ length text
longer text y z n h few = let a = ap length h ∙ length-append y z in omega arith

longer_member : (text k y z : List ℕ) (n : ℕ) → text ≡ k ++ space ∷ (y ++ z) → n ≤ length z → n ≤ length text
longer_member text k y z n h few = let a = ap length h ∙ length-append k (space ∷ (y ++ z)) in let b = length-append y z in omega arith

key_opens : (k rest : List ℕ) → Begins opens_value (key_text true k ++ rest)
key_opens k rest = opens_more (key_text true k) rest (opens_more (word_text true k false) (58 ∷ []) (word_opens true k false))

first_flat : (a b n : ℕ) → max a b ≤ n → a ≤ n
first_flat a b n h = omega arith

rest_flat : (a b n : ℕ) → max a b ≤ n → b ≤ n
rest_flat a b n h = omega arith

one_less : (a n : ℕ) → suc a ≤ suc n → a ≤ n
one_less a n h = omega arith

mutual
  pub flow_law : (d : Data) (levels line : ℕ) (tail : List ℕ) → depth d ≤ levels → are_apart d ≡ true → may_end place.Flow tail ≡ true
      → flow_at levels line (flow_text d ++ tail) ≡ Ok (flow_marked d, tail)
  flow_law (scalar text plain) zero line tail flat new ends = absurd (omega arith)
  flow_law (scalar text plain) (suc levels) line tail flat new ends = scalar_law text plain levels line tail ends
  flow_law (list ds) zero line tail flat new ends = absurd (omega arith)
  flow_law (list no_items) (suc levels) line tail flat new ends = refl
  flow_law (list (item d ds)) (suc levels) line tail flat new ends =
      let low : max (depth d) (items_depth ds) ≤ levels = one_less (max (depth d) (items_depth ds)) levels flat in
      let behind = items_behind_text ds tail in
      let text = (items_text (item d ds) ++ 93 ∷ []) ++ tail in
      let whole = items_whole (flow_text d) (later_items_text ds) tail in
      ap list_in (items_next (flow_at levels line) d (flow_marked d) (flow_items_marked ds) line (length text) text behind tail
      (flow_law d levels line behind (first_flat (depth d) (items_depth ds) levels low) (and_parts (are_apart d) (items_apart ds) new).0 (items_end ds tail))
      (items_behind ds levels line (length text) tail (rest_flat (depth d) (items_depth ds) levels low) (and_parts (are_apart d) (items_apart ds) new).1
      (longer text (flow_text d) behind (items_count ds) whole (items_few ds (93 ∷ tail))))
      (leads text (flow_text d ++ behind) whole (opens_more (flow_text d) behind (flow_opens d))))
  flow_law (map ms) zero line tail flat new ends = absurd (omega arith)
  flow_law (map no_members) (suc levels) line tail flat new ends = refl
  flow_law (map (member k d ms)) (suc levels) line tail flat new ends =
      let low : max (depth d) (members_depth ms) ≤ levels = one_less (max (depth d) (members_depth ms)) levels flat in
      let behind = members_behind_text ms tail in
      let text = (members_text (member k d ms) ++ 125 ∷ []) ++ tail in
      let whole = members_whole (key_text true k) (flow_text d) (later_members_text ms) tail in
      ap map_in (members_next (flow_at levels line) k d (flow_marked d) (flow_members_marked ms) line (length text) [] text behind tail
      (flow_law d levels line behind (first_flat (depth d) (members_depth ms) levels low) (and_parts (are_apart d) (members_apart (k ∷ []) ms) new).0 (members_end ms tail))
      refl
      (members_behind ms levels line (length text) (k ∷ []) tail (rest_flat (depth d) (members_depth ms) levels low) (and_parts (are_apart d) (members_apart (k ∷ []) ms) new).1
      (longer_member text (key_text true k) (flow_text d) behind (members_count ms) whole (members_few ms (125 ∷ tail))))
      (leads text (key_text true k ++ space ∷ (flow_text d ++ behind)) whole (key_opens k (space ∷ (flow_text d ++ behind)))))

  items_behind : (ds : Items) (levels line steps : ℕ) (tail : List ℕ) → items_depth ds ≤ levels → items_apart ds ≡ true → items_count ds ≤ steps
      → behind_value line 93 no_items (flow_items (flow_at levels line) line steps) (unindented (items_behind_text ds tail)) ≡ Ok (flow_items_marked ds, tail)
  items_behind no_items levels line steps tail flat new few = refl
  items_behind (item d ds) levels line zero tail flat new few = absurd (omega arith)
  items_behind (item d ds) levels line (suc steps) tail flat new few =
      let behind = items_behind_text ds tail in
      let text = (flow_text d ++ later_items_text ds) ++ 93 ∷ tail in
      items_next (flow_at levels line) d (flow_marked d) (flow_items_marked ds) line steps (space ∷ text) behind tail
      (flow_law d levels line behind (first_flat (depth d) (items_depth ds) levels flat) (and_parts (are_apart d) (items_apart ds) new).0 (items_end ds tail))
      (items_behind ds levels line steps tail (rest_flat (depth d) (items_depth ds) levels flat) (and_parts (are_apart d) (items_apart ds) new).1 (one_less (items_count ds) steps few))
      (leads_behind text (flow_text d ++ behind) (append_assoc (flow_text d) (later_items_text ds) (93 ∷ tail)) (opens_more (flow_text d) behind (flow_opens d)))

  members_behind : (ms : Members) (levels line steps : ℕ) (seen : List (List ℕ)) (tail : List ℕ) → members_depth ms ≤ levels → members_apart seen ms ≡ true → members_count ms ≤ steps
      → behind_value line 125 no_members (flow_members (flow_at levels line) line steps seen) (unindented (members_behind_text ms tail)) ≡ Ok (flow_members_marked ms, tail)
  members_behind no_members levels line steps seen tail flat new few = refl
  members_behind (member k d ms) levels line zero seen tail flat new few = absurd (omega arith)
  members_behind (member k d ms) levels line (suc steps) seen tail flat new few =
      let behind = members_behind_text ms tail in
      let text = (key_text true k ++ space ∷ (flow_text d ++ later_members_text ms)) ++ 125 ∷ tail in
      let others = (and_parts (not (is_among k seen)) (are_apart d && members_apart (k ∷ seen) ms) new).1 in
      members_next (flow_at levels line) k d (flow_marked d) (flow_members_marked ms) line steps seen (space ∷ text) behind tail
      (flow_law d levels line behind (first_flat (depth d) (members_depth ms) levels flat) (and_parts (are_apart d) (members_apart (k ∷ seen) ms) others).0 (members_end ms tail))
      (not-true (is_among k seen) (and_parts (not (is_among k seen)) (are_apart d && members_apart (k ∷ seen) ms) new).0)
      (members_behind ms levels line steps (k ∷ seen) tail (rest_flat (depth d) (members_depth ms) levels flat) (and_parts (are_apart d) (members_apart (k ∷ seen) ms) others).1
      (one_less (members_count ms) steps few))
      (leads_behind text (key_text true k ++ space ∷ (flow_text d ++ behind)) (member_whole (key_text true k) (flow_text d) (later_members_text ms) (125 ∷ tail))
      (key_opens k (space ∷ (flow_text d ++ behind))))
