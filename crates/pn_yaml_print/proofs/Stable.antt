-- Data as it is read back is printed as the same bytes.
use Rattle.std.proofs.Common.{◌≡◌, ℕ, ◌+◌, Bool, true, false, List, [], ◌∷◌, ◌++◌, Result, Ok, Err, refl, ap, ◌∙◌}
use Rattle.std.specs.Prelude.{◌&&◌, ◌||◌, not, if◌then◌else◌}
use Rattle.std.specs.List.{list_any}
use Rattle.std.specs.Str.{is_utf8}
use Rattle.pn_yaml.specs.declared.fault.YamlFault.{YamlFault}
use Rattle.pn_yaml.specs.declared.fault.YamlFault.TheVariants as fault
use Rattle.pn_yaml.specs.Bytes.{space}
use Rattle.pn_yaml.specs.Data.{Data, scalar, list, map, Items, no_items, item, Members, no_members, member}
use Rattle.pn_yaml_print.specs.PrintedScalars.{doubled, escaped, is_ambiguous, is_control, is_plain, may_be_plain, word_text}
use Rattle.pn_yaml_print.specs.Printing.{Level, root, below, flow_items_marked, flow_marked, flow_members_marked, flow_text, is_flow_key, item_marked, item_text, items_lines, items_marked, items_text, later_items_text, later_members_text, marked, members_lines, members_marked, members_text, printed, value_lines, value_marked}
use Rattle.pn_yaml.specs.Blocks.{says, text_says}
use Rattle.pn_yaml_print.specs.Laws.{IsPrintable}
use Rattle.pn_yaml_print.specs.StableLaw.{StableLaw}
use Rattle.pn_yaml_print.proofs.ValueLaw.{print-law}

plain-twice : (may plain ambiguous : Bool) → (may && ((may && (plain || not ambiguous)) || not ambiguous)) ≡ (may && (plain || not ambiguous))
plain-twice false plain ambiguous = refl
plain-twice true true ambiguous = refl
plain-twice true false true = refl
plain-twice true false false = refl

word-again : (flow : Bool) (text : List ℕ) (plain : Bool) → word_text flow text (is_plain flow text plain) ≡ word_text flow text plain
word-again flow text plain =
    ap (λ (b : Bool). if b then text else if list_any is_control text then 34 ∷ (escaped text ++ 34 ∷ []) else 39 ∷ (doubled text ++ 39 ∷ []))
    (plain-twice (may_be_plain flow text) plain (is_ambiguous text))

mutual
  flow-again : (d : Data) → flow_text (flow_marked d) ≡ flow_text d
  flow-again (scalar text plain) = word-again true text plain
  flow-again (list ds) = ap (λ (t : List ℕ). 91 ∷ (t ++ 93 ∷ [])) (items-again ds)
  flow-again (map ms) = ap (λ (t : List ℕ). 123 ∷ (t ++ 125 ∷ [])) (members-again ms)

  items-again : (ds : Items) → items_text (flow_items_marked ds) ≡ items_text ds
  items-again no_items = refl
  items-again (item d ds) = rw (flow-again d, later-items-again ds) refl

  later-items-again : (ds : Items) → later_items_text (flow_items_marked ds) ≡ later_items_text ds
  later-items-again no_items = refl
  later-items-again (item d ds) = rw (flow-again d, later-items-again ds) refl

  members-again : (ms : Members) → members_text (flow_members_marked ms) ≡ members_text ms
  members-again no_members = refl
  members-again (member k d ms) = rw (flow-again d, later-members-again ms) refl

  later-members-again : (ms : Members) → later_members_text (flow_members_marked ms) ≡ later_members_text ms
  later-members-again no_members = refl
  later-members-again (member k d ms) = rw (flow-again d, later-members-again ms) refl

item-again : (d : Data) → item_text (item_marked d) ≡ item_text d
item-again (scalar text plain) = word-again false text plain
item-again (list ds) = flow-again (list ds)
item-again (map ms) = flow-again (map ms)

lines-again : (indent : ℕ) (ds : Items) → items_lines indent (items_marked ds) ≡ items_lines indent ds
lines-again indent no_items = refl
lines-again indent (item d ds) = rw (item-again d, lines-again indent ds) refl

mutual
  value-again : (d : Data) (level : Level) (flow : Bool) (indent : ℕ) → value_lines level flow indent (value_marked flow d) ≡ value_lines level flow indent d
  value-again (scalar text plain) level flow indent = ap (λ (t : List ℕ). space ∷ (t ++ 10 ∷ [])) (word-again false text plain)
  value-again (list no_items) level flow indent = refl
  value-again (list (item d ds)) level flow indent = ap (λ (t : List ℕ). 10 ∷ t) (lines-again (2 + indent) (item d ds))
  value-again (map no_members) level true indent = refl
  value-again (map no_members) level false indent = refl
  value-again (map (member k d ms)) level true indent = ap (λ (t : List ℕ). space ∷ (t ++ 10 ∷ [])) (flow-again (map (member k d ms)))
  value-again (map (member k d ms)) level false indent = ap (λ (t : List ℕ). 10 ∷ t) (block-again (member k d ms) level (2 + indent))

  block-again : (ms : Members) (level : Level) (indent : ℕ) → members_lines level indent (members_marked ms) ≡ members_lines level indent ms
  block-again no_members level indent = refl
  block-again (member k d ms) level indent = rw (value-again d (below level k) (is_flow_key k) indent, block-again ms level indent) refl

marked-again : (d : Data) → printed (marked d) ≡ printed d
marked-again (scalar text plain) = refl
marked-again (list ds) = refl
marked-again (map no_members) = refl
marked-again (map (member k d ms)) = rw (value-again d (below root k) (is_flow_key k) 0, block-again ms root 0) refl

-- what bytes say, if something, is what they say as a text
says-text : (is : Bool) (r : Result Data YamlFault) (d : Data) → (if is then r else Err fault.NotUtf8) ≡ Ok d → r ≡ Ok d
says-text true r d h = h
says-text false r d h = absurd cc

printed-again : (d e : Data) → IsPrintable d → says (printed d) ≡ Ok e → printed e ≡ printed d
printed-again d e p h =
    let r : text_says (printed d) ≡ Ok e = says-text (is_utf8 (printed d)) (text_says (printed d)) e h in
    let l : text_says (printed d) ≡ Ok (marked d) = print-law d p in
    let same : e ≡ marked d = cc in
    ap printed same ∙ marked-again d

pub stable-law : StableLaw
stable-law = record {
  same = marked-again;
  again = printed-again;
}
