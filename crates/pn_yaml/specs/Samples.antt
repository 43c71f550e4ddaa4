-- Worked texts: what they say, or their fault.
use Rattle.std.specs.Prelude.{◌≡◌, refl, [], true, false, Ok, Err, codes}
use Rattle.pn_yaml.specs.declared.fault.Why.TheVariants as why
use Rattle.pn_yaml.specs.declared.fault.YamlFault.TheVariants as fault
use Rattle.pn_yaml.specs.Data.{scalar, list, map, no_items, item, no_members, member}
use Rattle.pn_yaml.specs.Blocks.{text_says}

pub no_bytes : text_says (codes "") ≡ Ok (map no_members)
no_bytes = refl

pub start_alone : text_says (codes "---\n") ≡ Ok (map no_members)
start_alone = refl

pub comment_alone : text_says (codes "# x\n\n") ≡ Ok (map no_members)
comment_alone = refl

pub key_twice : text_says (codes "a: 1\na: 2\n") ≡ Err (fault.Line 2 why.Twice)
key_twice = refl

pub anchor : text_says (codes "a: &x 1") ≡ Err (fault.Line 1 why.LeftOut)
anchor = refl

pub tab_in_indentation : text_says (codes "a:\n\tb: 1\n") ≡ Err (fault.Line 2 why.Tab)
tab_in_indentation = refl

pub forms : text_says (codes "# c\n---\npackages:\n- 'it''s'\n- \"A\\\"\" # c\nb: {x: [1, a b,], 'y': {}}\nc: |\n  x\n   y\n\nd:\n") ≡ Ok (map (member (codes "packages") (list (item (scalar (codes "it's") false) (item (scalar (codes "A\"") false) no_items))) (member (codes "b") (map (member (codes "x") (list (item (scalar (codes "1") true) (item (scalar (codes "a b") true) no_items))) (member (codes "y") (map no_members) no_members))) (member (codes "c") (scalar (codes "x\n y\n") false) (member (codes "d") (scalar [] true) no_members)))))
forms = refl

pub colons_in_values : text_says (codes "a: b: c\nd:\n- x: y\n") ≡ Ok (map (member (codes "a") (scalar (codes "b: c") true) (member (codes "d") (list (item (scalar (codes "x: y") true) no_items)) no_members)))
colons_in_values = refl

pub reserved_byte : text_says (codes "@s/x: 1") ≡ Err (fault.Line 1 why.LeftOut)
reserved_byte = refl

pub reserved_byte_quoted : text_says (codes "'@s/x': 1") ≡ Ok (map (member (codes "@s/x") (scalar (codes "1") true) no_members))
reserved_byte_quoted = refl

pub no_header : text_says (codes "react: >=18\nx: |2\n") ≡ Ok (map (member (codes "react") (scalar (codes ">=18") true) (member (codes "x") (scalar (codes "|2") true) no_members)))
no_header = refl

pub first_block_indented : text_says (codes "  a: 1\n") ≡ Err (fault.Line 1 why.Indent)
first_block_indented = refl

pub second_document : text_says (codes "a: 1\n---\n") ≡ Err (fault.Line 2 why.LeftOut)
second_document = refl

pub start_with_comment : text_says (codes "--- # x\na: 1") ≡ Ok (map (member (codes "a") (scalar (codes "1") true) no_members))
start_with_comment = refl

pub end_of_document : text_says (codes "... # x") ≡ Err (fault.Line 1 why.LeftOut)
end_of_document = refl

pub dots_in_key : text_says (codes "... x: 1") ≡ Ok (map (member (codes "... x") (scalar (codes "1") true) no_members))
dots_in_key = refl

pub bracket_in_key : text_says (codes "a:\n  [b]: 1\n") ≡ Ok (map (member (codes "a") (map (member (codes "[b]") (scalar (codes "1") true) no_members)) no_members))
bracket_in_key = refl

pub flow_among_keys : text_says (codes "a:\n  b: 1\n  {c: 1}\n") ≡ Ok (map (member (codes "a") (map (member (codes "b") (scalar (codes "1") true) (member (codes "{c") (scalar (codes "1}") true) no_members))) no_members))
flow_among_keys = refl

pub flow_below_key : text_says (codes "a:\n  {b}\n") ≡ Err (fault.Line 2 why.Key)
flow_below_key = refl

pub space_before_colon : text_says (codes "a : 1") ≡ Ok (map (member (codes "a") (scalar (codes "1") true) no_members))
space_before_colon = refl

pub space_behind_quoted_key : text_says (codes "'a' : 1") ≡ Err (fault.Line 1 why.Key)
space_behind_quoted_key = refl

pub question_mark : text_says (codes "a: ?") ≡ Err (fault.Line 1 why.LeftOut)
question_mark = refl

pub explicit_key : text_says (codes "? a") ≡ Err (fault.Line 1 why.LeftOut)
explicit_key = refl

pub question_mark_in_text : text_says (codes "a: ?x") ≡ Ok (map (member (codes "a") (scalar (codes "?x") true) no_members))
question_mark_in_text = refl

pub tab_in_scalar_block : text_says (codes "a: |\n  \tx\n") ≡ Ok (map (member (codes "a") (scalar (codes "\tx\n") false) no_members))
tab_in_scalar_block = refl

pub comment_in_flow : text_says (codes "a: [b, # c\n") ≡ Err (fault.Line 1 why.Flow)
comment_in_flow = refl

pub empty_item : text_says (codes "a:\n-\n- b\n") ≡ Ok (map (member (codes "a") (list (item (scalar [] true) (item (scalar (codes "b") true) no_items))) no_members))
empty_item = refl

pub list_alone : text_says (codes "- a\n- b\n") ≡ Ok (list (item (scalar (codes "a") true) (item (scalar (codes "b") true) no_items)))
list_alone = refl

pub flow_alone : text_says (codes "[a, b]") ≡ Ok (list (item (scalar (codes "a") true) (item (scalar (codes "b") true) no_items)))
flow_alone = refl

pub scalar_alone : text_says (codes "abc") ≡ Err (fault.Line 1 why.Key)
scalar_alone = refl

pub bytes_behind_quote : text_says (codes "a: 'x' y") ≡ Err (fault.Line 1 why.Quote)
bytes_behind_quote = refl

pub bytes_behind_flow : text_says (codes "a: [x] y") ≡ Err (fault.Line 1 why.Flow)
bytes_behind_flow = refl

pub no_value_in_flow : text_says (codes "a: {b: }") ≡ Err (fault.Line 1 why.Flow)
no_value_in_flow = refl

pub no_colon_in_flow : text_says (codes "a: {b}") ≡ Err (fault.Line 1 why.Flow)
no_colon_in_flow = refl

pub flow_as_key : text_says (codes "a: {{b: 1}") ≡ Err (fault.Line 1 why.Flow)
flow_as_key = refl

pub list_as_key : text_says (codes "x: 1\na: {[b]: 1}") ≡ Err (fault.Line 2 why.Flow)
list_as_key = refl

pub bracket_in_flow_key : text_says (codes "a: {b[c: 1}") ≡ Ok (map (member (codes "a") (map (member (codes "b[c") (scalar (codes "1") true) no_members)) no_members))
bracket_in_flow_key = refl

pub bracket_quoted_in_flow : text_says (codes "a: {'[b': 1}") ≡ Ok (map (member (codes "a") (map (member (codes "[b") (scalar (codes "1") true) no_members)) no_members))
bracket_quoted_in_flow = refl

pub scalar_blocks : text_says (codes "a: |\nb: |-\nc: >\n  x\n  y\n") ≡ Ok (map (member (codes "a") (scalar (codes "\n") false) (member (codes "b") (scalar (codes "") false) (member (codes "c") (scalar (codes "x y\n") false) no_members))))
scalar_blocks = refl

pub scalar_block_outdented : text_says (codes "a: >-\n   x\n    # y\n  z\n") ≡ Err (fault.Line 4 why.Indent)
scalar_block_outdented = refl

pub scalar_block_indented : text_says (codes "a: >-\n   x\n    # y\nb: 1\n") ≡ Ok (map (member (codes "a") (scalar (codes "x  # y") false) (member (codes "b") (scalar (codes "1") true) no_members)))
scalar_block_indented = refl

pub quote_open : text_says (codes "a: 'x") ≡ Err (fault.Line 1 why.Quote)
quote_open = refl

pub no_escape : text_says (codes "a: \"\\q\"") ≡ Err (fault.Line 1 why.Escape)
no_escape = refl

pub surrogate : text_says (codes "a: \"\\ud800\"") ≡ Err (fault.Line 1 why.Escape)
surrogate = refl

pub between_blocks : text_says (codes "a:\n  b: 1\n c: 2\n") ≡ Err (fault.Line 3 why.Indent)
between_blocks = refl

pub below_a_value : text_says (codes "a: 1\n  b: 2") ≡ Err (fault.Line 2 why.Indent)
below_a_value = refl

pub key_in_list : text_says (codes "a:\n  - b\n  c: 1\n") ≡ Err (fault.Line 3 why.Indent)
key_in_list = refl

pub item_in_map : text_says (codes "a: 1\n- b\n") ≡ Err (fault.Line 2 why.Key)
item_in_map = refl

pub key_behind_root_list : text_says (codes "- a\nb: 1\n") ≡ Err (fault.Line 2 why.Indent)
key_behind_root_list = refl

pub carriage_returns : text_says (codes "a:\r\n  b: c\r\n") ≡ Ok (map (member (codes "a") (map (member (codes "b") (scalar (codes "c") true) no_members)) no_members))
carriage_returns = refl

pub comments : text_says (codes "a:   b  # c\nb: x#y\n") ≡ Ok (map (member (codes "a") (scalar (codes "b") true) (member (codes "b") (scalar (codes "x#y") true) no_members)))
comments = refl

pub flows : text_says (codes "a: [[], {}, [x , 'y' , \"z\"]]") ≡ Ok (map (member (codes "a") (list (item (list no_items) (item (map no_members) (item (list (item (scalar (codes "x") true) (item (scalar (codes "y") false) (item (scalar (codes "z") false) no_items)))) no_items)))) no_members))
flows = refl

pub comma_alone : text_says (codes "a: [,]") ≡ Err (fault.Line 1 why.Flow)
comma_alone = refl

pub key_twice_in_flow : text_says (codes "a: {x: 1, x: 2}") ≡ Err (fault.Line 1 why.Twice)
key_twice_in_flow = refl

pub colon_in_flow : text_says (codes "a: [x:1, y]\n") ≡ Ok (map (member (codes "a") (list (item (scalar (codes "x:1") true) (item (scalar (codes "y") true) no_items))) no_members))
colon_in_flow = refl

pub no_key : text_says (codes ": 1") ≡ Err (fault.Line 1 why.Key)
no_key = refl

pub bytes_behind_quote_in_flow : text_says (codes "a: ['b'c]") ≡ Err (fault.Line 1 why.Flow)
bytes_behind_quote_in_flow = refl

pub deep : text_says (codes "a: [[[[[[[[[[[[[[[[[[[[[[[[[[[[[[[[[[[[[[[[[[[[[[[[[[[[[[[[[[[[[[x]]]]]]]]]]]]]]]]]]]]]]]]]]]]]]]]]]]]]]]]]]]]]]]]]]]]]]]]]]]]]]") ≡ Ok (map (member (codes "a") (list (item (list (item (list (item (list (item (list (item (list (item (list (item (list (item (list (item (list (item (list (item (list (item (list (item (list (item (list (item (list (item (list (item (list (item (list (item (list (item (list (item (list (item (list (item (list (item (list (item (list (item (list (item (list (item (list (item (list (item (list (item (list (item (list (item (list (item (list (item (list (item (list (item (list (item (list (item (list (item (list (item (list (item (list (item (list (item (list (item (list (item (list (item (list (item (list (item (list (item (list (item (list (item (list (item (list (item (list (item (list (item (list (item (list (item (list (item (list (item (list (item (list (item (scalar (codes "x") true) no_items)) no_items)) no_items)) no_items)) no_items)) no_items)) no_items)) no_items)) no_items)) no_items)) no_items)) no_items)) no_items)) no_items)) no_items)) no_items)) no_items)) no_items)) no_items)) no_items)) no_items)) no_items)) no_items)) no_items)) no_items)) no_items)) no_items)) no_items)) no_items)) no_items)) no_items)) no_items)) no_items)) no_items)) no_items)) no_items)) no_items)) no_items)) no_items)) no_items)) no_items)) no_items)) no_items)) no_items)) no_items)) no_items)) no_items)) no_items)) no_items)) no_items)) no_items)) no_items)) no_items)) no_items)) no_items)) no_items)) no_items)) no_items)) no_items)) no_items)) no_items)) no_items)) no_members))
deep = refl

pub too_deep : text_says (codes "a: [[[[[[[[[[[[[[[[[[[[[[[[[[[[[[[[[[[[[[[[[[[[[[[[[[[[[[[[[[[[[[[x]]]]]]]]]]]]]]]]]]]]]]]]]]]]]]]]]]]]]]]]]]]]]]]]]]]]]]]]]]]]]]]") ≡ Err fault.TooDeep
too_deep = refl
