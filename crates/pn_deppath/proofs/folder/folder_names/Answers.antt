use Rattle.std.proofs.Common.{◌≡◌, ◌<◌, ◌^◌, ◌+◌, List, ℕ, [], map, take, get_or, length, sym, ap, ◌∙◌, subst, Some, arith}
use Rattle.std.specs.Prelude.{bytes_eq, string_bytes}
use Rattle.std.specs.List.{IsDistinct, list_all}
use Rattle.std.proofs.lemmas.List.{get_or_default, take_more}
use Rattle.std.proofs.lemmas.Map.Text.{btree_map_updates_text}
use Rattle.std.proofs.lemmas.Result.{IfOk-weaker}
use Rattle.pn_deppath.specs.Folders.{folder_name, is_ascii, plain_name}
use Rattle.pn_deppath.specs.Numbers.{given, HasNumbers, last_after, last_of, name_after, number_after, Numbered}
use Rattle.pn_deppath.proofs.FolderLemmas.{all_named, has_some, lent_permutation, lent_sorted, named_at, named_more, names_distinct, small_at, sorted_ascii, taken_at}
use Rattle.pn_deppath.proofs.NumberLemmas.{last_is, numbers_more}
use Rattle.pn_deppath.proofs.folder.folder_names.Goals as goal

pub loop-path-init : goal.loop-path-init
loop-path-init c = record {
  numbers = c.in_ok-numbers.ensures;
  named = λ k lt. absurd (omega (arith, lt));
}

pub next_name-requires-clause-ascii : goal.next_name-requires-clause-ascii
next_name-requires-clause-ascii c =
    let paths = c.args.paths.now in
    let xs = c.deref-path-items.result.now in
    let i = c.loop-path.path-index in
    let rising = c.in_ok-rising.rising.items in
    let perm = lent_permutation paths c.in_ok-copies.field-0.items rising xs c.in_ok-copies.ensures c.in_ok-rising.ensures.permutation c.deref-path-items.ensures.value in
    let at : c.path-item.result ≡ get_or xs i [] = c.path-item.is ∙ sym (get_or_default xs i [] c.path-item.result c.loop-path-test.true) in
    ap (list_all is_ascii) at ∙ sorted_ascii paths xs perm c.requires.ascii i c.loop-path-test.true

pub next_name-requires-clause-names : goal.next_name-requires-clause-names
next_name-requires-clause-names c =
    let taken = map plain_name c.args.paths.now in
    has_some c.loop-path.numbers taken (λ (q : List ℕ). last_after taken q (given plain_name (take c.loop-path.path-index c.deref-path-items.result.now) q)) c.loop-path.invariant.numbers

pub next_name-requires-clause-small : goal.next_name-requires-clause-small
next_name-requires-clause-small c =
    let paths = c.args.paths.now in
    let xs = c.deref-path-items.result.now in
    let i = c.loop-path.path-index in
    let lt = c.loop-path-test.true in
    let old = c.loop-path.numbers in
    let taken = map plain_name paths in
    let rising = c.in_ok-rising.rising.items in
    let perm = lent_permutation paths c.in_ok-copies.field-0.items rising xs c.in_ok-copies.ensures c.in_ok-rising.ensures.permutation c.deref-path-items.ensures.value in
    let sorted = lent_sorted rising xs c.in_ok-rising.ensures.sorted c.deref-path-items.ensures.value in
    let at : c.path-item.result ≡ get_or xs i [] = c.path-item.is ∙ sym (get_or_default xs i [] c.path-item.result lt) in
    let name = plain_name (get_or xs i []) in
    let last = last_is old taken (λ (q : List ℕ). last_after taken q (given plain_name (take i xs) q)) name c.loop-path.invariant.numbers
    (taken_at paths xs c.requires.few c.requires.distinct perm sorted i lt) in
    subst (λ (p : List ℕ). last_of old (plain_name p) + 1 + length paths < 2 ^ 64) (sym at)
    (small_at paths xs c.requires.few c.requires.distinct perm sorted i lt (last_of old name) last)

pub loop-path-preserved : goal.loop-path-preserved
loop-path-preserved c =
    let paths = c.args.paths.now in
    let xs = c.deref-path-items.result.now in
    let i = c.loop-path.path-index in
    let lt = c.loop-path-test.true in
    let old = c.loop-path.numbers in
    let new = c.next_name.new.numbers in
    let taken = map plain_name paths in
    let rising = c.in_ok-rising.rising.items in
    let perm = lent_permutation paths c.in_ok-copies.field-0.items rising xs c.in_ok-copies.ensures c.in_ok-rising.ensures.permutation c.deref-path-items.ensures.value in
    let sorted = lent_sorted rising xs c.in_ok-rising.ensures.sorted c.deref-path-items.ensures.value in
    let at : c.path-item.result ≡ get_or xs i [] = c.path-item.is ∙ sym (get_or_default xs i [] c.path-item.result lt) in
    let name = plain_name (get_or xs i []) in
    let is = taken_at paths xs c.requires.few c.requires.distinct perm sorted i lt in
    let last = last_is old taken (λ (q : List ℕ). last_after taken q (given plain_name (take i xs) q)) name c.loop-path.invariant.numbers is in
    let key : string_bytes c.in_ok-key.key ≡ get_or xs i [] = c.in_ok-key.ensures.ok ∙ c.as_str.ensures ∙ at in
    let step = subst (λ (p : List ℕ). Numbered old new (plain_name p) (number_after taken (plain_name p) (last_of old (plain_name p)))) at c.in_ok-name.ensures.numbers in
    let folder : c.in_ok-name.name ≡ folder_name paths (get_or xs i []) =
    c.in_ok-name.ensures.name ∙ ap (λ (p : List ℕ). name_after taken (plain_name p) (last_of old (plain_name p))) at
    ∙ named_at paths xs c.requires.few c.requires.distinct perm sorted i lt (last_of old name) last in
    record {
      numbers = subst (λ (t : List (List ℕ)). HasNumbers new taken (λ q. last_after taken q (given plain_name t q))) (sym (take_more xs i [] lt))
          (numbers_more old new taken plain_name (take i xs) (get_or xs i []) c.loop-path.invariant.numbers is step);
      named = named_more c.loop-path.folders c.insert.new.self paths xs i (string_bytes c.in_ok-key.key) c.in_ok-name.name c.loop-path.invariant.named key folder
          (btree_map_updates_text (string_bytes c.in_ok-key.key) c.loop-path.folders c.insert.new.self (Some c.in_ok-name.name) c.in_ok-insert.ensures.updates);
    }

pub in_order-requires : goal.in_order-requires
in_order-requires c =
    let paths = c.args.paths.now in
    let xs = c.deref-path-items.result.now in
    let rising = c.in_ok-rising.rising.items in
    let perm = lent_permutation paths c.in_ok-copies.field-0.items rising xs c.in_ok-copies.ensures c.in_ok-rising.ensures.permutation c.deref-path-items.ensures.value in
    let sorted = lent_sorted rising xs c.in_ok-rising.ensures.sorted c.deref-path-items.ensures.value in
    let end = c.loop-path-test.false in
    all_named paths xs c.requires.few c.requires.distinct perm sorted c.loop-path.folders (λ k lt. c.loop-path.invariant.named k (omega (arith, lt, end)))

pub returns-clause-distinct : goal.returns-clause-distinct
returns-clause-distinct c =
    let paths = c.args.paths.now in
    IfOk-weaker c.in_order.result _ _ (λ v e. subst (λ (t : List (List ℕ)). IsDistinct bytes_eq t) (sym e) (names_distinct paths c.requires.few c.requires.distinct)) c.in_order.ensures
