-- Lists of names that are read.
use Rattle.std.proofs.Common.{◌≡◌, ℕ, Bool, true, false, List, [], map, refl, sym, ap, ◌∙◌, subst, Ok}
use Rattle.std.specs.Prelude.{IsPermutation}
use Rattle.pn_text.specs.Name.{is_name}
use Rattle.pn_yaml.specs.Data.{Data, Items, no_items, item}
use Rattle.pn_lock.specs.Kept.{Rises}
use Rattle.pn_lock.proofs.KeptLemmas.{map_same}
use Rattle.pn_lock_shape.specs.declared.fault.ShapeFault.{ShapeFault}
use Rattle.pn_lock_shape.specs.declared.fault.ShapeFault.TheVariants as shape
use Rattle.pn_lock_shape.specs.Answers.{Fails}
use Rattle.pn_lock_shape.specs.Keys.{Once, are_once, rising}
use Rattle.pn_lock_shape.specs.Kept.{AreNames}
use Rattle.pn_lock_shape.specs.OwnKeys.{ok_same, then_some}
use Rattle.pn_lock_shape.specs.Reading.{name_in, names_in, transitive_in}
use Rattle.pn_lock_shape.specs.Shapes.{◌>>=◌, and_then, in_order, items_in, text_in, when}
use Rattle.pn_lock_shape.proofs.HaveLemmas.{all_ordered, then_same}
use Rattle.pn_lock_shape.proofs.OnceLemmas.{Sorted, id, once_sorted, rising_order, true_once}
use Rattle.pn_lock_shape.proofs.SortLemmas.{sorted_rises}

tested : (d : Data) (ds : Items) (xs : List (List ℕ)) → items_in d ≡ Ok ds → names_in ds ≡ Ok xs → transitive_in d ≡ when (are_once xs) (in_order id xs)
tested d ds xs i n = ap (λ r. r >>= λ ds. names_in ds >>= λ names. when (are_once names) (in_order id names)) i ∙ ap (λ r. r >>= λ names. when (are_once names) (in_order id names)) n

pub transitive_ok : (d : Data) (ds : Items) (xs ys : List (List ℕ)) → items_in d ≡ Ok ds → names_in ds ≡ Ok xs → IsPermutation xs ys → Sorted ys → rising ys ≡ true → transitive_in d ≡ Ok ys
transitive_ok d ds xs ys i n p s r =
    tested d ds xs i n ∙ ap (λ b. when b (in_order id xs)) (once_sorted xs ys p s ∙ r) ∙ ap Ok (rising_order xs ys p s r)

pub transitive_wrong : (d : Data) (ds : Items) (xs ys : List (List ℕ)) (e : ShapeFault) → items_in d ≡ Ok ds → names_in ds ≡ Ok xs → IsPermutation xs ys → Sorted ys → rising ys ≡ false → e ≡ shape.At [] → Fails e (transitive_in d)
transitive_wrong d ds xs ys e i n p s r h =
    subst (λ x. Fails x (transitive_in d)) (sym h) (tested d ds xs i n ∙ ap (λ b. when b (in_order id xs)) (once_sorted xs ys p s ∙ r))

all_names : (ds : Items) (xs : List (List ℕ)) → names_in ds ≡ Ok xs → AreNames xs
all_names no_items xs h = subst AreNames (ok_same [] xs (Ok []) refl h) tt
all_names (item d ds) xs h =
    let one = then_some (name_in d) (λ x. and_then x (names_in ds)) xs h in
    let more = then_same one.0 (names_in ds) xs one.2 in
    let t = then_some (text_in d) (λ name. when (is_name name) name) one.0 one.1 in
    subst AreNames more.2 (named t.0 one.0 (is_name t.0) refl t.2, all_names ds more.0 more.1) where
      named : (k x : List ℕ) (b : Bool) → is_name k ≡ b → when b k ≡ Ok x → is_name x ≡ true
      named k x true e h = subst (λ y. is_name y ≡ true) (ok_same k x (Ok k) refl h) e
      named k x false e h = absurd (cc h)

pub transitive_have : (d : Data) (xs : List (List ℕ)) → transitive_in d ≡ Ok xs → AreNames xs × Rises xs
transitive_have d xs h =
    let i = then_some (items_in d) (λ ds. names_in ds >>= λ names. when (are_once names) (in_order id names)) xs h in
    let n = then_some (names_in i.0) (λ names. when (are_once names) (in_order id names)) xs i.2 in
    go n.0 (are_once n.0) refl n.2 (all_names i.0 n.0 n.1) where
      go : (names : List (List ℕ)) (b : Bool) → are_once names ≡ b → when b (in_order id names) ≡ Ok xs → AreNames names → AreNames xs × Rises xs
      go names true o h a =
          let same : in_order id names ≡ xs = ok_same (in_order id names) xs (Ok (in_order id names)) refl h in (
            subst AreNames same (all_ordered (λ (k : List ℕ). is_name k ≡ true) id names a),
            subst Rises (map_same xs) (subst (λ ys. Rises (map id ys)) same (sorted_rises id names (subst Once (sym (map_same names)) (true_once names o)))),
          )
      go names false o h a = absurd (cc h)
