-- Members one after the other.
use Rattle.std.proofs.Common.{◌≡◌, ◌≢◌, ℕ, ◌+◌, ◌<◌, ◌≤◌, List, [], ◌∷◌, ◌++◌, length, drop, get_or, map, refl, sym, ap, ◌∙◌}
use Rattle.std.proofs.lemmas.List.{drop_more, drop_all}
use Rattle.std.specs.Prelude.{Option, Some, None}
use Rattle.pn_yaml.specs.Data.{Data, list, Members, no_members, member, item}
use Rattle.pn_yaml.specs.View.{items_of, view, members_view}
use Rattle.pn_yaml.specs.declared.node.Node.{Node}
use Rattle.pn_lock_print.specs.LockData.{names_data, text, text_items}
use Rattle.pn_lock_print.specs.Members.{entries, joined, put}

pub joined_none : (ms : Members) → joined ms no_members ≡ ms
joined_none no_members = refl
joined_none (member k d ms) = ap (member k d) (joined_none ms)

pub joined-assoc : (a b c : Members) → joined (joined a b) c ≡ joined a (joined b c)
joined-assoc no_members b c = refl
joined-assoc (member k d ms) b c = ap (member k d) (joined-assoc ms b c)

pub view_push : (ms : List (List ℕ × Node)) (k : List ℕ) (n : Node) → members_view (ms ++ (k, n) ∷ []) ≡ joined (members_view ms) (member k (view n) no_members)
view_push [] k n = refl
view_push (m ∷ ms) k n = ap (member m.0 (view m.1)) (view_push ms k n)

put_joined : (k : List ℕ) (o : Option Data) (rest : Members) → joined (put k o no_members) rest ≡ put k o rest
put_joined k None rest = refl
put_joined k (Some d) rest = refl

-- one more member, or a field, before the rest
pub then_member : (old new rest whole : Members) (k : List ℕ) (d e : Data) → new ≡ joined old (member k d no_members) → d ≡ e → joined old (member k e rest) ≡ whole → joined new rest ≡ whole
then_member old new rest whole k d e h s w = ap (λ ms. joined ms rest) h ∙ joined-assoc old (member k d no_members) rest ∙ ap (λ x. joined old (member k x rest)) s ∙ w

pub then_put : (old new rest whole : Members) (k : List ℕ) (o p : Option Data) → new ≡ joined old (put k o no_members) → o ≡ p → joined old (put k p rest) ≡ whole → joined new rest ≡ whole
then_put old new rest whole k o p h s w =
    ap (λ ms. joined ms rest) h ∙ joined-assoc old (put k o no_members) rest ∙ ap (λ x. joined old (joined (put k x no_members) rest)) s ∙ ap (joined old) (put_joined k p rest) ∙ w

pub starts : (ms : List (List ℕ × Node)) (rest : Members) → ms ≡ [] → joined (members_view ms) rest ≡ rest
starts ms rest h = ap (λ ms. joined (members_view ms) rest) h

pub last_is : (ms whole : Members) → joined ms no_members ≡ whole → ms ≡ whole
last_is ms whole h = cc (joined_none ms)

-- ---- the entries of a list, one after the other

pub entries_more : {A : Type 0} (key : A → List ℕ) (write : A → Data) (xs : List A) (i : ℕ) (x : A) (old new whole : Members) (k : List ℕ) (d : Data) → i < length xs → x ≡ get_or xs i x → k ≡ key x → d ≡ write x
    → new ≡ joined old (member k d no_members) → joined old (entries key write (drop i xs)) ≡ whole → joined new (entries key write (drop (i + 1) xs)) ≡ whole
entries_more key write xs i x old new whole k d l is ks ds h w =
    let cut : drop i xs ≡ x ∷ drop (i + 1) xs = drop_more xs i x l ∙ ap (λ y. y ∷ drop (i + 1) xs) (sym is) in
    then_member old new (entries key write (drop (i + 1) xs)) whole k d (write x) h ds
    (ap (λ k. joined old (member k (write x) (entries key write (drop (i + 1) xs)))) ks ∙ ap (λ ys. joined old (entries key write ys)) (sym cut) ∙ w)

pub entries_done : {A : Type 0} (key : A → List ℕ) (write : A → Data) (xs : List A) (i : ℕ) (ms whole : Members) → length xs ≤ i → joined ms (entries key write (drop i xs)) ≡ whole → ms ≡ whole
entries_done key write xs i ms whole l h = last_is ms whole (ap (λ ys. joined ms (entries key write ys)) (sym (drop_all i xs l)) ∙ h)

-- ---- lists of names

pub names_are : (ks : List (List ℕ)) → items_of (map text ks) ≡ text_items ks
names_are [] = refl
names_are (k ∷ ks) = ap (item (text k)) (names_are ks)

pub names_some : (ks : List (List ℕ)) → ks ≢ [] → Some (list (text_items ks)) ≡ names_data ks
names_some [] h = absurd (h refl)
names_some (k ∷ ks) h = refl
