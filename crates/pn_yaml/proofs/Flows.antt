-- Lists and maps of a flow, item by item.
use Rattle.std.proofs.Common.{◌≡◌, ◌≢◌, ℕ, zero, suc, ◌-◌, ◌<◌, ◌≤◌, length, arith, List, [], ◌∷◌, ◌++◌, Bool, true, false, Ok, Err, refl, sym, ap, subst, ◌∙◌, map as each}
use Rattle.std.specs.Prelude.{not, if◌then◌else◌}
use Rattle.std.proofs.lemmas.List.{map_push}
use Rattle.pn_yaml.specs.declared.fault.Why.TheVariants as why
use Rattle.pn_yaml.specs.declared.fault.YamlFault.{YamlFault}
use Rattle.pn_yaml.specs.declared.node.Node.{Node}
use Rattle.pn_yaml.specs.declared.scalar.Place.TheVariants as place
use Rattle.pn_yaml.specs.Bytes.{is_bare, starts, tail_of, unindented}
use Rattle.pn_yaml.specs.Data.{Data, scalar, list, map, Items, no_items, Members, no_members, is_among}
use Rattle.pn_yaml.specs.Outcome.{◌>>=◌, Fails, wrong}
use Rattle.pn_yaml.specs.Flow.{Reader, behind_value, flow_at, flow_items, flow_key, flow_member, flow_members, flow_value, is_flow, list_in, map_in, with_item, with_member}
use Rattle.pn_yaml.specs.FlowSteps.{before_step, behind_step}
use Rattle.pn_yaml.specs.KeySets.{seen_of}
use Rattle.pn_yaml.specs.Scalars.{is_colon, word_at}
use Rattle.pn_yaml.specs.View.{items_of, members_of, view}
use Rattle.pn_yaml.proofs.Failing.{fails_as}
use Rattle.pn_yaml.proofs.KeyLists.{seen_more}
use Rattle.pn_yaml.proofs.Rounds.{Reads, after_is, before_is, behind_is, goes, one_more, round, round_closed, round_on, round_unbegun, round_within, then_alike}
use Rattle.pn_yaml.proofs.Shrinking.{Within, tail_within, unindented_within, within_more, within_then, word_within}

round_is : {A D : Type 0} (line close : ℕ) (end : A) (one : List ℕ → Reads D) (put : D → Reads A → Reads A) (more : D → List ℕ → Reads A) (text : List ℕ)
    → (if is_bare text then wrong line why.Flow else if starts close (unindented text) then Ok (end, tail_of (unindented text))
    else one (unindented text) >>= λ v. put v.0 (behind_value line close end (more v.0) (unindented v.1)))
    ≡ round line close end one put more text
round_is {A} {D} line close end one put more text =
    let now : List ℕ → Reads A = λ front. one front >>= λ v. put v.0 (behind_value line close end (more v.0) (unindented v.1)) in
    let on : List ℕ → Reads A = λ front. one front >>= one_more line close end put more in
    let alike : (front : List ℕ) → now front ≡ on front = λ front. then_alike (one front) (λ v. put v.0 (behind_value line close end (more v.0) (unindented v.1))) (one_more line close end put more)
    (λ v. ap (λ (r : Reads A). put v.0 r) (behind_is line close end (more v.0) v.1)) in
    before_is line close end now text
    ∙ then_alike (before_step line close text) (goes end now) (goes end on)
    (λ s. elim s.0 as (λ v. (if◌then◌else◌ {A = Reads A} v (Ok (end, s.1)) (now s.1)) ≡ (if◌then◌else◌ {A = Reads A} v (Ok (end, s.1)) (on s.1))) [ true ↦ refl | false ↦ alike s.1 ])

-- what was read before what the rest gives
abbrev pub onto : {A D : Type 0} → (D → Reads A → Reads A) → List D → Reads A → Reads A
onto put [] r = r
onto put (d ∷ ds) r = put d (onto put ds r)

onto_more : {A D : Type 0} (put : D → Reads A → Reads A) (ds : List D) (d : D) (r : Reads A) → onto put (ds ++ d ∷ []) r ≡ onto put ds (put d r)
onto_more put [] d r = refl
onto_more {A} put (x ∷ ds) d r = ap (λ (s : Reads A). put x s) (onto_more put ds d r)

onto_err : {A D : Type 0} (put : D → Reads A → Reads A) → ((d : D) (e : YamlFault) → put d (Err e) ≡ Err e) → (ds : List D) (e : YamlFault) → onto put ds (Err e) ≡ Err e
onto_err put h [] e = refl
onto_err {A} put h (d ∷ ds) e = ap (λ (s : Reads A). put d s) (onto_err put h ds e) ∙ h d e

-- ---- lists

items_round : (value : Reader) (line steps : ℕ) (text : List ℕ) → flow_items value line (suc steps) text ≡ round line 93 no_items value with_item (λ d. flow_items value line steps) text
items_round value line steps text = round_is line 93 no_items value with_item (λ d. flow_items value line steps) text

items_done : (ds : List Data) (rest : List ℕ) → onto with_item ds (Ok (no_items, rest)) ≡ Ok (items_of ds, rest)
items_done [] rest = refl
items_done (d ∷ ds) rest = ap (λ (r : Reads Items). with_item d r) (items_done ds rest)

abbrev pub whole_list : Reader → ℕ → List ℕ → Reads Data
whole_list value line text = list_in (flow_items value line (suc (length text)) text)

-- the items so far before what the rest gives
pub record ItemsSoFar (value : Reader) (line : ℕ) (text : List ℕ) (ds : List Data) (rest : List ℕ) : Type 0 where
  pub steps : ℕ
  pub enough : length rest ≤ steps
  pub so_far : flow_items value line (suc (length text)) text ≡ onto with_item ds (flow_items value line (suc steps) rest)

items_are : (value : Reader) (line : ℕ) (text : List ℕ) (ds : List Data) (rest : List ℕ) (s : ItemsSoFar value line text ds rest) (r : Reads Items)
    → round line 93 no_items value with_item (λ d. flow_items value line s.steps) rest ≡ r → whole_list value line text ≡ list_in (onto with_item ds r)
items_are value line text ds rest s r e = ap list_in (s.so_far ∙ ap (λ (x : Reads Items). onto with_item ds x) (items_round value line s.steps rest ∙ e))

items_fail : (value : Reader) (line : ℕ) (text : List ℕ) (ds : List Data) (rest : List ℕ) (s : ItemsSoFar value line text ds rest) (e : YamlFault)
    → round line 93 no_items value with_item (λ d. flow_items value line s.steps) rest ≡ Err e → whole_list value line text ≡ Err e
items_fail value line text ds rest s e f = items_are value line text ds rest s (Err e) f ∙ ap list_in (onto_err with_item (λ d e. refl) ds e)

pub items_closed : (value : Reader) (line : ℕ) (text : List ℕ) (ds : List Data) (rest after : List ℕ) → ItemsSoFar value line text ds rest → before_step line 93 rest ≡ Ok (true, after)
    → whole_list value line text ≡ Ok (list (items_of ds), after)
items_closed value line text ds rest after s e =
    items_are value line text ds rest s (Ok (no_items, after)) (round_closed line 93 no_items value with_item (λ d. flow_items value line s.steps) rest after e) ∙ ap list_in (items_done ds after)

pub items_unbegun : (value : Reader) (line : ℕ) (text : List ℕ) (ds : List Data) (rest : List ℕ) (e : YamlFault) → ItemsSoFar value line text ds rest
    → Fails e (before_step line 93 rest) → Fails e (whole_list value line text)
items_unbegun value line text ds rest e s f = fails_as e (before_step line 93 rest) (whole_list value line text)
    (λ g. items_fail value line text ds rest s e (round_unbegun line 93 no_items value with_item (λ d. flow_items value line s.steps) rest e g)) f

pub items_unread : (value : Reader) (line : ℕ) (text : List ℕ) (ds : List Data) (rest front : List ℕ) (e : YamlFault) → ItemsSoFar value line text ds rest
    → before_step line 93 rest ≡ Ok (false, front) → Fails e (value front) → Fails e (whole_list value line text)
items_unread value line text ds rest front e s b f = fails_as e (value front) (whole_list value line text)
    (λ g. items_fail value line text ds rest s e (round_on line 93 no_items value with_item (λ d. flow_items value line s.steps) rest front (Err e) b g)) f

items_after : (value : Reader) (line : ℕ) (text : List ℕ) (ds : List Data) (rest front : List ℕ) (d : Data) (after : List ℕ) (r : Reads Bool) (s : ItemsSoFar value line text ds rest)
    → before_step line 93 rest ≡ Ok (false, front) → value front ≡ Ok (d, after) → behind_step line 93 after ≡ r
    → round line 93 no_items value with_item (λ d. flow_items value line s.steps) rest ≡ with_item d (r >>= goes no_items (flow_items value line s.steps))
items_after value line text ds rest front d after r s b f g =
    round_on line 93 no_items value with_item (λ d. flow_items value line s.steps) rest front (Ok (d, after)) b f
    ∙ after_is line 93 no_items with_item (λ d. flow_items value line s.steps) d after r g

pub items_unended : (value : Reader) (line : ℕ) (text : List ℕ) (ds : List Data) (rest front : List ℕ) (d : Data) (after : List ℕ) (e : YamlFault) → ItemsSoFar value line text ds rest
    → before_step line 93 rest ≡ Ok (false, front) → value front ≡ Ok (d, after) → Fails e (behind_step line 93 after) → Fails e (whole_list value line text)
items_unended value line text ds rest front d after e s b f h = fails_as e (behind_step line 93 after) (whole_list value line text)
    (λ g. items_fail value line text ds rest s e (items_after value line text ds rest front d after (Err e) s b f g)) h

pub items_ended : (value : Reader) (line : ℕ) (text : List ℕ) (ds : List Data) (rest front : List ℕ) (d : Data) (after more : List ℕ) → ItemsSoFar value line text ds rest
    → before_step line 93 rest ≡ Ok (false, front) → value front ≡ Ok (d, after) → behind_step line 93 after ≡ Ok (true, more) → whole_list value line text ≡ Ok (list (items_of (ds ++ d ∷ [])), more)
items_ended value line text ds rest front d after more s b f g =
    items_are value line text ds rest s (with_item d (Ok (no_items, more))) (items_after value line text ds rest front d after (Ok (true, more)) s b f g)
    ∙ ap list_in (sym (onto_more with_item ds d (Ok (no_items, more))) ∙ items_done (ds ++ d ∷ []) more)

pub items_on : (value : Reader) (line : ℕ) (text : List ℕ) (ds : List Data) (rest front : List ℕ) (d : Data) (after more : List ℕ) → ItemsSoFar value line text ds rest
    → before_step line 93 rest ≡ Ok (false, front) → value front ≡ Ok (d, after) → behind_step line 93 after ≡ Ok (false, more) → length more < length rest
    → ItemsSoFar value line text (ds ++ d ∷ []) more
items_on value line text ds rest front d after more s b f g l =
    let less : length more < length rest = l in
    let enough : length rest ≤ s.steps = s.enough in
    let k : s.steps ≡ suc (s.steps - 1) = omega arith in
    record {
      steps = s.steps - 1;
      enough = omega arith;
      so_far = s.so_far
          ∙ ap (λ (x : Reads Items). onto with_item ds x) (items_round value line s.steps rest ∙ items_after value line text ds rest front d after (Ok (false, more)) s b f g)
          ∙ sym (onto_more with_item ds d (flow_items value line s.steps more))
          ∙ ap (λ (n : ℕ). onto with_item (ds ++ d ∷ []) (flow_items value line n more)) k;
    }

-- ---- maps

abbrev pub Entry : Type 0
Entry = List ℕ × Data

abbrev pub put_entry : Entry → Reads Members → Reads Members
put_entry m r = with_member m.0 m.1 r

abbrev pub entries_of : List (List ℕ × Node) → List Entry
entries_of ns = each (λ m. (m.0, view m.1)) ns

abbrev on_member : Reader → ℕ → ℕ → List (List ℕ) → Entry → List ℕ → Reads Members
on_member value line steps seen m = flow_members value line steps (m.0 ∷ seen)

members_round : (value : Reader) (line steps : ℕ) (seen : List (List ℕ)) (text : List ℕ)
    → flow_members value line (suc steps) seen text ≡ round line 125 no_members (flow_member value line seen) put_entry (on_member value line steps seen) text
members_round value line steps seen text = round_is line 125 no_members (flow_member value line seen) put_entry (on_member value line steps seen) text

members_done : (ms : List Entry) (rest : List ℕ) → onto put_entry ms (Ok (no_members, rest)) ≡ Ok (members_of ms, rest)
members_done [] rest = refl
members_done (m ∷ ms) rest = ap (λ (r : Reads Members). put_entry m r) (members_done ms rest)

abbrev pub whole_map : Reader → ℕ → List ℕ → Reads Data
whole_map value line text = map_in (flow_members value line (suc (length text)) [] text)

-- the members so far before what the rest gives
pub record MembersSoFar (value : Reader) (line : ℕ) (text : List ℕ) (ns : List (List ℕ × Node)) (rest : List ℕ) : Type 0 where
  pub steps : ℕ
  pub enough : length rest ≤ steps
  pub so_far : flow_members value line (suc (length text)) [] text ≡ onto put_entry (entries_of ns) (flow_members value line (suc steps) (seen_of ns) rest)

members_are : (value : Reader) (line : ℕ) (text : List ℕ) (ns : List (List ℕ × Node)) (rest : List ℕ) (s : MembersSoFar value line text ns rest) (r : Reads Members)
    → round line 125 no_members (flow_member value line (seen_of ns)) put_entry (on_member value line s.steps (seen_of ns)) rest ≡ r → whole_map value line text ≡ map_in (onto put_entry (entries_of ns) r)
members_are value line text ns rest s r e = ap map_in (s.so_far ∙ ap (λ (x : Reads Members). onto put_entry (entries_of ns) x) (members_round value line s.steps (seen_of ns) rest ∙ e))

members_fail : (value : Reader) (line : ℕ) (text : List ℕ) (ns : List (List ℕ × Node)) (rest : List ℕ) (s : MembersSoFar value line text ns rest) (e : YamlFault)
    → round line 125 no_members (flow_member value line (seen_of ns)) put_entry (on_member value line s.steps (seen_of ns)) rest ≡ Err e → whole_map value line text ≡ Err e
members_fail value line text ns rest s e f = members_are value line text ns rest s (Err e) f ∙ ap map_in (onto_err put_entry (λ d e. refl) (entries_of ns) e)

pub members_closed : (value : Reader) (line : ℕ) (text : List ℕ) (ns : List (List ℕ × Node)) (rest after : List ℕ) → MembersSoFar value line text ns rest → before_step line 125 rest ≡ Ok (true, after)
    → whole_map value line text ≡ Ok (map (members_of (entries_of ns)), after)
members_closed value line text ns rest after s e =
    members_are value line text ns rest s (Ok (no_members, after)) (round_closed line 125 no_members (flow_member value line (seen_of ns)) put_entry (on_member value line s.steps (seen_of ns)) rest after e)
    ∙ ap map_in (members_done (entries_of ns) after)

pub members_unbegun : (value : Reader) (line : ℕ) (text : List ℕ) (ns : List (List ℕ × Node)) (rest : List ℕ) (e : YamlFault) → MembersSoFar value line text ns rest
    → Fails e (before_step line 125 rest) → Fails e (whole_map value line text)
members_unbegun value line text ns rest e s f = fails_as e (before_step line 125 rest) (whole_map value line text)
    (λ g. members_fail value line text ns rest s e (round_unbegun line 125 no_members (flow_member value line (seen_of ns)) put_entry (on_member value line s.steps (seen_of ns)) rest e g)) f

-- a member is a key, and then a value
abbrev keyed : Reader → ℕ → List ℕ × List ℕ → Reads Entry
keyed value line k = flow_value value line k.1 >>= λ v. Ok ((k.0, v.0), v.1)

-- a member that isn't read
members_unread : (value : Reader) (line : ℕ) (text : List ℕ) (ns : List (List ℕ × Node)) (rest front : List ℕ) (e : YamlFault) (s : MembersSoFar value line text ns rest)
    → before_step line 125 rest ≡ Ok (false, front) → flow_member value line (seen_of ns) front ≡ Err e → whole_map value line text ≡ Err e
members_unread value line text ns rest front e s b f = members_fail value line text ns rest s e
    (round_on line 125 no_members (flow_member value line (seen_of ns)) put_entry (on_member value line s.steps (seen_of ns)) rest front (Err e) b f)

pub members_unkeyed : (value : Reader) (line : ℕ) (text : List ℕ) (ns : List (List ℕ × Node)) (rest front : List ℕ) (e : YamlFault) → MembersSoFar value line text ns rest
    → before_step line 125 rest ≡ Ok (false, front) → Fails e (flow_key line (seen_of ns) front) → Fails e (whole_map value line text)
members_unkeyed value line text ns rest front e s b f = fails_as e (flow_key line (seen_of ns) front) (whole_map value line text)
    (λ g. members_unread value line text ns rest front e s b (ap (λ (r : Reads (List ℕ)). r >>= keyed value line) g)) f

pub members_unvalued : (value : Reader) (line : ℕ) (text : List ℕ) (ns : List (List ℕ × Node)) (rest front : List ℕ) (key after : List ℕ) (e : YamlFault) → MembersSoFar value line text ns rest
    → before_step line 125 rest ≡ Ok (false, front) → flow_key line (seen_of ns) front ≡ Ok (key, after) → Fails e (flow_value value line after) → Fails e (whole_map value line text)
members_unvalued value line text ns rest front key after e s b f h = fails_as e (flow_value value line after) (whole_map value line text)
    (λ g. members_unread value line text ns rest front e s b (ap (λ (r : Reads (List ℕ)). r >>= keyed value line) f
    ∙ ap (λ (r : Reads Data). r >>= λ v. Ok ((key, v.0), v.1)) g)) h

-- a member that is read
pub record IsMember (value : Reader) (line : ℕ) (seen : List (List ℕ)) (front : List ℕ) (m : Entry) (after : List ℕ) : Type 0 where
  pub is : flow_member value line seen front ≡ Ok (m, after)

pub member_read : (value : Reader) (line : ℕ) (seen : List (List ℕ)) (front key after : List ℕ) (d : Data) (behind : List ℕ)
    → flow_key line seen front ≡ Ok (key, after) → flow_value value line after ≡ Ok (d, behind) → IsMember value line seen front (key, d) behind
member_read value line seen front key after d behind f g = record {
  is = ap (λ (r : Reads (List ℕ)). r >>= keyed value line) f ∙ ap (λ (r : Reads Data). r >>= λ v. Ok ((key, v.0), v.1)) g;
}

members_after : (value : Reader) (line : ℕ) (text : List ℕ) (ns : List (List ℕ × Node)) (rest front : List ℕ) (m : Entry) (after : List ℕ) (r : Reads Bool) (s : MembersSoFar value line text ns rest)
    → before_step line 125 rest ≡ Ok (false, front) → IsMember value line (seen_of ns) front m after → behind_step line 125 after ≡ r
    → round line 125 no_members (flow_member value line (seen_of ns)) put_entry (on_member value line s.steps (seen_of ns)) rest
    ≡ put_entry m (r >>= goes no_members (flow_members value line s.steps (m.0 ∷ seen_of ns)))
members_after value line text ns rest front m after r s b f g =
    round_on line 125 no_members (flow_member value line (seen_of ns)) put_entry (on_member value line s.steps (seen_of ns)) rest front (Ok (m, after)) b f.is
    ∙ after_is line 125 no_members put_entry (on_member value line s.steps (seen_of ns)) m after r g

pub members_unended : (value : Reader) (line : ℕ) (text : List ℕ) (ns : List (List ℕ × Node)) (rest front : List ℕ) (m : Entry) (after : List ℕ) (e : YamlFault) → MembersSoFar value line text ns rest
    → before_step line 125 rest ≡ Ok (false, front) → IsMember value line (seen_of ns) front m after → Fails e (behind_step line 125 after) → Fails e (whole_map value line text)
members_unended value line text ns rest front m after e s b f h = fails_as e (behind_step line 125 after) (whole_map value line text)
    (λ g. members_fail value line text ns rest s e (members_after value line text ns rest front m after (Err e) s b f g)) h

entries_more : (ns : List (List ℕ × Node)) (key : List ℕ) (n : Node) → entries_of (ns ++ (key, n) ∷ []) ≡ entries_of ns ++ (key, view n) ∷ []
entries_more ns key n = map_push (λ (m : List ℕ × Node). (m.0, view m.1)) ns (key, n)

pub members_ended : (value : Reader) (line : ℕ) (text : List ℕ) (ns : List (List ℕ × Node)) (rest front key : List ℕ) (n : Node) (after more : List ℕ) → MembersSoFar value line text ns rest
    → before_step line 125 rest ≡ Ok (false, front) → IsMember value line (seen_of ns) front (key, view n) after → behind_step line 125 after ≡ Ok (true, more)
    → whole_map value line text ≡ Ok (map (members_of (entries_of (ns ++ (key, n) ∷ []))), more)
members_ended value line text ns rest front key n after more s b f g =
    let m : Entry = (key, view n) in
    members_are value line text ns rest s (put_entry m (Ok (no_members, more))) (members_after value line text ns rest front m after (Ok (true, more)) s b f g)
    ∙ ap map_in (sym (onto_more put_entry (entries_of ns) m (Ok (no_members, more))) ∙ ap (λ (ms : List Entry). onto put_entry ms (Ok (no_members, more))) (sym (entries_more ns key n))
    ∙ members_done (entries_of (ns ++ (key, n) ∷ [])) more)

pub members_on : (value : Reader) (line : ℕ) (text : List ℕ) (ns : List (List ℕ × Node)) (rest front key : List ℕ) (n : Node) (after more : List ℕ) → MembersSoFar value line text ns rest
    → before_step line 125 rest ≡ Ok (false, front) → IsMember value line (seen_of ns) front (key, view n) after → behind_step line 125 after ≡ Ok (false, more) → length more < length rest
    → MembersSoFar value line text (ns ++ (key, n) ∷ []) more
members_on value line text ns rest front key n after more s b f g l =
    let m : Entry = (key, view n) in
    let less : length more < length rest = l in
    let enough : length rest ≤ s.steps = s.enough in
    let k : s.steps ≡ suc (s.steps - 1) = omega arith in
    record {
      steps = s.steps - 1;
      enough = omega arith;
      so_far = s.so_far
          ∙ ap (λ (x : Reads Members). onto put_entry (entries_of ns) x) (members_round value line s.steps (seen_of ns) rest ∙ members_after value line text ns rest front m after (Ok (false, more)) s b f g)
          ∙ sym (onto_more put_entry (entries_of ns) m (flow_members value line s.steps (key ∷ seen_of ns) more))
          ∙ ap (λ (ms : List Entry). onto put_entry ms (flow_members value line s.steps (key ∷ seen_of ns) more)) (sym (entries_more ns key n))
          ∙ ap (λ (seen : List (List ℕ)). onto put_entry (entries_of (ns ++ (key, n) ∷ [])) (flow_members value line s.steps seen more)) (sym (seen_more ns (key, n)))
          ∙ ap (λ (j : ℕ). onto put_entry (entries_of (ns ++ (key, n) ∷ [])) (flow_members value line j (seen_of (ns ++ (key, n) ∷ [])) more)) k;
    }

-- ---- lengths

abbrev pub Shrinks : Reader → Type 0
Shrinks value = (text : List ℕ) → Within (length text) (value text)

with_item_within : (d : Data) (n : ℕ) (r : Reads Items) → Within n r → Within n (with_item d r)
with_item_within d n (Ok r) h = h
with_item_within d n (Err e) h = tt

with_member_within : (key : List ℕ) (d : Data) (n : ℕ) (r : Reads Members) → Within n r → Within n (with_member key d r)
with_member_within key d n (Ok r) h = h
with_member_within key d n (Err e) h = tt

list_within : (n : ℕ) (r : Reads Items) → Within n r → Within n (list_in r)
list_within n (Ok r) h = h
list_within n (Err e) h = tt

map_within : (n : ℕ) (r : Reads Members) → Within n r → Within n (map_in r)
map_within n (Ok r) h = h
map_within n (Err e) h = tt

items_within : (value : Reader) → Shrinks value → (line steps : ℕ) (text : List ℕ) → Within (length text) (flow_items value line steps text)
items_within value h line zero text = tt
items_within value h line (suc steps) text = subst (λ (r : Reads Items). Within (length text) r) (sym (items_round value line steps text))
    (round_within line 93 no_items value with_item (λ d. flow_items value line steps) text h (λ d n r. with_item_within d n r) (λ d rest. items_within value h line steps rest))

value_within : (value : Reader) → Shrinks value → (line : ℕ) (text : List ℕ) → Within (length text) (flow_value value line text)
value_within value h line text = elim (is_bare text) as (λ v. Within (length text) (if◌then◌else◌ {A = Reads Data} v (wrong line why.Flow) (value (unindented text)))) [
  | true ↦ tt
  | false ↦ within_more (length (unindented text)) (length text) (value (unindented text)) (unindented_within text) (h (unindented text))
]

word_key_within : (line : ℕ) (seen : List (List ℕ)) (text : List ℕ)
    → Within (length text) (word_at place.Flow line text >>= λ k. if not (is_colon k.1) then wrong line why.Flow else if is_among k.0.text seen then wrong line why.Twice else Ok (k.0.text, tail_of k.1))
word_key_within line seen text =
    within_then (length text) (length text) (word_at place.Flow line text) (λ k. if not (is_colon k.1) then wrong line why.Flow else if is_among k.0.text seen then wrong line why.Twice else Ok (k.0.text, tail_of k.1)) (word_within place.Flow line text)
    (λ k l. let got : Reads (List ℕ) = Ok (k.0.text, tail_of k.1) in
    elim (is_colon k.1) as (λ v. Within (length text) (if not v then wrong line why.Flow else if is_among k.0.text seen then wrong line why.Twice else got)) [
      | true ↦ elim (is_among k.0.text seen) as (λ v. Within (length text) (if v then wrong line why.Twice else got)) [ true ↦ tt | false ↦ omega (arith, l, tail_within k.1) ]
      | false ↦ tt
    ])

key_within : (line : ℕ) (seen : List (List ℕ)) (text : List ℕ) → Within (length text) (flow_key line seen text)
key_within line seen text =
    let word : Reads (List ℕ) = word_at place.Flow line text >>= λ k. if not (is_colon k.1) then wrong line why.Flow else if is_among k.0.text seen then wrong line why.Twice else Ok (k.0.text, tail_of k.1) in
    elim (is_flow text) as (λ v. Within (length text) (if v then wrong line why.Flow else word)) [ true ↦ tt | false ↦ word_key_within line seen text ]

member_within : (value : Reader) → Shrinks value → (line : ℕ) (seen : List (List ℕ)) (text : List ℕ) → Within (length text) (flow_member value line seen text)
member_within value h line seen text =
    within_then (length text) (length text) (flow_key line seen text) (keyed value line) (key_within line seen text)
    (λ k l. within_then (length k.1) (length text) (flow_value value line k.1) (λ v. Ok ((k.0, v.0), v.1)) (value_within value h line k.1) (λ v m. omega arith))

members_within : (value : Reader) → Shrinks value → (line steps : ℕ) (seen : List (List ℕ)) (text : List ℕ) → Within (length text) (flow_members value line steps seen text)
members_within value h line zero seen text = tt
members_within value h line (suc steps) seen text = subst (λ (r : Reads Members). Within (length text) r) (sym (members_round value line steps seen text))
    (round_within line 125 no_members (flow_member value line seen) put_entry (on_member value line steps seen) text (member_within value h line seen) (λ m n r. with_member_within m.0 m.1 n r)
    (λ m rest. members_within value h line steps (m.0 ∷ seen) rest))

-- what is behind a value is no longer than the text
pub flow_within : (levels line : ℕ) → Shrinks (flow_at levels line)
flow_within zero line text = tt
flow_within (suc levels) line text =
    let word : Reads Data = word_at place.Flow line text >>= λ w. Ok (scalar w.0.text w.0.plain, w.1) in
    let rest = tail_of text in
    elim (starts 91 text) as (λ v. Within (length text) (if v then list_in (flow_items (flow_at levels line) line (length text) (tail_of text))
    else if starts 123 text then map_in (flow_members (flow_at levels line) line (length text) [] (tail_of text)) else word)) [
      | true ↦ list_within (length text) (flow_items (flow_at levels line) line (length text) rest)
          (within_more (length rest) (length text) (flow_items (flow_at levels line) line (length text) rest) (tail_within text) (items_within (flow_at levels line) (flow_within levels line) line (length text) rest))
      | false ↦ elim (starts 123 text) as (λ v. Within (length text) (if v then map_in (flow_members (flow_at levels line) line (length text) [] (tail_of text)) else word)) [
        | true ↦ map_within (length text) (flow_members (flow_at levels line) line (length text) [] rest)
            (within_more (length rest) (length text) (flow_members (flow_at levels line) line (length text) [] rest) (tail_within text) (members_within (flow_at levels line) (flow_within levels line) line (length text) [] rest))
        | false ↦ within_then (length text) (length text) (word_at place.Flow line text) (λ w. Ok (scalar w.0.text w.0.plain, w.1)) (word_within place.Flow line text) (λ w l. l)
      ]
    ]

pub value_shorter : (levels line : ℕ) (text : List ℕ) → Within (length text) (flow_value (flow_at levels line) line text)
value_shorter levels line text = value_within (flow_at levels line) (flow_within levels line) line text

pub key_shorter : (line : ℕ) (seen : List (List ℕ)) (text : List ℕ) → Within (length text) (flow_key line seen text)
key_shorter line seen text = key_within line seen text

-- ---- a flow, or a value in it

level : (levels : ℕ) → levels ≢ 0 → levels ≡ suc (levels - 1)
level levels ne = omega (arith, ne)

pub flow_list : (levels line : ℕ) (text inner : List ℕ) → levels ≢ 0 → text ≡ 91 ∷ inner → flow_at levels line text ≡ whole_list (flow_at (levels - 1) line) line inner
flow_list levels line text inner ne e = ap (λ (n : ℕ). flow_at n line text) (level levels ne) ∙ ap (λ (t : List ℕ). flow_at (suc (levels - 1)) line t) e

pub flow_map : (levels line : ℕ) (text inner : List ℕ) → levels ≢ 0 → text ≡ 123 ∷ inner → flow_at levels line text ≡ whole_map (flow_at (levels - 1) line) line inner
flow_map levels line text inner ne e = ap (λ (n : ℕ). flow_at n line text) (level levels ne) ∙ ap (λ (t : List ℕ). flow_at (suc (levels - 1)) line t) e
