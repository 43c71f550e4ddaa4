-- The keys of each object in a JSON value that was read are in byte order.
use Rattle.std.proofs.Common.{◌≡◌, ℕ, List, [], ◌∷◌, refl, subst, Option, Some, None}
use Rattle.std.specs.Prelude.{option_map, option_and_then}
use Rattle.std.specs.Cmp.Lexicographic.{slice_cmp}
use Rattle.std.specs.List.Sorted.{IsStrictlySortedBy}
use Rattle.std.specs.Ordering.{nat_cmp, match_ordering}
use Rattle.std.specs.declared.cmp.Ordering.TheVariants.{Less, Equal, Greater}
use Rattle.json.specs.Json as json
use Rattle.json.specs.Lex.{tokens}
use Rattle.serde_json.specs.Data.{Num, Data, null, boolean, number, string, array, object, Items, no_items, item, Members, no_members, member, put}
use Rattle.serde_json.specs.Find.{get, get_member}
use Rattle.serde_json.specs.Read.{max_depth, number_of, of_items, of_json, of_members, read}
use Rattle.pn_manifest.specs.Said.{AreRising}
use Rattle.pn_manifest.specs.Values.{field, filled, members_in}
use Rattle.pn_manifest.proofs.PeerLemmas.{IsBelow, further, turned}

abbrev pub keys : Members → List (List ℕ)
keys no_members = []
keys (member k d ms) = k ∷ keys ms

abbrev mutual
  pub IsOrdered : Data → Type 0
  IsOrdered null = Unit {0}
  IsOrdered (boolean b) = Unit {0}
  IsOrdered (number n) = Unit {0}
  IsOrdered (string s) = Unit {0}
  IsOrdered (array ds) = AreItemsOrdered ds
  IsOrdered (object ms) = AreMembersOrdered ms

  pub AreItemsOrdered : Items → Type 0
  AreItemsOrdered no_items = Unit {0}
  AreItemsOrdered (item d ds) = IsOrdered d × AreItemsOrdered ds

  pub AreMembersOrdered : Members → Type 0
  AreMembersOrdered no_members = Unit {0}
  AreMembersOrdered (member k d ms) = IsBelow k (keys ms) × (IsOrdered d × AreMembersOrdered ms)

below_put : (j k : List ℕ) (d : Data) (ms : Members) → slice_cmp nat_cmp j k ≡ Less → IsBelow j (keys ms) → IsBelow j (keys (put k d ms))
below_put j k d no_members h b = (h, tt)
below_put j k d (member l e ms) h b =
    elim (slice_cmp nat_cmp k l) as (λ c. IsBelow j (keys (match_ordering c (member k d (member l e ms)) (member l d ms) (member l e (put k d ms))))) [
      | Less ↦ (h, b)
      | Equal ↦ b
      | Greater ↦ (b.0, below_put j k d ms h b.1)
    ]

put_ordered : (k : List ℕ) (d : Data) (ms : Members) → IsOrdered d → AreMembersOrdered ms → AreMembersOrdered (put k d ms)
put_ordered k d no_members good h = (tt, (good, tt))
put_ordered k d (member l e ms) good h =
    elim (slice_cmp nat_cmp k l) as (λ c. slice_cmp nat_cmp k l ≡ c → AreMembersOrdered (match_ordering c (member k d (member l e ms)) (member l d ms) (member l e (put k d ms)))) [
      | Less ↦ λ is. ((is, further k l (keys ms) is h.0), (good, h))
      | Equal ↦ λ is. (h.0, (good, h.1.1))
      | Greater ↦ λ is. (below_put l k d ms (turned k l Greater is) h.0, (h.1.0, put_ordered k d ms good h.1.1))
    ] refl

-- what an option's value satisfies
abbrev pub IsAll : {A : Type 0} → (A → Type 0) → Option A → Type 0
IsAll P None = Unit {0}
IsAll P (Some a) = P a

all_map : {A B : Type 0} (P : A → Type 0) (Q : B → Type 0) (f : A → B) (o : Option A) → ((a : A) → P a → Q (f a)) → IsAll P o → IsAll Q (option_map f o)
all_map P Q f None step h = tt
all_map P Q f (Some a) step h = step a h

all_then : {A B : Type 0} (P : A → Type 0) (Q : B → Type 0) (f : A → Option B) (o : Option A) → ((a : A) → P a → IsAll Q (f a)) → IsAll P o → IsAll Q (option_and_then f o)
all_then P Q f None step h = tt
all_then P Q f (Some a) step h = step a h

number_ordered : (o : Option Num) → IsAll IsOrdered (option_map number o)
number_ordered None = tt
number_ordered (Some n) = tt

mutual
  of_json_ordered : (j : json.Json) → IsAll IsOrdered (of_json j)
  of_json_ordered json.null = tt
  of_json_ordered (json.boolean b) = tt
  of_json_ordered (json.number s) = number_ordered (number_of s)
  of_json_ordered (json.string s) = tt
  of_json_ordered (json.array js) = all_map AreItemsOrdered IsOrdered array (of_items js) (λ ds h. h) (of_items_ordered js)
  of_json_ordered (json.object ms) = all_map AreMembersOrdered IsOrdered object (of_members ms no_members) (λ ds h. h) (of_members_ordered ms no_members tt)

  of_items_ordered : (js : json.Items) → IsAll AreItemsOrdered (of_items js)
  of_items_ordered json.no_items = tt
  of_items_ordered (json.item j js) =
      all_then IsOrdered AreItemsOrdered (λ d. option_map (item d) (of_items js)) (of_json j)
      (λ d h. all_map AreItemsOrdered AreItemsOrdered (item d) (of_items js) (λ ds k. (h, k)) (of_items_ordered js)) (of_json_ordered j)

  of_members_ordered : (ms : json.Members) (found : Members) → AreMembersOrdered found → IsAll AreMembersOrdered (of_members ms found)
  of_members_ordered json.no_members found h = h
  of_members_ordered (json.member k j ms) found h =
      all_then IsOrdered AreMembersOrdered (λ d. of_members ms (put k d found)) (of_json j)
      (λ d good. of_members_ordered ms (put k d found) (put_ordered k d found good h)) (of_json_ordered j)

some_ordered : (o : Option json.Json) (d : Data) → option_and_then of_json o ≡ Some d → IsOrdered d
some_ordered None d h = cc h
some_ordered (Some j) d h = subst (IsAll IsOrdered) h (of_json_ordered j)

pub read_ordered : (text : List ℕ) (d : Data) → read text ≡ Some d → IsOrdered d
read_ordered text d h = some_ordered (option_and_then (λ p. json.if_last p.0 p.1) (json.value max_depth (tokens text))) d h

-- a field's value is ordered too

get_member_ordered : (k : List ℕ) (ms : Members) → AreMembersOrdered ms → IsAll IsOrdered (get_member k ms)
get_member_ordered k no_members h = tt
get_member_ordered k (member l e ms) h =
    elim (slice_cmp nat_cmp k l) as (λ c. IsAll IsOrdered (match_ordering c (get_member k ms) (Some e) (get_member k ms))) [
      | Less ↦ get_member_ordered k ms h.1.1
      | Equal ↦ h.1.0
      | Greater ↦ get_member_ordered k ms h.1.1
    ]

get_ordered : (k : List ℕ) (d : Data) → IsOrdered d → IsAll IsOrdered (get k d)
get_ordered k null h = tt
get_ordered k (boolean b) h = tt
get_ordered k (number n) h = tt
get_ordered k (string s) h = tt
get_ordered k (array ds) h = tt
get_ordered k (object ms) h = get_member_ordered k ms h

filled_ordered : (o : Option Data) → IsAll IsOrdered o → IsAll IsOrdered (filled o)
filled_ordered None h = tt
filled_ordered (Some null) h = tt
filled_ordered (Some (boolean b)) h = tt
filled_ordered (Some (number n)) h = tt
filled_ordered (Some (string s)) h = tt
filled_ordered (Some (array no_items)) h = tt
filled_ordered (Some (array (item d ds))) h = h
filled_ordered (Some (object ms)) h = h

pub field_ordered : (k : List ℕ) (d : Data) → IsOrdered d → IsAll IsOrdered (field k d)
field_ordered k d h = filled_ordered (get k d) (get_ordered k d h)

pub inner_ordered : (k : List ℕ) (f : Option Data) → IsAll IsOrdered f → IsAll IsOrdered (option_and_then (field k) f)
inner_ordered k None h = tt
inner_ordered k (Some d) h = field_ordered k d h

pub members_ordered : (f : Option Data) → IsAll IsOrdered f → AreMembersOrdered (members_in f)
members_ordered None h = tt
members_ordered (Some null) h = tt
members_ordered (Some (boolean b)) h = tt
members_ordered (Some (number n)) h = tt
members_ordered (Some (string s)) h = tt
members_ordered (Some (array ds)) h = tt
members_ordered (Some (object ms)) h = h
