-- The texts that a list has under keys, and those that its object has.
use Rattle.std.proofs.Common.{◌≡◌, ℕ, List, refl, sym, ap, ◌∙◌, subst, true, false, Option, Some, None}
use Rattle.std.specs.Prelude.{if◌then◌else◌, option_and_then}
use Rattle.std.specs.Cmp.Lexicographic.{slice_cmp}
use Rattle.std.specs.Ordering.{is_eq, nat_cmp, match_ordering}
use Rattle.std.specs.Str.{bytes_eq}
use Rattle.std.specs.declared.cmp.Ordering.{Ordering}
use Rattle.std.specs.declared.cmp.Ordering.TheVariants.{Less, Equal, Greater}
use Rattle.std.proofs.lemmas.Map.Text.{is_eq-slice_cmp}
use Rattle.serde_json.specs.Data.{Data, null, boolean, number, string, array, object, Members, no_members, member}
use Rattle.serde_json.specs.Find.{as_str, get_member}
use Rattle.pn_manifest.specs.Laws.{text_in, text_of}
use Rattle.pn_manifest.specs.Pairs.{Pair}
use Rattle.pn_manifest.specs.TextMaps.{map_field, pair_with, pairs}
use Rattle.pn_manifest.proofs.IsNextLemmas.{tied}
use Rattle.pn_manifest.proofs.OrderedLemmas.{AreMembersOrdered, IsAll, IsOrdered, keys}
use Rattle.pn_manifest.proofs.PeerLemmas.{IsBelow}

pub same_bytes : (k l : List ℕ) (o : Ordering) → slice_cmp nat_cmp k l ≡ o → bytes_eq k l ≡ is_eq o
same_bytes k l o h = sym (is_eq-slice_cmp k l) ∙ ap is_eq h

skipped : (k l : List ℕ) (e : Data) (rest : List Pair) → bytes_eq k l ≡ false → text_of k (pair_with l e rest) ≡ text_of k rest
skipped k l null rest h = refl
skipped k l (boolean b) rest h = refl
skipped k l (number n) rest h = refl
skipped k l (string s) rest h = ap (λ b. if b then Some s else text_of k rest) h
skipped k l (array ds) rest h = refl
skipped k l (object ms) rest h = refl

text_here : (k l : List ℕ) (e : Data) (rest : List Pair) → bytes_eq k l ≡ true → text_of k rest ≡ None → text_of k (pair_with l e rest) ≡ as_str e
text_here k l null rest h n = n
text_here k l (boolean b) rest h n = n
text_here k l (number m) rest h n = n
text_here k l (string s) rest h n = ap (λ b. if b then Some s else text_of k rest) h
text_here k l (array ds) rest h n = n
text_here k l (object ms) rest h n = n

no_text : (k : List ℕ) (ms : Members) → IsBelow k (keys ms) → text_of k (pairs ms) ≡ None
no_text k no_members h = refl
no_text k (member l e ms) h = skipped k l e (pairs ms) (same_bytes k l Less h.0) ∙ no_text k ms h.1

text_under : (k : List ℕ) (ms : Members) → AreMembersOrdered ms → text_of k (pairs ms) ≡ option_and_then as_str (get_member k ms)
text_under k no_members h = refl
text_under k (member l e ms) h =
    elim (slice_cmp nat_cmp k l) as (λ c. slice_cmp nat_cmp k l ≡ c → text_of k (pair_with l e (pairs ms)) ≡ option_and_then as_str (match_ordering c (get_member k ms) (Some e) (get_member k ms))) [
      | Less ↦ λ is. skipped k l e (pairs ms) (same_bytes k l Less is) ∙ text_under k ms h.1.1
      | Equal ↦ λ is. text_here k l e (pairs ms) (same_bytes k l Equal is) (no_text k ms (subst (λ (x : List ℕ). IsBelow x (keys ms)) (sym (tied k l is)) h.0))
      | Greater ↦ λ is. skipped k l e (pairs ms) (same_bytes k l Greater is) ∙ text_under k ms h.1.1
    ] refl

pub texts_said : (f : Option Data) (k : List ℕ) → IsAll IsOrdered f → text_of k (map_field f) ≡ text_in k f
texts_said None k h = refl
texts_said (Some null) k h = refl
texts_said (Some (boolean b)) k h = refl
texts_said (Some (number n)) k h = refl
texts_said (Some (string s)) k h = refl
texts_said (Some (array ds)) k h = refl
texts_said (Some (object ms)) k h = text_under k ms h
