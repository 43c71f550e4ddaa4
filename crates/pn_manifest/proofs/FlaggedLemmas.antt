-- The names that a list has, and the flags that its object has under them.
use Rattle.std.proofs.Common.{◌≡◌, ℕ, List, ◌∷◌, refl, sym, ap, ◌∙◌, subst, Bool, true, false, Option, Some, None, ◌||◌}
use Rattle.std.specs.Prelude.{if◌then◌else◌, option_and_then, unwrap_or}
use Rattle.std.specs.Cmp.Lexicographic.{slice_cmp}
use Rattle.std.specs.List.{list_any}
use Rattle.std.specs.Ordering.{nat_cmp, match_ordering}
use Rattle.std.specs.Str.{bytes_eq}
use Rattle.std.specs.declared.cmp.Ordering.TheVariants.{Less, Equal, Greater}
use Rattle.serde_json.specs.Data.{Data, null, boolean, number, string, array, object, Members, no_members, member}
use Rattle.serde_json.specs.Find.{as_bool, get, get_member}
use Rattle.pn_manifest.specs.FlagMaps.{flag_field, flag_in, flagged, has_flag}
use Rattle.pn_manifest.specs.Laws.{has_flag_in}
use Rattle.pn_manifest.proofs.IsNextLemmas.{tied}
use Rattle.pn_manifest.proofs.OrderedLemmas.{AreMembersOrdered, IsAll, IsOrdered, keys}
use Rattle.pn_manifest.proofs.PeerLemmas.{IsBelow}
use Rattle.pn_manifest.proofs.TextOfLemmas.{same_bytes}

flag_found : (o : Option Data) → unwrap_or (flag_in o) false ≡ unwrap_or (option_and_then as_bool o) false
flag_found None = refl
flag_found (Some d) = refl

flag_same : (flag : List ℕ) (d : Data) → has_flag flag d ≡ unwrap_or (option_and_then as_bool (get flag d)) false
flag_same flag null = refl
flag_same flag (boolean b) = refl
flag_same flag (number n) = refl
flag_same flag (string s) = refl
flag_same flag (array ds) = refl
flag_same flag (object ms) = flag_found (get_member flag ms)

passed_name : (b : Bool) (k l : List ℕ) (rest : List (List ℕ)) → bytes_eq k l ≡ false → list_any (bytes_eq k) (if b then l ∷ rest else rest) ≡ list_any (bytes_eq k) rest
passed_name true k l rest h = ap (λ x. x || list_any (bytes_eq k) rest) h
passed_name false k l rest h = refl

name_here : (b : Bool) (k l : List ℕ) (rest : List (List ℕ)) → bytes_eq k l ≡ true → list_any (bytes_eq k) rest ≡ false → list_any (bytes_eq k) (if b then l ∷ rest else rest) ≡ b
name_here true k l rest h n = ap (λ x. x || list_any (bytes_eq k) rest) h
name_here false k l rest h n = n

no_flag : (flag k : List ℕ) (ms : Members) → IsBelow k (keys ms) → list_any (bytes_eq k) (flagged flag ms) ≡ false
no_flag flag k no_members h = refl
no_flag flag k (member l e ms) h = passed_name (has_flag flag e) k l (flagged flag ms) (same_bytes k l Less h.0) ∙ no_flag flag k ms h.1

abbrev flag_at : List ℕ → Option Data → Bool
flag_at flag o = unwrap_or (option_and_then as_bool (option_and_then (get flag) o)) false

flag_under : (flag k : List ℕ) (ms : Members) → AreMembersOrdered ms → list_any (bytes_eq k) (flagged flag ms) ≡ flag_at flag (get_member k ms)
flag_under flag k no_members h = refl
flag_under flag k (member l e ms) h =
    elim (slice_cmp nat_cmp k l) as (λ c. slice_cmp nat_cmp k l ≡ c → list_any (bytes_eq k) (if has_flag flag e then l ∷ flagged flag ms else flagged flag ms) ≡ flag_at flag (match_ordering c (get_member k ms) (Some e) (get_member k ms))) [
      | Less ↦ λ is. passed_name (has_flag flag e) k l (flagged flag ms) (same_bytes k l Less is) ∙ flag_under flag k ms h.1.1
      | Equal ↦ λ is. name_here (has_flag flag e) k l (flagged flag ms) (same_bytes k l Equal is) (no_flag flag k ms (subst (λ (x : List ℕ). IsBelow x (keys ms)) (sym (tied k l is)) h.0)) ∙ flag_same flag e
      | Greater ↦ λ is. passed_name (has_flag flag e) k l (flagged flag ms) (same_bytes k l Greater is) ∙ flag_under flag k ms h.1.1
    ] refl

pub flags_said : (flag : List ℕ) (f : Option Data) (k : List ℕ) → IsAll IsOrdered f → list_any (bytes_eq k) (flag_field flag f) ≡ has_flag_in flag k f
flags_said flag None k h = refl
flags_said flag (Some null) k h = refl
flags_said flag (Some (boolean b)) k h = refl
flags_said flag (Some (number n)) k h = refl
flags_said flag (Some (string s)) k h = refl
flags_said flag (Some (array ds)) k h = refl
flags_said flag (Some (object ms)) k h = flag_under flag k ms h
