-- Lemmas on the keys of maps, in a list.
use Rattle.pn_text.proofs.Orders.{is_equal}
use Rattle.std.proofs.Common.{◌≡◌, ◌≢◌, ℕ, Bool, List, [], ◌∷◌, ◌++◌, length, true, refl, sym, ap, ◌∙◌, subst, append-nil, Some, None, arith}
use Rattle.std.specs.Prelude.{Option}
use Rattle.std.specs.Option.{is_some, option_map, option_and_then}
use Rattle.std.specs.List.{Contains}
use Rattle.std.specs.Bool.{Decides}
use Rattle.std.specs.Set.{is_member}
use Rattle.std.specs.declared.cmp.Ordering.{Ordering}
use Rattle.std.specs.declared.cmp.Ordering.TheVariants.{Equal}
use Rattle.std.specs.Ordering.{nat_cmp, is_eq, eq_by_cmp}
use Rattle.std.specs.Cmp.{nat_cmp_is}
use Rattle.std.specs.Cmp.Lexicographic.{slice_cmp}
use Rattle.std.specs.BTreeMap.{BTreeMap, keys, get, is_at, btree_map_len, IsOrdered}
use Rattle.std.specs.Map.{lookup}
use Rattle.std.proofs.lemmas.Cmp.{eq_by_cmp_equiv, nat_cmp_total}
use Rattle.std.proofs.lemmas.Map.Lookups.{exact_unsigned}
use Rattle.std.proofs.lemmas.Map.Made.{is_member-Decides, nil_from_lookup}
use Rattle.std.proofs.lemmas.Map.Text.{is_eq-slice_cmp}
use Rattle.std.proofs.lemmas.Slice.Eq.{bytes_eq-Decides}
use Rattle.pn_memstore.specs.declared.folder.Folder.{Folder}
use Rattle.pn_memstore.specs.Maps.{temps_in, temp_in}
use Rattle.pn_memstore.specs.Kept.{objects_in, world_in}
use Rattle.pn_storecore.specs.World.{Temp, content}
use Rattle.pn_memstore.specs.declared.world.StoreWorld.{StoreWorld}
use Rattle.pn_memstore.specs.declared.objects.ObjectMap.{ObjectMap}
use Rattle.pn_storecore.specs.Calls.{AreAddresses, AreNumbersOf}

some_of : {A : Type 0} (o : Option A) → o ≢ None → is_some o ≡ true
some_of None h = absurd (h refl)
some_of (Some x) h = refl

not_none : {A : Type 0} (o : Option A) → is_some o ≡ true → o ≢ None
not_none None h = cc
not_none (Some x) h = λ e. cc

numbers_decide : (a b : ℕ) → Decides (eq_by_cmp nat_cmp a b) (a ≡ b)
numbers_decide a b = (λ h. exact_unsigned a b (is_equal (nat_cmp a b) h), λ e. ap is_eq (sym (nat_cmp_is a b Equal e)))

digests_decide : (a b : List ℕ) → Decides (eq_by_cmp (slice_cmp nat_cmp) a b) (a ≡ b)
digests_decide a b = (λ h. (bytes_eq-Decides a b).0 (sym (is_eq-slice_cmp a b) ∙ h), λ e. is_eq-slice_cmp a b ∙ (bytes_eq-Decides a b).1 e)

module _ {K X : Type 0} (cmp : K → K → Ordering) (same : (a b : K) → Decides (eq_by_cmp cmp a b) (a ≡ b)) (m : BTreeMap K X)
    (has : (q : K) → is_some (get cmp m q) ≡ is_member (eq_by_cmp cmp) (keys m) q) where
  stands : (q : K) → Contains (keys m) q → get cmp m q ≢ None
  stands q h = not_none (get cmp m q) (has q ∙ (is_member-Decides same (keys m) q).1 h)

  listed : (q : K) → get cmp m q ≢ None → Contains (keys m) q
  listed q h = (is_member-Decides same (keys m) q).0 (sym (has q) ∙ some_of (get cmp m q) h)

-- the keys that were gone over, where none is left
all_gone : {K : Type 0} (all rest ks : List K) → all ++ rest ≡ ks → rest ≡ [] → ks ≡ all
all_gone all rest ks so_far none = sym so_far ∙ ap (λ r. all ++ r) none ∙ append-nil all

pub addresses : (o : ObjectMap) (all rest seen : List (List ℕ)) → seen ≡ keys o.bytes → IsOrdered (slice_cmp nat_cmp) o.bytes → ((q : List ℕ) → is_some (get (slice_cmp nat_cmp) o.bytes q) ≡ is_member (eq_by_cmp (slice_cmp nat_cmp)) seen q)
    → all ++ rest ≡ keys o.bytes → rest ≡ [] → AreAddresses (objects_in o) all
addresses o all rest seen are rise has so_far none = subst (AreAddresses (objects_in o)) (all_gone all rest (keys o.bytes) so_far none) (record {
  rising = rise;
  stand = λ at h. stands (slice_cmp nat_cmp) digests_decide o.bytes (λ q. has q ∙ ap (λ ks. is_member (eq_by_cmp (slice_cmp nat_cmp)) ks q) are) at h;
  every = λ at h. listed (slice_cmp nat_cmp) digests_decide o.bytes (λ q. has q ∙ ap (λ ks. is_member (eq_by_cmp (slice_cmp nat_cmp)) ks q) are) at h;
})

mapped_none : (o : Option Folder) → o ≢ None → option_map temp_in o ≢ None
mapped_none None h = absurd (h refl)
mapped_none (Some f) h = λ e. cc

unmapped_none : (o : Option Folder) → option_map temp_in o ≢ None → o ≢ None
unmapped_none None h = absurd (h refl)
unmapped_none (Some f) h = λ e. cc

pub numbers : (m : BTreeMap ℕ Folder) (all rest seen : List ℕ) → seen ≡ keys m → IsOrdered nat_cmp m → ((q : ℕ) → is_some (get nat_cmp m q) ≡ is_member (eq_by_cmp nat_cmp) seen q)
    → all ++ rest ≡ keys m → rest ≡ [] → AreNumbersOf (temps_in m) all
numbers m all rest seen are rise has so_far none = subst (AreNumbersOf (temps_in m)) (all_gone all rest (keys m) so_far none) (record {
  rising = rise;
  stand = λ k h. mapped_none (get nat_cmp m k) (stands nat_cmp numbers_decide m (λ q. has q ∙ ap (λ ks. is_member (eq_by_cmp nat_cmp) ks q) are) k h);
  every = λ k h. listed nat_cmp numbers_decide m (λ q. has q ∙ ap (λ ks. is_member (eq_by_cmp nat_cmp) ks q) are) k (unmapped_none (get nat_cmp m k) h);
})

-- no file stands in a folder exactly where its map is empty
pub bare : (f : Folder) (w : StoreWorld) (k : ℕ) (b : Bool) → Some f ≡ get nat_cmp w.temps k → Decides b (btree_map_len f.files ≡ 0) → Decides b ((m : ℕ) → content (world_in w) k m ≡ None)
bare f w k b is empty = (λ yes m. at m ∙ ap (λ es. lookup (is_at (nat_cmp m)) es) (nil (empty.0 yes)), λ none. empty.1 (ap length (nil_from_lookup (eq_by_cmp_equiv nat_cmp_total) f.files.entries (λ m. sym (at m) ∙ none m)))) where
  at : (m : ℕ) → content (world_in w) k m ≡ get nat_cmp f.files m
  at m = ap (λ o. option_and_then (λ (t : Temp). t.files m) (option_map temp_in o)) (sym is)

  nil : length f.files.entries ≡ 0 → f.files.entries ≡ []
  nil h = elim f.files.entries as (λ es. length es ≡ 0 → es ≡ []) [ [] ↦ λ e. refl | (x ∷ es) ↦ λ e. absurd (omega (arith, e)) ] h
