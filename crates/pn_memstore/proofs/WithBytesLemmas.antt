-- Lemmas on what stands at addresses in maps.
use Rattle.std.proofs.Common.{◌≡◌, ◌≢◌, ℕ, Bool, List, refl, ap, ◌∙◌, Some, None, inl, inr}
use Rattle.std.specs.Prelude.{Option, cond}
use Rattle.std.specs.Map.{update}
use Rattle.std.specs.Str.{bytes_eq}
use Rattle.std.specs.BTreeMap.{BTreeMap, UpdatesBy}
use Rattle.std.specs.Cmp.Lexicographic.{slice_cmp}
use Rattle.std.specs.Ordering.{nat_cmp}
use Rattle.std.proofs.lemmas.Map.{update-update}
use Rattle.std.proofs.lemmas.Map.Text.{is_eq-slice_cmp}
use Rattle.pn_storecore.specs.World.{Objects, with_bytes}
use Rattle.pn_memstore.specs.Maps.{bytes_in}
use Rattle.pn_storecore.proofs.UpdateLemmas.{at_address, none_some}

-- a change of the map at an address is one of what stands there
pub changed : (shards : ℕ → Bool) (m n : BTreeMap (List ℕ) (List ℕ)) (at : List ℕ) (w : Option (List ℕ)) → UpdatesBy (slice_cmp nat_cmp) (slice_cmp nat_cmp at) m n w
    → (record { shards = shards; bytes = bytes_in n }) ≡ with_bytes (record { shards = shards; bytes = bytes_in m }) at w
changed shards m n at w h = λ i. record { shards = shards; bytes = λ q. (h.0 q ∙ ap (λ b. cond b w (bytes_in m q)) (is_eq-slice_cmp at q)) i }

-- the last bytes count
pub twice : (old mid new : Objects) (at : List ℕ) (a b : Option (List ℕ)) → mid ≡ with_bytes old at a → new ≡ with_bytes mid at b → new ≡ with_bytes old at b
twice old mid new at a b first second =
    second ∙ ap (λ o. with_bytes o at b) first ∙ (λ i. record { shards = old.shards; bytes = λ q. update-update bytes_eq old.bytes at a b q i })

-- what is put stands
pub stands_put : (old new : Objects) (at bytes : List ℕ) → new ≡ with_bytes old at (Some bytes) → new.bytes at ≢ None
stands_put old new at bytes h = none_some (new.bytes at) bytes (ap (λ (o : Objects). o.bytes at) h ∙ here) where
  here : update bytes_eq old.bytes at (Some bytes) at ≡ Some bytes
  here = elim (at_address old.bytes at (Some bytes) at) [ inl same ↦ same.1 | inr other ↦ absurd (other.0 refl) ]
