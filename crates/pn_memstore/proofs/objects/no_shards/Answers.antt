use Rattle.std.proofs.Common.{◌≡◌, ℕ, ◌≤◌, true, false, nat_lt, slice_index_or, refl}
use Rattle.std.specs.Prelude.{replicate}
use Rattle.std.proofs.lemmas.Bool.{ltb-true, ltb-false}
use Rattle.std.proofs.lemmas.List.{get_or-replicate, length-replicate}
use Rattle.std.proofs.Math.ListN.{get_or-eq_default}
use Rattle.pn_memstore.proofs.objects.no_shards.Goals as goal

none_stand : (n first : ℕ) → slice_index_or (replicate n false) first false ≡ false
none_stand n first = elim (nat_lt first n) as (λ b. nat_lt first n ≡ b → slice_index_or (replicate n false) first false ≡ false) [
  | true ↦ λ e. get_or-replicate n first false false (ltb-true first n e)
  | false ↦ λ e. let past : n ≤ first = ltb-false first n e in get_or-eq_default (replicate n false) false (rw (length-replicate n false) past)
] refl

pub returns : goal.returns
returns c first = none_stand 256 first
