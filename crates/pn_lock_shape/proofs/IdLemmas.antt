-- Ids that are read.
use Rattle.std.proofs.Common.{◌≡◌, ℕ, Bool, true, false, List, [], refl, sym, ap, subst, Some, None, Ok}
use Rattle.std.specs.Prelude.{◌&&◌, not, if◌then◌else◌}
use Rattle.pn_text.specs.Ids.{is_id}
use Rattle.pn_text.proofs.Bools.{and_left}
use Rattle.pn_deppath.specs.Paths.{are_groups, group_part, holds, id_part, is_dep_path, patch_mark}
use Rattle.pn_lock_shape.specs.declared.fault.ShapeFault.{ShapeFault}
use Rattle.pn_lock_shape.specs.declared.fault.ShapeFault.TheVariants as shape
use Rattle.pn_lock_shape.specs.Answers.{Fails}
use Rattle.pn_lock_shape.specs.Shapes.{when}

pub id_same : (b : Bool) (t x : List ℕ) → Some x ≡ (if b then Some t else None) → x ≡ t
id_same true t x h = cc h
id_same false t x h = absurd (cc h)

pub id_some : (b : Bool) (t x : List ℕ) → Some x ≡ (if b then Some t else None) → when b t ≡ Ok x
id_some true t x h = let e : x ≡ t = cc h in ap Ok (sym e)
id_some false t x h = absurd (cc h)

pub id_none : (b : Bool) (t : List ℕ) (e : ShapeFault) → e ≡ shape.At [] → None ≡ (if b then Some t else None) → Fails e (when b t)
id_none true t e s h = absurd (cc h)
id_none false t e s h = subst (λ x. Fails x (when false t)) (sym s) refl

pub not_none : (b : Bool) (t : List ℕ) → b ≡ true → None ≡ (if b then Some t else None) → ⊥
not_none true t e h = cc h
not_none false t e h = cc e

-- a dep path begins with an id
pub id_known : (path : List ℕ) → is_dep_path path ≡ true → is_id (id_part path) ≡ true
id_known path h = and_left (is_id (id_part path)) (are_groups 0 (group_part path) && not (holds patch_mark path)) h
