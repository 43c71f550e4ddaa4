-- Entries of one catalog that stand together.
use Rattle.std.proofs.Common.{◌≡◌, ◌≢◌, ℕ, suc, List, [], ◌∷◌, length, take, drop, refl, sym, ap, ◌∙◌, true, false, cond, arith}
use Rattle.std.specs.Prelude.{Some, bytes_eq}
use Rattle.std.proofs.lemmas.Slice.Eq.{bytes_eq-Decides}
use Rattle.pn_yaml.specs.Data.{Data, Members, map, member, no_members}
use Rattle.pn_lock.specs.declared.lists.LockCatalog.{LockCatalog}
use Rattle.pn_lock.specs.Locks.{Group, groups_of, onto_groups}
use Rattle.pn_lock.proofs.KeptLemmas.{itself}
use Rattle.pn_lock_print.specs.LockData.{catalog_data, catalogs_data, group_data, groups_members}
use Rattle.pn_lock_print.specs.Members.{entries, filled, joined}
use Rattle.pn_lock_print.specs.Runs.{run_of}
use Rattle.pn_lock_print.proofs.MemberLemmas.{last_is, then_member}

-- the first run, and the groups of the rest
abbrev first_run : LockCatalog → List LockCatalog → List Group
first_run e es = (e.catalog, e ∷ take (run_of e.catalog es) es) ∷ groups_of (drop (run_of e.catalog es) es)

run_same : (e d : LockCatalog) (es : List LockCatalog) → d.catalog ≡ e.catalog → (d.catalog, e ∷ d ∷ take (run_of d.catalog es) es) ∷ groups_of (drop (run_of d.catalog es) es) ≡ first_run e (d ∷ es)
run_same e d es h =
    ap (λ k. (k, e ∷ d ∷ take (run_of k es) es) ∷ groups_of (drop (run_of k es) es)) h
    ∙ sym (ap (λ c. (e.catalog, e ∷ take (cond c (suc (run_of e.catalog es)) 0) (d ∷ es)) ∷ groups_of (drop (cond c (suc (run_of e.catalog es)) 0) (d ∷ es))) ((bytes_eq-Decides d.catalog e.catalog).1 h))

run_other : (e d : LockCatalog) (es : List LockCatalog) → bytes_eq d.catalog e.catalog ≡ false → (e.catalog, e ∷ []) ∷ groups_of (d ∷ es) ≡ first_run e (d ∷ es)
run_other e d es h = sym (ap (λ c. (e.catalog, e ∷ take (cond c (suc (run_of e.catalog es)) 0) (d ∷ es)) ∷ groups_of (drop (cond c (suc (run_of e.catalog es)) 0) (d ∷ es))) h)

runs : (e : LockCatalog) (es : List LockCatalog) → groups_of (e ∷ es) ≡ first_run e es
runs e [] = refl
runs e (d ∷ es) =
    ap (onto_groups e) (runs d es)
    ∙ elim (bytes_eq d.catalog e.catalog) as (λ c. bytes_eq d.catalog e.catalog ≡ c
    → cond c ((d.catalog, e ∷ d ∷ take (run_of d.catalog es) es) ∷ groups_of (drop (run_of d.catalog es) es)) ((e.catalog, e ∷ []) ∷ first_run d es) ≡ first_run e (d ∷ es)) [
      | true ↦ λ is. run_same e d es ((bytes_eq-Decides d.catalog e.catalog).0 is)
      | false ↦ λ is. ap (λ gs. (e.catalog, e ∷ []) ∷ gs) (sym (runs d es)) ∙ run_other e d es is
    ] refl

pub groups_more : (rest group back tail : List LockCatalog) (first : LockCatalog) (old new whole : Members) (k : List ℕ) (d : Data) (n : ℕ) → rest ≡ first ∷ tail → k ≡ first.catalog → n ≡ run_of k rest → group ≡ take n rest → back ≡ drop n rest
    → d ≡ map (entries (λ (e : LockCatalog). e.name) catalog_data group) → new ≡ joined old (member k d no_members) → joined old (groups_members (groups_of rest)) ≡ whole → joined new (groups_members (groups_of back)) ≡ whole
groups_more rest group back tail first old new whole k d n is ks ns gs bs ds h w =
    let m = run_of first.catalog tail in
    let count : n ≡ suc m = ns ∙ ap (λ k. run_of k rest) ks ∙ ap (run_of first.catalog) is ∙ ap (λ c. cond c (suc m) 0) (itself first.catalog) in
    let front : group ≡ first ∷ take m tail = gs ∙ ap (λ n. take n rest) count ∙ ap (take (suc m)) is in
    let behind : back ≡ drop m tail = bs ∙ ap (λ n. drop n rest) count ∙ ap (drop (suc m)) is in
    let value : d ≡ map (entries (λ (e : LockCatalog). e.name) catalog_data (first ∷ take m tail)) = ds ∙ ap (λ g. map (entries (λ (e : LockCatalog). e.name) catalog_data g)) front in
    then_member old new (groups_members (groups_of back)) whole k d _ h value
    (ap (λ k. joined old (member k (map (entries (λ (e : LockCatalog). e.name) catalog_data (first ∷ take m tail))) (groups_members (groups_of back)))) ks
    ∙ ap (λ b. joined old (member first.catalog (map (entries (λ (e : LockCatalog). e.name) catalog_data (first ∷ take m tail))) (groups_members (groups_of b)))) behind
    ∙ sym (ap (λ gs. joined old (groups_members gs)) (ap groups_of is ∙ runs first tail)) ∙ w)

pub groups_done : (rest : List LockCatalog) (ms whole : Members) → length rest ≡ 0 → joined ms (groups_members (groups_of rest)) ≡ whole → ms ≡ whole
groups_done [] ms whole is h = last_is ms whole h
groups_done (e ∷ es) ms whole is h = absurd (omega (arith, is))

onto_some : (e : LockCatalog) (gs : List Group) → (g : Group) × (more : List Group) × (onto_groups e gs ≡ g ∷ more)
onto_some e [] = ((e.catalog, e ∷ []), [], refl)
onto_some e (g ∷ gs) = elim (bytes_eq g.0 e.catalog) as (λ c. (f : Group) × (more : List Group) × (cond c ((g.0, e ∷ g.1) ∷ gs) ((e.catalog, e ∷ []) ∷ g ∷ gs) ≡ f ∷ more)) [
  | true ↦ ((g.0, e ∷ g.1), gs, refl)
  | false ↦ ((e.catalog, e ∷ []), g ∷ gs, refl)
]

-- there are catalogs where there are entries
pub catalogs_some : (es : List LockCatalog) → es ≢ [] → Some (map (groups_members (groups_of es))) ≡ catalogs_data es
catalogs_some [] h = absurd (h refl)
catalogs_some (e ∷ es) h = let s = onto_some e (groups_of es) in ap (λ gs. Some (map (groups_members gs))) s.2 ∙ sym (ap (λ gs. filled (λ (g : Group). g.0) group_data gs) s.2)
