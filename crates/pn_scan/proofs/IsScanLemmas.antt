-- What was found at and below managed folders is a scan of them.
use Rattle.std.proofs.Common.{◌≡◌, ◌≤◌, ℕ, List, [], ◌∷◌, ◌++◌, map, length, refl, sym, ap, ◌∙◌, subst, inl, inr, Some, true}
use Rattle.std.specs.Prelude.{◌⊎◌, IfSome, Result, Ok, Err, IfOk, IfErr}
use Rattle.std.specs.List.{Contains}
use Rattle.std.proofs.lemmas.List.Elements.{Contains-append_left, Contains-append_right, Contains-append_cases}
use Rattle.pn_fs.specs.Calls.{kind_of}
use Rattle.pn_fs.specs.Seen.{Seen, Keeps}
use Rattle.pn_fs.specs.Tree.{Entry, folder, Tree, IsTree}
use Rattle.pn_fs.specs.declared.kind.Kind.TheVariants.{Folder}
use Rattle.pn_fs.proofs.SeenLemmas.{rose_from}
use Rattle.pn_text.specs.Path.{Path, path_text}
use Rattle.pn_text.proofs.Members.{from_map, to_map}
use Rattle.pn_text.proofs.Paths.{spells_one}
use Rattle.pn_text.proofs.Results.{for_some, if_some}
use Rattle.pn_scan.specs.Managed.{Managed, is_within, is_managed, AreOurs}
use Rattle.pn_scan.specs.Scans.{Found, Scanned, IsScan}
use Rattle.pn_scan.specs.ScanFaults.{HasFew, HasMany, IsForeign, ScanRefused, StandsBelow}
use Rattle.pn_scan.specs.Looks.{AreLooked, OursRefused}
use Rattle.pn_scan.specs.Turns.{kinded, FindsBelow, KeepsPaths, WalkRefused}
use Rattle.pn_scan.specs.declared.fault.ScanFault.{ScanFault}
use Rattle.pn_scan.specs.declared.fault.ScanFault.TheVariants.{Foreign, Entries, Fault, Memory}
use Rattle.pn_scan.proofs.ManagedLemmas.{below_within, managed_in, managed_of, within_cases, within_itself}
use Rattle.pn_scan.proofs.UpsLemmas.{same_entry}
use Rattle.pn_scan.proofs.WalksLemmas.{below_in, below_of}

-- an entry that stands at or below a managed folder
record IsOne (t : Tree) (managed : List Managed) (e : Found) : Type 0 where
  inside : is_managed managed e.0 ≡ true
  entry : Entry
  stands : t e.0 ≡ Some entry
  kind : e.1 ≡ kind_of (Some entry)

module _ (t : Tree) (tree : IsTree t) (managed : List Managed) (marked : List Path) (standing found : List Found) (l : AreLooked t managed marked standing) (f : FindsBelow t managed standing found) where
  one_below : (p : Path) → Contains f.paths p → IsOne t managed (kinded t p)
  one_below p c =
      let s = f.stand p c in
      let b = below_in managed p s.0 in
      record { inside = managed_of managed p b.0 b.1 (below_within b.0.0 p b.2); entry = s.1.0; stands = s.1.1; kind = ap kind_of s.1.1 }

  sound : (e : Found) → Contains found e → IsOne t managed e
  sound e c = elim (Contains-append_cases standing (map (kinded t) f.paths) e (subst (λ es. Contains es e) f.is c)) [
    | inl i ↦
        let s = l.stand e i in
        record { inside = managed_of managed e.0 s.0.0 s.0.1 (subst (λ z. is_within s.0.0.0 z ≡ true) s.0.2 (within_itself s.0.0.0)); entry = folder; stands = s.1; kind = s.2 }
    | inr j ↦ let r = from_map (kinded t) f.paths e j in subst (IsOne t managed) r.2 (one_below r.0 r.1)
  ]

  at_root : (m : Managed) (q : Path) (x : Entry) → Contains managed m → q ≡ m.0 → t q ≡ Some x → Contains standing (q, kind_of (Some x))
  at_root m q x c e h =
      let is : t m.0 ≡ Some x = ap t (sym e) ∙ h in
      let same : x ≡ folder = (l.ours m c).folders m.0 x (within_itself m.0) is in
      subst (λ y. Contains standing (q, kind_of (Some y))) (sym same) (subst (λ z. Contains standing (z, Folder)) (sym e) (l.all m x c is))

  complete : (q : Path) (x : Entry) → is_managed managed q ≡ true → t q ≡ Some x → Contains found (q, kind_of (Some x))
  complete q x inside h =
      let r = managed_in managed q inside in
      subst (λ es. Contains es (q, kind_of (Some x))) (sym f.is) (elim (within_cases r.0.0 q r.2) [
        | inl e ↦ Contains-append_left standing (map (kinded t) f.paths) (q, kind_of (Some x)) (at_root r.0 q x r.1 e h)
        | inr b ↦ Contains-append_right standing (map (kinded t) f.paths) (q, kind_of (Some x))
            (subst (λ o. Contains (map (kinded t) f.paths) (q, kind_of o)) h (to_map (kinded t) f.paths q (f.all q (below_of managed q r.0 r.1 b, (x, h)))))
      ])

  one_path : (p q : Path) (x y : Entry) → t p ≡ Some x → t q ≡ Some y → path_text p ≡ path_text q → p ≡ q
  one_path p q x y h k e = spells_one (path_text p) p q (record { good = (tree.paths p x h).0; spelled = refl }) (record { good = (tree.paths q y k).0; spelled = e })

  module _ (s : Scanned) (same : s.managed ≡ managed) (keeps : KeepsPaths found s.entries) where
    all_kept : (q : Path) (x : Entry) → is_managed s.managed q ≡ true → t q ≡ Some x → Contains s.entries (q, kind_of (Some x))
    all_kept q x inside h =
        let r = keeps.paths (q, kind_of (Some x)) (complete q x (subst (λ ms. is_managed ms q ≡ true) same inside) h) in
        let g = r.0 in
        let o = sound g (keeps.from g r.1) in
        let path : g.0 ≡ q = one_path g.0 q o.entry x o.stands h r.2 in
        let entry : o.entry ≡ x = same_entry (t q) o.entry x (ap t (sym path) ∙ o.stands) h in
        let kind : g.1 ≡ kind_of (Some x) = o.kind ∙ ap (λ y. kind_of (Some y)) entry in
        let both : g ≡ (q, kind_of (Some x)) = λ i. (path i, kind i) in
        subst (λ z. Contains s.entries z) both r.1

    pub is_scan : IsScan t s
    is_scan = record {
      within = λ e c. subst (λ ms. is_managed ms e.0 ≡ true) (sym same) (sound e (keeps.from e c)).inside;
      stand = λ e c. let o = sound e (keeps.from e c) in (o.entry, o.stands, o.kind);
      all = all_kept;
    }

pub has_few : (t : Tree) (managed : List Managed) (standing found : List Found) → FindsBelow t managed standing found → HasFew t managed
has_few t managed standing found f = record { paths = f.paths; few = f.few; all = f.all }

pub ours_scan : (managed : List Managed) (old new : Seen) (e : ScanFault) → OursRefused managed old new e → ScanRefused managed old new e
ours_scan managed old new (Foreign q) h = h
ours_scan managed old new Entries h = absurd h
ours_scan managed old new Fault h = h
ours_scan managed old new Memory h = tt

pub walk_scan : (managed : List Managed) (old mid new : Seen) (e : ScanFault) → Keeps old mid → WalkRefused managed mid new e → ScanRefused managed old new e
walk_scan managed old mid new (Foreign q) kept h = absurd h
walk_scan managed old mid new Entries kept h = if_some (λ t. HasMany t managed) old.tree (λ t told. for_some (λ t. HasMany t managed) mid.tree h t (kept.tree ∙ told))
walk_scan managed old mid new Fault kept h = rose_from old.faults mid.faults new.faults kept.later h
walk_scan managed old mid new Memory kept h = tt

pub scan_from : (t : Tree) → IsTree t → (managed : List Managed) (marked : List Path) (standing found : List Found) (r : Result Scanned ScanFault) → AreLooked t managed marked standing → FindsBelow t managed standing found
    → IfOk r (λ s. s.managed ≡ managed) → IfOk r (λ s. KeepsPaths found s.entries) → IfOk r (IsScan t)
scan_from t tree managed marked standing found (Ok s) l f same keeps = is_scan t tree managed marked standing found l f s same keeps
scan_from t tree managed marked standing found (Err e) l f same keeps = tt

pub memory_scan : (managed : List Managed) (old new : Seen) (r : Result Scanned ScanFault) → IfErr r (λ e. e ≡ Memory) → IfErr r (ScanRefused managed old new)
memory_scan managed old new (Ok s) h = tt
memory_scan managed old new (Err e) h = subst (ScanRefused managed old new) (sym h) tt
