-- Managed folders that are looked at one after the other.
use Rattle.std.proofs.Common.{◌≡◌, ◌<◌, ◌==◌, ℕ, Bool, false, length, arith, take, drop, get_or, ◌+◌, ◌≤◌, List, [], ◌∷◌, ◌++◌, refl, sym, ap, ◌∙◌, subst, inl, inr, Some, None, true}
use Rattle.std.specs.Prelude.{◌⊎◌, IfSome, Option, suc}
use Rattle.std.specs.Bool.{MatchBool}
use Rattle.std.specs.List.{Contains}
use Rattle.std.specs.Option.{ForSome}
use Rattle.std.proofs.Math.Seq.{drop-cons}
use Rattle.std.proofs.lemmas.Grind.{common_steps}
use Rattle.std.proofs.lemmas.List.{take-append-drop}
use Rattle.std.proofs.lemmas.List.Elements.{Contains-append_left, Contains-append_right, Contains-append_cases, Contains-push, Contains-push_cases}
use Rattle.pn_fs.specs.Calls.{IsListing}
use Rattle.pn_fs.specs.Seen.{Seen, Keeps}
use Rattle.pn_fs.specs.Tree.{Entry, folder, Tree, IsTree}
use Rattle.pn_fs.specs.declared.kind.Kind.TheVariants.{Folder}
use Rattle.pn_fs.proofs.SeenLemmas.{rose_from}
use Rattle.pn_text.specs.Path.{Path}
use Rattle.pn_text.proofs.Members.{none_in, in_one, here}
use Rattle.pn_text.proofs.Results.{for_some, if_some}
use Rattle.pn_scan.specs.Managed.{Managed, is_within, IsMarked, HasEntry, IsOurs, AreOurs, AreApart, is_managed}
use Rattle.pn_scan.specs.Scans.{Found}
use Rattle.pn_scan.specs.ScanFaults.{IsDistinct, IsForeign, IsForeignAt}
use Rattle.pn_scan.specs.ScanFaults.IsForeignAt.{no_folder, unmarked}
use Rattle.pn_scan.specs.Looks.{AreFolders, AreLooked, IsLook, IsNoFolder, LookRefused, OursRefused, PathRefused, StandsAs, marked_at, marker_bytes, standing_at}
use Rattle.pn_scan.specs.declared.fault.ScanFault.{ScanFault}
use Rattle.pn_scan.specs.declared.fault.ScanFault.TheVariants.{Foreign, Entries, Fault, Memory}
use Rattle.pn_scan.specs.declared.ours.Standing.{Standing}
use Rattle.pn_scan.specs.declared.ours.Standing.TheVariants.{Absent, Empty, Marked}
use Rattle.pn_scan.proofs.GaveLemmas.{marker_bytes-append}
use Rattle.pn_scan.proofs.IsDistinctLemmas.{distinct_append}
use Rattle.pn_scan.proofs.ManagedLemmas.{managed_of, within_itself}
use Rattle.pn_scan.proofs.UpsLemmas.{some_folder}

pub absent_look : (t : Tree) → IsTree t → (m : Managed) → AreFolders t m.0 → t m.0 ≡ None → IsLook t m Absent
absent_look t tree m folders none = record {
  ours = record { folders = folders; marked = inr (λ h. some_folder (t m.0) none (tree.parents h.0 m.0 h.1 h.2)) };
  stands = none;
}

pub marked_look : (t : Tree) (m : Managed) → AreFolders t m.0 → t m.0 ≡ Some folder → IsMarked t m → IsLook t m Marked
marked_look t m folders is marked = record { ours = record { folders = folders; marked = inl marked }; stands = is }

pub empty_look : (t : Tree) (m : Managed) → AreFolders t m.0 → t m.0 ≡ Some folder → (HasEntry t m.0 → ⊥) → IsLook t m Empty
empty_look t m folders is none = record { ours = record { folders = folders; marked = inr none }; stands = (is, none) }

some_entry : (t : Tree) (p : Path) (names : List (List ℕ)) → IsListing t p names → 0 < length names → HasEntry t p
some_entry t p [] l h = absurd (omega (arith, h))
some_entry t p (x ∷ xs) l h = let s = l.stands x (here x xs) in (x, s.0, s.1)

none_of : (names : List (List ℕ)) → (length names == 0) ≡ true → names ≡ []
none_of [] h = refl
none_of (x ∷ names) h = absurd (grind (arith, common_steps))

some_of : (names : List (List ℕ)) → (length names == 0) ≡ false → 0 < length names
some_of [] h = cc h
some_of (x ∷ names) h = omega arith

-- whether a folder's names are none tells whether it has an entry
pub empty_listing : (t : Tree) (p : Path) (names : List (List ℕ)) (b : Bool) → IsListing t p names → b ≡ (length names == 0) → MatchBool b (HasEntry t p → ⊥) (HasEntry t p)
empty_listing t p names true l e = λ h. none_in h.0 (subst (λ ns. Contains ns h.0) (none_of names (sym e)) (l.all h.0 h.1 h.2))
empty_listing t p names false l e = some_entry t p names l (some_of names (sym e))

pub path_refused : (m : Managed) (old new : Seen) (e : ScanFault) → PathRefused m.0 old new e → LookRefused m old new e
path_refused m old new (Foreign q) h = if_some (λ t. IsForeignAt t m q) old.tree (λ t told. let f = for_some (λ t. IsNoFolder t m.0 q) old.tree h t told in no_folder q f.1.0 f.0 f.1.1 f.1.2)
path_refused m old new Entries h = h
path_refused m old new Fault h = h
path_refused m old new Memory h = tt

-- Folders that are the installer's, and those to be listed, none twice.
pub record Looks (t : Tree) (done : List Managed) (marked : List Path) (standing : List Found) : Type 0 where
  pub looked : AreLooked t done marked standing
  pub once : IsDistinct marked

pub none_looked : (t : Tree) → Looks t [] [] []
none_looked t = record {
  looked = record {
    ours = λ m c. absurd (none_in m c);
    from = λ p c. absurd (none_in p c);
    to = λ m c h. absurd (none_in m c);
    stand = λ e c. absurd (none_in e c);
    all = λ m e c h. absurd (none_in m c);
  };
  once = tt;
}

in_marked : (p q : Path) (s : Standing) (t : Tree) → StandsAs t p s → Contains (marked_at p s) q → (p ≡ q) × (t q ≡ Some folder)
in_marked p q Absent t h c = absurd (none_in q c)
in_marked p q Empty t h c = absurd (none_in q c)
in_marked p q Marked t h c = let e = in_one p q c in (e, ap t (sym e) ∙ h)

to_marked : (p : Path) (s : Standing) (t : Tree) → IsTree t → StandsAs t p s → HasEntry t p → Contains (marked_at p s) p
to_marked p Absent t tree h e = absurd (some_folder (t p) h (tree.parents e.0 p e.1 e.2))
to_marked p Empty t tree h e = absurd (h.1 e)
to_marked p Marked t tree h e = here p []

in_standing : (p : Path) (e : Found) (s : Standing) (t : Tree) → StandsAs t p s → Contains (standing_at p s) e → (p ≡ e.0) × (t e.0 ≡ Some folder) × (e.1 ≡ Folder)
in_standing p e Absent t h c = absurd (none_in e c)
in_standing p e Empty t h c = let s = in_one (p, Folder) e c in (ap (λ (f : Found). f.0) s, ap (λ (f : Found). t f.0) (sym s) ∙ h.0, ap (λ (f : Found). f.1) (sym s))
in_standing p e Marked t h c = let s = in_one (p, Folder) e c in (ap (λ (f : Found). f.0) s, ap (λ (f : Found). t f.0) (sym s) ∙ h, ap (λ (f : Found). f.1) (sym s))

to_standing : (p : Path) (e : Entry) (s : Standing) (t : Tree) → StandsAs t p s → t p ≡ Some e → Contains (standing_at p s) (p, Folder)
to_standing p e Absent t h is = let same : None ≡ Some e = sym h ∙ is in cc same
to_standing p e Empty t h is = here (p, Folder) []
to_standing p e Marked t h is = here (p, Folder) []

distinct_marked : (p : Path) (s : Standing) → IsDistinct (marked_at p s)
distinct_marked p Absent = tt
distinct_marked p Empty = tt
distinct_marked p Marked = (none_in p, tt)

module _ (t : Tree) (tree : IsTree t) (done rest : List Managed) (m : Managed) (marked : List Path) (standing : List Found) (s : Standing) (sep : AreApart (done ++ m ∷ rest)) (l : Looks t done marked standing) (k : IsLook t m s) where
  -- a folder that was looked at before is another one
  other : (n : Managed) → Contains done n → n.0 ≡ m.0 → ⊥
  other n c e = let one = sep done m rest refl n (Contains-append_left done rest n c) in
      let same : is_within n.0 m.0 ≡ true = subst (λ z. is_within n.0 z ≡ true) e (within_itself n.0) in cc (one, same)

  fresh : (p : Path) → Contains marked p → Contains (marked_at m.0 s) p → ⊥
  fresh p i j = let f = l.looked.from p i in let g = in_marked m.0 p s t k.stands j in other f.0.0 f.0.1 (f.0.2 ∙ sym g.0)

  pub one_looked : Looks t (done ++ m ∷ []) (marked ++ marked_at m.0 s) (standing ++ standing_at m.0 s)
  one_looked = record {
    looked = record {
      ours = λ n c. elim (Contains-push_cases done m n c) [ inl i ↦ l.looked.ours n i | inr e ↦ subst (IsOurs t) e k.ours ];
      from = λ p c. elim (Contains-append_cases marked (marked_at m.0 s) p c) [
        | inl i ↦ let f = l.looked.from p i in ((f.0.0, Contains-append_left done (m ∷ []) f.0.0 f.0.1, f.0.2), f.1)
        | inr j ↦ let g = in_marked m.0 p s t k.stands j in ((m, Contains-push done m, g.0), g.1)
      ];
      to = λ n c h. elim (Contains-push_cases done m n c) [
        | inl i ↦ Contains-append_left marked (marked_at m.0 s) n.0 (l.looked.to n i h)
        | inr e ↦ Contains-append_right marked (marked_at m.0 s) n.0 (subst (λ (z : Managed). Contains (marked_at m.0 s) z.0) e (to_marked m.0 s t tree k.stands (subst (λ (z : Managed). HasEntry t z.0) (sym e) h)))
      ];
      stand = λ e c. elim (Contains-append_cases standing (standing_at m.0 s) e c) [
        | inl i ↦ let f = l.looked.stand e i in ((f.0.0, Contains-append_left done (m ∷ []) f.0.0 f.0.1, f.0.2), f.1, f.2)
        | inr j ↦ let g = in_standing m.0 e s t k.stands j in ((m, Contains-push done m, g.0), g.1, g.2)
      ];
      all = λ n e c h. elim (Contains-push_cases done m n c) [
        | inl i ↦ Contains-append_left standing (standing_at m.0 s) (n.0, Folder) (l.looked.all n e i h)
        | inr d ↦ Contains-append_right standing (standing_at m.0 s) (n.0, Folder) (subst (λ (z : Managed). Contains (standing_at m.0 s) (z.0, Folder)) d (to_standing m.0 e s t k.stands (ap (λ (z : Managed). t z.0) d ∙ h)))
      ];
    };
    once = distinct_append marked (marked_at m.0 s) l.once (distinct_marked m.0 s) fresh;
  }

pub look_turned : (t : Tree) → IsTree t → (managed done rest : List Managed) (m : Managed) (marked marked' : List Path) (standing standing' : List Found) (s : Standing) → AreApart managed → managed ≡ done ++ m ∷ rest
    → Looks t done marked standing → IsLook t m s → marked' ≡ marked ++ marked_at m.0 s → standing' ≡ standing ++ standing_at m.0 s → Looks t (done ++ m ∷ []) marked' standing'
look_turned t tree managed done rest m marked marked' standing standing' s sep cut l k e f =
    subst (λ ps. Looks t (done ++ m ∷ []) ps standing') (sym e) (subst (λ es. Looks t (done ++ m ∷ []) (marked ++ marked_at m.0 s) es) (sym f) (one_looked t tree done rest m marked standing s (subst AreApart cut sep) l k))

-- the first folder that isn't the installer's
pub ours_refused : (old mid new : Seen) (managed done rest : List Managed) (m : Managed) (marked : List Path) (standing : List Found) (e : ScanFault) → managed ≡ done ++ m ∷ rest → Keeps old mid
    → ForSome old.tree (λ t. Looks t done marked standing) → LookRefused m mid new e → OursRefused managed old new e
ours_refused old mid new managed done rest m marked standing (Foreign q) cut kept l h =
    if_some (λ t. IsForeign t managed q) old.tree (λ t told. record { before = done; first = m; after = rest; is = cut; ours = (l t told).looked.ours; why = for_some (λ t. IsForeignAt t m q) mid.tree h t (kept.tree ∙ told) })
ours_refused old mid new managed done rest m marked standing Entries cut kept l h = h
ours_refused old mid new managed done rest m marked standing Fault cut kept l h = rose_from old.faults mid.faults new.faults kept.later h
ours_refused old mid new managed done rest m marked standing Memory cut kept l h = tt

-- a list about the element at a place
pub cut_at : (xs : List Managed) (i : ℕ) (x : Managed) → i < length xs → x ≡ get_or xs i x → xs ≡ take i xs ++ x ∷ drop (suc i) xs
cut_at xs i x within is = sym (take-append-drop i xs) ∙ ap (λ ys. take i xs ++ ys) (drop-cons xs i x within ∙ ap (λ y. y ∷ drop (suc i) xs) (sym is))

-- one marker more
pub one_marker : (done : List Managed) (m : Managed) (n : ℕ) (more : List Managed) → more ≡ done ++ m ∷ [] → n ≡ length m.1 → marker_bytes done + (n + 1) ≤ marker_bytes more
one_marker done m n more e l = omega (arith, ap marker_bytes e, marker_bytes-append done (m ∷ []), l)

-- of all the markers
pub all_markers : (managed done rest : List Managed) (m : Managed) (n : ℕ) → managed ≡ done ++ m ∷ rest → n ≡ length m.1 → marker_bytes done + (n + 1) ≤ marker_bytes managed
all_markers managed done rest m n e l = omega (arith, ap marker_bytes e, marker_bytes-append done (m ∷ rest), l)

pub root_managed : (managed done rest : List Managed) (m : Managed) → managed ≡ done ++ m ∷ rest → is_managed managed m.0 ≡ true
root_managed managed done rest m e = managed_of managed m.0 m (subst (λ ms. Contains ms m) (sym e) (Contains-append_right done (m ∷ rest) m (here m rest))) (within_itself m.0)

pub front_markers : (managed : List Managed) (i : ℕ) → marker_bytes (take i managed) ≤ marker_bytes managed
front_markers managed i = omega (arith, ap marker_bytes (take-append-drop i managed), marker_bytes-append (take i managed) (drop i managed))
