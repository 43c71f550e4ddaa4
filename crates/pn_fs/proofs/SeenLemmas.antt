-- Lemmas on what calls that only read leave as it was, and on counts.
use Rattle.std.proofs.Common.{◌≡◌, ℕ, ◌≤◌, List, refl, sym, ◌∙◌, arith, Some}
use Rattle.std.specs.Prelude.{◌+◌, Option, IfSome}
use Rattle.std.specs.Option.{ForSome}
use Rattle.pn_text.specs.Causes.{Rose}
use Rattle.pn_fs.specs.Tree.{Entry, file}
use Rattle.pn_fs.specs.Seen.{Seen, Keeps, GaveNothing, GaveBytes, GaveNames, GaveAtMost}
use Rattle.pn_text.proofs.Results.{for_some}

pub keeps_on : (a b c : Seen) → Keeps a b → Keeps b c → Keeps a c
keeps_on a b c h k = record { tree = k.tree ∙ h.tree; touched = k.touched ∙ h.touched; later = omega (arith, h.later, k.later) }

pub keeps_same : (a : Seen) → Keeps a a
keeps_same a = record { tree = refl; touched = refl; later = omega arith }

-- a count that rose behind a place rose from before it
pub rose_from : (a b c : ℕ) → a ≤ b → Rose b c → Rose a c
rose_from a b c l h = omega (arith, l, h)

-- what stands at a place is one file
pub file_once : (e : Option Entry) (x y : List ℕ) → e ≡ Some (file x) → e ≡ Some (file y) → x ≡ y
file_once e x y h k = let same : Some (file x) ≡ Some (file y) = sym h ∙ k in cc

pub gave_at_most : (a : Seen) (m n : ℕ) → GaveAtMost a m n a
gave_at_most a m n = record { bytes = omega arith; names = omega arith }

-- calls that gave so much, and one more that gave nothing, so many bytes or so many names
pub and_nothing : (a b c : Seen) (m n k : ℕ) → b.tree ≡ a.tree → ForSome a.tree (λ t. GaveAtMost a m n b) → IfSome b.tree (λ t. GaveNothing b c) → m ≤ k → ForSome a.tree (λ t. GaveAtMost a k n c)
and_nothing a b c m n k same h i l = λ t told.
    let g = h t told in
    let s = for_some (λ t. GaveNothing b c) b.tree i t (same ∙ told) in
    record { bytes = omega (arith, g.bytes, s.bytes, l); names = omega (arith, g.names, s.names) }

pub and_bytes : (a b c : Seen) (m n more k : ℕ) → b.tree ≡ a.tree → ForSome a.tree (λ t. GaveAtMost a m n b) → IfSome b.tree (λ t. GaveBytes b more c) → m + more ≤ k → ForSome a.tree (λ t. GaveAtMost a k n c)
and_bytes a b c m n more k same h i l = λ t told.
    let g = h t told in
    let s = for_some (λ t. GaveBytes b more c) b.tree i t (same ∙ told) in
    record { bytes = omega (arith, g.bytes, s.bytes, l); names = omega (arith, g.names, s.names) }

pub and_names : (a b c : Seen) (m n more k : ℕ) → b.tree ≡ a.tree → ForSome a.tree (λ t. GaveAtMost a m n b) → IfSome b.tree (λ t. GaveNames b more c) → n + more ≤ k → ForSome a.tree (λ t. GaveAtMost a m k c)
and_names a b c m n more k same h i l = λ t told.
    let g = h t told in
    let s = for_some (λ t. GaveNames b more c) b.tree i t (same ∙ told) in
    record { bytes = omega (arith, g.bytes, s.bytes); names = omega (arith, g.names, s.names, l) }
