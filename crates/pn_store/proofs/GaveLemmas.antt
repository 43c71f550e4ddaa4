-- Lemmas on how many bytes a put's source gave.
use Rattle.std.proofs.Common.{◌≡◌, ℕ, ◌+◌, ◌≤◌, List, length, ap, ◌∙◌, arith, Some, length-take}
use Rattle.std.specs.Prelude.{◌-◌, drop, Option, IfSome}
use Rattle.std.specs.Option.{ForSome}
use Rattle.std.proofs.lemmas.List.{length-drop}
use Rattle.pn_text.proofs.Results.{for_some, if_some}
use Rattle.pn_fs.specs.Tree.{Entry, file, Tree}
use Rattle.pn_fs.specs.Seen.{Seen as Source, GaveAtMost, GaveBytes, GaveNothing}
use Rattle.pn_fs.specs.Pieces.{IsPiece}
use Rattle.pn_fs.proofs.PieceLemmas.{IsFront}
use Rattle.pn_store.specs.Puts.{file_length}

-- a piece of a file ends within it
pub piece_within : (e : Option Entry) (at n : ℕ) (into : List ℕ) → IsPiece e at into n → n ≤ length into → n ≤ file_length e - at
piece_within e at n into p within = omega (arith, within, ap length p.came, length-take n into, length-take n (drop at p.bytes), length-drop at p.bytes, ap file_length p.is)

pub front_within : (e : Option Entry) (bytes : List ℕ) (at : ℕ) → IsFront e bytes at → at ≤ file_length e
front_within e bytes at f = omega (arith, f.within, ap file_length f.is)

-- calls that gave so much, and more, within what the tree allows
pub gave_then : (a b c : Source) (m n k : Tree → ℕ) → b.tree ≡ a.tree → ForSome a.tree (λ t. GaveAtMost a (m t) 0 b) → IfSome b.tree (λ t. GaveAtMost b (n t) 0 c) → ForSome a.tree (λ t. m t + n t ≤ k t) → ForSome a.tree (λ t. GaveAtMost a (k t) 0 c)
gave_then a b c m n k same first second fits = λ t told.
    let g = first t told in
    let s = for_some (λ t. GaveAtMost b (n t) 0 c) b.tree second t (same ∙ told) in
    record { bytes = omega (arith, g.bytes, s.bytes, fits t told); names = omega (arith, g.names, s.names) }

pub bytes_most : (s : Option Tree) (a b : Source) (n : ℕ) → IfSome s (λ t. GaveBytes a n b) → IfSome s (λ t. GaveAtMost a n 0 b)
bytes_most s a b n h = if_some (λ t. GaveAtMost a n 0 b) s (λ t told. let g = for_some (λ t. GaveBytes a n b) s h t told in record { bytes = omega (arith, g.bytes); names = omega (arith, g.names) })

pub nothing_most : (s : Option Tree) (a b : Source) (n : Tree → ℕ) → IfSome s (λ t. GaveNothing a b) → IfSome s (λ t. GaveAtMost a (n t) 0 b)
nothing_most s a b n h = if_some (λ t. GaveAtMost a (n t) 0 b) s (λ t told. let g = for_some (λ t. GaveNothing a b) s h t told in record { bytes = omega (arith, g.bytes); names = omega (arith, g.names) })

pub same_most : (s : Option Tree) (a : Source) (n : Tree → ℕ) → IfSome s (λ t. GaveAtMost a (n t) 0 a)
same_most s a n = if_some (λ t. GaveAtMost a (n t) 0 a) s (λ t told. record { bytes = omega arith; names = omega arith })

-- the same as a clause
pub gave_end : (a b c : Source) (m n k : Tree → ℕ) → b.tree ≡ a.tree → ForSome a.tree (λ t. GaveAtMost a (m t) 0 b) → IfSome b.tree (λ t. GaveAtMost b (n t) 0 c) → ForSome a.tree (λ t. m t + n t ≤ k t) → IfSome a.tree (λ t. GaveAtMost a (k t) 0 c)
gave_end a b c m n k same first second fits = if_some (λ t. GaveAtMost a (k t) 0 c) a.tree (gave_then a b c m n k same first second fits)

-- behind a call that gave nothing
pub gave_behind : (a b c : Source) (n k : Tree → ℕ) → b.tree ≡ a.tree → IfSome a.tree (λ t. GaveNothing a b) → IfSome b.tree (λ t. GaveAtMost b (n t) 0 c) → ForSome a.tree (λ t. n t ≤ k t) → IfSome a.tree (λ t. GaveAtMost a (k t) 0 c)
gave_behind a b c n k same none more fits =
    gave_end a b c (λ t. 0) n k same (for_some (λ t. GaveAtMost a 0 0 b) a.tree (nothing_most a.tree a b (λ t. 0) none)) more (λ t told. omega (arith, fits t told))

pub short_length : (e : Option Entry) (bytes : List ℕ) → e ≡ Some (file bytes) → file_length e ≡ length bytes
short_length e bytes is = ap file_length is
