-- Lemmas on a file that is read in pieces.
use Rattle.std.proofs.Common.{◌≡◌, ◌≢◌, ℕ, ◌+◌, ◌<◌, ◌≤◌, ◌==◌, List, [], ◌++◌, length, take, drop, refl, sym, ap, ◌∙◌, subst, arith, Bool, true, false, Some}
use Rattle.std.specs.Prelude.{Option, IfSome, if◌then◌else◌, nat_le}
use Rattle.std.specs.Bool.{MatchBool}
use Rattle.std.specs.Option.{ForSome}
use Rattle.std.proofs.lemmas.List.{take_all}
use Rattle.std.proofs.lemmas.Bool.{eq-eqb, le-leb}
use Rattle.std.proofs.Math.Seq.{take-add}
use Rattle.sha2.specs.Sha512.{sha512}
use Rattle.pn_text.specs.Path.{Path}
use Rattle.pn_text.specs.declared.limits.TheConstants.{FILE_LIMIT}
use Rattle.pn_text.proofs.Results.{for_some, if_some}
use Rattle.pn_digest.specs.declared.hasher.Hasher512.{Hasher512}
use Rattle.pn_digest.specs.Hashing.{Holds as Hashes}
use Rattle.pn_digest.specs.declared.planned.Planned.TheVariants.{Stored}
use Rattle.pn_fs.specs.declared.kind.Kind.TheVariants.{File}
use Rattle.pn_fs.specs.Tree.{Entry, file, Tree, IsFile}
use Rattle.pn_fs.specs.Calls.{kind_of}
use Rattle.pn_fs.specs.Pieces.{IsPiece}
use Rattle.pn_fs.specs.Seen.{Seen, GaveNothing, GaveBytes, GaveAtMost}
use Rattle.pn_fs.proofs.PieceLemmas.{IsFront, grown_front}
use Rattle.pn_fs.proofs.Puts.{is_file}
use Rattle.pn_fs.proofs.SeenLemmas.{file_once}
use Rattle.pn_repair.specs.Stands.{StandsAs}

pub front_none : (s : Option Tree) (p : Path) (n : ℕ) → ForSome s (λ t. kind_of (t p) ≡ File n) → ForSome s (λ t. IsFront (t p) [] 0)
front_none s p n h t told = let f = is_file (t p) n (h t told) in record { whole = f.0; is = f.1; front = refl; within = omega arith }

pub front_file : (s mid : Option Tree) (p : Path) (bytes : List ℕ) (at : ℕ) → mid ≡ s → ForSome s (λ t. IsFront (t p) bytes at) → ForSome mid (λ t. IsFile t p)
front_file s mid p bytes at same h t told = let f = h t (sym same ∙ told) in (f.whole, f.is)

-- the hasher holds the first bytes of the file
pub record IsHashed (s : Option Tree) (p : Path) (hasher : Hasher512) (at : ℕ) : Type 0 where
  pub bytes : List ℕ
  pub hashed : Hashes hasher bytes
  pub front : ForSome s (λ t. IsFront (t p) bytes at)

-- a piece comes from within the file
pub fits_in : (s : Option Tree) (p : Path) (bytes into : List ℕ) (at n size : ℕ) → ForSome s (λ t. kind_of (t p) ≡ File size) → ForSome s (λ t. IsFront (t p) bytes at) → ForSome s (λ t. IsPiece (t p) at into n) → ForSome s (λ t. at + n ≤ size)
fits_in s p bytes into at n size kind front piece t told =
    let k = is_file (t p) size (kind t told) in
    let f = front t told in
    let q = piece t told in
    let same = file_once (t p) q.bytes f.whole q.is f.is in
    let one = file_once (t p) k.0 f.whole k.1 f.is in
    omega (arith, q.inside (omega (arith, f.within, ap length same)), ap length same, ap length one, k.2)

pub front_in : (s : Option Tree) (p : Path) (bytes : List ℕ) (at size : ℕ) → ForSome s (λ t. kind_of (t p) ≡ File size) → ForSome s (λ t. IsFront (t p) bytes at) → ForSome s (λ t. at ≤ size)
front_in s p bytes at size kind front t told =
    let k = is_file (t p) size (kind t told) in
    let f = front t told in
    let one = file_once (t p) k.0 f.whole k.1 f.is in
    omega (arith, f.within, ap length one, k.2)

-- calls that gave so many bytes, and one more
pub gave_more : (a b c : Seen) (at n k : ℕ) → b.tree ≡ a.tree → ForSome a.tree (λ t. GaveAtMost a at 0 b) → IfSome b.tree (λ t. GaveBytes b n c) → ForSome a.tree (λ t. at + n ≤ k) → IfSome a.tree (λ t. GaveAtMost a k 0 c)
gave_more a b c at n k same h i l = if_some (λ t. GaveAtMost a k 0 c) a.tree (λ t told.
    let g = h t told in
    let s = for_some (λ t. GaveBytes b n c) b.tree i t (same ∙ told) in
    record { bytes = omega (arith, g.bytes, s.bytes, l t told); names = omega (arith, g.names, s.names) })

pub gave_still : (a b c : Seen) (at k : ℕ) → b.tree ≡ a.tree → ForSome a.tree (λ t. GaveAtMost a at 0 b) → IfSome b.tree (λ t. GaveNothing b c) → ForSome a.tree (λ t. at ≤ k) → IfSome a.tree (λ t. GaveAtMost a k 0 c)
gave_still a b c at k same h i l = if_some (λ t. GaveAtMost a k 0 c) a.tree (λ t told.
    let g = h t told in
    let s = for_some (λ t. GaveNothing b c) b.tree i t (same ∙ told) in
    record { bytes = omega (arith, g.bytes, s.bytes, l t told); names = omega (arith, g.names, s.names) })

pub at_same : (s : Option Tree) (x n m : ℕ) → ForSome s (λ t. x ≤ n) → n ≡ m → ForSome s (λ t. x ≤ (if n == m then n else 0))
at_same s x n m h is t told = subst (λ (b : Bool). x ≤ (if b then n else 0)) (sym (eq-eqb n m is)) (h t told)

pub at_small : (s : Option Tree) (x n m : ℕ) → ForSome s (λ t. x ≤ n) → n ≤ m → ForSome s (λ t. x ≤ (if nat_le n m then n else 0))
at_small s x n m h le t told = subst (λ (b : Bool). x ≤ (if b then n else 0)) (sym (le-leb n m le)) (h t told)

-- a file of another length is another file
pub other_size : (s : Option Tree) (p : Path) (size : ℕ) (text : List ℕ) → ForSome s (λ t. kind_of (t p) ≡ File size) → size ≢ length text → IfSome s (λ t. t p ≡ Some (file text) → ⊥)
other_size s p size text kind apart = if_some (λ t. t p ≡ Some (file text) → ⊥) s (λ t told is.
    let k = is_file (t p) size (kind t told) in
    let one = file_once (t p) k.0 text k.1 is in
    apart (sym k.2 ∙ ap length one))

-- all of the text is there
pub whole_text : (s : Option Tree) (p : Path) (size at : ℕ) (text : List ℕ) → ForSome s (λ t. kind_of (t p) ≡ File size) → size ≡ length text → ForSome s (λ t. IsFront (t p) (take at text) at) → at ≡ length text → IfSome s (λ t. t p ≡ Some (file text))
whole_text s p size at text kind same front all = if_some (λ t. t p ≡ Some (file text)) s (λ t told.
    let k = is_file (t p) size (kind t told) in
    let f = front t told in
    let one = file_once (t p) k.0 f.whole k.1 f.is in
    let is : f.whole ≡ text = sym (take_all at f.whole (omega (arith, all, same, ap length one, k.2))) ∙ sym f.front ∙ take_all at text (omega (arith, all)) in
    f.is ∙ ap (λ b. Some (file b)) is)

-- one more piece that is the text's
pub text_more : (s : Option Tree) (p : Path) (at n : ℕ) (text into : List ℕ) → ForSome s (λ t. IsFront (t p) (take at text) at) → ForSome s (λ t. IsPiece (t p) at into n) → take n into ≡ take n (drop at text) → ForSome s (λ t. IsFront (t p) (take (at + n) text) (at + n))
text_more s p at n text into front piece same t told =
    subst (λ x. IsFront (t p) x (at + n)) (ap (λ x. take at text ++ x) same ∙ sym (take-add at n text)) (grown_front (t p) (take at text) into at n (front t told) (piece t told))

pub hashed_more : (s : Option Tree) (p : Path) (old new : Hasher512) (at n : ℕ) (into : List ℕ) → IsHashed s p old at → ForSome s (λ t. IsPiece (t p) at into n) → ((bytes : List ℕ) → Hashes old bytes → Hashes new (bytes ++ take n into)) → IsHashed s p new (at + n)
hashed_more s p old new at n into h piece more = record {
  bytes = h.bytes ++ take n into;
  hashed = more h.bytes h.hashed;
  front = λ t told. grown_front (t p) h.bytes into at n (h.front t told) (piece t told);
}

pub hashed_file : (s mid : Option Tree) (p : Path) (hasher : Hasher512) (at : ℕ) → mid ≡ s → IsHashed s p hasher at → ForSome mid (λ t. IsFile t p)
hashed_file s mid p hasher at same h = front_file s mid p h.bytes at same h.front

-- a file past the limit isn't right
pub too_large : (s : Option Tree) (p : Path) (size : ℕ) (digest : List ℕ) → ForSome s (λ t. kind_of (t p) ≡ File size) → FILE_LIMIT < size → IfSome s (λ t. StandsAs (Stored digest) (t p) → ⊥)
too_large s p size digest kind past = if_some (λ t. StandsAs (Stored digest) (t p) → ⊥) s (λ t told st.
    let k = is_file (t p) size (kind t told) in
    let one = file_once (t p) k.0 st.0 k.1 st.1 in
    absurd (omega (arith, past, k.2, ap length one, st.3)))

ended : (right : Bool) (e : Option Entry) (bytes digest : List ℕ) → e ≡ Some (file bytes) → length bytes ≤ FILE_LIMIT → MatchBool right (sha512 bytes ≡ digest) (sha512 bytes ≢ digest) → MatchBool right (StandsAs (Stored digest) e) (StandsAs (Stored digest) e → ⊥)
ended true e bytes digest is short h = (bytes, is, h, short)
ended false e bytes digest is short h = λ st. h (ap sha512 (file_once e bytes st.0 is st.1) ∙ st.2)

-- a file that was hashed whole
pub digest_right : (s : Option Tree) (p : Path) (hasher : Hasher512) (at n size : ℕ) (into digest : List ℕ) (right : Bool) → ForSome s (λ t. kind_of (t p) ≡ File size) → IsHashed s p hasher at → ForSome s (λ t. IsPiece (t p) at into n) → n ≡ 0 → size ≤ FILE_LIMIT
    → ((bytes : List ℕ) → Hashes hasher bytes → MatchBool right (sha512 bytes ≡ digest) (sha512 bytes ≢ digest)) → IfSome s (λ t. MatchBool right (StandsAs (Stored digest) (t p)) (StandsAs (Stored digest) (t p) → ⊥))
digest_right s p hasher at n size into digest right kind h piece none small end = if_some (λ t. MatchBool right (StandsAs (Stored digest) (t p)) (StandsAs (Stored digest) (t p) → ⊥)) s (λ t told.
    let k = is_file (t p) size (kind t told) in
    let f = h.front t told in
    let q = piece t told in
    let same = file_once (t p) q.bytes f.whole q.is f.is in
    let one = file_once (t p) k.0 f.whole k.1 f.is in
    let is : h.bytes ≡ f.whole = f.front ∙ take_all at f.whole (omega (arith, q.at_end none, ap length same)) in
    ended right (t p) h.bytes digest (f.is ∙ ap (λ b. Some (file b)) (sym is)) (omega (arith, small, k.2, ap length one, ap length is)) (end h.bytes h.hashed))
