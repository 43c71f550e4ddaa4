-- Lemmas on a file that is put in pieces.
use Rattle.std.proofs.Common.{◌≡◌, ℕ, ◌+◌, ◌<◌, ◌≤◌, List, [], ◌++◌, length, take, refl, sym, ap, ◌∙◌, arith, Some, length-append, length-take}
use Rattle.std.specs.Prelude.{Option, IfSome}
use Rattle.std.specs.Option.{ForSome}
use Rattle.std.proofs.lemmas.List.{take_all}
use Rattle.sha2.specs.Sha512.{sha512}
use Rattle.pn_text.specs.Path.{Path}
use Rattle.pn_fs.specs.Tree.{file, Tree, IsFile}
use Rattle.pn_fs.specs.Pieces.{IsPiece}
use Rattle.pn_fs.proofs.PieceLemmas.{IsFront, grown_front}
use Rattle.pn_digest.specs.declared.hasher.Hasher512.{Hasher512}
use Rattle.pn_digest.specs.Hashing.{Holds as Hashes}
use Rattle.pn_storecore.specs.Seen.{Seen}
use Rattle.pn_text.specs.declared.limits.TheConstants.{FILE_LIMIT}
use Rattle.pn_text.proofs.Results.{if_some}
use Rattle.pn_store.specs.declared.files.Put.{Put}
use Rattle.pn_store.specs.Held.{HoldsFile}
use Rattle.pn_store.specs.Puts.{IsFilled, IsShortFile}

-- so many bytes are in the held file and in the hasher
pub record IsFilling (source : Option Tree) (p : Path) (k at : ℕ) (hasher : Hasher512) (s : Seen) : Type 0 where
  pub bytes : List ℕ
  pub size : at ≡ length bytes
  pub front : ForSome source (λ r. IsFront (r p) bytes at)
  pub holds : HoldsFile s k (Some bytes)
  pub hashed : Hashes hasher bytes

pub starts : (source : Option Tree) (p : Path) (k : ℕ) (hasher : Hasher512) (s : Seen) → HoldsFile s k (Some []) → Hashes hasher [] → ForSome source (λ r. IsShortFile r p) → IsFilling source p k 0 hasher s
starts source p k hasher s holds hashed stands = record {
  bytes = [];
  size = refl;
  front = λ r told. let f = stands r told in record { whole = f.bytes; is = f.stands; front = refl; within = omega arith };
  holds = holds;
  hashed = hashed;
}

grown_size : (at n : ℕ) (bytes into : List ℕ) → at ≡ length bytes → n ≤ length into → at + n ≡ length (bytes ++ take n into)
grown_size at n bytes into size within = omega (arith, size, within, length-append bytes (take n into), length-take n into)

pub goes_on : (source : Option Tree) (p : Path) (k at n : ℕ) (into : List ℕ) (hasher next : Hasher512) (mid new : Seen) → (h : IsFilling source p k at hasher mid) → ForSome source (λ r. IsPiece (r p) at into n) → n ≤ length into
    → HoldsFile new k (Some (h.bytes ++ take n into)) → Hashes next (h.bytes ++ take n into) → IsFilling source p k (at + n) next new
goes_on source p k at n into hasher next mid new h piece within holds hashed = record {
  bytes = h.bytes ++ take n into;
  size = grown_size at n h.bytes into h.size within;
  front = λ r told. grown_front (r p) h.bytes into at n (h.front r told) (piece r told);
  holds = holds;
  hashed = hashed;
}

-- where no more comes, the file is whole
pub ends : (source : Option Tree) (p : Path) (k at n : ℕ) (into : List ℕ) (hasher : Hasher512) (mid : Seen) (put : Put) → (h : IsFilling source p k at hasher mid) → ForSome source (λ r. IsPiece (r p) at into n) → n ≡ 0 → at ≤ FILE_LIMIT
    → ((bytes : List ℕ) → Hashes hasher bytes → put.digest ≡ sha512 bytes) → put.length ≡ at → IsFilled source p k mid put
ends source p k at n into hasher mid put h piece none within digest size = record {
  bytes = h.bytes;
  digest = digest h.bytes h.hashed;
  size = size ∙ h.size;
  short = omega (arith, h.size, within);
  from = if_some (λ r. r p ≡ Some (file h.bytes)) source (λ r told.
      let f = h.front r told in
      let q = piece r told in
      let same : q.bytes ≡ f.whole = cc (f.is, q.is) in
      f.is ∙ ap (λ b. Some (file b)) (sym (f.front ∙ take_all at f.whole (omega (arith, q.at_end none, ap length same)))));
  holds = h.holds;
}

-- a short file doesn't go on past the limit
pub not_large : (source : Option Tree) (p : Path) (k at n : ℕ) (into : List ℕ) (hasher : Hasher512) (mid : Seen) → IsFilling source p k at hasher mid → ForSome source (λ r. IsPiece (r p) at into n) → ForSome source (λ r. IsShortFile r p)
    → FILE_LIMIT < at + n → (Q : Tree → Type 0) → IfSome source Q
not_large source p k at n into hasher mid h piece stands past Q = if_some Q source (λ r told.
    let f = h.front r told in
    let q = piece r told in
    let s = stands r told in
    let same : q.bytes ≡ f.whole = cc (f.is, q.is) in
    let one : s.bytes ≡ f.whole = cc (f.is, s.stands) in
    absurd (omega (arith, q.inside (omega (arith, f.within, ap length same)), ap length same, ap length one, s.short, past)))

pub short_is_file : (source mid : Option Tree) (p : Path) → mid ≡ source → ForSome source (λ r. IsShortFile r p) → ForSome mid (λ r. IsFile r p)
short_is_file source mid p same stands r told = let f = stands r (sym same ∙ told) in (f.bytes, f.stands)
