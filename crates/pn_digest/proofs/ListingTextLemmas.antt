-- Lines of files, and how texts fall into them.
use Rattle.std.proofs.Common.{◌≡◌, ℕ, ◌<◌, List, [], ◌∷◌, ◌++◌, length, refl, sym, ap, ◌∙◌, subst, append_assoc, arith, true, false, inl, inr}
use Rattle.std.specs.Prelude.{◌==◌}
use Rattle.std.specs.List.{Contains}
use Rattle.std.proofs.lemmas.List.Folds.{list_any-append}
use Rattle.std.proofs.lemmas.List.Elements.{Contains-push_cases}
use Rattle.hex.specs.Hex.{encode_lower}
use Rattle.pn_digest.specs.Listing.{Entry, IsEntry, rel_text, has_feed, line_text, listing_text, ListingLaw}
use Rattle.pn_digest.specs.Lines.{AreEntries, AreFileLines, BeginsWithFile, TakesFile, IsCut, IsFileLine}
use Rattle.pn_digest.proofs.IsDigestLemmas.{length-hex, one_hex, no_feed_hex}
use Rattle.pn_digest.proofs.IsRelPathLemmas.{same_rel}
use Rattle.pn_text.proofs.Members.{here, there}
use Rattle.pn_text.proofs.Bools.{both_false, right_false}
use Rattle.pn_text.proofs.Bytes.{same_first, same_rest}

feed_front : (x : ℕ) (xs : List ℕ) → x ≡ 10 → has_feed (x ∷ xs) ≡ false → ⊥
feed_front x xs e h = let f : true ≡ false = sym (ap (λ y. has_feed (y ∷ xs)) e) ∙ h in cc

-- a text is cut in one way at its first line feed
pub cut_same : (a b r s : List ℕ) → has_feed a ≡ false → has_feed b ≡ false → a ++ 10 ∷ r ≡ b ++ 10 ∷ s → (a ≡ b) × (r ≡ s)
cut_same [] [] r s fa fb e = (refl, same_rest 10 10 r s e)
cut_same [] (y ∷ b) r s fa fb e = absurd (feed_front y b (sym (same_first 10 y r (b ++ 10 ∷ s) e)) fb)
cut_same (x ∷ a) [] r s fa fb e = absurd (feed_front x a (same_first x 10 (a ++ 10 ∷ r) s e) fa)
cut_same (x ∷ a) (y ∷ b) r s fa fb e =
    let same = cut_same a b r s (right_false (x == 10) (has_feed a) fa) (right_false (y == 10) (has_feed b) fb) (same_rest x y (a ++ 10 ∷ r) (b ++ 10 ∷ s) e) in
    let first : x ≡ y = same_first x y (a ++ 10 ∷ r) (b ++ 10 ∷ s) e in
    (λ i. first i ∷ same.0 i, same.1)

-- two fronts of one length
pub parts_same : (a b p q : List ℕ) → length a ≡ length b → a ++ p ≡ b ++ q → (a ≡ b) × (p ≡ q)
parts_same [] [] p q len e = (refl, e)
parts_same [] (y ∷ b) p q len e = absurd (omega (arith, len))
parts_same (x ∷ a) [] p q len e = absurd (omega (arith, len))
parts_same (x ∷ a) (y ∷ b) p q len e =
    let same = parts_same a b p q (omega (arith, len)) (same_rest x y (a ++ p) (b ++ q) e) in
    let first : x ≡ y = same_first x y (a ++ p) (b ++ q) e in
    (λ i. first i ∷ same.0 i, same.1)

pub no_feed_line : (e : Entry) → IsEntry e → has_feed (line_text e) ≡ false
no_feed_line e is =
    list_any-append (λ b. b == 10) (encode_lower e.1) (32 ∷ rel_text e.0) ∙ both_false (has_feed (encode_lower e.1)) (has_feed (rel_text e.0)) (no_feed_hex e.1) is.one_line

-- a line is that of one file
pub line_one : (a b : Entry) → IsEntry a → IsEntry b → line_text a ≡ line_text b → a ≡ b
line_one a b ia ib e =
    let same = parts_same (encode_lower a.1) (encode_lower b.1) (32 ∷ rel_text a.0) (32 ∷ rel_text b.0) (length-hex a.1 ia.digest ∙ sym (length-hex b.1 ib.digest)) e in
    let digest : a.1 ≡ b.1 = one_hex a.1 b.1 ia.digest ib.digest same.0 in
    let path : a.0 ≡ b.0 = same_rel a.0 b.0 ia.path ib.path (same_rest 32 32 (rel_text a.0) (rel_text b.0) same.1) in
    λ i. (path i, digest i)

not_empty : (a r : List ℕ) → [] ≡ a ++ 10 ∷ r → ⊥
not_empty [] r e = cc e
not_empty (x ∷ a) r e = cc e

pub entries_rest : (e : Entry) (es : List Entry) → AreEntries (e ∷ es) → AreEntries es
entries_rest e es h f i = h f (there e es f i)

pub entries_first : (e : Entry) (es : List Entry) → AreEntries (e ∷ es) → IsEntry e
entries_first e es h = h e (here e es)

pub texts_one : (a b : List Entry) → AreEntries a → AreEntries b → listing_text a ≡ listing_text b → a ≡ b
texts_one [] [] ea eb e = refl
texts_one [] (y ∷ b) ea eb e = absurd (not_empty (line_text y) (listing_text b) e)
texts_one (x ∷ a) [] ea eb e = absurd (not_empty (line_text x) (listing_text a) (sym e))
texts_one (x ∷ a) (y ∷ b) ea eb e =
    let ix = entries_first x a ea in
    let iy = entries_first y b eb in
    let same = cut_same (line_text x) (line_text y) (listing_text a) (listing_text b) (no_feed_line x ix) (no_feed_line y iy) e in
    let first : x ≡ y = line_one x y ix iy same.0 in
    let rest : a ≡ b = texts_one a b (entries_rest x a ea) (entries_rest y b eb) same.1 in
    λ i. first i ∷ rest i

pub one_listing : ListingLaw
one_listing a b la lb e = texts_one a b la.entries lb.entries e

-- what stands behind some lines of files
pub lines_behind : (fs es : List Entry) (rest : List ℕ) → AreEntries fs → AreEntries es → listing_text fs ++ rest ≡ listing_text es → AreFileLines rest
lines_behind [] es rest ef ee e = (es, ee, e)
lines_behind (f ∷ fs) [] rest ef ee e = absurd (not_empty (line_text f) (listing_text fs ++ rest) (sym e ∙ append_assoc (line_text f) (10 ∷ listing_text fs) rest))
lines_behind (f ∷ fs) (x ∷ es) rest ef ee e =
    let same = cut_same (line_text f) (line_text x) (listing_text fs ++ rest) (listing_text es) (no_feed_line f (entries_first f fs ef)) (no_feed_line x (entries_first x es ee)) (sym (append_assoc (line_text f) (10 ∷ listing_text fs) rest) ∙ e) in
    lines_behind fs es rest (entries_rest f fs ef) (entries_rest x es ee) same.1

pub begins_with_one : (rest : List ℕ) → 0 < length rest → AreFileLines rest → BeginsWithFile rest
begins_with_one rest some lines = begins lines.0 lines.1 lines.2
  where
    begins : (es : List Entry) → AreEntries es → rest ≡ listing_text es → BeginsWithFile rest
    begins [] ee e = let none = ap length e in absurd (omega (arith, some, none))
    begins (x ∷ es) ee e = (x, listing_text es, entries_first x es ee, e)

pub text_push : (es : List Entry) (x : Entry) → listing_text (es ++ x ∷ []) ≡ listing_text es ++ (line_text x ++ 10 ∷ [])
text_push [] x = refl
text_push (e ∷ es) x = ap (λ t. line_text e ++ 10 ∷ t) (text_push es x) ∙ sym (append_assoc (line_text e) (10 ∷ listing_text es) (line_text x ++ 10 ∷ []))

-- The files were read from the front of the bytes.
pub record IsReading (bytes rest : List ℕ) (files : List Entry) : Type 0 where
  pub whole : bytes ≡ listing_text files ++ rest
  pub entries : AreEntries files

pub reading_more : (bytes rest rest' : List ℕ) (old new : List Entry) → IsReading bytes rest old → TakesFile old new rest rest' → IsReading bytes rest' new
reading_more bytes rest rest' old new r t = record {
  whole =
      r.whole ∙ ap (λ z. listing_text old ++ z) (t.whole ∙ sym (append_assoc (line_text t.file) (10 ∷ []) rest'))
      ∙ sym (append_assoc (listing_text old) (line_text t.file ++ 10 ∷ []) rest')
      ∙ ap (λ z. z ++ rest') (sym (ap listing_text t.taken ∙ text_push old t.file));
  entries = λ e i. elim (Contains-push_cases old t.file e (subst (λ z. Contains z e) t.taken i)) [
    | inl a ↦ r.entries e a
    | inr s ↦ subst IsEntry s t.entry
  ];
}

pub lines_left : (bytes rest : List ℕ) (files : List Entry) → IsReading bytes rest files → 0 < length rest → AreFileLines bytes → BeginsWithFile rest
lines_left bytes rest files r some lines = begins_with_one rest some (lines_behind files lines.0 rest r.entries lines.1 (sym r.whole ∙ lines.2))

-- the first line is the only one that the bytes may begin with
pub line_of_file : (bytes line rest : List ℕ) → IsCut bytes line rest → BeginsWithFile bytes → IsFileLine line
line_of_file bytes line rest cut b = (
  b.0,
  b.2,
  (cut_same line (line_text b.0) rest b.1 cut.flat (no_feed_line b.0 b.2) (sym cut.whole ∙ b.3)).0,
)
