-- A file that is compared with a text, piece by piece.
use Rattle.std.proofs.Common.{◌≡◌, ◌≤◌, ◌<◌, ◌+◌, ◌-◌, ℕ, List, [], ◌++◌, Bool, true, false, length, take, drop, refl, sym, ap, ◌∙◌, subst, arith, Some}
use Rattle.std.specs.Prelude.{Option, nat_eq}
use Rattle.std.specs.Cmp.Lexicographic.{pointwise}
use Rattle.std.proofs.Math.Seq.{take-add}
use Rattle.std.proofs.lemmas.List.{take_all, length-take-le, drop-take, take-append-drop, take-append-le}
use Rattle.std.proofs.lemmas.Slice.Eq.{bytes_eq-Decides}
use Rattle.pn_fs.specs.Pieces.{IsPiece}
use Rattle.pn_fs.specs.Tree.{Entry, file}
use Rattle.pn_text.proofs.Bools.{true_false}

-- the file and the text are one up to a place
pub record IsRead (e : Option Entry) (text : List ℕ) (at : ℕ) : Type 0 where
  pub bytes : List ℕ
  pub is : e ≡ Some (file bytes)
  pub front : take at bytes ≡ take at text
  pub within : at ≤ length bytes

pub none_read : (e : Option Entry) (text : List ℕ) → (bytes : List ℕ) × (e ≡ Some (file bytes)) → IsRead e text 0
none_read e text f = record { bytes = f.0; is = f.1; front = refl; within = omega arith }

same_file : (e : Option Entry) (x y : List ℕ) → e ≡ Some (file x) → e ≡ Some (file y) → x ≡ y
same_file e x y h k = let same : Some (file x) ≡ Some (file y) = sym h ∙ k in cc same

take_front : (xs : List ℕ) (k m : ℕ) → m ≤ length (take k xs) → take m (take k xs) ≡ take m xs
take_front xs k m long = sym (take-append-le m (take k xs) (drop k xs) long) ∙ ap (take m) (take-append-drop k xs)

front_of : (xs : List ℕ) (k at n : ℕ) → at + n ≤ length (take k xs) → take n (drop at (take k xs)) ≡ take n (drop at xs)
front_of xs k at n long = sym (drop-take at n (take k xs)) ∙ ap (drop at) (take_front xs k (at + n) long) ∙ drop-take at n xs

module _ (e : Option Entry) (text into : List ℕ) (at n : ℕ) (r : IsRead e text at) (p : IsPiece e at into n) where
  same : p.bytes ≡ r.bytes
  same = same_file e p.bytes r.bytes p.is r.is

  came : take n into ≡ take n (drop at r.bytes)
  came = p.came ∙ ap (λ b. take n (drop at b)) same

  fits : at + n ≤ length r.bytes
  fits = omega (arith, p.inside (omega (arith, r.within, ap length same)), ap length same)

  -- no more comes
  pub all_read : n ≡ 0 → (k : ℕ) × (e ≡ Some (file (take k text)))
  all_read none = (at, r.is ∙ ap (λ b. Some (file b)) (sym (take_all at r.bytes (omega (arith, p.at_end none, ap length same))) ∙ r.front))

  -- a piece is as the text
  pub more_read : n ≤ length into → pointwise nat_eq (take n into) (take (length (take n into)) (drop at text)) ≡ true → IsRead e text (at + n)
  more_read l h = record {
    bytes = r.bytes;
    is = r.is;
    front =
        take-add at n r.bytes
        ∙ ap (λ x. take at r.bytes ++ x) (sym came ∙ (bytes_eq-Decides (take n into) (take (length (take n into)) (drop at text))).0 h ∙ ap (λ k. take k (drop at text)) (length-take-le n into l))
        ∙ ap (λ x. x ++ take n (drop at text)) r.front
        ∙ sym (take-add at n text);
    within = fits;
  }

  -- a piece is not as the text
  pub not_front : n ≤ length into → pointwise nat_eq (take n into) (take (length (take n into)) (drop at text)) ≡ false → (k : ℕ) × (e ≡ Some (file (take k text))) → ⊥
  not_front l h f =
      let whole : r.bytes ≡ take f.0 text = same_file e r.bytes (take f.0 text) r.is f.1 in
      let long : at + n ≤ length (take f.0 text) = omega (arith, fits, ap length whole) in
      let piece : take n (drop at (take f.0 text)) ≡ take n (drop at text) = front_of text f.0 at n long in
      let is : take n into ≡ take (length (take n into)) (drop at text) = came ∙ ap (λ b. take n (drop at b)) whole ∙ piece ∙ ap (λ k. take k (drop at text)) (sym (length-take-le n into l)) in
      true_false _ ((bytes_eq-Decides (take n into) (take (length (take n into)) (drop at text))).1 is) h
