-- Lemmas on whether a file begins with some bytes.
use Rattle.std.proofs.Common.{◌≡◌, ◌≢◌, ℕ, ◌<◌, ◌≤◌, List, [], ◌++◌, length, take, drop, refl, sym, ap, ◌∙◌, arith, subst, Bool, true, false, Some, length-append, inl, inr, ◌⊎◌}
use Rattle.std.specs.Prelude.{Option, IfSome, ◌↔◌}
use Rattle.std.specs.Option.{ForSome}
use Rattle.std.proofs.Math.Seq.{take-add, take-append_seam, take-length}
use Rattle.std.proofs.lemmas.List.{take-take, take_all, append_cancel_left, length-take, length-take-le, length-drop}
use Rattle.pn_text.specs.Path.{Path}
use Rattle.pn_text.proofs.Results.{for_some, if_some}
use Rattle.pn_fs.specs.Tree.{Entry, file, Tree, IsFile}
use Rattle.pn_fs.specs.Pieces.{IsPiece}
use Rattle.pn_fs.proofs.SeenLemmas.{file_once}
use Rattle.pn_storecore.specs.declared.step.Place.TheVariants.{Files}
use Rattle.pn_storecore.specs.Seen.{Seen}
use Rattle.pn_store.specs.declared.compare.Met.{Met}
use Rattle.pn_store.specs.Reads.{StoodThere}
use Rattle.pn_store.specs.Begins.{BeginsAt, IsEnd}
use Rattle.pn_store.specs.Puts.{IsSource, IsFound}

-- no bytes
pub begins_none : (source : Option Tree) (p : Path) → ForSome source (λ r. IsFile r p) → ForSome source (λ r. BeginsAt (r p) 0 [] true)
begins_none source p h r told = let f = h r told in (f.0, f.1, refl)

front_of_both : (w bytes piece : List ℕ) → take (length (bytes ++ piece)) w ≡ take (length bytes) w ++ take (length piece) (drop (length bytes) w)
front_of_both w bytes piece = ap (λ k. take k w) (length-append bytes piece) ∙ take-add (length bytes) (length piece) w

front_of : (w : List ℕ) (at given used : ℕ) (into : List ℕ) → take given into ≡ take given (drop at w) → used ≤ given → take used into ≡ take used (drop at w)
front_of w at given used into came less = sym (take-take used given into less) ∙ ap (take used) came ∙ take-take used given (drop at w) less

-- bytes and a piece behind them
begins_on : (e : Option Entry) (bytes piece : List ℕ) (at : ℕ) (a b : Bool) → at ≡ length bytes → BeginsAt e 0 bytes a → (a ≡ true → BeginsAt e at piece b) → (a ≡ false → b ≡ false) → BeginsAt e 0 (bytes ++ piece) b
begins_on e bytes piece at true true size h k l =
    let m = k refl in
    let same : m.0 ≡ h.0 = file_once e m.0 h.0 m.1 h.1 in
    let rest : piece ≡ take (length piece) (drop (length bytes) h.0) = m.2 ∙ ap (λ w. take (length piece) (drop at w)) same ∙ ap (λ i. take (length piece) (drop i h.0)) size in
    (h.0, h.1, ap (λ x. x ++ piece) h.2 ∙ ap (λ x. take (length bytes) h.0 ++ x) rest ∙ sym (front_of_both h.0 bytes piece))
begins_on e bytes piece at true false size h k l =
    let m = k refl in
    let same : m.0 ≡ h.0 = file_once e m.0 h.0 m.1 h.1 in (
      h.0,
      h.1,
      λ is. m.2 (append_cancel_left bytes piece (take (length piece) (drop at m.0))
          (is ∙ front_of_both h.0 bytes piece ∙ ap (λ x. x ++ take (length piece) (drop (length bytes) h.0)) (sym h.2) ∙ ap (λ i. bytes ++ take (length piece) (drop i h.0)) (sym size) ∙ ap (λ w. bytes ++ take (length piece) (drop at w)) (sym same))),
    )
begins_on e bytes piece at false true size h k l = absurd (true_isnt (l refl))
  where
    true_isnt : true ≡ false → ⊥
    true_isnt same = cc
begins_on e bytes piece at false false size h k l =
    (h.0, h.1, λ is. h.2 (sym (take-append_seam bytes piece) ∙ ap (take (length bytes)) is ∙ take-take (length bytes) (length (bytes ++ piece)) h.0 (omega (arith, length-append bytes piece))))

pub begins_more : (source mid : Option Tree) (p : Path) (bytes piece : List ℕ) (at : ℕ) (a b : Bool) → mid ≡ source → at ≡ length bytes → ForSome source (λ r. BeginsAt (r p) 0 bytes a) → (a ≡ true → IfSome mid (λ r. BeginsAt (r p) at piece b)) → (a ≡ false → b ≡ false)
    → ForSome source (λ r. BeginsAt (r p) 0 (bytes ++ piece) b)
begins_more source mid p bytes piece at a b same size h k l r told =
    begins_on (r p) bytes piece at a b size (h r told) (λ is. for_some (λ r. BeginsAt (r p) at piece b) mid (k is) r (same ∙ told)) l

-- bytes that were read whole are the source's where they begin it and are as many
pub ends_same : (source : Option Tree) (p : Path) (bytes own : List ℕ) → IsSource source p own → length bytes ≡ length own → ForSome source (λ r. BeginsAt (r p) 0 bytes true) → IsSource source p bytes
ends_same source p bytes own from size h = if_some (λ r. r p ≡ Some (file bytes)) source (λ r told.
    let b = h r told in
    let f : r p ≡ Some (file own) = for_some (λ r. r p ≡ Some (file own)) source from r told in
    let same : b.0 ≡ own = file_once (r p) b.0 own b.1 f in
    b.1 ∙ ap (λ x. Some (file x)) (sym (b.2 ∙ take_all (length bytes) b.0 (omega (arith, ap length same, size)))))

pub ends_apart : (source : Option Tree) (p : Path) (bytes : List ℕ) → ForSome source (λ r. BeginsAt (r p) 0 bytes false) → IfSome source (λ r. r p ≢ Some (file bytes))
ends_apart source p bytes h = if_some (λ r. r p ≢ Some (file bytes)) source (λ r told is.
    let b = h r told in
    let same : b.0 ≡ bytes = file_once (r p) b.0 bytes b.1 is in
    b.2 (sym (ap (take (length bytes)) same ∙ take-length bytes)))

pub ends_short : (source : Option Tree) (p : Path) (bytes own : List ℕ) → IsSource source p own → length bytes ≢ length own → IfSome source (λ r. r p ≢ Some (file bytes))
ends_short source p bytes own from apart = if_some (λ r. r p ≢ Some (file bytes)) source (λ r told is.
    apart (ap length (file_once (r p) bytes own is (for_some (λ r. r p ≡ Some (file own)) source from r told))))

agrees_at : (e : Option Entry) (at given used : ℕ) (ours theirs : List ℕ) (b : Bool) → IsPiece e at theirs given → used ≤ given → used ≤ length ours → (b ≡ true) ↔ (take used ours ≡ take used theirs) → BeginsAt e at (take used ours) b
agrees_at e at given used ours theirs true p less within same =
    (p.bytes, p.is, same.0 refl ∙ front_of p.bytes at given used theirs p.came less ∙ ap (λ k. take k (drop at p.bytes)) (sym (length-take-le used ours within)))
agrees_at e at given used ours theirs false p less within same =
    (p.bytes, p.is, λ is. let clash : false ≡ true = same.1 (is ∙ ap (λ k. take k (drop at p.bytes)) (length-take-le used ours within) ∙ sym (front_of p.bytes at given used theirs p.came less)) in cc)

-- the first bytes of a piece of the source's are the source's, or not
pub agrees : (source : Option Tree) (p : Path) (at given used : ℕ) (ours theirs : List ℕ) (b : Bool) → IfSome source (λ r. IsPiece (r p) at theirs given) → used ≤ given → used ≤ length ours → (b ≡ true) ↔ (take used ours ≡ take used theirs)
    → IfSome source (λ r. BeginsAt (r p) at (take used ours) b)
agrees source p at given used ours theirs b h less within same =
    if_some (λ r. BeginsAt (r p) at (take used ours) b) source (λ r told. agrees_at (r p) at given used ours theirs b (for_some (λ r. IsPiece (r p) at theirs given) source h r told) less within same)

-- where the source has no more, more bytes aren't its
pub ended : (source : Option Tree) (p : Path) (at given count : ℕ) (ours theirs : List ℕ) → IfSome source (λ r. IsPiece (r p) at theirs given) → given ≡ 0 → 0 < count → count ≤ length ours → IfSome source (λ r. BeginsAt (r p) at (take count ours) false)
ended source p at given count ours theirs h none some within = if_some (λ r. BeginsAt (r p) at (take count ours) false) source (λ r told.
    let q = for_some (λ r. IsPiece (r p) at theirs given) source h r told in
    (q.bytes, q.is, λ is. absurd (omega (arith, q.at_end none, some, length-take-le count ours within, ap length is, length-take (length (take count ours)) (drop at q.bytes), length-drop at q.bytes))))

-- what a comparison answers at the end
pub found_end : (source : Option Tree) (p : Path) (at bytes own : List ℕ) (place size : ℕ) (same whole : Bool) (old new : Seen) (met : Met) → IsSource source p own → size ≡ length own → place ≡ length bytes
    → (whole ≡ true → (same ≡ true) × (place ≡ size)) → (whole ≡ false → (same ≡ false) ⊎ (place ≢ size)) → ForSome source (λ r. BeginsAt (r p) 0 bytes same) → StoodThere Files at bytes old new → IsEnd whole bytes met → IsFound source p at old new met
found_end source p at bytes own place size same true old new met from own_size now whole_is other begins stood is =
    let y = whole_is refl in
    subst (IsFound source p at old new) (sym is) (bytes, ends_same source p bytes own from (sym now ∙ y.1 ∙ own_size) (subst (λ s. ForSome source (λ r. BeginsAt (r p) 0 bytes s)) y.0 begins), stood)
found_end source p at bytes own place size same false old new met from own_size now whole_is other begins stood is =
    let differs : IfSome source (λ r. r p ≢ Some (file bytes)) = elim (other refl) [
      | inl apart ↦ ends_apart source p bytes (subst (λ s. ForSome source (λ r. BeginsAt (r p) 0 bytes s)) apart begins)
      | inr short ↦ ends_short source p bytes own from (λ e. short (now ∙ e ∙ sym own_size))
    ] in
    subst (IsFound source p at old new) (sym is) (bytes, refl, differs, stood)
