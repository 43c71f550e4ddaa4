-- Lemmas on marks that become entries one by one.
use Rattle.std.proofs.Common.{◌≡◌, ℕ, ◌≤◌, inl, inr, List, [], ◌∷◌, ◌++◌, length, refl, sym, ap, ◌∙◌, subst, append_assoc, arith, true, false, Some}
use Rattle.std.specs.Prelude.{IsTrue, is_some, String, string_bytes, if◌then◌else◌}
use Rattle.std.specs.List.{Contains}
use Rattle.std.specs.Map.{lookup}
use Rattle.std.specs.BTreeMap.{BTreeMap, is_at}
use Rattle.std.proofs.lemmas.List.{map-append}
use Rattle.std.proofs.lemmas.List.Elements.{Contains-push_cases}
use Rattle.std.proofs.lemmas.Map.Text.{is_eq-slice_cmp, text_cmp}
use Rattle.std.proofs.lemmas.Slice.Eq.{bytes_eq-Decides}
use Rattle.pn_text.specs.Path.{Path, is_path, text_below}
use Rattle.pn_text.proofs.Members.{from_map, to_map}
use Rattle.pn_digest.specs.declared.planned.Planned.{Planned}
use Rattle.pn_draft.specs.declared.fault.DraftFault.{DraftFault}
use Rattle.pn_draft.specs.declared.fault.DraftFault.TheVariants.{TooLong, Memory}
use Rattle.pn_draft.specs.Sheets.{sheet, texts, IsWhole}
use Rattle.pn_draft.specs.Finished.{IsPathRefused, Item, placed, Finishes, FinishRefused}

-- the first marks are entries
pub record IsPartDone {A : Type 0} (marks left : List (String A × Planned)) (entries : List Item) : Type 0 where
  pub done : List (String A × Planned)
  pub split : marks ≡ done ++ left
  pub finishes : Finishes done entries

pub starts : {A : Type 0} (marks left : List (String A × Planned)) (entries : List Item) → left ≡ marks → entries ≡ [] → IsPartDone marks left entries
starts marks left entries all none = record {
  done = [];
  split = sym all;
  finishes = record {
    same = ap placed none;
    good = λ e h. absurd (omega (arith, ap length none, h.1));
    short = λ e h. absurd (omega (arith, ap length none, h.1));
  };
}

-- a text is found where an entry has it
pub found : {A : Type 0} (done : List (String A × Planned)) (e : String A × Planned) (rest : List (String A × Planned)) → is_some (lookup (is_at (text_cmp (string_bytes e.0))) (done ++ e ∷ rest)) ≡ true
found [] e rest =
    ap (λ b. is_some (if b then Some e.1 else lookup (is_at (text_cmp (string_bytes e.0))) rest)) (is_eq-slice_cmp (string_bytes e.0) (string_bytes e.0) ∙ (bytes_eq-Decides (string_bytes e.0) (string_bytes e.0)).1 refl)
found (d ∷ done) e rest = elim (is_at (text_cmp (string_bytes e.0)) d.0) as (λ b. is_some (if b then Some d.1 else lookup (is_at (text_cmp (string_bytes e.0))) (done ++ e ∷ rest)) ≡ true) [
  | true ↦ refl
  | false ↦ found done e rest
]

pub key_path : {A : Type 0} (tops : List Path) (marks : BTreeMap (String A) Planned) (done rest : List (String A × Planned)) (e : String A × Planned) → IsWhole tops (sheet marks) → marks.entries ≡ done ++ e ∷ rest
    → (q : Path) × IsTrue (is_path q) × (string_bytes e.0 ≡ text_below q)
key_path tops marks done rest e whole split = whole.keys (string_bytes e.0) (ap (λ es. is_some (lookup (is_at (text_cmp (string_bytes e.0))) es)) split ∙ found done e rest)

pub next_key : {A : Type 0} (marks : BTreeMap (String A) Planned) (left rest : List (String A × Planned)) (e : String A × Planned) (entries : List Item) → (w : (tops : List Path) × IsWhole tops (sheet marks)) → left ≡ e ∷ rest → IsPartDone marks.entries left entries
    → (q : Path) × IsTrue (is_path q) × (string_bytes e.0 ≡ text_below q)
next_key marks left rest e entries w is h = key_path w.0 marks h.done rest e w.1 (h.split ∙ ap (λ l. h.done ++ l) is)

pub one_more : {A : Type 0} (marks left rest : List (String A × Planned)) (e : String A × Planned) (entries new : List Item) (p : Item) → IsPartDone marks left entries → left ≡ e ∷ rest → new ≡ entries ++ p ∷ []
    → IsTrue (is_path p.0) → string_bytes e.0 ≡ text_below p.0 → length (string_bytes e.0) ≤ 4096 → p.1 ≡ e.1 → IsPartDone marks rest new
one_more {A} marks left rest e entries new p h is push good spelled short what = record {
  done = h.done ++ e ∷ [];
  split = h.split ∙ ap (λ l. h.done ++ l) is ∙ sym (append_assoc h.done (e ∷ []) rest);
  finishes = subst (Finishes (h.done ++ e ∷ [])) (sym push) (record {
    same = map-append (λ (x : Item). (text_below x.0, x.1)) entries (p ∷ [])
        ∙ ap (λ l. l ++ (text_below p.0, p.1) ∷ []) h.finishes.same
        ∙ ap (λ x. texts h.done ++ x ∷ []) (let a : (text_below p.0, p.1) ≡ (string_bytes e.0, e.1) = cc in a)
        ∙ sym (map-append (λ (x : String A × Planned). (string_bytes x.0, x.1)) h.done (e ∷ []));
    good = λ x k. elim (Contains-push_cases entries p x k) [ inl old ↦ h.finishes.good x old | inr same ↦ subst (λ (y : Item). IsTrue (is_path y.0)) same good ];
    short = λ x k. elim (Contains-push_cases entries p x k) [
      | inl old ↦ h.finishes.short x old
      | inr same ↦ subst (λ (y : Item). length (text_below y.0) ≤ 4096) same (omega (arith, ap length spelled, short))
    ];
  });
}

all_short : {A : Type 0} (done : List (String A × Planned)) (entries : List Item) → Finishes done entries → (e : String A × Planned) → Contains done e → length (string_bytes e.0) ≤ 4096
all_short {A} done entries h e k =
    let t : List ℕ × Planned = (string_bytes e.0, e.1) in
    let m : Contains (placed entries) t = subst (λ l. Contains l t) (sym h.same) (to_map (λ (x : String A × Planned). let p : List ℕ × Planned = (string_bytes x.0, x.1) in p) done e k) in
    let r = from_map (λ (x : Item). let p : List ℕ × Planned = (text_below x.0, x.1) in p) entries t m in
    omega (arith, ap (λ (p : List ℕ × Planned). length p.0) r.2, h.short r.0 r.1)

-- the first mark that is refused
pub first_refused : {A : Type 0} (marks left rest : List (String A × Planned)) (e : String A × Planned) (entries : List Item) (text : List ℕ) (fault : DraftFault) → IsPartDone marks left entries → left ≡ e ∷ rest
    → text ≡ string_bytes e.0 → IsPathRefused text fault → FinishRefused marks fault
first_refused marks left rest e entries text (TooLong n) h is same refused = record {
  before = h.done;
  mark = e;
  after = rest;
  split = h.split ∙ ap (λ l. h.done ++ l) is;
  size = refused.0 ∙ ap length same;
  long = omega (arith, refused.0, refused.1);
  first = λ f k. all_short h.done entries h.finishes f k;
}
first_refused marks left rest e entries text Memory h is same refused = tt
