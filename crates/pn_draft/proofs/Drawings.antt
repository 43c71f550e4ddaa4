-- Lemmas on the drawing that a draft's marks show.
use Rattle.std.proofs.Common.{◌≡◌, ℕ, inl, inr, List, [], ◌∷◌, ◌++◌, refl, sym, ap, ◌∙◌, subst, Bool, true, false, Some, None}
use Rattle.std.specs.Prelude.{Option, IsTrue, is_some, String, string_bytes, ◌||◌, if◌then◌else◌}
use Rattle.std.specs.List.{Contains}
use Rattle.std.specs.Map.{update, lookup}
use Rattle.std.specs.Str.{bytes_eq}
use Rattle.std.specs.BTreeMap.{BTreeMap, is_at}
use Rattle.std.proofs.lemmas.Map.Text.{is_eq-slice_cmp, text_cmp}
use Rattle.std.proofs.lemmas.Slice.Eq.{bytes_eq-Decides}
use Rattle.pn_text.specs.Path.{Path, same_path, is_path, text_below, SpellsParts}
use Rattle.pn_text.proofs.Paths.{same_path-Decides, same_path_refl}
use Rattle.pn_text.proofs.Bools.{or_right, or_false}
use Rattle.pn_text.proofs.Members.{none_in}
use Rattle.std.proofs.lemmas.List.Elements.{Contains-push, Contains-push_cases, Contains-append_left}
use Rattle.pn_text.proofs.Joins.{text_below-append, is_path-append}
use Rattle.pn_digest.specs.declared.planned.Planned.{Planned}
use Rattle.pn_digest.specs.declared.planned.Planned.TheVariants.{Folder}
use Rattle.pn_draft.specs.Drawing.{Drawing, mark_at, drawn, is_top, AreApart, bare, is_below, is_within, with_leaf, IsPart}
use Rattle.pn_draft.specs.Sheets.{Sheet, marked, sheet, texts, IsBare, IsWhole, IsUnder, Draws, DrawsPart}
use Rattle.pn_draft.proofs.Marked.{marked_update}
use Rattle.pn_draft.proofs.TopLemmas.{any_of, one_of}

-- the entries under their texts are looked up like the map's
texts_lookup : {A : Type 0} (es : List (String A × Planned)) (text : List ℕ) → mark_at (texts es) text ≡ lookup (is_at (text_cmp text)) es
texts_lookup [] text = refl
texts_lookup (e ∷ es) text =
    ap (λ b. if b then Some e.1 else mark_at (texts es) text) (sym (is_eq-slice_cmp text (string_bytes e.0))) ∙ ap (λ o. if is_at (text_cmp text) e.0 then Some e.1 else o) (texts_lookup es text)

pub drawn_marks : {A : Type 0} (tops : List Path) (marks : BTreeMap (String A) Planned) (q : Path) → drawn (record { tops = tops; marks = texts marks.entries }) q ≡ marked (sheet marks) q
drawn_marks tops marks q = ap (λ o. if is_path q then o else None) (texts_lookup marks.entries (text_below q))

pub empty_sheet : {A : Type 0} (marks : BTreeMap (String A) Planned) → marks.entries ≡ [] → sheet marks ≡ (λ text. None)
empty_sheet marks h = λ i text. ap (λ es. lookup (is_at (text_cmp text)) es) h i

either : (b : Bool) (o : Option Planned) → (if b then o else o) ≡ o
either true o = refl
either false o = refl

none_marked : (q : Path) → marked (λ text. None) q ≡ None
none_marked q = either (is_path q) None

pub starts_bare : (g : Sheet) → g ≡ (λ text. None) → IsBare [] g
starts_bare g none = record {
  good = λ m c. absurd (none_in m c);
  keys = λ text some. let clash : false ≡ true = sym (ap (λ h. is_some (h text)) none) ∙ some in cc;
  drawn = λ q. ap (λ h. marked h q) none ∙ none_marked q;
}

top_push : (tops : List Path) (m q : Path) → is_top (tops ++ m ∷ []) q ≡ (is_top tops q || same_path m q)
top_push [] m q = or_false (same_path m q)
top_push (t ∷ tops) m q = ap (λ b. same_path t q || b) (top_push tops m q) ∙ sym (or_assoc (same_path t q) (is_top tops q) (same_path m q)) where
  or_assoc : (a b c : Bool) → ((a || b) || c) ≡ (a || (b || c))
  or_assoc true b c = refl
  or_assoc false b c = refl

one_more_top : (a b : Bool) → (if b then Some Folder else if a then Some Folder else None) ≡ (if a || b then Some Folder else None)
one_more_top true true = refl
one_more_top true false = refl
one_more_top false true = refl
one_more_top false false = refl

-- one more folder is marked
pub more_bare : (tops : List Path) (g h : Sheet) (m : Path) (text : List ℕ) → IsBare tops g → IsTrue (is_path m) → text ≡ text_below m → ((cs : List ℕ) → h cs ≡ update bytes_eq g text (Some Folder) cs) → IsBare (tops ++ m ∷ []) h
more_bare tops g h m text bare_g good is last =
    let same : h ≡ update bytes_eq g (text_below m) (Some Folder) = (λ i cs. last cs i) ∙ ap (λ t. update bytes_eq g t (Some Folder)) is in
    subst (IsBare (tops ++ m ∷ [])) (sym same) (record {
      good = λ k c. elim (Contains-push_cases tops m k c) [ inl old ↦ bare_g.good k old | inr e ↦ subst (λ p. IsTrue (is_path p)) e good ];
      keys = λ t some. elim (bytes_eq (text_below m) t) as (λ b. bytes_eq (text_below m) t ≡ b → is_some (if b then Some Folder else g t) ≡ true → (k : Path) × Contains (tops ++ m ∷ []) k × (t ≡ text_below k)) [
        | true ↦ λ same some. (m, Contains-push tops m, sym ((bytes_eq-Decides (text_below m) t).0 same))
        | false ↦ λ other some. let k = bare_g.keys t some in (k.0, Contains-append_left tops (m ∷ []) k.0 k.1, k.2)
      ] refl some;
      drawn = λ q. marked_update g m Folder q good ∙ ap (λ o. if same_path m q then Some Folder else o) (bare_g.drawn q) ∙ one_more_top (is_top tops q) (same_path m q) ∙ ap (λ b. if b then Some Folder else None) (sym (top_push tops m q));
    })

some_top : (tops : List Path) (q : Path) → is_some (bare tops q) ≡ true → Contains tops q
some_top tops q h = elim (is_top tops q) as (λ b. is_top tops q ≡ b → is_some (if b then Some Folder else None) ≡ true → Contains tops q) [
  | true ↦ λ is h. let k = one_of (λ m. same_path m q) tops is in subst (Contains tops) ((same_path-Decides k.0 q).0 k.2) k.1
  | false ↦ λ other h. cc
] refl h

pub first_whole : (tops : List Path) (h : Sheet) → AreApart tops → IsBare tops h → IsWhole tops h
first_whole tops h apart b = record {
  apart = apart;
  good = b.good;
  root = λ m c. ap is_some (b.drawn m ∙ ap (λ s. if s then Some Folder else None) (any_of (λ k. same_path k m) tops m c (same_path_refl m)));
  keys = λ text some. let k = b.keys text some in (k.0, b.good k.0 k.1, k.2);
  parents = λ x q some. inl (some_top tops (x ∷ q) (ap is_some (sym (b.drawn (x ∷ q))) ∙ some));
}

pub first_drawn : {A : Type 0} (tops : List Path) (marks : BTreeMap (String A) Planned) → IsBare tops (sheet marks) → (q : Path) → drawn (record { tops = tops; marks = texts marks.entries }) q ≡ bare tops q
first_drawn tops marks b q = drawn_marks tops marks q ∙ b.drawn q

-- a drawing with one more path, as the marks show it
pub shows : {A : Type 0} (tops : List Path) (old new : BTreeMap (String A) Planned) (d : Drawing) (p : Path) (w : Planned) → record { tops = tops; marks = texts old.entries } ≡ d → Draws tops p w (sheet old) (sheet new)
    → (q : Path) → drawn (record { tops = tops; marks = texts new.entries }) q ≡ with_leaf d.tops (drawn d) p w q
shows tops old new d p w is h q =
    subst (λ (e : Drawing). drawn (record { tops = tops; marks = texts new.entries }) q ≡ with_leaf e.tops (drawn e) p w q) is
    (drawn_marks tops new q ∙ h.drawn q ∙ ap (λ (f : Path → Option Planned). with_leaf tops f p w q) (λ i r. sym (drawn_marks tops old r) i))

pub shows_part : {A : Type 0} (tops : List Path) (old new : BTreeMap (String A) Planned) (d : Drawing) (p : Path) (w : Planned) → record { tops = tops; marks = texts old.entries } ≡ d → DrawsPart tops p w (sheet old) (sheet new)
    → IsPart (drawn d) (with_leaf d.tops (drawn d) p w) (drawn (record { tops = tops; marks = texts new.entries }))
shows_part tops old new d p w is h =
    subst (λ (e : Drawing). IsPart (drawn e) (with_leaf e.tops (drawn e) p w) (drawn (record { tops = tops; marks = texts new.entries }))) is
    (subst (λ (f : Path → Option Planned). IsPart f (with_leaf tops f p w) (drawn (record { tops = tops; marks = texts new.entries }))) (λ i r. sym (drawn_marks tops old r) i)
    (subst (IsPart (marked (sheet old)) (with_leaf tops (marked (sheet old)) p w)) (λ i r. sym (drawn_marks tops new r) i) h.drawn))

below_append : (m folder t : Path) (x : List ℕ) → is_within m folder ≡ true → is_below m (x ∷ (t ++ folder)) ≡ true
below_append m folder [] x h = h
below_append m folder (y ∷ t) x h = or_right (same_path (y ∷ (t ++ folder)) m) (is_below m (y ∷ (t ++ folder))) (below_append m folder t y h)

-- where a tail's text is, once the folder's and a slash stand before it
pub record IsPlaced (m p : Path) (text : List ℕ) : Type 0 where
  pub good : IsTrue (is_path p)
  pub spelled : text ≡ text_below p
  pub below : is_below m p ≡ true

pub placed : (m folder t : Path) (text tail : List ℕ) → IsTrue (is_path folder) → is_within m folder ≡ true → text ≡ text_below folder ++ 47 ∷ tail → SpellsParts tail t → IsPlaced m (t ++ folder) text
placed m folder [] text tail good within is h = cc (h.spelled)
placed m folder (x ∷ t) text tail good within is h = record {
  good = is_path-append (x ∷ t) folder h.good good;
  spelled = is ∙ ap (λ r. text_below folder ++ r) h.spelled ∙ sym (text_below-append (x ∷ t) folder);
  below = below_append m folder t x within;
}

pub under : (tops : List Path) (m p : Path) (g : Sheet) (text : List ℕ) → IsWhole tops g → Contains tops m → IsPlaced m p text → IsUnder g text
under tops m p g text whole c h = record { top = m; path = p; good = h.good; spelled = h.spelled; below = h.below; marked = whole.root m c }
