-- Entries of catalogs, one after the other.
use Rattle.std.proofs.Common.{◌≡◌, ℕ, ◌<◌, ◌≤◌, ◌+◌, List, [], ◌∷◌, ◌++◌, length, drop, get_or, refl, sym, ap, ◌∙◌, subst, inr}
use Rattle.pn_spec.specs.declared.entry.CatalogEntry.{CatalogEntry}
use Rattle.pn_spec.specs.declared.fault.SpecFault.{SpecFault}
use Rattle.pn_spec.specs.declared.fault.SpecFault.TheVariants as spec
use Rattle.pn_spec.specs.Entries.{IsNoEntry, put_in}
use Rattle.pn_spec.specs.Refusals.{Refuses}
use Rattle.pn_yaml.specs.View.{view, members_view}
use Rattle.pn_yaml.specs.declared.node.Node.{Node}
use Rattle.pn_yaml.specs.declared.node.Node.TheVariants as node
use Rattle.pn_yaml.specs.declared.node.Scalar.{Scalar}
use Rattle.pn_yaml.proofs.NodeViews.{view-Scalar}
use Rattle.pn_config.specs.CatalogValues.{AreCatalogs, AreEntries, IsBadEntry, IsCatalogOf, IsEntryOf, puts}
use Rattle.pn_config.proofs.MemberLemmas.{members_at, members_end}

pub bad_text : (key : List ℕ) (n : Node) (s : Scalar) (text : List ℕ) (e : SpecFault) → n ≡ node.Scalar s → text ≡ s.text → e ≡ spec.Unsupported → Refuses (IsNoEntry text) e → IsBadEntry key (view n)
bad_text key n s text e is same un h =
    let none : IsNoEntry text = subst (Refuses (IsNoEntry text)) un h in
    let bad : IsNoEntry s.text = subst IsNoEntry same none in
    subst (IsBadEntry key) (sym (ap view is ∙ view-Scalar s)) (inr bad)

pub puts-append : (es fs into : List CatalogEntry) → puts (es ++ fs) into ≡ puts fs (puts es into)
puts-append [] fs into = refl
puts-append (e ∷ es) fs into = puts-append es fs (put_in e into)

module _ (catalog : List ℕ) (ms : List (List ℕ × Node)) (from : List CatalogEntry) where
  -- what is left leads from the catalogs so far to the whole
  abbrev pub EntriesLeft : ℕ → List CatalogEntry → Type 0
  EntriesLeft i now = (rest : List CatalogEntry) → AreEntries catalog (members_view (drop i ms)) rest
      → (es : List CatalogEntry) × AreEntries catalog (members_view ms) es × (puts es from ≡ puts rest now)

  pub entries_more : (i : ℕ) (m : List ℕ × Node) (key : List ℕ) (old new : List CatalogEntry) → i < length ms → m ≡ get_or ms i m → key ≡ m.0
      → (e : CatalogEntry) × IsEntryOf catalog key (view m.1) e × (new ≡ put_in e old) → EntriesLeft i old → EntriesLeft (i + 1) new
  entries_more i m key old new l at same (e, is, put) left = λ rest h.
      let one = subst (λ k. IsEntryOf catalog k (view m.1) e) same is in
      let r = left (e ∷ rest) (subst (λ v. AreEntries catalog v (e ∷ rest)) (sym (members_at ms i m l at)) (e, rest, one, h, refl)) in
      (r.0, r.1, r.2 ∙ ap (puts rest) (sym put))

  pub entries_end : (i : ℕ) (now : List CatalogEntry) → length ms ≤ i → EntriesLeft i now → (es : List CatalogEntry) × AreEntries catalog (members_view ms) es × (now ≡ puts es from)
  entries_end i now l left = let r = left [] (subst (λ v. AreEntries catalog v []) (sym (members_end ms i l)) refl) in (r.0, r.1, sym r.2)

module _ (ms : List (List ℕ × Node)) (from : List CatalogEntry) where
  abbrev pub CatalogsLeft : ℕ → List CatalogEntry → Type 0
  CatalogsLeft i now = (rest : List CatalogEntry) → AreCatalogs (members_view (drop i ms)) rest
      → (es : List CatalogEntry) × AreCatalogs (members_view ms) es × (puts es from ≡ puts rest now)

  pub catalogs_more : (i : ℕ) (m : List ℕ × Node) (key : List ℕ) (old new : List CatalogEntry) → i < length ms → m ≡ get_or ms i m → key ≡ m.0
      → (es : List CatalogEntry) × IsCatalogOf key (view m.1) es × (new ≡ puts es old) → CatalogsLeft i old → CatalogsLeft (i + 1) new
  catalogs_more i m key old new l at same (front, is, put) left = λ rest h.
      let one = subst (λ k. IsCatalogOf k (view m.1) front) same is in
      let r = left (front ++ rest) (subst (λ v. AreCatalogs v (front ++ rest)) (sym (members_at ms i m l at)) (front, rest, one, h, refl)) in
      (r.0, r.1, r.2 ∙ puts-append front rest old ∙ ap (puts rest) (sym put))

  pub catalogs_end : (i : ℕ) (now : List CatalogEntry) → length ms ≤ i → CatalogsLeft i now → (es : List CatalogEntry) × AreCatalogs (members_view ms) es × (now ≡ puts es from)
  catalogs_end i now l left = let r = left [] (subst (λ v. AreCatalogs v []) (sym (members_end ms i l)) refl) in (r.0, r.1, sym r.2)
