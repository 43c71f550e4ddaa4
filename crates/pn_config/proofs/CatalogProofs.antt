-- Catalogs have the texts of the file.
use Rattle.std.proofs.Common.{◌≡◌, ℕ, List, Bool, true, false, Some, None, refl, sym, ap, ◌∙◌, subst, codes}
use Rattle.std.specs.Prelude.{◌&&◌, Option, MatchOption, if◌then◌else◌}
use Rattle.std.specs.Option.{option_or}
use Rattle.std.specs.Str.{bytes_eq}
use Rattle.pn_spec.specs.declared.entry.CatalogEntry.{CatalogEntry}
use Rattle.pn_spec.specs.declared.spec.Spec.{Spec}
use Rattle.pn_spec.specs.Entries.{put_in, spec_at}
use Rattle.pn_spec.specs.Forms.{IsSpec}
use Rattle.pn_spec.proofs.Puts.{put as put_law}
use Rattle.pn_yaml.specs.Data.{Data, scalar, list, map, Members, no_members, member}
use Rattle.pn_config.specs.declared.key.Key.{Key}
use Rattle.pn_config.specs.declared.key.Key.TheVariants as key
use Rattle.pn_config.specs.declared.settings.Settings.{Settings}
use Rattle.pn_config.specs.CatalogTexts.{HasTexts, each_text, entry_text, key_text, map_text, maps_text, name_text}
use Rattle.pn_config.specs.CatalogValues.{AreCatalogs, AreCatalogsOf, AreEntries, Entered, IsCatalogOf, IsEntryOf, puts}
use Rattle.pn_config.specs.Files.{ReadsOn}
use Rattle.pn_config.specs.Keys.{key_of}
use Rattle.pn_config.specs.Settings.{Takes, default_settings}
use Rattle.pn_config.specs.Values.{text_of}
use Rattle.pn_config.proofs.EntryLemmas.{puts-append}

module _ (c n : List ℕ) where
  -- the entry there is what the text says, or what it was
  abbrev Finds : Option (List ℕ) → List CatalogEntry → List CatalogEntry → Type 0
  Finds o new old = MatchOption o (spec_at c n new ≡ spec_at c n old) (λ text. (x : Spec) × IsSpec text x × (spec_at c n new ≡ Some x))

  compose : (o p : Option (List ℕ)) (new mid old : List CatalogEntry) → Finds p mid old → Finds o new mid → Finds (option_or o p) new old
  compose (Some t) p new mid old h k = k
  compose None (Some t) new mid old (x, is, at) k = (x, is, k ∙ at)
  compose None None new mid old h k = k ∙ h

  entered : (name text : List ℕ) (catalog : List ℕ) (e : CatalogEntry) (old : List CatalogEntry) → Entered catalog name text e → (here named : Bool) → bytes_eq catalog c ≡ here → bytes_eq name n ≡ named
      → Finds (if here then (if named then Some text else None) else None) (put_in e old) old
  entered name text catalog e old h here named is also = at here named (
      put_law e old c n
      ∙ ap (λ b. if b && bytes_eq e.name n then Some e.spec else spec_at c n old) (ap (λ x. bytes_eq x c) h.catalog_is ∙ is)
      ∙ ap (λ b. if here && b then Some e.spec else spec_at c n old) (ap (λ x. bytes_eq x n) h.name_is ∙ also)
      ) where
        at : (here named : Bool) → spec_at c n (put_in e old) ≡ (if here && named then Some e.spec else spec_at c n old) → Finds (if here then (if named then Some text else None) else None) (put_in e old) old
        at true true found = (e.spec, subst (λ t. IsSpec t e.spec) h.text_is h.read.read, found)
        at true false found = found
        at false named found = found

  entry : (catalog k : List ℕ) (d : Data) (e : CatalogEntry) (old : List CatalogEntry) → IsEntryOf catalog k d e
      → Finds (if bytes_eq catalog c then (if bytes_eq k n then text_of d else None) else None) (put_in e old) old
  entry catalog k (scalar text plain) e old h = entered k text catalog e old h (bytes_eq catalog c) (bytes_eq k n) refl refl
  entry catalog k (list ds) e old h = absurd h
  entry catalog k (map ms) e old h = absurd h

  nothing : (here : Bool) (new old : List CatalogEntry) → spec_at c n new ≡ spec_at c n old → Finds (if here then None else None) new old
  nothing true new old h = h
  nothing false new old h = h

  both : (here : Bool) (o p : Option (List ℕ)) (new mid old : List CatalogEntry) → Finds (if here then p else None) mid old → Finds (if here then o else None) new mid
      → Finds (if here then option_or o p else None) new old
  both true o p new mid old h k = compose o p new mid old h k
  both false o p new mid old h k = k ∙ h

  entries : (catalog : List ℕ) (ms : Members) (es old : List CatalogEntry) → AreEntries catalog ms es → Finds (if bytes_eq catalog c then name_text n ms else None) (puts es old) old
  entries catalog no_members es old h = nothing (bytes_eq catalog c) (puts es old) old (ap (λ fs. spec_at c n (puts fs old)) h)
  entries catalog (member k d ms) es old (e, rest, is, more, all) =
      let one = entry catalog k d e old is in
      let others = entries catalog ms rest (put_in e old) more in
      subst (λ fs. Finds (if bytes_eq catalog c then name_text n (member k d ms) else None) (puts fs old) old) (sym all)
      (both (bytes_eq catalog c) (name_text n ms) (if bytes_eq k n then text_of d else None) (puts rest (put_in e old)) (put_in e old) old one others)

  catalog_of : (catalog : List ℕ) (d : Data) (es old : List CatalogEntry) → IsCatalogOf catalog d es → Finds (if bytes_eq catalog c then map_text n d else None) (puts es old) old
  catalog_of catalog (scalar text plain) es old h = absurd h
  catalog_of catalog (list ds) es old h = absurd h
  catalog_of catalog (map ms) es old h = entries catalog ms es old h

  each : (ms : Members) (es old : List CatalogEntry) → AreCatalogs ms es → Finds (each_text c n ms) (puts es old) old
  each no_members es old h = ap (λ fs. spec_at c n (puts fs old)) h
  each (member catalog d ms) es old (front, rest, is, more, all) =
      let one = catalog_of catalog d front old is in
      let others = each ms rest (puts front old) more in
      subst (λ new. Finds (each_text c n (member catalog d ms)) new old) (sym (ap (λ fs. puts fs old) all ∙ puts-append front rest old))
      (compose (each_text c n ms) (if bytes_eq catalog c then map_text n d else None) (puts rest (puts front old)) (puts front old) old one others)

  catalogs_of : (d : Data) (es old : List CatalogEntry) → AreCatalogsOf d es → Finds (maps_text c n d) (puts es old) old
  catalogs_of (scalar text plain) es old h = absurd h
  catalogs_of (list ds) es old h = absurd h
  catalogs_of (map ms) es old h = each ms es old h

  takes : (y : Key) (k : List ℕ) (d : Data) (s t : Settings) → Takes y k d s t → Finds (key_text y c n d) t.catalogs s.catalogs
  takes key.Catalog k d s t h =
      subst (λ (u : Settings). Finds (key_text key.Catalog c n d) u.catalogs s.catalogs) (sym h.new_is) (catalog_of (codes "default") d h.value s.catalogs h.says)
  takes key.Catalogs k d s t h = subst (λ (u : Settings). Finds (key_text key.Catalogs c n d) u.catalogs s.catalogs) (sym h.new_is) (catalogs_of d h.value s.catalogs h.says)
  takes _ k d s t h = ap (λ (u : Settings). spec_at c n u.catalogs) h.new_is

  reads : (ms : Members) (s t : Settings) → ReadsOn s ms t → Finds (entry_text c n ms) t.catalogs s.catalogs
  reads no_members s t h = ap (λ (u : Settings). spec_at c n u.catalogs) h
  reads (member k d ms) s t (u, one, more) =
      compose (entry_text c n ms) (key_text (key_of k) c n d) t.catalogs u.catalogs s.catalogs (takes (key_of k) k d s u one) (reads ms u t more)

pub has_texts : (ms : Members) (t : Settings) → ReadsOn default_settings ms t → HasTexts ms t.catalogs
has_texts ms t h c n = reads c n ms default_settings t h
