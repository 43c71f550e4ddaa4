-- A file has one answer.
use Rattle.std.proofs.Common.{◌≡◌, ℕ, List, ◌∷◌, ◌++◌, Some, None, refl, sym, ap, ◌∙◌, subst, inl, inr}
use Rattle.std.specs.Prelude.{Option}
use Rattle.pn_glob.specs.declared.kind.Kind.TheVariants.{Paths, Names}
use Rattle.pn_glob.specs.Lists.{AreNames, ArePaths, Refused}
use Rattle.pn_glob.specs.Matching.{Patterns}
use Rattle.pn_glob.proofs.Settled.{settled}
use Rattle.pn_spec.specs.declared.entry.CatalogEntry.{CatalogEntry}
use Rattle.pn_spec.specs.Forms.{IsSpec}
use Rattle.pn_spec.proofs.OneReading.{readings}
use Rattle.pn_text.proofs.Bools.{true_false}
use Rattle.pn_yaml.specs.Data.{Data, scalar, list, map, Members, no_members, member}
use Rattle.pn_config.specs.declared.key.Key.{Key}
use Rattle.pn_config.specs.declared.key.Key.TheVariants as key
use Rattle.pn_config.specs.declared.settings.Settings.{Settings}
use Rattle.pn_config.specs.CatalogValues.{AreCatalogs, AreCatalogsOf, AreEntries, AreNoCatalogs, Entered, HasBadCatalog, HasBadEntry, IsBadEntry, IsCatalogOf, IsEntryOf, IsNoCatalog}
use Rattle.pn_config.specs.Files.{FirstBad, NamesBad, ReadsFile, ReadsOn, config_of}
use Rattle.pn_config.specs.Keys.{key_of}
use Rattle.pn_config.specs.Laws.{AnswerLaw}
use Rattle.pn_config.specs.Settings.{IsBad, Says, SaysNames, SaysNoNames, SaysNoPaths, SaysNothing, SaysPaths, Takes, Value, default_settings, put}
use Rattle.pn_config.specs.Values.{texts_of}

some_one : {A : Type 0} (x y : A) (o : Option A) → o ≡ Some x → o ≡ Some y → x ≡ y
some_one x y o h k = cc

not_both : {A : Type 0} (x : A) (o : Option A) → o ≡ Some x → o ≡ None → ⊥
not_both x o h k = cc

paths_one : (d : Data) (l m : Patterns) → SaysPaths d l → SaysPaths d m → l ≡ m
paths_one d l m (ts, is, h) (us, other, k) = settled.paths ts l m h (subst (λ (v : List (List ℕ)). ArePaths v m) (some_one us ts (texts_of d) other is) k)

names_one : (d : Data) (l m : Patterns) → SaysNames d l → SaysNames d m → l ≡ m
names_one d l m (ts, is, h) (us, other, k) = settled.names ts l m h (subst (λ (v : List (List ℕ)). AreNames v m) (some_one us ts (texts_of d) other is) k)

paths_apart : (d : Data) (l : Patterns) → SaysPaths d l → SaysNoPaths d → ⊥
paths_apart d l (ts, is, h) (inl none) = not_both ts (texts_of d) is none
paths_apart d l (ts, is, h) (inr (us, e, other, some, bad)) = settled.unread Paths ts l.positive l.negative e some (subst (λ v. Refused Paths v e) (some_one us ts (texts_of d) other is) bad) h.read

names_apart : (d : Data) (l : Patterns) → SaysNames d l → SaysNoNames d → ⊥
names_apart d l (ts, is, h) (inl none) = not_both ts (texts_of d) is none
names_apart d l (ts, is, h) (inr (us, e, other, some, bad)) = settled.unread Names ts h.written l.negative e some (subst (λ v. Refused Names v e) (some_one us ts (texts_of d) other is) bad) h.read

same_entry : (e f : CatalogEntry) → e.catalog ≡ f.catalog → e.name ≡ f.name → e.text ≡ f.text → e.spec ≡ f.spec → e ≡ f
same_entry e f a b c d = λ i. record { catalog = a i; name = b i; text = c i; spec = d i }

entered_one : (c n t : List ℕ) (e f : CatalogEntry) → Entered c n t e → Entered c n t f → e ≡ f
entered_one c n t e f h k =
    same_entry e f (h.catalog_is ∙ sym k.catalog_is) (h.name_is ∙ sym k.name_is) (h.text_is ∙ sym k.text_is)
    (readings.one t e.spec f.spec (subst (λ x. IsSpec x e.spec) h.text_is h.read.read) (subst (λ x. IsSpec x f.spec) k.text_is k.read.read))

entry_one : (c k : List ℕ) (d : Data) (e f : CatalogEntry) → IsEntryOf c k d e → IsEntryOf c k d f → e ≡ f
entry_one c k (scalar text plain) e f h j = entered_one c k text e f h j
entry_one c k (list ds) e f h j = absurd h
entry_one c k (map ms) e f h j = absurd h

entries_one : (c : List ℕ) (ms : Members) (es fs : List CatalogEntry) → AreEntries c ms es → AreEntries c ms fs → es ≡ fs
entries_one c no_members es fs h k = h ∙ sym k
entries_one c (member n d ms) es fs (e, rest, is, more, all) (f, rest', is', more', all') =
    all ∙ ap (λ x. x ∷ rest) (entry_one c n d e f is is') ∙ ap (λ r. f ∷ r) (entries_one c ms rest rest' more more') ∙ sym all'

catalog_one : (c : List ℕ) (d : Data) (es fs : List CatalogEntry) → IsCatalogOf c d es → IsCatalogOf c d fs → es ≡ fs
catalog_one c (scalar text plain) es fs h k = absurd h
catalog_one c (list ds) es fs h k = absurd h
catalog_one c (map ms) es fs h k = entries_one c ms es fs h k

each_one : (ms : Members) (es fs : List CatalogEntry) → AreCatalogs ms es → AreCatalogs ms fs → es ≡ fs
each_one no_members es fs h k = h ∙ sym k
each_one (member c d ms) es fs (front, rest, is, more, all) (front', rest', is', more', all') =
    all ∙ ap (λ x. x ++ rest) (catalog_one c d front front' is is') ∙ ap (λ r. front' ++ r) (each_one ms rest rest' more more') ∙ sym all'

catalogs_one : (d : Data) (es fs : List CatalogEntry) → AreCatalogsOf d es → AreCatalogsOf d fs → es ≡ fs
catalogs_one (scalar text plain) es fs h k = absurd h
catalogs_one (list ds) es fs h k = absurd h
catalogs_one (map ms) es fs h k = each_one ms es fs h k

entry_apart : (c k : List ℕ) (d : Data) (e : CatalogEntry) → IsEntryOf c k d e → IsBadEntry k d → ⊥
entry_apart c k (scalar text plain) e h (inl none) = true_false _ h.named none
entry_apart c k (scalar text plain) e h (inr none) = readings.entry text e.spec none (subst (λ x. IsSpec x e.spec) h.text_is h.read.read) h.read.form
entry_apart c k (list ds) e h bad = h
entry_apart c k (map ms) e h bad = h

entries_apart : (c : List ℕ) (ms : Members) (es : List CatalogEntry) → AreEntries c ms es → HasBadEntry ms → ⊥
entries_apart c no_members es h bad = bad
entries_apart c (member k d ms) es (e, rest, is, more, all) (inl bad) = entry_apart c k d e is bad
entries_apart c (member k d ms) es (e, rest, is, more, all) (inr bad) = entries_apart c ms rest more bad

catalog_apart : (c : List ℕ) (d : Data) (es : List CatalogEntry) → IsCatalogOf c d es → IsNoCatalog d → ⊥
catalog_apart c (scalar text plain) es h bad = h
catalog_apart c (list ds) es h bad = h
catalog_apart c (map ms) es h bad = entries_apart c ms es h bad

each_apart : (ms : Members) (es : List CatalogEntry) → AreCatalogs ms es → HasBadCatalog ms → ⊥
each_apart no_members es h bad = bad
each_apart (member c d ms) es (front, rest, is, more, all) (inl bad) = catalog_apart c d front is bad
each_apart (member c d ms) es (front, rest, is, more, all) (inr bad) = each_apart ms rest more bad

catalogs_apart : (d : Data) (es : List CatalogEntry) → AreCatalogsOf d es → AreNoCatalogs d → ⊥
catalogs_apart (scalar text plain) es h bad = h
catalogs_apart (list ds) es h bad = h
catalogs_apart (map ms) es h bad = each_apart ms es h bad

-- a value says one thing under a key
says_one : (key : Key) (k : List ℕ) (d : Data) (v w : Value key) → Says key k d v → Says key k d w → v ≡ w
says_one key.Packages k d v w h j = paths_one d v w h j
says_one key.Catalog k d v w h j = catalog_one _ d v w h j
says_one key.Catalogs k d v w h j = catalogs_one d v w h j
says_one key.Overrides k d v w h j = some_one v w _ h j
says_one key.AutoInstallPeers k d v w h j = some_one v w _ h j
says_one key.StrictPeerDependencies k d v w h j = some_one v w _ h j
says_one key.ResolvePeersFromWorkspaceRoot k d v w h j = some_one v w _ h j
says_one key.Hoist k d v w h j = some_one v w _ h j
says_one key.HoistPattern k d v w h j = names_one d v w h j
says_one key.PublicHoistPattern k d v w h j = names_one d v w h j
says_one key.ShamefullyHoist k d v w h j = some_one v w _ h j
says_one key.VirtualStoreDir k d v w h j = some_one v w _ h j
says_one key.Other k d v w h j = refl

-- and not also nothing
says_apart : (key : Key) (k : List ℕ) (d : Data) (v : Value key) → Says key k d v → SaysNothing key k d → ⊥
says_apart key.Packages k d v h j = paths_apart d v h j
says_apart key.Catalog k d v h j = catalog_apart _ d v h j
says_apart key.Catalogs k d v h j = catalogs_apart d v h j
says_apart key.Overrides k d v h j = not_both v _ h j
says_apart key.AutoInstallPeers k d v h j = not_both v _ h j
says_apart key.StrictPeerDependencies k d v h j = not_both v _ h j
says_apart key.ResolvePeersFromWorkspaceRoot k d v h j = not_both v _ h j
says_apart key.Hoist k d v h j = not_both v _ h j
says_apart key.HoistPattern k d v h j = names_apart d v h j
says_apart key.PublicHoistPattern k d v h j = names_apart d v h j
says_apart key.ShamefullyHoist k d v h j = not_both v _ h j
says_apart key.VirtualStoreDir k d v h j = not_both v _ h j
says_apart key.Other k d v h j = true_false _ h j

takes_one : (key : Key) (k : List ℕ) (d : Data) (s t u : Settings) → Takes key k d s t → Takes key k d s u → t ≡ u
takes_one key k d s t u h j = h.new_is ∙ ap (λ v. put key d v s) (says_one key k d h.value j.value h.says j.says) ∙ sym j.new_is

takes_apart : (key : Key) (k : List ℕ) (d : Data) (s t : Settings) → Takes key k d s t → IsBad key k d s → ⊥
takes_apart key k d s t h (inl bad) = says_apart key k d h.value h.says bad
takes_apart key k d s t h (inr bad) = true_false _ bad h.once

reads_one : (ms : Members) (s t u : Settings) → ReadsOn s ms t → ReadsOn s ms u → t ≡ u
reads_one no_members s t u h k = h ∙ sym k
reads_one (member n d ms) s t u (a, one, more) (b, two, rest) = reads_one ms a t u more (subst (λ x. ReadsOn x ms u) (takes_one (key_of n) n d s b a two one) rest)

reads_apart : (ms : Members) (s t : Settings) (k : List ℕ) → ReadsOn s ms t → FirstBad s ms k → ⊥
reads_apart no_members s t k h bad = bad
reads_apart (member n d ms) s t k (a, one, more) (inl (bad, is)) = takes_apart (key_of n) n d s a one bad
reads_apart (member n d ms) s t k (a, one, more) (inr (b, two, bad)) = reads_apart ms a t k more (subst (λ x. FirstBad x ms k) (takes_one (key_of n) n d s b a two one) bad)

first_one : (ms : Members) (s : Settings) (k l : List ℕ) → FirstBad s ms k → FirstBad s ms l → k ≡ l
first_one no_members s k l h j = absurd h
first_one (member n d ms) s k l (inl (bad, is)) (inl (worse, also)) = is ∙ sym also
first_one (member n d ms) s k l (inl (bad, is)) (inr (b, two, rest)) = absurd (takes_apart (key_of n) n d s b two bad)
first_one (member n d ms) s k l (inr (a, one, rest)) (inl (bad, is)) = absurd (takes_apart (key_of n) n d s a one bad)
first_one (member n d ms) s k l (inr (a, one, more)) (inr (b, two, rest)) = first_one ms a k l more (subst (λ x. FirstBad x ms l) (takes_one (key_of n) n d s b a two one) rest)

file_one : (file : Option Data) (s t : Settings) → ReadsFile file s → ReadsFile file t → s ≡ t
file_one None s t h k = h ∙ sym k
file_one (Some (scalar text plain)) s t h k = absurd h
file_one (Some (list ds)) s t h k = absurd h
file_one (Some (map ms)) s t h k = reads_one ms default_settings s t h k

file_apart : (file : Option Data) (s : Settings) (k : List ℕ) → ReadsFile file s → NamesBad file k → ⊥
file_apart None s k h bad = bad
file_apart (Some (scalar text plain)) s k h bad = h
file_apart (Some (list ds)) s k h bad = h
file_apart (Some (map ms)) s k h bad = reads_apart ms default_settings s k h bad

named_one : (file : Option Data) (k l : List ℕ) → NamesBad file k → NamesBad file l → k ≡ l
named_one None k l h j = absurd h
named_one (Some (scalar text plain)) k l h j = h ∙ sym j
named_one (Some (list ds)) k l h j = h ∙ sym j
named_one (Some (map ms)) k l h j = first_one ms default_settings k l h j

pub answer : AnswerLaw
answer = record {
  value = λ file root c e h k. h.2 ∙ ap (config_of root) (file_one file h.0 k.0 h.1 k.1) ∙ sym k.2;
  named = named_one;
  either = λ file root c k h bad. file_apart file h.0 k h.1 bad;
}
