-- What the manifest of a package was read from.
use Rattle.std.proofs.Common.{◌≡◌, ◌≤◌, ℕ, List, refl, sym, ap, ◌∙◌, subst, Some, None, Ok, Err, true, false}
use Rattle.std.specs.Prelude.{Bool, Option, Result, IfOk, IfErr, IfSome, option_map, option_and_then, codes, is_some, length}
use Rattle.std.specs.Str.{bytes_eq}
use Rattle.serde_json.specs.Data.{Data, null, boolean, number, string, array, object}
use Rattle.semver.specs.Parse.{Parts, version_parts}
use Rattle.semver.specs.Identifiers.{parts_of}
use Rattle.semver.specs.declared.error.Error.{Error}
use Rattle.semver.proofs.Grammar.{version_parts-sound}
use Rattle.pn_text.specs.Ids.{id_name, id_version, ok_of, parts_text, is_version}
use Rattle.pn_text.specs.Path.{Path}
use Rattle.pn_text.specs.Name.{is_name}
use Rattle.pn_fs.specs.Tree.{Entry, Tree, file}
use Rattle.pn_fs.specs.Seen.{Seen}
use Rattle.pn_manifest.specs.Fields.{Spot, or_else, field, wrong_text, text_field, first_wrong, name_of, said}
use Rattle.pn_manifest.specs.Text.{IsObjectText}
use Rattle.pn_manifest.specs.Refusals.{WrongBytes}
use Rattle.pn_manifest.specs.Said.{Said}
use Rattle.pn_manifest.specs.Says.{Reads, said_of}
use Rattle.pn_manifest.specs.declared.manifest.Manifest.{Manifest}
use Rattle.pn_manifest.specs.declared.fault.ManifestWhy.{ManifestWhy}
use Rattle.pn_manifest.specs.declared.fault.ManifestWhy.TheVariants.{Missing, NotJson, BadField}
use Rattle.pn_registry.specs.Places.{Id, manifest_path}
use Rattle.pn_registry.specs.Package.{text_limit, unless, states, other_of, first_wrong_of, has_text, stated_other, IsRead, IsFound}
use Rattle.pn_registry.specs.PackageFaults.{PackageRefused, TextRefused, IsOther, WrongFile, WrongText}
use Rattle.pn_registry.specs.declared.package.PackageFault.{PackageFault}
use Rattle.pn_registry.specs.declared.package.PackageFault.TheVariants.{Wrong, TooLarge, Fault, Memory}

-- a version that was read has the text that it was read from
read_same : (s text : List ℕ) (r : Result Parts Error) (v : Option Parts) → version_parts s ≡ r → is_some (ok_of r) ≡ true → v ≡ ok_of r → has_text v text ≡ bytes_eq s text
read_same s text (Ok p) v is some e = ap (λ o. has_text o text) e ∙ ap (λ x. bytes_eq x text) (version_parts-sound s p is).0
read_same s text (Err e') v is some e = cc some

passed : (b : Bool) (key : List ℕ) → unless b key ≡ None → b ≡ true
passed true key h = refl
passed false key h = cc h

field_same : (f : Option Data) (v : Option Parts) (text : List ℕ) → wrong_text (codes "version") is_version f ≡ None → v ≡ option_and_then parts_text (text_field f) → has_text v text ≡ states (text_field f) text
field_same None v text right e = ap (λ o. has_text o text) e
field_same (Some null) v text right e = cc right
field_same (Some (boolean b)) v text right e = cc right
field_same (Some (number n)) v text right e = cc right
field_same (Some (string s)) v text right e = read_same s text (version_parts s) v refl (passed (is_version s) (codes "version") right) e
field_same (Some (array ds)) v text right e = cc right
field_same (Some (object ms)) v text right e = cc right

-- the parts of a choice that gave nothing
none_then : (a b : Option Spot) → or_else a b ≡ None → (a ≡ None) × (b ≡ None)
none_then None b h = (refl, h)
none_then (Some x) b h = cc h

version_right : (d : Data) → first_wrong d ≡ None → wrong_text (codes "version") is_version (field (codes "version") d) ≡ None
version_right d h =
    (none_then (wrong_text (codes "version") is_version (field (codes "version") d)) _
    (none_then (wrong_text (codes "name") is_name (field (codes "name") d)) _ h).1).0

-- what the manifest states is what its text states
other_is : (id : Id) (d : Data) (m : Manifest) → first_wrong d ≡ None → said_of m ≡ said d → stated_other id m.name (option_map parts_of m.version) ≡ other_of id d
other_is id d m right says =
    ap (λ n. or_else (unless (states n (id_name id)) (codes "name")) (unless (has_text (option_map parts_of m.version) (id_version id)) (codes "version"))) (ap (λ (s : Said). s.name) says)
    ∙ ap (λ b. or_else (unless (states (name_of d) (id_name id)) (codes "name")) (unless b (codes "version"))) (field_same (field (codes "version") d) (option_map parts_of m.version) (id_version id) (version_right d right) (ap (λ (s : Said). s.version) says))

wrong_is : (id : Id) (d : Data) (m : Manifest) → first_wrong d ≡ None → said_of m ≡ said d → first_wrong_of id d ≡ stated_other id m.name (option_map parts_of m.version)
wrong_is id d m right says = ap (λ w. or_else w (other_of id d)) right ∙ sym (other_is id d m right says)

-- where it states another name or version
pub other_refused : (id : Id) (bytes : List ℕ) (m : Manifest) (e : PackageFault) → Reads bytes m → IsOther (stated_other id m.name (option_map parts_of m.version)) e → TextRefused id bytes e
other_refused id bytes m (Wrong Missing) r h = h
other_refused id bytes m (Wrong NotJson) r h = absurd h
other_refused id bytes m (Wrong (BadField f k)) r h = (r.value, r.text, wrong_is id r.value m r.right r.says ∙ h)
other_refused id bytes m (TooLarge n) r h = h
other_refused id bytes m Fault r h = h
other_refused id bytes m Memory r h = tt

pub own_read : (id : Id) (bytes : List ℕ) (m : Manifest) → Reads bytes m → stated_other id m.name (option_map parts_of m.version) ≡ None → (d : Data) × IsObjectText bytes d × IsRead id d m
own_read id bytes m r h = (r.value, r.text, record { right = wrong_is id r.value m r.right r.says ∙ h; says = r.says })

-- what was wrong before that
pub bytes_refused : (id : Id) (bytes : List ℕ) (why : ManifestWhy) → WrongBytes bytes why → TextRefused id bytes (Wrong why)
bytes_refused id bytes Missing h = h
bytes_refused id bytes NotJson h = h
bytes_refused id bytes (BadField f k) h = (h.0, h.1, ap (λ w. or_else w (other_of id h.0)) h.2)

-- the file's bytes in the tree
pub found_ok : (tree : Option Tree) (id : Id) (p : Path) (bytes items : List ℕ) (r : Result Manifest PackageFault) → p ≡ manifest_path id
    → IfSome tree (λ t. t p ≡ Some (file items)) → length items ≤ text_limit → bytes ≡ items
    → IfOk r (λ m. (d : Data) × IsObjectText bytes d × IsRead id d m) → IfSome tree (λ t. IfOk r (IsFound id (t (manifest_path id))))
found_ok None id p bytes items r at told short same h = tt
found_ok (Some t) id p bytes items (Err e) at told short same h = tt
found_ok (Some t) id p bytes items (Ok m) at told short same h = record {
  value = h.0;
  text = record { bytes = bytes; is = ap t (sym at) ∙ told ∙ ap (λ b. Some (file b)) (sym same); short = subst (λ b. length b ≤ text_limit) (sym same) short; text = h.1 };
  read = h.2;
}

wrong_there : (id : Id) (bytes items : List ℕ) (entry : Option Entry) (why : ManifestWhy) → entry ≡ Some (file items) → length items ≤ text_limit → bytes ≡ items → WrongText id bytes why → WrongFile id entry why
wrong_there id bytes items entry Missing told short same h = absurd h
wrong_there id bytes items entry NotJson told short same h =
    record { bytes = bytes; is = told ∙ ap (λ b. Some (file b)) (sym same); short = subst (λ b. length b ≤ text_limit) (sym same) short; none = h }
wrong_there id bytes items entry (BadField f k) told short same h = record {
  value = h.0;
  text = record { bytes = bytes; is = told ∙ ap (λ b. Some (file b)) (sym same); short = subst (λ b. length b ≤ text_limit) (sym same) short; text = h.1 };
  wrong = h.2;
}

wrong_told : (tree : Option Tree) (id : Id) (p : Path) (bytes items : List ℕ) (why : ManifestWhy) → p ≡ manifest_path id → IfSome tree (λ t. t p ≡ Some (file items)) → length items ≤ text_limit → bytes ≡ items
    → WrongText id bytes why → IfSome tree (λ t. WrongFile id (t (manifest_path id)) why)
wrong_told None id p bytes items why at told short same h = tt
wrong_told (Some t) id p bytes items why at told short same h = wrong_there id bytes items (t (manifest_path id)) why (ap t (sym at) ∙ told) short same h

by_tree : (old new : Seen) (id : Id) (p : Path) (bytes items : List ℕ) (e : PackageFault) → p ≡ manifest_path id → IfSome old.tree (λ t. t p ≡ Some (file items)) → length items ≤ text_limit → bytes ≡ items
    → TextRefused id bytes e → PackageRefused id old new e
by_tree old new id p bytes items (Wrong why) at told short same h = wrong_told old.tree id p bytes items why at told short same h
by_tree old new id p bytes items (TooLarge n) at told short same h = absurd h
by_tree old new id p bytes items Fault at told short same h = absurd h
by_tree old new id p bytes items Memory at told short same h = tt

pub refused_err : (old new : Seen) (id : Id) (p : Path) (bytes items : List ℕ) (r : Result Manifest PackageFault) → p ≡ manifest_path id
    → IfSome old.tree (λ t. t p ≡ Some (file items)) → length items ≤ text_limit → bytes ≡ items
    → IfErr r (TextRefused id bytes) → IfErr r (PackageRefused id old new)
refused_err old new id p bytes items (Ok m) at told short same h = tt
refused_err old new id p bytes items (Err e) at told short same h = by_tree old new id p bytes items e at told short same h
