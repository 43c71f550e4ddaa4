-- A tree publishes one shelf under a name, or there is one reason why it doesn't.
use Rattle.std.proofs.Common.{◌≡◌, ℕ, List, Option, Some, None, refl, sym, ap, ◌∙◌, arith}
use Rattle.semver.specs.Parse.{Parts}
use Rattle.pn_text.specs.Name.{name_path}
use Rattle.pn_text.specs.Path.{Path}
use Rattle.pn_fs.specs.Tree.{Tree, Entry, folder, file, link}
use Rattle.pn_published.specs.declared.fault.PublishedFault.{PublishedFault}
use Rattle.pn_published.specs.declared.fault.PublishedFault.TheVariants.{BadTags, Entries, Fault, Memory}
use Rattle.pn_published.specs.Versions.{version_cmp}
use Rattle.pn_published.specs.Tags.{Said, said_by, AreTags, IsTagsFile}
use Rattle.pn_published.specs.Shelves.{Shelf, AreVersions, HasFew, HasMany, IsPublished, shelf_with}
use Rattle.pn_published.specs.Refusals.{IsUnpublished, PublishedLaw}
use Rattle.pn_text.proofs.Results.{same_some}
use Rattle.pn_published.proofs.Rising.{rising_same}
use Rattle.pn_published.proofs.VersionOrders.{version_asym}

one_tags : (bytes : List ℕ) (a b : List Said) → AreTags bytes a → AreTags bytes b → a ≡ b
one_tags bytes a b h k =
    let value : h.value ≡ k.value = same_some _ _ (sym h.read ∙ k.read) in
    same_some _ _ (sym h.is ∙ ap said_by value ∙ k.is)

one_said : (e : Option Entry) (a b : List Said) → IsTagsFile e a → IsTagsFile e b → a ≡ b
one_said None a b h k = h ∙ sym k
one_said (Some folder) a b h k = h ∙ sym k
one_said (Some (file bytes)) a b h k = one_tags bytes a b h k
one_said (Some (link text)) a b h k = h ∙ sym k

one_versions : (t : Tree) (p : Path) (a b : List Parts) → AreVersions t p a → AreVersions t p b → a ≡ b
one_versions t p a b h k = rising_same version_cmp version_asym a b h.rising k.rising (λ v c. k.all v (h.sound v c)) (λ v c. h.all v (k.sound v c))

few_many : (t : Tree) (p : Path) → HasFew t p → HasMany t p → ⊥
few_many t p few many = absurd (omega (arith, few many.names many.listed, many.many))

one_shelf : (t : Tree) (name : List ℕ) (a b : Shelf) → IsPublished t name a → IsPublished t name b → a ≡ b
one_shelf t name a b h k =
    let versions = one_versions t (name_path name) a.versions b.versions h.versions k.versions in
    let said = one_said _ h.said k.said h.file k.file in
    h.is ∙ ap (λ v. shelf_with v h.said) versions ∙ ap (shelf_with b.versions) said ∙ sym k.is

one_reason : (t : Tree) (p : Path) (e f : PublishedFault) → IsUnpublished t p e → IsUnpublished t p f → e ≡ f
one_reason t p BadTags BadTags h k = refl
one_reason t p BadTags Entries h k = absurd (few_many t p h.few k)
one_reason t p BadTags Fault h k = absurd k
one_reason t p BadTags Memory h k = absurd k
one_reason t p Entries BadTags h k = absurd (few_many t p k.few h)
one_reason t p Entries Entries h k = refl
one_reason t p Entries Fault h k = absurd k
one_reason t p Entries Memory h k = absurd k
one_reason t p Fault f h k = absurd h
one_reason t p Memory f h k = absurd h

not_both : (t : Tree) (name : List ℕ) (a : Shelf) (e : PublishedFault) → IsPublished t name a → IsUnpublished t (name_path name) e → ⊥
not_both t name a BadTags h k = k.bad h.said h.file
not_both t name a Entries h k = few_many t (name_path name) h.few k
not_both t name a Fault h k = k
not_both t name a Memory h k = k

pub published : PublishedLaw
published = record {
  one = one_shelf;
  why = λ t name. one_reason t (name_path name);
  never = not_both;
}
