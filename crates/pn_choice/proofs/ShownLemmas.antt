-- What a registry shows whose tree is told.
use Rattle.std.proofs.Common.{◌≡◌, ◌<◌, ℕ, List, Some, refl, sym, ap, ◌∙◌, subst, arith}
use Rattle.std.proofs.lemmas.Option.{none-some, same_Some}
use Rattle.pn_fs.specs.Tree.{Tree}
use Rattle.pn_manifest.specs.Fields.{said}
use Rattle.pn_manifest.specs.Said.{Said}
use Rattle.pn_registry.specs.Places.{manifest_path}
use Rattle.pn_registry.proofs.ManifestLawLemmas.{text_once, not_wrong, one_wrong, not_long, long_there}
use Rattle.pn_registry.proofs.Orders.{same_length}
use Rattle.pn_published.specs.Shelves.{Shelf}
use Rattle.pn_published.specs.declared.fault.PublishedFault.TheVariants.{BadTags as FaultTags, Entries as FaultEntries}
use Rattle.pn_published.proofs.OneShelf.{published}
use Rattle.pn_walk.specs.Wants.{Id}
use Rattle.pn_plain.specs.Causes.{Shown}
use Rattle.pn_plain.specs.Seen.{no_hook, no_rules}
use Rattle.pn_plain.proofs.PlainLemmas.{AreRules, one_node}
use Rattle.pn_choice.specs.Built.{IsBuilt, IsUnbuilt, in_field, long}
use Rattle.pn_choice.specs.Shows.{Publishes, Unpublished, HasManifest, Manifests, Unread, IsNodeOf}
use Rattle.pn_choice.specs.declared.fault.RegistryLack.{RegistryLack}
use Rattle.pn_choice.specs.declared.fault.RegistryLack.TheVariants.{BadTags, Entries, Wrong, TooLarge, Unbuilt}

apart : {C : Type 0} → FaultTags ≡ FaultEntries → C
apart e = cc

one_gap : (t : Tree) (n : List ℕ) (x y : RegistryLack) → Unpublished (Some t) n x → Unpublished (Some t) n y → x ≡ y
one_gap t n (BadTags a) (BadTags b) h k = ap BadTags (h.0 ∙ sym k.0)
one_gap t n (BadTags a) Entries h k = apart (published.why t n FaultTags FaultEntries h.1 k)
one_gap t n Entries (BadTags b) h k = apart (published.why t n FaultTags FaultEntries k.1 h)
one_gap t n Entries Entries h k = refl
one_gap t n (Wrong i why) y h k = absurd h
one_gap t n (TooLarge i l) y h k = absurd h
one_gap t n (Unbuilt text) y h k = absurd h
one_gap t n x (Wrong i why) h k = absurd k
one_gap t n x (TooLarge i l) h k = absurd k
one_gap t n x (Unbuilt text) h k = absurd k

no_gap : (t : Tree) (n : List ℕ) (p : Shelf) (x : RegistryLack) → Publishes (Some t) n p → Unpublished (Some t) n x → ⊥
no_gap t n p (BadTags a) h k = published.never t n p FaultTags h k.1
no_gap t n p Entries h k = published.never t n p FaultEntries h k
no_gap t n p (Wrong i why) h k = k
no_gap t n p (TooLarge i l) h k = k
no_gap t n p (Unbuilt text) h k = k

has_once : (t : Tree) (i : Id) (a b : Said) → HasManifest (Some t) i a → HasManifest (Some t) i b → a ≡ b
has_once t i a b h k = h.says ∙ ap said (text_once (t (manifest_path i)) h.value k.value h.text k.text) ∙ sym k.says

one_manifest : (t : Tree) (i : Id) (a b : Said) → Manifests (Some t) i a → Manifests (Some t) i b → a ≡ b
one_manifest t i a b h k = has_once t i a b h.has k.has

short_long : {C : Type 0} (n : ℕ) → n < n → C
short_long n h = absurd (omega (arith, h))

one_unbuilt : (i : Id) (m : Said) (x y : List ℕ) → IsUnbuilt i m x → IsUnbuilt i m y → x ≡ y
one_unbuilt i m x y (in_field h) (in_field k) = same_Some x y (sym h ∙ k)
one_unbuilt i m x y (in_field h) (long n d k) = absurd (none-some x (sym n ∙ h))
one_unbuilt i m x y (long n d h) (in_field k) = absurd (none-some y (sym n ∙ k))
one_unbuilt i m x y (long n d h) (long o e k) = h ∙ sym k

not_unbuilt : (i : Id) (m : Said) (x : List ℕ) → IsBuilt i m → IsUnbuilt i m x → ⊥
not_unbuilt i m x b (in_field h) = none-some x (sym b.fields ∙ h)
not_unbuilt i m x b (long n d h) = absurd (omega (arith, b.short, d))

one_lack : (t : Tree) (i : Id) (x y : RegistryLack) → Unread (Some t) i x → Unread (Some t) i y → x ≡ y
one_lack t i (Wrong j v) (Wrong k w) a b = ap (λ (l : Id). Wrong l v) (a.0 ∙ sym b.0) ∙ ap (Wrong k) (one_wrong i (t (manifest_path i)) v w a.1 b.1)
one_lack t i (Wrong j v) (TooLarge k n) a b = absurd (long_there i (t (manifest_path i)) n v b.1 b.2 a.1)
one_lack t i (Wrong j v) (Unbuilt x) a b = absurd (not_wrong i (t (manifest_path i)) b.1.value v b.1.text b.1.right a.1)
one_lack t i (TooLarge j m) (Wrong k w) a b = absurd (long_there i (t (manifest_path i)) m w a.1 a.2 b.1)
one_lack t i (TooLarge j m) (TooLarge k n) a b = ap (λ (l : Id). TooLarge l m) (a.0 ∙ sym b.0) ∙ ap (TooLarge k) (same_length (t (manifest_path i)) m n a.2 b.2)
one_lack t i (TooLarge j m) (Unbuilt x) a b = absurd (not_long (t (manifest_path i)) b.1.value m b.1.text a.1 a.2)
one_lack t i (Unbuilt x) (Wrong k w) a b = absurd (not_wrong i (t (manifest_path i)) a.1.value w a.1.text a.1.right b.1)
one_lack t i (Unbuilt x) (TooLarge k n) a b = absurd (not_long (t (manifest_path i)) a.1.value n a.1.text b.1 b.2)
one_lack t i (Unbuilt x) (Unbuilt y) a b = ap Unbuilt (one_unbuilt i b.0 x y (subst (λ (m : Said). IsUnbuilt i m x) (has_once t i a.0 b.0 a.1 b.1) a.2) b.2)
one_lack t i (BadTags n) y a b = absurd a
one_lack t i Entries y a b = absurd a
one_lack t i x (BadTags n) a b = absurd b
one_lack t i x Entries a b = absurd b

no_lack : (t : Tree) (i : Id) (m : Said) (x : RegistryLack) → Manifests (Some t) i m → Unread (Some t) i x → ⊥
no_lack t i m (Wrong j v) h b = not_wrong i (t (manifest_path i)) h.has.value v h.has.text h.has.right b.1
no_lack t i m (TooLarge j n) h b = not_long (t (manifest_path i)) h.has.value n h.has.text b.1 b.2
no_lack t i m (Unbuilt x) h b = not_unbuilt i m x h.built (subst (λ (s : Said). IsUnbuilt i s x) (has_once t i b.0 m b.1 h.has) b.2)
no_lack t i m (BadTags n) h b = b
no_lack t i m Entries h b = b

pub rules : AreRules no_rules
rules m a b x y = x ∙ sym y

-- A tree settles what is published and what packages ask for, or why not.
pub shown : (t : Tree) → Shown (Publishes (Some t)) (Unpublished (Some t)) (IsNodeOf (Some t)) (Unread (Some t))
shown t = record {
  one_shelf = λ n p q a b. published.one t n p q a b;
  one_gap = λ n x y a b. one_gap t n x y a b;
  no_gap = λ n p x a b. no_gap t n p x a b;
  one_node = λ m n a b same. one_node (Manifests (Some t)) no_hook no_rules rules (one_manifest t) m n a b same;
  one_fault = λ i x y a b. one_lack t i x y a b;
  no_fault = λ m x a b. no_lack t m.id a.said x a.says b;
}
