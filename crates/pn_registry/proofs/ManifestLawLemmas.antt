-- A file has the text of one object at most, and one thing is wrong with it.
use Rattle.std.proofs.Common.{◌≡◌, ◌<◌, ℕ, List, Some, None, length, refl, sym, ap, ◌∙◌, subst, arith}
use Rattle.std.specs.Prelude.{Option}
use Rattle.serde_json.specs.Data.{Data}
use Rattle.pn_fs.specs.Tree.{Entry}
use Rattle.pn_fs.proofs.SeenLemmas.{file_once}
use Rattle.pn_read.specs.Small.{IsFileOf}
use Rattle.pn_manifest.specs.Fields.{Spot}
use Rattle.pn_manifest.specs.Fields.{said}
use Rattle.pn_manifest.specs.Text.{IsObjectText}
use Rattle.pn_manifest.specs.declared.fault.ManifestWhy.{ManifestWhy}
use Rattle.pn_manifest.specs.declared.fault.ManifestWhy.TheVariants.{Missing, NotJson, BadField}
use Rattle.pn_registry.specs.ManifestLaws.{ManifestCauseLaw, ManifestPassedLaw, ManifestSameLaw}
use Rattle.pn_registry.specs.Package.{text_limit, first_wrong_of, IsText}
use Rattle.pn_registry.specs.PackageFaults.{IsNoText, WrongFile}
use Rattle.pn_registry.specs.Places.{Id, manifest_path}
use Rattle.pn_registry.specs.declared.package.PackageFault.TheVariants.{Wrong, TooLarge, Fault, Memory}
use Rattle.pn_registry.proofs.Orders.{same_length}

value_once : (x y : Data) (o : Option Data) → o ≡ Some x → o ≡ Some y → x ≡ y
value_once x y o a b = cc

pub text_once : (e : Option Entry) (x y : Data) → IsText e x → IsText e y → x ≡ y
text_once e x y a b =
    let bytes = file_once e a.bytes b.bytes a.is b.is in
    value_once x y _ (subst (λ (z : List ℕ). IsObjectText z x) bytes a.text).read b.text.read

-- a file with a text isn't too long
pub not_long : (e : Option Entry) (d : Data) (n : ℕ) → IsText e d → text_limit < n → IsFileOf n e → ⊥
not_long e d n text long f =
    let bytes = file_once e text.bytes f.0 text.is f.1 in
    absurd (omega (arith, long, f.2, ap length bytes, text.short))

not_unreadable : (e : Option Entry) (d : Data) → IsText e d → IsNoText e → ⊥
not_unreadable e d text h =
    let bytes = file_once e text.bytes h.bytes text.is h.is in
    h.none d (subst (λ (b : List ℕ). IsObjectText b d) bytes text.text)

pub none_some : {A : Type 0} (o : Option A) (x : A) → o ≡ None → o ≡ Some x → ⊥
none_some o x a b = cc

-- a right text shows nothing wrong
pub not_wrong : (id : Id) (e : Option Entry) (d : Data) (why : ManifestWhy) → IsText e d → first_wrong_of id d ≡ None → WrongFile id e why → ⊥
not_wrong id e d Missing text right h = h text.bytes text.is
not_wrong id e d NotJson text right h = not_unreadable e d text h
not_wrong id e d (BadField f k) text right h =
    let value = text_once e d h.value text h.text in
    none_some (first_wrong_of id h.value) (f, k) (ap (first_wrong_of id) (sym value) ∙ right) h.wrong

one_spot : (o : Option Spot) (a b : Spot) → o ≡ Some a → o ≡ Some b → BadField a.0 a.1 ≡ BadField b.0 b.1
one_spot o a b x y =
    let same : a ≡ b = cc in
    ap (λ (s : Spot). BadField s.0 s.1) same

pub one_wrong : (id : Id) (e : Option Entry) (v w : ManifestWhy) → WrongFile id e v → WrongFile id e w → v ≡ w
one_wrong id e Missing Missing x y = refl
one_wrong id e Missing NotJson x y = absurd (x y.bytes y.is)
one_wrong id e Missing (BadField g l) x y = absurd (x y.text.bytes y.text.is)
one_wrong id e NotJson Missing x y = absurd (y x.bytes x.is)
one_wrong id e NotJson NotJson x y = refl
one_wrong id e NotJson (BadField g l) x y = absurd (not_unreadable e y.value y.text x)
one_wrong id e (BadField f k) Missing x y = absurd (y x.text.bytes x.text.is)
one_wrong id e (BadField f k) NotJson x y = absurd (not_unreadable e x.value x.text y)
one_wrong id e (BadField f k) (BadField g l) x y =
    let value = text_once e x.value y.value x.text y.text in
    one_spot (first_wrong_of id y.value) (f, k) (g, l) (ap (first_wrong_of id) (sym value) ∙ x.wrong) y.wrong

-- a file that is too long has no text that could be wrong
pub long_there : (id : Id) (e : Option Entry) (n : ℕ) (why : ManifestWhy) → text_limit < n → IsFileOf n e → WrongFile id e why → ⊥
long_there id e n Missing long f h = h f.0 f.1
long_there id e n NotJson long f h =
    let bytes = file_once e h.bytes f.0 h.is f.1 in
    absurd (omega (arith, long, f.2, ap length bytes, h.short))
long_there id e n (BadField g l) long f h = not_long e h.value n h.text long f

pub cause : ManifestCauseLaw
cause t id (Wrong v) (Wrong w) a b = ap Wrong (one_wrong id (t (manifest_path id)) v w a b)
cause t id (Wrong v) (TooLarge n) a b = absurd (long_there id (t (manifest_path id)) n v b.0 b.1 a)
cause t id (TooLarge n) (Wrong w) a b = absurd (long_there id (t (manifest_path id)) n w a.0 a.1 b)
cause t id (TooLarge m) (TooLarge n) a b = ap TooLarge (same_length (t (manifest_path id)) m n a.1 b.1)
cause t id Fault e a b = absurd a
cause t id Memory e a b = absurd a
cause t id e Fault a b = absurd b
cause t id e Memory a b = absurd b

pub passed : ManifestPassedLaw
passed t id m (Wrong why) found h = not_wrong id (t (manifest_path id)) found.value why found.text found.read.right h
passed t id m (TooLarge n) found h = not_long (t (manifest_path id)) found.value n found.text h.0 h.1
passed t id m Fault found h = h
passed t id m Memory found h = h

pub same : ManifestSameLaw
same t id m other a b =
    let value = text_once (t (manifest_path id)) a.value b.value a.text b.text in
    a.read.says ∙ ap said value ∙ sym b.read.says
