-- A layout of one managed folder, one instance and one link outside it.
use Rattle.std.proofs.Common.{◌≡◌, inl, inr, ℕ, List, [], ◌∷◌, ◌++◌, length, refl, sym, ap, ◌∙◌, subst, true, arith}
use Rattle.std.specs.Prelude.{codes}
use Rattle.std.specs.List.{Contains}
use Rattle.pn_text.specs.Path.{Path}
use Rattle.pn_text.specs.Name.{is_name}
use Rattle.pn_text.proofs.Members.{in_one, here}
use Rattle.pn_digest.specs.Listing.{Entry as ListEntry, listing_text}
use Rattle.pn_tree.specs.declared.instance.Instance.{Instance}
use Rattle.pn_tree.specs.declared.instance.Top.{Top}
use Rattle.pn_tree.specs.Trees.{laid}
use Rattle.pn_tree.specs.Sound.{IsSoundInstance, IsSoundTop, IsSoundLayout}

-- the empty text is the listing of no files
pub no_files : (es : List ListEntry) → [] ≡ listing_text es → es ≡ []
no_files [] h = refl
no_files (e ∷ es) h = absurd (some_push _ _ h) where
  some_push : (a b : List ℕ) → [] ≡ a ++ 10 ∷ b → ⊥
  some_push [] b e = cc
  some_push (x ∷ a) b e = cc

pub ones : {X : Type 0} (x y z : X) → Contains (x ∷ []) y → Contains (x ∷ []) z → y ≡ z
ones x y z h k = sym (in_one x y h) ∙ in_one x z k

pub alone : (store m : Path) (text : List ℕ) (g : Instance) (t : Top) → store ≡ codes ".pnpm" ∷ m → IsSoundInstance g → t.holder ≡ m → is_name t.name ≡ true
    → IsSoundLayout (laid store ((m, text) ∷ []) (g ∷ []) (t ∷ []))
alone store m text g t is sound holder named = record {
  apart = λ a b ca cb h. ones m a b ca cb;
  marked = λ a b ca cb e. ones (m, text) a b ca cb;
  store = ((m, text), here (m, text) [], inr is);
  dirs = λ a b ca cb e. ones g a b ca cb;
  instances = λ a c. subst IsSoundInstance (in_one g a c) sound;
  tops = λ a c. subst (λ x. IsSoundTop (laid store ((m, text) ∷ []) (g ∷ []) (t ∷ [])) x) (in_one t a c) (record {
    name = named;
    holder = inl (subst (λ p. Contains (m ∷ []) p) (sym holder) (here m []), λ e. longer_by (sym holder ∙ e ∙ is));
  });
  once = λ a b ca cb h e. ones t a b ca cb;
} where
  longer_by : m ≡ codes ".pnpm" ∷ m → ⊥
  longer_by e = omega (arith, ap length e)
