-- A root that is the only project is placed.
use Rattle.std.proofs.Common.{◌≡◌, ◌≢◌, ◌≤◌, ℕ, List, ◌∷◌, length, length-append, refl, sym, ap, ◌∙◌, subst, arith}
use Rattle.std.specs.Prelude.{codes}
use Rattle.pn_text.specs.declared.limits.TheConstants.{PATH_LIMIT}
use Rattle.pn_text.specs.Name.{holds_modules, modules}
use Rattle.pn_text.specs.Path.{path_text, tail_of}
use Rattle.pn_text.proofs.Members.{none_in}
use Rattle.pn_lock_layout.specs.Laws.{PlacedLaw}
use Rattle.pn_lock_layout.specs.Places.{default_store, folder_of}

dotted : (x : List ℕ) → x ≡ codes ".pnpm" → x ≢ modules
dotted x e k = let no : codes ".pnpm" ≡ modules = sym e ∙ k in absurd (omega (arith, ap length no))

pub placed : PlacedLaw
placed l root alone some short = record {
  clean = λ i c. ap (λ t. holds_modules (tail_of t)) (alone i c) ∙ refl;
  short = λ i c. subst (λ p. length (path_text (modules ∷ p)) ≤ PATH_LIMIT) (sym (ap (folder_of root) (alone i c))) short;
  named = λ q e. dotted (codes ".pnpm") refl (cc);
  apart = λ i s c e. omega (arith, ap length (sym (ap (folder_of root) (alone i c)) ∙ e), length-append s (default_store root));
  inside = λ i s c e. refl;
  rooted = λ e. (some.0, some.1, alone some.0 some.1);
  hoists = λ h c. absurd (none_in h c);
  once = λ g h cg ch holders names. absurd (none_in g cg);
}
