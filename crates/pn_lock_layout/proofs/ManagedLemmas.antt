-- The virtual store as a managed folder.
use Rattle.std.proofs.Common.{◌≡◌, ℕ, List, [], ◌∷◌, ◌++◌, sym, ap, ◌∙◌, true, false, cond, append_assoc, append-nil}
use Rattle.std.specs.Prelude.{IsTrue, bytes_eq, codes}
use Rattle.pn_text.specs.Name.{modules}
use Rattle.pn_text.specs.Path.{Path, is_path, same_path, text_below, SpellsAbs}
use Rattle.pn_text.proofs.Paths.{same_texts}
use Rattle.pn_tree.specs.Trees.{Managed}
use Rattle.pn_lock_layout.specs.Places.{default_store}
use Rattle.pn_lock_layout.specs.Layouts.{store_managed, store_marker}

pub store_same : (a b : List ℕ) (root store : Path) → SpellsAbs a store → IsTrue (is_path root) → b ≡ text_below root ++ codes "/node_modules/.pnpm" → bytes_eq a b ≡ same_path store (default_store root)
store_same a b root store s good e = same_texts a b store (default_store root) s (record { good = good; spelled = e ∙ sym (append_assoc (text_below root) (47 ∷ modules) (47 ∷ codes ".pnpm")) })

pub store_default : (root store : Path) (all : List Managed) → same_path store (default_store root) ≡ true → all ≡ all ++ store_managed root store
store_default root store all h = sym (ap (λ b. all ++ cond b [] (let m : Managed = (store, store_marker root) in m ∷ [])) h ∙ append-nil all)

pub store_other : (root store : Path) (all new : List Managed) (m : Managed) → same_path store (default_store root) ≡ false → m.0 ≡ store → m.1 ≡ store_marker root → new ≡ all ++ m ∷ [] → new ≡ all ++ store_managed root store
store_other root store all new m h folder marker made =
    let same : m ≡ (store, store_marker root) = λ i. (folder i, marker i) in
    made ∙ ap (λ (n : Managed). all ++ n ∷ []) same ∙ sym (ap (λ b. all ++ cond b [] (let n : Managed = (store, store_marker root) in n ∷ [])) h)
