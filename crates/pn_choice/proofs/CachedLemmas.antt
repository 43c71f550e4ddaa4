-- What is known of a registry, with one more name.
use Rattle.std.proofs.Common.{◌≡◌, ℕ, Bool, true, false, List, Option, Some, refl, sym, ap, ◌∙◌, subst, if◌then◌else◌}
use Rattle.std.specs.Prelude.{String, is_some}
use Rattle.std.specs.Str.{bytes_eq}
use Rattle.std.specs.BTreeMap.{BTreeMap, get_by_text}
use Rattle.std.proofs.lemmas.Slice.Eq.{bytes_eq-Decides}
use Rattle.pn_text.proofs.Bools.{true_false}
use Rattle.pn_fs.specs.Seen.{Seen}
use Rattle.pn_fs.specs.Tree.{Tree}
use Rattle.pn_published.specs.Shown.{shelf_of}
use Rattle.pn_published.specs.declared.published.Published.{Published}
use Rattle.pn_choice.specs.Cached.{AreShown, KeepsShelves, AsksOnce}
use Rattle.pn_choice.specs.Shows.{Publishes}

at_name : (r : Option Tree) (n m : List ℕ) (p q : Published) (o : Option Published) (b : Bool) → bytes_eq n m ≡ b → Publishes r n (shelf_of p) → ((x : Published) → o ≡ Some x → Publishes r m (shelf_of x))
    → (if b then Some p else o) ≡ Some q → Publishes r m (shelf_of q)
at_name r n m p q o true same new old is =
    let one : p ≡ q = cc in
    subst (λ (x : Published). Publishes r m (shelf_of x)) one (subst (λ (x : List ℕ). Publishes r x (shelf_of p)) ((bytes_eq-Decides n m).0 same) new)
at_name r n m p q o false other new old is = old q is

pub shown_more : {A : Type 0} (r : Option Tree) (old new : BTreeMap (String A) Published) (n : List ℕ) (p : Published) → ((m : List ℕ) → get_by_text new m ≡ (if bytes_eq n m then Some p else get_by_text old m))
    → AreShown r old → Publishes r n (shelf_of p) → AreShown r new
shown_more r old new n p updates shown publishes m q is = at_name r n m p q (get_by_text old m) (bytes_eq n m) refl publishes (shown m) (sym (updates m) ∙ is)

still : (p : Published) (o : Option Published) (b : Bool) → is_some o ≡ true → is_some (if b then Some p else o) ≡ true
still p o true known = refl
still p o false known = known

pub known_more : {A : Type 0} (old new : BTreeMap (String A) Published) (n : List ℕ) (p : Published) → ((m : List ℕ) → get_by_text new m ≡ (if bytes_eq n m then Some p else get_by_text old m)) → KeepsShelves old new
known_more old new n p updates m known = ap is_some (updates m) ∙ still p (get_by_text old m) (bytes_eq n m) known

-- what isn't known may be asked
pub unknown : {A : Type 0} (shelves : BTreeMap (String A) Published) (n : List ℕ) (old new : Seen) → is_some (get_by_text shelves n) ≡ false → AsksOnce shelves n old new
unknown shelves n old new none known = absurd (true_false (is_some (get_by_text shelves n)) known none)
