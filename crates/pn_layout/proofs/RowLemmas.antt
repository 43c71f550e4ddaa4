-- A package without links, and one that links to it and to itself.
use Rattle.std.proofs.Common.{◌≡◌, ◌≢◌, ◌≤◌, ℕ, List, [], ◌∷◌, ◌++◌, map, length, refl, sym, ap, ◌∙◌, subst, true, arith, inl, inr}
use Rattle.std.specs.Prelude.{codes, IsPermutation}
use Rattle.std.specs.Cmp.Lexicographic.{slice_cmp}
use Rattle.std.specs.List.{Contains}
use Rattle.std.specs.List.Sorted.{IsStrictlySortedBy}
use Rattle.std.specs.Ordering.{nat_cmp}
use Rattle.std.specs.declared.cmp.Ordering.TheVariants.{Less}
use Rattle.std.proofs.lemmas.List.{append_cancel_right}
use Rattle.std.proofs.lemmas.List.Sorted.{IsPermutation-map}
use Rattle.pn_text.specs.declared.limits.TheConstants.{PATH_LIMIT}
use Rattle.pn_text.specs.Ids.{id_name, is_id}
use Rattle.pn_text.specs.Path.{Path, path_text, SpellsParts}
use Rattle.pn_text.proofs.Members.{in_one, in_cons, none_in, here, there}
use Rattle.pn_text.proofs.Paths.{tail_of-spelled}
use Rattle.pn_digest.specs.Listing.{Entry, IsListing}
use Rattle.pn_node.specs.Plan.{IsSoundFile}
use Rattle.pn_package.specs.Links.{Id, Pair, IsRising}
use Rattle.pn_package.specs.Sound.{IsSoundPair, AreSoundLinks, IsSoundPackage, AreSound, AreWhole}
use Rattle.pn_package.specs.declared.packages.Package.{Package}
use Rattle.pn_layout.specs.Listed.{HasListing, AreOfPackages}

abbrev pub first_id : Id
first_id = codes "@s/a@1.0.0"

abbrev pub second_id : Id
second_id = codes "b@1.0.0"

pub none_rising : IsRising []
unfolding IsStrictlySortedBy
none_rising = tt

pub one_rising : (a : Pair) → IsRising (a ∷ [])
unfolding IsStrictlySortedBy
one_rising a = (tt, tt)

pub two_rising : (a b : Pair) → slice_cmp nat_cmp a.0 b.0 ≡ Less → IsRising (a ∷ b ∷ [])
unfolding IsStrictlySortedBy
two_rising a b h = ((h, tt), (tt, tt))

pub none_sound : (all : List Pair) → all ≡ [] → AreSoundLinks all
unfolding IsStrictlySortedBy
none_sound all e = subst AreSoundLinks (sym e) (record { rising = tt; each = λ l c. absurd (none_in l c) })

pub one_sound : (all : List Pair) (a : Pair) → all ≡ a ∷ [] → IsSoundPair a → AreSoundLinks all
one_sound all a e h = subst AreSoundLinks (sym e) (record { rising = one_rising a; each = λ l c. subst IsSoundPair (in_one a l c) h })

pub two_sound : (all : List Pair) (a b : Pair) → all ≡ a ∷ b ∷ [] → slice_cmp nat_cmp a.0 b.0 ≡ Less → IsSoundPair a → IsSoundPair b → AreSoundLinks all
two_sound all a b e less h k = subst AreSoundLinks (sym e) (record {
  rising = two_rising a b less;
  each = λ l c. elim (in_cons a (b ∷ []) l c) [ inl i ↦ subst IsSoundPair i h | inr j ↦ subst IsSoundPair (in_one b l j) k ];
})

-- a package of one file at the registry's root
pub file_sound : (p : Package) (path : Path) → is_id p.id ≡ true → AreSoundLinks p.links → ((l : Pair) → Contains p.links l → l.0 ≢ id_name p.id) → p.folder ≡ [] → p.files.items ≡ path ∷ [] → SpellsParts (codes "x.js") path → IsSoundPackage p
file_sound p path good links others folder files s = record {
  id = good;
  links = links;
  others = others;
  files = λ f c. subst IsSoundFile (is f c) (record { below = λ e. cc; clean = refl });
  apart = λ t f c d.
      let whole : t ++ f ≡ [] ++ f = sym (is (t ++ f) d) ∙ is f c in
      append_cancel_right t [] f whole;
  short = λ f c. subst (λ q. length (path_text (q ++ p.folder)) ≤ PATH_LIMIT) (is f c) (subst (λ q. length (path_text ((codes "x.js" ∷ []) ++ q)) ≤ PATH_LIMIT) (sym folder) (omega arith));
} where
  is : (f : Path) → Contains p.files.items f → codes "x.js" ∷ [] ≡ f
  is f c = tail_of-spelled (codes "x.js") path s ∙ in_one path f (subst (λ fs. Contains fs f) files c)

pub file_listed : (p : Package) (path : Path) (d : List ℕ) (items es : List Entry) → items ≡ (path, d) ∷ [] → p.files.items ≡ path ∷ [] → IsPermutation items es → IsListing es → HasListing p es
file_listed p path d items es i f h k = record {
  listing = k;
  files = subst (λ fs. IsPermutation fs (map (λ (e : Entry). e.0) es)) (ap (map (λ (e : Entry). e.0)) i ∙ sym f) (IsPermutation-map (λ (e : Entry). e.0) items es h);
}

module _ (p q : Package) (first : p.id ≡ first_id) (second : q.id ≡ second_id) where
  apart_ids : p.id ≡ q.id → ⊥
  apart_ids e = let no : 10 ≡ 7 = ap length (sym first ∙ e ∙ second) in absurd (omega (arith, no))

  pub row_sound : IsSoundPackage p → IsSoundPackage q → AreSound (p ∷ q ∷ [])
  row_sound h k = record {
    each = λ r c. elim (in_cons p (q ∷ []) r c) [ inl i ↦ subst IsSoundPackage i h | inr j ↦ subst IsSoundPackage (in_one q r j) k ];
    apart = λ r s c d e. elim (in_cons p (q ∷ []) r c) [
      | inl i ↦ elim (in_cons p (q ∷ []) s d) [
        | inl j ↦ sym i ∙ j
        | inr j ↦ absurd (apart_ids (ap (λ (x : Package). x.id) i ∙ e ∙ sym (ap (λ (x : Package). x.id) (in_one q s j))))
      ]
      | inr i ↦ elim (in_cons p (q ∷ []) s d) [
        | inl j ↦ absurd (apart_ids (ap (λ (x : Package). x.id) j ∙ sym e ∙ sym (ap (λ (x : Package). x.id) (in_one q r i))))
        | inr j ↦ sym (in_one q r i) ∙ in_one q s j
      ]
    ];
  }

  pub row_whole : (direct : List Pair) (a b c : List ℕ) → direct ≡ (a, second_id) ∷ [] → p.links ≡ [] → q.links ≡ (b, first_id) ∷ (c, second_id) ∷ [] → AreWhole direct (p ∷ q ∷ [])
  row_whole direct a b c d l m = record {
    project = λ x k. (q, there p (q ∷ []) q (here q []), second ∙ ap (λ (y : Pair). y.1) (in_one (a, second_id) x (subst (λ ls. Contains ls x) d k)));
    others = λ r x k j. elim (in_cons p (q ∷ []) r k) [
      | inl i ↦ absurd (none_in x (subst (λ ls. Contains ls x) l (subst (λ (y : Package). Contains y.links x) (sym i) j)))
      | inr i ↦ elim (in_cons (b, first_id) ((c, second_id) ∷ []) x (subst (λ ls. Contains ls x) m (subst (λ (y : Package). Contains y.links x) (sym (in_one q r i)) j))) [
        | inl e ↦ (p, here p (q ∷ []), first ∙ ap (λ (y : Pair). y.1) e)
        | inr e ↦ (q, there p (q ∷ []) q (here q []), second ∙ ap (λ (y : Pair). y.1) (in_one (c, second_id) x e))
      ]
    ];
  }

  pub row_listed : (es fs : List Entry) → HasListing p es → HasListing q fs → AreOfPackages (p ∷ q ∷ []) (es ∷ fs ∷ [])
  unfolding IsStrictlySortedBy
  row_listed es fs h k = record { rising = ((less, tt), (tt, tt)); each = (h, (k, tt)) } where
    less : slice_cmp nat_cmp p.id q.id ≡ Less
    less = (λ i. slice_cmp nat_cmp (first i) (second i)) ∙ refl
