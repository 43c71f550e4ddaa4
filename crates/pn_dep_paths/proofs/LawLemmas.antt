-- Of some instances there is one list of base texts: who steps along the outer relation, and never where it leads back, meets
-- no instance twice.
use Rattle.std.proofs.Common.{◌≡◌, ◌<◌, ◌≤◌, ◌+◌, ◌++◌, ℕ, zero, suc, List, [], ◌∷◌, true, false, length, eqb, inl, inr, refl, sym, ap, ◌∙◌, subst, arith}
use Rattle.std.specs.List.{AllByRecursion, Contains, IsDistinct, list_any, concat}
use Rattle.std.proofs.lemmas.Bool.{cases_lt, eqb-true, ne_eqb}
use Rattle.std.proofs.lemmas.Map.Steps.{length-le_from_distinct_below}
use Rattle.std.proofs.lemmas.Map.Views.{Contains-from_any}
use Rattle.pn_components.specs.Graphs.{Reaches, itself, through}
use Rattle.pn_deppath.specs.Groups.{shortened}
use Rattle.pn_text.proofs.Members.{here, in_cons, none_in, there}
use Rattle.pn_outer.specs.declared.instance.Instance.{Instance}
use Rattle.pn_dep_paths.specs.BaseTexts.{AreBaseTexts, IsBaseText, TextLaw, id_at, text_at}
use Rattle.pn_dep_paths.specs.Relation.{LeadsOut}
use Rattle.pn_dep_paths.proofs.RisingLemmas.{one_list}
use Rattle.pn_dep_paths.proofs.WrittenLemmas.{base_by}

onward : (L : ℕ → ℕ → Type 0) (a b c : ℕ) → Reaches L a b → Reaches L b c → Reaches L a c
onward L a b _ f itself = f
onward L a b _ f (through x y g l) = through x y (onward L a b x f g) l

-- Some places below n, which all lead to another one, and to which it doesn't lead.
record IsWay (L : ℕ → ℕ → Type 0) (n : ℕ) (way : List ℕ) (i : ℕ) : Type 0 where
  once : IsDistinct eqb way
  within : (k : ℕ) → Contains way k → k < n
  leads : (k : ℕ) → Contains way k → Reaches L k i
  not_back : (k : ℕ) → Contains way k → Reaches L i k → ⊥

module _ (L : ℕ → ℕ → Type 0) (n : ℕ) where
  found : (way : List ℕ) (k : ℕ) → list_any (eqb k) way ≡ true → Contains way k
  found way k h = Contains-from_any eqb-true k way h

  fresh : (way : List ℕ) (i : ℕ) → ((k : ℕ) → Contains way k → k ≡ i → ⊥) → AllByRecursion (λ k. eqb i k ≡ false) way
  fresh [] i h = tt
  fresh (k ∷ way) i h = (ne_eqb i k (λ e. h k (here k way) (sym e)), fresh way i (λ m c. h m (there k way m c)))

  with_here : (way : List ℕ) (i : ℕ) → IsWay L n way i → IsDistinct eqb (i ∷ way)
  unfolding IsDistinct
  with_here way i w = (fresh way i (λ k c e. w.not_back k c (subst (Reaches L i) (sym e) itself)), w.once)

  all_within : (way : List ℕ) (i k : ℕ) → IsWay L n way i → i < n → Contains (i ∷ way) k → k < n
  all_within way i k w lt c = elim (in_cons i way k c) [ inl e ↦ subst (λ (x : ℕ). x < n) e lt | inr r ↦ w.within k r ]

  short : (way : List ℕ) (i : ℕ) → IsWay L n way i → i < n → length way + 1 ≤ n
  short way i w lt =
      let le = length-le_from_distinct_below (i ∷ way) n (with_here way i w) (λ q e. all_within way i q w lt (found (i ∷ way) q e)) in
      omega (arith, le)

  further : (way : List ℕ) (i j : ℕ) → IsWay L n way i → i < n → L i j → (Reaches L i j × Reaches L j i → ⊥) → IsWay L n (i ∷ way) j
  further way i j w lt l apart = record {
    once = with_here way i w;
    within = λ k c. all_within way i k w lt c;
    leads = λ k c. elim (in_cons i way k c) [
      | inl e ↦ subst (λ (x : ℕ). Reaches L x j) e (through i j itself l)
      | inr r ↦ through i j (w.leads k r) l
    ];
    not_back = λ k c back. elim (in_cons i way k c) [
      | inl e ↦ apart (through i j itself l, subst (λ (x : ℕ). Reaches L j x) (sym e) back)
      | inr r ↦ w.not_back k r (onward L i j k (through i j itself l) back)
    ];
  }

  module _ (Q : ℕ → Type 0) (past : (i : ℕ) → n ≤ i → Q i) (step : (i : ℕ) → i < n → ((j : ℕ) → L i j → (Reaches L i j × Reaches L j i → ⊥) → Q j) → Q i) where
    along_way : (left : ℕ) (way : List ℕ) (i : ℕ) → i < n → length way + left ≡ n → IsWay L n way i → Q i
    along_way zero way i lt whole w = absurd (let s = short way i w lt in omega (arith, s, whole))
    along_way (suc left) way i lt whole w = step i lt (λ j l apart. elim (cases_lt j n) [
      | inl low ↦ along_way left (i ∷ way) j low (omega (arith, whole)) (further way i j w lt l apart)
      | inr high ↦ past j high
    ])

    -- what holds of each place where it holds of those that it leads to and that don't lead back
    pub by_components : (i : ℕ) → Q i
    unfolding IsDistinct
    by_components i = elim (cases_lt i n) [
      | inl low ↦ along_way n [] i low (omega arith) (record { once = tt; within = λ k c. absurd (none_in k c); leads = λ k c. absurd (none_in k c); not_back = λ k c. absurd (none_in k c) })
      | inr high ↦ past i high
    ]

-- the groups are one list, and so is the text one
same_text : (folders : List (List ℕ)) (instances : List Instance) (texts : List (List ℕ)) (i : ℕ) (s t : List ℕ) → IsBaseText folders instances texts i s → IsBaseText folders instances texts i t → s ≡ t
same_text folders instances texts i s t h k =
    let same = one_list h.groups k.groups h.are.rising k.are.rising (λ g c. k.are.all g (h.are.right g c)) (λ g c. h.are.all g (k.are.right g c)) in
    h.is ∙ ap (λ (l : List (List ℕ)). id_at instances i ++ shortened (concat l)) same ∙ sym k.is

past_end : (texts : List (List ℕ)) (i : ℕ) → length texts ≤ i → text_at texts i ≡ []
past_end [] zero h = refl
past_end [] (suc i) h = refl
past_end (t ∷ texts) zero h = absurd (omega (arith, h))
past_end (t ∷ texts) (suc i) h = past_end texts i (omega (arith, h))

by_places : (a b : List (List ℕ)) → length a ≡ length b → ((i : ℕ) → text_at a i ≡ text_at b i) → a ≡ b
by_places [] [] e h = refl
by_places [] (y ∷ b) e h = absurd (omega (arith, e))
by_places (x ∷ a) [] e h = absurd (omega (arith, e))
by_places (x ∷ a) (y ∷ b) e h = ap (λ (t : List ℕ). t ∷ a) (h 0) ∙ ap (λ (l : List (List ℕ)). y ∷ l) (by_places a b (omega (arith, e)) (λ i. h (suc i)))

one : (folders : List (List ℕ)) (instances : List Instance) (a b : List (List ℕ)) → AreBaseTexts folders instances a → AreBaseTexts folders instances b → a ≡ b
one folders instances a b h k =
    let n = length instances in
    let ha = h.count in
    let kb = k.count in
    by_places a b (ha ∙ sym kb) (by_components (LeadsOut instances) n (λ i. text_at a i ≡ text_at b i)
    (λ i high. past_end a i (omega (arith, ha, high)) ∙ sym (past_end b i (omega (arith, kb, high))))
    (λ i lt agree. same_text folders instances b i (text_at a i) (text_at b i) (base_by folders instances i a b (text_at a i) agree (h.each i lt)) (k.each i lt)))

pub law : TextLaw
law = record { one = one }
