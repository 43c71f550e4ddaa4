-- Base texts stay so where others are written.
use Rattle.std.proofs.Common.{◌≡◌, ◌≢◌, ◌<◌, ◌≤◌, ◌+◌, ℕ, zero, suc, List, [], ◌∷◌, length, get_or, set, take, inl, inr, ◌⊎◌, sym, ap, ◌∙◌, subst, arith}
use Rattle.std.specs.List.{Contains}
use Rattle.std.proofs.Math.Seq.{take-length}
use Rattle.std.proofs.lemmas.Bool.{cases_eq}
use Rattle.std.proofs.lemmas.List.{get_or-set_same, get_or-set_other, take_more}
use Rattle.std.proofs.lemmas.List.Elements.{Contains-get_or, Contains-push_cases}
use Rattle.pn_text.proofs.Members.{here, in_cons, none_in, there}
use Rattle.pn_outer.specs.declared.instance.Instance.{Instance}
use Rattle.pn_outer.specs.declared.instance.Link.{Link}
use Rattle.pn_outer.specs.Outer.{IsOuter}
use Rattle.pn_dep_paths.specs.BaseTexts.{Holds, IsBaseText, IsGroup, apart, project, text_at, together}
use Rattle.pn_dep_paths.specs.Relation.{AreRanks, AreTogether, LeadsOut}
use Rattle.pn_dep_paths.specs.Steps.{AreWritten, IsBelow}

-- two lists have the same texts for those that an instance leads to and that don't lead back
abbrev pub Agree : List Instance → ℕ → List (List ℕ) → List (List ℕ) → Type 0
Agree instances i a b = (j : ℕ) → LeadsOut instances i j → (AreTogether instances i j → ⊥) → text_at a j ≡ text_at b j

module _ (folders : List (List ℕ)) (instances : List Instance) (i : ℕ) (a b : List (List ℕ)) (agree : Agree instances i a b) where
  pub holds_by : (pair : Link) (text : List ℕ) → IsOuter instances pair i → Holds folders instances a i pair text → Holds folders instances b i pair text
  holds_by pair text o (project q e is) = project q e is
  holds_by pair text o (together j e t is) = together j e t is
  holds_by pair text o (apart j e n is) = apart j e n (is ∙ agree j.0 (record { pair = pair; outer = o; to = e }) n)

  pub group_by : (g : List ℕ) → IsGroup folders instances a i g → IsGroup folders instances b i g
  group_by g h = record { pair = h.pair; outer = h.outer; text = h.text; holds = holds_by h.pair h.text h.outer h.holds; is = h.is }

pub agree_back : (instances : List Instance) (i : ℕ) (a b : List (List ℕ)) → Agree instances i a b → Agree instances i b a
agree_back instances i a b h = λ j l n. sym (h j l n)

pub base_by : (folders : List (List ℕ)) (instances : List Instance) (i : ℕ) (a b : List (List ℕ)) (text : List ℕ) → Agree instances i a b → IsBaseText folders instances a i text → IsBaseText folders instances b i text
base_by folders instances i a b text agree h = record {
  groups = h.groups;
  are = record {
    rising = h.are.rising;
    right = λ g c. group_by folders instances i a b agree g (h.are.right g c);
    all = λ g k. h.are.all g (group_by folders instances i b a (agree_back instances i a b agree) g k);
  };
  is = h.is;
}

taken : {X : Type 0} (xs : List X) (k : ℕ) (x : X) → Contains (take k xs) x → Contains xs x
taken xs zero x c = absurd (none_in x c)
taken [] (suc k) x c = c
taken (y ∷ xs) (suc k) x c = elim (in_cons y (take k xs) x c) [
  | inl e ↦ subst (Contains (y ∷ xs)) e (here y xs)
  | inr r ↦ there y xs x (taken xs k x r)
]

module _ (folders : List (List ℕ)) (instances : List Instance) (numbers : List ℕ) (ranks : AreRanks instances numbers) where
  -- a text that is written is none that an instance of no greater number rests on
  rests : (texts : List (List ℕ)) (x i : ℕ) (t : List ℕ) → get_or numbers i 0 ≤ get_or numbers x 0 → Agree instances i texts (set texts x t)
  rests texts x i t le j l n = sym (get_or-set_other texts x j t [] (λ e. other e)) where
    other : j ≡ x → ⊥
    other e =
        let low = ranks.lower i j l in
        let same : get_or numbers j 0 ≡ get_or numbers x 0 = ap (λ (k : ℕ). get_or numbers k 0) e in
        n (ranks.same i j l (omega (arith, low, le, same)))

  -- one text more
  pub one_more : (texts : List (List ℕ)) (x i : ℕ) (t : List ℕ) → x < length texts → get_or numbers i 0 ≤ get_or numbers x 0 → IsBaseText folders instances texts x t
      → (i ≢ x → IsBaseText folders instances texts i (text_at texts i)) → IsBaseText folders instances (set texts x t) i (text_at (set texts x t) i)
  one_more texts x i t lt le new old = elim (cases_eq i x) [
    | inl same ↦ subst (λ (k : ℕ). IsBaseText folders instances (set texts x t) k (text_at (set texts x t) k)) (sym same)
        (subst (IsBaseText folders instances (set texts x t) x) (sym (get_or-set_same texts x t [] lt))
        (base_by folders instances x texts (set texts x t) t (rests texts x x t (omega arith)) new))
    | inr other ↦ subst (IsBaseText folders instances (set texts x t) i) (sym (get_or-set_other texts x i t [] other))
        (base_by folders instances i texts (set texts x t) (text_at texts i) (rests texts x i t le) (old other))
  ]

  -- the next member of a component
  pub more_written : (texts : List (List ℕ)) (row : List ℕ) (c k : ℕ) (t : List ℕ) → k < length row → ((m : ℕ) → Contains row m → (m < length instances) × (get_or numbers m 0 ≡ c)) → length texts ≡ length instances
      → IsBaseText folders instances texts (get_or row k 0) t → AreWritten folders instances (λ i. IsBelow instances numbers c i ⊎ Contains (take k row) i) texts
      → AreWritten folders instances (λ i. IsBelow instances numbers c i ⊎ Contains (take (k + 1) row) i) (set texts (get_or row k 0) t)
  more_written texts row c k t lt members long new h = λ i this.
      let x = get_or row k 0 in
      let m = members x (Contains-get_or row k 0 lt) in
      let within : x < length texts = (let w = m.0 in omega (arith, w, long)) in
      let rank = m.1 in
      elim this [
        | inl low ↦ one_more texts x i t within (let l = low.1 in omega (arith, l, rank)) new (λ n. h i (inl low))
        | inr c' ↦ elim (Contains-push_cases (take k row) x i (subst (λ (l : List ℕ). Contains l i) (take_more row k 0 lt) c')) [
          | inl old ↦ one_more texts x i t within (let e = (members i (taken row k i old)).1 in omega (arith, e, rank)) new (λ n. h i (inr old))
          | inr same ↦ one_more texts x i t within (let e = ap (λ (j : ℕ). get_or numbers j 0) same in omega (arith, e)) new (λ n. absurd (n (sym same)))
        ]
      ]

-- a loop's end
pub whole : {X : Type 0} (xs : List X) (i : ℕ) → i ≤ length xs → length xs ≤ i → take i xs ≡ xs
whole xs i a b = let same : length xs ≡ i = omega (arith, a, b) in subst (λ (n : ℕ). take n xs ≡ xs) same (take-length xs)

-- the next component
pub next_component : (folders : List (List ℕ)) (instances : List Instance) (numbers row : List ℕ) (texts : List (List ℕ)) (c : ℕ) → ((i : ℕ) → i < length instances → get_or numbers i 0 ≡ c → Contains row i)
    → AreWritten folders instances (λ i. IsBelow instances numbers c i ⊎ Contains row i) texts → AreWritten folders instances (IsBelow instances numbers (c + 1)) texts
next_component folders instances numbers row texts c all h = λ i low. elim (below_or (get_or numbers i 0) c low.1) [
  | inl less ↦ h i (inl (low.0, less))
  | inr same ↦ h i (inr (all i low.0 same))
] where
  below_or : (k n : ℕ) → k < n + 1 → (k < n) ⊎ (k ≡ n)
  below_or k n lt = grind arith
