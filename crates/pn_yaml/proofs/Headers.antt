-- What opens a scalar of several lines.
use Rattle.std.proofs.Common.{◌≡◌, ℕ, ◌&&◌, ◌||◌, Bool, true, false, cond, eqb, List, [], ◌∷◌, Option, Some, None, refl, sym, ap, ◌∙◌}
use Rattle.std.proofs.lemmas.Bool.{eqb-true, and_right}
use Rattle.pn_yaml.specs.declared.scalar.Place.TheVariants as place
use Rattle.pn_yaml.specs.Bytes.{starts, is_empty, is_blank, is_bare, unindented, trimmed, is_comment}
use Rattle.pn_yaml.specs.Blocks.{Style, style_of}
use Rattle.pn_yaml.specs.Literals.{chomp_of}
use Rattle.std.specs.Prelude.{if◌then◌else◌}
use Rattle.pn_yaml.specs.Scalars.{plain_front}

abbrev front : List ℕ → List ℕ
front t = plain_front place.Value t

begins_mark : (t : List ℕ) → starts 35 t ≡ true → true ≡ (is_empty (unindented t) || starts 35 (unindented t))
begins_mark [] s = absurd cc
begins_mark (c ∷ t) s = let e : c ≡ 35 = eqb-true c 35 s in rw e refl

blank_front : (t : List ℕ) → starts 35 t ≡ false → is_blank (front t) ≡ (is_blank t || starts 35 (unindented t))
blank_front [] not_mark = refl
blank_front (b ∷ t) not_mark =
    elim (eqb b 32) as (λ o. eqb b 32 ≡ o → is_blank (cond (o && starts 35 t) [] (b ∷ front t)) ≡ (is_empty (cond o (unindented t) (b ∷ t)) || starts 35 (cond o (unindented t) (b ∷ t)))) [
      | false ↦ λ e. rw (e, not_mark) refl
      | true ↦ λ e. elim (starts 35 t) as (λ s. starts 35 t ≡ s → is_blank (cond s [] (b ∷ front t)) ≡ (is_empty (unindented t) || starts 35 (unindented t))) [
        | true ↦ λ s. begins_mark t s
        | false ↦ λ s. rw e (blank_front t s)
      ] refl
    ] refl

-- nothing but a comment is there just where the plain scalar there is of spaces
pub bare_front : (t : List ℕ) → is_bare t ≡ is_blank (front t)
bare_front [] = refl
bare_front (b ∷ t) =
    elim (eqb b 32) as (λ o. eqb b 32 ≡ o → (is_empty (cond o (unindented t) (b ∷ t)) || (o && starts 35 (cond o (unindented t) (b ∷ t)))) ≡ is_blank (cond (o && starts 35 t) [] (b ∷ front t))) [
      | false ↦ λ e. rw e refl
      | true ↦ λ e. elim (starts 35 t) as (λ s. starts 35 t ≡ s → (is_empty (unindented t) || starts 35 (unindented t)) ≡ is_blank (cond s [] (b ∷ front t))) [
        | true ↦ λ s. sym (begins_mark t s)
        | false ↦ λ s. rw e (sym (blank_front t s))
      ] refl
    ] refl

-- the byte that begins it
abbrev pub sign : Bool → ℕ
sign true = 62
sign false = 124

abbrev style : Bool → Bool → Option Style
style f ended = Some (record { folded = f; ended = ended })

abbrev none : Option Style
none = None

front_sign : (f : Bool) (t : List ℕ) → trimmed (front (sign f ∷ t)) ≡ sign f ∷ trimmed (front t)
front_sign true t = refl
front_sign false t = refl

alone : (f : Bool) → style_of (sign f ∷ []) ≡ style f true
alone true = refl
alone false = refl

plus : (f : Bool) → style_of (sign f ∷ 43 ∷ []) ≡ style f true
plus true = refl
plus false = refl

minus : (f : Bool) → style_of (sign f ∷ 45 ∷ []) ≡ style f false
minus true = refl
minus false = refl

other : (f : Bool) (c : ℕ) → eqb c 45 ≡ false → eqb c 43 ≡ false → style_of (sign f ∷ c ∷ []) ≡ none
other true c m p = rw (m, p) refl
other false c m p = rw (m, p) refl

longer : (f : Bool) (c d : ℕ) (t : List ℕ) → style_of (sign f ∷ c ∷ d ∷ t) ≡ none
longer true c d t = rw (and_right (eqb c 43) false refl, and_right (eqb c 45) false refl) refl
longer false c d t = rw (and_right (eqb c 43) false refl, and_right (eqb c 45) false refl) refl

-- a text trimmed at its end is empty, or begins as it did
trimmed_blank : (t : List ℕ) → is_blank t ≡ true → trimmed t ≡ []
trimmed_blank [] e = refl
trimmed_blank (b ∷ t) e = rw e refl

trimmed_other : (b : ℕ) (t : List ℕ) → is_blank (b ∷ t) ≡ false → trimmed (b ∷ t) ≡ b ∷ trimmed t
trimmed_other b t e = rw e refl

-- behind one more byte
behind_sign : (f : Bool) (c : ℕ) (u : List ℕ) (o : Option Style) → style_of (sign f ∷ c ∷ []) ≡ o → style_of (sign f ∷ c ∷ trimmed u) ≡ cond (is_blank u) o none
behind_sign f c [] o e = e
behind_sign f c (d ∷ u) o e =
    elim (is_blank (d ∷ u)) as (λ x. is_blank (d ∷ u) ≡ x → style_of (sign f ∷ c ∷ trimmed (d ∷ u)) ≡ cond x o none) [
      | true ↦ λ h. ap (λ (t : List ℕ). style_of (sign f ∷ c ∷ t)) (trimmed_blank (d ∷ u) h) ∙ e
      | false ↦ λ h. ap (λ (t : List ℕ). style_of (sign f ∷ c ∷ t)) (trimmed_other d u h) ∙ longer f c d (trimmed u)
    ] refl

abbrev found : Bool → Bool × List ℕ → Option Style
found f c = cond (is_bare c.1) (style f c.0) none

-- behind a byte that is no comment
front_byte : (c : ℕ) (t : List ℕ) → eqb c 32 ≡ false → trimmed (front (c ∷ t)) ≡ c ∷ trimmed (front t)
front_byte c t e = rw e (trimmed_other c (front t) (rw e refl))

same_none : (x : Bool) → cond x none none ≡ none
same_none true = refl
same_none false = refl

blank_other : (b : ℕ) (t : List ℕ) → eqb b 45 ≡ false → eqb b 43 ≡ false → (f : Bool) → style_of (sign f ∷ trimmed (front (b ∷ t))) ≡ cond (is_blank (front (b ∷ t))) (style f true) none
blank_other b t m p f =
    elim (is_comment (b ∷ t)) as (λ o. is_comment (b ∷ t) ≡ o → style_of (sign f ∷ trimmed (cond o [] (b ∷ front t))) ≡ cond (is_blank (cond o [] (b ∷ front t))) (style f true) none) [
      | true ↦ λ h. alone f
      | false ↦ λ h. elim (is_blank (b ∷ front t)) as (λ x. is_blank (b ∷ front t) ≡ x → style_of (sign f ∷ trimmed (b ∷ front t)) ≡ cond x (style f true) none) [
        | true ↦ λ g. ap (λ (u : List ℕ). style_of (sign f ∷ u)) (trimmed_blank (b ∷ front t) g) ∙ alone f
        | false ↦ λ g. ap (λ (u : List ℕ). style_of (sign f ∷ u)) (trimmed_other b (front t) g) ∙ behind_sign f b (front t) none (other f b m p) ∙ same_none (is_blank (front t))
      ] refl
    ] refl

-- what opens such a scalar is its sign, what says how it ends, and nothing but a comment
pub style_found : (f : Bool) (t : List ℕ) → style_of (trimmed (front (sign f ∷ t))) ≡ found f (chomp_of t)
style_found f [] = ap style_of (front_sign f []) ∙ alone f
style_found f (b ∷ t) = ap style_of (front_sign f (b ∷ t)) ∙
    elim (eqb b 45) as (λ m. eqb b 45 ≡ m → style_of (sign f ∷ trimmed (front (b ∷ t))) ≡ found f (cond m (false, t) (cond (eqb b 43) (true, t) (true, b ∷ t)))) [
      | true ↦ λ m. let e : b ≡ 45 = eqb-true b 45 m in
          ap (λ (c : ℕ). style_of (sign f ∷ trimmed (front (c ∷ t)))) e ∙ ap (λ (u : List ℕ). style_of (sign f ∷ u)) (front_byte 45 t refl) ∙ behind_sign f 45 (front t) (style f false) (minus f)
          ∙ ap (λ (x : Bool). cond x (style f false) none) (sym (bare_front t))
      | false ↦ λ m. elim (eqb b 43) as (λ p. eqb b 43 ≡ p → style_of (sign f ∷ trimmed (front (b ∷ t))) ≡ found f (cond p (true, t) (true, b ∷ t))) [
        | true ↦ λ p. let e : b ≡ 43 = eqb-true b 43 p in
            ap (λ (c : ℕ). style_of (sign f ∷ trimmed (front (c ∷ t)))) e ∙ ap (λ (u : List ℕ). style_of (sign f ∷ u)) (front_byte 43 t refl) ∙ behind_sign f 43 (front t) (style f true) (plus f)
            ∙ ap (λ (x : Bool). cond x (style f true) none) (sym (bare_front t))
        | false ↦ λ p. blank_other b t m p f ∙ ap (λ (x : Bool). cond x (style f true) none) (sym (bare_front (b ∷ t)))
      ] refl
    ] refl

not_sign : (t : List ℕ) → starts 124 t ≡ false → starts 62 t ≡ false → starts 124 (trimmed (front t)) ≡ false × starts 62 (trimmed (front t)) ≡ false
not_sign [] a b = (refl, refl)
not_sign (c ∷ t) a b =
    elim (is_comment (c ∷ t)) as (λ o. (starts 124 (trimmed (cond o [] (c ∷ front t))) ≡ false) × (starts 62 (trimmed (cond o [] (c ∷ front t))) ≡ false)) [
      | true ↦ (refl, refl)
      | false ↦ elim (is_blank (c ∷ front t)) as (λ x. (starts 124 (cond x [] (c ∷ trimmed (front t))) ≡ false) × (starts 62 (cond x [] (c ∷ trimmed (front t))) ≡ false))
          [ true ↦ (refl, refl) | false ↦ (a, b) ]
    ]

no_style : (t : List ℕ) → starts 124 t ≡ false → starts 62 t ≡ false → style_of t ≡ none
no_style [] a b = refl
no_style (c ∷ t) a b = rw (a, b) refl

pub style_none : (t : List ℕ) → starts 124 t ≡ false → starts 62 t ≡ false → style_of (trimmed (front t)) ≡ none
style_none t a b = let h = not_sign t a b in no_style (trimmed (front t)) h.0 h.1

pub style_read : (text rest : List ℕ) (f ended bare : Bool) (after : List ℕ) → text ≡ (if f then 62 else 124) ∷ rest → ended ≡ (chomp_of rest).0 → after ≡ (chomp_of rest).1 → is_bare after ≡ bare
    → style_of (trimmed (front text)) ≡ cond bare (style f ended) none
style_read text rest f ended bare after t e a b =
    ap (λ (u : List ℕ). style_of (trimmed (front u))) (t ∙ ap (λ (c : ℕ). c ∷ rest) (is_sign f)) ∙ style_found f rest ∙ rw (← e, ← a, b) refl
  where
    is_sign : (f : Bool) → (if f then 62 else 124) ≡ sign f
    is_sign true = refl
    is_sign false = refl
