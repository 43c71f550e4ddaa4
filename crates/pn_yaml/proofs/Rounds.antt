-- One round of a flow: what comes next, an item or a member, and what is behind it.
use Rattle.std.proofs.Common.{◌≡◌, ℕ, ◌<◌, ◌≤◌, length, arith, List, [], ◌∷◌, Bool, true, false, Result, Ok, Err, refl, ap, ◌∙◌}
use Rattle.std.specs.Prelude.{if◌then◌else◌}
use Rattle.pn_yaml.specs.declared.fault.Why.TheVariants as why
use Rattle.pn_yaml.specs.declared.fault.YamlFault.{YamlFault}
use Rattle.pn_yaml.specs.Bytes.{is_bare, starts, tail_of, unindented}
use Rattle.pn_yaml.specs.Outcome.{◌>>=◌, wrong}
use Rattle.pn_yaml.specs.Flow.{behind_value}
use Rattle.pn_yaml.specs.FlowSteps.{before_step, behind_step}
use Rattle.pn_yaml.proofs.Shrinking.{Within, tail_within, unindented_within, within_more, within_then}

abbrev pub Reads : Type 0 → Type 0
Reads A = Result (A × List ℕ) YamlFault

-- closed, or on it goes
abbrev pub goes : {A : Type 0} → A → (List ℕ → Reads A) → Bool × List ℕ → Reads A
goes end more s = if s.0 then Ok (end, s.1) else more s.1

-- an item or a member, before what is behind it
abbrev pub one_more : {A D : Type 0} → ℕ → ℕ → A → (D → Reads A → Reads A) → (D → List ℕ → Reads A) → D × List ℕ → Reads A
one_more line close end put more v = put v.0 (behind_step line close v.1 >>= goes end (more v.0))

abbrev pub round : {A D : Type 0} → ℕ → ℕ → A → (List ℕ → Reads D) → (D → Reads A → Reads A) → (D → List ℕ → Reads A) → List ℕ → Reads A
round line close end one put more text = before_step line close text >>= goes end (λ front. one front >>= one_more line close end put more)

-- the definitions go round so
pub behind_is : {A : Type 0} (line close : ℕ) (end : A) (more : List ℕ → Reads A) (text : List ℕ) → behind_value line close end more (unindented text) ≡ behind_step line close text >>= goes end more
behind_is {A} line close end more text =
    elim (starts 44 (unindented text)) as (λ v. (if v then more (tail_of (unindented text)) else if starts close (unindented text) then Ok (end, tail_of (unindented text)) else wrong line why.Flow)
    ≡ (if◌then◌else◌ {A = Reads Bool} v (Ok (false, tail_of (unindented text))) (if starts close (unindented text) then Ok (true, tail_of (unindented text)) else wrong line why.Flow)) >>= goes end more) [
      | true ↦ refl
      | false ↦ elim (starts close (unindented text)) as (λ v. (if◌then◌else◌ {A = Reads A} v (Ok (end, tail_of (unindented text))) (wrong line why.Flow))
          ≡ (if◌then◌else◌ {A = Reads Bool} v (Ok (true, tail_of (unindented text))) (wrong line why.Flow)) >>= goes end more) [
            | true ↦ refl
            | false ↦ refl
          ]
    ]

pub before_is : {A : Type 0} (line close : ℕ) (end : A) (more : List ℕ → Reads A) (text : List ℕ)
    → (if is_bare text then wrong line why.Flow else if starts close (unindented text) then Ok (end, tail_of (unindented text)) else more (unindented text)) ≡ before_step line close text >>= goes end more
before_is {A} line close end more text =
    elim (is_bare text) as (λ v. (if◌then◌else◌ {A = Reads A} v (wrong line why.Flow) (if starts close (unindented text) then Ok (end, tail_of (unindented text)) else more (unindented text)))
    ≡ (if◌then◌else◌ {A = Reads Bool} v (wrong line why.Flow) (if starts close (unindented text) then Ok (true, tail_of (unindented text)) else Ok (false, unindented text))) >>= goes end more) [
      | true ↦ refl
      | false ↦ elim (starts close (unindented text)) as (λ v. (if◌then◌else◌ {A = Reads A} v (Ok (end, tail_of (unindented text))) (more (unindented text)))
          ≡ (if◌then◌else◌ {A = Reads Bool} v (Ok (true, tail_of (unindented text))) (Ok (false, unindented text))) >>= goes end more) [
            | true ↦ refl
            | false ↦ refl
          ]
    ]

pub then_alike : {A B : Type 0} (r : Reads A) (f g : A × List ℕ → Reads B) → ((x : A × List ℕ) → f x ≡ g x) → (r >>= f) ≡ (r >>= g)
then_alike (Ok x) f g e = e x
then_alike (Err d) f g e = refl

-- what a round gives, by its steps
pub round_closed : {A D : Type 0} (line close : ℕ) (end : A) (one : List ℕ → Reads D) (put : D → Reads A → Reads A) (more : D → List ℕ → Reads A) (text after : List ℕ)
    → before_step line close text ≡ Ok (true, after) → round line close end one put more text ≡ Ok (end, after)
round_closed {A} line close end one put more text after e = ap (λ (r : Reads Bool). r >>= goes end (λ front. one front >>= one_more line close end put more)) e

pub round_unbegun : {A D : Type 0} (line close : ℕ) (end : A) (one : List ℕ → Reads D) (put : D → Reads A → Reads A) (more : D → List ℕ → Reads A) (text : List ℕ) (e : YamlFault)
    → before_step line close text ≡ Err e → round line close end one put more text ≡ Err e
round_unbegun {A} line close end one put more text e f = ap (λ (r : Reads Bool). r >>= goes end (λ front. one front >>= one_more line close end put more)) f

pub round_on : {A D : Type 0} (line close : ℕ) (end : A) (one : List ℕ → Reads D) (put : D → Reads A → Reads A) (more : D → List ℕ → Reads A) (text front : List ℕ) (r : Reads D)
    → before_step line close text ≡ Ok (false, front) → one front ≡ r → round line close end one put more text ≡ r >>= one_more line close end put more
round_on {A} {D} line close end one put more text front r e f =
    ap (λ (r : Reads Bool). r >>= goes end (λ front. one front >>= one_more line close end put more)) e
    ∙ ap (λ (r : Reads D). r >>= one_more line close end put more) f

pub after_is : {A D : Type 0} (line close : ℕ) (end : A) (put : D → Reads A → Reads A) (more : D → List ℕ → Reads A) (d : D) (after : List ℕ) (s : Reads Bool)
    → behind_step line close after ≡ s → one_more line close end put more (d, after) ≡ put d (s >>= goes end (more d))
after_is {A} line close end put more d after s e = ap (λ (r : Reads Bool). put d (r >>= goes end (more d))) e

-- ---- lengths

pub before_within : (line close : ℕ) (text : List ℕ) → Within (length text) (before_step line close text)
before_within line close text =
    elim (is_bare text) as (λ v. Within (length text) (if◌then◌else◌ {A = Reads Bool} v (wrong line why.Flow) (if starts close (unindented text) then Ok (true, tail_of (unindented text)) else Ok (false, unindented text)))) [
      | true ↦ tt
      | false ↦ elim (starts close (unindented text)) as (λ v. Within (length text) (if◌then◌else◌ {A = Reads Bool} v (Ok (true, tail_of (unindented text))) (Ok (false, unindented text)))) [
        | true ↦ omega (arith, tail_within (unindented text), unindented_within text)
        | false ↦ unindented_within text
      ]
    ]

pub behind_within : (line close : ℕ) (text : List ℕ) → Within (length text) (behind_step line close text)
behind_within line close text =
    elim (starts 44 (unindented text)) as (λ v. Within (length text) (if◌then◌else◌ {A = Reads Bool} v (Ok (false, tail_of (unindented text))) (if starts close (unindented text) then Ok (true, tail_of (unindented text)) else wrong line why.Flow))) [
      | true ↦ omega (arith, tail_within (unindented text), unindented_within text)
      | false ↦ elim (starts close (unindented text)) as (λ v. Within (length text) (if◌then◌else◌ {A = Reads Bool} v (Ok (true, tail_of (unindented text))) (wrong line why.Flow))) [
        | true ↦ omega (arith, tail_within (unindented text), unindented_within text)
        | false ↦ tt
      ]
    ]

shorter : (text : List ℕ) → starts 44 text ≡ true → length (tail_of text) < length text
shorter [] e = absurd cc
shorter (b ∷ rest) e = omega arith

abbrev done : {A : Type 0} → A → Result A YamlFault
done x = Ok x

ok_is : {A : Type 0} (x y : A) → done x ≡ done y → x ≡ y
ok_is x y e = cc

-- behind a comma the text is shorter
pub comma_shorter : (line close : ℕ) (text more : List ℕ) → behind_step line close text ≡ Ok (false, more) → length more < length text
comma_shorter line close text more e =
    elim (starts 44 (unindented text)) as (λ v. starts 44 (unindented text) ≡ v
    → (if◌then◌else◌ {A = Reads Bool} v (Ok (false, tail_of (unindented text))) (if starts close (unindented text) then Ok (true, tail_of (unindented text)) else wrong line why.Flow)) ≡ Ok (false, more) → length more < length text) [
      | true ↦ λ s f. let same : tail_of (unindented text) ≡ more = ap (λ (p : Bool × List ℕ). p.1) (ok_is (false, tail_of (unindented text)) (false, more) f) in omega (arith, ap (λ (t : List ℕ). length t) same, shorter (unindented text) s, unindented_within text)
      | false ↦ λ s. elim (starts close (unindented text)) as (λ v. (if◌then◌else◌ {A = Reads Bool} v (Ok (true, tail_of (unindented text))) (wrong line why.Flow)) ≡ Ok (false, more) → length more < length text) [
        | true ↦ λ f. let h : true ≡ false = ap (λ (p : Bool × List ℕ). p.0) (ok_is (true, tail_of (unindented text)) (false, more) f) in absurd cc
        | false ↦ λ f. absurd cc
      ]
    ] refl e

pub round_within : {A D : Type 0} (line close : ℕ) (end : A) (one : List ℕ → Reads D) (put : D → Reads A → Reads A) (more : D → List ℕ → Reads A) (text : List ℕ)
    → ((front : List ℕ) → Within (length front) (one front)) → ((d : D) (n : ℕ) (r : Reads A) → Within n r → Within n (put d r)) → ((d : D) (rest : List ℕ) → Within (length rest) (more d rest))
    → Within (length text) (round line close end one put more text)
round_within {A} {D} line close end one put more text ones puts mores =
    let n = length text in
    let going : (f : List ℕ → Reads A) → ((t : List ℕ) → length t ≤ n → Within n (f t)) → (s : Bool × List ℕ) → length s.1 ≤ n → Within n (goes end f s) =
    λ f h s l. elim s.0 as (λ v. Within n (if v then Ok (end, s.1) else f s.1)) [ true ↦ l | false ↦ h s.1 l ] in
    within_then n n (before_step line close text) (goes end (λ front. one front >>= one_more line close end put more)) (before_within line close text)
    (going (λ front. one front >>= one_more line close end put more)
    (λ front l. within_then n n (one front) (one_more line close end put more) (within_more (length front) n (one front) l (ones front))
    (λ v m. puts v.0 n (behind_step line close v.1 >>= goes end (more v.0))
    (within_then n n (behind_step line close v.1) (goes end (more v.0)) (within_more (length v.1) n (behind_step line close v.1) m (behind_within line close v.1))
    (going (more v.0) (λ t k. within_more (length t) n (more v.0 t) k (mores v.0 t)))))))
