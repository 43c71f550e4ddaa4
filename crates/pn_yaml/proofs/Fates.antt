-- What the lines in front settle, of lines that are read: the fault, whatever comes behind; the answer, with lines in
-- front left; or nothing yet, where the answer is good if nothing more comes, and what comes is to blame if it isn't.
use Rattle.std.proofs.Common.{◌≡◌, ◌≤◌, ℕ, suc, Bool, true, false, List, [], ◌∷◌, ◌++◌, length, Result, Ok, Err, refl, sym, ap, ◌∙◌, subst, arith}
use Rattle.std.specs.Prelude.{if◌then◌else◌}
use Rattle.pn_yaml.specs.declared.fault.Why.{Why}
use Rattle.pn_yaml.specs.declared.fault.Why.TheVariants as why
use Rattle.pn_yaml.specs.declared.fault.YamlFault.{YamlFault}
use Rattle.pn_yaml.specs.declared.fault.YamlFault.TheVariants as fault
use Rattle.pn_yaml.specs.Bytes.{starts}
use Rattle.pn_yaml.specs.Outcome.{◌>>=◌, wrong}
use Rattle.pn_yaml.specs.Rows.{Row, ahead, content, first_ahead, is_marker, is_passed_over, is_three, met, passed, unopened}
use Rattle.pn_yaml.proofs.RowLines.{OnLines, Stays, ahead-stays, first-stays, stays-ahead, stays-map, stays-then}

abbrev pub Reads : Type 0 → Type 0
Reads A = Result (A × List Row) YamlFault

-- of what is read by the lines that come behind; at most `most` lines in front are left
pub data Fate (A : Type 0) (P : ℕ → Type 0) (most : ℕ) (f : List Row → Reads A) : Type 0 where
  fails : (e : YamlFault) → ((more : List Row) → f more ≡ Err e) → Fate A P most f
  ends : (x : A) (row : Row) (left : List Row) → suc (length left) ≤ most → ((more : List Row) → f more ≡ Ok (x, row ∷ (left ++ more))) → Fate A P most f
  goes_on : (x : A) → f [] ≡ Ok (x, []) → ((more : List Row) → OnLines P more → Stays P (f more)) → Fate A P most f

pub fate-wrong : {A : Type 0} (P : ℕ → Type 0) (most line : ℕ) (w : Why) → Fate A P most (λ more. wrong line w)
fate-wrong P most line w = fails (fault.Line line w) (λ more. refl)

pub fate-if : {A : Type 0} (P : ℕ → Type 0) (most : ℕ) (b : Bool) (f g : List Row → Reads A) → Fate A P most f → Fate A P most g → Fate A P most (λ more. if b then f more else g more)
fate-if P most true f g h i = h
fate-if P most false f g h i = i

pub fate-more : {A : Type 0} (P : ℕ → Type 0) (few most : ℕ) (f : List Row → Reads A) → few ≤ most → Fate A P few f → Fate A P most f
fate-more P few most f l (fails e h) = fails e h
fate-more P few most f l (ends x row left m h) = ends x row left (omega arith) h
fate-more P few most f l (goes_on x e h) = goes_on x e h

pub fate-same : {A : Type 0} (P : ℕ → Type 0) (most : ℕ) (f g : List Row → Reads A) → ((more : List Row) → f more ≡ g more) → Fate A P most g → Fate A P most f
fate-same P most f g same (fails e h) = fails e (λ more. same more ∙ h more)
fate-same P most f g same (ends x row left m h) = ends x row left m (λ more. same more ∙ h more)
fate-same {A} P most f g same (goes_on x e h) = goes_on x (same [] ∙ e) (λ more l. subst (λ (r : Reads A). Stays P r) (sym (same more)) (h more l))

-- the answer in another form
pub fate-map : {A B : Type 0} (P : ℕ → Type 0) (most : ℕ) (m : Reads A → Reads B) (t : A → B) → ((x : A) (rows : List Row) → m (Ok (x, rows)) ≡ Ok (t x, rows)) → ((e : YamlFault) → m (Err e) ≡ Err e)
    → (f : List Row → Reads A) → Fate A P most f → Fate B P most (λ more. m (f more))
fate-map P most m t ok err f (fails e h) = fails e (λ more. ap m (h more) ∙ err e)
fate-map P most m t ok err f (ends x row left l h) = ends (t x) row left l (λ more. ap m (h more) ∙ ok x (row ∷ (left ++ more)))
fate-map P most m t ok err f (goes_on x e h) = goes_on (t x) (ap m e ∙ ok x []) (λ more l. stays-map P m t ok err (f more) (h more l))

-- what doesn't hang on the lines, and then what does
pub fate-behind : {A B : Type 0} (P : ℕ → Type 0) (most : ℕ) (r : Result A YamlFault) (g : A → List Row → Reads B) → ((x : A) → Fate B P most (g x)) → Fate B P most (λ more. r >>= λ x. g x more)
fate-behind P most (Ok x) g h = h x
fate-behind P most (Err e) g h = fails e (λ more. refl)

-- what goes on with what was read, and the lines that are left
pub record GoesOn (A B : Type 0) (P : ℕ → Type 0) (most : ℕ) (g : List Row → A × List Row → Reads B) : Type 0 where
  pub left : (x : A) (row : Row) (left : List Row) → suc (length left) ≤ most → Fate B P most (λ more. g more (x, row ∷ (left ++ more)))
  pub value : A → B
  pub last : (x : A) → g [] (x, []) ≡ Ok (value x, [])
  pub stays : (more : List Row) (x : A) (rows : List Row) → OnLines P rows → Stays P (g more (x, rows))

pub fate-then : {A B : Type 0} (P : ℕ → Type 0) (most : ℕ) (f : List Row → Reads A) (g : List Row → A × List Row → Reads B) → GoesOn A B P most g → Fate A P most f
    → Fate B P most (λ more. f more >>= g more)
fate-then {A} P most f g n (fails e h) = fails e (λ more. ap (λ (r : Reads A). r >>= g more) (h more))
fate-then {A} P most f g n (ends x row left l h) =
    fate-same P most (λ more. f more >>= g more) (λ more. g more (x, row ∷ (left ++ more))) (λ more. ap (λ (r : Reads A). r >>= g more) (h more)) (n.left x row left l)
fate-then {A} P most f g n (goes_on x e h) =
    goes_on (n.value x) (ap (λ (r : Reads A). r >>= g []) e ∙ n.last x) (λ more l. stays-then P (f more) (g more) (h more l) (λ y m. n.stays more y.0 y.1 m))

-- what goes on with the next line that says something
pub record Follows (B : Type 0) (P : ℕ → Type 0) (most : ℕ) (g : List Row → Reads B) : Type 0 where
  pub left : (row : Row) (left : List Row) → suc (length left) ≤ most → Fate B P most (λ more. g (row ∷ (left ++ more)))
  pub value : B
  pub last : g [] ≡ Ok (value, [])
  pub stays : (rows : List Row) → OnLines P rows → Stays P (g rows)

met-fate : {B : Type 0} (P : ℕ → Type 0) (most : ℕ) (row : Row) (left : List Row) (g : List Row → Reads B) → suc (length left) ≤ most → Follows B P most g
    → Fate B P most (λ more. met (row ∷ (left ++ more)) >>= g)
met-fate {B} P most row left g l n =
    elim (starts 9 (content row)) as (λ b. Fate B P most (λ more. (if b then wrong row.line why.Tab else if is_marker row then wrong row.line why.LeftOut else Ok (row ∷ (left ++ more))) >>= g)) [
      | true ↦ fails (fault.Line row.line why.Tab) (λ more. refl)
      | false ↦ elim (is_marker row) as (λ b. Fate B P most (λ more. (if b then wrong row.line why.LeftOut else Ok (row ∷ (left ++ more))) >>= g)) [
        | true ↦ fails (fault.Line row.line why.LeftOut) (λ more. refl)
        | false ↦ n.left row left l
      ]
    ]

pub ahead-fate : {B : Type 0} (P : ℕ → Type 0) (most : ℕ) (rows : List Row) (g : List Row → Reads B) → length rows ≤ most → Follows B P most g → Fate B P most (λ more. ahead (rows ++ more) >>= g)
ahead-fate P most [] g l n = goes_on n.value n.last (λ more h. stays-ahead P (ahead more) g (ahead-stays P more h) n.stays)
ahead-fate {B} P most (row ∷ rows) g l n =
    elim (is_passed_over row) as (λ b. Fate B P most (λ more. met (if b then passed (rows ++ more) else row ∷ (rows ++ more)) >>= g)) [
      | true ↦ ahead-fate P most rows g (omega arith) n
      | false ↦ met-fate P most row rows g l n
    ]

pub first-fate : {B : Type 0} (P : ℕ → Type 0) (most : ℕ) (rows : List Row) (g : List Row → Reads B) → length rows ≤ most → Follows B P most g → Fate B P most (λ more. first_ahead (rows ++ more) >>= g)
first-fate P most [] g l n = goes_on n.value n.last (λ more h. stays-ahead P (first_ahead more) g (first-stays P more h) n.stays)
first-fate {B} P most (row ∷ rows) g l n =
    elim (is_passed_over row) as (λ b. Fate B P most (λ more. ahead (unopened (if b then passed (rows ++ more) else row ∷ (rows ++ more))) >>= g)) [
      | true ↦ first-fate P most rows g (omega arith) n
      | false ↦ elim (is_three 45 row.bytes) as (λ b. Fate B P most (λ more. ahead (if b then rows ++ more else row ∷ (rows ++ more)) >>= g)) [
        | true ↦ ahead-fate P most rows g (omega arith) n
        | false ↦ ahead-fate P most (row ∷ rows) g l n
      ]
    ]
