-- A comparator is read in one way.
use Rattle.std.proofs.Common.{◌≡◌, ℕ, Bool, true, false, List, [], ◌∷◌, ◌++◌, Option, Some, None, refl, sym, ap, ◌∙◌, arith, inl, inr, append_assoc, append-nil}
use Rattle.std.specs.Prelude.{◌==◌, ◌||◌, if◌then◌else◌}
use Rattle.std.specs.List.{list_all}
use Rattle.std.proofs.lemmas.Bool.{and_parts, cases_Bool, eqb-true}
use Rattle.std.proofs.lemmas.Bool.Decides.{nat_tests}
use Rattle.semver.specs.Grammar.{is_build_identifier, is_identifier_byte, is_pre_identifier}
use Rattle.pn_ranges.specs.declared.comparator.Sign.{Sign}
use Rattle.pn_ranges.specs.declared.comparator.Sign.TheVariants as x
use Rattle.pn_ranges.specs.Bytes.{is_space, is_lead, is_wild, is_digit, is_body, is_open, is_word, front_of, behind, starts_with, number_at, number_from}
use Rattle.pn_ranges.specs.Grammar.{AreIdentifiers, AreSpaces, IsBuild, IsComparator, IsEnd, IsNumber, IsPart, IsPartial, IsSign, IsTail}
use Rattle.pn_ranges.specs.Grammar as g
use Rattle.pn_ranges.specs.Reading.{joined, signed, tilded}
use Rattle.pn_ranges.specs.Table.{Named, named, limits, all_fit}
use Rattle.pn_ranges.proofs.Accepts.{number-of}
use Rattle.pn_ranges.proofs.FrontOfLemmas.{behind-append, behind-same, behind-stops}
use Rattle.pn_ranges.proofs.OverProofs.{all-append}

pub digit-body : (b : ℕ) → is_digit b ≡ true → is_body b ≡ true
digit-body b h = grind (arith, nat_tests)

wild-body : (b : ℕ) → is_wild b ≡ true → is_body b ≡ true
wild-body b h = grind (arith, nat_tests)

pub lead-body : (b : ℕ) → is_lead b ≡ true → is_body b ≡ true
lead-body b h = grind (arith, nat_tests)

word-body : (b : ℕ) → is_identifier_byte b ≡ true → is_body b ≡ true
word-body b h = grind (arith, nat_tests)

pub all-weaken : (f h : ℕ → Bool) → ((b : ℕ) → f b ≡ true → h b ≡ true) → (t : List ℕ) → list_all f t ≡ true → list_all h t ≡ true
all-weaken f h more [] all = refl
all-weaken f h more (b ∷ t) all = rw (more b (and_parts (f b) (list_all f t) all).0) (all-weaken f h more t (and_parts (f b) (list_all f t) all).1)

pub part-body : (t : List ℕ) (a : Option ℕ) → IsPart t a → list_all is_body t ≡ true
part-body _ _ (g.wild b w) = all-weaken is_wild is_body wild-body (b ∷ []) (rw w refl)
part-body _ _ (g.number t n i low) = number t n i where
  number : (t : List ℕ) (n : ℕ) → IsNumber t n → list_all is_body t ≡ true
  number _ _ g.zero = refl
  number _ _ (g.counted b bs d z all) = all-weaken is_digit is_body digit-body (b ∷ bs) (rw (d, all) refl)

ids-all : (test : ℕ → Bool) → test 46 ≡ true → (right : List ℕ → Bool) → ((y : List ℕ) → right y ≡ true → list_all test y ≡ true) → (t : List ℕ) → AreIdentifiers right t → list_all test t ≡ true
ids-all test dot right f _ (g.one y h) = f y h
ids-all test dot right f _ (g.more y t h a) = all-append test y (46 ∷ t) (f y h) (rw dot (ids-all test dot right f t a))

pub ids-body : (right : List ℕ → Bool) → ((y : List ℕ) → right y ≡ true → list_all is_body y ≡ true) → (t : List ℕ) → AreIdentifiers right t → list_all is_body t ≡ true
ids-body right f t a = ids-all is_body refl right f t a

pub build-id : (y : List ℕ) → is_build_identifier y ≡ true → list_all is_body y ≡ true
build-id y h = all-weaken is_identifier_byte is_body word-body y (and_parts _ (list_all is_identifier_byte y) h).1

pub pre-id : (y : List ℕ) → is_pre_identifier y ≡ true → list_all is_body y ≡ true
pre-id y h = build-id y (and_parts (is_build_identifier y) _ h).0

pub build-body : (t : List ℕ) → IsBuild t → list_all is_body t ≡ true
build-body _ g.absent = refl
build-body _ (g.build u a) = ids-body is_build_identifier build-id u a

pub tail-body : (s p : List ℕ) → IsTail s p → list_all is_body s ≡ true
tail-body _ _ (g.bare t b) = build-body t b
tail-body _ _ (g.pre p t a b) = all-append is_body p t (ids-body is_pre_identifier pre-id p a) (build-body t b)

pub partial-body : (t : List ℕ) (n : Named) → IsPartial t n → list_all is_body t ≡ true
partial-body _ _ (g.one t a i) = part-body t a i
partial-body _ _ (g.two t u a b i j) = all-append is_body t (46 ∷ u) (part-body t a i) (part-body u b j)
partial-body _ _ (g.three t u w s p a b c i j k l) =
    all-append is_body t (46 ∷ (u ++ 46 ∷ (w ++ s))) (part-body t a i)
    (all-append is_body u (46 ∷ (w ++ s)) (part-body u b j) (all-append is_body w s (part-body w c k) (tail-body s p l)))

pub end-body : (t : List ℕ) (n : Named) → IsEnd t n → list_all is_body t ≡ true
end-body _ n (g.end l t _ all p) = all-append is_body l t (all-weaken is_lead is_body lead-body l all) (partial-body t n p)

-- a text of such bytes is the front of what it begins
front-append : (test : ℕ → Bool) (s r : List ℕ) → list_all test s ≡ true → starts_with test r ≡ false → front_of test (s ++ r) ≡ s
front-append test [] [] all h = refl
front-append test [] (b ∷ r) all h = rw h refl
front-append test (b ∷ s) r all h = rw (and_parts (test b) (list_all test s) all).0 (ap (λ z. b ∷ z) (front-append test s r (and_parts (test b) (list_all test s) all).1 h))

pub behind-all : (test : ℕ → Bool) (s r : List ℕ) → list_all test s ≡ true → starts_with test r ≡ false → behind test (s ++ r) ≡ r
behind-all test s r all h = behind-append test s r all ∙ behind-same test r h

pub same-split : (test : ℕ → Bool) (s r t q : List ℕ) → list_all test s ≡ true → starts_with test r ≡ false → list_all test t ≡ true → starts_with test q ≡ false
    → s ++ r ≡ t ++ q → (s ≡ t) × (r ≡ q)
same-split test s r t q a h b k e = (
  sym (front-append test s r a h) ∙ ap (front_of test) e ∙ front-append test t q b k,
  sym (behind-all test s r a h) ∙ ap (behind test) e ∙ behind-all test t q b k,
)

-- the value of a part, and what is behind it
abbrev value : List ℕ → Option ℕ
value [] = None
value (b ∷ t) = if is_wild b then None else Some (number_at (b ∷ t))

abbrev past : List ℕ → List ℕ
past [] = []
past (b ∷ t) = if is_wild b then t else behind is_digit (b ∷ t)

digit-tame : (b : ℕ) → is_digit b ≡ true → is_wild b ≡ false
digit-tame b h = grind (arith, nat_tests)

zero-value : number_at (48 ∷ []) ≡ 0
unfolding number_from
zero-value = refl

part-value : (t : List ℕ) (a : Option ℕ) → IsPart t a → (r : List ℕ) → starts_with is_digit r ≡ false → (value (t ++ r) ≡ a) × (past (t ++ r) ≡ r)
part-value _ _ (g.wild b w) r h = (rw w refl, rw w refl)
part-value _ _ (g.number t n i low) r h = number t n i where
  number : (t : List ℕ) (n : ℕ) → IsNumber t n → (value (t ++ r) ≡ Some n) × (past (t ++ r) ≡ r)
  number _ _ g.zero = (ap (λ z. Some z) (number-of 0 (48 ∷ []) r h refl ∙ zero-value), behind-same is_digit r h)
  number _ _ (g.counted b bs d z all) = (
    rw (digit-tame b d) (ap (λ z. Some z) (number-of 0 (b ∷ bs) r h (rw (d, all) refl))),
    rw (digit-tame b d) (behind-all is_digit (b ∷ bs) r (rw (d, all) refl) h),
  )

-- the pre-release behind three parts
abbrev pre_at : List ℕ → List ℕ
pre_at [] = []
pre_at (b ∷ t) = if b == 45 then front_of is_word t else []

id-word : (b : ℕ) → is_identifier_byte b ≡ true → is_word b ≡ true
id-word b h = rw h refl

pre-word : (y : List ℕ) → is_pre_identifier y ≡ true → list_all is_word y ≡ true
pre-word y h = all-weaken is_identifier_byte is_word id-word y (and_parts _ (list_all is_identifier_byte y) (and_parts (is_build_identifier y) _ h).0).1

pre-is : (s p : List ℕ) → IsTail s p → pre_at s ≡ p
pre-is _ _ (g.bare t b) = build t b where
  build : (t : List ℕ) → IsBuild t → pre_at t ≡ []
  build _ g.absent = refl
  build _ (g.build u a) = refl
pre-is _ _ (g.pre p t a b) = front-append is_word p t (ids-all is_word refl is_pre_identifier pre-word p a) (build t b) where
  build : (t : List ℕ) → IsBuild t → starts_with is_word t ≡ false
  build _ g.absent = refl
  build _ (g.build u a) = refl

-- what is named
abbrev third : Option ℕ → Option ℕ → List ℕ → Named
third a b [] = named a b None []
third a b (d ∷ w) = if d == 46 then named a b (value w) (pre_at (past w)) else named a b None []

abbrev second : Option ℕ → List ℕ → Named
second a [] = named a None None []
second a (d ∷ u) = if d == 46 then third a (value u) (past u) else named a None None []

abbrev names : List ℕ → Named
names t = second (value t) (past t)

first-part : (t r : List ℕ) (a : Option ℕ) → IsPart t a → starts_with is_digit r ≡ false → names (t ++ r) ≡ second a r
first-part t r a i h = let p = part-value t a i r h in ap (λ z. second z (past (t ++ r))) p.0 ∙ ap (λ z. second a z) p.1

second-part : (a b : Option ℕ) (u r : List ℕ) → IsPart u b → starts_with is_digit r ≡ false → second a (46 ∷ (u ++ r)) ≡ third a b r
second-part a b u r i h = let p = part-value u b i r h in ap (λ z. third a z (past (u ++ r))) p.0 ∙ ap (λ z. third a b z) p.1

tail-digit : (s p : List ℕ) → IsTail s p → starts_with is_digit s ≡ false
tail-digit _ _ (g.bare t b) = build t b where
  build : (t : List ℕ) → IsBuild t → starts_with is_digit t ≡ false
  build _ g.absent = refl
  build _ (g.build u a) = refl
tail-digit _ _ (g.pre p t a b) = refl

partial-names : (t : List ℕ) (n : Named) → IsPartial t n → names t ≡ n
partial-names _ _ (g.one t a i) = ap names (sym (append-nil t)) ∙ first-part t [] a i refl
partial-names _ _ (g.two t u a b i j) = first-part t (46 ∷ u) a i refl ∙ ap (λ z. second a (46 ∷ z)) (sym (append-nil u)) ∙ second-part a b u [] j refl
partial-names _ _ (g.three t u w s p a b c i j k l) =
    let v = part-value w c k s (tail-digit s p l) in
    first-part t (46 ∷ (u ++ 46 ∷ (w ++ s))) a i refl ∙ second-part a b u (46 ∷ (w ++ s)) j refl
    ∙ ap (λ z. named a b z (pre_at (past (w ++ s)))) v.0 ∙ ap (λ z. named a b c z) (ap pre_at v.1 ∙ pre-is s p l)

-- what an end begins with
abbrev pub is_head : ℕ → Bool
is_head b = is_lead b || is_open b

pub record First (test : ℕ → Bool) (t : List ℕ) : Type 0 where
  pub byte : ℕ
  pub rest : List ℕ
  pub split : t ≡ byte ∷ rest
  pub is : test byte ≡ true

pub first-more : (test : ℕ → Bool) (t u : List ℕ) → First test t → First test (t ++ u)
first-more test t u f = record { byte = f.byte; rest = f.rest ++ u; split = ap (λ z. z ++ u) f.split; is = f.is }

pub first-not : (test other : ℕ → Bool) (t : List ℕ) → First test t → ((b : ℕ) → test b ≡ true → other b ≡ false) → starts_with other t ≡ false
first-not test other t f differs = ap (starts_with other) f.split ∙ differs f.byte f.is

digit-open : (b : ℕ) → is_digit b ≡ true → is_open b ≡ true
digit-open b h = grind (arith, nat_tests)

wild-open : (b : ℕ) → is_wild b ≡ true → is_open b ≡ true
wild-open b h = grind (arith, nat_tests)

part-first : (t : List ℕ) (a : Option ℕ) → IsPart t a → First is_open t
part-first _ _ (g.wild b w) = record { byte = b; rest = []; split = refl; is = wild-open b w }
part-first _ _ (g.number t n i low) = number t n i where
  number : (t : List ℕ) (n : ℕ) → IsNumber t n → First is_open t
  number _ _ g.zero = record { byte = 48; rest = []; split = refl; is = refl }
  number _ _ (g.counted b bs d z all) = record { byte = b; rest = bs; split = refl; is = digit-open b d }

pub partial-first : (t : List ℕ) (n : Named) → IsPartial t n → First is_open t
partial-first _ _ (g.one t a i) = part-first t a i
partial-first _ _ (g.two t u a b i j) = first-more is_open t (46 ∷ u) (part-first t a i)
partial-first _ _ (g.three t u w s p a b c i j k l) = first-more is_open t _ (part-first t a i)

open-head : (b : ℕ) → is_open b ≡ true → is_head b ≡ true
open-head b h = grind (arith, nat_tests)

pub lead-head : (b : ℕ) → is_lead b ≡ true → is_head b ≡ true
lead-head b h = grind (arith, nat_tests)

pub end-first : (t : List ℕ) (n : Named) → IsEnd t n → First is_head t
end-first _ n (g.end [] t _ all p) = let f = partial-first t n p in record { byte = f.byte; rest = f.rest; split = f.split; is = open-head f.byte f.is }
end-first _ n (g.end (b ∷ l) t _ all p) = record { byte = b; rest = l ++ t; split = refl; is = lead-head b (and_parts (is_lead b) (list_all is_lead l) all).0 }

open-lead : (b : ℕ) → is_open b ≡ true → is_lead b ≡ false
open-lead b h = grind (arith, nat_tests)

end-names : (t : List ℕ) (n : Named) → IsEnd t n → names (behind is_lead t) ≡ n
end-names _ n (g.end l t _ all p) = ap names (behind-all is_lead l t all (first-not is_open is_lead t (partial-first t n p) open-lead)) ∙ partial-names t n p

-- two readings of an end name the same
pub same-end : (t u r q : List ℕ) (n m : Named) → IsEnd t n → IsEnd u m → starts_with is_body r ≡ false → starts_with is_body q ≡ false → t ++ r ≡ u ++ q
    → (n ≡ m) × (r ≡ q)
same-end t u r q n m i j h k e =
    let s = same-split is_body t r u q (end-body t n i) h (end-body u m j) k e in
    (sym (end-names t n i) ∙ ap (λ z. names (behind is_lead z)) s.0 ∙ end-names u m j, s.1)

-- the operator at the front
joined-alone : (s l : Sign) (t : List ℕ) → starts_with (λ b. b == 61) t ≡ false → joined s l t ≡ (s, t)
joined-alone s l [] h = refl
joined-alone s l (b ∷ t) h = rw h refl

tilded-alone : (t : List ℕ) → starts_with (λ b. b == 62) t ≡ false → tilded t ≡ t
tilded-alone [] h = refl
tilded-alone (b ∷ t) h = rw h refl

-- how a text begins with a comparator
pub record Shape (text : List ℕ) (s : Sign) (n : Named) (r : List ℕ) : Type 0 where
  pub end : List ℕ
  pub is : IsEnd end n
  pub sign : (signed (behind is_space text)).0 ≡ s
  pub split : behind is_space (signed (behind is_space text)).1 ≡ end ++ r

head-space : (b : ℕ) → is_head b ≡ true → is_space b ≡ false
head-space b h = grind (arith, nat_tests)

head-62 : (b : ℕ) → is_head b ≡ true → (b == 62) ≡ false
head-62 b h = grind (arith, nat_tests)

space-62 : (b : ℕ) → is_space b ≡ true → (b == 62) ≡ false
space-62 b h = grind (arith, nat_tests)

pub behind-operand : (s t r : List ℕ) (n : Named) → AreSpaces s → IsEnd t n → behind is_space ((s ++ t) ++ r) ≡ t ++ r
behind-operand s t r n a i = ap (behind is_space) (append_assoc s t r) ∙ behind-all is_space s (t ++ r) a (first-not is_head is_space (t ++ r) (first-more is_head t r (end-first t n i)) head-space)

not-61 : (s t r : List ℕ) (n : Named) → IsEnd t n → starts_with (λ b. b == 61) (s ++ t) ≡ false → starts_with (λ b. b == 61) ((s ++ t) ++ r) ≡ false
not-61 [] t r n i h = let f = end-first t n i in ap (λ z. starts_with (λ b. b == 61) (z ++ r)) f.split ∙ sym (ap (starts_with (λ b. b == 61)) f.split) ∙ h
not-61 (b ∷ s) t r n i h = h

not-62 : (s t r : List ℕ) (n : Named) → AreSpaces s → IsEnd t n → starts_with (λ b. b == 62) ((s ++ t) ++ r) ≡ false
not-62 [] t r n a i = first-not is_head (λ b. b == 62) (t ++ r) (first-more is_head t r (end-first t n i)) head-62
not-62 (b ∷ s) t r n a i = space-62 b (and_parts (is_space b) (list_all is_space s) a).0

-- an end behind no operator
plain-sign : (b : ℕ) (t : List ℕ) → is_head b ≡ true → (b == 61) ≡ false → signed (b ∷ t) ≡ (x.Exact, b ∷ t)
plain-sign b t h n = rw (no-60 b h, head-62 b h, no-126 b h, no-94 b h, n) refl where
  no-60 : (b : ℕ) → is_head b ≡ true → (b == 60) ≡ false
  no-60 b h = grind (arith, nat_tests)

  no-126 : (b : ℕ) → is_head b ≡ true → (b == 126) ≡ false
  no-126 b h = grind (arith, nat_tests)

  no-94 : (b : ℕ) → is_head b ≡ true → (b == 94) ≡ false
  no-94 b h = grind (arith, nat_tests)

pub head-same : (t r : List ℕ) (n : Named) → IsEnd t n → behind is_space (t ++ r) ≡ t ++ r
head-same t r n i = behind-same is_space (t ++ r) (first-not is_head is_space (t ++ r) (first-more is_head t r (end-first t n i)) head-space)

open-61 : (b : ℕ) → is_open b ≡ true → (b == 61) ≡ false
open-61 b h = grind (arith, nat_tests)

record Plain (text : List ℕ) (n : Named) (r : List ℕ) : Type 0 where
  last : List ℕ
  is : IsEnd last n
  sign : (signed text).0 ≡ x.Exact
  split : behind is_space (signed text).1 ≡ last ++ r

pub end-shape : (t r : List ℕ) (n : Named) → IsEnd t n → Shape (t ++ r) x.Exact n r
end-shape t r n i = from (t ++ r) (head-same t r n i) (end t i) where
  from : (text : List ℕ) → behind is_space text ≡ text → Plain text n r → Shape text x.Exact n r
  from text same k = record { end = k.last; is = k.is; sign = ap (λ z. (signed z).0) same ∙ k.sign; split = ap (λ z. behind is_space (signed z).1) same ∙ k.split }

  end : (t : List ℕ) → IsEnd t n → Plain (t ++ r) n r
  end _ (g.end [] t _ all p) =
      let f = partial-first t n p in
      let e = ap (λ z. signed (z ++ r)) f.split ∙ plain-sign f.byte (f.rest ++ r) (open-head f.byte f.is) (open-61 f.byte f.is) in
      let j = g.end [] t n all p in
      record { last = t; is = j; sign = ap (λ z. z.0) e; split = ap (λ z. behind is_space z.1) e ∙ ap (λ z. behind is_space (z ++ r)) (sym f.split) ∙ head-same t r n j }
  end _ (g.end (b ∷ l) t _ all p) =
      let lead = (and_parts (is_lead b) (list_all is_lead l) all).0 in
      let more = (and_parts (is_lead b) (list_all is_lead l) all).1 in
      elim (cases_Bool (b == 61)) [
        | inl same ↦
            let j = g.end l t n more p in
            let e : signed (b ∷ ((l ++ t) ++ r)) ≡ (x.Exact, (l ++ t) ++ r) = ap (λ z. signed (z ∷ ((l ++ t) ++ r))) (eqb-true b 61 same) in
            record { last = l ++ t; is = j; sign = ap (λ z. z.0) e; split = ap (λ z. behind is_space z.1) e ∙ head-same (l ++ t) r n j }
        | inr other ↦
            let j = g.end (b ∷ l) t n all p in
            let e = plain-sign b ((l ++ t) ++ r) (lead-head b lead) other in
            record { last = b ∷ (l ++ t); is = j; sign = ap (λ z. z.0) e; split = ap (λ z. behind is_space z.1) e ∙ head-same (b ∷ (l ++ t)) r n j }
      ]

pub comparator-shape : (t : List ℕ) (s : Sign) (n : Named) → IsComparator t s n → (r : List ℕ) → Shape (t ++ r) s n r
comparator-shape _ s n (g.comparator _ p t _ _ g.absent a i j) r =
    let k = end-shape t r n i in
    let e : behind is_space ((p ++ t) ++ r) ≡ behind is_space (t ++ r) = behind-operand p t r n a i ∙ sym (head-same t r n i) in
    record { end = k.end; is = k.is; sign = ap (λ z. (signed z).0) e ∙ k.sign; split = ap (λ z. behind is_space (signed z).1) e ∙ k.split }
comparator-shape _ s n (g.comparator _ p t _ _ g.equal a i j) r = record { end = t; is = i; sign = refl; split = behind-operand p t r n a i }
comparator-shape _ s n (g.comparator _ p t _ _ g.less a i j) r =
    let e = joined-alone x.Less x.AtMost ((p ++ t) ++ r) (not-61 p t r n i j) in
    record { end = t; is = i; sign = ap (λ z. z.0) e; split = ap (λ z. behind is_space z.1) e ∙ behind-operand p t r n a i }
comparator-shape _ s n (g.comparator _ p t _ _ g.at_most a i j) r = record { end = t; is = i; sign = refl; split = behind-operand p t r n a i }
comparator-shape _ s n (g.comparator _ p t _ _ g.greater a i j) r =
    let e = joined-alone x.Greater x.AtLeast ((p ++ t) ++ r) (not-61 p t r n i j) in
    record { end = t; is = i; sign = ap (λ z. z.0) e; split = ap (λ z. behind is_space z.1) e ∙ behind-operand p t r n a i }
comparator-shape _ s n (g.comparator _ p t _ _ g.at_least a i j) r = record { end = t; is = i; sign = refl; split = behind-operand p t r n a i }
comparator-shape _ s n (g.comparator _ p t _ _ g.tilde a i j) r =
    record { end = t; is = i; sign = refl; split = ap (behind is_space) (tilded-alone ((p ++ t) ++ r) (not-62 p t r n a i)) ∙ behind-operand p t r n a i }
comparator-shape _ s n (g.comparator _ p t _ _ g.tilde_greater a i j) r = record { end = t; is = i; sign = refl; split = behind-operand p t r n a i }
comparator-shape _ s n (g.comparator _ p t _ _ g.caret a i j) r = record { end = t; is = i; sign = refl; split = behind-operand p t r n a i }

-- two readings of a comparator
pub record Same (s z : Sign) (n m : Named) (r q : List ℕ) : Type 0 where
  pub sign : s ≡ z
  pub named : n ≡ m
  pub rest : r ≡ q

pub same-shape : (text r q : List ℕ) (s z : Sign) (n m : Named) → Shape text s n r → Shape text z m q → starts_with is_body r ≡ false → starts_with is_body q ≡ false → Same s z n m r q
same-shape text r q s z n m a b h k =
    let e = same-end a.end b.end r q n m a.is b.is h k (sym a.split ∙ b.split) in
    record { sign = sym a.sign ∙ b.sign; named = e.0; rest = e.1 }

pub same-limits : (s z : Sign) (n m : Named) (r q : List ℕ) → Same s z n m r q → limits s n ≡ limits z m
same-limits s z n m r q e = ap (λ y. limits y n) e.sign ∙ ap (limits z) e.named

pub same-fit : (s z : Sign) (n m : Named) (r q : List ℕ) → Same s z n m r q → all_fit (limits s n) ≡ all_fit (limits z m)
same-fit s z n m r q e = ap all_fit (same-limits s z n m r q e)

-- the same behind spaces
pub shape-at : (text y r : List ℕ) (s : Sign) (n : Named) → text ≡ behind is_space y → Shape y s n r → Shape text s n r
shape-at text y r s n h k =
    let e : behind is_space text ≡ behind is_space y = ap (behind is_space) h ∙ behind-same is_space (behind is_space y) (behind-stops is_space y) in
    record { end = k.end; is = k.is; sign = ap (λ z. (signed z).0) e ∙ k.sign; split = ap (λ z. behind is_space (signed z).1) e ∙ k.split }

-- a comparator begins with no `-` and no `|`
abbrev pub is_mark : ℕ → Bool
is_mark b = (b == 45) || (b == 124)

head-mark : (b : ℕ) → is_head b ≡ true → is_mark b ≡ false
head-mark b h = grind (arith, nat_tests)

pub comparator-mark : (t : List ℕ) (s : Sign) (n : Named) → IsComparator t s n → (r : List ℕ) → starts_with is_mark (behind is_space (t ++ r)) ≡ false
comparator-mark _ s n (g.comparator _ p t _ _ g.absent a i j) r =
    ap (starts_with is_mark) (behind-operand p t r n a i) ∙ first-not is_head is_mark (t ++ r) (first-more is_head t r (end-first t n i)) head-mark
comparator-mark _ s n (g.comparator _ p t _ _ g.equal a i j) r = refl
comparator-mark _ s n (g.comparator _ p t _ _ g.less a i j) r = refl
comparator-mark _ s n (g.comparator _ p t _ _ g.at_most a i j) r = refl
comparator-mark _ s n (g.comparator _ p t _ _ g.greater a i j) r = refl
comparator-mark _ s n (g.comparator _ p t _ _ g.at_least a i j) r = refl
comparator-mark _ s n (g.comparator _ p t _ _ g.tilde a i j) r = refl
comparator-mark _ s n (g.comparator _ p t _ _ g.tilde_greater a i j) r = refl
comparator-mark _ s n (g.comparator _ p t _ _ g.caret a i j) r = refl
