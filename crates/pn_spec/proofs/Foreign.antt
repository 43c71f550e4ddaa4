-- No range has an `@` or a `:`.
use Rattle.std.proofs.Common.{◌≡◌, ℕ, Bool, true, false, List, [], ◌∷◌, ◌++◌, Option, refl, sym, ap, ◌∙◌, inl, inr}
use Rattle.std.specs.Prelude.{◌==◌}
use Rattle.std.specs.List.{list_all}
use Rattle.std.proofs.lemmas.Bool.{and_parts, cases_Bool, eqb-true}
use Rattle.semver.specs.Grammar.{is_build_identifier, is_identifier_byte, is_pre_identifier}
use Rattle.pn_ranges.specs.declared.comparator.Sign.{Sign}
use Rattle.pn_ranges.specs.Bytes.{is_space, is_lead, is_wild, is_digit}
use Rattle.pn_ranges.specs.Grammar.{AreComparators, AreGaps, AreIdentifiers, AreRanges, AreSpaces, IsBuild, IsComparator, IsEnd, IsNumber, IsPart, IsPartial, IsRange, IsSign, IsTail, Spells}
use Rattle.pn_ranges.specs.Grammar as g
use Rattle.pn_ranges.specs.Limits.{Limit}
use Rattle.pn_ranges.specs.Table.{Named}
use Rattle.pn_spec.specs.Ranges.{ForeignLaw, has_foreign, is_foreign}

Clean : List ℕ → Type 0
Clean t = has_foreign t ≡ false

-- neither a byte of these kinds is foreign
clean-byte : (test : ℕ → Bool) → test 64 ≡ false → test 58 ≡ false → (b : ℕ) → test b ≡ true → is_foreign b ≡ false
clean-byte test at colon b h = elim (cases_Bool (b == 64)) [
  | inl hit ↦ absurd (let x : true ≡ false = sym h ∙ ap test (eqb-true b 64 hit) ∙ at in cc x)
  | inr miss ↦ elim (cases_Bool (b == 58)) [
    | inl hit ↦ absurd (let x : true ≡ false = sym h ∙ ap test (eqb-true b 58 hit) ∙ colon in cc x)
    | inr other ↦ rw (miss, other) refl
  ]
]

clean-all : (test : ℕ → Bool) → test 64 ≡ false → test 58 ≡ false → (t : List ℕ) → list_all test t ≡ true → Clean t
unfolding Clean
clean-all test at colon [] h = refl
clean-all test at colon (b ∷ t) h =
    rw (clean-byte test at colon b (and_parts (test b) (list_all test t) h).0) (clean-all test at colon t (and_parts (test b) (list_all test t) h).1)

clean-more : (b : ℕ) (t : List ℕ) → is_foreign b ≡ false → Clean t → Clean (b ∷ t)
unfolding Clean
clean-more b t h k = rw h k

both : (s t : List ℕ) → Clean s → Clean t → Clean (s ++ t)
unfolding Clean
both [] t h k = k
both (b ∷ s) t h k = elim (cases_Bool (is_foreign b)) [
  | inl hit ↦ absurd (let off : true ≡ false = sym (rw hit refl) ∙ h in cc off)
  | inr miss ↦ rw miss (both s t (sym (rw miss refl) ∙ h) k)
]

none : Clean []
unfolding Clean
none = refl

spaces : (s : List ℕ) → AreSpaces s → Clean s
spaces s h = clean-all is_space refl refl s h

number : (t : List ℕ) (n : ℕ) → IsNumber t n → Clean t
unfolding Clean
number _ _ g.zero = refl
number _ _ (g.counted b bs d z h) = clean-more b bs (clean-byte is_digit refl refl b d) (clean-all is_digit refl refl bs h)

part : (t : List ℕ) (v : Option ℕ) → IsPart t v → Clean t
part t _ (g.number _ n h small) = number t n h
part _ _ (g.wild b h) = clean-more b [] (clean-byte is_wild refl refl b h) none

build-bytes : (x : List ℕ) → is_build_identifier x ≡ true → Clean x
build-bytes x h = clean-all is_identifier_byte refl refl x (and_parts _ (list_all is_identifier_byte x) h).1

pre-bytes : (x : List ℕ) → is_pre_identifier x ≡ true → Clean x
pre-bytes x h = build-bytes x (and_parts (is_build_identifier x) _ h).0

dot : (x t : List ℕ) → Clean x → Clean t → Clean (x ++ 46 ∷ t)
unfolding Clean
dot x t h k = both x (46 ∷ t) h (clean-more 46 t refl k)

identifiers : (right : List ℕ → Bool) → ((x : List ℕ) → right x ≡ true → Clean x) → (t : List ℕ) → AreIdentifiers right t → Clean t
identifiers right f _ (g.one x h) = f x h
identifiers right f _ (g.more x t h a) = dot x t (f x h) (identifiers right f t a)

build : (t : List ℕ) → IsBuild t → Clean t
unfolding Clean
build _ g.absent = refl
build _ (g.build u a) = clean-more 43 u refl (identifiers is_build_identifier build-bytes u a)

tail : (t p : List ℕ) → IsTail t p → Clean t
unfolding Clean
tail t _ (g.bare _ b) = build t b
tail _ _ (g.pre p t a b) = clean-more 45 (p ++ t) refl (both p t (identifiers is_pre_identifier pre-bytes p a) (build t b))

partial : (t : List ℕ) (n : Named) → IsPartial t n → Clean t
partial t _ (g.one _ a h) = part t a h
partial _ _ (g.two t u a b h k) = dot t u (part t a h) (part u b k)
partial _ _ (g.three t u w s pre a b c h k l m) = dot t (u ++ 46 ∷ (w ++ s)) (part t a h) (dot u (w ++ s) (part u b k) (both w s (part w c l) (tail s pre m)))

end : (t : List ℕ) (n : Named) → IsEnd t n → Clean t
end _ n (g.end l t _ h p) = both l t (clean-all is_lead refl refl l h) (partial t n p)

sign : (t : List ℕ) (x : Sign) → IsSign t x → Clean t
unfolding Clean
sign _ _ g.absent = refl
sign _ _ g.equal = refl
sign _ _ g.less = refl
sign _ _ g.at_most = refl
sign _ _ g.greater = refl
sign _ _ g.at_least = refl
sign _ _ g.tilde = refl
sign _ _ g.tilde_greater = refl
sign _ _ g.caret = refl

comparator : (t : List ℕ) (x : Sign) (n : Named) → IsComparator t x n → Clean t
comparator _ x n (g.comparator o s t _ _ h k e j) = both o (s ++ t) (sign o x h) (both s t (spaces s k) (end t n e))

comparators : (t : List ℕ) (k : ℕ) (ls : List Limit) → AreComparators t k ls → Clean t
comparators t _ _ (g.one _ x n h f) = comparator t x n h
comparators _ _ _ (g.more t s u x n k ls h f p r) = both t (s ++ u) (comparator t x n h) (both s u (spaces s p.spaces) (comparators u k ls r))

range : (t : List ℕ) (k : ℕ) (ls : List Limit) → IsRange t k ls → Clean t
unfolding Clean
range _ _ _ g.empty = refl
range t _ _ (g.comparators _ k ls h) = comparators t k ls h
range _ _ _ (g.hyphen a s r b low high h p q k f) =
    both a (s ++ 45 ∷ (r ++ b)) (end a low h) (both s (45 ∷ (r ++ b)) (spaces s p.spaces) (clean-more 45 (r ++ b) refl (both r b (spaces r q.spaces) (end b high k))))

ranges : (t : List ℕ) (k : ℕ) (rs : List (List Limit)) → AreRanges t k rs → Clean t
unfolding Clean
ranges _ _ _ (g.one s t r k ls h i j) = both s (t ++ r) (spaces s h) (both t r (range t k ls i) (spaces r j))
ranges _ _ _ (g.more s t r u k m ls rs h i j a) =
    both s (t ++ (r ++ 124 ∷ 124 ∷ u)) (spaces s h) (both t (r ++ 124 ∷ 124 ∷ u) (range t k ls i)
    (both r (124 ∷ 124 ∷ u) (spaces r j) (clean-more 124 (124 ∷ u) refl (clean-more 124 u refl (ranges u m rs a)))))

pub foreign : ForeignLaw
unfolding Clean
foreign t r h = ranges t h.count r h.read
