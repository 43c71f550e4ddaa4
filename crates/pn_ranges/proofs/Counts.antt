-- A text has one reading, and so one count of comparators.
use Rattle.std.proofs.Common.{◌≡◌, ◌<◌, ℕ, true, false, List, [], ◌∷◌, ◌++◌, refl, sym, ap, ◌∙◌, arith, append_assoc, append-nil}
use Rattle.std.specs.Prelude.{◌==◌, ◌+◌}
use Rattle.std.proofs.lemmas.Bool.Decides.{nat_tests}
use Rattle.pn_ranges.specs.declared.comparator.Sign.{Sign}
use Rattle.pn_ranges.specs.declared.comparator.Sign.TheVariants as x
use Rattle.pn_ranges.specs.Bytes.{is_body, is_space, behind, starts_with}
use Rattle.pn_ranges.specs.Grammar.{AreComparators, AreGaps, AreRanges, AreSpaces, IsComparator, IsEnd, IsRange, Spells}
use Rattle.pn_ranges.specs.Grammar as g
use Rattle.pn_ranges.specs.Limits.{Limit}
use Rattle.pn_ranges.specs.ReadingLaw.{ReadingLaw}
use Rattle.pn_ranges.specs.Table.{Named, between, limits}
use Rattle.pn_ranges.specs.Unread.{Closes, ends_range}
use Rattle.pn_ranges.proofs.Bars.{no-tail, no_bar, spaced-bars, tail-of}
use Rattle.pn_ranges.proofs.FrontOfLemmas.{behind-append}
use Rattle.pn_ranges.proofs.Same.{Same, Shape, behind-all, behind-operand, comparator-mark, comparator-shape, end-first, end-shape, first-more, head-same, is_head, is_mark, same-end, same-limits, same-shape, same-split, shape-at}
use Rattle.pn_ranges.proofs.Closings.{closes-body, closes-spaces, gap-body}

-- where a comparator begins no range ends
head-bar : (b : ℕ) → is_head b ≡ true → (b == 124) ≡ false
head-bar b h = grind (arith, nat_tests)

pub end-open : (t r : List ℕ) (n : Named) → IsEnd t n → ends_range (t ++ r) ≡ false
end-open t r n i = let f = first-more is_head t r (end-first t n i) in ap ends_range f.split ∙ head-bar f.byte f.is

pub comparator-open : (t : List ℕ) (s : Sign) (n : Named) → IsComparator t s n → (r : List ℕ) → ends_range (behind is_space (t ++ r)) ≡ false
comparator-open _ s n (g.comparator _ p t _ _ g.absent a i j) r = ap ends_range (behind-operand p t r n a i) ∙ end-open t r n i
comparator-open _ s n (g.comparator _ p t _ _ g.equal a i j) r = refl
comparator-open _ s n (g.comparator _ p t _ _ g.less a i j) r = refl
comparator-open _ s n (g.comparator _ p t _ _ g.at_most a i j) r = refl
comparator-open _ s n (g.comparator _ p t _ _ g.greater a i j) r = refl
comparator-open _ s n (g.comparator _ p t _ _ g.at_least a i j) r = refl
comparator-open _ s n (g.comparator _ p t _ _ g.tilde a i j) r = refl
comparator-open _ s n (g.comparator _ p t _ _ g.tilde_greater a i j) r = refl
comparator-open _ s n (g.comparator _ p t _ _ g.caret a i j) r = refl

comparators-open : (t : List ℕ) (k : ℕ) (ls : List Limit) → AreComparators t k ls → (r : List ℕ) → ends_range (behind is_space (t ++ r)) ≡ false
comparators-open _ _ _ (g.one t s n c fit) r = comparator-open t s n c r
comparators-open _ _ _ (g.more t p u s n k ls c fit a w) r = ap (λ z. ends_range (behind is_space z)) (append_assoc t (p ++ u) r) ∙ comparator-open t s n c ((p ++ u) ++ r)

comparators-mark : (t : List ℕ) (k : ℕ) (ls : List Limit) → AreComparators t k ls → (r : List ℕ) → starts_with is_mark (behind is_space (t ++ r)) ≡ false
comparators-mark _ _ _ (g.one t s n c fit) r = comparator-mark t s n c r
comparators-mark _ _ _ (g.more t p u s n k ls c fit a w) r = ap (λ z. starts_with is_mark (behind is_space z)) (append_assoc t (p ++ u) r) ∙ comparator-mark t s n c ((p ++ u) ++ r)

-- two readings of a first comparator
pub same-both : (whole t u r q : List ℕ) (s z : Sign) (n m : Named) → Shape (t ++ r) s n r → Shape (u ++ q) z m q → starts_with is_body r ≡ false → starts_with is_body q ≡ false
    → whole ≡ behind is_space (t ++ r) → whole ≡ behind is_space (u ++ q) → Same s z n m r q
same-both whole t u r q s z n m a b h k d e = same-shape whole r q s z n m (shape-at whole (t ++ r) r s n d a) (shape-at whole (u ++ q) q z m e b) h k

pub same-first : (whole t u r q : List ℕ) (s z : Sign) (n m : Named) → Shape (t ++ r) s n r → Shape (u ++ q) z m q → starts_with is_body r ≡ false → starts_with is_body q ≡ false
    → whole ≡ behind is_space (t ++ r) → whole ≡ behind is_space (u ++ q) → r ≡ q
same-first whole t u r q s z n m a b h k d e = (same-both whole t u r q s z n m a b h k d e).rest

behind-gap : (p y : List ℕ) → AreGaps p → behind is_space (p ++ y) ≡ behind is_space y
behind-gap p y a = behind-append is_space p y a.spaces

-- a range that ends where another goes on
ends-open : (r p y : List ℕ) → Closes r → AreGaps p → ends_range (behind is_space y) ≡ false → r ≡ p ++ y → ⊥
ends-open r p y h a further e =
    let w : true ≡ false = sym h ∙ ap (λ z. ends_range (behind is_space z)) e ∙ ap ends_range (behind-gap p y a) ∙ further in
    cc w

pub more-split : (t p u r : List ℕ) → (t ++ (p ++ u)) ++ r ≡ t ++ (p ++ (u ++ r))
more-split t p u r = simp append_assoc

comparators-one : (whole t r : List ℕ) (k : ℕ) (ls : List Limit) → AreComparators t k ls → Closes r → whole ≡ behind is_space (t ++ r)
    → (u q : List ℕ) (m : ℕ) (js : List Limit) → AreComparators u m js → Closes q → whole ≡ behind is_space (u ++ q) → (k ≡ m) × (ls ≡ js)
comparators-one whole _ r _ _ (g.one t s n c fit) h e _ q _ _ (g.one u z m d ok) i f = (
  refl,
  same-limits s z n m r q (same-both whole t u r q s z n m (comparator-shape t s n c r) (comparator-shape u z m d q) (closes-body r h) (closes-body q i) e f),
)
comparators-one whole _ r _ _ (g.one t s n c fit) h e _ q _ _ (g.more u p v z m k js d ok a w) i f =
    let y = p ++ (v ++ q) in
    let same = same-first whole t u r y s z n m (comparator-shape t s n c r) (comparator-shape u z m d y) (closes-body r h) (gap-body p (v ++ q) a) e
    (f ∙ ap (behind is_space) (more-split u p v q)) in
    absurd (ends-open r p (v ++ q) h a (comparators-open v k js w q) same)
comparators-one whole _ r _ _ (g.more t p v s n k ls c fit a w) h e _ q _ _ (g.one u z m d ok) i f =
    let y = p ++ (v ++ r) in
    let same = same-first whole u t q y z s m n (comparator-shape u z m d q) (comparator-shape t s n c y) (closes-body q i) (gap-body p (v ++ r) a) f
    (e ∙ ap (behind is_space) (more-split t p v r)) in
    absurd (ends-open q p (v ++ r) i a (comparators-open v k ls w r) same)
comparators-one whole _ r _ _ (g.more t p v s n k ls c fit a w) h e _ q _ _ (g.more u o y z m l js d ok b v2) i f =
    let left = p ++ (v ++ r) in
    let right = o ++ (y ++ q) in
    let same = same-both whole t u left right s z n m (comparator-shape t s n c left) (comparator-shape u z m d right) (gap-body p (v ++ r) a) (gap-body o (y ++ q) b)
    (e ∙ ap (behind is_space) (more-split t p v r)) (f ∙ ap (behind is_space) (more-split u o y q)) in
    let inner = sym (behind-gap p (v ++ r) a) ∙ ap (behind is_space) same.rest ∙ behind-gap o (y ++ q) b in
    let rest = comparators-one (behind is_space (v ++ r)) v r k ls w h refl y q l js v2 i inner in
    (ap (λ j. 1 + j) rest.0, ap (λ j. j ++ ls) (same-limits s z n m left right same) ∙ ap (λ j. limits z m ++ j) rest.1)

-- `A - B` is no list of comparators
pub hyphen-split : (a s r b y : List ℕ) → (a ++ (s ++ 45 ∷ (r ++ b))) ++ y ≡ a ++ (s ++ 45 ∷ (r ++ (b ++ y)))
hyphen-split a s r b y = simp append_assoc

pub not-hyphen : (whole t r : List ℕ) (k : ℕ) (ls : List Limit) → AreComparators t k ls → Closes r → whole ≡ behind is_space (t ++ r)
    → (a s e b y : List ℕ) (low : Named) → IsEnd a low → AreGaps s → whole ≡ behind is_space ((a ++ (s ++ 45 ∷ (e ++ b))) ++ y) → ⊥
not-hyphen whole _ r _ _ (g.one t z n c fit) h d a s e b y low i p f =
    let back = 45 ∷ (e ++ (b ++ y)) in
    let same = same-first whole t a r (s ++ back) z x.Exact n low (comparator-shape t z n c r) (end-shape a (s ++ back) low i) (closes-body r h) (gap-body s back p) d
    (f ∙ ap (behind is_space) (hyphen-split a s e b y)) in
    ends-open r s back h p refl same
not-hyphen whole _ r _ _ (g.more t q v z n k ls c fit o w) h d a s e b y low i p f =
    let back = 45 ∷ (e ++ (b ++ y)) in
    let left = q ++ (v ++ r) in
    let same = same-first whole t a left (s ++ back) z x.Exact n low (comparator-shape t z n c left) (end-shape a (s ++ back) low i) (gap-body q (v ++ r) o) (gap-body s back p)
    (d ∙ ap (behind is_space) (more-split t q v r)) (f ∙ ap (behind is_space) (hyphen-split a s e b y)) in
    let inner = sym (behind-gap q (v ++ r) o) ∙ ap (behind is_space) same ∙ behind-gap s back p in
    let clash : false ≡ true = sym (comparators-mark v k ls w r) ∙ ap (starts_with is_mark) inner in
    cc clash

-- nothing but spaces is neither
empty-open : (whole r : List ℕ) → Closes r → whole ≡ behind is_space r → ends_range whole ≡ false → ⊥
empty-open whole r h e some = let w : true ≡ false = sym h ∙ ap ends_range (sym e) ∙ some in cc w

hyphen-open : (a t r : List ℕ) (n : Named) → IsEnd a n → ends_range (behind is_space ((a ++ t) ++ r)) ≡ false
hyphen-open a t r n i = ap (λ z. ends_range (behind is_space z)) (append_assoc a t r) ∙ ap ends_range (head-same a (t ++ r) n i) ∙ end-open a (t ++ r) n i

dash-tail : (y z : List ℕ) → 45 ∷ y ≡ 45 ∷ z → y ≡ z
dash-tail y z h = cc h

-- two readings of `A - B`
hyphen-one : (whole a s o b r : List ℕ) (low high : Named) → IsEnd a low → AreGaps s → AreGaps o → IsEnd b high → Closes r
    → whole ≡ behind is_space ((a ++ (s ++ 45 ∷ (o ++ b))) ++ r)
    → (c p l d q : List ℕ) (lower upper : Named) → IsEnd c lower → AreGaps p → AreGaps l → IsEnd d upper → Closes q
    → whole ≡ behind is_space ((c ++ (p ++ 45 ∷ (l ++ d))) ++ q) → between low high ≡ between lower upper
hyphen-one whole a s o b r low high i apart y j h e c p l d q lower upper k z w v m f =
    let left = o ++ (b ++ r) in
    let right = l ++ (d ++ q) in
    let same = same-both whole a c (s ++ 45 ∷ left) (p ++ 45 ∷ right) x.Exact x.Exact low lower (end-shape a (s ++ 45 ∷ left) low i) (end-shape c (p ++ 45 ∷ right) lower k)
    (gap-body s (45 ∷ left) apart) (gap-body p (45 ∷ right) z) (e ∙ ap (behind is_space) (hyphen-split a s o b r)) (f ∙ ap (behind is_space) (hyphen-split c p l d q)) in
    let dash = dash-tail left right (sym (behind-all is_space s (45 ∷ left) apart.spaces refl) ∙ ap (behind is_space) same.rest ∙ behind-all is_space p (45 ∷ right) z.spaces refl) in
    let ends = sym (head-same b r high j) ∙ sym (behind-gap o (b ++ r) y) ∙ ap (behind is_space) dash ∙ behind-gap l (d ++ q) w ∙ head-same d q upper v in
    let last = same-end b d r q high upper j v (closes-body r h) (closes-body q m) ends in
    ap (λ n. between n high) same.named ∙ ap (between lower) last.0

range-one : (whole t r : List ℕ) (k : ℕ) (ls : List Limit) → IsRange t k ls → Closes r → whole ≡ behind is_space (t ++ r)
    → (u q : List ℕ) (m : ℕ) (js : List Limit) → IsRange u m js → Closes q → whole ≡ behind is_space (u ++ q) → (k ≡ m) × (ls ≡ js)
range-one whole _ r _ _ g.empty h e _ q _ _ g.empty i f = (refl, refl)
range-one whole _ r _ _ g.empty h e _ q _ _ (g.comparators u m js w) i f = absurd (empty-open whole r h e (ap ends_range f ∙ comparators-open u m js w q))
range-one whole _ r _ _ g.empty h e _ q _ _ (g.hyphen a s o b low high j p l y fit) i f =
    absurd (empty-open whole r h e (ap ends_range f ∙ hyphen-open a (s ++ 45 ∷ (o ++ b)) q low j))
range-one whole _ r _ _ (g.comparators t k ls w) h e _ q _ _ g.empty i f = absurd (empty-open whole q i f (ap ends_range e ∙ comparators-open t k ls w r))
range-one whole _ r _ _ (g.comparators t k ls w) h e _ q _ _ (g.comparators u m js v) i f = comparators-one whole t r k ls w h e u q m js v i f
range-one whole _ r _ _ (g.comparators t k ls w) h e _ q _ _ (g.hyphen a s o b low high j p l y fit) i f = absurd (not-hyphen whole t r k ls w h e a s o b q low j p f)
range-one whole _ r _ _ (g.hyphen a s o b low high j p l y fit) h e _ q _ _ g.empty i f =
    absurd (empty-open whole q i f (ap ends_range e ∙ hyphen-open a (s ++ 45 ∷ (o ++ b)) r low j))
range-one whole _ r _ _ (g.hyphen a s o b low high j p l y fit) h e _ q _ _ (g.comparators u m js v) i f = absurd (not-hyphen whole u q m js v i f a s o b r low j p e)
range-one whole _ r _ _ (g.hyphen a s o b low high j p l y fit) h e _ q _ _ (g.hyphen a2 s2 o2 b2 low2 high2 j2 p2 l2 y2 fit2) i f =
    (refl, hyphen-one whole a s o b r low high j p l y h e a2 s2 o2 b2 q low2 high2 j2 p2 l2 y2 i f)

-- the first range of a set, of which the whole text is known
spaced-one : (whole s t r v : List ℕ) (k : ℕ) (ls : List Limit) → AreSpaces s → IsRange t k ls → AreSpaces r → starts_with is_space v ≡ false → ends_range v ≡ true
    → whole ≡ (s ++ (t ++ r)) ++ v → (o u q y : List ℕ) (m : ℕ) (js : List Limit) → AreSpaces o → IsRange u m js → AreSpaces q → starts_with is_space y ≡ false → ends_range y ≡ true
    → whole ≡ (o ++ (u ++ q)) ++ y → (k ≡ m) × (ls ≡ js)
spaced-one whole s t r v k ls a i b sv ev d o u q y m js c j e sy ey f =
    let left : (s ++ (t ++ r)) ++ v ≡ s ++ (t ++ (r ++ v)) = simp append_assoc in
    let right : (o ++ (u ++ q)) ++ y ≡ o ++ (u ++ (q ++ y)) = simp append_assoc in
    range-one (behind is_space whole) t (r ++ v) k ls i (closes-spaces r v b sv ev) (ap (behind is_space) (d ∙ left) ∙ behind-append is_space s (t ++ (r ++ v)) a)
    u (q ++ y) m js j (closes-spaces q y e sy ey) (ap (behind is_space) (f ∙ right) ∙ behind-append is_space o (u ++ (q ++ y)) c)

pub bars-split : (s t r u : List ℕ) → s ++ (t ++ (r ++ 124 ∷ 124 ∷ u)) ≡ (s ++ (t ++ r)) ++ 124 ∷ 124 ∷ u
bars-split s t r u = simp append_assoc

add-same : (a b c d : ℕ) → a ≡ b → c ≡ d → a + c ≡ b + d
add-same a b c d h k = omega arith

pub ranges-one : (w : List ℕ) (k : ℕ) (ls : List (List Limit)) → AreRanges w k ls → (v : List ℕ) (m : ℕ) (js : List (List Limit)) → AreRanges v m js → w ≡ v → (k ≡ m) × (ls ≡ js)
ranges-one _ _ _ (g.one s t r k ls a i b) _ _ _ (g.one o u q m js c j e) f =
    let one = spaced-one (s ++ (t ++ r)) s t r [] k ls a i b refl refl (sym (append-nil (s ++ (t ++ r)))) o u q [] m js c j e refl refl (f ∙ sym (append-nil (o ++ (u ++ q)))) in
    (one.0, ap (λ z. z ∷ []) one.1)
ranges-one _ _ _ (g.one s t r k ls a i b) _ _ _ (g.more o u q v m l js lss c j e w) f =
    let z = same-split no_bar (s ++ (t ++ r)) [] (o ++ (u ++ q)) (124 ∷ 124 ∷ v) (spaced-bars s t r k ls a i b) refl (spaced-bars o u q m js c j e) refl
    (append-nil (s ++ (t ++ r)) ∙ f ∙ bars-split o u q v) in
    absurd (no-tail v (sym z.1))
ranges-one _ _ _ (g.more o u q v m l js lss c j e w) _ _ _ (g.one s t r k ls a i b) f =
    let z = same-split no_bar (o ++ (u ++ q)) (124 ∷ 124 ∷ v) (s ++ (t ++ r)) [] (spaced-bars o u q m js c j e) refl (spaced-bars s t r k ls a i b) refl
    (sym (bars-split o u q v) ∙ f ∙ sym (append-nil (s ++ (t ++ r)))) in
    absurd (no-tail v z.1)
ranges-one _ _ _ (g.more s t r u k l ls lss a i b w) _ _ _ (g.more o y q v m n js jss c j e w2) f =
    let whole = (s ++ (t ++ r)) ++ 124 ∷ 124 ∷ u in
    let same : whole ≡ (o ++ (y ++ q)) ++ 124 ∷ 124 ∷ v = sym (bars-split s t r u) ∙ f ∙ bars-split o y q v in
    let z = same-split no_bar (s ++ (t ++ r)) (124 ∷ 124 ∷ u) (o ++ (y ++ q)) (124 ∷ 124 ∷ v) (spaced-bars s t r k ls a i b) refl (spaced-bars o y q m js c j e) refl same in
    let one = spaced-one whole s t r (124 ∷ 124 ∷ u) k ls a i b refl refl refl o y q (124 ∷ 124 ∷ v) m js c j e refl refl same in
    let rest = ranges-one u l lss w v n jss w2 (tail-of u v z.1) in
    (add-same k m l n one.0 rest.0, ap (λ x. x ∷ lss) one.1 ∙ ap (λ x. js ∷ x) rest.1)

pub too-many : (text : List ℕ) (k : ℕ) (ls : List (List Limit)) → AreRanges text k ls → 1024 < k → (r : List (List Limit)) → Spells text r → ⊥
too-many text k ls a many r i =
    let same = (ranges-one text k ls a text i.count r i.read refl).0 in
    let few = i.few in
    omega arith

pub reading : ReadingLaw
reading = record {
  count = λ text k m r s h i. (ranges-one text k r h text m s i refl).0;
  ranges = λ text k m r s h i. (ranges-one text k r h text m s i refl).1;
  one = λ text r s h i. (ranges-one text h.count r h.read text i.count s i.read refl).1;
}
