-- What is taken off the ends of patterns, and lists of them.
use Rattle.std.proofs.Common.{◌≡◌, ◌+◌, ◌-◌, ℕ, Bool, true, false, List, [], ◌∷◌, ◌++◌, length, map, Vec, Global, refl, sym, ap, subst, ◌∙◌, inl, inr, arith, append_assoc, append-nil, length-append}
use Rattle.std.specs.Prelude.{◌==◌, ◌&&◌, ◌||◌, if◌then◌else◌}
use Rattle.std.specs.List.{list_all, list_any}
use Rattle.std.proofs.lemmas.Bool.{and_right, cases_Bool, not-false}
use Rattle.pn_glob.specs.declared.fault.Bad.{Bad}
use Rattle.pn_glob.specs.declared.fault.Bad.TheVariants as bad
use Rattle.pn_glob.specs.declared.fault.Stop.TheVariants as stop
use Rattle.pn_glob.specs.declared.kind.Kind.{Kind}
use Rattle.pn_glob.specs.declared.kind.Kind.TheVariants.{Paths, Names}
use Rattle.pn_glob.specs.Bytes.{is_bracket}
use Rattle.pn_glob.specs.Grammar.{HasBadByte, HasMany, IsOpen, Spells, is_plain}
use Rattle.pn_glob.specs.Lists.{HasBracket, IsName, Met, ReadAll, Reads, Refused, before_slash, behind_bang, behind_dot, is_negative, or_star, tail_of, none, positive, negative}
use Rattle.pn_glob.specs.ReadLists.{Added, IsBad, ReadBefore, fault_of}
use Rattle.pn_glob.specs.Reading.{FrontOf, Stops, starts_with}
use Rattle.pn_glob.specs.Matching.{fits}
use Rattle.pn_glob.proofs.Braces.{items_of}
use Rattle.pn_glob.proofs.Gaps.{eq-false}

pub bang-some : (text r : List ℕ) → text ≡ 33 ∷ r → r ≡ behind_bang text
bang-some text r h = sym (ap behind_bang h)

pub bang-none : (text : List ℕ) → starts_with (λ b. b == 33) text ≡ false → text ≡ behind_bang text
bang-none [] h = refl
bang-none (b ∷ t) h = sym (ap (λ z. if z then t else b ∷ t) h)

pub dot-some : (text rest r : List ℕ) → text ≡ 46 ∷ rest → rest ≡ 47 ∷ r → r ≡ behind_dot text
dot-some text rest r h g = sym (ap behind_dot (h ∙ ap (λ (y : List ℕ). 46 ∷ y) g))

pub dot-none : (text : List ℕ) → starts_with (λ b. b == 46) text ≡ false → text ≡ behind_dot text
dot-none [] h = refl
dot-none (b ∷ []) h = refl
dot-none (b ∷ c ∷ t) h = sym (ap (λ z. if z && (c == 47) then t else b ∷ c ∷ t) h)

no-slash : (b : ℕ) (rest : List ℕ) → starts_with (λ b. b == 47) rest ≡ false → b ∷ rest ≡ behind_dot (b ∷ rest)
no-slash b [] h = refl
no-slash b (c ∷ t) h = sym (ap (λ z. if (b == 46) && z then t else b ∷ c ∷ t) h ∙ ap (λ z. if z then t else b ∷ c ∷ t) (and_right (b == 46) false refl))

pub dot-other : (text rest : List ℕ) → text ≡ 46 ∷ rest → starts_with (λ b. b == 47) rest ≡ false → text ≡ behind_dot text
dot-other text rest h g = h ∙ no-slash 46 rest g ∙ sym (ap behind_dot h)

slash-last : (front : List ℕ) → before_slash (front ++ 47 ∷ []) ≡ front
slash-last [] = refl
slash-last (a ∷ []) = refl
slash-last (a ∷ c ∷ f) = ap (λ (y : List ℕ). a ∷ y) (slash-last (c ∷ f))

other-last : (front : List ℕ) (b : ℕ) → (b == 47) ≡ false → before_slash (front ++ b ∷ []) ≡ front ++ b ∷ []
other-last [] b h = ap (λ z. if z then [] else b ∷ []) h
other-last (a ∷ []) b h = ap (λ z. a ∷ (if z then [] else b ∷ [])) h
other-last (a ∷ c ∷ f) b h = ap (λ (y : List ℕ). a ∷ y) (other-last (c ∷ f) b h)

pub slash-some : (text front : List ℕ) (b : ℕ) → text ≡ front ++ b ∷ [] → b ≡ 47 → front ≡ before_slash text
slash-some text front b h e = sym (ap before_slash (h ∙ ap (λ z. front ++ z ∷ []) e) ∙ slash-last front)

pub slash-none : (text front : List ℕ) (b : ℕ) → text ≡ front ++ b ∷ [] → (b ≡ 47 → ⊥) → text ≡ before_slash text
slash-none text front b h ne = h ∙ sym (other-last front b (eq-false b 47 ne)) ∙ sym (ap before_slash h)

pub slash-empty : (text : List ℕ) → text ≡ [] → text ≡ before_slash text
slash-empty text h = h ∙ sym (ap before_slash h)

-- why a path pattern isn't read, by its tail and its body
pub byte-bad : (text tail body : List ℕ) (left : ℕ) → tail ≡ tail_of Paths text → body ≡ before_slash tail → Stops body (stop.Byte left)
    → IsBad Paths text (bad.At (length text - length tail + (length body - left)))
byte-bad text tail body left t b h =
    let e : body ≡ before_slash (tail_of Paths text) = b ∙ ap before_slash t in
    inl (
      h.0,
      subst (λ (y : List ℕ). HasBadByte y h.0) e h.1,
      ap (λ (y : List ℕ). length text - length y + (length body - left)) t
          ∙ ap (λ z. length text - length (tail_of Paths text) + z) (let s = h.2 in let g : length body - left ≡ h.0 = omega arith in g),
    )

pub end-bad : (text tail body : List ℕ) → tail ≡ tail_of Paths text → body ≡ before_slash tail → Stops body stop.End → IsBad Paths text (bad.At (length text))
end-bad text tail body t b h = inr (subst (λ (y : List ℕ). IsOpen y) (b ∙ ap before_slash t) h, refl)

pub many-bad : (text tail body : List ℕ) → tail ≡ tail_of Paths text → body ≡ before_slash tail → Stops body stop.TooMany → IsBad Paths text bad.TooMany
many-bad text tail body t b h = subst (λ (y : List ℕ). HasMany y) (b ∙ ap before_slash t) h

pub path-reads : (text tail body : List ℕ) (cs : List (List ℕ)) → tail ≡ tail_of Paths text → body ≡ before_slash tail → Spells body cs → Reads Paths text cs
path-reads text tail body cs t b h = subst (λ (y : List ℕ). Spells y cs) (b ∙ ap before_slash t) h

pub tail-is : (text bang tail : List ℕ) → bang ≡ behind_bang text → tail ≡ behind_dot bang → tail ≡ tail_of Paths text
tail-is text bang tail b t = t ∙ ap behind_dot b

pub bracket-bad : (text body rest : List ℕ) (b : ℕ) (behind : List ℕ) → body ≡ behind_bang text → FrontOf is_plain body rest → rest ≡ b ∷ behind
    → IsBad Names text (bad.At (length text - length body + (length body - length rest)))
bracket-bad text body rest b behind t f e = (
  length f.front,
  subst (λ (y : List ℕ). HasBracket y (length f.front)) t record {
    front = f.front;
    byte = b;
    after = behind;
    split = f.split ∙ ap (λ (y : List ℕ). f.front ++ y) e;
    plain = f.passes;
    bracket = not-false (is_bracket b) (sym (ap (starts_with is_plain) e) ∙ f.stops);
    place = refl;
  },
  ap (λ (y : List ℕ). length text - length y + (length body - length rest)) t
      ∙ ap (λ z. length text - length (behind_bang text) + z)
      (let n = ap (λ (y : List ℕ). length y) f.split ∙ length-append f.front rest in let g : length body - length rest ≡ length f.front = omega arith in g),
)

pub name-reads : (text body rest : List ℕ) (cs : List (List ℕ)) → body ≡ behind_bang text → FrontOf is_plain body rest → rest ≡ [] → cs ≡ body ∷ [] → Reads Names text cs
name-reads text body rest cs t f e s = subst (λ (y : List ℕ). IsName y cs) t record {
  plain = subst (λ (y : List ℕ). list_all is_plain y ≡ true) (sym (f.split ∙ ap (λ (y : List ℕ). f.front ++ y) e ∙ append-nil f.front)) f.passes;
  itself = s;
}

-- lists
if_true : {A : Type 0} (b : Bool) (x y : A) → b ≡ true → (if b then x else y) ≡ x
if_true true x y h = refl
if_true false x y h = cc h

if_false : {A : Type 0} (b : Bool) (x y : A) → b ≡ false → (if b then x else y) ≡ y
if_false true x y h = cc h
if_false false x y h = refl

read-added : (kind : Kind) (ts ps ps' ns ns' : List (List ℕ)) (t : List ℕ) → ReadAll kind ts ps ns → Added kind t ps ps' ns ns' → ReadAll kind (ts ++ t ∷ []) ps' ns'
read-added kind ts ps ps' ns ns' t r a = elim (cases_Bool (is_negative t)) [
  | inl neg ↦ subst (λ (y : List (List ℕ)). ReadAll kind (ts ++ t ∷ []) y ns') (sym (a.positives ∙ if_true (is_negative t) ps (ps ++ a.texts) neg))
      (subst (λ (y : List (List ℕ)). ReadAll kind (ts ++ t ∷ []) ps y) (sym (a.negatives ∙ if_true (is_negative t) (ns ++ a.texts) ns neg)) (negative ts ps ns a.texts t r neg a.reads))
  | inr pos ↦ subst (λ (y : List (List ℕ)). ReadAll kind (ts ++ t ∷ []) y ns') (sym (a.positives ∙ if_false (is_negative t) ps (ps ++ a.texts) pos))
      (subst (λ (y : List (List ℕ)). ReadAll kind (ts ++ t ∷ []) (ps ++ a.texts) y) (sym (a.negatives ∙ if_false (is_negative t) (ns ++ a.texts) ns pos)) (positive ts ps ns a.texts t r pos a.reads))
]

pub before-start : (kind : Kind) (texts ps ns : List (List ℕ)) → ps ≡ [] → ns ≡ [] → ReadBefore kind texts texts 0 ps ns
before-start kind texts ps ns p n = record {
  front = [];
  split = refl;
  read = subst (λ (y : List (List ℕ)). ReadAll kind [] y ns) (sym p) (subst (λ (y : List (List ℕ)). ReadAll kind [] [] y) (sym n) none);
  place = refl;
}

pub before-next : (kind : Kind) (texts left : List (List ℕ)) (index : ℕ) (ps ps' ns ns' : List (List ℕ)) (t : List ℕ) (rest : List (List ℕ))
    → ReadBefore kind texts left index ps ns → left ≡ t ∷ rest → Added kind t ps ps' ns ns' → ReadBefore kind texts rest (index + 1) ps' ns'
before-next kind texts left index ps ps' ns ns' t rest r e a = record {
  front = r.front ++ t ∷ [];
  split = r.split ∙ ap (λ (y : List (List ℕ)). r.front ++ y) e ∙ sym (append_assoc r.front (t ∷ []) rest);
  read = read-added kind r.front ps ps' ns ns' t r.read a;
  place = let n = length-append r.front (t ∷ []) in let p = r.place in omega arith;
}

pub before-end : (kind : Kind) (texts left : List (List ℕ)) (index : ℕ) (ps ns : List (List ℕ)) → ReadBefore kind texts left index ps ns → left ≡ [] → ReadAll kind texts ps ns
before-end kind texts left index ps ns r e =
    subst (λ (y : List (List ℕ)). ReadAll kind y ps ns) (sym (r.split ∙ ap (λ (y : List (List ℕ)). r.front ++ y) e ∙ append-nil r.front)) r.read

met : (kind : Kind) (texts left : List (List ℕ)) (index : ℕ) (ps ns : List (List ℕ)) (t : List ℕ) (rest : List (List ℕ))
    → ReadBefore kind texts left index ps ns → left ≡ t ∷ rest → Met kind texts t index
met kind texts left index ps ns t rest r e = record {
  front = r.front;
  after = rest;
  positive = ps;
  negative = ns;
  split = r.split ∙ ap (λ (y : List (List ℕ)). r.front ++ y) e;
  read = r.read;
  place = r.place;
}

pub refused-at : (kind : Kind) (texts left : List (List ℕ)) (index : ℕ) (ps ns : List (List ℕ)) (t : List ℕ) (rest : List (List ℕ)) (why : Bad)
    → ReadBefore kind texts left index ps ns → left ≡ t ∷ rest → IsBad kind t why → Refused kind texts (fault_of index why)
refused-at kind texts left index ps ns t rest (bad.At at) r e h = (t, met kind texts left index ps ns t rest r e, h)
refused-at kind texts left index ps ns t rest bad.TooMany r e h = (t, index, met kind texts left index ps ns t rest r e, h)
refused-at kind texts left index ps ns t rest bad.Memory r e h = tt

-- `*` is added where all patterns are negative and some are
pub star-added : (ps ns ps' : List (List ℕ)) → ps ≡ [] → (ns ≡ [] → ⊥) → ps' ≡ ps ++ (42 ∷ []) ∷ [] → ps' ≡ or_star ps ns
star-added (p ∷ ps) ns ps' e f h = cc e
star-added [] [] ps' e f h = absurd (f refl)
star-added [] (n ∷ ns) ps' e f h = h

pub star-filled : (ps ns : List (List ℕ)) → (length ps == 0) ≡ false → ps ≡ or_star ps ns
star-filled [] ns h = cc h
star-filled (p ∷ ps) [] h = refl
star-filled (p ∷ ps) (n ∷ ns) h = refl

pub star-none : (ps ns : List (List ℕ)) → ns ≡ [] → ps ≡ or_star ps ns
star-none [] [] h = refl
star-none (p ∷ ps) [] h = refl
star-none ps (n ∷ ns) h = cc h

any-map : {A B : Type 0} (f : B → Bool) (m : A → B) (xs : List A) → list_any (λ x. f (m x)) xs ≡ list_any f (map m xs)
any-map f m [] = refl
any-map f m (x ∷ xs) = ap (λ z. f (m x) || z) (any-map f m xs)

-- some of the patterns of a vector fits
pub any-items : (kind : Kind) (bytes text : List ℕ) (vs items : List (Vec ℕ Global)) → bytes ≡ text → vs ≡ items
    → list_any (λ (v : Vec ℕ Global). fits kind v.items bytes) vs ≡ list_any (λ p. fits kind p text) (items_of items)
any-items kind bytes text vs items b v =
    ap (λ (y : List ℕ). list_any (λ (v : Vec ℕ Global). fits kind v.items y) vs) b
    ∙ ap (list_any (λ (v : Vec ℕ Global). fits kind v.items text)) v
    ∙ any-map (λ p. fits kind p text) (λ (v : Vec ℕ Global). v.items) items
