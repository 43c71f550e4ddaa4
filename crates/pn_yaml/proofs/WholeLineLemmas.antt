-- The lines of whole lines before other bytes.
use Rattle.std.proofs.Common.{◌≡◌, ◌+◌, ◌≤◌, ◌<◌, ℕ, suc, Bool, true, false, cond, eqb, List, [], ◌∷◌, ◌++◌, length, refl, sym, ap, ◌∙◌, subst, arith}
use Rattle.std.specs.Prelude.{◌&&◌}
use Rattle.std.proofs.lemmas.Bool.{and_left, and_parts, and_right, eqb-true}
use Rattle.pn_yaml.specs.PlaceLaw.{are_whole, line_count, line_feeds}
use Rattle.pn_yaml.specs.Rows.{Row, lines_of, numbered, onto_line, rows_of, unmarked, unreturned}
use Rattle.pn_yaml.proofs.RowLines.{OnLines}

-- the lines of a text
abbrev lines_in : List ℕ → List (List ℕ)
lines_in text = lines_of (unreturned text)

onto-length : (b : ℕ) (lines : List (List ℕ)) → 0 < length lines → length (onto_line b lines) ≡ length lines
onto-length b [] h = absurd (omega arith)
onto-length b (line ∷ lines) h = refl

onto-append : (b : ℕ) (lines more : List (List ℕ)) → 0 < length lines → onto_line b (lines ++ more) ≡ onto_line b lines ++ more
onto-append b [] more h = absurd (omega arith)
onto-append b (line ∷ lines) more h = refl

line-first : (b : ℕ) (text : List ℕ) → 0 < length (lines_of (b ∷ text))
line-first b text = elim (eqb b 10) as (λ v. 0 < length (cond v ([] ∷ lines_of text) (onto_line b (lines_of text)))) [ true ↦ omega arith | false ↦ onto-some b (lines_of text) ]
  where
    onto-some : (b : ℕ) (lines : List (List ℕ)) → 0 < length (onto_line b lines)
    onto-some b [] = omega arith
    onto-some b (line ∷ lines) = omega arith

-- a text with a byte has a line
line-some : (b : ℕ) (text : List ℕ) → 0 < length (lines_in (b ∷ text))
line-some b [] = rw (and_right (eqb b 13) false refl) (line-first b [])
line-some b (c ∷ text) = elim (eqb b 13 && eqb c 10) as (λ v. 0 < length (lines_of (cond v (unreturned (c ∷ text)) (b ∷ unreturned (c ∷ text))))) [
  | true ↦ line-some c text
  | false ↦ line-first b (unreturned (c ∷ text))
]

-- whole lines, and then those of what is behind
lines-split : (front rest : List ℕ) → are_whole front ≡ true → lines_in (front ++ rest) ≡ lines_in front ++ lines_in rest
lines-split [] rest w = refl
lines-split (b ∷ []) rest w = subst (λ (c : ℕ). lines_in (c ∷ rest) ≡ lines_in (c ∷ []) ++ lines_in rest) (sym (eqb-true b 10 w)) refl
lines-split (b ∷ c ∷ front) rest w =
    let before : List (List ℕ) = lines_in (c ∷ front) in
    let behind : List (List ℕ) = lines_in rest in
    let again : lines_in ((c ∷ front) ++ rest) ≡ before ++ behind = lines-split (c ∷ front) rest w in
    elim (eqb b 13 && eqb c 10) as (λ v. lines_of (cond v (unreturned ((c ∷ front) ++ rest)) (b ∷ unreturned ((c ∷ front) ++ rest)))
    ≡ lines_of (cond v (unreturned (c ∷ front)) (b ∷ unreturned (c ∷ front))) ++ behind) [
      | true ↦ again
      | false ↦ elim (eqb b 10) as (λ v. cond v ([] ∷ lines_in ((c ∷ front) ++ rest)) (onto_line b (lines_in ((c ∷ front) ++ rest))) ≡ cond v ([] ∷ before) (onto_line b before) ++ behind) [
        | true ↦ ap (λ (ls : List (List ℕ)). [] ∷ ls) again
        | false ↦ ap (onto_line b) again ∙ onto-append b before behind (line-some c front)
      ]
    ]

no-return : (b c : ℕ) → (eqb b 13 && eqb c 10) ≡ true → eqb b 10 ≡ false
no-return b c h = let p = and_parts (eqb b 13) (eqb c 10) h in subst (λ (d : ℕ). eqb d 10 ≡ false) (sym (eqb-true b 13 p.0)) refl

-- as many as there are line feeds, and one more behind the last one
lines-count : (text : List ℕ) → length (lines_in text) ≡ line_count text
lines-count [] = refl
lines-count (b ∷ []) =
    rw (and_right (eqb b 13) false refl)
    (elim (eqb b 10) as (λ v. length (cond v ([] ∷ []) ((b ∷ []) ∷ [])) ≡ cond v (cond v 1 0) (suc (cond v 1 0))) [ true ↦ refl | false ↦ refl ])
lines-count (b ∷ c ∷ text) =
    let lines : List (List ℕ) = lines_in (c ∷ text) in
    let whole : Bool = are_whole (c ∷ text) in
    let feeds : ℕ = line_feeds (c ∷ text) in
    let again : length lines ≡ cond whole feeds (suc feeds) = lines-count (c ∷ text) in
    elim (eqb b 13 && eqb c 10) as (λ v. (eqb b 13 && eqb c 10) ≡ v → length (lines_of (cond v (unreturned (c ∷ text)) (b ∷ unreturned (c ∷ text))))
    ≡ cond whole (cond (eqb b 10) (suc feeds) feeds) (suc (cond (eqb b 10) (suc feeds) feeds))) [
      | true ↦ λ e. again ∙ ap (λ (v : Bool). cond whole (cond v (suc feeds) feeds) (suc (cond v (suc feeds) feeds))) (sym (no-return b c e))
      | false ↦ λ e. elim (eqb b 10) as (λ v. length (cond v ([] ∷ lines) (onto_line b lines)) ≡ cond whole (cond v (suc feeds) feeds) (suc (cond v (suc feeds) feeds))) [
        | true ↦ ap (λ (n : ℕ). suc n) again ∙ elim whole as (λ w. suc (cond w feeds (suc feeds)) ≡ cond w (suc feeds) (suc (suc feeds))) [ true ↦ refl | false ↦ refl ]
        | false ↦ onto-length b lines (line-some c text) ∙ again
      ]
    ] refl

-- the byte order mark

unmarked-split : (a : ℕ) (front rest : List ℕ) → are_whole (a ∷ front) ≡ true → unmarked (a ∷ (front ++ rest)) ≡ unmarked (a ∷ front) ++ rest
unmarked-split a [] rest w = subst (λ (d : ℕ). unmarked (d ∷ rest) ≡ d ∷ rest) (sym (eqb-true a 10 w)) (feed-first rest)
  where
    feed-first : (rest : List ℕ) → unmarked (10 ∷ rest) ≡ 10 ∷ rest
    feed-first [] = refl
    feed-first (b ∷ []) = refl
    feed-first (b ∷ c ∷ rest) = refl
unmarked-split a (b ∷ []) rest w = subst (λ (d : ℕ). unmarked (a ∷ d ∷ rest) ≡ a ∷ d ∷ rest) (sym (eqb-true b 10 w)) (feed-second rest)
  where
    feed-second : (rest : List ℕ) → unmarked (a ∷ 10 ∷ rest) ≡ a ∷ 10 ∷ rest
    feed-second [] = refl
    feed-second (c ∷ rest) = rw (and_left (eqb a 239 && false) (eqb c 191) (and_right (eqb a 239) false refl)) refl
unmarked-split a (b ∷ c ∷ front) rest w =
    elim (eqb a 239 && eqb b 187 && eqb c 191) as (λ v. cond v (front ++ rest) (a ∷ b ∷ c ∷ (front ++ rest)) ≡ cond v front (a ∷ b ∷ c ∷ front) ++ rest) [ true ↦ refl | false ↦ refl ]

whole-behind : (a b c : ℕ) (front : List ℕ) → are_whole (a ∷ b ∷ c ∷ front) ≡ true → are_whole front ≡ true
whole-behind a b c [] w = refl
whole-behind a b c (d ∷ front) w = w

unmarked-whole : (front : List ℕ) → are_whole front ≡ true → are_whole (unmarked front) ≡ true
unmarked-whole [] w = refl
unmarked-whole (a ∷ []) w = w
unmarked-whole (a ∷ b ∷ []) w = w
unmarked-whole (a ∷ b ∷ c ∷ front) w =
    elim (eqb a 239 && eqb b 187 && eqb c 191) as (λ v. are_whole (cond v front (a ∷ b ∷ c ∷ front)) ≡ true) [ true ↦ whole-behind a b c front w | false ↦ w ]

mark-feeds : (a b c : ℕ) (text : List ℕ) → (eqb a 239 && eqb b 187 && eqb c 191) ≡ true → line_feeds (a ∷ b ∷ c ∷ text) ≡ line_feeds text
mark-feeds a b c text e =
    let p = and_parts (eqb a 239 && eqb b 187) (eqb c 191) e in
    let q = and_parts (eqb a 239) (eqb b 187) p.0 in
    subst (λ (x : ℕ). line_feeds (x ∷ b ∷ c ∷ text) ≡ line_feeds text) (sym (eqb-true a 239 q.0))
    (subst (λ (x : ℕ). line_feeds (x ∷ c ∷ text) ≡ line_feeds text) (sym (eqb-true b 187 q.1))
    (subst (λ (x : ℕ). line_feeds (x ∷ text) ≡ line_feeds text) (sym (eqb-true c 191 p.1)) refl))

unmarked-feeds : (text : List ℕ) → line_feeds (unmarked text) ≡ line_feeds text
unmarked-feeds [] = refl
unmarked-feeds (a ∷ []) = refl
unmarked-feeds (a ∷ b ∷ []) = refl
unmarked-feeds (a ∷ b ∷ c ∷ text) =
    elim (eqb a 239 && eqb b 187 && eqb c 191) as (λ v. (eqb a 239 && eqb b 187 && eqb c 191) ≡ v → line_feeds (cond v text (a ∷ b ∷ c ∷ text)) ≡ line_feeds (a ∷ b ∷ c ∷ text)) [
      | true ↦ λ e. sym (mark-feeds a b c text e)
      | false ↦ λ e. refl
    ] refl

mark-count : (a b c : ℕ) (text : List ℕ) → (eqb a 239 && eqb b 187 && eqb c 191) ≡ true → line_count text ≤ line_count (a ∷ b ∷ c ∷ text)
mark-count a b c [] e = omega arith
mark-count a b c (d ∷ text) e =
    let same = mark-feeds a b c (d ∷ text) e in
    rw same (omega arith)

unmarked-count : (text : List ℕ) → line_count (unmarked text) ≤ line_count text
unmarked-count [] = omega arith
unmarked-count (a ∷ []) = omega arith
unmarked-count (a ∷ b ∷ []) = omega arith
unmarked-count (a ∷ b ∷ c ∷ text) =
    elim (eqb a 239 && eqb b 187 && eqb c 191) as (λ v. (eqb a 239 && eqb b 187 && eqb c 191) ≡ v → line_count (cond v text (a ∷ b ∷ c ∷ text)) ≤ line_count (a ∷ b ∷ c ∷ text)) [
      | true ↦ λ e. mark-count a b c text e
      | false ↦ λ e. omega arith
    ] refl

pub whole-count : (text : List ℕ) → are_whole text ≡ true → line_count text ≡ line_feeds text
whole-count text w = rw w refl

-- numbers of lines

numbered-append : (n : ℕ) (lines more : List (List ℕ)) → numbered n (lines ++ more) ≡ numbered n lines ++ numbered (n + length lines) more
numbered-append n [] more = ap (λ (k : ℕ). numbered k more) (omega arith)
numbered-append n (line ∷ lines) more =
    ap (λ (rows : List Row). record { line = n; bytes = line } ∷ rows)
    (numbered-append (suc n) lines more ∙ ap (λ (k : ℕ). numbered (suc n) lines ++ numbered k more) (omega arith))

pub numbered-lines : (P : ℕ → Type 0) (n : ℕ) (lines : List (List ℕ)) → ((k : ℕ) → n ≤ k → k < n + length lines → P k) → OnLines P (numbered n lines)
numbered-lines P n [] h = tt
numbered-lines P n (line ∷ lines) h = (h n (omega arith) (omega arith), numbered-lines P (suc n) lines (λ k l m. h k (omega arith) (omega arith)))

-- the lines of a text are numbered from 1
pub rows-lines : (P : ℕ → Type 0) (text : List ℕ) → ((k : ℕ) → 1 ≤ k → k ≤ line_count text → P k) → OnLines P (rows_of text)
rows-lines P text h =
    let lines : List (List ℕ) = lines_in (unmarked text) in
    let c : length lines ≡ line_count (unmarked text) = lines-count (unmarked text) in
    let l : line_count (unmarked text) ≤ line_count text = unmarked-count text in
    numbered-lines P 1 lines (λ k from to. h k from (omega arith))

-- what is behind whole lines, without a byte order mark that the text begins with
abbrev behind_front : List ℕ → List ℕ → List ℕ
behind_front [] rest = unmarked rest
behind_front (b ∷ front) rest = rest

-- the lines behind whole lines
abbrev pub rows_behind : List ℕ → List ℕ → List Row
rows_behind front rest = numbered (suc (line_feeds front)) (lines_in (behind_front front rest))

rows-whole : (front rest : List ℕ) → are_whole front ≡ true → numbered 1 (lines_in (front ++ rest)) ≡ numbered 1 (lines_in front) ++ numbered (suc (line_feeds front)) (lines_in rest)
rows-whole front rest w =
    let n : length (lines_in front) ≡ line_feeds front = lines-count front ∙ whole-count front w in
    ap (numbered 1) (lines-split front rest w) ∙ numbered-append 1 (lines_in front) (lines_in rest)
    ∙ ap (λ (k : ℕ). numbered 1 (lines_in front) ++ numbered k (lines_in rest)) (omega arith)

pub rows-split : (front rest : List ℕ) → are_whole front ≡ true → rows_of (front ++ rest) ≡ rows_of front ++ rows_behind front rest
rows-split [] rest w = refl
rows-split (a ∷ front) rest w =
    ap (λ (t : List ℕ). numbered 1 (lines_in t)) (unmarked-split a front rest w)
    ∙ rows-whole (unmarked (a ∷ front)) rest (unmarked-whole (a ∷ front) w)
    ∙ ap (λ (k : ℕ). rows_of (a ∷ front) ++ numbered (suc k) (lines_in rest)) (unmarked-feeds (a ∷ front))

pub rows-later : (front rest : List ℕ) → OnLines (λ n. line_feeds front < n) (rows_behind front rest)
rows-later front rest = numbered-lines (λ n. line_feeds front < n) (suc (line_feeds front)) (lines_in (behind_front front rest)) (λ k l m. omega arith)
