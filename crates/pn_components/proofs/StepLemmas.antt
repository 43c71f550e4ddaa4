-- The steps of a walk as the code takes them.
use Rattle.std.proofs.Common.{◌≡◌, ◌≢◌, ◌<◌, ◌≤◌, ℕ, ◌+◌, ◌-◌, List, [], ◌∷◌, ◌++◌, length, get_or, set, take, map, refl, sym, ap, ◌∙◌, subst, arith, length-append}
use Rattle.std.specs.Prelude.{Vec}
use Rattle.std.specs.List.{Contains}
use Rattle.std.proofs.lemmas.List.{get_or-map, get_or_read, length-take-le, length_push, take_at}
use Rattle.std.proofs.lemmas.List.Elements.{Contains-append_left, Contains-push}
use Rattle.pn_components.specs.declared.walk.Mark.{Mark}
use Rattle.pn_components.specs.declared.walk.Mark.TheVariants.{New, Open}
use Rattle.pn_components.specs.declared.walk.Part.{Part}
use Rattle.pn_components.specs.Graphs.{Reaches, through}
use Rattle.pn_components.specs.Rows.{LeadsIn, rows_of}
use Rattle.pn_components.specs.Walks.{AllReach, IsLast, IsWalk, mark_of, work_in}
use Rattle.pn_components.proofs.CloseLemmas.{closed_walk}
use Rattle.pn_components.proofs.CloseSteps.{closed_upto, upto_all}
use Rattle.pn_components.proofs.EnterLemmas.{entered}
use Rattle.pn_components.proofs.JoinLemmas.{joined_one}
use Rattle.pn_components.proofs.MarkLemmas.{closed_mark, work-closed, work-set}
use Rattle.pn_components.proofs.PartLemmas.{first_after, split_last, waiting_after}
use Rattle.pn_components.proofs.PopLemmas.{IsSettled, popped}

-- ---- lists

some_length : {X : Type 0} (xs : List X) → xs ≢ [] → 0 < length xs
some_length [] h = absurd (h refl)
some_length (x ∷ xs) h = omega arith

-- the last item, as the code reads it
pub last_is : {X : Type 0} (xs : List X) (n : ℕ) (x : X) → n ≡ length xs → 0 < length xs → x ≡ get_or xs (n - 1) x → xs ≡ take (n - 1) xs ++ x ∷ []
last_is {X} xs n x long some is =
    split_last xs (n - 1) x (omega (arith, long, some)) ∙ ap (λ (y : X). take (n - 1) xs ++ y ∷ []) (sym is)

pub last_of_some : {X : Type 0} (xs : List X) (n : ℕ) (x : X) → n ≡ length xs → xs ≢ [] → x ≡ get_or xs (n - 1) x → xs ≡ take (n - 1) xs ++ x ∷ []
last_of_some xs n x long some is = last_is xs n x long (some_length xs some) is

pub front_is : {X : Type 0} (xs front new : List X) (n : ℕ) (x : X) → xs ≡ front ++ x ∷ [] → n ≡ length xs → new ≡ take (n - 1) xs → new ≡ front
front_is xs front new n x is long cut =
    let size : length xs ≡ length front + 1 = ap length is ∙ length_push front x in
    let short : n - 1 ≡ length front = omega (arith, size, long) in
    cut ∙ ap (λ (k : ℕ). take k xs) short ∙ ap (take (length front)) is ∙ take_at front (x ∷ []) (length front) refl

pub shorter : {X : Type 0} (xs new : List X) (n : ℕ) → n ≡ length xs → 0 < length xs → new ≡ take (n - 1) xs → length new + 1 ≡ length xs
shorter xs new n long some cut = omega (arith, ap length cut, length-take-le (n - 1) xs (omega (arith, long)), long, some)

pub row_at : {A : Type 0} (rows : List (Vec ℕ A)) (v : ℕ) (r : Vec ℕ A) → v < length rows → r ≡ get_or rows v r → r.items ≡ get_or (rows_of rows) v []
row_at {A} rows v r lt is = ap (λ (x : Vec ℕ A). x.items) is ∙ sym (get_or-map (λ (x : Vec ℕ A). x.items) rows v r [] lt)

-- ---- a place is entered

pub entered_state : (rows : List (List ℕ)) (marks : List Mark) (stack : List ℕ) (parts : List Part) (waiting : List ℕ) (numbers v : ℕ) → IsWalk rows marks stack parts waiting numbers
    → mark_of marks v ≡ New → v < length rows → AllReach rows stack v → (first wait : ℕ) (stack' : List ℕ) (parts' : List Part) (waiting' row : List ℕ) → first ≡ length stack → wait ≡ length waiting → stack' ≡ stack ++ v ∷ []
    → parts' ≡ parts ++ (record { first = first; waiting = wait }) ∷ [] → waiting' ≡ waiting ++ row → row ≡ get_or rows v [] → IsWalk rows (set marks v (Open first)) stack' parts' waiting' numbers
entered_state rows marks stack parts waiting numbers v h fresh within reached first wait stack' parts' waiting' row e1 e2 e3 e4 e5 e6 =
    let w = entered rows marks stack parts waiting numbers v h fresh within reached in
    subst (λ (k : ℕ). IsWalk rows (set marks v (Open k)) stack' parts' waiting' numbers) (sym e1)
    (subst (λ (s : List ℕ). IsWalk rows (set marks v (Open (length stack))) s parts' waiting' numbers) (sym e3)
    (subst (λ (p : List Part). IsWalk rows (set marks v (Open (length stack))) (stack ++ v ∷ []) p waiting' numbers) (sym (e4 ∙ part e1 e2))
    (subst (λ (q : List ℕ). IsWalk rows (set marks v (Open (length stack))) (stack ++ v ∷ []) (parts ++ (record { first = length stack; waiting = length waiting }) ∷ []) q numbers) (sym (e5 ∙ ap (λ (r : List ℕ). waiting ++ r) e6)) w))) where
      of : ℕ → ℕ → List Part
      of a b = parts ++ (record { first = a; waiting = b }) ∷ []

      part : first ≡ length stack → wait ≡ length waiting → parts ++ (record { first = first; waiting = wait }) ∷ [] ≡ parts ++ (record { first = length stack; waiting = length waiting }) ∷ []
      part a b = ap (λ (k : ℕ). parts ++ (record { first = k; waiting = wait }) ∷ []) a ∙ ap (λ (k : ℕ). parts ++ (record { first = length stack; waiting = k }) ∷ []) b

pub entered_nearer : (rows : List (List ℕ)) (marks : List Mark) (parts parts' : List Part) (waiting waiting' row : List ℕ) (v i : ℕ) (x : Part) → v < length rows → length marks ≡ length rows → mark_of marks v ≡ New
    → parts' ≡ parts ++ x ∷ [] → waiting' ≡ waiting ++ row → row ≡ get_or rows v []
    → work_in rows (set marks v (Open i)) + length waiting' + length parts' < work_in rows marks + length waiting + length parts
entered_nearer rows marks parts parts' waiting waiting' row v i x within count fresh e1 e2 e3 =
    let w = work-set rows marks v i within (omega (arith, within, count)) fresh in
    let p : length parts' ≡ length parts + 1 = ap length e1 ∙ length_push parts x in
    let q : length waiting' ≡ length waiting + length row = ap length e2 ∙ length-append waiting row in
    let r : length row ≡ length (get_or rows v []) = ap length e3 in
    omega (arith, w, p, q, r)

-- ---- the last part

pub some_part : (rows : List (List ℕ)) (marks : List Mark) (stack : List ℕ) (parts : List Part) (waiting : List ℕ) (numbers place : ℕ) → IsWalk rows marks stack parts waiting numbers → place < length stack → 0 < length parts
some_part rows marks stack parts waiting numbers place h within = let c = (h.covered place within).1 in let lt = c.1 in omega (arith, lt)

pub joined_state : (rows : List (List ℕ)) (marks : List Mark) (stack : List ℕ) (parts parts' : List Part) (waiting : List ℕ) (numbers place n : ℕ) (x : Part) → IsWalk rows marks stack parts waiting numbers
    → parts ≡ take (n - 1) parts ++ x ∷ [] → parts' ≡ take (n - 1) parts → place < x.first → place < length stack → AllReach rows stack (get_or stack place 0) → IsWalk rows marks stack parts' waiting numbers
joined_state rows marks stack parts parts' waiting numbers place n x h is cut less within reached =
    subst (λ (p : List Part). IsWalk rows marks stack p waiting numbers) (sym cut)
    (joined_one rows marks stack (take (n - 1) parts) x waiting numbers place (subst (λ (p : List Part). IsWalk rows marks stack p waiting numbers) is h) less within reached)

pub joined_old : (parts parts' : List Part) (n : ℕ) (x : Part) → parts ≡ take (n - 1) parts ++ x ∷ [] → parts' ≡ take (n - 1) parts → (y : Part) → Contains parts' y → Contains parts y
joined_old parts parts' n x is cut y c =
    subst (λ (p : List Part). Contains p y) (sym is) (Contains-append_left (take (n - 1) parts) (x ∷ []) y (subst (λ (p : List Part). Contains p y) cut c))

pub all_first : (rows : List (List ℕ)) (marks : List Mark) (stack : List ℕ) (parts : List Part) (waiting : List ℕ) (numbers place n : ℕ) (x : Part) → IsWalk rows marks stack parts waiting numbers
    → parts ≡ take (n - 1) parts ++ x ∷ [] → x.first ≤ place → (y : Part) → Contains parts y → y.first ≤ place
all_first rows marks stack parts waiting numbers place n x h is le y c =
    let g = subst (λ (p : List Part). IsWalk rows marks stack p waiting numbers) is h in
    first_after (take (n - 1) parts) x place g.rising le y (subst (λ (p : List Part). Contains p y) is c)

pub is_last : (rows : List (List ℕ)) (marks : List Mark) (stack : List ℕ) (parts : List Part) (waiting : List ℕ) (numbers n : ℕ) (x : Part) → IsWalk rows marks stack parts waiting numbers
    → parts ≡ take (n - 1) parts ++ x ∷ [] → length waiting ≤ x.waiting → IsLast parts x.first (length waiting)
is_last rows marks stack parts waiting numbers n x h is le = record {
  front = take (n - 1) parts;
  last = x;
  is = is;
  begins = refl;
  rests = let b = (h.begun x (subst (λ (p : List Part). Contains p x) (sym is) (Contains-push (take (n - 1) parts) x))).1 in omega (arith, b, le);
}

-- ---- the last target that waits

module _ (rows : List (List ℕ)) (marks : List Mark) (stack : List ℕ) (parts : List Part) (waiting : List ℕ) (numbers n m w : ℕ) (x : Part) (h : IsWalk rows marks stack parts waiting numbers) (is : parts ≡ take (n - 1) parts ++ x ∷ []) (long : m ≡ length waiting) (waits : x.waiting < length waiting) (target : w ≡ get_or waiting (m - 1) w) where
  last_within : m - 1 < length waiting
  last_within = omega (arith, long, waits)

  target_at : get_or waiting (m - 1) 0 ≡ w
  target_at = sym (get_or_read waiting (m - 1) w last_within target 0)

  pub target_within : w < length rows
  target_within =
      let s = h.sources (m - 1) last_within in
      subst (λ (v : ℕ). v < length rows) target_at (h.targets (get_or stack s.place 0) (get_or waiting (m - 1) 0) s.leads)

  pub target_reached : AllReach rows stack w
  target_reached i lt =
      let s = h.sources (m - 1) last_within in
      let last = subst (λ (p : List Part). Contains p x) (sym is) (Contains-push (take (n - 1) parts) x) in
      let inside : x.first ≤ s.place = s.after x last (omega (arith, long, waits)) in
      subst (λ (v : ℕ). Reaches (LeadsIn rows) (get_or stack i 0) v) target_at
      (through (get_or stack s.place 0) (get_or waiting (m - 1) 0)
      (h.linked i s.place lt s.within (λ y c le. all_first rows marks stack parts waiting numbers s.place n x h is inside y c)) s.leads)

  pub rest_waits : (y : Part) → Contains parts y → y.waiting ≤ m - 1
  rest_waits y c =
      let g = subst (λ (p : List Part). IsWalk rows marks stack p waiting numbers) is h in
      waiting_after (take (n - 1) parts) x (m - 1) g.rising (omega (arith, long, waits)) y (subst (λ (p : List Part). Contains p y) is c)

pub popped_state : (rows : List (List ℕ)) (marks : List Mark) (stack : List ℕ) (parts : List Part) (waiting waiting' : List ℕ) (numbers m w : ℕ) → IsWalk rows marks stack parts waiting numbers
    → m ≡ length waiting → 0 < length waiting → w ≡ get_or waiting (m - 1) w → waiting' ≡ take (m - 1) waiting → IsSettled marks parts w → ((y : Part) → Contains parts y → y.waiting ≤ m - 1) → IsWalk rows marks stack parts waiting' numbers
popped_state rows marks stack parts waiting waiting' numbers m w h long some target cut settled rest =
    let is = last_is waiting m w long some target in
    let size : length (take (m - 1) waiting) ≡ m - 1 = length-take-le (m - 1) waiting (omega (arith, long)) in
    subst (λ (q : List ℕ). IsWalk rows marks stack parts q numbers) (sym cut)
    (popped rows marks stack parts (take (m - 1) waiting) w numbers (subst (λ (q : List ℕ). IsWalk rows marks stack parts q numbers) is h) settled (λ y c. let le = rest y c in omega (arith, le, size)))

-- ---- a part is closed

pub closed_state : (rows rows' : List (List ℕ)) (marks marks' : List Mark) (stack stack' : List ℕ) (parts parts' : List Part) (waiting waiting' : List ℕ) (numbers numbers' first i n : ℕ) → IsWalk rows marks stack parts waiting numbers
    → IsLast parts first (length waiting) → rows' ≡ rows → marks' ≡ map (closed_upto first numbers' i) marks → stack' ≡ take first stack → n ≡ length parts → parts' ≡ take (n - 1) parts → waiting' ≡ waiting → numbers' ≡ numbers
    → length stack ≤ i → IsWalk rows' marks' stack' parts' waiting' (numbers' + 1)
closed_state rows rows' marks marks' stack stack' parts parts' waiting waiting' numbers numbers' first i n h l e1 e2 e3 long e4 e5 e6 far =
    let x = l.last in
    let w = closed_walk rows marks stack l.front x waiting numbers (subst (λ (p : List Part). IsWalk rows marks stack p waiting numbers) l.is h) (let r = l.rests in omega (arith, r)) in
    let done : map (closed_upto first numbers' i) marks ≡ map (closed_mark x.first numbers) marks =
    upto_all first numbers' i marks (λ v k o. let b = (h.opened v k o).0 in omega (arith, b, far))
    ∙ ap (λ (k : ℕ). map (closed_mark first k) marks) e6 ∙ ap (λ (k : ℕ). map (closed_mark k numbers) marks) (sym l.begins) in
    subst (λ (r : List (List ℕ)). IsWalk r marks' stack' parts' waiting' (numbers' + 1)) (sym e1)
    (subst (λ (k : List Mark). IsWalk rows k stack' parts' waiting' (numbers' + 1)) (sym (e2 ∙ done))
    (subst (λ (s : List ℕ). IsWalk rows (map (closed_mark x.first numbers) marks) s parts' waiting' (numbers' + 1)) (sym (e3 ∙ ap (λ (k : ℕ). take k stack) (sym l.begins)))
    (subst (λ (p : List Part). IsWalk rows (map (closed_mark x.first numbers) marks) (take x.first stack) p waiting' (numbers' + 1)) (sym (front_is parts l.front parts' n x l.is long e4))
    (subst (λ (q : List ℕ). IsWalk rows (map (closed_mark x.first numbers) marks) (take x.first stack) l.front q (numbers' + 1)) (sym e5)
    (subst (λ (k : ℕ). IsWalk rows (map (closed_mark x.first numbers) marks) (take x.first stack) l.front waiting (k + 1)) (sym e6) w)))))

pub closed_marks : (rows : List (List ℕ)) (marks marks' : List Mark) (stack : List ℕ) (parts : List Part) (waiting : List ℕ) (numbers numbers' first i : ℕ) → IsWalk rows marks stack parts waiting numbers
    → marks' ≡ map (closed_upto first numbers' i) marks → length stack ≤ i → marks' ≡ map (closed_mark first numbers') marks
closed_marks rows marks marks' stack parts waiting numbers numbers' first i h e far = e ∙ upto_all first numbers' i marks (λ v k o. let b = (h.opened v k o).0 in omega (arith, b, far))

pub closed_nearer : (rows rows' : List (List ℕ)) (marks marks' : List Mark) (parts parts' : List Part) (waiting waiting' : List ℕ) (first numbers n : ℕ) → rows' ≡ rows → marks' ≡ map (closed_mark first numbers) marks → n ≡ length parts → 0 < length parts
    → parts' ≡ take (n - 1) parts → waiting' ≡ waiting → work_in rows' marks' + length waiting' + length parts' < work_in rows marks + length waiting + length parts
closed_nearer rows rows' marks marks' parts parts' waiting waiting' first numbers n e1 e2 long some e3 e4 =
    let w : work_in rows' marks' ≡ work_in rows marks = ap (λ (r : List (List ℕ)). work_in r marks') e1 ∙ ap (work_in rows) e2 ∙ work-closed first numbers rows marks in
    let p = shorter parts parts' n long some e3 in
    let q = ap length e4 in
    omega (arith, w, p, q)
