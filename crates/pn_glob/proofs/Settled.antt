-- One answer for each list of texts, to which each reading and each refusal leads.
use Rattle.std.proofs.Common.{◌≡◌, ◌+◌, ◌-◌, ℕ, Bool, true, false, List, [], ◌∷◌, ◌++◌, length, refl, sym, ap, ◌∙◌, inl, inr, arith, append_assoc, append-nil, length-append, add-one}
use Rattle.std.specs.Prelude.{◌≢◌, ◌&&◌, not, if◌then◌else◌}
use Rattle.std.specs.List.{list_all}
use Rattle.std.proofs.lemmas.Bool.{and_parts}
use Rattle.pn_glob.specs.declared.fault.Bad.{Bad}
use Rattle.pn_glob.specs.declared.fault.Bad.TheVariants as bad
use Rattle.pn_glob.specs.declared.fault.GlobFault.{GlobFault}
use Rattle.pn_glob.specs.declared.fault.GlobFault.TheVariants as fault
use Rattle.pn_glob.specs.declared.kind.Kind.{Kind}
use Rattle.pn_glob.specs.declared.kind.Kind.TheVariants.{Paths, Names}
use Rattle.pn_glob.specs.Bytes.{is_bracket}
use Rattle.pn_glob.specs.Grammar.{HasBadByte, is_plain}
use Rattle.pn_glob.specs.Laws.{SettledLaw}
use Rattle.pn_glob.specs.Lists.{HasBracket, IsBadAt, IsLarge, Met, ReadAll, Reads, Refused, before_slash, is_negative, moved, or_star, tail_of, none, positive, negative}
use Rattle.pn_glob.specs.ReadLists.{fault_of}
use Rattle.pn_glob.specs.Matching.{Patterns}
use Rattle.pn_glob.proofs.LeftToRight.{Turn, out, within, stopped, many, start, turned, bad-turned, many-turned, open-turned, spells-turned}

-- what a pattern is read as, or why it isn't
data Reading : Type 0 where
  good : List (List ℕ) → Reading
  wrong : Bad → Reading

abbrev path_reading : List ℕ → Turn → Reading
path_reading text (out cs) = good cs
path_reading text (within cs ds es) = wrong (bad.At (length text))
path_reading text (stopped n) = wrong (bad.At (moved Paths text (length (before_slash (tail_of Paths text)) - n)))
path_reading text many = wrong bad.TooMany

-- how many bytes stand before the first bracket
abbrev plain_front : List ℕ → ℕ
plain_front [] = 0
plain_front (b ∷ t) = if is_plain b then plain_front t + 1 else 0

abbrev name_reading : List ℕ → List ℕ → Reading
name_reading text body = if list_all is_plain body then good (body ∷ []) else wrong (bad.At (moved Names text (plain_front body)))

abbrev reading : Kind → List ℕ → Reading
reading Paths text = path_reading text (turned start (before_slash (tail_of Paths text)))
reading Names text = name_reading text (tail_of Names text)

reads-reading : (kind : Kind) (text : List ℕ) (cs : List (List ℕ)) → Reads kind text cs → reading kind text ≡ good cs
reads-reading Paths text cs h = ap (path_reading text) (spells-turned (before_slash (tail_of Paths text)) cs h)
reads-reading Names text cs h =
    ap (λ v. if v then good (tail_of Names text ∷ []) else wrong (bad.At (moved Names text (plain_front (tail_of Names text))))) h.plain
    ∙ ap good (sym h.itself)

place-back : (body : List ℕ) (at : ℕ) → HasBadByte body at → length body - (length body - at) ≡ at
place-back body at h =
    let n = ap (λ (y : List ℕ). length y) h.split ∙ length-append h.front (h.byte ∷ h.after) in
    let p = h.place in
    omega arith

bracket-front : (front : List ℕ) (b : ℕ) (after : List ℕ) → list_all is_plain front ≡ true → is_bracket b ≡ true
    → (list_all is_plain (front ++ b ∷ after) ≡ false) × (plain_front (front ++ b ∷ after) ≡ length front)
bracket-front [] b after p h =
    (ap (λ v. not v && list_all is_plain after) h, ap (λ v. if not v then plain_front after + 1 else 0) h)
bracket-front (a ∷ front) b after p h =
    let q = (and_parts (is_plain a) (list_all is_plain front) p).0 in
    let r = bracket-front front b after (and_parts (is_plain a) (list_all is_plain front) p).1 h in
    (ap (λ v. v && list_all is_plain (front ++ b ∷ after)) q ∙ r.0, ap (λ v. if v then plain_front (front ++ b ∷ after) + 1 else 0) q ∙ ap (λ n. n + 1) r.1 ∙ add-one (length front))

bracket-reading : (text body : List ℕ) (at : ℕ) → HasBracket body at → name_reading text body ≡ wrong (bad.At (moved Names text at))
bracket-reading text body at h =
    let f = bracket-front h.front h.byte h.after h.plain h.bracket in
    ap (name_reading text) h.split
    ∙ ap (λ v. if v then good ((h.front ++ h.byte ∷ h.after) ∷ []) else wrong (bad.At (moved Names text (plain_front (h.front ++ h.byte ∷ h.after))))) f.0
    ∙ ap (λ n. wrong (bad.At (moved Names text n))) (f.1 ∙ sym h.place)

bad-reading : (kind : Kind) (text : List ℕ) (at : ℕ) → IsBadAt kind text at → reading kind text ≡ wrong (bad.At at)
bad-reading Paths text at (inl h) =
    let body = before_slash (tail_of Paths text) in
    ap (path_reading text) (bad-turned body h.0 h.1)
    ∙ ap (λ n. wrong (bad.At (moved Paths text n))) (place-back body h.0 h.1)
    ∙ ap (λ n. wrong (bad.At n)) (sym h.2)
bad-reading Paths text at (inr h) = ap (path_reading text) (open-turned (before_slash (tail_of Paths text)) h.0).«is» ∙ ap (λ n. wrong (bad.At n)) (sym h.1)
bad-reading Names text at h = bracket-reading text (tail_of Names text) h.0 h.1 ∙ ap (λ n. wrong (bad.At n)) (sym h.2)

large-reading : (kind : Kind) (text : List ℕ) → IsLarge kind text → reading kind text ≡ wrong bad.TooMany
large-reading Paths text h = ap (path_reading text) (many-turned (before_slash (tail_of Paths text)) h)
large-reading Names text h = absurd h

-- what a list is read as, or why it is refused
data Answer : Type 0 where
  lists : List (List ℕ) → List (List ℕ) → Answer
  refused : GlobFault → Answer

abbrev on_good : ℕ → (List (List ℕ) → Answer) → Reading → Answer
on_good n f (good cs) = f cs
on_good n f (wrong why) = refused (fault_of n why)

-- the answer behind so many patterns with these texts
abbrev answer : Kind → List (List ℕ) → ℕ → List (List ℕ) → List (List ℕ) → Answer
answer kind [] n ps ns = lists ps ns
answer kind (t ∷ ts) n ps ns = on_good n (λ cs. if is_negative t then answer kind ts (n + 1) ps (ns ++ cs) else answer kind ts (n + 1) (ps ++ cs) ns) (reading kind t)

-- the answer behind the texts of one more pattern
abbrev behind : Kind → List (List ℕ) → ℕ → List (List ℕ) → List (List ℕ) → List (List ℕ) → Bool → Answer
behind kind ts n ps ns cs v = if v then answer kind ts (n + 1) ps (ns ++ cs) else answer kind ts (n + 1) (ps ++ cs) ns

read-answer : (kind : Kind) (ts ps ns : List (List ℕ)) → ReadAll kind ts ps ns → (rest : List (List ℕ)) → answer kind (ts ++ rest) 0 [] [] ≡ answer kind rest (length ts) ps ns
read-answer kind _ _ _ none rest = refl
read-answer kind _ _ ns (positive ts ps _ cs t r pos h) rest =
    ap (λ (z : List (List ℕ)). answer kind z 0 [] []) (append_assoc ts (t ∷ []) rest)
    ∙ read-answer kind ts ps ns r (t ∷ rest)
    ∙ ap (on_good (length ts) (λ ds. behind kind rest (length ts) ps ns ds (is_negative t))) (reads-reading kind t cs h)
    ∙ ap (behind kind rest (length ts) ps ns cs) pos
    ∙ ap (λ n. answer kind rest n (ps ++ cs) ns) (sym (length-append ts (t ∷ [])))
read-answer kind _ ps _ (negative ts _ ns cs t r neg h) rest =
    ap (λ (z : List (List ℕ)). answer kind z 0 [] []) (append_assoc ts (t ∷ []) rest)
    ∙ read-answer kind ts ps ns r (t ∷ rest)
    ∙ ap (on_good (length ts) (λ ds. behind kind rest (length ts) ps ns ds (is_negative t))) (reads-reading kind t cs h)
    ∙ ap (behind kind rest (length ts) ps ns cs) neg
    ∙ ap (λ n. answer kind rest n ps (ns ++ cs)) (sym (length-append ts (t ∷ [])))

all-answer : (kind : Kind) (ts ps ns : List (List ℕ)) → ReadAll kind ts ps ns → answer kind ts 0 [] [] ≡ lists ps ns
all-answer kind ts ps ns r = ap (λ (z : List (List ℕ)). answer kind z 0 [] []) (sym (append-nil ts)) ∙ read-answer kind ts ps ns r []

met-answer : (kind : Kind) (texts : List (List ℕ)) (text : List ℕ) (index : ℕ) (why : Bad) → Met kind texts text index → reading kind text ≡ wrong why
    → answer kind texts 0 [] [] ≡ refused (fault_of index why)
met-answer kind texts text index why m e =
    ap (λ (z : List (List ℕ)). answer kind z 0 [] []) m.split
    ∙ read-answer kind m.front m.positive m.negative m.read (text ∷ m.after)
    ∙ ap (on_good (length m.front) (λ ds. behind kind m.after (length m.front) m.positive m.negative ds (is_negative text))) e
    ∙ ap (λ n. refused (fault_of n why)) (sym m.place)

refused-answer : (kind : Kind) (texts : List (List ℕ)) (e : GlobFault) → e ≢ fault.Memory → Refused kind texts e → answer kind texts 0 [] [] ≡ refused e
refused-answer kind texts (fault.BadByte index at) n h = met-answer kind texts h.0 index (bad.At at) h.1 (bad-reading kind h.0 at h.2)
refused-answer kind texts fault.TooMany n h = met-answer kind texts h.0 h.1 bad.TooMany h.2 (large-reading kind h.0 h.3)
refused-answer kind texts fault.Memory n h = absurd (n refl)

same-lists : (a b c d : List (List ℕ)) → lists a b ≡ lists c d → (a ≡ c) × (b ≡ d)
same-lists a b c d h = (cc, cc)

read-same : (kind : Kind) (texts ps qs ns ms : List (List ℕ)) → ReadAll kind texts ps ns → ReadAll kind texts qs ms → (ps ≡ qs) × (ns ≡ ms)
read-same kind texts ps qs ns ms r s = same-lists ps ns qs ms (sym (all-answer kind texts ps ns r) ∙ all-answer kind texts qs ms s)

not-both : (ps ns : List (List ℕ)) (e : GlobFault) → lists ps ns ≡ refused e → ⊥
not-both ps ns e h = cc

same-fault : (e f : GlobFault) → refused e ≡ refused f → e ≡ f
same-fault e f h = cc

same-patterns : (l m : Patterns) → l.kind ≡ m.kind → l.positive ≡ m.positive → l.negative ≡ m.negative → l ≡ m
same-patterns l m k p n = λ i. record { kind = k i; positive = p i; negative = n i }

pub settled : SettledLaw
settled = record {
  read = read-same;
  paths = λ texts l m x y.
      let s = read-same Paths texts l.positive m.positive l.negative m.negative x.read y.read in
      same-patterns l m (x.kind ∙ sym y.kind) s.0 s.1;
  names = λ texts l m x y.
      let s = read-same Names texts x.written y.written l.negative m.negative x.read y.read in
      same-patterns l m (x.kind ∙ sym y.kind) (x.positive ∙ ap (λ (z : List (List ℕ)). or_star z l.negative) s.0 ∙ ap (or_star y.written) s.1 ∙ sym y.positive) s.1;
  unread = λ kind texts ps ns e n h r. not-both ps ns e (sym (all-answer kind texts ps ns r) ∙ refused-answer kind texts e n h);
  refusal = λ kind texts e f m n g h. same-fault e f (sym (refused-answer kind texts e m g) ∙ refused-answer kind texts f n h);
}
