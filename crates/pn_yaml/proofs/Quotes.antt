-- Scalars in quotes, piece by piece.
use Rattle.std.proofs.Common.{◌≡◌, ◌≢◌, ℕ, List, [], ◌∷◌, ◌++◌, Bool, true, false, Result, Ok, Err, refl, sym, ap, ◌∙◌, append_assoc}
use Rattle.std.specs.Prelude.{◌==◌, ◌||◌, if◌then◌else◌}
use Rattle.std.specs.List.{list_any}
use Rattle.std.proofs.lemmas.Bool.{ne_eqb, or_parts}
use Rattle.std.proofs.lemmas.List.{append-nil, append_cancel_right}
use Rattle.pn_yaml.specs.declared.fault.Why.TheVariants as why
use Rattle.pn_yaml.specs.declared.fault.YamlFault.{YamlFault}
use Rattle.pn_yaml.specs.Bytes.{starts, is_empty}
use Rattle.pn_yaml.specs.Outcome.{wrong}
use Rattle.pn_yaml.specs.Reading.{EndsAt}
use Rattle.pn_yaml.specs.Scalars.{Word, Inside, single, quote, double, slash, digits, Turn, go, closed, behind, bad, turn_of, turned, with_bytes, closed_at, quoted_at, quoted_end}

-- what reading gives, so far as it is known
abbrev pub Read : Type 0
Read = Result (Word × List ℕ) YamlFault

pub with_more : (front bytes : List ℕ) (r : Read) → with_bytes front (with_bytes bytes r) ≡ with_bytes (front ++ bytes) r
with_more front bytes (Ok w) = ap (λ (t : List ℕ). Ok (record { text = t; plain = false }, w.1)) (sym (append_assoc front bytes w.0.text))
with_more front bytes (Err e) = refl

none_turned : (line : ℕ) (t : Turn) (f : Inside → Read) (b : ℕ) (rest : List ℕ) → with_bytes [] (turned line t f b rest) ≡ turned line t f b rest
none_turned line (go bytes s) f b rest = with_more [] bytes (f s)
none_turned line closed f b rest = refl
none_turned line behind f b rest = refl
none_turned line bad f b rest = refl

none_ended : (line : ℕ) (s : Inside) → with_bytes [] (quoted_end line s) ≡ quoted_end line s
none_ended line single = refl
none_ended line quote = refl
none_ended line double = refl
none_ended line slash = refl
none_ended line (digits left value) = refl

pub with_none : (line : ℕ) (s : Inside) (text : List ℕ) → with_bytes [] (quoted_at line s text) ≡ quoted_at line s text
with_none line s [] = none_ended line s
with_none line s (b ∷ rest) = none_turned line (turn_of s b) (λ t. quoted_at line t rest) b rest

-- bytes that stand for themselves
abbrev Stays : Inside → (ℕ → Bool) → Type 0
Stays s p = (b : ℕ) → p b ≡ false → turn_of s b ≡ go (b ∷ []) s

through : (line : ℕ) (s : Inside) (p : ℕ → Bool) → Stays s p → (front rest : List ℕ) → list_any p front ≡ false → quoted_at line s (front ++ rest) ≡ with_bytes front (quoted_at line s rest)
through line s p stays [] rest free = sym (with_none line s rest)
through line s p stays (b ∷ front) rest free =
    let f = or_parts (p b) (list_any p front) free in
    ap (λ (t : Turn). turned line t (λ i. quoted_at line i (front ++ rest)) b (front ++ rest)) (stays b f.0)
    ∙ ap (λ (r : Read). with_bytes (b ∷ []) r) (through line s p stays front rest f.1)
    ∙ with_more (b ∷ []) front (quoted_at line s rest)

single_stays : Stays single (λ c. c == 39 || c == 39)
single_stays b e = ap (λ (c : Bool). if c then go [] quote else go (b ∷ []) single) (or_parts (b == 39) (b == 39) e).0

double_stays : Stays double (λ c. c == 34 || c == 92)
double_stays b e =
    let n = or_parts (b == 34) (b == 92) e in
    ap (λ (c : Bool). if c then closed else if b == 92 then go [] slash else go (b ∷ []) double) n.0
    ∙ ap (λ (c : Bool). if c then go [] slash else go (b ∷ []) double) n.1

single_front : (line : ℕ) (text front rest : List ℕ) → EndsAt 39 39 text front rest → quoted_at line single text ≡ with_bytes front (quoted_at line single rest)
single_front line text front rest e = ap (quoted_at line single) e.whole ∙ through line single (λ c. c == 39 || c == 39) single_stays front rest e.free

double_front : (line : ℕ) (text front rest : List ℕ) → EndsAt 34 92 text front rest → quoted_at line double text ≡ with_bytes front (quoted_at line double rest)
double_front line text front rest e = ap (quoted_at line double) e.whole ∙ through line double (λ c. c == 34 || c == 92) double_stays front rest e.free

none_left : (a b : ℕ) (rest : List ℕ) → (is_empty rest || starts a rest || starts b rest) ≡ true → starts a rest ≡ false → starts b rest ≡ false → rest ≡ []
none_left a b [] e f g = refl
none_left a b (c ∷ rest) e f g = absurd cc

closed_with : (front after : List ℕ) → with_bytes front (closed_at after) ≡ Ok (record { text = front; plain = false }, after)
closed_with front after = ap (λ (t : List ℕ). Ok (record { text = t; plain = false }, after)) (append-nil front)

behind_quote : (line : ℕ) (after : List ℕ) → starts 39 after ≡ false → quoted_at line quote after ≡ closed_at after
behind_quote line [] e = refl
behind_quote line (b ∷ rest) e = ap (λ (c : Bool). turned line (if c then go (39 ∷ []) single else behind) (λ t. quoted_at line t rest) b rest) e

-- no quote closes the text
pub single_open : (line : ℕ) (text front rest : List ℕ) → EndsAt 39 39 text front rest → starts 39 rest ≡ false → quoted_at line single text ≡ wrong line why.Quote
single_open line text front rest e f = single_front line text front rest e ∙ ap (λ (r : List ℕ). with_bytes front (quoted_at line single r)) (none_left 39 39 rest e.ended f f)

-- a quote closes it
pub single_closed : (line : ℕ) (text front rest after : List ℕ) → EndsAt 39 39 text front rest → rest ≡ 39 ∷ after → starts 39 after ≡ false → quoted_at line single text ≡ Ok (record { text = front; plain = false }, after)
single_closed line text front rest after e f g =
    single_front line text front rest e
    ∙ ap (λ (r : List ℕ). with_bytes front (quoted_at line single r)) f
    ∙ ap (λ (r : Read). with_bytes front (with_bytes [] r)) (behind_quote line after g)
    ∙ closed_with front after

-- two quotes stand for one
pub single_more : (line : ℕ) (text front rest after more : List ℕ) → EndsAt 39 39 text front rest → rest ≡ 39 ∷ after → after ≡ 39 ∷ more → quoted_at line single text ≡ with_bytes (front ++ 39 ∷ []) (quoted_at line single more)
single_more line text front rest after more e f g =
    single_front line text front rest e
    ∙ ap (λ (r : List ℕ). with_bytes front (quoted_at line single r)) (f ∙ ap (λ (a : List ℕ). 39 ∷ a) g)
    ∙ ap (λ (r : Read). with_bytes front r) (with_more [] (39 ∷ []) (quoted_at line single more))
    ∙ with_more front (39 ∷ []) (quoted_at line single more)

pub double_open : (line : ℕ) (text front rest : List ℕ) → EndsAt 34 92 text front rest → starts 34 rest ≡ false → starts 92 rest ≡ false → quoted_at line double text ≡ wrong line why.Quote
double_open line text front rest e f g = double_front line text front rest e ∙ ap (λ (r : List ℕ). with_bytes front (quoted_at line double r)) (none_left 34 92 rest e.ended f g)

pub double_closed : (line : ℕ) (text front rest after : List ℕ) → EndsAt 34 92 text front rest → rest ≡ 34 ∷ after → quoted_at line double text ≡ Ok (record { text = front; plain = false }, after)
double_closed line text front rest after e f =
    double_front line text front rest e
    ∙ ap (λ (r : List ℕ). with_bytes front (quoted_at line double r)) f
    ∙ closed_with front after

pub double_slash : (line : ℕ) (text front rest after : List ℕ) → EndsAt 34 92 text front rest → rest ≡ 92 ∷ after → quoted_at line double text ≡ with_bytes front (quoted_at line slash after)
double_slash line text front rest after e f =
    double_front line text front rest e
    ∙ ap (λ (r : List ℕ). with_bytes front (quoted_at line double r)) f
    ∙ ap (λ (r : Read). with_bytes front r) (with_none line slash after)

-- a byte more that is or_parts of two
pub free_more : (a b : ℕ) (front : List ℕ) (c : ℕ) → list_any (λ c. c == a || c == b) front ≡ false → c ≢ a → c ≢ b → list_any (λ c. c == a || c == b) (front ++ c ∷ []) ≡ false
free_more a b [] c e f g = rw (ne_eqb c a f, ne_eqb c b g) refl
free_more a b (x ∷ front) c e f g =
    let n = or_parts (x == a || x == b) (list_any (λ c. c == a || c == b) front) e in
    rw n.0 (free_more a b front c n.1 f g)

-- the same front before the same bytes
pub same_ends : (a b : ℕ) (text bytes front rest other back : List ℕ) → bytes ≡ text → EndsAt a b bytes front rest → text ≡ other ++ rest → back ≡ rest → EndsAt a b text other back
same_ends a b text bytes front rest other back same e whole is =
    let alike : front ≡ other = append_cancel_right front other rest (sym e.whole ∙ same ∙ whole) in
    record {
      whole = whole ∙ ap (λ (r : List ℕ). other ++ r) (sym is);
      free = ap (λ (f : List ℕ). list_any (λ c. c == a || c == b) f) (sym alike) ∙ e.free;
      ended = ap (λ (r : List ℕ). is_empty r || starts a r || starts b r) is ∙ e.ended;
    }

-- what was read so far, before the start
pub read_start : (line : ℕ) (s : Inside) (text read : List ℕ) → read ≡ [] → quoted_at line s text ≡ with_bytes read (quoted_at line s text)
read_start line s text read e = sym (with_none line s text) ∙ ap (λ (b : List ℕ). with_bytes b (quoted_at line s text)) (sym e)

-- the scalar that was read
pub word_done : (r : Read) (w : Word) (text bytes after : List ℕ) → r ≡ Ok (record { text = bytes; plain = false }, after) → w ≡ record { text = text; plain = false } → text ≡ bytes → r ≡ Ok (w, after)
word_done r w text bytes after e f g = e ∙ ap (λ (v : Word). Ok (v, after)) (sym (f ∙ ap (λ (t : List ℕ). record { text = t; plain = false }) g))
