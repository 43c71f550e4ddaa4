-- A refusal names the first line at fault.
use Rattle.std.proofs.Common.{◌≡◌, ◌+◌, ◌≤◌, ◌<◌, ℕ, suc, Bool, true, false, List, [], ◌∷◌, ◌++◌, length, take, get_or, Result, Ok, Err, refl, sym, ap, ◌∙◌, subst, arith, append-nil, length-append}
use Rattle.std.specs.Prelude.{if◌then◌else◌}
use Rattle.std.specs.Str.{IsUtf8, is_utf8}
use Rattle.std.proofs.lemmas.Bool.{cond-true, eqb-true}
use Rattle.std.proofs.Math.Seq.{take-append_seam}
use Rattle.std.proofs.lemmas.Str.{IsCharBoundary-after_ascii, IsUtf8-from_is_utf8, IsUtf8-nil, IsUtf8-take, is_utf8-from_IsUtf8}
use Rattle.pn_yaml.specs.declared.fault.Why.{Why}
use Rattle.pn_yaml.specs.declared.fault.Why.TheVariants as why
use Rattle.pn_yaml.specs.declared.fault.YamlFault.{YamlFault}
use Rattle.pn_yaml.specs.declared.fault.YamlFault.TheVariants as fault
use Rattle.pn_yaml.specs.Data.{Data}
use Rattle.pn_yaml.specs.Outcome.{◌>>=◌}
use Rattle.pn_yaml.specs.Rows.{Row, first_ahead, rows_of}
use Rattle.pn_yaml.specs.Blocks.{alone, root, says, text_says}
use Rattle.pn_yaml.specs.PlaceLaw.{AreRefused, PlaceLaw, are_whole, line_count, line_feeds}
use Rattle.pn_yaml.proofs.FaultLines.{Blames, OnErr}
use Rattle.pn_yaml.proofs.RowLines.{OnLines, Stays}
use Rattle.pn_yaml.proofs.Fates.{Fate, fails, ends, goes_on, Reads}
use Rattle.pn_yaml.proofs.BlockFates.{root_read, text-fate, text-stays}
use Rattle.pn_yaml.proofs.WholeLineLemmas.{rows-later, rows-lines, rows-split, rows_behind, whole-count}

abbrev Said : Type 0
Said = Result Data YamlFault

read-alone : (r : Result (List Row) YamlFault) → (r >>= root) ≡ alone (r >>= root_read)
read-alone (Ok []) = refl
read-alone (Ok (row ∷ rows)) = refl
read-alone (Err e) = refl

-- what the lines of a text say
abbrev rows_say : List Row → Said
rows_say rows = alone (first_ahead rows >>= root_read)

text-rows : (text : List ℕ) → text_says text ≡ rows_say (rows_of text)
text-rows text = read-alone (first_ahead (rows_of text))

alone-blames : (P : ℕ → Type 0) (r : Reads Data) → Stays P r → Blames P (alone r)
alone-blames P (Err e) h = record { named = h.there }
alone-blames P (Ok (d, [])) h = record { named = tt }
alone-blames P (Ok (d, row ∷ rows)) h = record { named = h.there.0 }

-- what lines in front settle of a text: its fault, or that it is good if nothing more comes
data Verdict (P : ℕ → Type 0) (f : List Row → Said) : Type 0 where
  refused : (e : YamlFault) → ((more : List Row) → f more ≡ Err e) → Verdict P f
  undecided : (d : Data) → f [] ≡ Ok d → ((more : List Row) → OnLines P more → Blames P (f more)) → Verdict P f

verdict-of : (P : ℕ → Type 0) (most : ℕ) (f : List Row → Reads Data) → Fate Data P most f → Verdict P (λ more. alone (f more))
verdict-of P most f (fails e h) = refused e (λ more. ap alone (h more))
verdict-of P most f (ends x row left l h) = refused (fault.Line row.line why.Indent) (λ more. ap alone (h more))
verdict-of P most f (goes_on x e h) = undecided x (ap alone e) (λ more l. alone-blames P (f more) (h more l))

blames-line : (P : ℕ → Type 0) (r : Said) (n : ℕ) (w : Why) → Blames P r → r ≡ Err (fault.Line n w) → P n
blames-line P r n w h e = subst (λ (x : Said). OnErr P x) e h.named

verdict-decided : (k : ℕ) (f : List Row → Said) → Verdict (λ m. k < m) f → (here there : List Row) (n : ℕ) (w : Why) → OnLines (λ m. k < m) here → n ≤ k
    → f here ≡ Err (fault.Line n w) → f there ≡ Err (fault.Line n w)
verdict-decided k f (refused e h) here there n w l m g = h there ∙ sym (h here) ∙ g
verdict-decided k f (undecided d e h) here there n w l m g = let z : k < n = blames-line (λ m. k < m) (f here) n w (h here l) g in absurd (omega arith)

verdict-kept : (P : ℕ → Type 0) (f : List Row → Said) → Verdict P f → (there : List Row) (e : YamlFault) → f [] ≡ Err e → f there ≡ Err e
verdict-kept P f (refused d h) there e g = h there ∙ sym (h []) ∙ g
verdict-kept P f (undecided d i h) there e g = absurd cc

verdict-before : (P : ℕ → Type 0) (f : List Row → Said) → Verdict P f → (here : List Row) (e : YamlFault) → f here ≡ Err e → (f [] ≡ Err e → ⊥) → (d : Data) × f [] ≡ Ok d
verdict-before P f (refused d h) here e g other = absurd (other (h [] ∙ sym (h here) ∙ g))
verdict-before P f (undecided d i h) here e g other = (d, i)

-- texts

abbrev behind : List ℕ → List Row → Said
behind front more = rows_say (rows_of front ++ more)

front-verdict : (P : ℕ → Type 0) (front : List ℕ) → Verdict P (behind front)
front-verdict P front = verdict-of P (length (rows_of front)) (λ more. first_ahead (rows_of front ++ more) >>= root_read) (text-fate P (rows_of front))

front-says : (front rest : List ℕ) → are_whole front ≡ true → text_says (front ++ rest) ≡ behind front (rows_behind front rest)
front-says front rest w = text-rows (front ++ rest) ∙ ap rows_say (rows-split front rest w)

front-alone : (front : List ℕ) → text_says front ≡ behind front []
front-alone front = text-rows front ∙ ap rows_say (sym (append-nil (rows_of front)))

text-within : (text : List ℕ) (n : ℕ) (w : Why) → text_says text ≡ Err (fault.Line n w) → 1 ≤ n × n ≤ line_count text
text-within text n w h =
    let P : ℕ → Type 0 = λ m. 1 ≤ m × m ≤ line_count text in
    blames-line P (rows_say (rows_of text)) n w (alone-blames P _ (text-stays P (rows_of text) (rows-lines P text (λ k from to. (from, to))))) (sym (text-rows text) ∙ h)

text-before : (front rest : List ℕ) (w : Why) → are_whole front ≡ true → text_says (front ++ rest) ≡ Err (fault.Line (suc (line_feeds front)) w) → (d : Data) × text_says front ≡ Ok d
text-before front rest w whole h =
    let n : ℕ = suc (line_feeds front) in
    let other : behind front [] ≡ Err (fault.Line n w) → ⊥ = λ g.
    let i = text-within front n w (front-alone front ∙ g) in
    let c = whole-count front whole in
    absurd (omega arith) in
    let r = verdict-before (λ m. line_feeds front < m) (behind front) (front-verdict _ front) (rows_behind front rest) (fault.Line n w) (sym (front-says front rest whole) ∙ h) other in
    (r.0, front-alone front ∙ r.1)

text-decided : (front rest other : List ℕ) (n : ℕ) (w : Why) → are_whole front ≡ true → n ≤ line_feeds front → text_says (front ++ rest) ≡ Err (fault.Line n w)
    → text_says (front ++ other) ≡ Err (fault.Line n w)
text-decided front rest other n w whole l h =
    front-says front other whole
    ∙ verdict-decided (line_feeds front) (behind front) (front-verdict _ front) (rows_behind front rest) (rows_behind front other) n w (rows-later front rest) l (sym (front-says front rest whole) ∙ h)

text-kept : (front other : List ℕ) (e : YamlFault) → are_whole front ≡ true → text_says front ≡ Err e → text_says (front ++ other) ≡ Err e
text-kept front other e whole h =
    front-says front other whole ∙ verdict-kept (λ m. line_feeds front < m) (behind front) (front-verdict _ front) (rows_behind front other) e (sym (front-alone front) ∙ h)

-- bytes

last-byte : (b : ℕ) (front rest : List ℕ) → are_whole (b ∷ front) ≡ true → get_or ((b ∷ front) ++ rest) (length front) 0 ≡ 10
last-byte b [] rest w = eqb-true b 10 w
last-byte b (c ∷ front) rest w = last-byte c front rest w

utf8-whole : (front rest : List ℕ) → are_whole front ≡ true → IsUtf8 (front ++ rest) → IsUtf8 front
utf8-whole [] rest w u = IsUtf8-nil
utf8-whole (b ∷ front) rest w u =
    let text : List ℕ = (b ∷ front) ++ rest in
    let here = last-byte b front rest w in
    let size = length-append (b ∷ front) rest in
    let cut = IsCharBoundary-after_ascii text (length front) u (omega arith) (omega arith) in
    let n : length front + 1 ≡ length (b ∷ front) = omega arith in
    subst IsUtf8 (ap (λ (k : ℕ). take k text) n ∙ take-append_seam (b ∷ front) rest) (IsUtf8-take text (length front + 1) u cut)

utf8-front : (front rest : List ℕ) → are_whole front ≡ true → is_utf8 (front ++ rest) ≡ true → is_utf8 front ≡ true
utf8-front front rest w e = is_utf8-from_IsUtf8 front (utf8-whole front rest w (IsUtf8-from_is_utf8 (front ++ rest) e))

says-utf8 : (bytes : List ℕ) → is_utf8 bytes ≡ true → says bytes ≡ text_says bytes
says-utf8 bytes u = cond-true (is_utf8 bytes) (text_says bytes) (Err fault.NotUtf8) u

line-utf8 : (is : Bool) (r : Said) (n : ℕ) (w : Why) → (if is then r else Err fault.NotUtf8) ≡ Err (fault.Line n w) → is ≡ true × r ≡ Err (fault.Line n w)
line-utf8 true r n w h = (refl, h)
line-utf8 false r n w h = absurd cc

says-line : (bytes : List ℕ) (n : ℕ) (w : Why) → says bytes ≡ Err (fault.Line n w) → is_utf8 bytes ≡ true × text_says bytes ≡ Err (fault.Line n w)
says-line bytes n w h = line-utf8 (is_utf8 bytes) (text_says bytes) n w h

says-before : (front rest : List ℕ) (w : Why) → are_whole front ≡ true → says (front ++ rest) ≡ Err (fault.Line (suc (line_feeds front)) w) → (d : Data) × says front ≡ Ok d
says-before front rest w whole h =
    let l = says-line (front ++ rest) (suc (line_feeds front)) w h in
    let r = text-before front rest w whole l.1 in
    (r.0, says-utf8 front (utf8-front front rest whole l.0) ∙ r.1)

-- a text is refused so, or is no UTF-8
refused-so : (bytes : List ℕ) (e : YamlFault) → (is_utf8 bytes ≡ true → text_says bytes ≡ Err e) → AreRefused e bytes
refused-so bytes e h =
    elim (is_utf8 bytes) as (λ b. is_utf8 bytes ≡ b → (if b then text_says bytes else Err fault.NotUtf8) ≡ Err (if b then e else fault.NotUtf8)) [
      | true ↦ λ u. h u
      | false ↦ λ u. refl
    ] refl

says-decided : (front rest : List ℕ) (n : ℕ) (w : Why) → are_whole front ≡ true → n ≤ line_feeds front → says (front ++ rest) ≡ Err (fault.Line n w) → (other : List ℕ)
    → AreRefused (fault.Line n w) (front ++ other)
says-decided front rest n w whole m h other =
    refused-so (front ++ other) (fault.Line n w) (λ u. text-decided front rest other n w whole m (says-line (front ++ rest) n w h).1)

says-kept : (front : List ℕ) (e : YamlFault) → are_whole front ≡ true → says front ≡ Err e → (other : List ℕ) → AreRefused e (front ++ other)
says-kept front e whole h other =
    refused-so (front ++ other) e (λ u. text-kept front other e whole (sym (says-utf8 front (utf8-front front other whole u)) ∙ h))

pub place-law : PlaceLaw
place-law = record {
  within = λ text n w h. text-within text n w (says-line text n w h).1;
  before = says-before;
  decided = says-decided;
  kept = says-kept;
}
