-- What whole texts say.
use Rattle.std.proofs.Common.{◌≡◌, ℕ, List, [], ◌∷◌, Result, Ok, Err, sym, ap, ◌∙◌}
use Rattle.std.specs.Str.{IsUtf8, is_utf8}
use Rattle.std.proofs.lemmas.Bool.{cond-true, cond-false, false_from_ne_true}
use Rattle.std.proofs.lemmas.Str.{IsUtf8-from_is_utf8, is_utf8-from_IsUtf8}
use Rattle.pn_yaml.specs.declared.fault.YamlFault.{YamlFault}
use Rattle.pn_yaml.specs.declared.fault.YamlFault.TheVariants as fault
use Rattle.pn_yaml.specs.declared.fault.Why.TheVariants as why
use Rattle.pn_yaml.specs.Blocks.{alone, root, says, text_says}
use Rattle.pn_yaml.specs.Data.{Data}
use Rattle.pn_yaml.specs.Outcome.{◌>>=◌}
use Rattle.pn_yaml.specs.Rows.{Row, rows_of, first_ahead}
use Rattle.pn_yaml.proofs.Blocking.{Read}

abbrev Rows : Type 0
Rows = Result (List Row) YamlFault

pub text_from : (text : List ℕ) (rows ahead : List Row) → rows ≡ rows_of text → first_ahead rows ≡ Ok ahead → text_says text ≡ root ahead
text_from text rows ahead e f = ap (λ (x : List Row). first_ahead x >>= root) (sym e) ∙ ap (λ (x : Rows). x >>= root) f

pub alone_fails : (r : Read) (e : YamlFault) → r ≡ Err e → alone r ≡ Err e
alone_fails r e h = ap alone h

pub alone_ok : (r : Read) (d : Data) → r ≡ Ok (d, []) → alone r ≡ Ok d
alone_ok r d h = ap alone h

pub alone_left : (r : Read) (d : Data) (row : Row) (rows : List Row) → r ≡ Ok (d, row ∷ rows) → alone r ≡ Err (fault.Line row.line why.Indent)
alone_left r d row rows h = ap alone h

abbrev Said : Type 0
Said = Result Data YamlFault

pub says_text : (bytes : List ℕ) → IsUtf8 bytes → says bytes ≡ text_says bytes
says_text bytes u = cond-true (is_utf8 bytes) (text_says bytes) (Err fault.NotUtf8) (is_utf8-from_IsUtf8 bytes u)

pub says_other : (bytes : List ℕ) → (IsUtf8 bytes → ⊥) → says bytes ≡ Err fault.NotUtf8
says_other bytes n = cond-false (is_utf8 bytes) (text_says bytes) (Err fault.NotUtf8) (false_from_ne_true (is_utf8 bytes) (λ e. n (IsUtf8-from_is_utf8 bytes e)))
