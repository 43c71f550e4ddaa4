-- A refusal names the first line at fault.
use Rattle.std.specs.Prelude.{◌≡◌, ◌≤◌, ◌==◌, ℕ, suc, Bool, true, List, [], ◌∷◌, ◌++◌, Ok, Err, if◌then◌else◌}
use Rattle.std.specs.Str.{is_utf8}
use Rattle.pn_yaml.specs.declared.fault.Why.{Why}
use Rattle.pn_yaml.specs.declared.fault.YamlFault.{YamlFault}
use Rattle.pn_yaml.specs.declared.fault.YamlFault.TheVariants as fault
use Rattle.pn_yaml.specs.Data.{Data}
use Rattle.pn_yaml.specs.Blocks.{says}

-- how many line feeds a text has
abbrev pub line_feeds : List ℕ → ℕ
line_feeds [] = 0
line_feeds (b ∷ rest) = if b == 10 then suc (line_feeds rest) else line_feeds rest

-- whole lines: no bytes, or the last one is a line feed
abbrev pub are_whole : List ℕ → Bool
are_whole [] = true
are_whole (b ∷ []) = b == 10
are_whole (b ∷ c ∷ rest) = are_whole (c ∷ rest)

-- how many lines a text has; the last one may have no line feed
abbrev pub line_count : List ℕ → ℕ
line_count text = if are_whole text then line_feeds text else suc (line_feeds text)

-- bytes are refused so, where they are UTF-8
abbrev pub AreRefused : YamlFault → List ℕ → Type 0
AreRefused e bytes = says bytes ≡ Err (if is_utf8 bytes then e else fault.NotUtf8)

-- of whole lines, with other bytes behind them
pub record PlaceLaw : Type 0 where
  -- a line that is at fault is one of the text's
  pub within : (text : List ℕ) (n : ℕ) (w : Why) → says text ≡ Err (fault.Line n w) → 1 ≤ n × n ≤ line_count text
  -- the lines before it say something
  pub before : (front rest : List ℕ) (w : Why) → are_whole front ≡ true → says (front ++ rest) ≡ Err (fault.Line (suc (line_feeds front)) w)
      → (d : Data) × says front ≡ Ok d
  -- the lines up to it are refused so, whatever is behind them
  pub decided : (front rest : List ℕ) (n : ℕ) (w : Why) → are_whole front ≡ true → n ≤ line_feeds front → says (front ++ rest) ≡ Err (fault.Line n w)
      → (other : List ℕ) → AreRefused (fault.Line n w) (front ++ other)
  -- and lines that are refused at all stay so
  pub kept : (front : List ℕ) (e : YamlFault) → are_whole front ≡ true → says front ≡ Err e → (other : List ℕ) → AreRefused e (front ++ other)
