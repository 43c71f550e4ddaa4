-- The text of a JSON object.
use Rattle.std.specs.Prelude.{◌≡◌, ℕ, List, Some, IsTrue, is_some}
use Rattle.std.specs.Str.{IsUtf8}
use Rattle.serde_json.specs.Data.{Data}
use Rattle.serde_json.specs.Find.{as_object}
use Rattle.serde_json.specs.Read.{read}

-- The bytes are the text of this JSON object.
pub record IsObjectText (bytes : List ℕ) (d : Data) : Type 0 where
  pub utf8 : IsUtf8 bytes
  pub read : read bytes ≡ Some d
  pub is : IsTrue (is_some (as_object d))
