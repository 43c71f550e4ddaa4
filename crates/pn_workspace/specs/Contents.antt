-- What a workspace file says.
use Rattle.std.specs.Prelude.{◌≡◌, ◌≤◌, ℕ, List, [], length, Option, Some, None, Ok, Err}
use Rattle.pn_text.specs.declared.limits.TheConstants.{TEXT_LIMIT}
use Rattle.pn_fs.specs.Tree.{Entry, file}
use Rattle.pn_read.specs.Small.{IsNoFile}
use Rattle.pn_yaml.specs.Blocks.{says}
use Rattle.pn_yaml.specs.Data.{Data}
use Rattle.pn_yaml.specs.declared.fault.YamlFault.TheVariants as yaml
use Rattle.pn_config.specs.Files.{NamesBad, ReadsConfig}
use Rattle.pn_config.specs.declared.config.Config.{Config}
use Rattle.pn_workspace.specs.declared.fault.WorkspaceWhy.{WorkspaceWhy}
use Rattle.pn_workspace.specs.declared.fault.WorkspaceWhy.TheVariants as why

-- a file of these bytes, within the limit
pub record IsText (e : Option Entry) (bytes : List ℕ) : Type 0 where
  pub is : e ≡ Some (file bytes)
  pub short : length bytes ≤ TEXT_LIMIT

-- what the file at an entry says: nothing where no file is there
abbrev pub Holds : Option Entry → Option Data → Type 0
Holds e None = IsNoFile e
Holds e (Some d) = (bytes : List ℕ) × IsText e bytes × (says bytes ≡ Ok d)

-- the settings that the file at an entry says, and the default ones where no file is there
pub record Says (e : Option Entry) (c : Config) : Type 0 where
  pub value : Option Data
  pub holds : Holds e value
  pub reads : ReadsConfig value [] c

-- what is wrong with bytes as a workspace file
abbrev pub WrongBytes : List ℕ → WorkspaceWhy → Type 0
WrongBytes bytes why.NotUtf8 = says bytes ≡ Err yaml.NotUtf8
WrongBytes bytes why.TooDeep = says bytes ≡ Err yaml.TooDeep
WrongBytes bytes (why.Line n w) = says bytes ≡ Err (yaml.Line n w)
WrongBytes bytes (why.BadKey k) = (d : Data) × (says bytes ≡ Ok d) × NamesBad (Some d) k

-- the same of the file at an entry
abbrev pub IsWrong : Option Entry → WorkspaceWhy → Type 0
IsWrong e w = (bytes : List ℕ) × IsText e bytes × WrongBytes bytes w

-- what bytes say as settings
abbrev pub SaysBytes : List ℕ → Config → Type 0
SaysBytes bytes c = (d : Data) × (says bytes ≡ Ok d) × ReadsConfig (Some d) [] c
