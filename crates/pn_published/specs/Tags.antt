-- The tags of a name, and which version is its latest.
use Rattle.std.specs.Prelude.{◌≡◌, ◌≤◌, ℕ, List, [], ◌∷◌, Option, Some, None, codes, length, map, option_map, if◌then◌else◌}
use Rattle.std.specs.Cmp.Lexicographic.{slice_cmp}
use Rattle.std.specs.List.Sorted.{IsStrictlySortedBy}
use Rattle.std.specs.Ordering.{nat_cmp}
use Rattle.std.specs.Str.{bytes_eq, IsUtf8}
use Rattle.serde_json.specs.Data.{Data, null, boolean, number, string, array, object, Members, no_members, member}
use Rattle.serde_json.specs.Read.{read}
use Rattle.semver.specs.Parse.{Parts}
use Rattle.pn_text.specs.declared.limits.TheConstants.{TEXT_LIMIT}
use Rattle.pn_text.specs.Ids.{parts_text}
use Rattle.pn_fs.specs.Tree.{Entry, folder, file, link}
use Rattle.pn_published.specs.Versions.{same_version}
use Rattle.pn_ranges.specs.Limits.{is_release}
use Rattle.pn_published.specs.Places.{or_else, last_place, last_of}

-- a tag, and the text that stands for it
abbrev pub Said : Type 0
Said = List ℕ × List ℕ

-- a tag, and the place of its version
abbrev pub Tagged : Type 0
Tagged = List ℕ × ℕ

-- byte order of tags, each once
abbrev pub AreRising : List Said → Type 0
AreRising said = IsStrictlySortedBy (slice_cmp nat_cmp) (map (λ (s : Said). s.0) said)

abbrev pub AreRisingTags : List Tagged → Type 0
AreRisingTags tags = IsStrictlySortedBy (slice_cmp nat_cmp) (map (λ (t : Tagged). t.0) tags)

-- the name of the file of tags
abbrev pub tags_name : List ℕ
tags_name = codes "tags.json"

-- an object's members where each is a text, in byte order of keys
abbrev pub said_with : List ℕ → Data → Option (List Said) → Option (List Said)
said_with k null rest = None
said_with k (boolean b) rest = None
said_with k (number n) rest = None
said_with k (string s) rest = option_map (λ (said : List Said). (k, s) ∷ said) rest
said_with k (array ds) rest = None
said_with k (object ms) rest = None

abbrev pub said_of : Members → Option (List Said)
said_of no_members = Some []
said_of (member k d ms) = said_with k d (said_of ms)

abbrev pub said_by : Data → Option (List Said)
said_by null = None
said_by (boolean b) = None
said_by (number n) = None
said_by (string s) = None
said_by (array ds) = None
said_by (object ms) = said_of ms

-- The bytes are the text of an object of texts, within the limit.
pub record AreTags (bytes : List ℕ) (said : List Said) : Type 0 where
  pub value : Data
  pub short : length bytes ≤ TEXT_LIMIT
  pub utf8 : IsUtf8 bytes
  pub read : read bytes ≡ Some value
  pub is : said_by value ≡ Some said

-- what the file of tags says; where no file stands, nothing
abbrev pub IsTagsFile : Option Entry → List Said → Type 0
IsTagsFile None said = said ≡ []
IsTagsFile (Some folder) said = said ≡ []
IsTagsFile (Some (file bytes)) said = AreTags bytes said
IsTagsFile (Some (link text)) said = said ≡ []

-- a file of tags that says none
abbrev pub IsBadTags : Option Entry → Type 0
IsBadTags e = (said : List Said) → IsTagsFile e said → ⊥

-- the place of the version that a text is, where it is published
abbrev pub place_by : List Parts → Option Parts → Option ℕ
place_by versions None = None
place_by versions (Some v) = last_place (λ u. same_version u v) versions

abbrev pub placed : List ℕ → Option ℕ → List Tagged → List Tagged
placed tag None rest = rest
placed tag (Some k) rest = (tag, k) ∷ rest

-- the tags whose version is published, with its place
abbrev pub tags_of : List Parts → List Said → List Tagged
tags_of versions [] = []
tags_of versions (s ∷ ss) = placed s.0 (place_by versions (parts_text s.1)) (tags_of versions ss)

abbrev pub tag_at : List ℕ → List Tagged → Option ℕ
tag_at tag [] = None
tag_at tag (t ∷ ts) = if bytes_eq t.0 tag then Some t.1 else tag_at tag ts

-- The tag `latest` where its version is published; else the greatest version without a pre-release; else the greatest.
abbrev pub latest_of : List Parts → List Tagged → Option ℕ
latest_of versions tags = or_else (tag_at (codes "latest") tags) (or_else (last_place is_release versions) (last_of versions))
