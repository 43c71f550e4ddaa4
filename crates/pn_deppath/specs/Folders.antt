-- The names of folders of the virtual store.
use Rattle.std.specs.Prelude.{◌≢◌, ◌<◌, ◌^◌, ℕ, zero, suc, ◌==◌, ◌&&◌, ◌||◌, nat_lt, Bool, List, [], ◌∷◌, ◌++◌, length, take, map, if◌then◌else◌, bytes_eq}
use Rattle.std.specs.Fmt.{decimal}
use Rattle.std.specs.List.{Contains, list_any}
use Rattle.std.specs.Ordering.{is_lt, nat_cmp}
use Rattle.std.specs.Cmp.Lexicographic.{slice_cmp}
use Rattle.hex.specs.Hex.{encode_lower}
use Rattle.sha2.specs.Sha256.{sha256}
use Rattle.pn_text.specs.declared.limits.TheConstants.{ID_LIMIT}

abbrev pub is_ascii : ℕ → Bool
is_ascii b = nat_lt b 128

-- ---- the name of a dep path by itself

abbrev pub without_last_close : List ℕ → List ℕ
without_last_close [] = []
without_last_close (b ∷ []) = if b == 41 then [] else b ∷ []
without_last_close (b ∷ c ∷ rest) = b ∷ without_last_close (c ∷ rest)

-- a parenthesis becomes `_`, a slash and a colon become `+`
abbrev pub spelled_byte : ℕ → ℕ
spelled_byte b = if (b == 40) || (b == 41) then 95 else if (b == 47) || (b == 58) then 43 else b

-- what stands behind a byte: `)(` becomes one `_`
abbrev pub spelled_behind : ℕ → List ℕ → List ℕ
spelled_behind before [] = []
spelled_behind before (b ∷ rest) = if (before == 41) && (b == 40) then spelled_behind b rest else spelled_byte b ∷ spelled_behind b rest

abbrev pub spelled : List ℕ → List ℕ
spelled text = spelled_behind 0 text

-- a long name ends with digits of the dep path's SHA-256
unfoldable pub fitted : List ℕ → List ℕ → List ℕ
fitted path name = if nat_lt ID_LIMIT (length name) then take 87 name ++ 95 ∷ take 32 (encode_lower (sha256 path)) else name

-- the name without an ordinal
unfoldable pub plain_name : List ℕ → List ℕ
plain_name path = fitted path (spelled (without_last_close path))

-- ---- names are told apart by ordinals

-- a name and the ordinal behind it
abbrev pub with_ordinal : List ℕ → ℕ → List ℕ
with_ordinal name n = name ++ 43 ∷ 126 ∷ decimal n

abbrev pub is_taken : List (List ℕ) → List ℕ → Bool
is_taken taken name = list_any (λ t. bytes_eq t name) taken

-- the first number from there on, of that many, whose name isn't taken
abbrev pub free_from : List (List ℕ) → List ℕ → ℕ → ℕ → ℕ
free_from taken name zero n = n
free_from taken name (suc left) n = if is_taken taken (with_ordinal name n) then free_from taken name left (suc n) else n

-- the ordinals of the dep paths with one name, counted from 1; one whose name is taken is passed over
abbrev pub ordinal : List (List ℕ) → List ℕ → ℕ → ℕ
ordinal taken name zero = 1
ordinal taken name (suc k) = free_from taken name (length taken) (suc (ordinal taken name k))

abbrev pub numbered : List (List ℕ) → List ℕ → ℕ → List ℕ
numbered taken name zero = name
numbered taken name (suc k) = with_ordinal name (ordinal taken name (suc k))

-- how many texts pass a test
abbrev pub count_of : (List ℕ → Bool) → List (List ℕ) → ℕ
count_of f [] = 0
count_of f (x ∷ xs) = if f x then suc (count_of f xs) else count_of f xs

-- how many of the dep paths stand before one in byte order and have the same name
abbrev pub is_earlier : (List ℕ → List ℕ) → List ℕ → List ℕ → Bool
is_earlier named path other = is_lt (slice_cmp nat_cmp other path) && bytes_eq (named other) (named path)

abbrev pub earlier : (List ℕ → List ℕ) → List (List ℕ) → List ℕ → ℕ
earlier named paths path = count_of (is_earlier named path) paths

-- the folder's name of one of the dep paths, where `named` gives names without ordinals
abbrev pub folder_by : (List ℕ → List ℕ) → List (List ℕ) → List ℕ → List ℕ
folder_by named paths path = numbered (map named paths) (named path) (earlier named paths path)

abbrev pub folder_name : List (List ℕ) → List ℕ → List ℕ
folder_name = folder_by plain_name

-- Two of fewer than 2^32 dep paths have different names, however names without ordinals are made.
abbrev pub FolderLaw : Type 0
FolderLaw = (named : List ℕ → List ℕ) (paths : List (List ℕ)) (p q : List ℕ) → length paths < 2 ^ 32 → Contains paths p → Contains paths q → p ≢ q
    → folder_by named paths p ≢ folder_by named paths q
