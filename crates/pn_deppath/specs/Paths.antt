-- The grammar of dep paths: a package's id, and balanced groups.
use Rattle.std.specs.Prelude.{ℕ, zero, suc, ◌+◌, ◌-◌, ◌==◌, ◌&&◌, ◌||◌, nat_le, not, Bool, true, false, List, [], ◌∷◌, Option, Some, None, if◌then◌else◌, codes}
use Rattle.pn_text.specs.Ids.{is_id}
use Rattle.pn_deppath.specs.Cuts.{before, from}

-- what stands before the first `(` is a package's id, and the groups follow it
abbrev pub id_part : List ℕ → List ℕ
id_part path = before 40 path

abbrev pub group_part : List ℕ → List ℕ
group_part path = from 40 path

-- groups where that many parentheses are open: each is closed, no byte stands outside, and all are shown and no spaces
abbrev pub are_groups : ℕ → List ℕ → Bool
are_groups zero [] = true
are_groups (suc n) [] = false
are_groups zero (b ∷ rest) = (b == 40) && are_groups 1 rest
are_groups (suc n) (b ∷ rest) =
    (nat_le 33 b && nat_le b 126) && (if b == 40 then are_groups (suc (suc n)) rest else if b == 41 then are_groups n rest else are_groups (suc n) rest)

-- how many are open behind a byte, where it may stand there
abbrev pub next_open : ℕ → ℕ → Option ℕ
next_open n b =
    if n == 0 then (if b == 40 then Some 1 else None)
    else if nat_le 33 b && nat_le b 126 then (if b == 40 then Some (n + 1) else if b == 41 then Some (n - 1) else Some n)
    else None

abbrev pub begins : List ℕ → List ℕ → Bool
begins [] text = true
begins (b ∷ bs) [] = false
begins (b ∷ bs) (c ∷ rest) = (c == b) && begins bs rest

abbrev pub holds : List ℕ → List ℕ → Bool
holds part [] = begins part []
holds part (b ∷ rest) = begins part (b ∷ rest) || holds part rest

-- groups of patches are left out
abbrev pub patch_mark : List ℕ
patch_mark = codes "(patch_hash="

abbrev pub is_dep_path : List ℕ → Bool
is_dep_path path = is_id (id_part path) && (are_groups 0 (group_part path) && not (holds patch_mark path))
