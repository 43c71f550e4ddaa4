-- The folders of projects.
use Rattle.std.specs.Prelude.{ℕ, nat_le, ◌&&◌, ◌||◌, Bool, List, length, bytes_eq, codes}
use Rattle.pn_text.specs.Path.{is_path, tail_of}
use Rattle.pn_text.specs.declared.limits.TheConstants.{PATH_LIMIT}

-- parts between slashes, at most 4,096 bytes
abbrev pub is_rel : List ℕ → Bool
is_rel text = is_path (tail_of text) && nat_le (length text) PATH_LIMIT

-- `.` for the root, or a path below it
abbrev pub is_folder : List ℕ → Bool
is_folder text = bytes_eq text (codes ".") || is_rel text
