-- What the dep paths of instances are.
use Rattle.std.specs.Prelude.{◌≡◌, ◌<◌, ◌^◌, ℕ, List, length, bytes_eq, true}
use Rattle.std.specs.List.{All, IsDistinct}
use Rattle.pn_deppath.specs.Ordinals.{with_ordinals}
use Rattle.pn_deppath.specs.Paths.{id_part, is_dep_path}
use Rattle.pn_text.specs.Ids.{is_id}
use Rattle.pn_text.specs.Name.{is_name}
use Rattle.pn_outer.specs.declared.instance.Instance.{Instance}
use Rattle.pn_outer.specs.declared.instance.Link.{Link}
use Rattle.pn_dep_paths.specs.BaseTexts.{AreBaseTexts, id_at, text_at}

-- An instance with an id, whose provided peers have package names.
pub record HasNames (i : Instance) : Type 0 where
  pub id : is_id i.id ≡ true
  pub peers : All (λ (l : Link). is_name l.name ≡ true) i.peers

-- The path of each instance is a dep path that begins with its package's id, and no two are the same.
pub record ArePathsOf (instances : List Instance) (paths : List (List ℕ)) : Type 0 where
  pub count : length paths ≡ length instances
  pub path : (i : ℕ) → i < length instances → is_dep_path (text_at paths i) ≡ true
  pub id : (i : ℕ) → i < length instances → id_part (text_at paths i) ≡ id_at instances i
  pub distinct : IsDistinct bytes_eq paths

-- The base texts of fewer than 2^32 instances with names, told apart by ordinals, are their dep paths.
pub record PathsLaw : Type 0 where
  pub paths : (folders : List (List ℕ)) (instances : List Instance) (texts : List (List ℕ)) → length instances < 2 ^ 32 → All HasNames instances → AreBaseTexts folders instances texts
      → ArePathsOf instances (with_ordinals texts)
