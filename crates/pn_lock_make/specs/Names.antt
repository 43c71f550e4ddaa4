-- What holds names of packages alone.
use Rattle.std.specs.Prelude.{◌≡◌, ℕ, List, true}
use Rattle.std.specs.List.{All}
use Rattle.pn_text.specs.Name.{is_name}
use Rattle.pn_text.specs.Ids.{is_id}
use Rattle.pn_digest.specs.Digests.{IsDigest}
use Rattle.pn_lock.specs.declared.lists.LockCatalog.{LockCatalog}
use Rattle.pn_lock.specs.declared.lists.LockDependency.{LockDependency}
use Rattle.pn_lock.specs.declared.lists.LockImporter.{LockImporter}
use Rattle.pn_lock.specs.declared.lists.LockLink.{LockLink}
use Rattle.pn_lock.specs.declared.lists.LockPackage.{LockPackage}
use Rattle.pn_lock.specs.declared.lists.LockPeer.{LockPeer}
use Rattle.pn_lock.specs.declared.lists.LockSnapshot.{LockSnapshot}

abbrev pub AreNames : List (List ℕ) → Type 0
AreNames names = All (λ (n : List ℕ). is_name n ≡ true) names

abbrev pub AreNamed : List LockDependency → Type 0
AreNamed ds = All (λ (d : LockDependency). is_name d.alias ≡ true) ds

abbrev pub AreNamedLinks : List LockLink → Type 0
AreNamedLinks ls = All (λ (l : LockLink). is_name l.alias ≡ true) ls

abbrev pub AreNamedEntries : List LockCatalog → Type 0
AreNamedEntries es = All (λ (e : LockCatalog). is_name e.name ≡ true) es

pub record IsNamedImporter (i : LockImporter) : Type 0 where
  pub dependencies : AreNamed i.dependencies
  pub dev : AreNamed i.dev
  pub optional : AreNamed i.optional

pub record IsNamedSnapshot (s : LockSnapshot) : Type 0 where
  pub dependencies : AreNamedLinks s.dependencies
  pub optional : AreNamedLinks s.optional
  pub transitive : AreNames s.transitive

-- an id, an integrity and names of peers
pub record IsNamedPackage (p : LockPackage) : Type 0 where
  pub id : is_id p.id ≡ true
  pub integrity : IsDigest p.integrity
  pub peers : All (λ (q : LockPeer). is_name q.name ≡ true) p.peers
  pub optional : AreNames p.optional_peers
