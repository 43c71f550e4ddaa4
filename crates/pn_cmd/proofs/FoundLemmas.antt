-- The lookup after an install.
use Rattle.std.proofs.Common.{◌≡◌, ◌∷◌, ap, ◌∙◌, subst, Option}
use Rattle.std.specs.Prelude.{IfSome}
use Rattle.serde_json.specs.Data.{Data}
use Rattle.pn_fs.specs.Tree.{Entry, Tree}
use Rattle.pn_fs.proofs.SeenLemmas.{file_once}
use Rattle.pn_manifest.specs.Fields.{said}
use Rattle.pn_cmd.specs.World.{trees_of}
use Rattle.pn_cmd.specs.Names.{package_name}
use Rattle.pn_cmd.specs.Manifests.{IsManifest}
use Rattle.pn_cmd.specs.Lookup.{LooksUp}
use Rattle.pn_cmd.specs.Endings.{Finds}
use Rattle.pn_cmd.specs.Laws.{LookupLaw}
use Rattle.pn_cmd.proofs.CauseLemmas.{end_cause}
use Rattle.pn_cmd.proofs.OrderLemmas.{same_data}
use Rattle.pn_cmd.proofs.PassedLemmas.{has_passed}

-- the two manifests at one path are one
pub same_manifest : (e : Option Entry) (d f : Data) → IsManifest e d → IsManifest e f → d ≡ f
same_manifest e d f h k = same_data h.bytes k.bytes d f (file_once e h.bytes k.bytes h.stands.is k.stands.is) h.text k.text

pub lookup_law : LookupLaw
lookup_law i old new ends r t u d er et eu manifest =
    let done = end_cause i old new _ ends in
    let b = done.0 in
    let w = done.2 in
    let m = b.fetched.sources.graph.project.said in
    let p = (has_passed i (trees_of old) b w.passed).gathered in
    let read : IsManifest (t (package_name ∷ i.place)) p.declares.value = subst (λ (o : Option Tree). IfSome o (λ t. IsManifest (t (package_name ∷ i.place)) p.declares.value)) et p.declares.manifest.read in
    let same : m ≡ said d = p.declares.says ∙ ap said (same_manifest (t (package_name ∷ i.place)) p.declares.value d read manifest) in
    let found : Finds old.registry.tree i.place m u = subst (λ (o : Option Tree). IfSome o (Finds old.registry.tree i.place m)) eu w.written.project in
    subst (LooksUp r u i.place) same (subst (λ (o : Option Tree). IfSome o (λ r. LooksUp r u i.place m)) er found.lookup)
