-- The law of manifests.
use Rattle.std.proofs.Common.{◌≡◌, ℕ, List, [], ◌∷◌, refl, ap, ◌∙◌, Option, Some, None, lit<}
use Rattle.std.specs.Prelude.{codes}
use Rattle.std.specs.List.{Contains}
use Rattle.serde_json.specs.Data.{Data}
use Rattle.serde_json.specs.Find.{get}
use Rattle.pn_manifest.specs.Commands.{bins_or, last_part}
use Rattle.pn_manifest.specs.Fields.{first_wrong, name_of, said}
use Rattle.pn_manifest.specs.Laws.{IsSaid, ManifestLaw, read_fields, text_in, text_of}
use Rattle.pn_manifest.specs.Overrides.{overrides_in}
use Rattle.pn_manifest.specs.Pairs.{Pair}
use Rattle.pn_manifest.specs.TextMaps.{map_field}
use Rattle.pn_manifest.specs.Values.{field, text_field}
use Rattle.pn_manifest.proofs.OrderedLemmas.{IsAll, IsOrdered, field_ordered, inner_ordered, read_ordered}
use Rattle.pn_manifest.proofs.TextOfLemmas.{texts_said}
use Rattle.pn_manifest.proofs.FlaggedLemmas.{flags_said}
use Rattle.pn_manifest.proofs.PeerOfLemmas.{peers_said}

bins_said : (name : Option (List ℕ)) (f : Option Data) (k : List ℕ) (t : Option (List ℕ)) → t ≡ None → IsAll IsOrdered f → text_of k (bins_or name t (map_field f)) ≡ text_in k f
bins_said name f k t none h = ap (λ (x : Option (List ℕ)). text_of k (bins_or name x (map_field f))) none ∙ texts_said f k h

own_said : (n t : Option (List ℕ)) (ps : List Pair) (name path : List ℕ) → n ≡ Some name → t ≡ Some path → bins_or n t ps ≡ (last_part name, path) ∷ []
own_said n t ps name path is at = ap (λ (x : Option (List ℕ)). bins_or x t ps) is ∙ ap (λ (x : Option (List ℕ)). bins_or (Some name) x ps) at

is_said : (d : Data) → IsOrdered d → IsSaid d
is_said d h = record {
  dependencies = λ k. texts_said (field (codes "dependencies") d) k (field_ordered (codes "dependencies") d h);
  dev = λ k. texts_said (field (codes "devDependencies") d) k (field_ordered (codes "devDependencies") d h);
  optional = λ k. texts_said (field (codes "optionalDependencies") d) k (field_ordered (codes "optionalDependencies") d h);
  peers = λ k. peers_said (field (codes "peerDependencies") d) (field (codes "peerDependenciesMeta") d) k (field_ordered (codes "peerDependencies") d h) (field_ordered (codes "peerDependenciesMeta") d h);
  scripts = λ k. texts_said (field (codes "scripts") d) k (field_ordered (codes "scripts") d h);
  bins = λ k none. bins_said (name_of d) (field (codes "bin") d) k (text_field (field (codes "bin") d)) none (field_ordered (codes "bin") d h);
  own_bin = λ name path is at. own_said (name_of d) (text_field (field (codes "bin") d)) (map_field (field (codes "bin") d)) name path is at;
  injected = λ k. flags_said (codes "injected") (field (codes "dependenciesMeta") d) k (field_ordered (codes "dependenciesMeta") d h);
  overrides = λ k. texts_said (overrides_in (field (codes "pnpm") d)) k (inner_ordered (codes "overrides") (field (codes "pnpm") d) (field_ordered (codes "pnpm") d h));
}

module _ (d e : Data) (h : (f : List ℕ) → Contains read_fields f → get f d ≡ get f e) where
  same_wrong : first_wrong d ≡ first_wrong e
  same_wrong = rw (
    h (codes "name") (0, lit< tt, refl),
    h (codes "version") (1, lit< tt, refl),
    h (codes "dependencies") (2, lit< tt, refl),
    h (codes "devDependencies") (3, lit< tt, refl),
    h (codes "optionalDependencies") (4, lit< tt, refl),
    h (codes "peerDependencies") (5, lit< tt, refl),
    h (codes "scripts") (6, lit< tt, refl),
    h (codes "bin") (7, lit< tt, refl),
    h (codes "peerDependenciesMeta") (8, lit< tt, refl),
    h (codes "dependenciesMeta") (9, lit< tt, refl),
    h (codes "pnpm") (10, lit< tt, refl),
  )

  same_said : said d ≡ said e
  same_said = rw (
    h (codes "name") (0, lit< tt, refl),
    h (codes "version") (1, lit< tt, refl),
    h (codes "dependencies") (2, lit< tt, refl),
    h (codes "devDependencies") (3, lit< tt, refl),
    h (codes "optionalDependencies") (4, lit< tt, refl),
    h (codes "peerDependencies") (5, lit< tt, refl),
    h (codes "scripts") (6, lit< tt, refl),
    h (codes "bin") (7, lit< tt, refl),
    h (codes "peerDependenciesMeta") (8, lit< tt, refl),
    h (codes "dependenciesMeta") (9, lit< tt, refl),
    h (codes "pnpm") (10, lit< tt, refl),
  )

pub manifest_law : ManifestLaw
manifest_law = record {
  each = λ bytes d text. is_said d (read_ordered bytes d text.read);
  passed = λ d e h. (same_wrong d e h, same_said d e h);
}
