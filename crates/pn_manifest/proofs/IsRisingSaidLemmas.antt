-- Each list that a manifest's text says is in byte order.
use Rattle.std.proofs.Common.{◌≡◌, ℕ, List, [], ◌∷◌, Option, Some, None, Less, nat_cmp, sym, subst}
use Rattle.std.specs.Prelude.{codes}
use Rattle.std.specs.Cmp.Lexicographic.{slice_cmp}
use Rattle.std.specs.List.{AllByRecursion}
use Rattle.serde_json.specs.Data.{Data, Members, no_members, member}
use Rattle.pn_manifest.specs.Commands.{bins_or, last_part}
use Rattle.pn_manifest.specs.Fields.{name_of, said}
use Rattle.pn_manifest.specs.FlagMaps.{flag_field, flagged, has_flag}
use Rattle.pn_manifest.specs.Overrides.{overrides_in}
use Rattle.pn_manifest.specs.Pairs.{Pair, names, IsRising}
use Rattle.pn_manifest.specs.Said.{Said, AreRising, IsRisingSaid}
use Rattle.pn_manifest.specs.Text.{IsObjectText}
use Rattle.pn_manifest.specs.TextMaps.{map_field, pairs}
use Rattle.pn_manifest.specs.Values.{field, members_in, text_field}
use Rattle.pn_manifest.proofs.OrderedLemmas.{AreMembersOrdered, IsAll, IsOrdered, field_ordered, inner_ordered, keys, members_ordered, read_ordered}
use Rattle.pn_manifest.proofs.PeerLemmas.{peers_rise}
use Rattle.pn_manifest.proofs.Rising.{all_if, all_with, rising_if, rising_nil, rising_one, rising_with}

all_texts : (P : List ℕ → Type 0) (ms : Members) → AllByRecursion P (keys ms) → AllByRecursion P (names (pairs ms))
all_texts P no_members h = tt
all_texts P (member k d ms) h = all_with P k d (pairs ms) h.0 (all_texts P ms h.1)

texts_rise : (ms : Members) → AreMembersOrdered ms → IsRising (pairs ms)
texts_rise no_members h = rising_nil
texts_rise (member k d ms) h = rising_with k d (pairs ms) (all_texts (λ y. slice_cmp nat_cmp k y ≡ Less) ms h.0) (texts_rise ms h.1.1)

all_flags : (P : List ℕ → Type 0) (flag : List ℕ) (ms : Members) → AllByRecursion P (keys ms) → AllByRecursion P (flagged flag ms)
all_flags P flag no_members h = tt
all_flags P flag (member k d ms) h = all_if P (has_flag flag d) k (flagged flag ms) h.0 (all_flags P flag ms h.1)

flags_rise : (flag : List ℕ) (ms : Members) → AreMembersOrdered ms → AreRising (flagged flag ms)
flags_rise flag no_members h = rising_nil
flags_rise flag (member k d ms) h =
    rising_if (has_flag flag d) k (flagged flag ms) (all_flags (λ y. slice_cmp nat_cmp k y ≡ Less) flag ms h.0) (flags_rise flag ms h.1.1)

map_rises : (f : Option Data) → IsAll IsOrdered f → IsRising (map_field f)
map_rises f h = texts_rise (members_in f) (members_ordered f h)

bins_rise : (n t : Option (List ℕ)) (ps : List Pair) → IsRising ps → IsRising (bins_or n t ps)
bins_rise n None ps h = h
bins_rise None (Some path) ps h = rising_nil
bins_rise (Some name) (Some path) ps h = rising_one (last_part name, path)

said_rises : (d : Data) → IsOrdered d → IsRisingSaid (said d)
said_rises d h = record {
  dependencies = map_rises (field (codes "dependencies") d) (field_ordered (codes "dependencies") d h);
  dev = map_rises (field (codes "devDependencies") d) (field_ordered (codes "devDependencies") d h);
  optional = map_rises (field (codes "optionalDependencies") d) (field_ordered (codes "optionalDependencies") d h);
  peers = peers_rise (map_field (field (codes "peerDependencies") d)) (flag_field (codes "optional") (field (codes "peerDependenciesMeta") d))
      (map_rises (field (codes "peerDependencies") d) (field_ordered (codes "peerDependencies") d h));
  scripts = map_rises (field (codes "scripts") d) (field_ordered (codes "scripts") d h);
  bins = bins_rise (name_of d) (text_field (field (codes "bin") d)) (map_field (field (codes "bin") d)) (map_rises (field (codes "bin") d) (field_ordered (codes "bin") d h));
  injected = flags_rise (codes "injected") (members_in (field (codes "dependenciesMeta") d)) (members_ordered (field (codes "dependenciesMeta") d) (field_ordered (codes "dependenciesMeta") d h));
  overrides = map_rises (overrides_in (field (codes "pnpm") d)) (inner_ordered (codes "overrides") (field (codes "pnpm") d) (field_ordered (codes "pnpm") d h));
}

pub text_rises : (bytes : List ℕ) (d : Data) (m : Said) → IsObjectText bytes d → m ≡ said d → IsRisingSaid m
text_rises bytes d m text says = subst IsRisingSaid (sym says) (said_rises d (read_ordered bytes d text.read))
