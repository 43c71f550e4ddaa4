-- The first wrong field among a few fields at a time.
use Rattle.std.proofs.Common.{◌≡◌, refl, sym, ap, ◌∙◌, subst, Some, None, Option}
use Rattle.std.specs.Prelude.{codes}
use Rattle.serde_json.specs.Data.{Data}
use Rattle.pn_text.specs.Ids.{is_version}
use Rattle.pn_text.specs.Name.{is_name}
use Rattle.pn_manifest.specs.Commands.{wrong_bin}
use Rattle.pn_manifest.specs.Fields.{first_wrong, wrong_commands, wrong_maps, wrong_notes, wrong_own}
use Rattle.pn_manifest.specs.Refusals.{IsWrong}
use Rattle.pn_manifest.specs.Values.{Spot, field, or_else, wrong_text}
use Rattle.pn_manifest.specs.TextMaps.{wrong_map, wrong_texts}
use Rattle.pn_manifest.specs.declared.fault.ManifestFault.{ManifestFault}
use Rattle.pn_manifest.specs.declared.fault.ManifestFault.TheVariants.{Wrong, Memory}
use Rattle.pn_manifest.specs.declared.fault.ManifestWhy.TheVariants.{Missing, NotJson, BadField}

regrouped : (a b c : Option Spot) → or_else (or_else a b) c ≡ or_else a (or_else b c)
regrouped (Some x) b c = refl
regrouped None b c = refl

of_two : (a b x : Option Spot) → or_else a (or_else b x) ≡ or_else (or_else a b) x
of_two a b x = sym (regrouped a b x)

of_four : (a b c d x : Option Spot) → or_else a (or_else b (or_else c (or_else d x))) ≡ or_else (or_else a (or_else b (or_else c d))) x
of_four a b c d x =
    ap (λ w. or_else a (or_else b w)) (of_two c d x)
    ∙ ap (or_else a) (of_two b (or_else c d) x)
    ∙ of_two a (or_else b (or_else c d)) x

grouped : (n v a b c d s m x : Option Spot) → or_else n (or_else v (or_else a (or_else b (or_else c (or_else d (or_else s (or_else m x)))))))
    ≡ or_else (or_else n v) (or_else (or_else a (or_else b (or_else c d))) (or_else (or_else s m) x))
grouped n v a b c d s m x =
    ap (λ w. or_else n (or_else v (or_else a (or_else b (or_else c (or_else d w)))))) (of_two s m x)
    ∙ ap (λ w. or_else n (or_else v w)) (of_four a b c d (or_else (or_else s m) x))
    ∙ of_two n v (or_else (or_else a (or_else b (or_else c d))) (or_else (or_else s m) x))

pub by_groups : (d : Data) → first_wrong d ≡ or_else (wrong_own d) (or_else (wrong_maps d) (or_else (wrong_commands d) (wrong_notes d)))
by_groups d =
    grouped
    (wrong_text (codes "name") is_name (field (codes "name") d))
    (wrong_text (codes "version") is_version (field (codes "version") d))
    (wrong_map (codes "dependencies") (field (codes "dependencies") d))
    (wrong_map (codes "devDependencies") (field (codes "devDependencies") d))
    (wrong_map (codes "optionalDependencies") (field (codes "optionalDependencies") d))
    (wrong_map (codes "peerDependencies") (field (codes "peerDependencies") d))
    (wrong_texts (codes "scripts") (field (codes "scripts") d))
    (wrong_bin (field (codes "bin") d))
    (wrong_notes d)

more : (a b : Option Spot) (e : ManifestFault) → IsWrong a e → IsWrong (or_else a b) e
more a b (Wrong Missing) h = h
more a b (Wrong NotJson) h = h
more a b (Wrong (BadField f k)) h = ap (λ w. or_else w b) h
more a b Memory h = tt

later : (a b : Option Spot) (e : ManifestFault) → a ≡ None → IsWrong b e → IsWrong (or_else a b) e
later a b e right h = subst (λ w. IsWrong (or_else w b) e) (sym right) h

module _ (d : Data) (e : ManifestFault) (own : wrong_own d ≡ None) where
  after_own : IsWrong (or_else (wrong_maps d) (or_else (wrong_commands d) (wrong_notes d))) e → IsWrong (first_wrong d) e
  after_own h = subst (λ w. IsWrong w e) (sym (by_groups d)) (later (wrong_own d) (or_else (wrong_maps d) (or_else (wrong_commands d) (wrong_notes d))) e own h)

  pub maps_wrong : IsWrong (wrong_maps d) e → IsWrong (first_wrong d) e
  maps_wrong h = after_own (more (wrong_maps d) (or_else (wrong_commands d) (wrong_notes d)) e h)

  pub commands_wrong : wrong_maps d ≡ None → IsWrong (wrong_commands d) e → IsWrong (first_wrong d) e
  commands_wrong maps h = after_own (later (wrong_maps d) (or_else (wrong_commands d) (wrong_notes d)) e maps (more (wrong_commands d) (wrong_notes d) e h))

  pub notes_wrong : wrong_maps d ≡ None → wrong_commands d ≡ None → IsWrong (wrong_notes d) e → IsWrong (first_wrong d) e
  notes_wrong maps commands h = after_own (later (wrong_maps d) (or_else (wrong_commands d) (wrong_notes d)) e maps (later (wrong_commands d) (wrong_notes d) e commands h))

pub none_wrong : (d : Data) → wrong_own d ≡ None → wrong_maps d ≡ None → wrong_commands d ≡ None → wrong_notes d ≡ None → first_wrong d ≡ None
none_wrong d own maps commands notes =
    by_groups d
    ∙ ap (λ w. or_else w (or_else (wrong_maps d) (or_else (wrong_commands d) (wrong_notes d)))) own
    ∙ ap (λ w. or_else w (or_else (wrong_commands d) (wrong_notes d))) maps
    ∙ ap (λ w. or_else w (wrong_notes d)) commands
    ∙ notes
