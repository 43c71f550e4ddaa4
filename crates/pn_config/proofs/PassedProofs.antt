-- A key that is passed over changes nothing.
use Rattle.std.proofs.Common.{◌≡◌, ℕ, List, None, refl, sym, ap, subst, inl, inr}
use Rattle.pn_text.proofs.Bools.{and_false, true_false}
use Rattle.pn_yaml.specs.Data.{Data, Members, no_members, member}
use Rattle.pn_config.specs.declared.key.Key.TheVariants as key
use Rattle.pn_config.specs.declared.settings.Settings.{Settings}
use Rattle.pn_config.specs.Files.{FirstBad, ReadsOn}
use Rattle.pn_config.specs.Keys.{key_of, only_value}
use Rattle.pn_config.specs.Laws.{PassedLaw, onto}
use Rattle.pn_config.specs.Settings.{IsBad, Takes, default_settings}
use Rattle.pn_config.specs.Values.{is_allowed}

module _ (k : List ℕ) (d : Data) (other : key_of k ≡ key.Other) (any : only_value k ≡ None) where
  takes_none : (s : Settings) → Takes (key_of k) k d s s
  takes_none s = subst (λ y. Takes y k d s s) (sym other) (record { value = tt; says = ap (λ o. is_allowed o d) any; once = and_false s.has_default; new_is = refl })

  takes_same : (s t : Settings) → Takes (key_of k) k d s t → t ≡ s
  takes_same s t h = let there : Takes key.Other k d s t = subst (λ y. Takes y k d s t) other h in there.new_is

  never_bad : (s : Settings) → IsBad (key_of k) k d s → ⊥
  never_bad s h = at (subst (λ y. IsBad y k d s) other h) where
    at : IsBad key.Other k d s → ⊥
    at (inl isnt) = true_false _ (ap (λ o. is_allowed o d) any) isnt
    at (inr both) = true_false _ both (and_false s.has_default)

  reads_without : (front back : Members) (s t : Settings) → ReadsOn s (onto front (member k d back)) t → ReadsOn s (onto front back) t
  reads_without no_members back s t (u, takes, rest) = subst (λ x. ReadsOn x back t) (takes_same s u takes) rest
  reads_without (member n e ms) back s t (u, takes, rest) = (u, takes, reads_without ms back u t rest)

  reads_with : (front back : Members) (s t : Settings) → ReadsOn s (onto front back) t → ReadsOn s (onto front (member k d back)) t
  reads_with no_members back s t h = (s, takes_none s, h)
  reads_with (member n e ms) back s t (u, takes, rest) = (u, takes, reads_with ms back u t rest)

  bad_without : (front back : Members) (s : Settings) (b : List ℕ) → FirstBad s (onto front (member k d back)) b → FirstBad s (onto front back) b
  bad_without no_members back s b (inl (bad, is)) = absurd (never_bad s bad)
  bad_without no_members back s b (inr (u, takes, rest)) = subst (λ x. FirstBad x back b) (takes_same s u takes) rest
  bad_without (member n e ms) back s b (inl bad) = inl bad
  bad_without (member n e ms) back s b (inr (u, takes, rest)) = inr (u, takes, bad_without ms back u b rest)

  bad_with : (front back : Members) (s : Settings) (b : List ℕ) → FirstBad s (onto front back) b → FirstBad s (onto front (member k d back)) b
  bad_with no_members back s b h = inr (s, takes_none s, h)
  bad_with (member n e ms) back s b (inl bad) = inl bad
  bad_with (member n e ms) back s b (inr (u, takes, rest)) = inr (u, takes, bad_with ms back u b rest)

pub passed : PassedLaw
passed = record {
  value = λ front back k d root c other any. (
    λ h. (h.0, reads_without k d other any front back default_settings h.0 h.1, h.2),
    λ h. (h.0, reads_with k d other any front back default_settings h.0 h.1, h.2),
  );
  named = λ front back k d bad other any. (bad_without k d other any front back default_settings bad, bad_with k d other any front back default_settings bad);
}
