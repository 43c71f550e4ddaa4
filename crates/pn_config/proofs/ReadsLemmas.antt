-- The members of a file, one after the other.
use Rattle.std.proofs.Common.{◌≡◌, ℕ, ◌<◌, ◌+◌, List, length, drop, get_or, sym, ◌∙◌, subst, inl, inr}
use Rattle.pn_yaml.specs.View.{view, members_view}
use Rattle.pn_yaml.specs.declared.node.Node.{Node}
use Rattle.pn_config.specs.declared.fault.ConfigFault.{ConfigFault}
use Rattle.pn_config.specs.declared.fault.ConfigFault.TheVariants as fault
use Rattle.pn_config.specs.declared.fault.Stop.{Stop}
use Rattle.pn_config.specs.declared.fault.Stop.TheVariants as stop
use Rattle.pn_config.specs.declared.key.Key.{Key}
use Rattle.pn_config.specs.declared.settings.Settings.{Settings}
use Rattle.pn_config.specs.Faults.{IsFaultAt, Refuses, Stops}
use Rattle.pn_config.specs.Files.{FirstBad, ReadsOn}
use Rattle.pn_config.specs.Keys.{key_of}
use Rattle.pn_config.specs.Settings.{IsBad, Takes, default_settings}
use Rattle.pn_config.proofs.MemberLemmas.{members_at}

module _ (ms : List (List ℕ × Node)) where
  abbrev pub ReadsLeft : ℕ → Settings → Type 0
  ReadsLeft i now = (s : Settings) → ReadsOn now (members_view (drop i ms)) s → ReadsOn default_settings (members_view ms) s

  abbrev pub BadLeft : ℕ → Settings → Type 0
  BadLeft i now = (k : List ℕ) → FirstBad now (members_view (drop i ms)) k → FirstBad default_settings (members_view ms) k

  module _ (i : ℕ) (m : List ℕ × Node) (key : List ℕ) (kind : Key) (old : Settings) (l : i < length ms) (at : m ≡ get_or ms i m) (same : key ≡ m.0) (is : kind ≡ key_of key) where
    takes_here : (new : Settings) → Takes kind key (view m.1) old new → Takes (key_of m.0) m.0 (view m.1) old new
    takes_here new h = subst (λ k. Takes (key_of k) k (view m.1) old new) same (subst (λ y. Takes y key (view m.1) old new) is h)

    pub reads_more : (new : Settings) → Takes kind key (view m.1) old new → ReadsLeft i old → ReadsLeft (i + 1) new
    reads_more new h left = λ s r. left s (subst (λ v. ReadsOn old v s) (sym (members_at ms i m l at)) (new, takes_here new h, r))

    pub bad_more : (new : Settings) → Takes kind key (view m.1) old new → BadLeft i old → BadLeft (i + 1) new
    bad_more new h left = λ k r. left k (subst (λ v. FirstBad old v k) (sym (members_at ms i m l at)) (inr (new, takes_here new h, r)))

    pub refused_here : (s : Stop) (e : ConfigFault) → IsFaultAt key s e → Stops (IsBad kind key (view m.1) old) s → BadLeft i old → Refuses (FirstBad default_settings (members_view ms)) e
    refused_here stop.Bad (fault.BadKey k) f bad left =
        let here : IsBad (key_of m.0) m.0 (view m.1) old = subst (λ k. IsBad (key_of k) k (view m.1) old) same (subst (λ y. IsBad y key (view m.1) old) is bad) in
        left k (subst (λ v. FirstBad old v k) (sym (members_at ms i m l at)) (inl (here, f ∙ same)))
    refused_here stop.Memory (fault.BadKey k) f bad left = absurd f
    refused_here stop.Bad fault.Memory f bad left = tt
    refused_here stop.Memory fault.Memory f bad left = tt
