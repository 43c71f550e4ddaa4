-- Settings after a key.
use Rattle.std.proofs.Common.{◌≡◌, ℕ, List, false, sym, ap, ◌∙◌, subst}
use Rattle.std.specs.Prelude.{◌&&◌}
use Rattle.pn_text.proofs.Bools.{and_false}
use Rattle.pn_yaml.specs.Data.{Data}
use Rattle.pn_config.specs.declared.key.Key.{Key}
use Rattle.pn_config.specs.declared.settings.Settings.{Settings}
use Rattle.pn_config.specs.Settings.{Says, Takes, Value, gives_default, put}

-- of a key that doesn't give the catalog `default`
pub taken : (key kind : Key) (k : List ℕ) (d : Data) (old new : Settings) (v : Value key) → kind ≡ key → gives_default key d ≡ false → Says key k d v → new ≡ put key d v old → Takes kind k d old new
taken key kind k d old new v is other says put =
    subst (λ y. Takes y k d old new) (sym is) (record {
      value = v;
      says = says;
      once = ap (λ b. old.has_default && b) other ∙ and_false old.has_default;
      new_is = put;
    })
