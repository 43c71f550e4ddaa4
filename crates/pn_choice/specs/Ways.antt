-- What sources say of wishes and of packages.
use Rattle.std.specs.Prelude.{◌≡◌, ℕ, List, Option, None, option_map}
use Rattle.semver.specs.Parse.{Parts}
use Rattle.pn_text.specs.Causes.{Rose}
use Rattle.pn_fs.specs.Seen.{Seen, Keeps}
use Rattle.pn_fs.specs.Tree.{Tree}
use Rattle.pn_manifest.specs.Said.{Said}
use Rattle.pn_spec.specs.declared.want.Want.{Want}
use Rattle.pn_spec.specs.Refusals.{FitsNoForm}
use Rattle.pn_spec.specs.SpecTexts.{trimmed}
use Rattle.pn_walk.specs.Wants.{Id}
use Rattle.pn_walk.specs.declared.wish.Wish.{Wish}
use Rattle.pn_walk.specs.declared.wish.Aim.{Aim}
use Rattle.pn_plain.specs.Aims.{Leads, Reads, Chooses, id_at}
use Rattle.pn_plain.specs.Causes.{Cause, unsupported, unbuilt, registry, no_version, ReadingRefused}
use Rattle.pn_plain.specs.Readings.{Reading, not_built}
use Rattle.pn_choice.specs.Given.{given_of}
use Rattle.pn_choice.specs.Built.{IsUnbuilt}
use Rattle.pn_choice.specs.Shows.{Publishes, Unpublished, Unread}
use Rattle.pn_choice.specs.declared.fault.RegistryLack.{RegistryLack}
use Rattle.pn_choice.specs.declared.fault.RegistryLack.TheVariants.{BadTags as LackTags, Entries as LackEntries, Wrong as LackManifest, TooLarge as LackText, Unbuilt as LackUnbuilt}
use Rattle.pn_choice.specs.declared.way.WayFault.{WayFault}
use Rattle.pn_choice.specs.declared.way.WayFault.TheVariants.{Unsupported, Unbuilt, NoVersion, Registry, Fault, Memory}

-- what a wish leads to where these packages are held
abbrev pub LeadsBy : Option Tree → List Id → Wish → Option Aim → Type 0
LeadsBy r held = Leads (Publishes r) (given_of held)

-- The specifier has this reading, whatever is held.
abbrev pub ReadsAs : Wish → Reading → Type 0
ReadsAs w x = (held : List Id) → Reads (given_of held) w x

-- why a specifier asks for nothing
abbrev pub IsUnasked : Wish → WayFault → Type 0
IsUnasked w Unsupported = FitsNoForm (trimmed w.specifier)
IsUnasked w Unbuilt = ReadsAs w not_built
IsUnasked w NoVersion = ⊥
IsUnasked w (Registry lack) = ⊥
IsUnasked w Fault = ⊥
IsUnasked w Memory = Unit {0}

-- Why a wish leads nowhere.
pub data IsLost (r : Option Tree) (held : List Id) (w : Wish) (c : Cause RegistryLack) : Type 0 where
  no_form : w.chosen ≡ None → FitsNoForm (trimmed w.specifier) → c ≡ unsupported → IsLost r held w c
  no_aim : w.chosen ≡ None → (x : Reading) → Reads (given_of held) w x → ReadingRefused (Publishes r) (Unpublished r) (given_of held) w.optional x c → IsLost r held w c

-- the same, a failed call, or there was no memory
abbrev pub Loses : Option Tree → List Id → Wish → WayFault → Type 0
Loses r held w Unsupported = IsLost r held w unsupported
Loses r held w Unbuilt = IsLost r held w unbuilt
Loses r held w NoVersion = IsLost r held w no_version
Loses r held w (Registry lack) = IsLost r held w (registry lack)
Loses r held w Fault = Unit {0}
Loses r held w Memory = Unit {0}

-- why what is published under a name isn't told
abbrev pub IsUnlisted : Option Tree → List ℕ → WayFault → Type 0
IsUnlisted r n Unsupported = ⊥
IsUnlisted r n Unbuilt = ⊥
IsUnlisted r n NoVersion = ⊥
IsUnlisted r n (Registry lack) = Unpublished r n lack
IsUnlisted r n Fault = Unit {0}
IsUnlisted r n Memory = Unit {0}

-- why a package isn't told
abbrev pub IsUntold : Option Tree → Id → WayFault → Type 0
IsUntold r i Unsupported = ⊥
IsUntold r i Unbuilt = ⊥
IsUntold r i NoVersion = ⊥
IsUntold r i (Registry lack) = Unread r i lack
IsUntold r i Fault = Unit {0}
IsUntold r i Memory = Unit {0}

-- which part of a package isn't built
abbrev pub IsUnbuiltIn : Id → Said → WayFault → Type 0
IsUnbuiltIn i m Unsupported = ⊥
IsUnbuiltIn i m Unbuilt = ⊥
IsUnbuiltIn i m NoVersion = ⊥
IsUnbuiltIn i m (Registry (LackTags n)) = ⊥
IsUnbuiltIn i m (Registry LackEntries) = ⊥
IsUnbuiltIn i m (Registry (LackManifest j why)) = ⊥
IsUnbuiltIn i m (Registry (LackText j k)) = ⊥
IsUnbuiltIn i m (Registry (LackUnbuilt text)) = IsUnbuilt i m text
IsUnbuiltIn i m Fault = ⊥
IsUnbuiltIn i m Memory = Unit {0}

-- The package is that of the version that is chosen, or there is none.
pub record IsVersionIn (r : Option Tree) (held : List Id) (n : List ℕ) (w : Want) (id : Option Id) : Type 0 where
  pub found : Option Parts
  pub chooses : Chooses (Publishes r) (given_of held) n w found
  pub is : id ≡ option_map (id_at n) found

-- A call fails where the count of faults rose.
abbrev pub Broke : Seen → Seen → WayFault → Type 0
Broke old new Unsupported = Unit {0}
Broke old new Unbuilt = Unit {0}
Broke old new NoVersion = Unit {0}
Broke old new (Registry lack) = Unit {0}
Broke old new Fault = Rose old.faults new.faults
Broke old new Memory = Unit {0}

-- The registry is only read, and the same packages are held.
pub record Goes (old new : Seen) (held held' : List Id) : Type 0 where
  pub kept : Keeps old new
  pub held_is : held' ≡ held
