-- What each step makes of the world, and the world that a journal made.
use Rattle.std.specs.Prelude.{ℕ, ◌||◌, ◌==◌, List, [], ◌∷◌, ◌++◌, Option, Some, None}
use Rattle.std.specs.Option.{option_map}
use Rattle.pn_storecore.specs.declared.step.Place.{Place}
use Rattle.pn_storecore.specs.declared.step.Place.TheVariants.{Files, Listings}
use Rattle.pn_storecore.specs.declared.step.Discard.{Discard}
use Rattle.pn_storecore.specs.declared.step.Discard.TheVariants as what
use Rattle.pn_storecore.specs.declared.step.StoreStep.{StoreStep}
use Rattle.pn_storecore.specs.declared.step.StoreStep.TheVariants as step
use Rattle.pn_storecore.specs.World.{Temp, Temps, Objects, World, empty, objects, content, claimed_by, put_temp, put_file, with_temps, with_temp, with_content, with_bytes, with_objects}

-- an installer's number, and a step that it made
abbrev pub Event : Type 0
Event = ℕ × StoreStep

-- the steps that were made, the first one first
abbrev pub Journal : Type 0
Journal = List Event

-- a claim makes the folder where none stands
abbrev pub claim_in : ℕ → ℕ → Temps → Option Temp → Temps
claim_in who k temps None = put_temp temps k (Some (claimed_by who))
claim_in who k temps (Some t) = temps

abbrev pub with_shard : Objects → ℕ → Objects
with_shard o first = record { shards = λ b. first == b || o.shards b; bytes = o.bytes }

-- a temporary file moves to an address and replaces what stands there
abbrev pub published : Place → ℕ → ℕ → List ℕ → World → World
published place k n at w = with_objects (with_content w k n None) place (with_bytes (objects w place) at (content w k n))

-- a file of a folder, or the folder
abbrev pub dropped_in : ℕ → Option ℕ → Temps → Temps
dropped_in k (Some n) temps = put_file temps k n None
dropped_in k None temps = put_temp temps k None

abbrev pub discarded : Discard → World → World
discarded (what.Temp k) w = with_temp w k None
discarded (what.File at) w = with_objects w Files (with_bytes w.files at None)
discarded (what.Listing at) w = with_objects w Listings (with_bytes w.listings at None)

-- the world after an installer's step
abbrev pub after : ℕ → StoreStep → World → World
after who (step.Claim k) w = with_temps w (claim_in who k w.temps (w.temps k))
after who (step.Create k n) w = with_content w k n (Some [])
after who (step.Append k n more) w = with_content w k n (option_map (λ bytes. bytes ++ more) (content w k n))
after who (step.Shard place first) w = with_objects w place (with_shard (objects w place) first)
after who (step.PublishFile k n at) w = published Files k n at w
after who (step.PublishListing k n at) w = published Listings k n at w
after who (step.DropTemp k n) w = with_temps w (dropped_in k n w.temps)
after who step.Read w = w
after who (step.Discard what) w = discarded what w

-- the world after some steps
abbrev pub world_after : World → Journal → World
world_after w [] = w
world_after w (e ∷ es) = world_after (after e.0 e.1 w) es

-- the world that a journal made
abbrev pub world_of : Journal → World
world_of j = world_after empty j
