-- The calls of a device in memory, and which of them fail.
use Rattle.std.specs.Prelude.{◌≡◌, ℕ, Bool, true, false, Some, Result, Ok, Err}
use Rattle.pn_text.specs.declared.fault.DevFault.{DevFault}
use Rattle.pn_text.specs.declared.fault.DevFault.TheVariants.{Failed, Memory}
use Rattle.pn_text.specs.Causes.{is_listed, count_after}
use Rattle.pn_fs.specs.declared.mem.MemFs.{MemFs}
use Rattle.pn_fs.specs.declared.memsink.MemSink.{MemSink}
use Rattle.pn_fs.specs.Nodes.{rooted}
use Rattle.pn_fs.specs.Seen.{Seen, Taken}

-- Which calls fail, the number of the next one, and how many failed.
pub record Script : Type 0 where
  pub fails : ℕ → Bool
  pub next : ℕ
  pub faults : ℕ

-- A call fails exactly where its number is listed, and then it counts as a fault.
abbrev pub Ran : {T : Type 0} → Script → ℕ → Result T DevFault → Type 0
Ran plan faults (Ok v) = (plan.fails plan.next ≡ false) × (faults ≡ plan.faults)
Ran plan faults (Err Failed) = (plan.fails plan.next ≡ true) × (faults ≡ count_after plan.faults)
Ran plan faults (Err Memory) = (plan.fails plan.next ≡ false) × (faults ≡ plan.faults)

-- A call went by the script, and was counted, whatever it answered.
pub record Goes {T : Type 0} (plan now : Script) (result : Result T DevFault) : Type 0 where
  pub ran : Ran plan now.faults result
  pub next : now.next ≡ count_after plan.next
  pub fails : now.fails ≡ plan.fails

abbrev pub fs_script : MemFs → Script
fs_script fs = record { fails = is_listed fs.turns.fail.items; next = fs.turns.calls; faults = fs.turns.faults }

abbrev pub sink_script : MemSink → Script
sink_script sink = record { fails = is_listed sink.turns.fail.items; next = sink.turns.calls; faults = sink.turns.faults }

abbrev pub mem_seen : MemFs → Seen
mem_seen fs = record { tree = Some (rooted fs.files.nodes); touched = fs.files.touched.items; faults = fs.turns.faults; bytes = fs.files.bytes; names = fs.files.names }

abbrev pub mem_taken : MemSink → Taken
mem_taken sink = record { bytes = Some sink.bytes.items; calls = sink.turns.calls; faults = sink.turns.faults }
