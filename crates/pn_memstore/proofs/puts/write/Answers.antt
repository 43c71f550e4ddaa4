use Rattle.std.proofs.Common.{◌≡◌, ◌++◌, ◌/◌, ◌∙◌, ℕ, List, length, ap, subst, Some, []}
use Rattle.std.specs.Prelude.{OnOk, take, drop}
use Rattle.std.proofs.lemmas.List.{take-append-drop}
use Rattle.pn_storecore.specs.Held.{Holds, no_files, files_with}
use Rattle.pn_memstore.proofs.puts.write.Goals as goal

both : (a b : List ℕ) (i : ℕ) (all : List ℕ) → a ≡ take i all → b ≡ drop i all → a ++ b ≡ all
both a b i all front back = ap (λ x. x ++ b) front ∙ ap (λ x. take i all ++ x) back ∙ take-append-drop i all

pub add-requires : goal.add-requires
add-requires g c = ([], c.in_ok-create.ensures.folder)

pub add-requires-2 : goal.add-requires-2
add-requires-2 g c = (c.split_at.result.0.now, c.in_ok-add.ensures.folder [] c.in_ok-create.ensures.folder)

pub returns-clause-folder : goal.returns-clause-folder
returns-clause-folder g c =
    let front = c.split_at.result.0.now in
    let bytes = c.args.bytes.now in
    subst (λ x. OnOk c.add-2.result (Holds (g.D.StoreDisk.seen c.add-2.new.disk) c.args.k (files_with no_files 0 (Some x))))
    (both front c.split_at.result.1.now (length bytes / 2) bytes c.split_at.ensures.front c.split_at.ensures.back)
    (c.add-2.ensures.folder front (c.in_ok-add.ensures.folder [] c.in_ok-create.ensures.folder))

pub returns-clause-grew : goal.returns-clause-grew
returns-clause-grew g c =
    let seen = g.D.StoreDisk.seen in
    let law = c.grew_law.ensures in
    let one = seen c.args.disk.now in
    let two = seen c.create.new.disk in
    let three = seen c.add.new.disk in
    let four = seen c.add-2.new.disk in
    law.both one three four (law.both one two three c.create.ensures.grew c.add.ensures.grew) c.add-2.ensures.grew
