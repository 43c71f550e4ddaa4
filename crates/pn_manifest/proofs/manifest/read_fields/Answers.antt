use Rattle.std.proofs.Common.{rules}
use Rattle.serde_json.specs.View.{view}
use Rattle.pn_manifest.specs.Fields.{first_wrong}
use Rattle.pn_manifest.specs.Refusals.{IsWrong}
use Rattle.pn_manifest.proofs.FirstWrongLemmas.{commands_wrong, maps_wrong, none_wrong, notes_wrong}
use Rattle.pn_manifest.proofs.manifest.read_fields.Goals as goal

pub returns-in_err-maps-clause-fault : goal.returns-in_err-maps-clause-fault
returns-in_err-maps-clause-fault c =
    let e = c.in_err-maps.field-0.0 in
    let wrong : IsWrong (first_wrong (view c.args.object.now)) e = maps_wrong (view c.args.object.now) e c.in_ok-own.ensures.right c.in_err-maps.ensures.fault in
    search (rules, wrong)

pub returns-in_err-commands-clause-fault : goal.returns-in_err-commands-clause-fault
returns-in_err-commands-clause-fault c =
    let e = c.in_err-commands.field-0.0 in
    let wrong : IsWrong (first_wrong (view c.args.object.now)) e = commands_wrong (view c.args.object.now) e c.in_ok-own.ensures.right c.in_ok-maps.ensures.right c.in_err-commands.ensures.fault in
    search (rules, wrong)

pub returns-in_err-notes-clause-fault : goal.returns-in_err-notes-clause-fault
returns-in_err-notes-clause-fault c =
    let e = c.in_err-notes.field-0.0 in
    let wrong : IsWrong (first_wrong (view c.args.object.now)) e = notes_wrong (view c.args.object.now) e c.in_ok-own.ensures.right c.in_ok-maps.ensures.right c.in_ok-commands.ensures.right c.in_err-notes.ensures.fault in
    search (rules, wrong)

pub returns-clause-right : goal.returns-clause-right
returns-clause-right c = none_wrong (view c.args.object.now) c.in_ok-own.ensures.right c.in_ok-maps.ensures.right c.in_ok-commands.ensures.right c.in_ok-notes.ensures.right
