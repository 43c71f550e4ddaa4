use Rattle.std.proofs.Common.{subst, arith}
use Rattle.std.specs.Prelude.{Option, IfSome}
use Rattle.pn_workspace.specs.Workspaces.{Fits, HasFile, IsFound}
use Rattle.pn_workspace.specs.declared.search.Found.{Found}
use Rattle.pn_workspace.proofs.FoundLemmas.{unsaid_err, with_file, without_file}
use Rattle.pn_workspace.proofs.search.find.Goals as goal

pub returns-in-Some-clause-found : goal.returns-in-Some-clause-found
returns-in-Some-clause-found g c =
    let shown = (g.P.ReadFs.seen c.args.fs.now).tree in
    let fits : Fits c.args.place.now = omega (arith, c.child_length-length.ensures, c.if-length.false) in
    with_file c.with_file.result shown c.args.place.now c.in-Some.found fits (subst (λ (o : Option Found). IfSome shown (λ t. IsFound t c.args.place.now o)) c.in-Some.is c.in_ok-found.ensures.found) c.with_file.ensures.root c.with_file.ensures.says

pub returns-in-None-clause-found : goal.returns-in-None-clause-found
returns-in-None-clause-found g c =
    let shown = (g.P.ReadFs.seen c.args.fs.now).tree in
    let fits : Fits c.args.place.now = omega (arith, c.child_length-length.ensures, c.if-length.false) in
    without_file c.without_file.result shown c.args.place.now fits (subst (λ (o : Option Found). IfSome shown (λ t. IsFound t c.args.place.now o)) c.in-None.is c.in_ok-found.ensures.found) c.without_file.ensures.root c.without_file.ensures.says

pub returns-in-Some-clause-refused : goal.returns-in-Some-clause-refused
returns-in-Some-clause-refused g c =
    let seen = g.P.ReadFs.seen in
    let place = c.args.place.now in
    let fits : Fits place = omega (arith, c.child_length-length.ensures, c.if-length.false) in
    let file : HasFile c.in-Some.found = subst (λ (o : Option Found). IfSome o HasFile) c.in-Some.is c.in_ok-found.ensures.file in
    unsaid_err c.with_file.result (seen c.args.fs.now) (seen c.search.new.fs) place c.in-Some.found fits file
    (subst (λ (o : Option Found). IfSome (seen c.args.fs.now).tree (λ t. IsFound t place o)) c.in-Some.is c.in_ok-found.ensures.found) c.with_file.ensures.unsaid
