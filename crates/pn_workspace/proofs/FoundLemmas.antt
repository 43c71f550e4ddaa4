-- Lemmas on what the search found.
use Rattle.std.proofs.Common.{◌≡◌, [], refl, sym, ap, ◌∙◌, subst, Option, Some, None, Ok, Err}
use Rattle.std.specs.Prelude.{Result, IfOk, IfErr, IfSome}
use Rattle.pn_text.specs.Path.{Path}
use Rattle.pn_fs.specs.Seen.{Seen}
use Rattle.pn_fs.specs.Tree.{Tree}
use Rattle.pn_config.specs.Files.{ReadsConfig}
use Rattle.pn_workspace.specs.Contents.{IsWrong, Says, SaysBytes, WrongBytes}
use Rattle.pn_workspace.specs.Roots.{nearest, or_here, root_of, settings_path}
use Rattle.pn_workspace.specs.Workspaces.{Fits, HasFile, IsFound, IsWorkspace, Refused, Unsaid}
use Rattle.pn_workspace.specs.declared.fault.WorkspaceFault.{WorkspaceFault}
use Rattle.pn_workspace.specs.declared.fault.WorkspaceFault.TheVariants as fault
use Rattle.pn_workspace.specs.declared.fault.WorkspaceWhy.{WorkspaceWhy}
use Rattle.pn_workspace.specs.declared.search.Found.{Found}
use Rattle.pn_workspace.specs.declared.search.Workspace.{Workspace}
use Rattle.pn_workspace.proofs.RootLemmas.{none_is}
use Rattle.pn_workspace.proofs.SearchLemmas.{is_no_file}

found_root : (t : Tree) (place : Path) (f : Found) → IsFound t place (Some f) → root_of t place ≡ f.root
found_root t place f h = ap (or_here place) h.0

-- the workspace of the file that was found
pub with_file : (r : Result Workspace WorkspaceFault) (shown : Option Tree) (place : Path) (f : Found) → Fits place → IfSome shown (λ t. IsFound t place (Some f)) → IfOk r (λ w. w.root ≡ f.root) → IfOk r (λ w. SaysBytes f.bytes.items w.config)
    → IfSome shown (λ t. IfOk r (IsWorkspace t place))
with_file r None place f fits found root says = tt
with_file (Err e) (Some t) place f fits found root says = tt
with_file (Ok w) (Some t) place f fits found root says =
    let at = found_root t place f found in
    record {
      fits = fits;
      root = root ∙ sym at;
      says = subst (λ p. Says (t (settings_path p)) w.config) (sym at) (record {
        value = Some says.0;
        holds = (f.bytes.items, found.1, says.1);
        reads = says.2;
      });
    }

-- the workspace of a folder where no file was found
pub without_file : (r : Result Workspace WorkspaceFault) (shown : Option Tree) (place : Path) → Fits place → IfSome shown (λ t. nearest t place ≡ None) → IfOk r (λ w. w.root ≡ place) → IfOk r (λ w. ReadsConfig None [] w.config)
    → IfSome shown (λ t. IfOk r (IsWorkspace t place))
without_file r None place fits none root says = tt
without_file (Err e) (Some t) place fits none root says = tt
without_file (Ok w) (Some t) place fits none root says =
    let at : root_of t place ≡ place = ap (or_here place) none in
    record {
      fits = fits;
      root = root ∙ sym at;
      says = subst (λ p. Says (t (settings_path p)) w.config) (sym at) (record {
        value = None;
        holds = is_no_file (t (settings_path place)) (none_is t place none [] place refl);
        reads = says;
      });
    }

wrong_file : (shown : Option Tree) (place path : Path) (f : Found) (why : WorkspaceWhy) → HasFile f → IfSome shown (λ t. IsFound t place (Some f)) → path ≡ f.path → WrongBytes f.bytes.items why
    → IfSome shown (λ t. (path ≡ settings_path (root_of t place)) × IsWrong (t (settings_path (root_of t place))) why)
wrong_file None place path f why has found is wrong = tt
wrong_file (Some t) place path f why has found is wrong =
    let at = found_root t place f found in
    (is ∙ has.path ∙ ap settings_path (sym at), subst (λ p. IsWrong (t (settings_path p)) why) (sym at) (f.bytes.items, found.1, wrong))

unsaid : (e : WorkspaceFault) (old new : Seen) (place : Path) (f : Found) → Fits place → HasFile f → IfSome old.tree (λ t. IsFound t place (Some f)) → Unsaid f.path f.bytes.items e → Refused old new place e
unsaid (fault.Wrong path why) old new place f fits has found h = (fits, wrong_file old.tree place path f why has found h.0 h.1)
unsaid fault.Memory old new place f fits has found h = tt
unsaid fault.Fault old new place f fits has found h = absurd h
unsaid (fault.Long n) old new place f fits has found h = absurd h
unsaid (fault.TooLarge n) old new place f fits has found h = absurd h

-- why the file that was found gives no workspace
pub unsaid_err : (r : Result Workspace WorkspaceFault) (old new : Seen) (place : Path) (f : Found) → Fits place → HasFile f → IfSome old.tree (λ t. IsFound t place (Some f)) → IfErr r (Unsaid f.path f.bytes.items) → IfErr r (Refused old new place)
unsaid_err (Ok w) old new place f fits has found h = tt
unsaid_err (Err e) old new place f fits has found h = unsaid e old new place f fits has found h
