use Rattle.std.proofs.Common.{◌≡◌, ◌∷◌, ◌++◌, ◌∙◌, ap, sym, arith}
use Rattle.std.specs.Prelude.{Some, None}
use Rattle.std.proofs.lemmas.List.{append_cancel_left}
use Rattle.std.proofs.lemmas.Str.Pattern.{strip_prefix_char}
use Rattle.pn_text.specs.Name.{is_name}
use Rattle.pn_lock_print.proofs.TargetLemmas.{behind, path_bare, path_whole}
use Rattle.pn_lock_print.proofs.target.path_text.Goals as goal

pub returns-in_default : goal.returns-in_default
returns-in_default c = sym (path_whole c.args.alias.now c.args.path.now c.requires (λ rest e. c.in_default.ensures.cases (64 ∷ rest) (e ∙ ap (λ a. a ++ 64 ∷ rest) (sym c.as_str.ensures.text))))

pub returns-in-Some-strip_prefix : goal.returns-in-Some-strip_prefix
returns-in-Some-strip_prefix c =
    let h = c.in-Some.ensures.cases in
    let front = behind c.args.alias.now c.as_str.result.now c.args.path.now _ c.in-Some.rest.now c.as_str.ensures.text h.1.1 h.2 in
    let rest : c.in-Some.rest.now ≡ 64 ∷ c.in-Some-strip_prefix.version.now = strip_prefix_char 64 c.in-Some.rest.now (Some c.in-Some-strip_prefix.version) c.in-Some-strip_prefix.ensures.cases (omega arith) in
    sym (path_bare c.args.alias.now c.args.path.now c.in-Some-strip_prefix.version.now (ap is_name (sym c.as_str.ensures.text) ∙ c.as_str.ensures.name) (front ∙ ap (λ t. c.args.alias.now ++ t) rest))

pub returns-in-None : goal.returns-in-None
returns-in-None c =
    let h = c.in-Some.ensures.cases in
    let front = behind c.args.alias.now c.as_str.result.now c.args.path.now _ c.in-Some.rest.now c.as_str.ensures.text h.1.1 h.2 in
    sym (path_whole c.args.alias.now c.args.path.now c.requires
    (λ rest e. strip_prefix_char 64 c.in-Some.rest.now None c.in-None.ensures.cases (omega arith) rest (append_cancel_left c.args.alias.now c.in-Some.rest.now (64 ∷ rest) (sym front ∙ e))))
