use Rattle.std.proofs.Common.{◌≡◌, ◌∙◌, ap, sym, Some, map, ℕ, List}
use Rattle.std.specs.Prelude.{not}
use Rattle.std.specs.Str.{bytes_eq}
use Rattle.semver.specs.Identifiers.{parts_of}
use Rattle.pn_text.specs.Ids.{id_name, ok_of}
use Rattle.pn_choice.proofs.VersionLemmas.{put_other, put_same}
use Rattle.pn_choice.proofs.version.put.Goals as goal

pub returns-then-ne : goal.returns-then-ne
returns-then-ne c =
    let names : not (bytes_eq c.as_str.result.now c.as_str-2.result.now) ≡ not (bytes_eq (id_name c.args.id.now) c.args.name.now) =
    ap (λ (x : List ℕ). not (bytes_eq x c.as_str-2.result.now)) (c.as_str.ensures.text ∙ c.name.ensures) ∙ ap (λ (x : List ℕ). not (bytes_eq (id_name c.args.id.now) x)) c.as_str-2.ensures.text in
    put_other (map parts_of c.args.versions.now.items) c.args.name.now c.args.id.now (sym c.if-ne.true ∙ c.ne.ensures ∙ names)

pub returns : goal.returns
returns c =
    let names : not (bytes_eq c.as_str.result.now c.as_str-2.result.now) ≡ not (bytes_eq (id_name c.args.id.now) c.args.name.now) =
    ap (λ (x : List ℕ). not (bytes_eq x c.as_str-2.result.now)) (c.as_str.ensures.text ∙ c.name.ensures) ∙ ap (λ (x : List ℕ). not (bytes_eq (id_name c.args.id.now) x)) c.as_str-2.ensures.text in
    put_same c.args.versions.now.items c.push.new.self.items c.in_ok-version.version c.args.name.now c.args.id.now (sym c.if-ne.false ∙ c.ne.ensures ∙ names)
    (ap ok_of c.version.ensures ∙ ap Some (sym c.in_ok-version.ensures)) c.in_ok-push.ensures.items
