use Rattle.std.proofs.Common.{arith, sym, ap, subst, ◌∙◌, ◌+◌, drop}
use Rattle.std.specs.Str.{IsCharBoundary}
use Rattle.std.proofs.lemmas.Str.{IsCharBoundary-after_ascii}
use Rattle.pn_text.specs.Path.{SpellsAbs}
use Rattle.pn_text.proofs.Joins.{begins_slash, not_root_by, name_at}
use Rattle.pn_text.proofs.path.AbsPath.name.Goals as goal

pub last_slash-at-requires : goal.last_slash-at-requires
last_slash-at-requires c =
    let b = begins_slash c.as_str-text.result.now c.args.self.now c.as_str-text.ensures.text in
    (b.0, c.as_bytes.ensures.value ∙ b.1)

pub split_at-requires : goal.split_at-requires
split_at-requires c =
    let at = c.last_slash-at.result in
    subst (λ t. IsCharBoundary t (at + 1)) c.as_bytes.ensures.value (IsCharBoundary-after_ascii c.as_bytes.result.now at c.as_bytes.ensures.utf8 c.last_slash-at.ensures.within (omega (arith, c.last_slash-at.ensures.slash)))

pub returns : goal.returns
returns c =
    let at = c.last_slash-at.result in
    name_at c.as_bytes.result.now c.split_at.result.1.now c.args.self.now at (subst (λ t. SpellsAbs t c.args.self.now) (sym c.as_bytes.ensures.value) c.as_str-text.ensures.text)
    (not_root_by _ _ c.is_root.ensures c.if-is_root.false) c.last_slash-at.ensures.within c.last_slash-at.ensures.slash c.last_slash-at.ensures.flat
    (c.split_at.ensures.back ∙ sym (ap (drop (at + 1)) c.as_bytes.ensures.value))
