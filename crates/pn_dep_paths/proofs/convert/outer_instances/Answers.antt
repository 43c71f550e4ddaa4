use Rattle.std.proofs.Common.{◌<◌, List, length, get_or, sym, ap, ◌∙◌, subst, arith}
use Rattle.std.specs.List.{All}
use Rattle.std.proofs.lemmas.List.Elements.{All-push}
use Rattle.pn_text.specs.declared.index.PkgIx.{PkgIx}
use Rattle.pn_instances.specs.declared.links.Link.{Link}
use Rattle.pn_dep_paths.specs.PathsLaw.{HasNames}
use Rattle.pn_dep_paths.proofs.ConvertLemmas.{links_count, next_instance}
use Rattle.pn_dep_paths.proofs.convert.outer_instances.Goals as goal

pub loop-i-preserved : goal.loop-i-preserved
loop-i-preserved c =
    let all = c.args.instances.now in
    let i = c.loop-i.i in
    let within : i < length all.packages = subst (λ (xs : List PkgIx). i < length xs) c.as_slice-packages.ensures c.loop-i-test.true in
    let count = links_count all.packages all.links all.roots all.right in
    let at = ap (λ (xs : List PkgIx). get_or xs i (record { 0 = 0 })) c.as_slice-packages.ensures in
    record {
      all = next_instance c.args.plain.now.packages all.packages all.links i _ c.as_slice.result.now c.in_ok-one.one _ c.loop-i.all.items c.push.new.self.items within (omega (arith, within, count))
          at (c.as_slice.ensures ∙ c.index-links-i.is ∙ ap (λ (xs : List (List Link)). get_or xs i c.index-links-i.result) c.as_slice-links.ensures ∙ ap (λ (d : List Link). get_or all.links i d) (sym c.as_slice.ensures)) c.in_ok-one.ensures.instance c.in_ok-push.ensures.items c.loop-i.invariant.all;
      names = subst (All HasNames) (sym c.in_ok-push.ensures.items) (All-push HasNames c.loop-i.all.items c.in_ok-one.one c.loop-i.invariant.names c.in_ok-one.ensures.names);
    }
