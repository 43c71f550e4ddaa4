use Rattle.std.proofs.Common.{◌≡◌, ◌∷◌, [], ◌+◌, true, drop, sym, ap, ◌∙◌, subst}
use Rattle.std.specs.List.{All}
use Rattle.std.proofs.lemmas.List.Elements.{All-push}
use Rattle.pn_text.specs.Name.{is_name}
use Rattle.pn_outer.specs.declared.instance.Link.{Link}
use Rattle.pn_dep_paths.specs.Converted.{alias_links, peer_links}
use Rattle.pn_dep_paths.proofs.ConvertLemmas.{alias_none, alias_one, next_link, nil, peer_none, peer_one}
use Rattle.pn_dep_paths.proofs.convert.outer_of.Goals as goal
use Rattle.pn_dep_paths.proofs.convert.outer_of.Goals.{then-is_alias+in_ok-push, else-is_alias+in_ok-push-2}

pub loop-link-preserved : goal.loop-link-preserved
loop-link-preserved c =
    let packages = c.args.plain.now.packages in
    let k = c.args.at in
    let links = c.args.links.now in
    let i = c.loop-link.link-index in
    let l = c.link-item.result in
    let rest = drop (i + 1) links in
    let copy = c.in_ok-copy.copy in
    let deps = c.loop-link.deps.items in
    let peers = c.loop-link.peers.items in
    elim c.if-is_alias.branch [
      | then-is_alias+in_ok-push w ↦ record {
        deps = next_link (alias_links packages k) links i l _ deps c.if-is_alias.deps.items (copy ∷ []) c.loop-link-test.true c.link-item.is
            (alias_one packages k l rest copy c.in_ok-copy.ensures.link (sym c.is_alias.ensures ∙ w.if-is_alias.true)) (ap (λ v. v.items) w.deps-is ∙ w.in_ok-push.ensures.items) c.loop-link.invariant.deps;
        peers = next_link (peer_links packages k) links i l _ peers c.if-is_alias.peers.items [] c.loop-link-test.true c.link-item.is
            (peer_none packages k l rest (sym c.is_alias.ensures ∙ w.if-is_alias.true)) (ap (λ v. v.items) w.peers-is ∙ nil peers) c.loop-link.invariant.peers;
        names = subst (All (λ (x : Link). is_name x.name ≡ true)) (sym (ap (λ v. v.items) w.peers-is)) c.loop-link.invariant.names;
      }
      | else-is_alias+in_ok-push-2 w ↦ record {
        deps = next_link (alias_links packages k) links i l _ deps c.if-is_alias.deps.items [] c.loop-link-test.true c.link-item.is
            (alias_none packages k l rest (sym c.is_alias.ensures ∙ w.if-is_alias.false)) (ap (λ v. v.items) w.deps-is ∙ nil deps) c.loop-link.invariant.deps;
        peers = next_link (peer_links packages k) links i l _ peers c.if-is_alias.peers.items (copy ∷ []) c.loop-link-test.true c.link-item.is
            (peer_one packages k l rest copy c.in_ok-copy.ensures.link (sym c.is_alias.ensures ∙ w.if-is_alias.false)) (ap (λ v. v.items) w.peers-is ∙ w.in_ok-push-2.ensures.items) c.loop-link.invariant.peers;
        names = subst (All (λ (x : Link). is_name x.name ≡ true)) (sym (ap (λ v. v.items) w.peers-is ∙ w.in_ok-push-2.ensures.items))
            (All-push (λ (x : Link). is_name x.name ≡ true) peers copy c.loop-link.invariant.names c.in_ok-copy.ensures.name);
      }
    ]
