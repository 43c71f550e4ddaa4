use Rattle.std.proofs.Common.{◌≡◌, ◌++◌, ◌∙◌, [], ap, map, subst, true, false}
use Rattle.std.specs.Prelude.{IfOk}
use Rattle.pn_manifest.specs.Says.{said_of}
use Rattle.pn_plain.specs.Seen.{counted, wish, put_wishes}
use Rattle.pn_seen.proofs.CountedLemmas.{wanted_wishes, without_peers, with_peers, puts_counted}
use Rattle.pn_seen.proofs.asked.project_wishes.Goals as goal
use Rattle.pn_seen.proofs.asked.project_wishes.Goals.{then-auto_peers+in_ok-put_wanted, else-auto_peers}

pub returns : goal.returns
returns c =
    let s = said_of c.args.manifest.now in
    let start : c.put_all.new.items.items ≡ map (wish false) s.dependencies = c.in_ok-put_all.ensures ∙ ap (λ ws. ws ++ map (wish false) s.dependencies) c.new-items.ensures.items in
    let first : c.if-auto_peers.items.items ≡ map (wish false) (counted c.args.auto_peers s).dependencies = elim c.if-auto_peers.branch [
      | then-auto_peers+in_ok-put_wanted w ↦ ap (λ v. v.items) w.items-is ∙ w.in_ok-put_wanted.ensures ∙ ap (λ ws. ws ++ wanted_wishes s) start ∙ with_peers c.args.auto_peers s w.if-auto_peers.true
      | else-auto_peers w ↦ ap (λ v. v.items) w.items-is ∙ start ∙ without_peers c.args.auto_peers s w.if-auto_peers.false
    ] in
    let all = c.in_ok-put_all-3.ensures ∙ ap (λ ws. ws ++ map (wish true) s.optional) c.in_ok-put_all-2.ensures in
    subst (λ ws. IfOk c.in_order.result (λ w. w ≡ ws)) (ap (λ ws. put_wishes ws []) all ∙ puts_counted c.args.auto_peers s c.if-auto_peers.items.items first) c.in_order.ensures
