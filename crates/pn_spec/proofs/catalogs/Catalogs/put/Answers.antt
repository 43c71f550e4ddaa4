use Rattle.pn_spec.proofs.Puts.{put-kept}
use Rattle.pn_spec.proofs.catalogs.Catalogs.put.Goals as goal

pub invariant_of-self-2 : goal.invariant_of-self-2
invariant_of-self-2 c =
    put-kept (record { catalog = c.args.catalog; name = c.args.name; text = c.args.text; spec = c.in_ok-spec.spec }) c.self.inside.items.items c.put_in.new.items.items c.in_ok-put_in.ensures.ok
    (record { read = c.in_ok-spec.ensures.spec; form = c.in_ok-spec.ensures.form }) c.self.invariant
