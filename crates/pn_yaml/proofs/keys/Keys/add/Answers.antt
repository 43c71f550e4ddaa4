use Rattle.std.proofs.Common.{ℕ, List, ◌∷◌, ◌≡◌, false, ap, sym, subst, ◌∙◌}
use Rattle.std.specs.Prelude.{not}
use Rattle.pn_yaml.specs.declared.keys.Keys.{Keys}
use Rattle.pn_yaml.specs.KeySets.{AreKeys, HasKeys, seen_of}
use Rattle.pn_yaml.proofs.KeyLists.{kept, on_true, rises_new}
use Rattle.pn_yaml.proofs.keys.Keys.add.Goals as goal
use Rattle.pn_yaml.proofs.keys.Keys.add.Goals.{then-self+else-rises+in_ok-self, else-self}

pub returns-then-rises-clause-new : goal.returns-then-rises-clause-new
returns-then-rises-clause-new c = ap not (sym (rises_new (seen_of c.args.members.now) c.args.key.now (c.requires.rising c.if-self.true) (sym c.rises.ensures ∙ c.if-rises.true)))

pub returns-clause-kept : goal.returns-clause-kept
returns-clause-kept c =
    let seen = seen_of c.args.members.now in
    let self = c.if-self.self in
    let known : (self.rise ≡ false) × HasKeys self.copies seen = elim c.if-self.branch [
      | then-self+else-rises+in_ok-self w ↦ (ap (λ (k : Keys). k.rise) w.self-is, subst (λ (k : Keys). HasKeys k.copies seen) (sym w.self-is) w.in_ok-self.ensures)
      | else-self w ↦ (ap (λ (k : Keys). k.rise) w.self-is ∙ w.if-self.false, subst (λ (k : Keys). HasKeys k.copies seen) (sym w.self-is) (c.requires.copied w.if-self.false))
    ] in
    on_true c.in_ok-insert.field-0 (AreKeys (record { rise = self.rise; copies = c.insert.new.self }) (c.args.key.now ∷ seen))
    (subst (λ (key : List ℕ). AreKeys (record { rise = self.rise; copies = c.insert.new.self }) (key ∷ seen)) c.in_ok-copy.ensures
    (kept self c.insert.new.self c.in_ok-copy.field-0 seen known.0 known.1 c.in_ok-insert.ensures.updates.0))
