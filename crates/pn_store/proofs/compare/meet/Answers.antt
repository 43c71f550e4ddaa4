use Rattle.std.proofs.Common.{◌≡◌, ◌≢◌, ℕ, List, sym, ◌∙◌, true, false}
use Rattle.std.specs.Prelude.{bytes_eq}
use Rattle.std.proofs.lemmas.Slice.Eq.{bytes_eq-Decides}
use Rattle.pn_store.specs.declared.compare.Met.{Met}
use Rattle.pn_store.specs.declared.compare.Met.TheVariants.{Same, Long, Other}
use Rattle.pn_store.proofs.MetLemmas.{met_of}
use Rattle.pn_store.proofs.compare.meet.Goals as goal

not_same : (m : Met) (d : List ℕ) → m ≡ Same → m ≡ Other d → ⊥
not_same m d is h = let clash : Same ≡ Other d = sym is ∙ h in cc

not_long : (m : Met) (d : List ℕ) → m ≡ Long → m ≡ Other d → ⊥
not_long m d is h = let clash : Long ≡ Other d = sym is ∙ h in cc

one_digest : (m : Met) (d e : List ℕ) → m ≡ Other e → m ≡ Other d → e ≡ d
one_digest m d e is h = let same : Other e ≡ Other d = sym is ∙ h in cc

apart : (x y : List ℕ) → bytes_eq x y ≡ false → x ≢ y
apart x y differ same = let is : bytes_eq x y ≡ true = (bytes_eq-Decides x y).1 same in cc (is, differ)

pub returns-in-Same-clause-met : goal.returns-in-Same-clause-met
returns-in-Same-clause-met g c =
    let store = g.D.StoreDisk.seen in
    met_of (g.R.ReadFs.seen c.args.from.now).tree c.args.path.now c.args.at.now (store c.args.disk.now) (store c.compare.new.disk) c.in_ok-met.met c.in_ok-met.ensures.found (λ d e. absurd (not_same c.in_ok-met.met d c.in-Same.is e))

pub returns-in-Long-clause-met : goal.returns-in-Long-clause-met
returns-in-Long-clause-met g c =
    let store = g.D.StoreDisk.seen in
    met_of (g.R.ReadFs.seen c.args.from.now).tree c.args.path.now c.args.at.now (store c.args.disk.now) (store c.compare.new.disk) c.in_ok-met.met c.in_ok-met.ensures.found (λ d e. absurd (not_long c.in_ok-met.met d c.in-Long.is e))

pub returns-else-eq-clause-met : goal.returns-else-eq-clause-met
returns-else-eq-clause-met g c =
    let store = g.D.StoreDisk.seen in
    met_of (g.R.ReadFs.seen c.args.from.now).tree c.args.path.now c.args.at.now (store c.args.disk.now) (store c.compare.new.disk) c.in_ok-met.met c.in_ok-met.ensures.found (λ d e is. apart c.in-Other.found c.args.at.now (cc (c.if-eq.false, c.eq.ensures)) (one_digest c.in_ok-met.met d c.in-Other.found c.in-Other.is e ∙ is))
