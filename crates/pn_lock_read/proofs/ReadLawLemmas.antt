-- What is printed is read back.
use Rattle.std.proofs.Common.{◌≡◌, ℕ, List, refl, ap, ◌∙◌, Ok}
use Rattle.pn_yaml.specs.Blocks.{says}
use Rattle.pn_yaml.specs.Data.{Data}
use Rattle.pn_yaml_print.specs.Printing.{marked, printed}
use Rattle.pn_yaml_print.proofs.ReadBack.{read_back}
use Rattle.pn_lock.specs.Locks.{Locked}
use Rattle.pn_lock_print.specs.LockData.{lock_data}
use Rattle.pn_lock_print.proofs.PrintableLemmas.{lock_printable}
use Rattle.pn_lock_read.specs.LockTexts.{Spells, lock_of}
use Rattle.pn_lock_read.specs.ReadLaw.{ReadLaw}
use Rattle.pn_lock_read.proofs.AllLemmas.{settled_ok}
use Rattle.pn_lock_read.proofs.LockBackLemmas.{lock_back}

data_same : (text : List ℕ) (d e : Data) → says text ≡ Ok d → says text ≡ Ok e → d ≡ e
data_same text d e h g = cc (h, g)

one_lock : (text : List ℕ) (l m : Locked) → Spells text l → Spells text m → l ≡ m
one_lock text l m a b =
    settled_ok l m (lock_of b.form) (ap lock_of (data_same text b.form a.form b.yaml a.yaml) ∙ a.lock) b.lock

pub read_law : ReadLaw
read_law = record {
  back = lock_back;
  text = λ l h utf8. record { form = marked (lock_data l); yaml = read_back (lock_data l) (printed (lock_data l)) (lock_printable l (lock_data l) h refl) refl utf8; lock = lock_back l h };
  one = one_lock;
}
