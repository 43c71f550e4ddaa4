-- A known tree gives one answer.
use Rattle.std.proofs.Common.{◌≡◌, ◌<◌, ℕ, List, sym, ap, ◌∙◌, subst, arith, length, Option, Some, None, Ok, Err}
use Rattle.pn_text.specs.Path.{Path}
use Rattle.pn_text.proofs.Results.{same_some}
use Rattle.pn_fs.specs.Tree.{Entry, Tree}
use Rattle.pn_fs.proofs.SeenLemmas.{file_once}
use Rattle.pn_read.specs.Small.{IsFileOf}
use Rattle.pn_yaml.specs.Blocks.{says}
use Rattle.pn_yaml.specs.Data.{Data}
use Rattle.pn_yaml.specs.Outcome.{Outcome}
use Rattle.pn_yaml.specs.declared.fault.YamlFault.TheVariants as yaml
use Rattle.pn_lock.specs.Locks.{Locked}
use Rattle.pn_lock_read.specs.LockTexts.{Spells, lock_of}
use Rattle.pn_lock_read.specs.Settling.{Settled}
use Rattle.pn_lock_read.specs.declared.fault.LockFault.TheVariants as lock
use Rattle.pn_lock_read.specs.ReadLaw.{ReadLaw}
use Rattle.pn_lockfile.specs.Contents.{IsWrong, WrongBytes, bytes_at}
use Rattle.pn_lockfile.specs.Laws.{AnswerLaw, AreOne, IsOwn}
use Rattle.pn_lockfile.specs.Reads.{IsFound, IsLockfile, NoLockfile}
use Rattle.pn_lockfile.specs.declared.fault.LockWhy.{LockWhy}
use Rattle.pn_lockfile.specs.declared.fault.LockWhy.TheVariants as why
use Rattle.pn_lockfile.specs.declared.fault.LockfileFault.{LockfileFault}
use Rattle.pn_lockfile.specs.declared.fault.LockfileFault.TheVariants as fault
use Rattle.pn_lockfile.specs.declared.limits.TheConstants.{LOCKFILE_LIMIT}
use Rattle.pn_lockfile.specs.declared.reading.Found.{Found}

-- what is wrong with bytes is a function of them
abbrev wrong_form : Settled Locked → Option LockWhy
wrong_form (Ok l) = None
wrong_form (Err (lock.Version text)) = Some (why.Version text)
wrong_form (Err (lock.Shape keys)) = Some (why.Shape keys)
wrong_form (Err (lock.Dangling from to)) = Some (why.Dangling from to)
wrong_form (Err lock.Memory) = None

abbrev wrong_text : Outcome Data → Option LockWhy
wrong_text (Ok d) = wrong_form (lock_of d)
wrong_text (Err yaml.NotUtf8) = Some why.NotUtf8
wrong_text (Err (yaml.Line n w)) = Some (why.Line n w)
wrong_text (Err yaml.TooDeep) = Some why.TooDeep
wrong_text (Err yaml.Memory) = None

wrong_is : (bytes : List ℕ) (w : LockWhy) → WrongBytes bytes w → wrong_text (says bytes) ≡ Some w
wrong_is bytes why.NotUtf8 h = ap wrong_text h
wrong_is bytes (why.Line n w) h = ap wrong_text h
wrong_is bytes why.TooDeep h = ap wrong_text h
wrong_is bytes (why.Version text) h = ap wrong_text h.1 ∙ ap wrong_form h.2
wrong_is bytes (why.Shape keys) h = ap wrong_text h.1 ∙ ap wrong_form h.2
wrong_is bytes (why.Dangling from to) h = ap wrong_text h.1 ∙ ap wrong_form h.2

pub right_is : (bytes : List ℕ) (l : Locked) → Spells bytes l → wrong_text (says bytes) ≡ None
right_is bytes l s = ap wrong_text s.yaml ∙ ap wrong_form s.lock

bytes_once : (e : Option Entry) (a b : List ℕ) → bytes_at e ≡ Some a → bytes_at e ≡ Some b → a ≡ b
bytes_once e a b h k = same_some a b (sym h ∙ k)

wrong_one : (e : Option Entry) (u v : LockWhy) → IsWrong e u → IsWrong e v → u ≡ v
wrong_one e u v h k = same_some u v (sym (wrong_is h.bytes u h.wrong) ∙ ap (λ b. wrong_text (says b)) (bytes_once e h.bytes k.bytes h.is k.is) ∙ wrong_is k.bytes v k.wrong)

-- a file past the limit isn't read
wrong_small : (e : Option Entry) (w : LockWhy) (n : ℕ) → LOCKFILE_LIMIT < n → IsFileOf n e → IsWrong e w → ⊥
wrong_small e w n large f h = absurd (omega (arith, h.short, ap length (bytes_once e h.bytes f.0 h.is (ap bytes_at f.1)), f.2, large))

found_small : (e : Option Entry) (n : ℕ) (f : Found) → LOCKFILE_LIMIT < n → IsFileOf n e → IsLockfile e f → ⊥
found_small e n f large h l = absurd (omega (arith, l.short, ap length (file_once e f.bytes.items h.0 l.is h.1), h.2, large))

found_right : (e : Option Entry) (w : LockWhy) (f : Found) → IsWrong e w → IsLockfile e f → ⊥
found_right e w f h l =
    let clash : Some w ≡ None = sym (wrong_is h.bytes w h.wrong) ∙ ap (λ b. wrong_text (says b)) (bytes_once e h.bytes f.bytes.items h.is (ap bytes_at l.is)) ∙ right_is f.bytes.items f.lock l.spells in
    cc clash

fault_one : (t : Tree) (p : Path) (e f : LockfileFault) → IsOwn e → IsOwn f → NoLockfile (Some t) p e → NoLockfile (Some t) p f → e ≡ f
fault_one t p (fault.Wrong u) (fault.Wrong v) o r h k = ap fault.Wrong (wrong_one (t p) u v h k)
fault_one t p (fault.Wrong u) (fault.TooLarge n) o r h k = absurd (wrong_small (t p) u n k.0 k.1 h)
fault_one t p (fault.TooLarge n) (fault.Wrong u) o r h k = absurd (wrong_small (t p) u n h.0 h.1 k)
fault_one t p (fault.TooLarge n) (fault.TooLarge m) o r h k = ap fault.TooLarge (h.1.2 ∙ ap length (file_once (t p) h.1.0 k.1.0 h.1.1 k.1.1) ∙ sym k.1.2)
fault_one t p fault.Fault f o r h k = absurd o
fault_one t p fault.Memory f o r h k = absurd o
fault_one t p e fault.Fault o r h k = absurd r
fault_one t p e fault.Memory o r h k = absurd r

found_one : ReadLaw → (e : Option Entry) (a b : Option Found) → IsFound e a → IsFound e b → AreOne a b
found_one law e None None h k = tt
found_one law e None (Some g) h k = cc (h, k.is)
found_one law e (Some f) None h k = cc (h.is, k)
found_one law e (Some f) (Some g) h k =
    let same = file_once e f.bytes.items g.bytes.items h.is k.is in
    (law.one g.bytes.items f.lock g.lock (subst (λ b. Spells b f.lock) same h.spells) k.spells, same)

either : (t : Tree) (p : Path) (a : Option Found) (e : LockfileFault) → IsOwn e → IsFound (t p) a → NoLockfile (Some t) p e → ⊥
either t p None (fault.Wrong w) o h k = let none : None ≡ Some k.bytes = sym (ap bytes_at h) ∙ k.is in cc none
either t p None (fault.TooLarge n) o h k = cc (h, k.1.1)
either t p (Some f) (fault.Wrong w) o h k = found_right (t p) w f k h
either t p (Some f) (fault.TooLarge n) o h k = found_small (t p) n f k.0 k.1 h
either t p a fault.Fault o h k = absurd o
either t p a fault.Memory o h k = absurd o

pub answer : ReadLaw → AnswerLaw
answer law = record { value = λ t p a b h k. found_one law (t p) a b h k; refusal = fault_one; either = either }
