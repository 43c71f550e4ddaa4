-- A lockfile that is found.
use Rattle.std.proofs.Common.{◌≡◌, ◌≤◌, ℕ, List, [], sym, ap, ◌∙◌, subst, length, Option, Some, None, IfSome}
use Rattle.std.specs.Option.{option_map}
use Rattle.std.specs.Prelude.{Vec}
use Rattle.std.specs.Global.{Global}
use Rattle.std.specs.Str.{is_utf8, chars}
use Rattle.pn_text.specs.Path.{Path}
use Rattle.pn_text.proofs.Results.{same_some}
use Rattle.pn_fs.specs.Tree.{Entry, Tree, folder, file, link}
use Rattle.pn_lock.specs.Locks.{Locked}
use Rattle.pn_lock_read.specs.LockTexts.{Spells}
use Rattle.pn_lockfile.specs.Contents.{bytes_at}
use Rattle.pn_lockfile.specs.Reads.{IsLockfile}
use Rattle.pn_lockfile.specs.declared.fault.LockWhy.TheVariants as why
use Rattle.pn_lockfile.specs.declared.limits.TheConstants.{LOCKFILE_LIMIT}
use Rattle.pn_lockfile.specs.declared.reading.Found.{Found}
use Rattle.pn_lockfile.proofs.AnswerLemmas.{right_is}

-- no bytes spell no lock
spells_none : (l : Locked) → Spells [] l → ⊥
unfolding is_utf8 chars
spells_none l s =
    let bad : Some (why.Version []) ≡ None = right_is [] l s in
    cc bad

empty_none : (f : Found) (bytes : List ℕ) → Some [] ≡ Some bytes → f.bytes.items ≡ bytes → Spells f.bytes.items f.lock → ⊥
empty_none f bytes is own s = spells_none f.lock (subst (λ b. Spells b f.lock) (own ∙ sym (same_some [] bytes is)) s)

-- what spells a lock is a file
found_at : (e : Option Entry) (f : Found) (bytes : List ℕ) → bytes_at e ≡ Some bytes → f.bytes.items ≡ bytes → length bytes ≤ LOCKFILE_LIMIT → Spells f.bytes.items f.lock → IsLockfile e f
found_at None f bytes is own short s = cc is
found_at (Some folder) f bytes is own short s = absurd (empty_none f bytes is own s)
found_at (Some (link text)) f bytes is own short s = absurd (empty_none f bytes is own s)
found_at (Some (file b)) f bytes is own short s = record { is = ap (λ x. Some (file x)) (same_some b bytes is ∙ sym own); short = subst (λ x. length x ≤ LOCKFILE_LIMIT) (sym own) short; spells = s }

pub found_in : (o : Option Tree) (p : Path) (f : Found) (read : Option (Vec ℕ Global)) (v : Vec ℕ Global) → IfSome o (λ t. bytes_at (t p) ≡ option_map (λ (w : Vec ℕ Global). w.items) read) → read ≡ Some v → f.bytes.items ≡ v.items → length v.items ≤ LOCKFILE_LIMIT
    → Spells f.bytes.items f.lock → IfSome o (λ t. IsLockfile (t p) f)
found_in None p f read v at is own short s = tt
found_in (Some t) p f read v at is own short s = found_at (t p) f v.items (at ∙ ap (option_map (λ (w : Vec ℕ Global). w.items)) is) own short s
