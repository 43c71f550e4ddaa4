-- Why packages are refused.
use Rattle.std.proofs.Common.{◌≡◌, Option, Some, None, IfSome, true, sym, subst, arith}
use Rattle.pn_text.specs.Path.{Path}
use Rattle.pn_text.specs.Name.{holds_modules}
use Rattle.pn_fs.specs.Seen.{Seen, Keeps}
use Rattle.pn_fs.specs.Tree.{Tree}
use Rattle.pn_registry.specs.FilesFaults.{FilesRefused, IsFirstModules}
use Rattle.pn_registry.specs.Places.{package_folder}
use Rattle.pn_registry.specs.declared.contents.FilesFault.TheVariants.{Modules as FileModules}
use Rattle.pn_package.specs.Links.{Id}
use Rattle.pn_collect.specs.CollectFaults.{NoFiles, CollectRefuses, NamesModules}
use Rattle.pn_collect.specs.declared.fault.CollectFault.{CollectFault}
use Rattle.pn_collect.specs.declared.fault.CollectFault.TheVariants.{Modules, TooLarge, Entries, Fault, Memory}

pub if_all : {T : Type 0} (P Q : T → Type 0) (o : Option T) → ((t : T) → P t → Q t) → IfSome o P → IfSome o Q
if_all P Q None f h = tt
if_all P Q (Some t) f h = f t h

-- facts of one tree, told at two states
pub if_both : {T : Type 0} (P Q S : T → Type 0) (o o' : Option T) → o' ≡ o → ((t : T) → P t → Q t → S t) → IfSome o P → IfSome o' Q → IfSome o S
if_both P Q S None o' e f h k = tt
if_both {T} P Q S (Some t) o' e f h k = let here : Q t = subst (λ (r : Option T). IfSome r Q) e k in f t h here

-- the file with a part `node_modules`
pub named : (id : Id) (old new : Seen) (q : Path) (fault : CollectFault) → FilesRefused (package_folder id) old new (FileModules q) → NamesModules id q fault → CollectRefuses (λ r. NoFiles r id) old new fault
named id old new q (Modules i path) h k =
    (k.0, subst (λ (p : Path). holds_modules p ≡ true) (sym k.1) h.0, subst (λ (p : Path). IfSome old.tree (λ t. IsFirstModules t (package_folder id) p)) (sym k.1) h.1)
named id old new q (TooLarge n) h k = absurd k
named id old new q Entries h k = absurd k
named id old new q Fault h k = absurd k
named id old new q Memory h k = tt

pub refuses_from : (C : Option Tree → CollectFault → Type 0) (old mid new : Seen) (fault : CollectFault) → Keeps old mid → CollectRefuses C mid new fault → CollectRefuses C old new fault
refuses_from C old mid new (Modules i path) k h = subst (λ (r : Option Tree). C r (Modules i path)) k.tree h
refuses_from C old mid new (TooLarge n) k h = subst (λ (r : Option Tree). C r (TooLarge n)) k.tree h
refuses_from C old mid new Entries k h = subst (λ (r : Option Tree). C r Entries) k.tree h
refuses_from C old mid new Fault k h = omega (arith, k.later, h)
refuses_from C old mid new Memory k h = tt

pub refuses_by : (C D : Option Tree → CollectFault → Type 0) (old new : Seen) (fault : CollectFault) → (C old.tree fault → D old.tree fault) → CollectRefuses C old new fault → CollectRefuses D old new fault
refuses_by C D old new (Modules i path) f h = f h
refuses_by C D old new (TooLarge n) f h = f h
refuses_by C D old new Entries f h = f h
refuses_by C D old new Fault f h = h
refuses_by C D old new Memory f h = tt
