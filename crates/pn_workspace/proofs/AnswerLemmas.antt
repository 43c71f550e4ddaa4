-- A known tree gives one answer.
use Rattle.std.proofs.Common.{◌≡◌, ◌<◌, ℕ, List, [], refl, sym, ap, ◌∙◌, subst, arith, length, Option, Some, None, Ok}
use Rattle.pn_text.specs.declared.limits.TheConstants.{TEXT_LIMIT}
use Rattle.pn_text.specs.Path.{Path}
use Rattle.pn_fs.specs.Tree.{Entry, Tree}
use Rattle.pn_fs.proofs.SeenLemmas.{file_once}
use Rattle.pn_read.specs.Small.{IsFileOf}
use Rattle.pn_yaml.specs.Blocks.{says}
use Rattle.pn_yaml.specs.Data.{Data}
use Rattle.pn_config.specs.Files.{NamesBad, ReadsConfig}
use Rattle.pn_config.specs.declared.config.Config.{Config}
use Rattle.pn_config.proofs.AnswerProofs.{answer as config_answer}
use Rattle.pn_workspace.specs.declared.fault.WorkspaceFault.{WorkspaceFault}
use Rattle.pn_workspace.specs.declared.fault.WorkspaceFault.TheVariants as fault
use Rattle.pn_workspace.specs.declared.fault.WorkspaceWhy.{WorkspaceWhy}
use Rattle.pn_workspace.specs.declared.fault.WorkspaceWhy.TheVariants as why
use Rattle.pn_workspace.specs.declared.search.Workspace.{Workspace}
use Rattle.pn_workspace.specs.Contents.{Holds, IsText, IsWrong, Says, WrongBytes}
use Rattle.pn_workspace.specs.Laws.{AnswerLaw, IsOwn}
use Rattle.pn_workspace.specs.Roots.{root_of, settings_path}
use Rattle.pn_workspace.specs.Workspaces.{IsWorkspace, NoWorkspace}

one_ok : (b c : List ℕ) (d f : Data) → b ≡ c → says b ≡ Ok d → says c ≡ Ok f → d ≡ f
one_ok b c d f e h k = cc (h, k, e)

holds_one : (e : Option Entry) (a b : Option Data) → Holds e a → Holds e b → a ≡ b
holds_one e None None h k = refl
holds_one e None (Some d) h k = absurd (h k.0 k.1.is)
holds_one e (Some d) None h k = absurd (k h.0 h.1.is)
holds_one e (Some d) (Some f) h k = ap Some (one_ok h.0 k.0 d f (file_once e h.0 k.0 h.1.is k.1.is) h.2 k.2)

says_one : (e : Option Entry) (c d : Config) → Says e c → Says e d → c ≡ d
says_one e c d h k = config_answer.value h.value [] c d h.reads (subst (λ o. ReadsConfig o [] d) (sym (holds_one e h.value k.value h.holds k.holds)) k.reads)

-- bytes are wrong for one reason
why_one : (b c : List ℕ) (u v : WorkspaceWhy) → b ≡ c → WrongBytes b u → WrongBytes c v → u ≡ v
why_one b c why.NotUtf8 why.NotUtf8 e h k = refl
why_one b c why.NotUtf8 why.TooDeep e h k = absurd (cc (e, h, k))
why_one b c why.NotUtf8 (why.Line m x) e h k = absurd (cc (e, h, k))
why_one b c why.NotUtf8 (why.BadKey l) e h k = absurd (cc (e, h, k.1))
why_one b c why.TooDeep why.NotUtf8 e h k = absurd (cc (e, h, k))
why_one b c why.TooDeep why.TooDeep e h k = refl
why_one b c why.TooDeep (why.Line m x) e h k = absurd (cc (e, h, k))
why_one b c why.TooDeep (why.BadKey l) e h k = absurd (cc (e, h, k.1))
why_one b c (why.Line n w) why.NotUtf8 e h k = absurd (cc (e, h, k))
why_one b c (why.Line n w) why.TooDeep e h k = absurd (cc (e, h, k))
why_one b c (why.Line n w) (why.Line m x) e h k = cc (e, h, k)
why_one b c (why.Line n w) (why.BadKey l) e h k = absurd (cc (e, h, k.1))
why_one b c (why.BadKey j) why.NotUtf8 e h k = absurd (cc (e, h.1, k))
why_one b c (why.BadKey j) why.TooDeep e h k = absurd (cc (e, h.1, k))
why_one b c (why.BadKey j) (why.Line m x) e h k = absurd (cc (e, h.1, k))
why_one b c (why.BadKey j) (why.BadKey l) e h k = ap why.BadKey (config_answer.named (Some h.0) j l h.2 (subst (λ d. NamesBad (Some d) l) (sym (one_ok b c h.0 k.0 e h.1 k.1)) k.2))

wrong_one : (e : Option Entry) (u v : WorkspaceWhy) → IsWrong e u → IsWrong e v → u ≡ v
wrong_one e u v h k = why_one h.0 k.0 u v (file_once e h.0 k.0 h.1.is k.1.is) h.2 k.2

-- a file past the limit is read as nothing
pub too_large : (e : Option Entry) (n : ℕ) (bytes : List ℕ) → TEXT_LIMIT < n → IsFileOf n e → IsText e bytes → ⊥
too_large e n bytes large h text = omega (arith, text.short, ap length (file_once e bytes h.0 text.is h.1), h.2, large)

-- what bytes say isn't wrong
right_bytes : (b c : List ℕ) (d : Data) (u : WorkspaceWhy) → b ≡ c → says b ≡ Ok d → ((k : List ℕ) → NamesBad (Some d) k → ⊥) → WrongBytes c u → ⊥
right_bytes b c d why.NotUtf8 e h good k = cc (e, h, k)
right_bytes b c d why.TooDeep e h good k = cc (e, h, k)
right_bytes b c d (why.Line n w) e h good k = cc (e, h, k)
right_bytes b c d (why.BadKey l) e h good k = good l (subst (λ f. NamesBad (Some f) l) (sym (one_ok b c d k.0 e h k.1)) k.2)

says_right : (e : Option Entry) (c : Config) (u : WorkspaceWhy) → Says e c → IsWrong e u → ⊥
says_right e c u h k = at h.value h.holds h.reads
  where
    at : (o : Option Data) → Holds e o → ReadsConfig o [] c → ⊥
    at None none reads = none k.0 k.1.is
    at (Some d) some reads = right_bytes some.0 k.0 d u (file_once e some.0 k.0 some.1.is k.1.is) some.2 (λ l bad. config_answer.either (Some d) [] c l reads bad) k.2

says_small : (e : Option Entry) (c : Config) (n : ℕ) → TEXT_LIMIT < n → Says e c → IsFileOf n e → ⊥
says_small e c n large h k = at h.value h.holds
  where
    at : (o : Option Data) → Holds e o → ⊥
    at None none = none k.0 k.1
    at (Some d) some = too_large e n some.0 large k some.1

fault_one : (t : Tree) (place : Path) (e f : WorkspaceFault) → IsOwn e → IsOwn f → NoWorkspace (Some t) place e → NoWorkspace (Some t) place f → e ≡ f
fault_one t place (fault.Long n) (fault.Long m) o u h k = ap fault.Long (h.0 ∙ sym k.0)
fault_one t place (fault.Long n) (fault.TooLarge m) o u h k = absurd (omega (arith, h.0, h.1, k.0))
fault_one t place (fault.Long n) (fault.Wrong q w) o u h k = absurd (omega (arith, h.0, h.1, k.0))
fault_one t place (fault.TooLarge n) (fault.Long m) o u h k = absurd (omega (arith, k.0, k.1, h.0))
fault_one t place (fault.TooLarge n) (fault.TooLarge m) o u h k =
    ap fault.TooLarge (h.2.2 ∙ ap length (file_once (t (settings_path (root_of t place))) h.2.0 k.2.0 h.2.1 k.2.1) ∙ sym k.2.2)
fault_one t place (fault.TooLarge n) (fault.Wrong q w) o u h k = absurd (too_large (t (settings_path (root_of t place))) n k.1.1.0 h.1 h.2 k.1.1.1)
fault_one t place (fault.Wrong p v) (fault.Long m) o u h k = absurd (omega (arith, k.0, k.1, h.0))
fault_one t place (fault.Wrong p v) (fault.TooLarge m) o u h k = absurd (too_large (t (settings_path (root_of t place))) m h.1.1.0 k.1 k.2 h.1.1.1)
fault_one t place (fault.Wrong p v) (fault.Wrong q w) o u h k =
    let path : p ≡ q = h.1.0 ∙ sym k.1.0 in
    let reason : v ≡ w = wrong_one (t (settings_path (root_of t place))) v w h.1.1 k.1.1 in
    λ i. fault.Wrong (path i) (reason i)
fault_one t place fault.Fault f o u h k = absurd o
fault_one t place fault.Memory f o u h k = absurd o
fault_one t place e fault.Fault o u h k = absurd u
fault_one t place e fault.Memory o u h k = absurd u

either : (t : Tree) (place : Path) (w : Workspace) (e : WorkspaceFault) → IsOwn e → IsWorkspace t place w → NoWorkspace (Some t) place e → ⊥
either t place w (fault.Long n) o h k = omega (arith, h.fits, k.0, k.1)
either t place w (fault.TooLarge n) o h k = says_small (t (settings_path (root_of t place))) w.config n k.1 h.says k.2
either t place w (fault.Wrong p v) o h k = says_right (t (settings_path (root_of t place))) w.config v h.says k.1.1
either t place w fault.Fault o h k = absurd o
either t place w fault.Memory o h k = absurd o

pub answer : AnswerLaw
answer = record {
  value = λ t place w v h k.
      let root : w.root ≡ v.root = h.root ∙ sym k.root in
      let config : w.config ≡ v.config = says_one (t (settings_path (root_of t place))) w.config v.config h.says k.says in
      λ i. record { root = root i; config = config i };
  refusal = fault_one;
  either = either;
}
