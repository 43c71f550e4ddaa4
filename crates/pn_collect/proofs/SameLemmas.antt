-- The packages of an install are one list.
use Rattle.std.proofs.Common.{◌≡◌, List, [], ◌∷◌, ◌++◌, map, refl, sym, ap, ◌∙◌, subst, nat_cmp, IsPermutation}
use Rattle.std.specs.Cmp.Lexicographic.{slice_cmp}
use Rattle.std.specs.List.{Contains}
use Rattle.std.specs.List.Sorted.{IsStrictlySortedBy}
use Rattle.std.proofs.lemmas.List.Sorted.{Contains-permutation, IsPermutation-sym, IsPermutation-trans}
use Rattle.pn_text.specs.Path.{Path, text_below}
use Rattle.pn_text.proofs.Members.{here, there}
use Rattle.pn_fs.specs.Tree.{Tree, IsFile}
use Rattle.pn_package.specs.declared.packages.Package.{Package}
use Rattle.pn_package.specs.Sound.{Contents, contents}
use Rattle.pn_collect.specs.Laws.{SameLaw}
use Rattle.pn_collect.specs.Outline.{Outline, outline, wanted, AreFilesBelow, AreRising}
use Rattle.pn_collect.proofs.SortedTexts.{one_list}
use Rattle.pn_collect.proofs.Whole.{out_id, ids_made}

-- a package's files are those below its folder, in order
record AreListed (t : Tree) (p : Package) : Type 0 where
  files : AreFilesBelow t p.folder p.files.items
  rising : AreRising p.files.items

same_files : (t : Tree) (p q : Package) → p.folder ≡ q.folder → AreListed t p → AreListed t q → p.files.items ≡ q.files.items
same_files t p q folder a b =
    one_list text_below p.files.items q.files.items a.rising b.rising
    (λ f c. b.files.all f (a.files.plain f c) (subst (λ (at : Path). IsFile t (f ++ at)) folder (a.files.stand f c)))
    (λ f c. a.files.all f (b.files.plain f c) (subst (λ (at : Path). IsFile t (f ++ at)) (sym folder) (b.files.stand f c)))

of_outline : Outline → List Path → Contents
of_outline o files = record { id = o.id; links = o.links; folder = o.folder; files = files }

same_one : (t : Tree) (p q : Package) → outline p ≡ outline q → AreListed t p → AreListed t q → contents p ≡ contents q
unfolding of_outline
same_one t p q e a b =
    let files = same_files t p q (ap (λ (o : Outline). o.folder) e) a b in
    λ i. of_outline (e i) (files i)

same_all : (t : Tree) (ps qs : List Package) → map outline ps ≡ map outline qs → ((p : Package) → Contains ps p → AreListed t p) → ((q : Package) → Contains qs q → AreListed t q) → map contents ps ≡ map contents qs
same_all t [] [] e a b = refl
same_all t [] (q ∷ qs) e a b = cc
same_all t (p ∷ ps) [] e a b = cc
same_all t (p ∷ ps) (q ∷ qs) e a b =
    let heads : outline p ≡ outline q = cc in
    let tails : map outline ps ≡ map outline qs = cc in
    ap (λ (c : Contents). c ∷ map contents ps) (same_one t p q heads (a p (here p ps)) (b q (here q qs)))
    ∙ ap (λ (l : List Contents). contents q ∷ l) (same_all t ps qs tails (λ p c. a p (there _ ps p c)) (λ q c. b q (there _ qs q c)))

pub same : SameLaw
same t plain packages others a b =
    let order : IsPermutation (map outline packages) (map outline others) =
    IsPermutation-trans (map outline packages) (map (wanted plain.packages) plain.packages) (map outline others) (IsPermutation-sym (map (wanted plain.packages) plain.packages) (map outline packages) a.exact) b.exact in
    let outlines : map outline packages ≡ map outline others =
    one_list out_id (map outline packages) (map outline others)
    (subst (IsStrictlySortedBy (slice_cmp nat_cmp)) (ids_made packages) a.sorted) (subst (IsStrictlySortedBy (slice_cmp nat_cmp)) (ids_made others) b.sorted)
    (λ o c. Contains-permutation (map outline packages) (map outline others) o order c)
    (λ o c. Contains-permutation (map outline others) (map outline packages) o (IsPermutation-sym (map outline packages) (map outline others) order) c) in
    same_all t packages others outlines (λ p c. record { files = a.files p c; rising = a.rising p c }) (λ q c. record { files = b.files q c; rising = b.rising q c })
