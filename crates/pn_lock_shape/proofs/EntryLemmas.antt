-- The entries of a map that are read one after the other.
use Rattle.std.proofs.Common.{◌≡◌, ℕ, ◌+◌, ◌<◌, List, [], ◌∷◌, ◌++◌, length, get_or, drop, refl, sym, ap, ◌∙◌, append_assoc}
use Rattle.std.specs.Prelude.{Ok, Err}
use Rattle.std.proofs.lemmas.List.{drop_more}
use Rattle.pn_yaml.specs.Data.{Data}
use Rattle.pn_yaml.specs.declared.node.Node.{Node}
use Rattle.pn_lock_shape.specs.Bare.{tree, tree_members}
use Rattle.pn_lock_shape.specs.Shapes.{Outcome, ◌>>=◌, at, and_then, each}

-- what was read before the rest
abbrev pub and_all : {A : Type 0} → List A → Outcome (List A) → Outcome (List A)
and_all xs (Ok ys) = Ok (xs ++ ys)
and_all xs (Err e) = Err e

onto_all : {A : Type 0} (all : List A) (x : A) (r : Outcome (List A)) → and_all all (and_then x r) ≡ and_all (all ++ x ∷ []) r
onto_all all x (Ok ys) = ap Ok (sym (append_assoc all (x ∷ []) ys))
onto_all all x (Err e) = refl

-- one entry more
pub entries_more : {A : Type 0} (read : List ℕ → Data → Outcome A) (entries : List (List ℕ × Node)) (i : ℕ) (m : List ℕ × Node) (x : A) (all new : List A) (whole : Outcome (List A))
    → i < length entries → m ≡ get_or entries i m → at m.0 (read m.0 (tree m.1)) ≡ Ok x → new ≡ all ++ x ∷ []
    → and_all all (each read (tree_members (drop i entries))) ≡ whole → and_all new (each read (tree_members (drop (i + 1) entries))) ≡ whole
entries_more read entries i m x all new whole lt is one more so_far =
    let here : drop i entries ≡ m ∷ drop (i + 1) entries = drop_more entries i m lt ∙ ap (λ y. y ∷ drop (i + 1) entries) (sym is) in
    let rest = each read (tree_members (drop (i + 1) entries)) in
    ap (λ xs. and_all xs rest) more ∙ sym (onto_all all x rest) ∙ ap (λ r. and_all all (r >>= λ y. and_then y rest)) (sym one)
    ∙ ap (λ es. and_all all (each read (tree_members es))) (sym here) ∙ so_far
