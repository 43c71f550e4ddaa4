-- Lemmas on what calls made of a tree, where it was told.
use Rattle.std.proofs.Common.{◌≡◌, Some, None, refl, sym, ◌∙◌, subst}
use Rattle.std.specs.Prelude.{Option}
use Rattle.pn_fs.specs.Tree.{Tree}
use Rattle.pn_reconcile.specs.Plans.{Made, HalfMade}

pub made_at : (P : Tree → Tree → Type 0) (a b : Option Tree) (t : Tree) → Made P a b → a ≡ Some t → (u : Tree) × (b ≡ Some u) × P t u
made_at P a b t h told = subst (λ o. Made P o b) told h

pub made_none : (P : Tree → Tree → Type 0) (a : Option Tree) → ((t : Tree) → a ≡ Some t → P t t) → Made P a a
made_none P None f = refl
made_none P (Some t) f = (t, refl, f t refl)

pub made_both : (P Q R : Tree → Tree → Type 0) (a b c : Option Tree) → ((t u v : Tree) → a ≡ Some t → b ≡ Some u → P t u → Q u v → R t v) → Made P a b → Made Q b c → Made R a c
made_both P Q R None b c f h k = subst (λ o. Made Q o c) h k
made_both P Q R (Some t) b c f h k = let m = subst (λ o. Made Q o c) h.1 k in (m.0, m.1, f t h.0 m.0 refl h.1 h.2 m.2)

pub half_none : (P : Tree → Tree → Type 0) (a : Option Tree) → ((t : Tree) → a ≡ Some t → P t t) → HalfMade P a a
half_none P a f t told = (t, told, f t told)

pub half_of : (P Q : Tree → Tree → Type 0) (a b : Option Tree) → ((t u : Tree) → a ≡ Some t → P t u → Q t u) → Made P a b → HalfMade Q a b
half_of P Q a b f h t told = let m = made_at P a b t h told in (m.0, m.1, f t m.0 told m.2)

pub half_weaker : (P Q : Tree → Tree → Type 0) (a b : Option Tree) → ((t u : Tree) → a ≡ Some t → P t u → Q t u) → HalfMade P a b → HalfMade Q a b
half_weaker P Q a b f h t told = let m = h t told in (m.0, m.1, f t m.0 told m.2)

pub half_both : (P Q R : Tree → Tree → Type 0) (a b c : Option Tree) → ((t u v : Tree) → a ≡ Some t → b ≡ Some u → P t u → Q u v → R t v) → Made P a b → HalfMade Q b c → HalfMade R a c
half_both P Q R a b c f h k t told =
    let m = made_at P a b t h told in
    let n = k m.0 m.1 in
    (n.0, n.1, f t m.0 n.0 told m.1 m.2 n.2)

-- a tree that is told after calls was told before them
pub made_back : (P : Tree → Tree → Type 0) (a b : Option Tree) (u : Tree) → Made P a b → b ≡ Some u → (t : Tree) × (a ≡ Some t) × P t u
made_back P None b u h told = let clash : None ≡ Some u = sym h ∙ told in cc clash
made_back P (Some t) b u h told = let same : h.0 ≡ u = some_same (sym h.1 ∙ told) in (t, refl, subst (P t) same h.2) where
  some_same : {x y : Tree} → Some x ≡ Some y → x ≡ y
  some_same e = cc e
