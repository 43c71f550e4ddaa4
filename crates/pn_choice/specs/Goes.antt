-- Calls that only read, one after the other.
use Rattle.std.proofs.Common.{◌≡◌, ℕ, Bool, true, false, List, [], ◌∷◌, ◌++◌, refl, sym, ap, ◌∙◌, subst, inl, inr}
use Rattle.std.specs.List.{Contains}
use Rattle.std.proofs.lemmas.List.Elements.{Contains-append_left, Contains-append_right, Contains-append_cases}
use Rattle.pn_text.proofs.Bools.{true_false}
use Rattle.pn_text.proofs.Members.{none_in}
use Rattle.pn_fs.specs.Seen.{Seen}
use Rattle.pn_fs.proofs.SeenLemmas.{keeps_on, keeps_same, rose_from}
use Rattle.pn_walk.specs.Graphs.{IsDistinct}
use Rattle.pn_walk.specs.Wants.{Id}
use Rattle.pn_walk.specs.declared.wish.Wish.{Wish}
use Rattle.pn_walk.proofs.ReadsLemmas.{distinct_on}
use Rattle.pn_choice.specs.Calls.{Ask, manifest, listing, Asks, packages_of, names_of, IsSought, ReadsThese, Learns}
use Rattle.pn_choice.specs.Ways.{Goes, Broke}
use Rattle.pn_choice.specs.declared.way.WayFault.{WayFault}
use Rattle.pn_choice.specs.declared.way.WayFault.TheVariants.{Unsupported, Unbuilt, NoVersion, Registry, Fault, Memory}

pub rests : (s : Seen) (held : List Id) → Goes s s held held
rests s held = record { kept = keeps_same s; held_is = refl }

pub goes_on : (a b c : Seen) (x y z : List Id) → Goes a b x y → Goes b c y z → Goes a c x z
goes_on a b c x y z h k = record { kept = keeps_on a b c h.kept k.kept; held_is = k.held_is ∙ h.held_is }

pub broke_later : (a b c : Seen) (x y : List Id) (f : WayFault) → Goes a b x y → Broke b c f → Broke a c f
broke_later a b c x y Unsupported h k = tt
broke_later a b c x y Unbuilt h k = tt
broke_later a b c x y NoVersion h k = tt
broke_later a b c x y (Registry lack) h k = tt
broke_later a b c x y Fault h k = rose_from a.faults b.faults c.faults h.kept.later k
broke_later a b c x y Memory h k = tt

asks_on : (xs ys : List Ask) (a b c : Seen) → Asks xs a b → Asks ys b c → Asks (xs ++ ys) a c
asks_on [] ys a b c h k = subst (λ (s : Seen). Asks ys s c) h k
asks_on (x ∷ xs) ys a b c h k = (h.0, h.1, h.2, asks_on xs ys h.0 b c h.3 k)

packages_on : (xs ys : List Ask) → packages_of (xs ++ ys) ≡ packages_of xs ++ packages_of ys
packages_on [] ys = refl
packages_on (manifest i ∷ xs) ys = ap (λ (l : List Id). i ∷ l) (packages_on xs ys)
packages_on (listing n ∷ xs) ys = packages_on xs ys

names_on : (xs ys : List Ask) → names_of (xs ++ ys) ≡ names_of xs ++ names_of ys
names_on [] ys = refl
names_on (manifest i ∷ xs) ys = names_on xs ys
names_on (listing n ∷ xs) ys = ap (λ (l : List (List ℕ)). n ∷ l) (names_on xs ys)

never_before : (b c : Bool) → (b ≡ true → c ≡ true) → c ≡ false → b ≡ false
never_before true c still is = absurd (true_false c (still refl) is)
never_before false c still is = refl

sought_left : (ws vs : List Wish) (n : List ℕ) → IsSought (Contains ws) n → IsSought (Contains (ws ++ vs)) n
sought_left ws vs n h = record { wish = h.wish; one = Contains-append_left ws vs h.wish h.one; unchosen = h.unchosen; want = h.want; reads = h.reads }

sought_right : (ws vs : List Wish) (n : List ℕ) → IsSought (Contains vs) n → IsSought (Contains (ws ++ vs)) n
sought_right ws vs n h = record { wish = h.wish; one = Contains-append_right ws vs h.wish h.one; unchosen = h.unchosen; want = h.want; reads = h.reads }

pub reads_on : (f g h : List ℕ → Bool) (a b c : Seen) (ws vs : List Wish) (is js : List Id) → Learns f g a (IsSought (Contains ws)) is b → ReadsThese g h b (IsSought (Contains vs)) js c → ReadsThese f h a (IsSought (Contains (ws ++ vs))) (is ++ js) c
reads_on f g h a b c ws vs is js l k =
    let r = l.reads in
    record {
      asks = r.asks ++ k.asks;
      made = asks_on r.asks k.asks a b c r.made k.made;
      packages = packages_on r.asks k.asks ∙ ap (λ (x : List Id). x ++ packages_of k.asks) r.packages ∙ ap (λ (x : List Id). is ++ x) k.packages;
      once = subst IsDistinct (sym (names_on r.asks k.asks)) (distinct_on (names_of r.asks) (names_of k.asks) r.once k.once (λ n i j. true_false (g n) (l.learnt n i) (k.unknown n j)));
      asked = λ n i. elim (Contains-append_cases (names_of r.asks) (names_of k.asks) n (subst (λ (x : List (List ℕ)). Contains x n) (names_on r.asks k.asks) i)) [
        | inl j ↦ sought_left ws vs n (r.asked n j)
        | inr j ↦ sought_right ws vs n (k.asked n j)
      ];
      unknown = λ n i. elim (Contains-append_cases (names_of r.asks) (names_of k.asks) n (subst (λ (x : List (List ℕ)). Contains x n) (names_on r.asks k.asks) i)) [
        | inl j ↦ r.unknown n j
        | inr j ↦ never_before (f n) (g n) (r.still n) (k.unknown n j)
      ];
      still = λ n i. k.still n (r.still n i);
    }

pub learns_on : (f g h : List ℕ → Bool) (a b c : Seen) (ws vs : List Wish) (is js : List Id) → Learns f g a (IsSought (Contains ws)) is b → Learns g h b (IsSought (Contains vs)) js c → Learns f h a (IsSought (Contains (ws ++ vs))) (is ++ js) c
unfolding reads_on
learns_on f g h a b c ws vs is js l k = record {
  reads = reads_on f g h a b c ws vs is js l k.reads;
  learnt = λ n i. elim (Contains-append_cases (names_of l.reads.asks) (names_of k.reads.asks) n (subst (λ (x : List (List ℕ)). Contains x n) (names_on l.reads.asks k.reads.asks) i)) [
    | inl j ↦ k.reads.still n (l.learnt n j)
    | inr j ↦ k.learnt n j
  ];
}

pub learns_nothing : (Sought : List ℕ → Type 0) (f : List ℕ → Bool) (a : Seen) → Learns f f a Sought [] a
learns_nothing Sought f a = record {
  reads = record { asks = []; made = refl; packages = refl; once = tt; asked = λ n i. absurd (none_in n i); unknown = λ n i. absurd (none_in n i); still = λ n i. i };
  learnt = λ n i. absurd (none_in n i);
}
