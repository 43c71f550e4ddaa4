-- Calls of a registry: one manifest or one listing, and the packages of a graph.
use Rattle.std.proofs.Common.{◌≡◌, ◌+◌, ℕ, Bool, true, false, List, [], ◌∷◌, ◌++◌, Option, None, map, refl, sym, ap, ◌∙◌, subst, append-nil}
use Rattle.std.specs.Prelude.{IfSome}
use Rattle.std.specs.List.{Contains}
use Rattle.pn_text.proofs.Members.{none_in, in_one, here}
use Rattle.pn_text.specs.Name.{name_path}
use Rattle.pn_text.specs.declared.limits.TheConstants.{TEXT_LIMIT}
use Rattle.pn_fs.specs.Seen.{Seen, Keeps, GaveAtMost}
use Rattle.pn_published.specs.Folders.{ListsOnce}
use Rattle.pn_graph.specs.declared.links.Package.{Package}
use Rattle.pn_shape.specs.Shapes.{ArePackagesFrom, all_met, next}
use Rattle.pn_spec.specs.declared.want.Want.{Want}
use Rattle.pn_walk.specs.Graphs.{id_of, IsWanted}
use Rattle.pn_walk.specs.Reads.{wish_of, HasRead, waits, ReadsOnce}
use Rattle.pn_walk.specs.Walks.{Turn, Link, State, start, ends, IsWalked}
use Rattle.pn_walk.specs.Wants.{Id}
use Rattle.pn_walk.specs.declared.wish.Wish.{Wish}
use Rattle.pn_walk.specs.declared.wish.Aim.{Aim}
use Rattle.pn_walk.specs.declared.node.Node.{Node}
use Rattle.pn_walk.proofs.ReadsLemmas.{walked_wanted}
use Rattle.pn_plain.specs.Readings.{of_package}
use Rattle.pn_choice.specs.Calls.{manifest, listing, IsSought, ReadsThese, Learns, ReadsEach, ReadsUntil}
use Rattle.pn_choice.specs.Goes.{learns_nothing}
use Rattle.pn_choice.specs.Ways.{ReadsAs}

reads_manifest : (Sought : List ℕ → Type 0) (f : List ℕ → Bool) (i : Id) (a b : Seen) → Keeps a b → IfSome a.tree (λ t. GaveAtMost a (TEXT_LIMIT + 1) 0 b) → ReadsThese f f a Sought (i ∷ []) b
reads_manifest Sought f i a b kept gave = record {
  asks = manifest i ∷ [];
  made = (b, kept, gave, refl);
  packages = refl;
  once = tt;
  asked = λ m c. absurd (none_in m c);
  unknown = λ m c. absurd (none_in m c);
  still = λ m c. c;
}

pub learns_manifest : (Sought : List ℕ → Type 0) (f : List ℕ → Bool) (i : Id) (a b : Seen) → Keeps a b → IfSome a.tree (λ t. GaveAtMost a (TEXT_LIMIT + 1) 0 b) → Learns f f a Sought (i ∷ []) b
unfolding reads_manifest
learns_manifest Sought f i a b kept gave = record { reads = reads_manifest Sought f i a b kept gave; learnt = λ m c. absurd (none_in m c) }

pub reads_listing : (f g : List ℕ → Bool) (n : List ℕ) (a b : Seen) → Keeps a b → IfSome a.tree (λ t. ListsOnce t (name_path n) (TEXT_LIMIT + 1) a b) → f n ≡ false → ((m : List ℕ) → f m ≡ true → g m ≡ true) → ReadsThese f g a (λ m. m ≡ n) [] b
reads_listing f g n a b kept gave fresh still = record {
  asks = listing n ∷ [];
  made = (b, kept, gave, refl);
  packages = refl;
  once = (none_in n, tt);
  asked = λ m c. sym (in_one n m c);
  unknown = λ m c. subst (λ (x : List ℕ). f x ≡ false) (in_one n m c) fresh;
  still = still;
}

pub learns_listing : (f g : List ℕ → Bool) (n : List ℕ) (a b : Seen) → Keeps a b → IfSome a.tree (λ t. ListsOnce t (name_path n) (TEXT_LIMIT + 1) a b) → f n ≡ false → ((m : List ℕ) → f m ≡ true → g m ≡ true) → g n ≡ true → Learns f g a (λ m. m ≡ n) [] b
unfolding reads_listing
learns_listing f g n a b kept gave fresh still known = record {
  reads = reads_listing f g n a b kept gave fresh still;
  learnt = λ m c. subst (λ (x : List ℕ). g x ≡ true) (in_one n m c) known;
}

-- the same, where what is sought is more
reads_more : (P Q : List ℕ → Type 0) (f g : List ℕ → Bool) (is : List Id) (a b : Seen) → ((n : List ℕ) → P n → Q n) → ReadsThese f g a P is b → ReadsThese f g a Q is b
reads_more P Q f g is a b on h = record { asks = h.asks; made = h.made; packages = h.packages; once = h.once; asked = λ n c. on n (h.asked n c); unknown = h.unknown; still = h.still }

learns_more : (P Q : List ℕ → Type 0) (f g : List ℕ → Bool) (is : List Id) (a b : Seen) → ((n : List ℕ) → P n → Q n) → Learns f g a P is b → Learns f g a Q is b
unfolding reads_more
learns_more P Q f g is a b on h = record { reads = reads_more P Q f g is a b on h.reads; learnt = h.learnt }

-- what a wish asks for is sought
sought_by : (w : Wish) (n : List ℕ) (v : Want) → w.chosen ≡ None → ReadsAs w (of_package n v) → (m : List ℕ) → m ≡ n → IsSought (Contains (w ∷ [])) m
sought_by w n v unchosen reads m is = record { wish = w; one = here w []; unchosen = unchosen; want = v; reads = subst (λ (x : List ℕ). ReadsAs w (of_package x v)) (sym is) reads }

pub learns_sought : (f g : List ℕ → Bool) (w : Wish) (n : List ℕ) (v : Want) (a b : Seen) → w.chosen ≡ None → ReadsAs w (of_package n v) → Learns f g a (λ m. m ≡ n) [] b → Learns f g a (IsSought (Contains (w ∷ []))) [] b
learns_sought f g w n v a b unchosen reads h = learns_more (λ m. m ≡ n) (IsSought (Contains (w ∷ []))) f g [] a b (sought_by w n v unchosen reads) h

pub reads_sought : (f g : List ℕ → Bool) (w : Wish) (n : List ℕ) (v : Want) (a b : Seen) → w.chosen ≡ None → ReadsAs w (of_package n v) → ReadsThese f g a (λ m. m ≡ n) [] b → ReadsThese f g a (IsSought (Contains (w ∷ []))) [] b
reads_sought f g w n v a b unchosen reads h = reads_more (λ m. m ≡ n) (IsSought (Contains (w ∷ []))) f g [] a b (sought_by w n v unchosen reads) h

-- of more wishes
sought_more : (These Those : Wish → Type 0) → ((w : Wish) → These w → Those w) → (n : List ℕ) → IsSought These n → IsSought Those n
sought_more These Those on n h = record { wish = h.wish; one = on h.wish h.one; unchosen = h.unchosen; want = h.want; reads = h.reads }

-- what holds of all such calls
pub read_as : (calls others : List Wish → List Id → Type 0) (s t : State) → ((ws : List Wish) (is : List Id) → calls ws is → others ws is) → HasRead calls s t → HasRead others s t
read_as calls others s t to h = record { taken = h.taken; takes = h.takes; added = h.added; grows = h.grows; read = to (map wish_of h.taken) (map id_of h.added) h.read; fresh = h.fresh }

-- the same, from the start of other edges
pub read_start : (calls others : List Wish → List Id → Type 0) (own : List Turn) (t : State) → ((ws : List Wish) (is : List Id) → calls ws is → others ws is) → HasRead calls (start []) t → HasRead others (start own) t
read_start calls others own t to h = record { taken = h.taken; takes = h.takes; added = h.added; grows = h.grows; read = to (map wish_of h.taken) (map id_of h.added) h.read; fresh = h.fresh }

-- The calls of a walk read each package once, and list names that its edges ask for.
pub each_read : (leads : Wish → Option Aim → Type 0) (node : Node → Type 0) (own : List Turn) (t : State) (calls : List Wish → List Id → Type 0) (f g : List ℕ → Bool) (a b : Seen) → ((ws : List Wish) (is : List Id) → calls ws is → Learns f g a (IsSought (Contains ws)) is b)
    → IsWalked leads node (start own) t → HasRead calls (start []) t → ReadsEach f g a (IsSought (IsWanted leads node own)) (map id_of t.met) b
each_read leads node own t calls f g a b to w h =
    let all : (v : Wish) → Contains (map wish_of h.taken) v → IsWanted leads node own v = λ v c. walked_wanted leads node own t w v (subst (λ (l : List Link). Contains (map wish_of l) v) (sym h.takes) c) in
    subst (λ (ns : List Node). ReadsEach f g a (IsSought (IsWanted leads node own)) (map id_of ns) b) (sym h.grows) (record {
      once = h.fresh.once;
      reads = learns_more (IsSought (Contains (map wish_of h.taken))) (IsSought (IsWanted leads node own)) f g (map id_of h.added) a b (sought_more (Contains (map wish_of h.taken)) (IsWanted leads node own) all) (to (map wish_of h.taken) (map id_of h.added) h.read);
    })

-- what all calls of a walk are, those of a walk that stops are too
pub once_as : (leads : Wish → Option Aim → Type 0) (node : Node → Type 0) (calls others : List Wish → List Id → Type 0) (s : State) → ((ws : List Wish) (is : List Id) → calls ws is → others ws is) → ReadsOnce leads node calls s → ReadsOnce leads node others s
once_as leads node calls others s to h = record {
  end = h.end;
  walk = h.walk;
  wishes = h.wishes;
  ids = h.ids;
  begun = h.begun;
  before = read_as (λ ws is. calls (ws ++ h.wishes) (is ++ h.ids)) (λ ws is. others (ws ++ h.wishes) (is ++ h.ids)) s h.end (λ ws is. to (ws ++ h.wishes) (is ++ h.ids)) h.before;
}

-- nothing is done of the next edge
pub until_all : (leads : Wish → Option Aim → Type 0) (node : Node → Type 0) (calls : List Wish → List Id → Type 0) (s t : State) → IsWalked leads node s t → HasRead calls s t → ReadsOnce leads node calls s
until_all leads node calls s t w h = record {
  end = t;
  walk = w.walk;
  wishes = [];
  ids = [];
  begun = waits;
  before = read_as calls (λ ws is. calls (ws ++ []) (is ++ [])) s t (λ ws is c. subst (λ (l : List Wish). calls l (is ++ [])) (sym (append-nil ws)) (subst (calls ws) (sym (append-nil is)) c)) h;
}

-- before any call
pub until_none : (leads : Wish → Option Aim → Type 0) (node : Node → Type 0) (own : List Turn) (f : List ℕ → Bool) (a : Seen) → ReadsUntil f f a leads node own a
until_none leads node own f a = record {
  end = start own;
  walk = ends (start own) refl;
  wishes = [];
  ids = [];
  begun = waits;
  before = record {
    taken = [];
    takes = refl;
    added = [];
    grows = refl;
    read = (learns_nothing (IsSought (Contains [])) f a).reads;
    fresh = record { once = tt; unmet = λ i c d. none_in i c };
  };
}

-- the packages of a graph are those that were met
pub ids_met : (links : List Link) (k : ℕ) (ns : List Node) (ps : List Package) → ArePackagesFrom links k ns ps → map (λ (q : Package). q.id) ps ≡ map id_of ns
ids_met links _ _ _ (all_met k) = refl
ids_met links _ _ _ (next k n ns p ps is more) = ap (λ (i : Id). i ∷ map (λ (q : Package). q.id) ps) is.id ∙ ap (λ (l : List Id). n.id ∷ l) (ids_met links _ ns ps more)
