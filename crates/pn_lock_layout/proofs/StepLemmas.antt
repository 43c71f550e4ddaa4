-- Steps of loops over lists of a lock.
use Rattle.std.proofs.Common.{◌≡◌, ◌<◌, ◌+◌, ℕ, List, [], ◌∷◌, ◌++◌, length, get_or, map, take, sym, ap, ◌∙◌, arith, append_assoc}
use Rattle.std.specs.List.{flat_map}
use Rattle.std.proofs.lemmas.List.{get_or-map, length-map, map-append, take_more}
use Rattle.pn_text.specs.Path.{Path}
use Rattle.pn_lock.specs.declared.lists.LockImporter.{LockImporter}
use Rattle.pn_lock.specs.declared.lists.LockSnapshot.{LockSnapshot}
use Rattle.pn_lock.specs.Locks.{folders_of, paths_of}
use Rattle.pn_tree.proofs.DrawLemmas.{flat_more}

one_more : {X : Type 0} (xs : List X) (i : ℕ) (x : X) → i < length xs → x ≡ get_or xs i x → take (i + 1) xs ≡ take i xs ++ x ∷ []
one_more xs i x within is = take_more xs i x within ∙ ap (λ z. take i xs ++ z ∷ []) (sym is)

-- one more is taken over
pub taken : {X Y : Type 0} (g : X → Y) (xs : List X) (i : ℕ) (x : X) (y : Y) (front done new : List Y) → i < length xs → x ≡ get_or xs i x → y ≡ g x → new ≡ done ++ y ∷ [] → done ≡ front ++ map g (take i xs)
    → new ≡ front ++ map g (take (i + 1) xs)
taken g xs i x y front done new within is same made before =
    made ∙ ap (λ l. l ++ y ∷ []) before ∙ append_assoc front (map g (take i xs)) (y ∷ []) ∙ ap (λ z. front ++ (map g (take i xs) ++ z ∷ [])) same
    ∙ ap (λ l. front ++ l) (sym (ap (map g) (one_more xs i x within is) ∙ map-append g (take i xs) (x ∷ [])))

pub taken_by : {X Y Z : Type 0} (f : Y → Z) (g : X → Y) (xs : List X) (i : ℕ) (x : X) (z : Z) (done new : List Z) → i < length xs → x ≡ get_or xs i x → z ≡ f (g x) → new ≡ done ++ z ∷ [] → done ≡ map f (map g (take i xs))
    → new ≡ map f (map g (take (i + 1) xs))
taken_by f g xs i x z done new within is same made before =
    made ∙ ap (λ l. l ++ z ∷ []) before ∙ ap (λ w. map f (map g (take i xs)) ++ w ∷ []) same
    ∙ sym (ap (λ l. map f (map g l)) (one_more xs i x within is) ∙ ap (map f) (map-append g (take i xs) (x ∷ [])) ∙ map-append f (map g (take i xs)) (g x ∷ []))

pub taken_flat : {X Y : Type 0} (g : X → List Y) (xs : List X) (i : ℕ) (x : X) (front done new more : List Y) → i < length xs → x ≡ get_or xs i x → more ≡ g x → new ≡ done ++ more → done ≡ front ++ flat_map g (take i xs)
    → new ≡ front ++ flat_map g (take (i + 1) xs)
taken_flat g xs i x front done new more within is same made before =
    made ∙ ap (λ l. l ++ more) before ∙ append_assoc front (flat_map g (take i xs)) more ∙ ap (λ z. front ++ (flat_map g (take i xs) ++ z)) same
    ∙ ap (λ l. front ++ l) (sym (ap (flat_map g) (one_more xs i x within is) ∙ flat_more g (take i xs) x))

-- what was made of a list, at a place of it
pub made_at : {X Y Z : Type 0} (f : Y → Z) (g : X → Y) (xs : List X) (n : ℕ) (x : X) (made : List Z) (z : Z) → made ≡ map f (map g xs) → n < length xs → x ≡ get_or xs n x → z ≡ get_or made n z → z ≡ f (g x)
made_at f g xs n x made z e within is at =
    at ∙ ap (λ l. get_or l n z) e ∙ get_or-map f (map g xs) n (g x) z (omega (arith, within, length-map xs g)) ∙ ap f (get_or-map g xs n x (g x) within ∙ ap g (sym is))

-- the name of the folder of a snapshot at a place
pub dir_here : (f : List ℕ → List ℕ) (snapshots ss : List LockSnapshot) (dirs : List (List ℕ)) (n : ℕ) (s : LockSnapshot) (dir : List ℕ) → ss ≡ snapshots → dirs ≡ map f (paths_of snapshots) → n < length ss → s ≡ get_or ss n s → dir ≡ get_or dirs n dir → dir ≡ f s.path
dir_here f snapshots ss dirs n s dir same e within is at = made_at f (λ (t : LockSnapshot). t.path) ss n s dirs dir (e ∙ ap (λ (x : List LockSnapshot). map f (paths_of x)) (sym same)) within is at

pub folder_here : (f : List ℕ → Path) (importers : List LockImporter) (made : List Path) (n : ℕ) (i : LockImporter) (p : Path) → made ≡ map f (folders_of importers) → n < length importers → i ≡ get_or importers n i → p ≡ get_or made n p → p ≡ f i.folder
folder_here f importers made n i p e within is at = made_at f (λ (j : LockImporter). j.folder) importers n i made p e within is at
