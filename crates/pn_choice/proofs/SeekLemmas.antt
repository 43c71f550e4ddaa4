-- Where a wish leads by its specifier, and why it leads nowhere.
use Rattle.std.proofs.Common.{◌≡◌, ℕ, Bool, true, false, List, [], Option, Some, None, refl, sym, ap, ◌∙◌, subst}
use Rattle.std.specs.Prelude.{String, option_map}
use Rattle.std.specs.BTreeMap.{BTreeMap}
use Rattle.semver.specs.Parse.{Parts}
use Rattle.pn_fs.specs.Seen.{Seen}
use Rattle.pn_fs.specs.Tree.{Tree}
use Rattle.pn_spec.proofs.OneReading.{readings}
use Rattle.pn_spec.specs.declared.spec.Spec.{Spec}
use Rattle.pn_spec.specs.declared.want.Want.{Want}
use Rattle.pn_walk.specs.Wants.{Id}
use Rattle.pn_walk.specs.declared.wish.Aim.TheVariants.{Package as to_package}
use Rattle.pn_walk.specs.declared.wish.Wish.{Wish}
use Rattle.pn_published.specs.Shown.{shelf_of}
use Rattle.pn_published.specs.declared.published.Published.{Published}
use Rattle.pn_plain.specs.Aims.{Chooses, Found, LeadsBy as LeadsGiven, id_at}
use Rattle.pn_plain.specs.Causes.{no_version}
use Rattle.pn_plain.specs.Given.{held_of, version_of}
use Rattle.pn_plain.specs.Readings.{of_package, not_built, built, reading}
use Rattle.pn_choice.specs.Cached.{AsksOnce}
use Rattle.pn_choice.specs.Given.{given_of, held_by}
use Rattle.pn_choice.specs.Shows.{Publishes}
use Rattle.pn_choice.specs.Ways.{LeadsBy, ReadsAs, IsUnasked, IsLost, no_form, no_aim, Loses, IsUnlisted, IsVersionIn}
use Rattle.pn_choice.specs.declared.way.WayFault.{WayFault}
use Rattle.pn_choice.specs.declared.way.WayFault.TheVariants.{Unsupported, Unbuilt, NoVersion, Registry, Fault, Memory}

pub unasked_loses : (r : Option Tree) (held : List Id) (w : Wish) (f : WayFault) → w.chosen ≡ None → IsUnasked w f → Loses r held w f
unasked_loses r held w Unsupported h k = no_form h k refl
unasked_loses r held w Unbuilt h k = no_aim h not_built (k held) refl
unasked_loses r held w NoVersion h k = absurd k
unasked_loses r held w (Registry lack) h k = absurd k
unasked_loses r held w Fault h k = absurd k
unasked_loses r held w Memory h k = tt

pub unlisted_loses : (r : Option Tree) (held : List Id) (w : Wish) (n : List ℕ) (v : Want) (f : WayFault) → w.chosen ≡ None → ReadsAs w (of_package n v) → IsUnlisted r n f → Loses r held w f
unlisted_loses r held w n v Unsupported h k u = absurd u
unlisted_loses r held w n v Unbuilt h k u = absurd u
unlisted_loses r held w n v NoVersion h k u = absurd u
unlisted_loses r held w n v (Registry lack) h k u = no_aim h (of_package n v) (k held) u
unlisted_loses r held w n v Fault h k u = tt
unlisted_loses r held w n v Memory h k u = tt

found_some : (n : List ℕ) (o : Bool) (found : Option Parts) (i : Id) → Some i ≡ option_map (id_at n) found → Found n o found (Some (to_package i))
found_some n o None i e = cc
found_some n o (Some v) i e = let same : i ≡ id_at n v = cc in ap (λ (j : Id). Some (to_package j)) same

none_found : (n : List ℕ) (found : Option Parts) → None ≡ option_map (id_at n) found → found ≡ None
none_found n None e = refl
none_found n (Some v) e = cc

pub leads_to : (r : Option Tree) (held : List Id) (w : Wish) (n : List ℕ) (v : Want) (o : Option Id) (i : Id) → w.chosen ≡ None → ReadsAs w (of_package n v) → IsVersionIn r held n v o → o ≡ Some i → LeadsBy r held w (Some (to_package i))
leads_to r held w n v o i h k found is =
    subst (λ (c : Option Id). LeadsGiven (Publishes r) (given_of held) w c (Some (to_package i))) (sym h)
    (of_package n v, k held, (found.found, found.chooses, found_some n w.optional found.found i (sym is ∙ found.is)))

pub leads_nowhere : (r : Option Tree) (held : List Id) (w : Wish) (n : List ℕ) (v : Want) (o : Option Id) → w.chosen ≡ None → ReadsAs w (of_package n v) → IsVersionIn r held n v o → o ≡ None → w.optional ≡ true → LeadsBy r held w None
leads_nowhere r held w n v o h k found is may =
    subst (λ (c : Option Id). LeadsGiven (Publishes r) (given_of held) w c None) (sym h)
    (of_package n v, k held, (None, subst (λ (x : Option Parts). Chooses (Publishes r) (given_of held) n v x) (none_found n found.found (sym is ∙ found.is)) found.chooses, (may, refl)))

pub lost_version : (r : Option Tree) (held : List Id) (w : Wish) (n : List ℕ) (v : Want) (o : Option Id) → w.chosen ≡ None → ReadsAs w (of_package n v) → IsVersionIn r held n v o → o ≡ None → w.optional ≡ false → IsLost r held w no_version
lost_version r held w n v o h k found is never =
    no_aim h (of_package n v) (k held) (subst (λ (x : Option Parts). Chooses (Publishes r) (given_of held) n v x) (none_found n found.found (sym is ∙ found.is)) found.chooses, never)

pub version_in : (r : Option Tree) (held : List Id) (n : List ℕ) (v : Want) (p : Published) (id : Option Id) → Publishes r n (shelf_of p) → id ≡ option_map (id_at n) (version_of (shelf_of p) (held_of n (held_by held)) v) → IsVersionIn r held n v id
version_in r held n v p id shows is = record {
  found = version_of (shelf_of p) (held_of n (held_by held)) v;
  chooses = record { shelf = shelf_of p; shows = shows; is = refl };
  is = is;
}

-- A specifier asks for one name.
pub same_name : (w : Wish) (n m : List ℕ) (v u : Want) → ReadsAs w (of_package n v) → ReadsAs w (of_package m u) → n ≡ m
same_name w n m v u h k =
    let g = given_of [] in
    let a = h [] in
    let b = k [] in
    let same : of_package n v ≡ of_package m u = a.is ∙ ap (λ (x : Spec). built g.spaces (reading g.catalogs w.alias x)) (readings.one w.specifier a.spec b.spec a.says b.says) ∙ sym b.is in
    cc

pub asks_once : {A : Type 0} (w : Wish) (m : List ℕ) (u : Want) (shelves : BTreeMap (String A) Published) (old new : Seen) → ReadsAs w (of_package m u) → AsksOnce shelves m old new
    → (n : List ℕ) (v : Want) → ReadsAs w (of_package n v) → AsksOnce shelves n old new
asks_once w m u shelves old new reads once n v other = subst (λ (x : List ℕ). AsksOnce shelves x old new) (same_name w m n u v reads other) once
