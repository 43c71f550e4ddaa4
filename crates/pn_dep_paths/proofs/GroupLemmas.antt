-- The groups of an instance, as they are made.
use Rattle.std.proofs.Common.{◌≡◌, ◌<◌, ℕ, List, [], Bool, true, false, cond, length, get_or, map, refl, sym, ap, ◌∙◌, subst}
use Rattle.std.specs.Prelude.{◌==◌, Result, Ok, Err, IfOk}
use Rattle.std.specs.List.{Contains}
use Rattle.std.proofs.lemmas.Option.{slice_get-get_or}
use Rattle.std.proofs.lemmas.Bool.{eqb-true, ne_eqb}
use Rattle.std.proofs.Common.{eq-eqb}
use Rattle.pn_text.specs.declared.index.InstIx.{InstIx}
use Rattle.pn_text.proofs.Members.{from_map, to_map}
use Rattle.pn_outer.specs.declared.instance.Goal.{Goal}
use Rattle.pn_outer.specs.declared.instance.Goal.TheVariants.{Project as to_project, Inst as to_instance}
use Rattle.pn_outer.specs.declared.instance.Instance.{Instance}
use Rattle.pn_outer.specs.declared.instance.Link.{Link}
use Rattle.pn_outer.specs.Outer.{AreOuter, IsOuter}
use Rattle.pn_dep_paths.specs.BaseTexts.{AreGroups, AreRising, Holds, apart, id_at, id_of, in_parentheses, project, text_at, together}
use Rattle.pn_dep_paths.specs.Relation.{AreRanks, LeadsOut}
use Rattle.pn_dep_paths.specs.Steps.{group_at, group_or_none, held}

module _ (folders : List (List ℕ)) (instances : List Instance) (numbers : List ℕ) (texts : List (List ℕ)) (i : ℕ) (ranks : AreRanks instances numbers) where
  leads : (pair : Link) (j : InstIx) → IsOuter instances pair i → pair.to ≡ to_instance j → LeadsOut instances i j.0
  leads pair j o e = record { pair = pair; outer = o; to = e }

  of_instance : (pair : Link) (j : InstIx) → IsOuter instances pair i → pair.to ≡ to_instance j → (b : Bool) → (get_or numbers j.0 0 == get_or numbers i 0) ≡ b
      → Holds folders instances texts i pair (cond b (id_at instances j.0) (text_at texts j.0))
  of_instance pair j o e true is = together j e (ranks.same i j.0 (leads pair j o e) (eqb-true (get_or numbers j.0 0) (get_or numbers i 0) is)) refl
  of_instance pair j o e false is = apart j e (λ t. let same = eq-eqb (get_or numbers j.0 0) (get_or numbers i 0) (ranks.one i j.0 (leads pair j o e) t) in cc (same, is)) refl

  holds_of : (pair : Link) (g : Goal) → IsOuter instances pair i → pair.to ≡ g → Holds folders instances texts i pair (held folders instances numbers texts i pair.name g)
  holds_of pair (to_project q) o e = project q e refl
  holds_of pair (to_instance j) o e = of_instance pair j o e (get_or numbers j.0 0 == get_or numbers i 0) refl

  is_held : (pair : Link) (text : List ℕ) → IsOuter instances pair i → Holds folders instances texts i pair text → text ≡ held folders instances numbers texts i pair.name pair.to
  is_held pair text o (project q e is) = is ∙ sym (ap (held folders instances numbers texts i pair.name) e)
  is_held pair text o (together j e t is) =
      is ∙ ap (λ (b : Bool). cond b (id_at instances j.0) (text_at texts j.0)) (sym (eq-eqb (get_or numbers j.0 0) (get_or numbers i 0) (ranks.one i j.0 (leads pair j o e) t)))
      ∙ sym (ap (held folders instances numbers texts i pair.name) e)
  is_held pair text o (apart j e n is) =
      is ∙ ap (λ (b : Bool). cond b (id_at instances j.0) (text_at texts j.0))
      (sym (ne_eqb (get_or numbers j.0 0) (get_or numbers i 0) (λ s. n (ranks.same i j.0 (leads pair j o e) s))))
      ∙ sym (ap (held folders instances numbers texts i pair.name) e)

  pub are_groups : (pairs : List Link) (rows : List (List ℕ)) (found groups : List (List ℕ)) → AreOuter instances pairs rows
      → found ≡ map (group_at folders instances numbers texts pairs i) (get_or rows i []) → AreRising groups
      → ((g : List ℕ) → Contains groups g → Contains found g) → ((g : List ℕ) → Contains found g → Contains groups g) → AreGroups folders instances texts i groups
  are_groups pairs rows found groups outer is rising right all = record {
    rising = rising;
    right = λ g c.
        let row = get_or rows i [] in
        let f = from_map (group_at folders instances numbers texts pairs i) row g (subst (λ (l : List (List ℕ)). Contains l g) is (right g c)) in
        let named = outer.right i f.0 f.1 in
        record {
          pair = named.pair;
          outer = named.outer;
          text = held folders instances numbers texts i named.pair.name named.pair.to;
          holds = holds_of named.pair named.pair.to named.outer refl;
          is = sym f.2 ∙ ap (group_or_none folders instances numbers texts i) named.at;
        };
    all = λ g h.
        let row = get_or rows i [] in
        let n = outer.all i h.pair h.outer in
        let same : group_at folders instances numbers texts pairs i n.number ≡ g =
        ap (group_or_none folders instances numbers texts i) n.at ∙ sym (ap in_parentheses (is_held h.pair h.text h.outer h.holds)) ∙ sym h.is in
        all g (subst (λ (l : List (List ℕ)). Contains l g) (sym is) (subst (Contains (map (group_at folders instances numbers texts pairs i) row)) same
        (to_map (group_at folders instances numbers texts pairs i) row n.number n.has)));
  }

pub same_number : (folders : List (List ℕ)) (instances : List Instance) (numbers : List ℕ) (texts : List (List ℕ)) (i : ℕ) (pair : Link) (j : InstIx) (at : Instance) (text : List ℕ) → pair.to ≡ to_instance j
    → get_or numbers j.0 0 ≡ get_or numbers i 0 → text ≡ (get_or instances j.0 at).id → j.0 < length instances → text ≡ held folders instances numbers texts i pair.name pair.to
same_number folders instances numbers texts i pair j at text e same id lt =
    id ∙ sym (ap id_of (slice_get-get_or instances j.0 at lt))
    ∙ ap (λ (b : Bool). cond b (id_at instances j.0) (text_at texts j.0)) (sym (eq-eqb (get_or numbers j.0 0) (get_or numbers i 0) same))
    ∙ sym (ap (held folders instances numbers texts i pair.name) e)

-- what three facts of a value give
pub in_three : {T E : Type 0} (r : Result T E) (P Q R S : T → Type 0) → IfOk r P → IfOk r Q → IfOk r R → ((v : T) → P v → Q v → R v → S v) → IfOk r S
in_three (Ok v) P Q R S p q s f = f v p q s
in_three (Err e) P Q R S p q s f = tt
