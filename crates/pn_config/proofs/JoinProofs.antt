-- Texts under selectors in joined overrides.
use Rattle.std.proofs.Common.{◌≡◌, ℕ, List, [], ◌∷◌, Bool, true, false, Some, None, refl, sym, ap, ◌∙◌, subst, inl, inr}
use Rattle.std.specs.Prelude.{Option, if◌then◌else◌}
use Rattle.std.specs.BTreeMap.{insert_entry}
use Rattle.std.specs.Cmp.Lexicographic.{slice_cmp}
use Rattle.std.specs.Option.{option_or}
use Rattle.std.specs.Ordering.{nat_cmp, match_ordering}
use Rattle.std.specs.Str.{bytes_eq}
use Rattle.std.specs.declared.cmp.Ordering.{Ordering}
use Rattle.std.specs.declared.cmp.Ordering.TheVariants.{Less, Equal, Greater}
use Rattle.std.proofs.lemmas.Bool.{cases_Bool}
use Rattle.std.proofs.lemmas.Cmp.{nat_list_cmp_total, tied_itself}
use Rattle.std.proofs.lemmas.Map.Lookups.{exact_bytes}
use Rattle.std.proofs.lemmas.Slice.Eq.{bytes_eq-Decides}
use Rattle.pn_config.specs.Files.{put_pairs}
use Rattle.pn_config.specs.Laws.{JoinLaw, last_text, text_at}
use Rattle.pn_config.specs.Values.{Pair}

abbrev order : List ℕ → List ℕ → Ordering
order = slice_cmp nat_cmp

both_tied : (x y q : List ℕ) → bytes_eq x q ≡ true → bytes_eq y q ≡ true → order x y ≡ Equal
both_tied x y q h k = subst (λ z. order x z ≡ Equal) ((bytes_eq-Decides x q).0 h ∙ sym ((bytes_eq-Decides y q).0 k)) (tied_itself nat_list_cmp_total x)

put_at : (q : List ℕ) (es : List Pair) (k v : List ℕ) → text_at q (insert_entry order es k v) ≡ (if bytes_eq k q then Some v else text_at q es)
put_at q [] k v = refl
put_at q (e ∷ es) k v = go (order k e.0) refl (put_at q es k v) where
  go : (o : Ordering) → order k e.0 ≡ o → text_at q (insert_entry order es k v) ≡ (if bytes_eq k q then Some v else text_at q es)
      → text_at q (match_ordering o ((k, v) ∷ e ∷ es) ((e.0, v) ∷ es) (e ∷ insert_entry order es k v)) ≡ (if bytes_eq k q then Some v else text_at q (e ∷ es))
  go Less is rest = refl
  go Equal is rest = elim (cases_Bool (bytes_eq e.0 q)) [
    | inl hit ↦ rw (hit, ap (λ x. bytes_eq x q) (exact_bytes k e.0 is) ∙ hit) refl
    | inr miss ↦ rw (miss, ap (λ x. bytes_eq x q) (exact_bytes k e.0 is) ∙ miss) refl
  ]
  go Greater is rest = elim (cases_Bool (bytes_eq e.0 q)) [
    | inl hit ↦ elim (cases_Bool (bytes_eq k q)) [
      | inl also ↦ absurd (let off : Greater ≡ Equal = sym is ∙ both_tied k e.0 q also hit in cc off)
      | inr miss ↦ rw (hit, miss) refl
    ]
    | inr miss ↦ rw miss rest
  ]

or_step : {A : Type 0} (o : Option A) (b : Bool) (x : A) (rest : Option A) → option_or o (if b then Some x else rest) ≡ option_or (option_or o (if b then Some x else None)) rest
or_step (Some y) b x rest = refl
or_step None true x rest = refl
or_step None false x rest = refl

puts_at : (q : List ℕ) (ps into : List Pair) → text_at q (put_pairs ps into) ≡ option_or (last_text q ps) (text_at q into)
puts_at q [] into = refl
puts_at q (p ∷ ps) into =
    puts_at q ps (insert_entry order into p.0 p.1) ∙ ap (option_or (last_text q ps)) (put_at q into p.0 p.1) ∙ or_step (last_text q ps) (bytes_eq p.0 q) p.1 (text_at q into)

or_none : {A : Type 0} (o : Option A) → option_or o None ≡ o
or_none (Some x) = refl
or_none None = refl

pub join : JoinLaw
join root file selector = puts_at selector file (put_pairs root []) ∙ ap (option_or (last_text selector file)) (puts_at selector root [] ∙ or_none (last_text selector root))
