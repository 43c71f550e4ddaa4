use Rattle.std.proofs.Common.{◌≡◌, ◌∙◌, List, [], ◌∷◌, ◌++◌, length, refl, sym, ap, subst, true, arith}
use Rattle.std.specs.Prelude.{codes}
use Rattle.std.specs.List.{Contains}
use Rattle.pn_text.specs.Path.{is_part}
use Rattle.pn_text.specs.Name.{is_name}
use Rattle.pn_text.proofs.Members.{in_one, none_in}
use Rattle.pn_digest.specs.Listing.{Entry as ListEntry}
use Rattle.pn_tree.specs.declared.instance.Target.{Target}
use Rattle.pn_tree.proofs.AloneLemmas.{no_files}
use Rattle.pn_tree.proofs.tests.instance.Goals as goal

pub returns : goal.returns
returns c =
    let dir : c.in_ok-of.field-0 ≡ codes "a@1.0.0" = c.in_ok-of.ensures in
    let none = no_files c.in_ok-read-3.field-0 c.in_ok-read-3.ensures.ok in
    let k : Target = record { name = c.in_ok-read.field-0; to = c.args.to } in
    let items : c.of-2.result ≡ k ∷ [] = c.of-2.ensures ∙ c.in_ok-push.ensures.items ∙ ap (λ (l : List Target). l ++ k ∷ []) c.new-links.ensures.items in
    let one : (j : Target) → Contains c.of-2.result j → k ≡ j = λ j h. in_one k j (subst (λ (l : List Target). Contains l j) items h) in
    record {
      part = subst (λ d. is_part d ≡ true) (sym dir) refl;
      dir = λ e. let no : 7 ≡ 12 = ap length (sym dir ∙ e) in absurd (omega (arith, no));
      unmarked = λ e. let no : 7 ≡ 8 = ap length (sym dir ∙ e) in absurd (omega (arith, no));
      name = subst (λ n. is_name n ≡ true) (sym c.in_ok-read-2.ensures.ok) c.in_ok-read-2.ensures.accepted;
      files = c.in_ok-read-3.ensures.listing;
      clean = λ f d h. absurd (none_in (f, d) (subst (λ (l : List ListEntry). Contains l (f, d)) none h));
      links = λ j h. subst (λ (x : Target). is_name x.name ≡ true) (one j h) (subst (λ n. is_name n ≡ true) (sym c.in_ok-read.ensures.ok) c.in_ok-read.ensures.accepted);
      others = λ j h e. c.requires (sym c.in_ok-read-2.ensures.ok ∙ sym e ∙ sym (ap (λ (x : Target). x.name) (one j h)) ∙ c.in_ok-read.ensures.ok);
      once = λ i j h g e. sym (one i h) ∙ one j g;
    }
