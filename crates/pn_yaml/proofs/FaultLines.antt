-- Which line the faults of scalars and flows name.
use Rattle.std.proofs.Common.{ℕ, zero, suc, Bool, true, false, List, [], ◌∷◌, length, Result, Ok, Err}
use Rattle.std.specs.Prelude.{if◌then◌else◌}
use Rattle.pn_yaml.specs.declared.fault.Why.{Why}
use Rattle.pn_yaml.specs.declared.fault.Why.TheVariants as why
use Rattle.pn_yaml.specs.declared.fault.YamlFault.{YamlFault}
use Rattle.pn_yaml.specs.declared.fault.YamlFault.TheVariants as fault
use Rattle.pn_yaml.specs.declared.scalar.Place.{Place}
use Rattle.pn_yaml.specs.declared.scalar.Place.TheVariants as place
use Rattle.pn_yaml.specs.Bytes.{starts, is_empty, tail_of, trimmed, unindented}
use Rattle.pn_yaml.specs.Data.{Data, Items, no_items, Members, no_members}
use Rattle.pn_yaml.specs.Outcome.{◌>>=◌, wrong}
use Rattle.pn_yaml.specs.Scalars.{Word, Inside, single, quote, double, slash, digits, Turn, go, closed, behind, bad, absent, is_left_out, plain_front, plain_rest, plain_word, turn_of, turned, with_bytes, quoted_at, quoted_end, word_at}
use Rattle.pn_yaml.specs.Flow.{Reader, behind_value, flow_at, flow_items, flow_member, flow_members, list_in, map_in, with_item, with_member}

-- the line that a fault names, if it names one, is of these
abbrev pub OnFault : (ℕ → Type 0) → YamlFault → Type 0
OnFault P (fault.Line n w) = P n
OnFault P e = Unit {0}

abbrev pub OnErr : {A : Type 0} → (ℕ → Type 0) → Result A YamlFault → Type 0
OnErr P (Ok x) = Unit {0}
OnErr P (Err e) = OnFault P e

-- what is refused is refused for one of these lines
pub record Blames {A : Type 0} (P : ℕ → Type 0) (r : Result A YamlFault) : Type 0 where
  pub named : OnErr P r

pub blames-ok : {A : Type 0} (P : ℕ → Type 0) (x : A) → Blames P (Ok x)
blames-ok P x = record { named = tt }

pub blames-wrong : {A : Type 0} (P : ℕ → Type 0) (line : ℕ) (w : Why) → P line → Blames {A = A} P (wrong line w)
blames-wrong P line w p = record { named = p }

pub blames-if : {A : Type 0} (P : ℕ → Type 0) (b : Bool) (x y : Result A YamlFault) → Blames P x → Blames P y → Blames P (if b then x else y)
blames-if P true x y h g = h
blames-if P false x y h g = g

pub blames-bind : {A B : Type 0} (P : ℕ → Type 0) (r : Result A YamlFault) (f : A → Result B YamlFault) → Blames P r → ((x : A) → Blames P (f x)) → Blames P (r >>= f)
blames-bind P (Ok x) f h g = g x
blames-bind P (Err e) f h g = record { named = h.named }

-- scalars

plain-blames : (P : ℕ → Type 0) (p : Place) (line : ℕ) (text rest : List ℕ) → P line → Blames P (plain_word p line text rest)
plain-blames P p line text rest h =
    blames-if P (is_left_out text) _ _ (blames-wrong P line why.LeftOut h)
    (blames-if P (is_empty text) _ _ (blames-wrong P line (absent p) h) (blames-ok P _))

bytes-blames : (P : ℕ → Type 0) (bytes : List ℕ) (r : Result (Word × List ℕ) YamlFault) → Blames P r → Blames P (with_bytes bytes r)
bytes-blames P bytes (Ok w) h = record { named = tt }
bytes-blames P bytes (Err e) h = record { named = h.named }

end-blames : (P : ℕ → Type 0) (line : ℕ) (s : Inside) → P line → Blames P (quoted_end line s)
end-blames P line single h = record { named = h }
end-blames P line quote h = record { named = tt }
end-blames P line double h = record { named = h }
end-blames P line slash h = record { named = h }
end-blames P line (digits left value) h = record { named = h }

turned-blames : (P : ℕ → Type 0) (line : ℕ) (t : Turn) (f : Inside → Result (Word × List ℕ) YamlFault) (b : ℕ) (rest : List ℕ) → P line → ((s : Inside) → Blames P (f s))
    → Blames P (turned line t f b rest)
turned-blames P line (go bytes s) f b rest h g = bytes-blames P bytes (f s) (g s)
turned-blames P line closed f b rest h g = record { named = tt }
turned-blames P line behind f b rest h g = record { named = tt }
turned-blames P line bad f b rest h g = record { named = h }

quoted-blames : (P : ℕ → Type 0) (line : ℕ) (s : Inside) (text : List ℕ) → P line → Blames P (quoted_at line s text)
quoted-blames P line s [] h = end-blames P line s h
quoted-blames P line s (b ∷ rest) h = turned-blames P line (turn_of s b) (λ t. quoted_at line t rest) b rest h (λ t. quoted-blames P line t rest h)

pub word-blames : (P : ℕ → Type 0) (p : Place) (line : ℕ) (text : List ℕ) → P line → Blames P (word_at p line text)
word-blames P p line text h =
    blames-if P (starts 39 text) _ _ (quoted-blames P line single (tail_of text) h)
    (blames-if P (starts 34 text) _ _ (quoted-blames P line double (tail_of text) h)
    (plain-blames P p line (trimmed (plain_front p text)) (plain_rest p text) h))

-- flows

abbrev BlamesAll : (ℕ → Type 0) → Reader → Type 0
BlamesAll P value = (text : List ℕ) → Blames P (value text)

with-item-blames : (P : ℕ → Type 0) (d : Data) (r : Result (Items × List ℕ) YamlFault) → Blames P r → Blames P (with_item d r)
with-item-blames P d (Ok r) h = record { named = tt }
with-item-blames P d (Err e) h = record { named = h.named }

with-member-blames : (P : ℕ → Type 0) (k : List ℕ) (d : Data) (r : Result (Members × List ℕ) YamlFault) → Blames P r → Blames P (with_member k d r)
with-member-blames P k d (Ok r) h = record { named = tt }
with-member-blames P k d (Err e) h = record { named = h.named }

list-blames : (P : ℕ → Type 0) (r : Result (Items × List ℕ) YamlFault) → Blames P r → Blames P (list_in r)
list-blames P (Ok r) h = record { named = tt }
list-blames P (Err e) h = record { named = h.named }

map-blames : (P : ℕ → Type 0) (r : Result (Members × List ℕ) YamlFault) → Blames P r → Blames P (map_in r)
map-blames P (Ok r) h = record { named = tt }
map-blames P (Err e) h = record { named = h.named }

behind-blames : {A : Type 0} (P : ℕ → Type 0) (line close : ℕ) (end : A) (more : List ℕ → Result (A × List ℕ) YamlFault) (text : List ℕ) → P line → ((t : List ℕ) → Blames P (more t))
    → Blames P (behind_value line close end more text)
behind-blames P line close end more text h g =
    blames-if P (starts 44 text) _ _ (g (tail_of text)) (blames-if P (starts close text) _ _ (blames-ok P _) (blames-wrong P line why.Flow h))

items-blames : (P : ℕ → Type 0) (value : Reader) (line steps : ℕ) (text : List ℕ) → P line → BlamesAll P value → Blames P (flow_items value line steps text)
items-blames P value line zero text h g = blames-wrong P line why.Flow h
items-blames P value line (suc steps) text h g =
    blames-if P _ _ _ (blames-wrong P line why.Flow h)
    (blames-if P (starts 93 (unindented text)) _ _ (blames-ok P _)
    (blames-bind P (value (unindented text)) _ (g (unindented text)) (λ v.
    with-item-blames P v.0 _ (behind-blames P line 93 no_items (flow_items value line steps) (unindented v.1) h (λ t. items-blames P value line steps t h g)))))

member-blames : (P : ℕ → Type 0) (value : Reader) (line : ℕ) (seen : List (List ℕ)) (text : List ℕ) → P line → BlamesAll P value → Blames P (flow_member value line seen text)
member-blames P value line seen text h g = search (blames-bind, blames-if, blames-ok, blames-wrong, word-blames) depth 12

members-blames : (P : ℕ → Type 0) (value : Reader) (line steps : ℕ) (seen : List (List ℕ)) (text : List ℕ) → P line → BlamesAll P value → Blames P (flow_members value line steps seen text)
members-blames P value line zero seen text h g = blames-wrong P line why.Flow h
members-blames P value line (suc steps) seen text h g =
    blames-if P _ _ _ (blames-wrong P line why.Flow h)
    (blames-if P (starts 125 (unindented text)) _ _ (blames-ok P _)
    (blames-bind P (flow_member value line seen (unindented text)) _ (member-blames P value line seen (unindented text) h g) (λ m.
    with-member-blames P m.0.0 m.0.1 _ (behind-blames P line 125 no_members (flow_members value line steps (m.0.0 ∷ seen)) (unindented m.1) h
    (λ t. members-blames P value line steps (m.0.0 ∷ seen) t h g)))))

pub flow-blames : (P : ℕ → Type 0) (levels line : ℕ) (text : List ℕ) → P line → Blames P (flow_at levels line text)
flow-blames P zero line text h = record { named = tt }
flow-blames P (suc levels) line text h =
    let g : BlamesAll P (flow_at levels line) = λ t. flow-blames P levels line t h in
    blames-if P (starts 91 text) _ _ (list-blames P _ (items-blames P (flow_at levels line) line (length text) (tail_of text) h g))
    (blames-if P (starts 123 text) _ _ (map-blames P _ (members-blames P (flow_at levels line) line (length text) [] (tail_of text) h g))
    (blames-bind P (word_at place.Flow line text) _ (word-blames P place.Flow line text h) (λ w. blames-ok P _)))
