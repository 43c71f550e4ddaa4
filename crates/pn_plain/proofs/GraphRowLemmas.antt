-- Small plain graphs, edge by edge.
use Rattle.std.proofs.Common.{◌≡◌, ℕ, Bool, true, false, List, [], ◌∷◌, Option, Some, None, refl, arith, map, ◌++◌, inr, codes, Ok}
use Rattle.std.specs.Fmt.{digits}
use Rattle.pn_ranges.proofs.Stopped.{no-byte, ranges-form}
use Rattle.pn_text.proofs.Bytes.{same_first}
use Rattle.pn_spec.specs.Forms.{IsSpec, IsTag}
use Rattle.pn_spec.specs.Refusals.{FitsNoForm}
use Rattle.pn_spec.specs.declared.spec.Spec.TheVariants as spec
use Rattle.pn_spec.specs.declared.want.Want.{Want}
use Rattle.pn_spec.specs.declared.want.Want.TheVariants as want
use Rattle.pn_spec.specs.declared.workspace.WsSpec.{WsSpec}
use Rattle.pn_spec.specs.declared.workspace.WsWant.TheVariants as ws
use Rattle.pn_walk.specs.declared.node.Node.{Node}
use Rattle.pn_walk.specs.declared.wish.Wish.{Wish}
use Rattle.pn_walk.specs.declared.wish.Aim.{Aim}
use Rattle.pn_walk.specs.declared.wish.Aim.TheVariants.{Project as to_project, Package as to_package}
use Rattle.pn_walk.specs.declared.wish.Place.TheVariants.{Project as at_project, Package as at_package}
use Rattle.pn_walk.specs.Walks.{Turn, Link, State, turn_by, start, Moves, ends, goes}
use Rattle.pn_plain.specs.Aims.{Leads, id_at}
use Rattle.pn_plain.specs.Causes.{unsupported, no_version, no_catalog, no_project, two_projects, registry, no_form, no_aim, not_met}
use Rattle.pn_plain.specs.GraphRows.{no_versions, one_version, said_of, latest_of, small, asks, asked, link_to, b_met, x_met, y_met, twins, GraphRows}
use Rattle.pn_plain.specs.Plains.{Inputs, given_by, AreStarts, no_more, one_more}
use Rattle.pn_plain.specs.Readings.{of_package, of_project, no_entry, built}
use Rattle.pn_plain.specs.Rows.{said_with, release}
use Rattle.pn_manifest.specs.Pairs.{Pair}
use Rattle.pn_manifest.specs.Said.{Said}
use Rattle.pn_plain.specs.Seen.{a_project, a_package, seen, wish, wishes_of}
use Rattle.pn_plain.specs.Told.{IsToldShelf, IsToldNode, IsToldPlain, IsToldUnplain, IsOverridden}

latest_tag : IsTag (codes "latest") (codes "latest")
latest_tag = record {
  named = refl;
  bytes = refl;
  no_range = λ r s. no-byte (codes "latest") 6 (ranges-form (codes "latest") s.count r s.read) refl;
}

abbrev latest : Want
latest = want.Tag (codes "latest")

latest_spec : IsSpec (codes "latest") (spec.Tag (codes "latest"))
latest_spec = latest_tag

alias_spec : IsSpec (codes "npm:b@latest") (spec.Alias (codes "b") latest)
alias_spec = (codes "b@latest", refl, inr (codes "latest", refl, refl, latest_tag))

catalog_spec : IsSpec (codes "catalog:") (spec.Catalog (codes "default"))
catalog_spec = ([], refl, (refl, refl))

abbrev any_project : WsSpec
any_project = record { name = None; want = ws.Any }

abbrev project_w : WsSpec
project_w = record { name = Some (codes "w"); want = ws.Caret }

any_spec : IsSpec (codes "workspace:*") (spec.Workspace any_project)
any_spec = (codes "*", refl, refl)

project_spec : IsSpec (codes "workspace:w@^") (spec.Workspace project_w)
project_spec = (codes "w@^", refl, (codes "^", refl, refl, refl))

-- what the project asks for
starts : (dependencies optional : List Pair) → AreStarts small.hook (IsOverridden small) false 0 (asks dependencies optional).projects
    (map (turn_by (at_project 0)) (wishes_of (seen a_project (said_with (Some (codes "w")) dependencies [] optional []))) ++ [])
starts dependencies optional =
    one_more 0 (record { folder = codes "."; said = said_with (Some (codes "w")) dependencies [] optional [] }) []
    (seen a_project (said_with (Some (codes "w")) dependencies [] optional [])) []
    (record { overridden = _; by_rules = refl; is = refl }) (no_more 1)

node_is : (n : Node) (s : Said) → small.manifest n.id ≡ Ok s → n.wishes ≡ wishes_of (seen a_package s) → n.peers ≡ (seen a_package s).peers → IsToldNode small n
node_is n s says wishes peers = record {
  said = s;
  says = says;
  face = seen a_package s;
  seen = record { overridden = _; by_rules = refl; is = refl };
  wishes = wishes;
  peers = peers;
}

b_is : IsToldNode small b_met
b_is = node_is b_met (said_of (codes "b") []) refl refl refl

x_is : IsToldNode small x_met
x_is = node_is x_met (said_of (codes "x") (latest_of (codes "y") ∷ [])) refl refl refl

y_is : IsToldNode small y_met
y_is = node_is y_met (said_of (codes "y") (latest_of (codes "x") ∷ [])) refl refl refl

abbrev leads_in : Inputs → Wish → Option Aim → Type 0
leads_in i = Leads (IsToldShelf small) (given_by i)

-- a wish for a package's version is built everywhere
is_built : (spaces : Bool) (n : List ℕ) (w : Want) → of_package n w ≡ built spaces (of_package n w)
is_built true n w = refl
is_built false n w = refl

-- a wish for `npm:b@latest` leads to b
leads_to_b : (i : Inputs) (alias : List ℕ) → leads_in i (asked false alias (codes "npm:b@latest")).wish (Some (to_package (codes "b@1.0.0")))
unfolding digits
leads_to_b i alias = (
  of_package (codes "b") latest,
  record { spec = spec.Alias (codes "b") latest; says = alias_spec; is = is_built i.spaces (codes "b") latest },
  (Some (release 1 0 0), record { shelf = one_version; shows = refl; is = refl }, refl),
)

-- an optional wish for a leads nowhere
a_absent : (i : Inputs) → leads_in i (asked true (codes "a") (codes "latest")).wish None
a_absent i = (
  of_package (codes "a") latest,
  record { spec = spec.Tag (codes "latest"); says = latest_spec; is = is_built i.spaces (codes "a") latest },
  (None, record { shelf = no_versions; shows = refl; is = refl }, (refl, refl)),
)

leads_to_w : (dependencies optional : List Pair) → leads_in (asks dependencies optional) (asked false (codes "p") (codes "workspace:w@^")).wish (Some (to_project 0))
leads_to_w dependencies optional = (of_project (codes "w") ws.Caret, record { spec = spec.Workspace project_w; says = project_spec; is = refl }, refl)

-- states on the way
abbrev c_turn : Turn
c_turn = asked false (codes "c") (codes "npm:b@latest")

abbrev d_turn : Turn
d_turn = asked false (codes "d") (codes "npm:b@latest")

abbrev c_link : Link
c_link = record { turn = c_turn; to = Some (at_package 0) }

abbrev d_link : Link
d_link = record { turn = d_turn; to = Some (at_package 0) }

abbrev alias_pairs : List Pair
alias_pairs = (codes "c", codes "npm:b@latest") ∷ (codes "d", codes "npm:b@latest") ∷ (codes "w", codes "catalog:") ∷ []

abbrev alias_inputs : Inputs
alias_inputs = asks alias_pairs []

abbrev both : State
both = start (c_turn ∷ d_turn ∷ [])

abbrev with_c : State
with_c = record { todo = d_turn ∷ []; met = b_met ∷ []; links = c_link ∷ [] }

abbrev with_both : State
with_both = record { todo = []; met = b_met ∷ []; links = c_link ∷ d_link ∷ [] }

meets_b : Moves (leads_in alias_inputs) (IsToldNode small) both with_c
meets_b = record {
  turn = c_turn;
  rest = d_turn ∷ [];
  next = refl;
  to = Some (at_package 0);
  added = b_met ∷ [];
  takes = record {
    aim = Some (to_package (codes "b@1.0.0"));
    aims = leads_to_b alias_inputs (codes "c");
    lands = record { new = b_met; is = b_is; here = refl; room = omega arith; at = refl; only = refl };
  };
  is = refl;
}

finds_b : Moves (leads_in alias_inputs) (IsToldNode small) with_c with_both
finds_b = record {
  turn = d_turn;
  rest = [];
  next = refl;
  to = Some (at_package 0);
  added = [];
  takes = record {
    aim = Some (to_package (codes "b@1.0.0"));
    aims = leads_to_b alias_inputs (codes "d");
    lands = record { at = refl; only = refl };
  };
  is = refl;
}

alias_row : IsToldPlain small alias_inputs with_both
alias_row = record {
  own = c_turn ∷ d_turn ∷ [];
  starts = starts alias_pairs [];
  walked = record { walk = goes both with_c meets_b (goes with_c with_both finds_b (ends with_both refl)); none = refl };
}

-- a without a version
abbrev a_turn : Turn
a_turn = asked false (codes "a") (codes "latest")

abbrev b_turn : Turn
b_turn = asked false (codes "b") (codes "catalog:")

abbrev first_pairs : List Pair
first_pairs = (codes "a", codes "latest") ∷ (codes "b", codes "catalog:") ∷ []

first_row : IsToldUnplain small (asks first_pairs []) (start (a_turn ∷ b_turn ∷ [])) no_version
first_row = record {
  own = a_turn ∷ b_turn ∷ [];
  starts = starts first_pairs [];
  stopped = record {
    walk = ends (start (a_turn ∷ b_turn ∷ [])) refl;
    turn = a_turn;
    rest = b_turn ∷ [];
    next = refl;
    why = no_aim refl (of_package (codes "a") latest)
        (record { spec = spec.Tag (codes "latest"); says = latest_spec; is = refl })
        (record { shelf = no_versions; shows = refl; is = refl }, refl);
  };
}

abbrev maybe_a : Turn
maybe_a = asked true (codes "a") (codes "latest")

abbrev a_link : Link
a_link = record { turn = maybe_a; to = None }

abbrev a_pair : List Pair
a_pair = (codes "a", codes "latest") ∷ []

abbrev b_pair : List Pair
b_pair = (codes "b", codes "catalog:") ∷ []

passes_a : (dependencies : List Pair) (rest : List Turn) → Moves (leads_in (asks dependencies a_pair)) (IsToldNode small) (start (maybe_a ∷ rest)) (record { todo = rest ++ []; met = []; links = a_link ∷ [] })
passes_a dependencies rest = record {
  turn = maybe_a;
  rest = rest;
  next = refl;
  to = None;
  added = [];
  takes = record { aim = None; aims = a_absent (asks dependencies a_pair); lands = record { at = refl; only = refl } };
  is = refl;
}

absent_row : IsToldPlain small (asks [] a_pair) (record { todo = []; met = []; links = a_link ∷ [] })
absent_row = record {
  own = maybe_a ∷ [];
  starts = starts [] a_pair;
  walked = record { walk = goes (start (maybe_a ∷ [])) _ (passes_a [] []) (ends _ refl); none = refl };
}

next_row : IsToldUnplain small (asks b_pair a_pair) (record { todo = b_turn ∷ []; met = []; links = a_link ∷ [] }) no_catalog
next_row = record {
  own = maybe_a ∷ b_turn ∷ [];
  starts = starts b_pair a_pair;
  stopped = record {
    walk = goes (start (maybe_a ∷ b_turn ∷ [])) _ (passes_a b_pair (b_turn ∷ [])) (ends _ refl);
    turn = b_turn;
    rest = [];
    next = refl;
    why = no_aim refl no_entry (record { spec = spec.Catalog (codes "default"); says = catalog_spec; is = refl }) refl;
  };
}

abbrev p_turn : Turn
p_turn = asked false (codes "p") (codes "workspace:*")

abbrev p_pair : List Pair
p_pair = (codes "p", codes "workspace:*") ∷ []

project_row : IsToldUnplain small (asks p_pair []) (start (p_turn ∷ [])) no_project
project_row = record {
  own = p_turn ∷ [];
  starts = starts p_pair [];
  stopped = record {
    walk = ends (start (p_turn ∷ [])) refl;
    turn = p_turn;
    rest = [];
    next = refl;
    why = no_aim refl (of_project (codes "p") ws.Any) (record { spec = spec.Workspace any_project; says = any_spec; is = refl }) (refl, refl);
  };
}

abbrev w_turn : Turn
w_turn = asked false (codes "p") (codes "workspace:w@^")

abbrev w_pair : List Pair
w_pair = (codes "p", codes "workspace:w@^") ∷ []

abbrev w_state : State
w_state = record { todo = []; met = []; links = record { turn = w_turn; to = Some (at_project 0) } ∷ [] }

reaches_w : Moves (leads_in (asks w_pair [])) (IsToldNode small) (start (w_turn ∷ [])) w_state
reaches_w = record {
  turn = w_turn;
  rest = [];
  next = refl;
  to = Some (at_project 0);
  added = [];
  takes = record { aim = Some (to_project 0); aims = leads_to_w w_pair []; lands = record { at = refl; only = refl } };
  is = refl;
}

itself_row : IsToldPlain small (asks w_pair []) w_state
itself_row = record {
  own = w_turn ∷ [];
  starts = starts w_pair [];
  walked = record { walk = goes (start (w_turn ∷ [])) w_state reaches_w (ends w_state refl); none = refl };
}

nowhere_row : IsToldPlain small (asks [] p_pair) (record { todo = []; met = []; links = link_to (asked true (codes "p") (codes "workspace:*")) None ∷ [] })
nowhere_row = record {
  own = asked true (codes "p") (codes "workspace:*") ∷ [];
  starts = starts [] p_pair;
  walked = record {
    walk = goes (start (asked true (codes "p") (codes "workspace:*") ∷ [])) _ passes (ends _ refl);
    none = refl;
  };
}
  where
    passes : Moves (leads_in (asks [] p_pair)) (IsToldNode small) (start (asked true (codes "p") (codes "workspace:*") ∷ [])) (record { todo = []; met = []; links = link_to (asked true (codes "p") (codes "workspace:*")) None ∷ [] })
    passes = record {
      turn = asked true (codes "p") (codes "workspace:*");
      rest = [];
      next = refl;
      to = None;
      added = [];
      takes = record {
        aim = None;
        aims = (of_project (codes "p") ws.Any, record { spec = spec.Workspace any_project; says = any_spec; is = refl }, (refl, refl));
        lands = record { at = refl; only = refl };
      };
      is = refl;
    }

abbrev caret_project : WsSpec
caret_project = record { name = None; want = ws.Caret }

caret_spec : IsSpec (codes "workspace:^") (spec.Workspace caret_project)
caret_spec = (codes "^", refl, refl)

abbrev v_turn : Turn
v_turn = asked true (codes "v") (codes "workspace:^")

abbrev nothing_said : Said
nothing_said = said_of (codes "v") []

twin_starts : AreStarts small.hook (IsOverridden small) false 0 twins.projects (v_turn ∷ [])
twin_starts =
    one_more 0 _ _ (said_with (Some (codes "w")) [] [] ((codes "v", codes "workspace:^") ∷ []) []) [] (record { overridden = _; by_rules = refl; is = refl })
    (one_more 1 _ _ nothing_said [] (record { overridden = _; by_rules = refl; is = refl })
    (one_more 2 _ _ nothing_said [] (record { overridden = _; by_rules = refl; is = refl }) (no_more 3)))

two_row : IsToldUnplain small twins (start (v_turn ∷ [])) (two_projects 1 2)
two_row = record {
  own = v_turn ∷ [];
  starts = twin_starts;
  stopped = record {
    walk = ends (start (v_turn ∷ [])) refl;
    turn = v_turn;
    rest = [];
    next = refl;
    why = no_aim refl (of_project (codes "v") ws.Caret) (record { spec = spec.Workspace caret_project; says = caret_spec; is = refl }) refl;
  };
}

-- a text that begins with another byte
other_first : (b c : ℕ) (bs cs : List ℕ) → (b ≡ c → ⊥) → b ∷ bs ≡ c ∷ cs → ⊥
other_first b c bs cs n e = n (same_first b c bs cs e)

git_no_form : FitsNoForm (codes "git+ssh://h/r")
git_no_form = record {
  workspace = λ rest e. absurd (other_first 103 119 (codes "it+ssh://h/r") (codes "orkspace:" ++ rest) (omega arith) e);
  catalog = λ rest e. absurd (other_first 103 99 (codes "it+ssh://h/r") (codes "atalog:" ++ rest) (omega arith) e);
  alias = λ rest e. absurd (other_first 103 110 (codes "it+ssh://h/r") (codes "pm:" ++ rest) (omega arith) e);
  bare = record {
    no_range = λ r s. no-byte (codes "git+ssh://h/r") 13 (ranges-form (codes "git+ssh://h/r") s.count r s.read) refl;
    no_tag = refl;
  };
}

abbrev git_turn : Turn
git_turn = asked true (codes "a") (codes "git+ssh://h/r")

formless_row : IsToldUnplain small (asks [] ((codes "a", codes "git+ssh://h/r") ∷ [])) (start (git_turn ∷ [])) unsupported
formless_row = record {
  own = git_turn ∷ [];
  starts = starts [] ((codes "a", codes "git+ssh://h/r") ∷ []);
  stopped = record {
    walk = ends (start (git_turn ∷ [])) refl;
    turn = git_turn;
    rest = [];
    next = refl;
    why = no_form refl git_no_form refl;
  };
}

-- a wish for the tag `latest` of a name with one version
leads_latest : (i : Inputs) (n : List ℕ) → small.shelf n ≡ Ok one_version → leads_in i (wish false (latest_of n)) (Some (to_package (id_at n (release 1 0 0))))
leads_latest i n shows = (
  of_package n latest,
  record { spec = spec.Tag (codes "latest"); says = latest_spec; is = is_built i.spaces n latest },
  (Some (release 1 0 0), record { shelf = one_version; shows = shows; is = refl }, refl),
)

abbrev e_pairs : List Pair
e_pairs = latest_of (codes "e") ∷ (codes "f", codes "catalog:") ∷ []

abbrev e_turns : List Turn
e_turns = asked false (codes "e") (codes "latest") ∷ asked false (codes "f") (codes "catalog:") ∷ []

unread_row : IsToldUnplain small (asks e_pairs []) (start e_turns) (registry 1)
unfolding digits
unread_row = record {
  own = e_turns;
  starts = starts e_pairs [];
  stopped = record {
    walk = ends (start e_turns) refl;
    turn = asked false (codes "e") (codes "latest");
    rest = asked false (codes "f") (codes "catalog:") ∷ [];
    next = refl;
    why = not_met (codes "e@1.0.0") (leads_latest (asks e_pairs []) (codes "e") refl) refl refl;
  };
}

-- x and b, and then y, which x depends on
abbrev order_pairs : List Pair
order_pairs = (codes "c", codes "npm:x@latest") ∷ (codes "d", codes "npm:b@latest") ∷ []

abbrev order_inputs : Inputs
order_inputs = asks order_pairs []

abbrev x_turn : Turn
x_turn = asked false (codes "c") (codes "npm:x@latest")

abbrev to_y : Turn
to_y = turn_by (at_package 0) (wish false (latest_of (codes "y")))

abbrev back_to_x : Turn
back_to_x = turn_by (at_package 2) (wish false (latest_of (codes "x")))

x_spec : IsSpec (codes "npm:x@latest") (spec.Alias (codes "x") latest)
x_spec = (codes "x@latest", refl, inr (codes "latest", refl, refl, latest_tag))

leads_to_x : leads_in order_inputs x_turn.wish (Some (to_package (codes "x@1.0.0")))
unfolding digits
leads_to_x = (
  of_package (codes "x") latest,
  record { spec = spec.Alias (codes "x") latest; says = x_spec; is = refl },
  (Some (release 1 0 0), record { shelf = one_version; shows = refl; is = refl }, refl),
)

-- the states on the way
abbrev at_first : State
at_first = start (x_turn ∷ d_turn ∷ [])

abbrev at_second : State
at_second = record { todo = d_turn ∷ to_y ∷ []; met = x_met ∷ []; links = link_to x_turn (Some (at_package 0)) ∷ [] }

abbrev at_third : State
at_third = record {
  todo = to_y ∷ [];
  met = x_met ∷ b_met ∷ [];
  links = link_to x_turn (Some (at_package 0)) ∷ link_to d_turn (Some (at_package 1)) ∷ [];
}

abbrev at_fourth : State
at_fourth = record {
  todo = back_to_x ∷ [];
  met = x_met ∷ b_met ∷ y_met ∷ [];
  links = link_to x_turn (Some (at_package 0)) ∷ link_to d_turn (Some (at_package 1)) ∷ link_to to_y (Some (at_package 2)) ∷ [];
}

abbrev at_end : State
at_end = record {
  todo = [];
  met = x_met ∷ b_met ∷ y_met ∷ [];
  links = link_to x_turn (Some (at_package 0)) ∷ link_to d_turn (Some (at_package 1)) ∷ link_to to_y (Some (at_package 2)) ∷ link_to back_to_x (Some (at_package 0)) ∷ [];
}

abbrev Step : State → State → Type 0
Step s t = Moves (leads_in order_inputs) (IsToldNode small) s t

first_step : Step at_first at_second
first_step = record {
  turn = x_turn;
  rest = d_turn ∷ [];
  next = refl;
  to = Some (at_package 0);
  added = x_met ∷ [];
  takes = record {
    aim = Some (to_package (codes "x@1.0.0"));
    aims = leads_to_x;
    lands = record { new = x_met; is = x_is; here = refl; room = omega arith; at = refl; only = refl };
  };
  is = refl;
}

second_step : Step at_second at_third
second_step = record {
  turn = d_turn;
  rest = to_y ∷ [];
  next = refl;
  to = Some (at_package 1);
  added = b_met ∷ [];
  takes = record {
    aim = Some (to_package (codes "b@1.0.0"));
    aims = leads_to_b order_inputs (codes "d");
    lands = record { new = b_met; is = b_is; here = refl; room = omega arith; at = refl; only = refl };
  };
  is = refl;
}

third_step : Step at_third at_fourth
unfolding digits
third_step = record {
  turn = to_y;
  rest = [];
  next = refl;
  to = Some (at_package 2);
  added = y_met ∷ [];
  takes = record {
    aim = Some (to_package (codes "y@1.0.0"));
    aims = leads_latest order_inputs (codes "y") refl;
    lands = record { new = y_met; is = y_is; here = refl; room = omega arith; at = refl; only = refl };
  };
  is = refl;
}

last_step : Step at_fourth at_end
unfolding digits
last_step = record {
  turn = back_to_x;
  rest = [];
  next = refl;
  to = Some (at_package 0);
  added = [];
  takes = record {
    aim = Some (to_package (codes "x@1.0.0"));
    aims = leads_latest order_inputs (codes "x") refl;
    lands = record { at = refl; only = refl };
  };
  is = refl;
}

order_row : IsToldPlain small order_inputs at_end
order_row = record {
  own = x_turn ∷ d_turn ∷ [];
  starts = starts order_pairs [];
  walked = record {
    walk = goes at_first at_second first_step (goes at_second at_third second_step (goes at_third at_fourth third_step (goes at_fourth at_end last_step (ends at_end refl))));
    none = refl;
  };
}

pub graph_rows : GraphRows
graph_rows = record {
  alias = alias_row;
  first = first_row;
  absent = absent_row;
  next = next_row;
  project = project_row;
  itself = itself_row;
  nowhere = nowhere_row;
  two = two_row;
  unread = unread_row;
  formless = formless_row;
  order = order_row;
}
