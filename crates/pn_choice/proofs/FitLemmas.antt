-- The end of the walk is a plain graph.
use Rattle.std.proofs.Common.{◌≡◌, ◌<◌, ◌^◌, ℕ, Bool, List, Option, refl, sym, ◌∙◌, subst, map, length}
use Rattle.std.specs.List.{All, Contains}
use Rattle.std.proofs.lemmas.List.{length-map}
use Rattle.std.proofs.lemmas.List.Elements.{All-map, All-weaker}
use Rattle.pn_text.specs.Ids.{id_name}
use Rattle.pn_text.specs.declared.index.ProjIx.{ProjIx}
use Rattle.pn_fs.specs.Tree.{Tree}
use Rattle.pn_manifest.specs.Said.{Said, AreRising, peer_names}
use Rattle.pn_manifest.specs.Says.{said_of}
use Rattle.pn_manifest.specs.declared.peers.Peer.{Peer}
use Rattle.pn_graph.specs.declared.plain.Plain.{Plain}
use Rattle.pn_walk.specs.Starts.{turns_from}
use Rattle.pn_walk.specs.Wants.{Id}
use Rattle.pn_walk.specs.Walks.{State, IsWalked}
use Rattle.pn_walk.specs.declared.node.Node.{Node}
use Rattle.pn_walk.specs.declared.wish.Wish.{Wish}
use Rattle.pn_shape.specs.Fits.{IsFit}
use Rattle.pn_shape.specs.Shapes.{IsShape}
use Rattle.pn_shape.proofs.AskedLemmas.{aliases_of}
use Rattle.pn_shape.proofs.FitLemmas.{IsSoundNode, fit_of_walk}
use Rattle.pn_plain.specs.Seen.{a_project, a_package, one_map, seen, no_hook, no_rules, IsSeen}
use Rattle.pn_plain.specs.SeenLaws.{IsOwn}
use Rattle.pn_seen.proofs.AskedLemmas.{asked_law}
use Rattle.pn_choice.specs.Given.{folder_of, asked_by, IsRisingProject, inputs_by, first}
use Rattle.pn_choice.specs.Graphs.{IsGraphOf}
use Rattle.pn_choice.specs.Shows.{IsNodeOf, LeadsIn}
use Rattle.pn_choice.specs.Ways.{LeadsBy}
use Rattle.pn_choice.specs.declared.project.ProjectAt.{ProjectAt}
use Rattle.pn_choice.proofs.LeadsLemmas.{leads_in, walk_in}
use Rattle.pn_choice.proofs.SoundLemmas.{own_name, no_project}
use Rattle.pn_choice.proofs.StartLemmas.{starts, folders}

sound_node : (r : Option Tree) (n : Node) → IsNodeOf r n → IsSoundNode n
sound_node r n h =
    let w = asked_law.wishes a_package h.said h.face h.says.has.rising h.seen in
    let p = asked_law.peers a_package h.said h.face h.says.has.rising h.seen in
    let own : IsOwn h.said (id_name n.id) = own_name r n.id h.said h.says.has in
    record {
      asks = subst (λ (ws : List Wish). AreRising (aliases_of ws)) (sym h.wishes) w.rising;
      own = record {
        rising = subst (λ (ps : List Peer). AreRising (peer_names ps)) (sym h.peers) p.rising;
        no_alias = λ c. w.own (id_name n.id) own (subst (λ (ws : List Wish). Contains (aliases_of ws) (id_name n.id)) h.wishes c);
        no_peer = λ c. p.own (id_name n.id) own (subst (λ (ps : List Peer). Contains (peer_names ps) (id_name n.id)) h.peers c);
        not_both = λ x c d. p.unasked x (subst (λ (ps : List Peer). Contains (peer_names ps) x) h.peers c) (subst (λ (ws : List Wish). Contains (aliases_of ws) x) h.wishes d);
      };
    }

project_seen : (m : Said) → IsSeen no_hook no_rules a_project m (seen a_project m)
project_seen m = record { overridden = one_map a_project m; by_rules = refl; is = refl }

asks_rise : (auto : Bool) (ps : List ProjectAt) → All IsRisingProject ps → All (λ (ws : List Wish). AreRising (aliases_of ws)) (map (asked_by auto) ps)
asks_rise auto ps h =
    All-map (λ (ws : List Wish). AreRising (aliases_of ws)) (asked_by auto) ps
    (All-weaker IsRisingProject (λ (p : ProjectAt). AreRising (aliases_of (asked_by auto p)))
    (λ p k. (asked_law.project auto (said_of p.manifest) (seen a_project (said_of p.manifest)) k (project_seen (said_of p.manifest))).rising) ps h)

-- what the walk meets and takes is a plain graph's
pub fit : (r : Option Tree) (ps : List ProjectAt) (held : List Id) (auto : Bool) (t : State) → IsWalked (LeadsBy r held) (IsNodeOf r) (first auto ps) t → AreRising (map folder_of ps) → All IsRisingProject ps → length ps < 2 ^ 32
    → IsFit (map folder_of ps) t
fit r ps held auto t walked rising asks few =
    let long : length (map folder_of ps) ≡ length ps = length-map ps folder_of in
    fit_of_walk (LeadsBy r held) (IsNodeOf r) (map folder_of ps) (map (asked_by auto) ps) t walked
    (long ∙ sym (length-map ps (asked_by auto))) rising (subst (λ (n : ℕ). n < 2 ^ 32) (sym long) few) (asks_rise auto ps asks)
    (λ w q h. absurd (no_project r held w q h)) (sound_node r)

-- Its value is the graph of the inputs.
pub graph_of : (r : Option Tree) (ps : List ProjectAt) (held : List Id) (auto : Bool) (root : ProjIx) (p : Plain) (t : State) → IsWalked (LeadsBy r held) (IsNodeOf r) (first auto ps) t
    → IsShape (map folder_of ps) t p.projects p.packages → p.root ≡ root → IsGraphOf r (inputs_by ps held auto) root p
graph_of r ps held auto root p t walked shape is = record {
  state = t;
  walked = record {
    own = turns_from 0 (map (asked_by auto) ps);
    starts = starts auto ps;
    walked = record { walk = walk_in (LeadsBy r held) (LeadsIn r (inputs_by ps held auto)) (IsNodeOf r) (leads_in r ps held auto) t (first auto ps) walked.walk; none = walked.none };
  };
  shape = subst (λ (fs : List (List ℕ)). IsShape fs t p.projects p.packages) (sym (folders ps held auto)) shape;
  root_is = is;
}
