-- The legs of a network's links before anything goes over them, and the nodes that are made at them.
use Rattle.std.specs.Prelude.{◌≡◌, ℕ, ◌+◌, ◌/◌, ◌<◌, ◌==◌, List, [], length, map, filter, slice_get, slice_index_or, if◌then◌else◌, All, ◌++◌}
use Rattle.std.specs.declared.vec.Vec.{Vec}
use Rattle.std.specs.List.{range_with_len}
use Rattle.std.specs.Option.{option_map_or}
use Rattle.sb_packet.specs.Networks.{NetPlace, Network, at_device, at_host, at_router}
use Rattle.sb_link.specs.RingPlans.{RingPlan}
use Rattle.sb_flow.specs.Rings.{is_upward, ring_plan}
use Rattle.sb_port.specs.declared.leg.InLeg.{InLeg}
use Rattle.sb_port.specs.declared.leg.OutLeg.{OutLeg}
use Rattle.sb_laws.specs.NetworkLayouts.{answer_ring, request_ring, ring_count}
use Rattle.sb_member.specs.declared.joint.Joint.{Joint}
use Rattle.sb_net.specs.Standing.{IsDeviceNode, IsHostNode, IsRouterNode, device_number, node_count, router_number}
use Rattle.sb_port.specs.Ports.{fresh_port}
use Rattle.sb_node.specs.Sides.{ring_side}
use Rattle.sb_member.specs.Ends.{ports_of, rings_of}
use Rattle.sb_member.specs.Members.{IsWholeMember}
use Rattle.sb_member.specs.declared.member.Member.{Member}
use Rattle.sb_member.specs.Joints.{node_at}
use Rattle.sb_net.specs.Recorded.{member_entries}
use Rattle.sb_link.specs.declared.ends.RxEnd as rx
use Rattle.sb_link.specs.declared.ends.TxEnd as tx

-- the number of the node that is an end of a link
abbrev pub place_number : Network → NetPlace → ℕ
place_number network (at_host h) = h
place_number network (at_router r) = router_number network r
place_number network (at_device d) = device_number network d

-- the number of the node that link k leaves, and of the one that it leads to
abbrev pub node_before : Network → ℕ → ℕ
node_before network k = option_map_or (λ link. place_number network link.from) (slice_get network.links k) 0

abbrev pub node_after : Network → ℕ → ℕ
node_after network k = option_map_or (λ link. place_number network link.to) (slice_get network.links k) 0

-- those of the first links that have a node at that end, in order
abbrev pub links_at : (ℕ → ℕ) → ℕ → ℕ → List ℕ
links_at node n m = filter (λ k. node k == m) (range_with_len 0 n)

-- the place of link k among the links of its node
abbrev pub place_at_node : (ℕ → ℕ) → ℕ → ℕ
place_at_node node k = length (links_at node k (node k))

-- where the ring of requests of link k stands, and where that of answers does: a node has its links for requests before those for answers
abbrev pub request_joint : Network → ℕ → Joint
request_joint network k = record {
  from = node_before network k;
  out = place_at_node (node_before network) k;
  to = node_after network k;
  into = place_at_node (node_after network) k;
}

abbrev pub answer_joint : Network → ℕ → Joint
answer_joint network k = record {
  from = node_after network k;
  out = length (links_at (node_before network) (length network.links) (node_after network k)) + place_at_node (node_after network) k;
  to = node_before network k;
  into = length (links_at (node_after network) (length network.links) (node_before network k)) + place_at_node (node_before network) k;
}

-- where a ring stands, by its number
abbrev pub ring_joint : Network → ℕ → Joint
ring_joint network r = if is_upward r then answer_joint network (r / 2) else request_joint network (r / 2)

-- where all rings of a network stand
abbrev pub network_joints : Network → List Joint
network_joints network = map (ring_joint network) (range_with_len 0 (ring_count network))

-- the plans of the first rings of a network
abbrev pub first_plans : Network → ℕ → List RingPlan
first_plans network n = map (ring_plan network) (range_with_len 0 n)

-- what lies in each of some piles, and in one of them
abbrev pub piles_of : {A Z : Type 0} → List (Vec A Z) → List (List A)
piles_of piles = map (λ pile. pile.items) piles

abbrev pub pile_at : {A : Type 0} → List (List A) → ℕ → List A
pile_at piles m = slice_index_or piles m []

module _ {F T U : Type 0} where
  -- the numbers of the links of some legs
  abbrev pub links_out : List (OutLeg F T U) → List ℕ
  links_out legs = map (λ leg. leg.link) legs

  abbrev pub links_in : List (InLeg F T U) → List ℕ
  links_in legs = map (λ leg. leg.link) legs

  -- A link's two legs: their ends are of its two rings, and nothing went over these.
  pub record AreLegsOf (tx : tx.Ghosts T) (rx : rx.Ghosts U) (network : Network) (k : ℕ) (out : OutLeg F T U) (into : InLeg F T U) : Type 0 where
    pub out_link : out.link ≡ k
    pub in_link : into.link ≡ k
    pub asks : tx.planned out.requests ≡ ring_plan network (request_ring k)
    pub hears : rx.planned into.requests ≡ ring_plan network (request_ring k)
    pub tells : tx.planned into.answers ≡ ring_plan network (answer_ring k)
    pub learns : rx.planned out.answers ≡ ring_plan network (answer_ring k)
    pub unasked : tx.sent out.requests ≡ []
    pub unheard : rx.received into.requests ≡ []
    pub untold : tx.sent into.answers ≡ []
    pub unlearnt : rx.received out.answers ≡ []
    pub requests_mark : tx.mark out.requests ≡ rx.mark into.requests
    pub answers_mark : tx.mark into.answers ≡ rx.mark out.answers

  -- The legs of the first n links lie in piles, one for each node, in the order of the links.
  pub record AreDealt (tx : tx.Ghosts T) (rx : rx.Ghosts U) (network : Network) (n : ℕ) (outs : List (List (OutLeg F T U))) (ins : List (List (InLeg F T U))) : Type 0 where
    pub out_piles : length outs ≡ node_count network
    pub in_piles : length ins ≡ node_count network
    pub outs_here : (m : ℕ) → m < node_count network → links_out (pile_at outs m) ≡ links_at (node_before network) n m
    pub ins_here : (m : ℕ) → m < node_count network → links_in (pile_at ins m) ≡ links_at (node_after network) n m
    pub legs : (k : ℕ) (a : OutLeg F T U) (b : InLeg F T U) → k < n
        → AreLegsOf tx rx network k (slice_index_or (pile_at outs (node_before network k)) (place_at_node (node_before network) k) a)
        (slice_index_or (pile_at ins (node_after network k)) (place_at_node (node_after network) k) b)

-- A node that was made at its legs.

module _ {F T U : Type 0} where
  -- a leg's ends are of the two rings of its link, and nothing went over them
  pub record IsOutLeg (tx : tx.Ghosts T) (rx : rx.Ghosts U) (network : Network) (leg : OutLeg F T U) : Type 0 where
    pub there : leg.link < length network.links
    pub asks : tx.planned leg.requests ≡ ring_plan network (request_ring leg.link)
    pub learns : rx.planned leg.answers ≡ ring_plan network (answer_ring leg.link)
    pub unasked : tx.sent leg.requests ≡ []
    pub unlearnt : rx.received leg.answers ≡ []

  pub record IsInLeg (tx : tx.Ghosts T) (rx : rx.Ghosts U) (network : Network) (leg : InLeg F T U) : Type 0 where
    pub there : leg.link < length network.links
    pub hears : rx.planned leg.requests ≡ ring_plan network (request_ring leg.link)
    pub tells : tx.planned leg.answers ≡ ring_plan network (answer_ring leg.link)
    pub unheard : rx.received leg.requests ≡ []
    pub untold : tx.sent leg.answers ≡ []

  -- These are all legs of the node with that number, in the order of links.
  pub record AreLegsAt (tx : tx.Ghosts T) (rx : rx.Ghosts U) (network : Network) (number : ℕ) (outs : List (OutLeg F T U)) (ins : List (InLeg F T U)) : Type 0 where
    pub outs_here : links_out outs ≡ links_at (node_before network) (length network.links) number
    pub ins_here : links_in ins ≡ links_at (node_after network) (length network.links) number
    pub outs_fresh : All (IsOutLeg tx rx network) outs
    pub ins_fresh : All (IsInLeg tx rx network) ins

  -- a node is what has that number in a network
  pub record IsNodeOf (network : Network) (number : ℕ) (node : Member F T U) : Type 0 where
    pub host : number < length network.hosts → IsHostNode network number node
    pub router : (r : ℕ) → r < length network.routers → number ≡ router_number network r → IsRouterNode network r node
    pub device : (d : ℕ) → d < length network.devices → number ≡ device_number network d → IsDeviceNode network d node

  -- A node is made at its legs: it is whole, its ends are those of the legs, and it has done nothing.
  pub record IsMadeAt (tx : tx.Ghosts T) (rx : rx.Ghosts U) (network : Network) (number : ℕ) (outs : List (OutLeg F T U)) (ins : List (InLeg F T U)) (node : Member F T U) : Type 0 where
    pub whole : IsWholeMember node
    pub ports : ports_of node ≡ map (λ leg. fresh_port tx leg.requests) outs ++ map (λ leg. fresh_port tx leg.answers) ins
    pub rings : rings_of node ≡ map (λ leg. ring_side rx leg.requests) ins ++ map (λ leg. ring_side rx leg.answers) outs
    pub kind : IsNodeOf network number node
    pub unserved : member_entries node ≡ []

  -- the first nodes are made at their piles of legs
  pub record AreMadeAt (tx : tx.Ghosts T) (rx : rx.Ghosts U) (network : Network) (n : ℕ) (outs : List (List (OutLeg F T U))) (ins : List (List (InLeg F T U))) (nodes : List (Member F T U)) : Type 0 where
    pub count : length nodes ≡ n
    pub each : (m : ℕ) → m < n → IsMadeAt tx rx network m (pile_at outs m) (pile_at ins m) (node_at nodes m)
