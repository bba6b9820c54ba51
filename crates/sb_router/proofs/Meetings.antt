-- A direction whose ring's end or port met the other one is whole still.
use Rattle.std.proofs.Common.{ℕ, ◌<◌, length, refl, sym, ap, ◌∙◌, subst, arith}
use Rattle.std.proofs.lemmas.List.{length-set}
use Rattle.std.proofs.lemmas.List.Elements.{All-get_or, All-set}
use Rattle.sb_packet.specs.Messages.{message_of}
use Rattle.sb_link.specs.RingPlans.{RingPlan}
use Rattle.sb_link.specs.Traffic.{IsCarriable, has_close}
use Rattle.sb_port.specs.Ports.{IsFit, PortSide, PortState, port_accesses}
use Rattle.sb_node.specs.Kept.{IsPortMet, IsRingMet}
use Rattle.sb_node.specs.Sides.{RingSide}
use Rattle.sb_router.specs.Lanes.{InletState, inlet_at, no_inlet, no_port, outlet_at}
use Rattle.sb_router.specs.Steps.{IsSilent}
use Rattle.sb_router.specs.Forwarding.{IsWholeInlet, IsWholeOutlet, Words}
use Rattle.sb_router.specs.Routers.{DirectionSide, ForwardsAll, IsWholeDirection, with_port, with_ring}
use Rattle.sb_router.proofs.ForwardSteps.{acting, laid_then, looking}
use Rattle.sb_router.proofs.Shapes.{inlets_shape, outlets_shape}
use Rattle.sb_router.proofs.WholeSteps.{told_before}

module _ (d : DirectionSide) (k : ℕ) where
  module _ (ring : RingSide) (lt : k < length d.lane.inlets) (is : IsRingMet (inlet_at d.lane k).ring ring) where
    abbrev x : InletState
    x = record (inlet_at d.lane k) { ring = ring }

    met_inlet : IsWholeInlet (inlet_at d.lane k) → IsWholeInlet x
    met_inlet w = record {
      ended = w.ended ∙ sym (ap has_close is.received);
      last = λ p e. let last = w.last p e in record { before = last.before; joined = is.received ∙ last.joined };
      carriable = λ p e. subst (λ (plan : RingPlan). IsCarriable plan (message_of p)) (sym is.plan) (w.carriable p e);
    }

    pub ring_whole : IsWholeDirection d → IsWholeDirection (with_ring d k ring)
    ring_whole w = record {
      inlets = All-set IsWholeInlet d.lane.inlets k x (met_inlet (All-get_or IsWholeInlet d.lane.inlets k no_inlet lt w.inlets)) w.inlets;
      outlets = w.outlets;
      silent = λ o within told. let silent = w.silent o within told in let at = All-get_or IsSilent d.lane.inlets k no_inlet lt silent in
          All-set IsSilent d.lane.inlets k x (record { ended = at.ended; free = at.free }) silent;
      routed = w.routed;
    }

    pub ring_forwards : (words : Words) → ForwardsAll words d → ForwardsAll words (with_ring d k ring)
    ring_forwards words h = record {
      laid = laid_then (inlets_shape d.lane k x lt is.plan) h.laid;
      forwards = looking d.lane h.forwards k x lt is.plan is.received refl;
    }

  module _ (port : PortSide) (lt : k < length d.lane.outlets) (is : IsPortMet (outlet_at d.lane k) port) where
    met_outlet : IsWholeOutlet (outlet_at d.lane k) → IsWholeOutlet port
    met_outlet w = record {
      fit = subst (λ (plan : RingPlan). IsFit plan port.state) (sym is.plan) (subst (λ (state : PortState). IsFit (outlet_at d.lane k).plan state) (sym is.state) w.fit);
    }

    pub port_whole : IsWholeDirection d → IsWholeDirection (with_port d k port)
    port_whole w = record {
      inlets = w.inlets;
      outlets = All-set IsWholeOutlet d.lane.outlets k port (met_outlet (All-get_or IsWholeOutlet d.lane.outlets k no_port lt w.outlets)) w.outlets;
      silent = λ q inside told. w.silent q (omega (arith, inside, length-set d.lane.outlets k port))
          (told_before d.lane k q port lt (λ e. sym (ap (λ (state : PortState). state.close_requested) is.state) ∙ e) told);
      routed = λ f q e. let r = w.routed f q e in omega (arith, r, length-set d.lane.outlets k port);
    }

    pub port_forwards : (words : Words) → ForwardsAll words d → ForwardsAll words (with_port d k port)
    port_forwards words h = record {
      laid = laid_then (outlets_shape d.lane k port lt is.plan) h.laid;
      forwards = acting d.lane h.forwards k port lt is.plan (ap port_accesses is.state);
    }
