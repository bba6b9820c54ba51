-- What is found in the turns of both directions is what a router answers by.
use Rattle.std.proofs.Common.{◌≡◌, ◌≢◌, ◌&&◌, ℕ, Bool, false, List, [], ◌∷◌, ◌++◌, map, All, Option, None, sym, ap, ◌∙◌, subst}
use Rattle.std.specs.List.{list_all}
use Rattle.sb_link.specs.declared.answers.Turn.{Turn}
use Rattle.sb_link.specs.declared.answers.Turn.TheVariants.{Moved}
use Rattle.sb_node.specs.declared.findings.Findings.{Findings}
use Rattle.sb_node.specs.Found.{IsTurnOf}
use Rattle.sb_node.specs.Sides.{is_done}
use Rattle.sb_node.specs.Turns.{first_cause}
use Rattle.sb_router.specs.Lanes.{LaneState}
use Rattle.sb_router.specs.Popping.{found_in_both}
use Rattle.sb_router.specs.Ways.{route_of}
use Rattle.sb_router.specs.Turning.{IsLaneTurn}
use Rattle.sb_router.specs.Forwarding.{IsWholeInlet, IsWholeLane}
use Rattle.sb_router.specs.Routers.{IsKeptRouter, IsRestedRouter, IsRouterTurn, IsWholeRouter, RouterSide}
use Rattle.sb_router.proofs.RouterTurns.{done_both, has_cause, kept_direction, router_rests, router_turn}

-- a direction is done
abbrev pub lane_done : LaneState → Bool
lane_done t = list_all (λ y. y.state.close_sent) t.outlets && list_all (λ x. x.ended) t.inlets

-- both are
abbrev pub both_done : LaneState → LaneState → Bool
both_done a b = is_done (a.outlets ++ b.outlets) (map (λ x. x.ring) a.inlets ++ map (λ x. x.ring) b.inlets)

are_done : (a b : LaneState) (x y : Bool) → All IsWholeInlet a.inlets → All IsWholeInlet b.inlets → x ≡ lane_done a → y ≡ lane_done b → (x && y) ≡ both_done a b
are_done a b x y w v e f = ap (λ (z : Bool). z && y) e ∙ ap (λ (z : Bool). lane_done a && z) f ∙ done_both a b w v

-- the answer is by what was found in both
pub found_done : (a b : LaneState) (found one two : Findings) (x y : Bool) (answer : Turn) → All IsWholeInlet a.inlets → All IsWholeInlet b.inlets → found ≡ found_in_both one two
    → x ≡ lane_done a → y ≡ lane_done b → IsTurnOf found (x && y) answer → IsTurnOf (found_in_both one two) (both_done a b) answer
found_done a b found one two x y answer w v is e f turn =
    subst (λ (z : Bool). IsTurnOf (found_in_both one two) z answer) (are_done a b x y w v e f) (subst (λ (z : Findings). IsTurnOf z (x && y) answer) is turn)

-- there is a cause where nothing moved and not all is done
pub some_cause : (down up : List (List (Option ℕ))) (found : Findings) {p q a b : LaneState} {one two : Findings} (x y : Bool) → IsLaneTurn (route_of down) p a one → IsLaneTurn (route_of up) q b two
    → IsWholeLane (route_of down) a → IsWholeLane (route_of up) b → found ≡ found_in_both one two → x ≡ lane_done a → y ≡ lane_done b
    → found.moved ≡ false → (x && y) ≡ false → first_cause (found.full ∷ found.waits ∷ found.empty ∷ []) ≢ None
some_cause down up found {p} {q} {a} {b} {one} {two} x y turn_p turn_q w v is e f still undone none =
    has_cause down up turn_p turn_q w v (sym (ap (λ (z : Findings). z.moved) is) ∙ still) (sym (are_done a b x y w.inlets v.inlets e f) ∙ undone)
    (sym (ap (λ (z : Findings). first_cause (z.full ∷ z.waits ∷ z.empty ∷ [])) is) ∙ none)

-- what a router's turn promises
pub record IsPromisedTurn (before : RouterSide) (answer : Turn) (after : RouterSide) : Type 0 where
  pub turned : IsRouterTurn before answer after
  pub kept : IsKeptRouter before after
  pub rested : answer ≢ Moved → IsRestedRouter before after
  pub whole : IsWholeRouter after

-- a router of two directions
abbrev pub two_directions : List (List (Option ℕ)) → LaneState → List (List (Option ℕ)) → LaneState → RouterSide
two_directions down p up q = record { requests = record { rows = down; lane = p }; answers = record { rows = up; lane = q } }

-- both directions took their turns, and their rows stayed the same
pub both_turned : (down up : List (List (Option ℕ))) {rows_p rows_q : List (List (Option ℕ))} {p q p' q' : LaneState} {a b : Findings} → rows_p ≡ down → rows_q ≡ up
    → IsLaneTurn (route_of down) p p' a → IsLaneTurn (route_of up) q q' b → IsWholeLane (route_of down) p' → IsWholeLane (route_of up) q'
    → (answer : Turn) → IsTurnOf (found_in_both a b) (both_done p' q') answer
    → IsPromisedTurn (two_directions down p up q) answer (two_directions rows_p p' rows_q q')
both_turned down up {rows_p} {rows_q} {p} {q} {p'} {q'} same_p same_q turn_p turn_q whole_p whole_q answer is =
    subst (λ (rows : List (List (Option ℕ))). IsPromisedTurn (two_directions down p up q) answer (two_directions rows p' rows_q q')) (sym same_p)
    (subst (λ (rows : List (List (Option ℕ))). IsPromisedTurn (two_directions down p up q) answer (two_directions down p' rows q')) (sym same_q)
    (record {
      turned = router_turn down up turn_p turn_q whole_p whole_q answer is;
      kept = record { requests = kept_direction turn_p; answers = kept_direction turn_q };
      rested = router_rests down up turn_p turn_q whole_p whole_q answer is;
      whole = record { requests = whole_p; answers = whole_q };
    }))
