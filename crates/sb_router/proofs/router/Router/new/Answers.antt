-- new: the tables are those of the links that the legs are of.
use Rattle.std.proofs.Common.{ℕ, ◌<◌, true, false, List, length, map, sym, ap, ◌∙◌, subst}
use Rattle.std.proofs.lemmas.List.{length-map}
use Rattle.sb_flow.specs.NetworkOf.{network_of}
use Rattle.sb_router.specs.Ways.{IsTableOf}
use Rattle.sb_router.proofs.Results.{ok_then}
use Rattle.sb_router.proofs.router.Router.new.Goals as goal

pub with_routes-requires-clause-down : goal.with_routes-requires-clause-down
with_routes-requires-clause-down g c =
    let to = ap length (c.as_slice-3.ensures.value ∙ c.in_ok-to.ensures.links ∙ ap (λ legs. map (λ leg. leg.link) legs) c.as_slice.ensures.value) ∙ length-map c.args.outs.items (λ leg. leg.link) in
    λ _ _ f o e. subst (λ (n : ℕ). o < n) to (c.in_ok-down.ensures.within f o e)

pub with_routes-requires-clause-up : goal.with_routes-requires-clause-up
with_routes-requires-clause-up g c =
    let from = ap length (c.as_slice-4.ensures.value ∙ c.in_ok-from.ensures.links ∙ ap (λ legs. map (λ leg. leg.link) legs) c.as_slice-2.ensures.value) ∙ length-map c.args.ins.items (λ leg. leg.link) in
    λ _ _ f o e. subst (λ (n : ℕ). o < n) from (c.in_ok-up.ensures.within f o e)

pub returns-clause-down : goal.returns-clause-down
returns-clause-down g c =
    let same = c.as_slice-3.ensures.value ∙ c.in_ok-to.ensures.links ∙ ap (λ legs. map (λ leg. leg.link) legs) c.as_slice.ensures.value in
    let table = subst (λ (links : List ℕ). IsTableOf (network_of c.args.bundle.now) false c.args.number links c.in_ok-down.down.rows.items) same c.in_ok-down.ensures.table in
    ok_then c.with_routes.result (λ r same_rows. subst (λ rows. IsTableOf (network_of c.args.bundle.now) false c.args.number (map (λ leg. leg.link) c.args.outs.items) rows) (sym same_rows) table) c.with_routes.ensures.down

pub returns-clause-up : goal.returns-clause-up
returns-clause-up g c =
    let same = c.as_slice-4.ensures.value ∙ c.in_ok-from.ensures.links ∙ ap (λ legs. map (λ leg. leg.link) legs) c.as_slice-2.ensures.value in
    let table = subst (λ (links : List ℕ). IsTableOf (network_of c.args.bundle.now) true c.args.number links c.in_ok-up.up.rows.items) same c.in_ok-up.ensures.table in
    ok_then c.with_routes.result (λ r same_rows. subst (λ rows. IsTableOf (network_of c.args.bundle.now) true c.args.number (map (λ leg. leg.link) c.args.ins.items) rows) (sym same_rows) table) c.with_routes.ensures.up
