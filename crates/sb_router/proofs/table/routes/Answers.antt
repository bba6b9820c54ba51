-- routes: one row after another.
use Rattle.std.proofs.Common.{ℕ, ◌+◌, ◌∙◌, Option, None, List, [], ◌∷◌, get_or, length, length-append, sym, ap}
use Rattle.sb_flow.specs.NetworkOf.{network_of}
use Rattle.sb_router.specs.Ways.{place_on}
use Rattle.sb_router.proofs.Tables.{rows_more, rows_within}
use Rattle.sb_router.proofs.table.routes.Goals as goal

pub loop-host-preserved : goal.loop-host-preserved
loop-host-preserved c =
    let inv = c.loop-host.invariant in
    let items = c.in_ok-push.ensures.items in
    let n = length c.args.links.now in
    let p : ℕ → ℕ → Option ℕ = λ h k. place_on (network_of c.args.bundle.now) c.args.up c.args.router c.args.links.now (record { host = h; device = k }) in
    record {
      count = ap length items ∙ length-append c.loop-host.rows.items (c.row.result ∷ []) ∙ ap (λ (k : ℕ). k + 1) inv.count;
      places = λ h k below lt. ap (λ (rows : List (List (Option ℕ))). get_or (get_or rows h []) k None) items
          ∙ rows_more c.loop-host.rows.items c.row.result c.loop-host.host p inv.count c.row.ensures.places inv.places h k below lt;
      within = λ h k o e. rows_within c.loop-host.rows.items c.row.result n c.row.ensures.within inv.within h k o (sym (ap (λ (rows : List (List (Option ℕ))). get_or (get_or rows h []) k None) items) ∙ e);
    }
