-- What is found of the host with an id.
use Rattle.std.proofs.Common.{◌≤◌, ℕ, Bool, true, false, cond, List, [], ◌∷◌, length, arith, Option, Some}
use Rattle.std.specs.Prelude.{All, ◌==◌}
use Rattle.std.specs.List.{find}
use Rattle.std.specs.Option.{option_map_or}
use Rattle.std.proofs.lemmas.List.Elements.{All-head, All-tail}
use Rattle.sb_flow.specs.Tables.{HostTable}
use Rattle.sb_flow.specs.Gathered.{flows_from}

-- of two hosts that may be found, neither has more flows
short_found : (b : Bool) (n : ℕ) (x y : Option HostTable) → length (option_map_or (λ h. h.flows) x []) ≤ n → length (option_map_or (λ h. h.flows) y []) ≤ n → length (option_map_or (λ h. h.flows) (cond b x y) []) ≤ n
short_found true n x y hx hy = hx
short_found false n x y hx hy = hy

-- where no host has more flows than that, the one that is found hasn't either
pub flows_from-short : (n : ℕ) (hosts : List HostTable) (id : ℕ) → All (λ h. length h.flows ≤ n) hosts → length (flows_from hosts id) ≤ n
flows_from-short n [] id short = omega arith
flows_from-short n (h ∷ hosts) id short = short_found (h.id == id) n (Some h) (find (λ h. h.id == id) hosts) (All-head (λ h. length h.flows ≤ n) h hosts short) (flows_from-short n hosts id (All-tail (λ h. length h.flows ≤ n) h hosts short))
