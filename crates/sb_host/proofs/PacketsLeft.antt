-- The packets that are left: none go with a transaction that is aimed at no device, and one goes with each that is offered.
use Rattle.std.proofs.Common.{◌≡◌, ◌<◌, ◌+◌, ℕ, zero, suc, arith, refl, sym, ap, ◌∙◌, length, List, [], ◌∷◌, ◌++◌, Bool, true, false, drop, Some}
use Rattle.std.specs.Prelude.{slice_get, if◌then◌else◌}
use Rattle.std.proofs.Math.ListN.{get_or}
use Rattle.std.proofs.Math.Seq.{drop-append_seam}
use Rattle.sb_packet.specs.Messages.{Message}
use Rattle.sb_packet.specs.Cuts.{cut_parts}
use Rattle.sb_host.specs.declared.transaction_plan.TransactionPlan.{TransactionPlan}
use Rattle.sb_host.specs.Asked.{Asked, line_message, packets_from, sent_packets}
use Rattle.sb_host.specs.Progress.{HasComeTo, packets_left}

drop_here : {X : Type 0} (xs : List X) (n : ℕ) (d : X) → n < length xs → drop n xs ≡ get_or xs n d ∷ drop (n + 1) xs
drop_here [] n d below = absurd (omega arith)
drop_here (x ∷ xs) zero d below = refl
drop_here (x ∷ xs) (suc n) d below = let next : suc n + 1 ≡ suc (n + 1) = omega arith in drop_here xs n d (omega arith) ∙ ap (λ (k : ℕ). get_or xs n d ∷ drop k (x ∷ xs)) (sym next)

-- those of the next transaction, and those behind it
packets_here : (asked : Asked) (next : ℕ) (l : TransactionPlan) → next < length asked.lines → l ≡ get_or asked.lines next l
    → packets_from asked next (drop next asked.lines) ≡ sent_packets asked next l ++ packets_from asked (next + 1) (drop (next + 1) asked.lines)
packets_here asked next l inside at =
    ap (packets_from asked next) (drop_here asked.lines next l inside)
    ∙ ap (λ (x : TransactionPlan). sent_packets asked next x ++ packets_from asked (next + 1) (drop (next + 1) asked.lines)) (sym at)

-- a transaction that is aimed at no device has no packets
unsent : (asked : Asked) (next : ℕ) (l : TransactionPlan) → l.aimed ≡ false → sent_packets asked next l ≡ []
unsent asked next l unaimed = ap (λ (b : Bool). if b then cut_parts 32 (line_message asked next l) else []) unaimed

-- one that is aimed at a device has them all
pub sent : (asked : Asked) (next : ℕ) (l : TransactionPlan) → l.aimed ≡ true → sent_packets asked next l ≡ cut_parts 32 (line_message asked next l)
sent asked next l aimed = ap (λ (b : Bool). if b then cut_parts 32 (line_message asked next l) else []) aimed

-- before a transaction that is aimed at no device no packet of it was offered
pub none_begun : (asked : Asked) (next part : ℕ) (l : TransactionPlan) → HasComeTo asked next part → l ≡ get_or asked.lines next l → l.aimed ≡ false → part ≡ 0
none_begun asked next zero l come at unaimed = refl
none_begun asked next (suc part) l come at unaimed =
    let begun = (come.begun (omega arith) l).1 in
    let none : length (sent_packets asked next (get_or asked.lines next l)) ≡ 0 = ap (λ (x : TransactionPlan). length (sent_packets asked next x)) (sym at) ∙ ap length (unsent asked next l unaimed) in
    absurd (omega (arith, begun, none))

-- it is passed over
pub passed_left : (asked : Asked) (next : ℕ) (l : TransactionPlan) → next < length asked.lines → l ≡ get_or asked.lines next l → l.aimed ≡ false
    → packets_left asked (next + 1) 0 ≡ packets_left asked next 0
passed_left asked next l inside at unaimed =
    sym (packets_here asked next l inside at ∙ ap (λ (list : List Message). list ++ packets_from asked (next + 1) (drop (next + 1) asked.lines)) (unsent asked next l unaimed))

drop_some : (ms rest : List Message) (k : ℕ) (m : Message) → slice_get ms k ≡ Some m → drop k (ms ++ rest) ≡ m ∷ drop (k + 1) (ms ++ rest)
drop_some [] rest k m is = absurd (cc)
drop_some (x ∷ ms) rest zero m is = let same : x ≡ m = cc in ap (λ (y : Message). y ∷ (ms ++ rest)) same
drop_some (x ∷ ms) rest (suc k) m is = let next : suc k + 1 ≡ suc (k + 1) = omega arith in drop_some ms rest k m is ∙ ap (λ (n : ℕ). m ∷ drop n (x ∷ (ms ++ rest))) (sym next)

-- a packet is offered
pub packet_first : (asked : Asked) (next part : ℕ) (l : TransactionPlan) (m : Message) → next < length asked.lines → l ≡ get_or asked.lines next l → l.aimed ≡ true
    → slice_get (cut_parts 32 (line_message asked next l)) part ≡ Some m
    → packets_left asked next part ≡ m ∷ packets_left asked next (part + 1)
packet_first asked next part l m inside at aimed is =
    let ms = cut_parts 32 (line_message asked next l) in
    let rest = packets_from asked (next + 1) (drop (next + 1) asked.lines) in
    let here : packets_from asked next (drop next asked.lines) ≡ ms ++ rest = packets_here asked next l inside at ∙ ap (λ (list : List Message). list ++ rest) (sent asked next l aimed) in
    ap (drop part) here ∙ drop_some ms rest part m is ∙ ap (λ (list : List Message). m ∷ drop (part + 1) list) (sym here)

-- the last packet of a transaction was offered
pub behind_last : (asked : Asked) (next count : ℕ) (l : TransactionPlan) → next < length asked.lines → l ≡ get_or asked.lines next l → l.aimed ≡ true
    → count ≡ length (cut_parts 32 (line_message asked next l)) → packets_left asked next count ≡ packets_left asked (next + 1) 0
behind_last asked next count l inside at aimed all =
    let ms = cut_parts 32 (line_message asked next l) in
    let rest = packets_from asked (next + 1) (drop (next + 1) asked.lines) in
    let here : packets_from asked next (drop next asked.lines) ≡ ms ++ rest = packets_here asked next l inside at ∙ ap (λ (list : List Message). list ++ rest) (sent asked next l aimed) in
    ap (drop count) here ∙ ap (λ (n : ℕ). drop n (ms ++ rest)) all ∙ drop-append_seam ms rest
