-- What a node's turn answers: by what it found, and by how much went through it.
use Rattle.std.proofs.Common.{◌≡◌, ◌≢◌, ◌⊎◌, inl, inr, ℕ, ◌+◌, ◌<◌, ◌≤◌, Bool, true, false, true≢false, List, [], ◌∷◌, length, refl, sym, ap, ◌∙◌, arith, length-append}
use Rattle.std.specs.Prelude.{◌&&◌, ◌||◌, not, All, Option, Some, None, is_some}
use Rattle.std.proofs.lemmas.List.Elements.{All-nil, All-cons}
use Rattle.sb_link.specs.declared.answers.Turn.{Turn}
use Rattle.sb_link.specs.declared.answers.Turn.TheVariants.{Moved, Idle, Done}
use Rattle.sb_link.specs.declared.answers.Cause.{Cause}
use Rattle.sb_link.specs.Prefixes.{IsPrefix}
use Rattle.sb_port.specs.Waiting.{Waiting, some_owed}
use Rattle.sb_port.specs.Ports.{IsFit, PortSide, PortState}
use Rattle.sb_node.specs.Sides.{RingSide, has_rest, node_moves, port_moves}
use Rattle.sb_node.specs.Kept.{IsKeptPort}
use Rattle.sb_node.specs.Turns.{first_cause, IsAnswered}
use Rattle.sb_node.specs.Found.{IsTurnOf}
use Rattle.sb_node.specs.declared.findings.Findings.{Findings}

-- what begins a list isn't longer
pub prefix_length : {A : Type 0} {xs ys : List A} → IsPrefix xs ys → length xs ≤ length ys
prefix_length {A} {xs} {ys} p = let longer = length-append xs p.rest in let whole = ap length p.joined in omega (arith, longer, whole)

-- a port that is kept did no less than before
pub moves_kept : {before after : PortSide} → IsKeptPort before after → port_moves before ≤ port_moves after
moves_kept kept = let a = prefix_length kept.offered_more in let b = prefix_length kept.let_more_go in let c = prefix_length kept.sent_more in omega (arith, a, b, c)

-- nothing owed, nothing held, and the Close sent: nothing is left to send
no_rest : (w : Waiting) (close_requested close_sent : Bool) → w.owed ≡ [] → w.held ≡ None → close_sent ≡ true → ((some_owed w || (close_requested && not close_sent)) || is_some w.held) ≡ false
no_rest w close_requested close_sent owed held is =
    ap (λ list. (some_owed (record w { owed = list }) || (close_requested && not close_sent)) || is_some w.held) owed
    ∙ ap (λ h. (false || (close_requested && not close_sent)) || is_some h) held
    ∙ ap (λ b. (close_requested && not b) || false) is
    ∙ elim close_requested as (λ b. ((b && false) || false) ≡ false) [ true ↦ refl | false ↦ refl ]

-- a port that has something left to send hasn't sent its Close
pub rest_unshut : (port : PortSide) → IsFit port.plan port.state → has_rest port ≡ true → port.state.close_sent ≡ false
rest_unshut port fit rest = by_shut port.state.close_sent refl where
  by_shut : (b : Bool) → port.state.close_sent ≡ b → port.state.close_sent ≡ false
  by_shut true close_sent = absurd (true≢false (sym rest ∙ no_rest port.state.waiting port.state.close_requested port.state.close_sent (fit.none_owed close_sent) (fit.none_held close_sent) close_sent))
  by_shut false unshut = unshut

-- where nothing is owed and the Close wasn't sent, the port wasn't told to close
pub untold : (owing close_requested close_sent : Bool) → (owing || (close_requested && not close_sent)) ≡ false → close_sent ≡ false → close_requested ≡ false
untold true close_requested close_sent e unshut = absurd (true≢false e)
untold false false close_sent e unshut = refl
untold false true false e unshut = absurd (true≢false e)
untold false true true e unshut = absurd (true≢false unshut)

-- nothing was found yet
abbrev pub no_findings : Findings
no_findings = record { moved = false; full = None; waits = None; empty = None }

-- how much went through one port and one ring
pub moves_of_two : (port : PortSide) (ring : RingSide) → node_moves (port ∷ []) (ring ∷ []) ≡ port_moves port + length ring.received
moves_of_two port ring = omega arith

-- a port did as much as another one in the same state
pub same_moves : (port port_then : PortSide) → port_then.state ≡ port.state → port_moves port_then ≡ port_moves port
same_moves port port_then same = ap (λ (s : PortState). port_moves (record port { state = s })) same

-- a list of one
pub one_of : {A : Type 0} (P : A → Type 0) (x : A) → P x → All P (x ∷ [])
one_of P x p = All-cons P x [] p (All-nil P)

-- what a node found moved it, and something went through
pub record HasGone (found : Findings) (before after : ℕ) : Type 0 where
  pub moved : found.moved ≡ true
  pub more : before < after

-- it did nothing, and found its cause unless it is done
pub record HasStood (found : Findings) (before after : ℕ) (done : Bool) (causes_then : List (Option Cause)) (idle : Type 0) : Type 0 where
  pub unmoved : found.moved ≡ false
  pub same : after ≡ before
  pub cause : done ≡ false → (c : Cause) × (first_cause (found.full ∷ found.waits ∷ found.empty ∷ []) ≡ Some c) × (first_cause causes_then ≡ Some c)
  pub at_rest : idle

-- what the turn answers then
pub answered_by : (found : Findings) (before after : ℕ) (done : Bool) (list : List (Option Cause)) (idle : Type 0) (answer : Turn) → HasGone found before after ⊎ HasStood found before after done list idle
    → IsTurnOf found done answer → IsAnswered before after done list answer × (answer ≢ Moved → idle)
answered_by found before after done list idle Moved (inl gone) told = (gone.more, λ ne. absurd (ne refl))
answered_by found before after done list idle Done (inl gone) told = absurd (true≢false (sym gone.moved ∙ told.0))
answered_by found before after done list idle (Idle c) (inl gone) told = absurd (true≢false (sym gone.moved ∙ told.0))
answered_by found before after done list idle Moved (inr stood) told = absurd (true≢false (sym told ∙ stood.unmoved))
answered_by found before after done list idle Done (inr stood) told = ((stood.same, told.1), λ ne. stood.at_rest)
answered_by found before after done list idle (Idle c) (inr stood) told =
    let f = stood.cause told.1 in
    let same : Some f.0 ≡ Some c = sym f.1 ∙ told.2 in
    ((stood.same, told.1, f.2 ∙ same), λ ne. stood.at_rest)

-- a cause was found, unless the node moved or is done
pub cause_found : (found : Findings) (before after : ℕ) (done : Bool) (list : List (Option Cause)) (idle : Type 0) → HasGone found before after ⊎ HasStood found before after done list idle
    → found.moved ≡ false → done ≡ false → first_cause (found.full ∷ found.waits ∷ found.empty ∷ []) ≢ None
cause_found found before after done list idle (inl gone) unmoved undone = λ none. absurd (true≢false (sym gone.moved ∙ unmoved))
cause_found found before after done list idle (inr stood) unmoved undone = λ none. let f = stood.cause undone in let no_way : Some f.0 ≡ None = sym f.1 ∙ none in let no : ⊥ = cc in absurd no
