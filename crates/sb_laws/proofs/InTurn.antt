-- Items that may follow one another: the Close is the last of them, and their words are within the budget.
use Rattle.std.proofs.Common.{◌≤◌, List, [], ◌∷◌, ◌++◌, length, refl, sym, ap, ◌∙◌, arith, subst, append_assoc, append-nil, length-append}
use Rattle.std.proofs.lemmas.List.Concat.{flat_map-append}
use Rattle.sb_packet.specs.Accesses.{accesses_of_item}
use Rattle.sb_link.specs.RingPlans.{RingPlan}
use Rattle.sb_link.specs.Prefixes.{IsPrefix}
use Rattle.sb_link.specs.Traffic.{item_accesses, MayFollow, AreInTurn}
use Rattle.sb_packet.specs.declared.item.Item.{Item}
use Rattle.sb_laws.specs.Moments.{ClosesLast}

pub turn_closes_last : (plan : RingPlan) (list : List Item) → AreInTurn plan list → ClosesLast list
turn_closes_last plan list turn before after item cut = (turn before after item cut).unclosed

words_behind : (plan : RingPlan) (before rest : List Item) → length (item_accesses before) ≤ plan.budget → AreInTurn plan (before ++ rest) → length (item_accesses (before ++ rest)) ≤ plan.budget
words_behind plan before [] few turn = subst (λ (l : List Item). length (item_accesses l) ≤ plan.budget) (sym (append-nil before)) few
words_behind plan before (item ∷ rest) few turn =
    let may : MayFollow plan before item = turn before rest item refl in
    let joined = ap length (flat_map-append accesses_of_item before (item ∷ [])) in
    let one = ap length (append-nil (accesses_of_item item)) in
    let more : length (item_accesses (before ++ item ∷ [])) ≤ plan.budget = let room = may.room in omega (arith, joined, one, length-append (item_accesses before) (accesses_of_item item ++ []), room) in
    subst (λ (l : List Item). length (item_accesses l) ≤ plan.budget) (append_assoc before (item ∷ []) rest)
    (words_behind plan (before ++ item ∷ []) rest more (subst (AreInTurn plan) (sym (append_assoc before (item ∷ []) rest)) turn))

-- what begins a list in turn is in turn
pub begins_in_turn : (plan : RingPlan) (list all : List Item) → IsPrefix list all → AreInTurn plan all → AreInTurn plan list
begins_in_turn plan list all begins turn before after item cut =
    turn before (after ++ begins.rest) item (sym begins.joined ∙ ap (λ (l : List Item). l ++ begins.rest) cut ∙ append_assoc before (item ∷ after) begins.rest)

pub turn_words_are_few : (plan : RingPlan) (list : List Item) → AreInTurn plan list → length (item_accesses list) ≤ plan.budget
turn_words_are_few plan list turn = words_behind plan [] list (omega arith) turn
