-- Lists of items of which each may follow those before it.
use Rattle.std.proofs.Common.{◌≡◌, ◌≤◌, List, [], ◌∷◌, ◌++◌, false, ap, subst, arith, length}
use Rattle.sb_link.specs.RingPlans.{RingPlan}
use Rattle.std.proofs.Common.{◌<◌}
use Rattle.std.proofs.lemmas.List.{length-append}
use Rattle.std.proofs.lemmas.List.FromFn.{length-map-range_with_len}
use Rattle.sb_packet.specs.Accesses.{accesses_of}
use Rattle.sb_link.specs.Traffic.{AreInTurn, MayFollow, has_close, item_accesses}
use Rattle.sb_packet.specs.declared.packet.Packet.{Packet}
use Rattle.sb_packet.specs.declared.item.Item.{Item}
use Rattle.sb_packet.specs.declared.item.Item.TheVariants as items
use Rattle.sb_packet.proofs.Opcodes.{some_words}

-- a list that ends in x, cut at y, is cut at x or before it
cut_at_end : {A : Type 0} (xs ys zs : List A) (x y : A) (P : List A → A → Type 0) → xs ++ x ∷ [] ≡ ys ++ y ∷ zs
    → P xs x → ((us vs : List A) (z : A) → xs ≡ us ++ z ∷ vs → P us z) → P ys y
cut_at_end [] [] zs x y P e here before = let h : x ≡ y = cc in subst (λ z. P [] z) h here
cut_at_end [] (b ∷ []) zs x y P e here before = let h : ⊥ = cc in absurd h
cut_at_end [] (b ∷ c ∷ ys) zs x y P e here before = let h : ⊥ = cc in absurd h
cut_at_end (a ∷ xs) [] zs x y P e here before = let h : a ≡ y = cc in before [] xs y (ap (λ z. z ∷ xs) h)
cut_at_end (a ∷ xs) (b ∷ ys) zs x y P e here before = let h : a ≡ b = cc in let t : xs ++ x ∷ [] ≡ ys ++ y ∷ zs = cc in
    subst (λ c. P (c ∷ ys) y) h (cut_at_end xs ys zs x y (λ us z. P (a ∷ us) z) t here (λ us vs z q. before (a ∷ us) vs z (ap (λ l. a ∷ l) q)))

-- an item that may follow a list in turn comes to its end in turn
pub appended_in_turn : {plan : RingPlan} (list : List Item) (item : Item) → AreInTurn plan list → MayFollow plan list item → AreInTurn plan (list ++ item ∷ [])
appended_in_turn {plan} list item in_turn may before after other cut = cut_at_end list before after item other (λ us z. MayFollow plan us z) cut may in_turn

-- nothing is in turn
pub nothing_in_turn : {plan : RingPlan} → AreInTurn plan []
nothing_in_turn [] after item cut = let h : ⊥ = cc in absurd h
nothing_in_turn (x ∷ before) after item cut = let h : ⊥ = cc in absurd h

-- a packet has a word
pub some_accesses : (p : Packet) → 0 < length (accesses_of p)
some_accesses p = let some = some_words p.cmd.op p.cmd.len in rw length-map-range_with_len some

-- items without a Close have at least as many words as items
pub unclosed_are_few : (list : List Item) → has_close list ≡ false → length list ≤ length (item_accesses list)
unclosed_are_few [] unclosed = omega arith
unclosed_are_few (items.Packet p ∷ rest) unclosed =
    let more : length rest ≤ length (item_accesses rest) = unclosed_are_few rest unclosed in
    let some = some_accesses p in
    rw length-append (omega (arith, more, some))
unclosed_are_few (items.Close ∷ rest) unclosed = let no_way : ⊥ = cc in absurd no_way

-- where one more item may follow, there are no more items than the budget has words
pub few_before : (plan : RingPlan) (list : List Item) (item : Item) → MayFollow plan list item → length list ≤ plan.budget
few_before plan list item may = let few = unclosed_are_few list may.unclosed in let room = may.room in omega (arith, few, room)
