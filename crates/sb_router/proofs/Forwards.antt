-- What holds of the words of a direction at any time, and stays so while items are received.
use Rattle.std.proofs.Common.{◌≡◌, inl, inr, ℕ, ◌<◌, ◌+◌, List, [], ◌∷◌, ◌++◌, length, set, get_or, All, refl, sym, ap, ◌∙◌, subst, arith, length-append}
use Rattle.std.specs.Prelude.{filter, sum_by}
use Rattle.std.proofs.lemmas.List.{get_or_default, length-set}
use Rattle.std.proofs.lemmas.List.Elements.{filter-append, All-from_recursion, recursion_from_All}
use Rattle.std.proofs.lemmas.List.Sums.{sum_by-set}
use Rattle.std.specs.List.{AllByRecursion}
use Rattle.sb_packet.specs.Accesses.{Access, accesses_of_item}
use Rattle.sb_link.specs.RingPlans.{NetFlow}
use Rattle.sb_link.specs.Prefixes.{IsSubsequence}
use Rattle.sb_packet.specs.Cuts.{IsSound}
use Rattle.sb_link.specs.Traffic.{item_accesses, item_messages}
use Rattle.sb_packet.specs.declared.item.Item.{Item}
use Rattle.sb_node.specs.Sides.{received_words}
use Rattle.sb_node.proofs.Items.{item_more}
use Rattle.sb_router.specs.Lanes.{InletState, LaneState, Route, came_at, held_words_at, held_words, inlet_at, no_inlet, offered_at}
use Rattle.sb_router.specs.Steps.{IsTakenByInlet, held_of}
use Rattle.sb_router.specs.Forwarding.{Words, Passes, HasSoundInlets, Forwards, HasForwarded, came_for, held_for, part, popped_for}
use Rattle.sb_router.proofs.Places.{set_cases}
use Rattle.sb_router.proofs.Shapes.{inlets_shape, passed_before}
use Rattle.sb_router.proofs.Subsequences.{all_came, more_came, without_end}
use Rattle.sb_packet.specs.declared.item.Item.TheVariants as items

pub has_forwarded : {words : Words} {route : Route} {s : LaneState} → Forwards words route s → (f : NetFlow) (i o : ℕ) → Passes route s f i o → HasForwarded words s f i o
has_forwarded {words} {route} {s} h f i o passes = record {
  in_order = without_end (part words f (offered_at s o)) (part words f (held_words_at s i)) (h.picks f i o passes);
  whole = h.whole f i o passes;
}

-- the words of an item are held, if it has any
pub held_item : (item : Item) → held_words (held_of item) ≡ accesses_of_item item
held_item (items.Packet p) = refl
held_item items.Close = refl

-- the front of a list of sound packets
pub sound_front : (list more : List Item) → All IsSound (item_messages (list ++ more)) → All IsSound (item_messages list)
sound_front list more all = All-from_recursion IsSound (item_messages list) (front list (recursion_from_All IsSound (item_messages (list ++ more)) all))
  where
    front : (xs : List Item) → AllByRecursion IsSound (item_messages (xs ++ more)) → AllByRecursion IsSound (item_messages xs)
    front [] h = tt
    front (items.Packet p ∷ xs) h = (h.0, front xs h.1)
    front (items.Close ∷ xs) h = front xs h

-- what was sound is sound without the last items of a ring
pub sound_before : (s : LaneState) (i : ℕ) (x : InletState) (more : List Item) → i < length s.inlets → x.ring.received ≡ (inlet_at s i).ring.received ++ more
    → HasSoundInlets (record s { inlets = set s.inlets i x }) → HasSoundInlets s
sound_before s i x more lt e all k d kt =
    let IsSoundRing : InletState → Type 0 = λ y. All IsSound (item_messages y.ring.received) in
    let there : IsSoundRing (get_or (set s.inlets i x) k no_inlet) = all k no_inlet (omega (arith, kt, length-set s.inlets i x)) in
    let at : IsSoundRing (inlet_at s k) = elim (set_cases s.inlets i k x no_inlet lt) [
      | inl q ↦ let new : All IsSound (item_messages x.ring.received) = subst IsSoundRing q.1 there in
          let old : IsSoundRing (inlet_at s i) = sound_front (inlet_at s i).ring.received more (subst (λ (l : List Item). All IsSound (item_messages l)) e new) in
          subst (λ (j : ℕ). IsSoundRing (inlet_at s j)) (sym q.0) old
      | inr q ↦ subst IsSoundRing q there
    ] in
    subst IsSoundRing (get_or_default s.inlets k no_inlet d kt) at

module _ {words : Words} {route : Route} (s : LaneState) (h : Forwards words route s) where
  -- an item was received
  module _ (i : ℕ) (x : InletState) (item : Item) (lt : i < length s.inlets) (is : IsTakenByInlet (inlet_at s i) x item) where
    abbrev pub t : LaneState
    t = record s { inlets = set s.inlets i x }

    came : received_words x.ring ≡ came_at s i ++ accesses_of_item item
    came = ap item_accesses is.received ∙ item_more (inlet_at s i).ring.received item

    held : held_words x.held ≡ accesses_of_item item
    held = ap held_words is.held ∙ held_item item

    free : held_words_at s i ≡ []
    free = ap held_words is.free

    came_count : (o : ℕ) → came_for words o x ≡ came_for words o (inlet_at s i) + length (filter (words.goes_to o) (accesses_of_item item))
    came_count o = ap (λ (l : List Access). length (filter (words.goes_to o) l)) came ∙ ap length (filter-append (words.goes_to o) (came_at s i) (accesses_of_item item))
        ∙ length-append (filter (words.goes_to o) (came_at s i)) (filter (words.goes_to o) (accesses_of_item item))

    held_count : (o : ℕ) → held_for words o x ≡ length (filter (words.goes_to o) (accesses_of_item item))
    held_count o = ap (λ (l : List Access). length (filter (words.goes_to o) l)) held

    free_count : (o : ℕ) → held_for words o (inlet_at s i) ≡ 0
    free_count o = ap (λ (l : List Access). length (filter (words.goes_to o) l)) free

    came_sum : (o : ℕ) → popped_for words t o ≡ popped_for words s o + length (filter (words.goes_to o) (accesses_of_item item))
    came_sum o = let sum = sum_by-set (came_for words o) s.inlets i x no_inlet lt in omega (arith, sum, came_count o)

    held_sum : (o : ℕ) → sum_by (held_for words o) t.inlets ≡ sum_by (held_for words o) s.inlets + length (filter (words.goes_to o) (accesses_of_item item))
    held_sum o = let sum = sum_by-set (held_for words o) s.inlets i x no_inlet lt in omega (arith, sum, held_count o, free_count o)

    part_came : (f : NetFlow) → part words f (received_words x.ring) ≡ part words f (came_at s i) ++ part words f (accesses_of_item item)
    part_came f = ap (part words f) came ∙ filter-append (words.is_of f) (came_at s i) (accesses_of_item item)

    pub receiving : Forwards words route t
    receiving = record {
      few = λ o. let old = h.few o in omega (arith, old, came_sum o, held_sum o);
      picks = λ f j o passes.
          let old = h.picks f j o (passed_before (inlets_shape s i x lt is.kept.plan) passes) in
          let O = part words f (offered_at s o) in
          elim (set_cases s.inlets i j x no_inlet lt) [
            | inl q ↦
                let at : IsSubsequence (O ++ part words f (held_words_at s i)) (part words f (came_at s i)) = subst (λ (k : ℕ). IsSubsequence (O ++ part words f (held_words_at s k)) (part words f (came_at s k))) q.0 old in
                let new : IsSubsequence (O ++ part words f (held_words x.held)) (part words f (received_words x.ring)) =
                more_came O (part words f (held_words_at s i)) (part words f (came_at s i)) (part words f (accesses_of_item item)) (ap (part words f) free) (ap (part words f) held) (part_came f) at in
                subst (λ (y : InletState). IsSubsequence (O ++ part words f (held_words y.held)) (part words f (received_words y.ring))) (sym q.1) new
            | inr q ↦ subst (λ (y : InletState). IsSubsequence (O ++ part words f (held_words y.held)) (part words f (received_words y.ring))) (sym q) old
          ];
      whole = λ f j o passes sound room.
          let old = h.whole f j o (passed_before (inlets_shape s i x lt is.kept.plan) passes) (sound_before s i x (item ∷ []) lt is.received sound) (omega (arith, room, came_sum o)) in
          let O = part words f (offered_at s o) in
          elim (set_cases s.inlets i j x no_inlet lt) [
            | inl q ↦
                let at : part words f (came_at s i) ≡ O ++ part words f (held_words_at s i) = subst (λ (k : ℕ). part words f (came_at s k) ≡ O ++ part words f (held_words_at s k)) q.0 old in
                let new : part words f (received_words x.ring) ≡ O ++ part words f (held_words x.held) =
                all_came O (part words f (held_words_at s i)) (part words f (came_at s i)) (part words f (accesses_of_item item)) (ap (part words f) free) (ap (part words f) held) (part_came f) at in
                subst (λ (y : InletState). part words f (received_words y.ring) ≡ O ++ part words f (held_words y.held)) (sym q.1) new
            | inr q ↦ subst (λ (y : InletState). part words f (received_words y.ring) ≡ O ++ part words f (held_words y.held)) (sym q) old
          ];
    }
