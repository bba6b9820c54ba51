-- What keeps a port fit.
use Rattle.std.proofs.Common.{◌≡◌, ◌≤◌, ℕ, ◌+◌, List, [], ◌∷◌, ◌++◌, refl, ap, sym, ◌∙◌, arith, length, drop, false, true, append_assoc, subst}
use Rattle.std.specs.Prelude.{flat_map, ◌≢◌, All}
use Rattle.std.proofs.lemmas.List.{length-append}
use Rattle.std.proofs.lemmas.List.Elements.{All-push, All-head, All-tail, All-append, All-nil}
use Rattle.std.proofs.lemmas.List.FromFn.{length-map-range_with_len}
use Rattle.std.proofs.lemmas.Grind.{flat_map-append}
use Rattle.sb_packet.specs.Accesses.{Access, accesses_of, access_at, message_accesses}
use Rattle.sb_packet.specs.Messages.{Message, message_of}
use Rattle.sb_packet.specs.Spans.{word_count_of}
use Rattle.sb_link.specs.RingPlans.{AreApart, RingPlan, device_ranges}
use Rattle.sb_link.specs.Plans.{AreWholePages}
use Rattle.sb_packet.specs.Cuts.{IsFine, IsSound, IsWhole, cut_parts, is_one_part}
use Rattle.sb_link.specs.Traffic.{IsCarriable, MayFollow, MayPass, has_close, item_accesses, item_messages}
use Rattle.sb_packet.specs.declared.packet.Packet.{Packet}
use Rattle.sb_packet.specs.declared.item.Item.{Item}
use Rattle.sb_packet.specs.declared.item.Item.TheVariants as items
use Rattle.sb_packet.proofs.CutSteps.{cut_of_one}
use Rattle.sb_packet.proofs.CutWords.{words_of_cut}
use Rattle.sb_packet.proofs.FineParts.{fine_cut, packet_whole}
use Rattle.sb_cut.specs.Folds.{fold_all, listed}
use Rattle.sb_cut.specs.Works.{FitsIfIndivisible}
use Rattle.sb_cut.proofs.Slices.{at_least_8, word_fits}
use Rattle.sb_cut.proofs.Mergeable.{mergeable_says}
use Rattle.sb_cut.proofs.Parts.{all_parts}
use Rattle.sb_cut.proofs.MergedSound.{fine_merge}
use Rattle.sb_cut.proofs.FoldLaws.{HoldsOfAll, StaysOfMerges, all_hold, fold_keeps_words}
use Rattle.sb_port.proofs.Planned.{IsAtHome, merge_planned, part_at_home}
use Rattle.sb_link.proofs.InTurn.{appended_in_turn, nothing_in_turn}
use Rattle.sb_port.specs.Waiting.{IsWidth, Waiting, nothing_waits, offered, released}
use Rattle.sb_port.specs.Ports.{PortState, IsFit, IsSendable, port_accesses}
use Rattle.sb_port.specs.Turns.{SendsFirst, SendsClose}
use Rattle.sb_port.proofs.Items.{has_close-packet, has_close-close, item_messages-packet, item_messages-close, item_accesses-messages}
use Rattle.sb_port.proofs.PortWords.{sends_accesses, closes_accesses, released_accesses}

-- where a message is owed the Close isn't sent
unshut : (plan : RingPlan) (s : PortState) → IsFit plan s → s.waiting.owed ≢ [] → has_close s.sent ≡ false
unshut plan s fit some = elim (has_close s.sent) as (λ b. has_close s.sent ≡ b → b ≡ false) [ true ↦ λ h. absurd (some (fit.none_owed (fit.close ∙ h))) | false ↦ λ h. refl ] refl

-- The first message that is owed may be sent.
pub may_send : (plan : RingPlan) (s : PortState) (p : Packet) (rest : List Message) → IsFit plan s → s.waiting.owed ≡ message_of p ∷ rest → MayFollow plan s.sent (items.Packet p)
may_send plan s p rest fit first =
    let owed : All (IsSendable plan) (message_of p ∷ rest) = subst (λ (list : List Message). All (IsSendable plan) list) first fit.owed in
    let sendable : IsSendable plan (message_of p) = All-head (IsSendable plan) (message_of p) rest owed in
    let sent = flat_map message_accesses (item_messages s.sent) in
    let behind = flat_map message_accesses (rest ++ listed s.waiting.held) in
    let all : port_accesses s ≡ sent ++ (accesses_of p ++ behind) =
    ap (λ (list : List Message). flat_map message_accesses (item_messages s.sent ++ (list ++ listed s.waiting.held))) first ∙ flat_map-append message_accesses (item_messages s.sent) (message_of p ∷ (rest ++ listed s.waiting.held)) in
    let counted : s.words_offered ≡ length (sent ++ (accesses_of p ++ behind)) = fit.counted ∙ ap (λ (list : List Access). length list) all in
    let room : length (item_accesses s.sent) + length (accesses_of p) ≤ plan.budget =
    rw (item_accesses-messages s.sent) (omega (arith, counted, fit.room, length-append sent (accesses_of p ++ behind), length-append (accesses_of p) behind)) in
    let carriable : IsCarriable plan (message_of p) = record { planned = sendable.planned; narrow = sendable.fine.narrow; single = sendable.fine.sound.exclusive } in
    record {
      unclosed = unshut plan s fit (λ e. let no_way : message_of p ∷ rest ≡ [] = sym first ∙ e in absurd (cc));
      fit = λ q is. let same : p ≡ q = cc in subst (λ (r : Packet). IsCarriable plan (message_of r)) same carriable;
      room = room;
    }

-- A Close may be sent where none was.
pub may_close : (plan : RingPlan) (s : PortState) → IsFit plan s → s.close_sent ≡ false → MayFollow plan s.sent items.Close
may_close plan s fit unsent =
    let sent = flat_map message_accesses (item_messages s.sent) in
    let behind = flat_map message_accesses (s.waiting.owed ++ listed s.waiting.held) in
    let counted : s.words_offered ≡ length (sent ++ behind) = fit.counted ∙ ap (λ (list : List Access). length list) (flat_map-append message_accesses (item_messages s.sent) (s.waiting.owed ++ listed s.waiting.held)) in
    record {
      unclosed = sym fit.close ∙ unsent;
      fit = λ q is. let no_way : ⊥ = cc in absurd no_way;
      room = rw (item_accesses-messages s.sent) (omega (arith, counted, fit.room, length-append sent behind));
    }

-- Each part of a packet that passes may be sent.
parts_sendable : (plan : RingPlan) (s : PortState) (p : Packet) → IsFit plan s → MayPass plan (length (port_accesses s)) (message_of p) → All (IsSendable plan) (cut_parts plan.width (message_of p))
parts_sendable plan s p fit passes =
    let m = message_of p in
    let least : 8 ≤ plan.width = at_least_8 plan.width fit.wide in
    let fine : All (IsFine plan.width) (cut_parts plan.width m) = fine_cut plan.width m least passes.sound (packet_whole p) in
    let home : All (IsAtHome plan) (cut_parts plan.width m) =
    all_parts (IsAtHome plan) (part_at_home plan fit.apart) plan.width m (word_fits plan.width p.cmd.size least p.cmd.size_fits) (record { planned = passes.planned; low = passes.sound.low; high = passes.sound.high }) in
    λ k d h. record { fine = fine k d h; planned = (home k d h).planned }

-- what may be sent may be sent as one, where it can be merged
merges_sendable : (plan : RingPlan) (s : PortState) → IsFit plan s → StaysOfMerges plan.width (IsSendable plan)
merges_sendable plan s fit a b can first second =
    let says = mergeable_says plan.width a b can in
    record {
      fine = fine_merge plan.width a b says first.fine second.fine;
      planned = merge_planned plan plan.width a b fit.apart fit.paged says first.fine.sound second.fine.sound first.fine.whole.some first.planned;
    }

-- all that comes of what is held and of the parts may be sent
folded_sendable : (plan : RingPlan) (s : PortState) (p : Packet) → IsFit plan s → MayPass plan (length (port_accesses s)) (message_of p)
    → HoldsOfAll (IsSendable plan) (fold_all plan.width s.waiting.held (cut_parts plan.width (message_of p)))
folded_sendable plan s p fit passes = all_hold (IsSendable plan) plan.width (merges_sendable plan s fit) s.waiting.held (cut_parts plan.width (message_of p)) fit.held (parts_sendable plan s p fit passes)

-- a packet that passes fits the width where it is never cut
pub fits_uncut : (plan : RingPlan) (s : PortState) (p : Packet) → IsFit plan s → MayPass plan (length (port_accesses s)) (message_of p) → FitsIfIndivisible s.waiting.width p
fits_uncut plan s p fit passes uncut =
    let m = message_of p in
    let one : is_one_part plan.width m ≡ true = rw uncut refl in
    let all : All (IsSendable plan) (m ∷ []) = subst (λ (list : List Message). All (IsSendable plan) list) (cut_of_one plan.width m one) (parts_sendable plan s p fit passes) in
    rw fit.width (All-head (IsSendable plan) m [] all).fine.narrow

-- the words of the lists of a port, one behind the other
spread : (sent owed held : List Message) → flat_map message_accesses (sent ++ (owed ++ held)) ≡ flat_map message_accesses sent ++ (flat_map message_accesses owed ++ flat_map message_accesses held)
spread sent owed held = flat_map-append message_accesses sent (owed ++ held) ∙ ap (λ (list : List Access). flat_map message_accesses sent ++ list) (flat_map-append message_accesses owed held)

-- The words of a port that is offered a packet are those before, followed by the packet's.
pub offered_accesses : (plan : RingPlan) (s : PortState) (p : Packet) (words_offered : ℕ) → IsFit plan s → MayPass plan (length (port_accesses s)) (message_of p)
    → port_accesses (record s { waiting = offered s.waiting (message_of p); words_offered = words_offered }) ≡ port_accesses s ++ accesses_of p
offered_accesses plan s p words_offered fit passes =
    let m = message_of p in
    let w = s.waiting in
    let folded = fold_all w.width w.held (cut_parts w.width m) in
    let sent = flat_map message_accesses (item_messages s.sent) in
    let owed = flat_map message_accesses w.owed in
    let out = flat_map message_accesses folded.out in
    let before = flat_map message_accesses (listed w.held) in
    let after = flat_map message_accesses (listed folded.held) in
    let whole_held : All IsWhole (listed w.held) = λ k d h. (fit.held k d h).fine.whole in
    let whole_parts : All IsWhole (cut_parts w.width m) = rw fit.width (λ k d h. (parts_sendable plan s p fit passes k d h).fine.whole) in
    let words : out ++ after ≡ before ++ accesses_of p =
    fold_keeps_words w.width w.held (cut_parts w.width m) whole_held whole_parts ∙ ap (λ (list : List Access). before ++ list) (words_of_cut w.width m) in
    spread (item_messages s.sent) (w.owed ++ folded.out) (listed folded.held)
    ∙ ap (λ (list : List Access). sent ++ (list ++ after)) (flat_map-append message_accesses w.owed folded.out)
    ∙ ap (λ (list : List Access). sent ++ list) (append_assoc owed out after ∙ ap (λ (list : List Access). owed ++ list) words ∙ sym (append_assoc owed before (accesses_of p)))
    ∙ sym (append_assoc sent (owed ++ before) (accesses_of p))
    ∙ ap (λ (list : List Access). list ++ accesses_of p) (sym (spread (item_messages s.sent) w.owed (listed w.held)))

-- A port that was offered a packet that passes is fit.
pub fit_offered : (plan : RingPlan) (s : PortState) (p : Packet) → IsFit plan s → s.close_requested ≡ false → MayPass plan (length (port_accesses s)) (message_of p)
    → IsFit plan (record s { waiting = offered s.waiting (message_of p); words_offered = s.words_offered + word_count_of p.cmd })
fit_offered plan s p fit untold passes =
    let unshut : (s.close_sent ≡ true) → ⊥ = (λ h. let no_way : true ≡ false = sym (fit.told h) ∙ untold in absurd (cc)) in
    let words : length (accesses_of p) ≡ word_count_of p.cmd = length-map-range_with_len (access_at (message_of p)) 0 (word_count_of p.cmd) in
    let words_offered = s.words_offered + word_count_of p.cmd in
    let t : PortState = record s { waiting = offered s.waiting (message_of p); words_offered = words_offered } in
    let all : length (port_accesses t) ≡ length (port_accesses s) + length (accesses_of p) =
    ap (λ (list : List Access). length list) (offered_accesses plan s p words_offered fit passes) ∙ length-append (port_accesses s) (accesses_of p) in
    let folded = folded_sendable plan s p fit passes in
    record {
      width = fit.width;
      wide = fit.wide;
      limit = fit.limit;
      apart = fit.apart;
      paged = fit.paged;
      close = fit.close;
      told = fit.told;
      none_owed = λ h. absurd (unshut h);
      none_held = λ h. absurd (unshut h);
      in_turn = fit.in_turn;
      sound = fit.sound;
      owed = rw fit.width (All-append (IsSendable plan) s.waiting.owed (fold_all plan.width s.waiting.held (cut_parts plan.width (message_of p))).out fit.owed folded.out);
      held = rw fit.width folded.held;
      counted = omega (arith, all, words, fit.counted);
      room = omega (arith, passes.room, fit.counted);
    }

-- A port whose first message was sent is fit.
pub fit_sends : (plan : RingPlan) (s t : PortState) → IsFit plan s → SendsFirst s t → IsFit plan t
fit_sends plan s t fit sends =
    let p = sends.packet in let m = message_of p in let rest = drop 1 s.waiting.owed in
    let owed : All (IsSendable plan) (m ∷ rest) = subst (λ (list : List Message). All (IsSendable plan) list) sends.first fit.owed in
    let sendable : IsSendable plan m = All-head (IsSendable plan) m rest owed in
    let unclosed : has_close s.sent ≡ false = unshut plan s fit (λ e. let no_way : m ∷ rest ≡ [] = sym sends.first ∙ e in absurd (cc)) in
    let unsent : s.close_sent ≡ false = fit.close ∙ unclosed in
    let now : PortState = record s { sent = s.sent ++ items.Packet p ∷ []; waiting = record s.waiting { owed = rest } } in
    let same : port_accesses now ≡ port_accesses s = sends_accesses s now (record { packet = p; first = sends.first; state = refl }) in
    subst (λ (x : PortState). IsFit plan x) (sym sends.state) (record {
      width = fit.width;
      wide = fit.wide;
      limit = fit.limit;
      apart = fit.apart;
      paged = fit.paged;
      close = fit.close ∙ sym (has_close-packet s.sent p);
      told = fit.told;
      none_owed = λ h. let no_way : true ≡ false = sym h ∙ unsent in absurd (cc);
      none_held = fit.none_held;
      in_turn = appended_in_turn s.sent (items.Packet p) fit.in_turn (may_send plan s p rest fit sends.first);
      sound = rw (item_messages-packet s.sent p) (All-push IsSound (item_messages s.sent) m fit.sound sendable.fine.sound);
      owed = All-tail (IsSendable plan) m rest owed;
      held = fit.held;
      counted = fit.counted ∙ ap (λ (list : List Access). length list) (sym same);
      room = fit.room;
    })

-- A port that let go what it held is fit.
pub fit_released : (plan : RingPlan) (s : PortState) → IsFit plan s → IsFit plan (record s { waiting = released s.waiting })
fit_released plan s fit = record {
  width = fit.width;
  wide = fit.wide;
  limit = fit.limit;
  apart = fit.apart;
  paged = fit.paged;
  close = fit.close;
  told = fit.told;
  none_owed = λ h. rw (fit.none_owed h, fit.none_held h) refl;
  none_held = λ h. refl;
  in_turn = fit.in_turn;
  sound = fit.sound;
  owed = All-append (IsSendable plan) s.waiting.owed (listed s.waiting.held) fit.owed fit.held;
  held = All-nil (IsSendable plan);
  counted = fit.counted ∙ ap (λ (list : List Access). length list) (sym (released_accesses s));
  room = fit.room;
}

-- A port that sent the Close is fit.
pub fit_closes : (plan : RingPlan) (s t : PortState) → IsFit plan s → SendsClose s t → IsFit plan t
fit_closes plan s t fit closes =
    let now : PortState = record s { sent = s.sent ++ items.Close ∷ []; close_sent = true } in
    let same : port_accesses now ≡ port_accesses s = closes_accesses s now (record { none_owed = closes.none_owed; none_held = closes.none_held; told = closes.told; unsent = closes.unsent; state = refl }) in
    subst (λ (x : PortState). IsFit plan x) (sym closes.state) (record {
      width = fit.width;
      wide = fit.wide;
      limit = fit.limit;
      apart = fit.apart;
      paged = fit.paged;
      close = sym (has_close-close s.sent);
      told = λ h. closes.told;
      none_owed = λ h. closes.none_owed;
      none_held = λ h. closes.none_held;
      in_turn = appended_in_turn s.sent items.Close fit.in_turn (may_close plan s fit closes.unsent);
      sound = rw (item_messages-close s.sent) fit.sound;
      owed = fit.owed;
      held = fit.held;
      counted = fit.counted ∙ ap (λ (list : List Access). length list) (sym same);
      room = fit.room;
    })

-- A port over an end at which nothing was sent is fit.
pub fit_fresh : (plan : RingPlan) (sent : List Item) (waiting : Waiting) → sent ≡ [] → waiting ≡ nothing_waits plan.width → IsWidth plan.width → plan.budget ≤ 262144
    → AreApart (device_ranges plan.flows) → AreWholePages (device_ranges plan.flows)
    → IsFit plan (record { sent = sent; waiting = waiting; close_requested = false; close_sent = false; words_offered = 0 })
fit_fresh plan sent waiting unsent none wide limit apart paged =
    subst (λ (w : Waiting). IsFit plan (record { sent = sent; waiting = w; close_requested = false; close_sent = false; words_offered = 0 })) (sym none)
    (subst (λ (list : List Item). IsFit plan (record { sent = list; waiting = nothing_waits plan.width; close_requested = false; close_sent = false; words_offered = 0 })) (sym unsent) (record {
      width = refl;
      wide = wide;
      limit = limit;
      apart = apart;
      paged = paged;
      close = refl;
      told = λ h. absurd (false_true h);
      none_owed = λ h. refl;
      none_held = λ h. refl;
      in_turn = nothing_in_turn;
      sound = All-nil IsSound;
      owed = All-nil (IsSendable plan);
      held = All-nil (IsSendable plan);
      counted = refl;
      room = omega arith;
    }))
  where
    false_true : false ≡ true → ⊥
    false_true h = cc
