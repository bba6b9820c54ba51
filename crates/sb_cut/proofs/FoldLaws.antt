-- What a merger keeps of the messages that it takes: their words, and what stays true where two are merged.
use Rattle.std.proofs.Common.{◌≡◌, ℕ, List, [], ◌∷◌, ◌++◌, refl, ap, sym, ◌∙◌, true, false, append_assoc}
use Rattle.std.specs.Prelude.{flat_map, Some, None, Option, is_some, All, if◌then◌else◌}
use Rattle.std.proofs.lemmas.List.{append-nil}
use Rattle.std.proofs.lemmas.List.Elements.{All-cons, All-append, All-nil, All-head, All-tail}
use Rattle.std.proofs.lemmas.Grind.{flat_map-append}
use Rattle.sb_packet.specs.Accesses.{Access, message_accesses}
use Rattle.sb_packet.specs.Messages.{Message}
use Rattle.sb_packet.specs.Cuts.{IsWhole}
use Rattle.sb_cut.specs.Merges.{is_mergeable, merge}
use Rattle.sb_cut.specs.Folds.{Folded, listed, take_one, fold_all}
use Rattle.sb_cut.proofs.Mergeable.{mergeable_says}
use Rattle.sb_cut.proofs.MergedWords.{words_of_merge, whole_merge}

-- what stays true of two messages that are merged
abbrev pub StaysOfMerges : ℕ → (Message → Type 0) → Type 0
StaysOfMerges width P = (a b : Message) → is_mergeable width a b ≡ true → P a → P b → P (merge a b)

-- what holds of all that was taken holds of all that goes out, and of what is held
pub record HoldsOfAll (P : Message → Type 0) (f : Folded) : Type 0 where
  pub out : All P f.out
  pub held : All P (listed f.held)

module _ (P : Message → Type 0) (width : ℕ) (stays : StaysOfMerges width P) where
  only : (m : Message) → P m → All P (m ∷ [])
  only m holds = All-cons P m [] holds (All-nil P)

  one_holds : (held : Option Message) (m : Message) → All P (listed held) → P m → HoldsOfAll P (take_one width held m)
  one_holds None m before holds = record { out = All-nil P; held = only m holds }
  one_holds (Some a) m before holds =
      elim (is_mergeable width a m) as (λ can. is_mergeable width a m ≡ can → HoldsOfAll P (if can then record { out = []; held = Some (merge a m) } else record { out = a ∷ []; held = Some m })) [
        | true ↦ λ h. record { out = All-nil P; held = only (merge a m) (stays a m h (All-head P a [] before) holds) }
        | false ↦ λ h. record { out = before; held = only m holds }
      ] refl

  pub all_hold : (held : Option Message) (list : List Message) → All P (listed held) → All P list → HoldsOfAll P (fold_all width held list)
  all_hold held [] before all = record { out = All-nil P; held = before }
  all_hold held (m ∷ rest) before all =
      let first = one_holds held m before (All-head P m rest all) in
      let others = all_hold (take_one width held m).held rest first.held (All-tail P m rest all) in
      record { out = All-append P (take_one width held m).out (fold_all width (take_one width held m).held rest).out first.out others.out; held = others.held }

-- the words that go out and are held, in order
abbrev pub words_folded : Folded → List Access
words_folded f = flat_map message_accesses f.out ++ flat_map message_accesses (listed f.held)

one_keeps : (width : ℕ) (held : Option Message) (m : Message) → All IsWhole (listed held) → IsWhole m → words_folded (take_one width held m) ≡ flat_map message_accesses (listed held) ++ message_accesses m
one_keeps width None m whole whole_m = append-nil (message_accesses m)
one_keeps width (Some a) m whole whole_m =
    elim (is_mergeable width a m) as (λ can. is_mergeable width a m ≡ can → words_folded (if can then record { out = []; held = Some (merge a m) } else record { out = a ∷ []; held = Some m }) ≡ (message_accesses a ++ []) ++ message_accesses m) [
      | true ↦ λ h. rw (append-nil, append-nil) (words_of_merge width a m (mergeable_says width a m h) (All-head IsWhole a [] whole) whole_m)
      | false ↦ λ h. ap (λ (list : List Access). (message_accesses a ++ []) ++ list) (append-nil (message_accesses m))
    ] refl

whole_stays : (width : ℕ) → StaysOfMerges width IsWhole
whole_stays width a b can first second = whole_merge width a b (mergeable_says width a b can) first second

-- first these and then those
in_order : (a b c d e f g : List Access) → b ++ c ≡ d ++ e → a ++ d ≡ f ++ g → (a ++ b) ++ c ≡ f ++ (g ++ e)
in_order a b c d e f g p q = append_assoc a b c ∙ ap (λ (list : List Access). a ++ list) p ∙ sym (append_assoc a d e) ∙ ap (λ (list : List Access). list ++ e) q ∙ append_assoc f g e

-- The words that go out and are held are those that were held and taken.
pub fold_keeps_words : (width : ℕ) (held : Option Message) (list : List Message) → All IsWhole (listed held) → All IsWhole list
    → words_folded (fold_all width held list) ≡ flat_map message_accesses (listed held) ++ flat_map message_accesses list
fold_keeps_words width held [] whole all = sym (append-nil (flat_map message_accesses (listed held)))
fold_keeps_words width held (m ∷ rest) whole all =
    let f = take_one width held m in
    let g = fold_all width f.held rest in
    let here = one_holds IsWhole width (whole_stays width) held m whole (All-head IsWhole m rest all) in
    ap (λ (list : List Access). list ++ flat_map message_accesses (listed g.held)) (flat_map-append message_accesses f.out g.out)
    ∙ in_order (flat_map message_accesses f.out) (flat_map message_accesses g.out) (flat_map message_accesses (listed g.held)) (flat_map message_accesses (listed f.held)) (flat_map message_accesses rest)
    (flat_map message_accesses (listed held)) (message_accesses m)
    (fold_keeps_words width f.held rest here.held (All-tail IsWhole m rest all))
    (one_keeps width held m whole (All-head IsWhole m rest all))

-- Two messages that can be merged are held as one.
pub held_as_one : (width : ℕ) (a b : Message) → is_mergeable width a b ≡ true → fold_all width None (a ∷ b ∷ []) ≡ record { out = []; held = Some (merge a b) }
held_as_one width a b h = rw h refl

-- A merger holds something once it took a message.
pub still_held : (width : ℕ) (a : Message) (list : List Message) → is_some (fold_all width (Some a) list).held ≡ true
still_held width a [] = refl
still_held width a (m ∷ rest) =
    elim (is_mergeable width a m) as (λ can. is_some (fold_all width (let f : Folded = if can then record { out = []; held = Some (merge a m) } else record { out = a ∷ []; held = Some m } in f).held rest).held ≡ true) [
      | true ↦ still_held width (merge a m) rest
      | false ↦ still_held width m rest
    ]

pub some_held : (width : ℕ) (held : Option Message) (list : List Message) → (list ≡ [] → ⊥) → is_some (fold_all width held list).held ≡ true
some_held width held [] some = absurd (some refl)
some_held width None (m ∷ rest) some = still_held width m rest
some_held width (Some a) (m ∷ rest) some = still_held width a (m ∷ rest)
