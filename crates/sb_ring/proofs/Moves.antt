-- The rule allows each step of the two seats, and the splits and joins.
use Rattle.std.proofs.Common.{◌≡◌, ℕ, zero, suc, ◌+◌, ◌*◌, ◌<◌, ⊎_elim, false, true≢false, List, [], ◌∷◌, ◌++◌, length, length-append, append_assoc, get_or, set, sym, refl, ap, ◌∙◌, subst, arith}
use Rattle.std.proofs.lemmas.List.{set-get_or}
use mathlib.Core.Option.{some, some-injective, some-ne-none}
use lib.ListN.{get_elem?}
use Rattle.atomic_table.specs.Table.{State, Me, keeps, Allows, Splits, Joins, opening}
use Rattle.atomic_table.proofs.Lists.{at_last, at_longer, at_set, set_again}
use Rattle.sb_ring.specs.declared.view.View.{View}
use Rattle.sb_ring.specs.declared.view.Role.TheVariants.{Producer, Consumer, ReceivedNote, SentNote}
use Rattle.sb_link.specs.Prefixes.{IsPrefix}
use Rattle.sb_ring.specs.Layout.{head_word, slots_word, tail_word}
use Rattle.sb_ring.specs.Rule.{IsRing, IsRuled, IsSeat, new_consumer, new_producer, sent_of, slot_place}
use Rattle.sb_ring.specs.Plays.{note_of_received, note_of_sent, read_note, with_told, with_consumer, with_last, with_part, IsHeadLoad, IsWordLoad, IsWordStore, IsItemEnd, IsTailStore, IsTailLoad, IsHeadStore}
use Rattle.sb_ring.proofs.Prefixes.{prefix_refl, prefix_nil, prefix_more, prefix_trans, prefix_length, next_of, front_full, last_of, with_last-snoc}
use Rattle.sb_ring.proofs.Words.{head_loaded, word_found, word_replaced, item_ended, tail_stored, tail_loaded, word_loaded, head_stored, paired_off, told_producer, told_consumer}
use Rattle.sb_ring.proofs.Seats.{all_set, all_snoc, is_producer, is_consumer, producer_steps, consumer_steps, set_apart, set_there}

none_follow : {I : Type 0} (follows : List I → I → Type 0) (ys zs : List I) (x : I) → [] ≡ ys ++ x ∷ zs → follows ys x
none_follow follows [] zs x e = let h : ⊥ = cc in absurd h
none_follow follows (y ∷ ys) zs x e = let h : ⊥ = cc in absurd h

module _ {P I : Type 0} where
  -- a view that stands somewhere after another one was changed stood there before
  was : (vs : List (View P I)) (id other : ℕ) (both w : View P I) → ¬ (other ≡ id) → get_elem? (set vs id both) other ≡ some w → get_elem? vs other ≡ some w
  was vs id other both w apart e = ⊎_elim (λ x. absurd (apart x.0)) (λ x. x.1) (at_set vs id other both w e)

  -- at the start there is the producer's seat alone
  alone_seat : (b : P) (j : ℕ) (v : View P I) → get_elem? (new_producer b ∷ []) j ≡ some v → IsSeat 0 0 (new_producer b) (new_consumer b) j v
  alone_seat b zero v e = let h = some-injective (new_producer b) v e in subst (λ (z : View P I). IsSeat 0 0 (new_producer b) (new_consumer b) 0 z) h
      record {
        one_producer = λ _. (refl, refl);
        one_consumer = λ e. absurd (let h : ⊥ = cc in h);
        received_note = λ e. absurd (let h : ⊥ = cc in h);
        sent_note = λ e. absurd (let h : ⊥ = cc in h);
      }
  alone_seat b (suc j) v e = absurd (some-ne-none v (sym e))

module _ {S P I : Type 0} (width : ℕ) (enc : I → List ℕ) (enc_length : (x : I) → length (enc x) ≡ width) (follows : P → List I → I → Type 0) (c : ℕ) where
  pub head_load_allowed : (slots id : ℕ) (me : Me S (View P I)) → me.0.role ≡ Producer → Allows (IsRuled width enc follows c) slots id me head_word (λ n. n) (IsHeadLoad me)
  head_load_allowed slots id me role s k len at small = let r = is_producer width enc follows c s k id me.0 at role in let n : ℕ = get_or s.words head_word 0 in
      let w : View P I = record me.0 { learnt = n; loads = me.0.loads + 1 } in let b = prefix_trans me.0.told k.consumer.items me.0.items r.told_producer r.in_order in (
        w,
        keeps,
        tt,
        subst (λ ws. IsRuled width enc follows c record { words = ws; homes = s.homes; views = set s.views id w }) (sym (set-get_or s.words head_word 0))
            (producer_steps width enc follows c s k id me.0 at role s.words s.homes w role refl (prefix_refl me.0.items) (head_loaded width enc enc_length follows c s.words me.0 k.consumer n r.head r)),
        record {
          known_now = refl;
          risen = let t = r.taken in let h = r.head in omega arith;
          within = let h = r.head in omega (arith, prefix_length k.consumer.items me.0.items r.in_order);
          note_in_order = b;
          note_within = let h = r.head in omega (arith, prefix_length me.0.told k.consumer.items r.told_producer);
        },
      )

  pub word_find_allowed : (slots id : ℕ) (me : Me S (View P I)) (i : ℕ) → me.0.role ≡ Producer → length (sent_of me.0) < me.0.learnt + c → length me.0.part < width
      → i ≡ slot_place width c (length (sent_of me.0)) + length me.0.part → Allows (IsRuled width enc follows c) slots id me i (λ n. n) (λ n. IsWordLoad me n)
  word_find_allowed slots id me i role room narrow is s k len at small = let r = is_producer width enc follows c s k id me.0 at role in let n : ℕ = get_or s.words i 0 in
      let w : View P I = record me.0 { part = me.0.part ++ n ∷ [] } in (
        w,
        keeps,
        tt,
        subst (λ ws. IsRuled width enc follows c record { words = ws; homes = s.homes; views = set s.views id w }) (sym (set-get_or s.words i 0))
            (producer_steps width enc follows c s k id me.0 at role s.words s.homes w role refl (prefix_refl me.0.items)
            (word_found width enc enc_length follows c s.words me.0 k.consumer n r room narrow (ap (λ j. get_or s.words j 0) is))),
        record { grown = refl },
      )

  pub word_store_allowed : (slots id : ℕ) (me : Me S (View P I)) (i x : ℕ) → me.0.role ≡ Producer → 0 < length me.0.part
      → i + 1 ≡ slot_place width c (length (sent_of me.0)) + length me.0.part → Allows (IsRuled width enc follows c) slots id me i (λ _. x) (λ _. IsWordStore me x)
  word_store_allowed slots id me i x role more is s k len at small = let r = is_producer width enc follows c s k id me.0 at role in
      let last = last_of me.0.part more in let front : List ℕ = last.0 in let w : View P I = record me.0 { part = front ++ x ∷ [] } in
      let longer : length me.0.part ≡ length front + 1 = ap length last.2 ∙ length-append front (last.1 ∷ []) in
      let here : i ≡ slot_place width c (length (sent_of me.0)) + length front = omega arith in
      let now : front ++ x ∷ [] ≡ with_last me.0.part x = sym (ap (λ (part : List ℕ). with_last part x) last.2 ∙ with_last-snoc front last.1 x) in (
        w,
        keeps,
        tt,
        subst (λ j. IsRuled width enc follows c record { words = set s.words j x; homes = s.homes; views = set s.views id w }) (sym here)
            (producer_steps width enc follows c s k id me.0 at role (set s.words (slot_place width c (length (sent_of me.0)) + length front) x) s.homes w role refl (prefix_refl me.0.items)
            (word_replaced width enc enc_length follows c s.words me.0 k.consumer front last.1 x r last.2)),
        record { replaced = ap (λ (part : List ℕ). (with_part me.0 part, me.1)) now },
      )

  -- the step has no word of its own: it is a load of any word, of which nothing is used
  pub item_end_allowed : (slots id : ℕ) (me : Me S (View P I)) (i : ℕ) (x : I) → me.0.role ≡ Producer → 0 < width → enc x ≡ me.0.part → follows me.0.plan (sent_of me.0) x
      → Allows (IsRuled width enc follows c) slots id me i (λ n. n) (λ _. IsItemEnd enc follows me)
  item_end_allowed slots id me i x role wide is may s k len at small = let r = is_producer width enc follows c s k id me.0 at role in
      let w : View P I = record me.0 { ahead = me.0.ahead ++ x ∷ []; part = [] } in (
        w,
        keeps,
        tt,
        subst (λ ws. IsRuled width enc follows c record { words = ws; homes = s.homes; views = set s.views id w }) (sym (set-get_or s.words i 0))
            (producer_steps width enc follows c s k id me.0 at role s.words s.homes w role refl (prefix_refl me.0.items)
            (item_ended width enc enc_length follows c s.words me.0 k.consumer x r wide is may)),
        record { item = x; spelt = is; lawful = may; sent = refl },
      )

  pub tail_store_allowed : (slots id : ℕ) (me : Me S (View P I)) (n : ℕ) → me.0.role ≡ Producer → n ≡ length (sent_of me.0)
      → Allows (IsRuled width enc follows c) slots id me tail_word (λ _. n) (λ _. IsTailStore me)
  tail_store_allowed slots id me n role count s k len at small = let r = is_producer width enc follows c s k id me.0 at role in
      let w : View P I = record me.0 { items = sent_of me.0; ahead = [] } in (
        w,
        keeps,
        tt,
        subst (λ m. IsRuled width enc follows c record { words = set s.words 0 m; homes = s.homes; views = set s.views id w }) (sym count)
            (producer_steps width enc follows c s k id me.0 at role (set s.words 0 (length (sent_of me.0))) s.homes w role refl (prefix_more me.0.items me.0.ahead)
            (tail_stored width enc enc_length follows c s.words me.0 k.consumer r)),
        record { published = refl },
      )

  pub tail_load_allowed : (slots id : ℕ) (me : Me S (View P I)) → me.0.role ≡ Consumer → Allows (IsRuled width enc follows c) slots id me tail_word (λ n. n) (IsTailLoad me)
  tail_load_allowed slots id me role s k len at small = let r = is_consumer width enc follows c s k id me.0 at role in let n : ℕ = get_or s.words 0 0 in
      let pair = ((k.seats id me.0 at).one_consumer role).2 in let w : View P I = record me.0 { learnt = n; loads = me.0.loads + 1 } in (
        w,
        keeps,
        tt,
        subst (λ ws. IsRuled width enc follows c record { words = ws; homes = s.homes; views = set s.views id w }) (sym (set-get_or s.words 0 0))
            (consumer_steps width enc follows c s k id me.0 at role s.words s.homes w role (prefix_refl me.0.items) (tail_loaded width enc enc_length follows c s.words k.producer me.0 n r.tail pair r)),
        record {
          known_now = refl;
          risen = let a = r.known in let h = r.tail in omega arith;
          within = let h = r.tail in omega (arith, prefix_length me.0.items k.producer.items r.in_order);
          note_within = let h = r.tail in omega (arith, prefix_length me.0.told k.producer.items r.told_consumer);
        },
      )

  pub word_load_allowed : (slots id : ℕ) (me : Me S (View P I)) (i : ℕ) → me.0.role ≡ Consumer → length me.0.items < me.0.learnt → length me.0.part < width
      → i ≡ slot_place width c (length me.0.items) + length me.0.part → Allows (IsRuled width enc follows c) slots id me i (λ n. n) (λ n. IsWordLoad me n)
  word_load_allowed slots id me i role there narrow is s k len at small = let r = is_consumer width enc follows c s k id me.0 at role in let n : ℕ = get_or s.words i 0 in
      let pair = ((k.seats id me.0 at).one_consumer role).2 in let w : View P I = record me.0 { part = me.0.part ++ n ∷ [] } in (
        w,
        keeps,
        tt,
        subst (λ ws. IsRuled width enc follows c record { words = ws; homes = s.homes; views = set s.views id w }) (sym (set-get_or s.words i 0))
            (consumer_steps width enc follows c s k id me.0 at role s.words s.homes w role (prefix_refl me.0.items)
            (word_loaded width enc enc_length follows c s.words k.producer me.0 n pair r there narrow (ap (λ j. get_or s.words j 0) is))),
        record { grown = refl },
      )

  pub head_store_allowed : (slots id : ℕ) (me : Me S (View P I)) (n : ℕ) → me.0.role ≡ Consumer → length me.0.part ≡ width → length me.0.items < me.0.learnt
      → n ≡ length me.0.items + 1 → Allows (IsRuled width enc follows c) slots id me head_word (λ _. n) (λ _. IsHeadStore enc follows me)
  head_store_allowed slots id me n role full there count s k len at small = let r = is_consumer width enc follows c s k id me.0 at role in
      let pair = ((k.seats id me.0 at).one_consumer role).2 in let a = r.known in
      let found = next_of me.0.items k.producer.items r.in_order (omega arith) in let x : I = found.0 in
      let w : View P I = record me.0 { items = me.0.items ++ x ∷ []; part = [] } in (
        w,
        keeps,
        tt,
        subst (λ m. IsRuled width enc follows c record { words = set s.words head_word m; homes = s.homes; views = set s.views id w }) (sym count)
            (consumer_steps width enc follows c s k id me.0 at role (set s.words head_word (length me.0.items + 1)) s.homes w role (prefix_more me.0.items (x ∷ []))
            (head_stored width enc enc_length follows c s.words k.producer me.0 x found.1 pair r there found.2)),
        record {
          item = x;
          spelt = front_full me.0.part (enc x) (r.loaded x found.3) (full ∙ sym (enc_length x));
          lawful = subst (λ b. follows b me.0.items x) (sym r.one_plan)
              (r.lawful me.0.items (found.1 ++ k.producer.ahead) x (ap (λ l. l ++ k.producer.ahead) found.2 ∙ append_assoc me.0.items (x ∷ found.1) k.producer.ahead));
          received = refl;
        },
      )

  pub pairing_allowed : (id : ℕ) (v : View P I) → v.role ≡ Producer → v.paired ≡ false → Splits (IsRuled {S = S} width enc follows c) id v (with_consumer v) (new_consumer v.plan)
  pairing_allowed id v role un s k at = let r = is_producer width enc follows c s k id v at role in let mine = (k.seats id v at).one_producer role in let p : View P I = with_consumer v in
      let vs : List (View P I) = set s.views id p in let fresh : k.consumer ≡ new_consumer v.plan = r.unpaired un in record {
        producer_seat = k.producer_seat;
        consumer_seat = length vs;
        producer = p;
        consumer = new_consumer v.plan;
        producer_role = role;
        consumer_role = refl;
        producer_sits = at_longer vs (new_consumer v.plan ∷ []) k.producer_seat p (subst (λ j. get_elem? vs j ≡ some p) mine.0 (set_there s.views id v p at));
        consumer_sits = λ _. at_last vs (new_consumer v.plan) (length vs) refl;
        seats = all_snoc (IsSeat k.producer_seat (length vs) p (new_consumer v.plan)) vs (new_consumer v.plan)
            record {
              one_producer = λ e. absurd (let h : ⊥ = cc in h);
              one_consumer = λ _. (refl, refl, refl);
              received_note = λ e. absurd (let h : ⊥ = cc in h);
              sent_note = λ e. absurd (let h : ⊥ = cc in h);
            }
            (all_set (IsSeat k.producer_seat (length vs) p (new_consumer v.plan)) s.views id p
            record {
              one_producer = λ _. (mine.0, refl);
              one_consumer = λ e. absurd (let h : ⊥ = cc (role, e) in h);
              received_note = λ e. absurd (let h : ⊥ = cc (role, e) in h);
              sent_note = λ e. absurd (let h : ⊥ = cc (role, e) in h);
            }
            (λ j u other e. let f = k.seats j u e in record {
              one_producer = λ h. absurd (other ((f.one_producer h).0 ∙ sym mine.0));
              one_consumer = λ h. absurd (true≢false (sym (f.one_consumer h).2 ∙ ap (λ (z : View P I). z.paired) (sym mine.1) ∙ un));
              received_note = λ h. subst (λ (z : View P I). IsPrefix u.items z.items) fresh (f.received_note h);
              sent_note = λ h. subst (λ (z : View P I). IsPrefix u.items z.items) (sym mine.1) (f.sent_note h);
            }));
        ring = subst (λ z. IsRing width enc follows c s.words p z) fresh (paired_off width enc enc_length follows c s.words v k.consumer un r);
      }

  -- one more view that fits comes
  admits : (s : State S (View P I)) (k : IsRuled width enc follows c s) (w : View P I) → IsSeat k.producer_seat k.consumer_seat k.producer k.consumer (length s.views) w
      → IsRuled width enc follows c record { words = s.words; homes = s.homes; views = s.views ++ w ∷ [] }
  admits s k w fit = record {
    producer_seat = k.producer_seat;
    consumer_seat = k.consumer_seat;
    producer = k.producer;
    consumer = k.consumer;
    producer_role = k.producer_role;
    consumer_role = k.consumer_role;
    producer_sits = at_longer s.views (w ∷ []) k.producer_seat k.producer k.producer_sits;
    consumer_sits = λ pair. at_longer s.views (w ∷ []) k.consumer_seat k.consumer (k.consumer_sits pair);
    seats = all_snoc (IsSeat k.producer_seat k.consumer_seat k.producer k.consumer) s.views w fit k.seats;
    ring = k.ring;
  }

  -- a note is spent
  spends : (s : State S (View P I)) (k : IsRuled width enc follows c s) (other : ℕ) (note : View P I) (b : P) → get_elem? s.views other ≡ some note → ¬ (Producer ≡ note.role) → ¬ (Consumer ≡ note.role)
      → IsRuled width enc follows c record { words = s.words; homes = s.homes; views = set s.views other (read_note b) }
  spends s k other note b there no_producer no_consumer = record {
    producer_seat = k.producer_seat;
    consumer_seat = k.consumer_seat;
    producer = k.producer;
    consumer = k.consumer;
    producer_role = k.producer_role;
    consumer_role = k.consumer_role;
    producer_sits = set_apart (λ (z : View P I). z.role) s.views other k.producer_seat note (read_note b) k.producer (λ e. no_producer (sym k.producer_role ∙ e)) there k.producer_sits;
    consumer_sits = λ pair. set_apart (λ (z : View P I). z.role) s.views other k.consumer_seat note (read_note b) k.consumer (λ e. no_consumer (sym k.consumer_role ∙ e)) there (k.consumer_sits pair);
    seats = all_set (IsSeat k.producer_seat k.consumer_seat k.producer k.consumer) s.views other (read_note b)
        record {
          one_producer = λ e. absurd (let h : ⊥ = cc in h);
          one_consumer = λ e. absurd (let h : ⊥ = cc in h);
          received_note = λ e. absurd (let h : ⊥ = cc in h);
          sent_note = λ e. absurd (let h : ⊥ = cc in h);
        }
        (λ j u other' e. k.seats j u e);
    ring = k.ring;
  }

  -- the consumer writes a note
  pub received_note_allowed : (id : ℕ) (v : View P I) → v.role ≡ Consumer → Splits (IsRuled {S = S} width enc follows c) id v v (note_of_received v)
  received_note_allowed id v role s k at = let mine = (k.seats id v at).one_consumer role in
      subst (λ vs. IsRuled width enc follows c record { words = s.words; homes = s.homes; views = vs ++ note_of_received v ∷ [] }) (sym (set_again s.views id v at))
      (admits s k (note_of_received v)
      record {
        one_producer = λ e. absurd (let h : ⊥ = cc in h);
        one_consumer = λ e. absurd (let h : ⊥ = cc in h);
        received_note = λ _. subst (λ (z : View P I). IsPrefix v.items z.items) mine.1 (prefix_refl v.items);
        sent_note = λ e. absurd (let h : ⊥ = cc in h);
      })

  -- the producer writes a note
  pub sent_note_allowed : (id : ℕ) (v : View P I) → v.role ≡ Producer → Splits (IsRuled {S = S} width enc follows c) id v v (note_of_sent v)
  sent_note_allowed id v role s k at = let mine = (k.seats id v at).one_producer role in
      subst (λ vs. IsRuled width enc follows c record { words = s.words; homes = s.homes; views = vs ++ note_of_sent v ∷ [] }) (sym (set_again s.views id v at))
      (admits s k (note_of_sent v)
      record {
        one_producer = λ e. absurd (let h : ⊥ = cc in h);
        one_consumer = λ e. absurd (let h : ⊥ = cc in h);
        received_note = λ e. absurd (let h : ⊥ = cc in h);
        sent_note = λ _. subst (λ (z : View P I). IsPrefix v.items z.items) mine.1 (prefix_refl v.items);
      })

  -- the producer reads a note of the consumer
  pub received_note_read : (b : P) (id : ℕ) (v : View P I) (other : ℕ) (w : View P I) → v.role ≡ Producer → w.role ≡ ReceivedNote → Joins (IsRuled {S = S} width enc follows c) id v other w (with_told v w) (read_note b)
  received_note_read b id v other w role is_note s k at apart at' = let f = (k.seats other w (was s.views id other (with_told v w) w apart at')).received_note is_note in
      spends record { words = s.words; homes = s.homes; views = set s.views id (with_told v w) }
      (producer_steps width enc follows c s k id v at role s.words s.homes (with_told v w) role refl (prefix_refl v.items)
      (told_producer width enc enc_length follows c s.words v k.consumer w.items (is_producer width enc follows c s k id v at role) f))
      other w b at' (λ e. let h : ⊥ = cc (is_note, e) in h) (λ e. let h : ⊥ = cc (is_note, e) in h)

  -- the consumer reads a note of the producer
  pub sent_note_read : (b : P) (id : ℕ) (v : View P I) (other : ℕ) (w : View P I) → v.role ≡ Consumer → w.role ≡ SentNote → Joins (IsRuled {S = S} width enc follows c) id v other w (with_told v w) (read_note b)
  sent_note_read b id v other w role is_note s k at apart at' = let f = (k.seats other w (was s.views id other (with_told v w) w apart at')).sent_note is_note in
      spends record { words = s.words; homes = s.homes; views = set s.views id (with_told v w) }
      (consumer_steps width enc follows c s k id v at role s.words s.homes (with_told v w) role (prefix_refl v.items)
      (told_consumer width enc enc_length follows c s.words k.producer v w.items ((k.seats id v at).one_consumer role).2 (is_consumer width enc follows c s k id v at role) f))
      other w b at' (λ e. let h : ⊥ = cc (is_note, e) in h) (λ e. let h : ⊥ = cc (is_note, e) in h)

  pub opens : (b : P) (ws : List ℕ) → length ws ≡ slots_word + c * width → ((j : ℕ) → get_or ws j 0 ≡ 0) → IsRuled {S = S} width enc follows c (opening ws [] (new_producer b))
  opens b ws size zeros = record {
    producer_seat = 0;
    consumer_seat = 0;
    producer = new_producer b;
    consumer = new_consumer b;
    ring = record {
      size = size;
      tail = zeros tail_word;
      head = zeros head_word;
      in_order = prefix_nil [];
      taken = omega arith;
      known = omega arith;
      room = omega arith;
      stored = λ k x le e. absurd (some-ne-none x (sym e));
      free = λ h. absurd (omega arith);
      narrow = omega arith;
      written = λ j h. absurd (omega arith);
      waits = λ h. absurd (omega arith);
      loaded = λ x e. absurd (some-ne-none x (sym e));
      lawful = none_follow (follows b);
      one_plan = refl;
      told_producer = prefix_nil [];
      told_consumer = prefix_nil [];
      unpaired = λ _. refl;
    };
    producer_role = refl;
    consumer_role = refl;
    producer_sits = refl;
    consumer_sits = λ e. absurd (let h : ⊥ = cc in h);
    seats = alone_seat b;
  }
