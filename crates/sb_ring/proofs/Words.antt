-- Each step keeps what the rule says of the words and of the two views.
use Rattle.std.proofs.Common.{◌≡◌, ◌≢◌, ℕ, ◌+◌, ◌*◌, ◌%◌, ◌<◌, ◌≤◌, ⊎_elim, true, false, true≢false, List, [], ◌∷◌, ◌++◌, length, get_or, set, sym, ap, ◌∙◌, subst, append_assoc, length-append, arith}
use Rattle.std.proofs.lemmas.List.{append-nil, get_or-set_other, get_or-set_same, length-set, nil_from_length}
use Rattle.std.proofs.lemmas.Bool.{cases_lt}
use Rattle.std.proofs.lemmas.Nat.{same_from_place, mul-add-lt}
use Rattle.std.proofs.Math.Nat.{mod-lt, mul_comm}
use mathlib.Core.Option.{some-injective}
use lib.ListN.{get_elem?}
use Rattle.atomic_table.proofs.Lists.{at_longer, one_turn}
use Rattle.sb_ring.specs.declared.view.View.{View}
use Rattle.sb_link.specs.Prefixes.{IsPrefix}
use Rattle.sb_ring.specs.Layout.{head_word, slots_word}
use Rattle.sb_ring.specs.Rule.{StandAt, sent_of, slot_place, IsRing}
use Rattle.sb_ring.proofs.Prefixes.{prefix_snoc, prefix_more, prefix_nil, prefix_length, prefix_trans, next_of, below, snoc_at, follows_snoc, front_grows, stands_else, stands_found, stands_front, stands_snoc}

-- a place of an item lies in the table
pub place_fits : (width c k j : ℕ) → 0 < c → j < width → slot_place width c k + j < slots_word + c * width
place_fits width c k j pos h = let m : k % c < c = mod-lt k pos in
    omega (arith, mul-add-lt (k % c) width j c m h, mul_comm width c)

-- one place is that of one item
pub place_apart : (width c k n j i : ℕ) → k ≤ n → n < k + c → j < width → i < width → k ≢ n → slot_place width c k + j ≢ slot_place width c n + i
place_apart width c k n j i le near hj hi ne e =
    let eq : k % c * width + j ≡ n % c * width + i = omega arith in
    ne (one_turn k n c le near (same_from_place (k % c) j (n % c) i width hj hi eq).0)

module _ {P I : Type 0} (width : ℕ) (enc : I → List ℕ) (enc_length : (x : I) → length (enc x) ≡ width) (follows : P → List I → I → Type 0) (c : ℕ) where
  -- the producer loads the head
  pub head_loaded : (ws : List ℕ) (p q : View P I) (n : ℕ) → n ≡ length q.items → IsRing width enc follows c ws p q → IsRing width enc follows c ws (record p { learnt = n; loads = p.loads + 1 }) q
  head_loaded ws p q n is r = record {
    size = r.size;
    tail = r.tail;
    head = r.head;
    in_order = r.in_order;
    taken = omega arith;
    known = r.known;
    room = let a = r.taken in let b = r.room in omega arith;
    stored = r.stored;
    free = λ h. let a = r.taken in let b = r.free h in omega arith;
    narrow = r.narrow;
    written = r.written;
    waits = r.waits;
    loaded = r.loaded;
    lawful = r.lawful;
    one_plan = r.one_plan;
    told_producer = r.told_producer;
    told_consumer = r.told_consumer;
    unpaired = r.unpaired;
  }

  -- the producer loads a word of its free slot, which stands there behind those that it has
  pub word_found : (ws : List ℕ) (p q : View P I) (v : ℕ) → IsRing width enc follows c ws p q → length (sent_of p) < p.learnt + c → length p.part < width
      → v ≡ get_or ws (slot_place width c (length (sent_of p)) + length p.part) 0 → IsRing width enc follows c ws (record p { part = p.part ++ v ∷ [] }) q
  word_found ws p q v r room narrow is = record {
    size = r.size;
    tail = r.tail;
    head = r.head;
    in_order = r.in_order;
    taken = r.taken;
    known = r.known;
    room = r.room;
    stored = r.stored;
    free = λ _. room;
    narrow = omega (arith, length-append p.part (v ∷ []));
    written = stands_found ws (slot_place width c (length (sent_of p))) v p.part is r.written;
    waits = r.waits;
    loaded = r.loaded;
    lawful = r.lawful;
    one_plan = r.one_plan;
    told_producer = r.told_producer;
    told_consumer = r.told_consumer;
    unpaired = r.unpaired;
  }

  -- the producer stores another word in place of the last one that it has
  pub word_replaced : (ws : List ℕ) (p q : View P I) (front : List ℕ) (y v : ℕ) → IsRing width enc follows c ws p q → p.part ≡ front ++ y ∷ []
      → IsRing width enc follows c (set ws (slot_place width c (length (sent_of p)) + length front) v) (record p { part = front ++ v ∷ [] }) q
  word_replaced ws p q front y v r is = let n : ℕ = length (sent_of p) in let i : ℕ = slot_place width c n + length front in let longer : length p.part ≡ length front + 1 = ap length is ∙ length-append front (y ∷ []) in
      let some : 0 < length p.part = omega arith in let room = r.free some in let most = r.narrow in let narrow : length front < width = omega arith in
      let all : n ≡ length p.items + length p.ahead = length-append p.items p.ahead in let t = r.taken in
      let pos : 0 < c = omega (arith, prefix_length q.items p.items r.in_order) in record {
        size = length-set ws i v ∙ r.size;
        tail = let ne : 0 ≢ i = omega arith in get_or-set_other ws i 0 v 0 ne ∙ r.tail;
        head = let ne : head_word ≢ i = omega arith in get_or-set_other ws i head_word v 0 ne ∙ r.head;
        in_order = r.in_order;
        taken = r.taken;
        known = r.known;
        room = r.room;
        stored = λ k x le e. let lt = below (sent_of p) k x e in let ne : k ≢ n = omega arith in let near : n < k + c = omega arith in
            stands_else ws (slot_place width c k) i v (enc x) (λ j h. let hj : j < width = omega (arith, enc_length x) in let le' : k ≤ n = omega arith in place_apart width c k n j (length front) le' near hj narrow ne) (r.stored k x le e);
        free = λ _. room;
        narrow = omega (arith, length-append front (v ∷ []));
        written = let fits = place_fits width c n (length front) pos narrow in let s = r.size in let b : i < length ws = omega arith in stands_snoc ws (slot_place width c n) v front b (stands_front ws (slot_place width c n) y front (subst (λ (part : List ℕ). StandAt ws (slot_place width c n) part) is r.written));
        waits = r.waits;
        loaded = r.loaded;
        lawful = r.lawful;
        one_plan = r.one_plan;
        told_producer = r.told_producer;
        told_consumer = r.told_consumer;
        unpaired = r.unpaired;
      }

  -- the words that the producer has are an item's, which it sends
  pub item_ended : (ws : List ℕ) (p q : View P I) (x : I) → IsRing width enc follows c ws p q → 0 < width → enc x ≡ p.part → follows p.plan (sent_of p) x
      → IsRing width enc follows c ws (record p { ahead = p.ahead ++ x ∷ []; part = [] }) q
  item_ended ws p q x r wide is may = let l : List I = sent_of p in let e : p.items ++ (p.ahead ++ x ∷ []) ≡ l ++ x ∷ [] = sym (append_assoc p.items p.ahead (x ∷ [])) in
      let full : 0 < length p.part = omega (arith, enc_length x, ap length is) in let room = r.free full in
      let more : length (p.items ++ (p.ahead ++ x ∷ [])) ≡ length l + 1 = ap length e ∙ length-append l (x ∷ []) in record {
        size = r.size;
        tail = r.tail;
        head = r.head;
        in_order = r.in_order;
        taken = r.taken;
        known = r.known;
        room = omega arith;
        stored = λ k y le g. ⊎_elim (λ o. r.stored k y le o)
            (λ t. subst (λ z. StandAt ws (slot_place width c k) (enc z)) t.1 (subst (λ m. StandAt ws (slot_place width c m) (enc x)) (sym t.0) (subst (λ z. StandAt ws (slot_place width c (length l)) z) (sym is) r.written)))
            (snoc_at l x y k (ap (λ m. get_elem? m k) (sym e) ∙ g));
        free = λ h. absurd (omega arith);
        narrow = omega arith;
        written = λ j h. absurd (omega arith);
        waits = r.waits;
        loaded = r.loaded;
        lawful = λ ys zs y g. follows_snoc (follows p.plan) l x r.lawful may ys zs y (sym e ∙ g);
        one_plan = r.one_plan;
        told_producer = r.told_producer;
        told_consumer = r.told_consumer;
        unpaired = r.unpaired;
      }

  -- the producer stores the tail
  pub tail_stored : (ws : List ℕ) (p q : View P I) → IsRing width enc follows c ws p q
      → IsRing width enc follows c (set ws 0 (length (sent_of p))) (record p { items = sent_of p; ahead = [] }) q
  tail_stored ws p q r = let l : List I = sent_of p in let n : ℕ = length l in let e : l ++ [] ≡ l = append-nil l in let s = r.size in
      let all : n ≡ length p.items + length p.ahead = length-append p.items p.ahead in let k = r.known in record {
        size = length-set ws 0 n ∙ r.size;
        tail = let b : 0 < length ws = omega arith in get_or-set_same ws 0 n 0 b;
        head = let ne : head_word ≢ 0 = omega arith in get_or-set_other ws 0 head_word n 0 ne ∙ r.head;
        in_order = prefix_trans q.items p.items l r.in_order (prefix_more p.items p.ahead);
        taken = r.taken;
        known = omega arith;
        room = omega (arith, r.room, ap length e);
        stored = λ j x le g. stands_else ws (slot_place width c j) 0 n (enc x) (λ i h q. omega arith) (r.stored j x le (ap (λ m. get_elem? m j) (sym e) ∙ g));
        free = λ h. omega (arith, r.free h, ap length e);
        narrow = r.narrow;
        written = stands_else ws (slot_place width c (length (l ++ []))) 0 n p.part (λ i h q. omega arith) (subst (λ m. StandAt ws (slot_place width c m) p.part) (sym (ap length e)) r.written);
        waits = r.waits;
        loaded = λ x g. ⊎_elim
            (λ (lt : length q.items < length p.items). let f = next_of q.items p.items r.in_order lt in
            let is : f.0 ≡ x = some-injective f.0 x (sym (at_longer p.items p.ahead (length q.items) f.0 f.3) ∙ g) in subst (λ z. IsPrefix q.part (enc z)) is (r.loaded f.0 f.3))
            (λ (ge : length p.items ≤ length q.items).
            let none : q.part ≡ [] = nil_from_length q.part (⊎_elim (λ (h : 0 < length q.part). let lt = r.waits h in absurd (omega arith)) (λ (h : length q.part ≤ 0). omega arith) (cases_lt 0 (length q.part))) in
            record { rest = enc x; joined = ap (λ m. m ++ enc x) none })
            (cases_lt (length q.items) (length p.items));
        lawful = λ ys zs y g. r.lawful ys zs y (sym e ∙ g);
        one_plan = r.one_plan;
        told_producer = r.told_producer;
        told_consumer = prefix_trans q.told p.items l r.told_consumer (prefix_more p.items p.ahead);
        unpaired = r.unpaired;
      }

  -- the consumer loads the tail
  pub tail_loaded : (ws : List ℕ) (p q : View P I) (n : ℕ) → n ≡ length p.items → p.paired ≡ true → IsRing width enc follows c ws p q → IsRing width enc follows c ws p (record q { learnt = n; loads = q.loads + 1 })
  tail_loaded ws p q n is pair r = record {
    size = r.size;
    tail = r.tail;
    head = r.head;
    in_order = r.in_order;
    taken = r.taken;
    known = omega arith;
    room = r.room;
    stored = r.stored;
    free = r.free;
    narrow = r.narrow;
    written = r.written;
    waits = λ h. let a = r.waits h in let b = r.known in omega arith;
    loaded = r.loaded;
    lawful = r.lawful;
    one_plan = r.one_plan;
    told_producer = r.told_producer;
    told_consumer = r.told_consumer;
    unpaired = λ un. absurd (true≢false (sym pair ∙ un));
  }

  -- the consumer loads a word of a slot
  pub word_loaded : (ws : List ℕ) (p q : View P I) (v : ℕ) → p.paired ≡ true → IsRing width enc follows c ws p q → length q.items < q.learnt → length q.part < width
      → v ≡ get_or ws (slot_place width c (length q.items) + length q.part) 0 → IsRing width enc follows c ws p (record q { part = q.part ++ v ∷ [] })
  word_loaded ws p q v pair r there narrow is = record {
    size = r.size;
    tail = r.tail;
    head = r.head;
    in_order = r.in_order;
    taken = r.taken;
    known = r.known;
    room = r.room;
    stored = r.stored;
    free = r.free;
    narrow = r.narrow;
    written = r.written;
    waits = λ _. there;
    loaded = λ x e. let h : length q.part < length (enc x) = omega (arith, enc_length x) in let le : length q.items ≤ length q.items = omega arith in
        front_grows q.part (enc x) v 0 (r.loaded x e) h (is ∙ r.stored (length q.items) x le (at_longer p.items p.ahead (length q.items) x e) (length q.part) h);
    lawful = r.lawful;
    one_plan = r.one_plan;
    told_producer = r.told_producer;
    told_consumer = r.told_consumer;
    unpaired = λ un. absurd (true≢false (sym pair ∙ un));
  }

  -- the consumer stores the head
  pub head_stored : (ws : List ℕ) (p q : View P I) (x : I) (rest : List I) → p.paired ≡ true → IsRing width enc follows c ws p q → length q.items < q.learnt → p.items ≡ q.items ++ x ∷ rest
      → IsRing width enc follows c (set ws head_word (length q.items + 1)) p (record q { items = q.items ++ x ∷ []; part = [] })
  head_stored ws p q x rest pair r there is = let n : ℕ = length q.items + 1 in let long = length-append q.items (x ∷ []) in let s = r.size in
      let all : length p.items ≡ length q.items + length (x ∷ rest) = ap length is ∙ length-append q.items (x ∷ rest) in record {
        size = length-set ws head_word n ∙ r.size;
        tail = let ne : 0 ≢ head_word = omega arith in get_or-set_other ws head_word 0 n 0 ne ∙ r.tail;
        head = let b : head_word < length ws = omega arith in get_or-set_same ws head_word n 0 b ∙ sym long;
        in_order = record { rest = rest; joined = append_assoc q.items (x ∷ []) rest ∙ sym is };
        taken = let t = r.taken in omega arith;
        known = r.known;
        room = r.room;
        stored = λ k y le e. let le' : length q.items ≤ k = omega arith in stands_else ws (slot_place width c k) head_word n (enc y) (λ j h g. omega arith) (r.stored k y le' e);
        free = r.free;
        narrow = r.narrow;
        written = stands_else ws (slot_place width c (length (sent_of p))) head_word n p.part (λ j h g. omega arith) r.written;
        waits = λ h. absurd (omega arith);
        loaded = λ y e. prefix_nil (enc y);
        lawful = r.lawful;
        one_plan = r.one_plan;
        told_producer = prefix_snoc p.told q.items x r.told_producer;
        told_consumer = r.told_consumer;
        unpaired = λ un. absurd (true≢false (sym pair ∙ un));
      }

  -- the first split
  pub paired_off : (ws : List ℕ) (p q : View P I) → p.paired ≡ false → IsRing width enc follows c ws p q → IsRing width enc follows c ws (record p { paired = true }) q
  paired_off ws p q un r = record {
    size = r.size;
    tail = r.tail;
    head = r.head;
    in_order = r.in_order;
    taken = r.taken;
    known = r.known;
    room = r.room;
    stored = r.stored;
    free = r.free;
    narrow = r.narrow;
    written = r.written;
    waits = r.waits;
    loaded = r.loaded;
    lawful = r.lawful;
    one_plan = r.one_plan;
    told_producer = r.told_producer;
    told_consumer = r.told_consumer;
    unpaired = λ e. absurd (true≢false e);
  }

  -- the consumer's list comes to the producer
  pub told_producer : (ws : List ℕ) (p q : View P I) (l : List I) → IsRing width enc follows c ws p q → IsPrefix l q.items → IsRing width enc follows c ws (record p { told = l }) q
  told_producer ws p q l r b = record {
    size = r.size;
    tail = r.tail;
    head = r.head;
    in_order = r.in_order;
    taken = r.taken;
    known = r.known;
    room = r.room;
    stored = r.stored;
    free = r.free;
    narrow = r.narrow;
    written = r.written;
    waits = r.waits;
    loaded = r.loaded;
    lawful = r.lawful;
    one_plan = r.one_plan;
    told_producer = b;
    told_consumer = r.told_consumer;
    unpaired = r.unpaired;
  }

  -- the producer's list comes to the consumer
  pub told_consumer : (ws : List ℕ) (p q : View P I) (l : List I) → p.paired ≡ true → IsRing width enc follows c ws p q → IsPrefix l p.items → IsRing width enc follows c ws p (record q { told = l })
  told_consumer ws p q l pair r b = record {
    size = r.size;
    tail = r.tail;
    head = r.head;
    in_order = r.in_order;
    taken = r.taken;
    known = r.known;
    room = r.room;
    stored = r.stored;
    free = r.free;
    narrow = r.narrow;
    written = r.written;
    waits = r.waits;
    loaded = r.loaded;
    lawful = r.lawful;
    one_plan = r.one_plan;
    told_producer = r.told_producer;
    told_consumer = b;
    unpaired = λ un. absurd (true≢false (sym pair ∙ un));
  }
