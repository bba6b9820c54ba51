-- A step of one seat keeps what the rule says of the others.
use Rattle.std.proofs.Common.{◌≡◌, ◌≢◌, ℕ, ⊎_elim, List, [], ◌∷◌, ◌++◌, length, set, sym, refl, ap, ◌∙◌, subst}
use mathlib.Core.Option.{Option, some, some-injective}
use lib.ListN.{get_elem?}
use Rattle.atomic_table.specs.Table.{State}
use Rattle.atomic_table.proofs.Lists.{at_set, set_else, set_here}
use Rattle.sb_link.specs.Prefixes.{IsPrefix}
use Rattle.sb_ring.specs.declared.view.View.{View}
use Rattle.sb_ring.specs.declared.view.Role.TheVariants.{Producer, Consumer}
use Rattle.sb_ring.specs.Rule.{IsRing, IsRuled, IsSeat}
use Rattle.sb_ring.proofs.Prefixes.{below, prefix_trans, snoc_at}

module _ {V : Type 0} where
  -- what holds of every view holds after one of them was changed, if it holds of the changed one
  pub all_set : (F : ℕ → V → Type 0) (views : List V) (id : ℕ) (w : V) → F id w → ((j : ℕ) (u : V) → j ≢ id → get_elem? views j ≡ some u → F j u)
      → (j : ℕ) (u : V) → get_elem? (set views id w) j ≡ some u → F j u
  all_set F views id w mine others j u e = ⊎_elim (λ (x : (j ≡ id) × (w ≡ u)). subst (λ (y : ℕ × V). F y.0 y.1) (λ i. (sym x.0 i, x.1 i)) mine)
      (λ (x : (j ≢ id) × (get_elem? views j ≡ some u)). others j u x.0 x.1) (at_set views id j w u e)

  -- and after one more came, if it holds of that one
  pub all_snoc : (F : ℕ → V → Type 0) (views : List V) (w : V) → F (length views) w → ((j : ℕ) (u : V) → get_elem? views j ≡ some u → F j u)
      → (j : ℕ) (u : V) → get_elem? (views ++ w ∷ []) j ≡ some u → F j u
  all_snoc F views w mine others j u e = ⊎_elim (λ x. others j u x)
      (λ (x : (j ≡ length views) × (w ≡ u)). subst (λ (y : ℕ × V). F y.0 y.1) (λ i. (sym x.0 i, x.1 i)) mine) (snoc_at views w u j e)

  -- where a view stood, the changed one stands
  pub set_there : (views : List V) (id : ℕ) (v w : V) → get_elem? views id ≡ some v → get_elem? (set views id w) id ≡ some w
  set_there views id v w at = set_here views id w (below views id v at)

  -- a view that isn't the changed one stays; `F` tells them apart
  pub set_apart : {B : Type 0} (f : V → B) (views : List V) (id j : ℕ) (v w u : V) → ¬ (f u ≡ f v) → get_elem? views id ≡ some v → get_elem? views j ≡ some u → get_elem? (set views id w) j ≡ some u
  set_apart f views id j v w u apart at there =
      set_else views id j w (λ e. apart (ap f (some-injective u v (sym there ∙ ap (λ n. get_elem? views n) e ∙ at)))) ∙ there

module _ {S P I : Type 0} (width : ℕ) (enc : I → List ℕ) (follows : P → List I → I → Type 0) (c : ℕ) where
  -- the producer's seat has the view that the rule speaks of
  pub is_producer : (s : State S (View P I)) (k : IsRuled width enc follows c s) (id : ℕ) (v : View P I) → get_elem? s.views id ≡ some v → v.role ≡ Producer → IsRing width enc follows c s.words v k.consumer
  is_producer s k id v at role = subst (λ z. IsRing width enc follows c s.words z k.consumer) (sym ((k.seats id v at).one_producer role).1) k.ring

  -- and so has the consumer's
  pub is_consumer : (s : State S (View P I)) (k : IsRuled width enc follows c s) (id : ℕ) (v : View P I) → get_elem? s.views id ≡ some v → v.role ≡ Consumer → IsRing width enc follows c s.words k.producer v
  is_consumer s k id v at role = subst (λ z. IsRing width enc follows c s.words k.producer z) (sym ((k.seats id v at).one_consumer role).1) k.ring

  -- the producer makes a step
  pub producer_steps : (s : State S (View P I)) (k : IsRuled width enc follows c s) (id : ℕ) (v : View P I) → get_elem? s.views id ≡ some v → v.role ≡ Producer
      → (ws : List ℕ) (hs : List (Option S)) (p : View P I) → p.role ≡ Producer → p.paired ≡ v.paired → IsPrefix v.items p.items
      → IsRing width enc follows c ws p k.consumer → IsRuled width enc follows c record { words = ws; homes = hs; views = set s.views id p }
  producer_steps s k id v at role ws hs p is same grows ring = let mine = (k.seats id v at).one_producer role in
      let as_before : p.paired ≡ k.producer.paired = same ∙ ap (λ (z : View P I). z.paired) mine.1 in record {
        producer_seat = k.producer_seat;
        consumer_seat = k.consumer_seat;
        producer = p;
        consumer = k.consumer;
        producer_role = is;
        consumer_role = k.consumer_role;
        producer_sits = subst (λ j. get_elem? (set s.views id p) j ≡ some p) mine.0 (set_there s.views id v p at);
        consumer_sits = λ pair. set_apart (λ (z : View P I). z.role) s.views id k.consumer_seat v p k.consumer (λ e. let h : ⊥ = cc (k.consumer_role, role, e) in h) at (k.consumer_sits (sym as_before ∙ pair));
        seats = all_set (IsSeat k.producer_seat k.consumer_seat p k.consumer) s.views id p
            record {
              one_producer = λ _. (mine.0, refl);
              one_consumer = λ e. absurd (let h : ⊥ = cc (is, e) in h);
              received_note = λ e. absurd (let h : ⊥ = cc (is, e) in h);
              sent_note = λ e. absurd (let h : ⊥ = cc (is, e) in h);
            }
            (λ j u other e. let f = k.seats j u e in record {
              one_producer = λ h. absurd (other ((f.one_producer h).0 ∙ sym mine.0));
              one_consumer = λ h. let g = f.one_consumer h in (g.0, g.1, as_before ∙ g.2);
              received_note = f.received_note;
              sent_note = λ h. prefix_trans u.items v.items p.items (subst (λ (z : View P I). IsPrefix u.items z.items) (sym mine.1) (f.sent_note h)) grows;
            });
        ring = ring;
      }

  -- the consumer makes a step
  pub consumer_steps : (s : State S (View P I)) (k : IsRuled width enc follows c s) (id : ℕ) (v : View P I) → get_elem? s.views id ≡ some v → v.role ≡ Consumer
      → (ws : List ℕ) (hs : List (Option S)) (q : View P I) → q.role ≡ Consumer → IsPrefix v.items q.items
      → IsRing width enc follows c ws k.producer q → IsRuled width enc follows c record { words = ws; homes = hs; views = set s.views id q }
  consumer_steps s k id v at role ws hs q is grows ring = let mine = (k.seats id v at).one_consumer role in record {
    producer_seat = k.producer_seat;
    consumer_seat = k.consumer_seat;
    producer = k.producer;
    consumer = q;
    producer_role = k.producer_role;
    consumer_role = is;
    producer_sits = set_apart (λ (z : View P I). z.role) s.views id k.producer_seat v q k.producer (λ e. let h : ⊥ = cc (k.producer_role, role, e) in h) at k.producer_sits;
    consumer_sits = λ _. subst (λ j. get_elem? (set s.views id q) j ≡ some q) mine.0 (set_there s.views id v q at);
    seats = all_set (IsSeat k.producer_seat k.consumer_seat k.producer q) s.views id q
        record {
          one_producer = λ e. absurd (let h : ⊥ = cc (is, e) in h);
          one_consumer = λ _. (mine.0, refl, mine.2);
          received_note = λ e. absurd (let h : ⊥ = cc (is, e) in h);
          sent_note = λ e. absurd (let h : ⊥ = cc (is, e) in h);
        }
        (λ j u other e. let f = k.seats j u e in record {
          one_producer = f.one_producer;
          one_consumer = λ h. absurd (other ((f.one_consumer h).0 ∙ sym mine.0));
          received_note = λ h. prefix_trans u.items v.items q.items (subst (λ (z : View P I). IsPrefix u.items z.items) (sym mine.1) (f.received_note h)) grows;
          sent_note = f.sent_note;
        });
    ring = ring;
  }
