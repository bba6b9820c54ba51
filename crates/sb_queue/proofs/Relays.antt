-- Each call on a queue keeps the rule.
use Rattle.std.proofs.Common.{◌≡◌, ◌≢◌, ◌⊎◌, inl, inr, ℕ, zero, suc, true, false, true≢false, List, [], ◌∷◌, ◌++◌, length, set, sym, refl, ap, ◌∙◌, subst, ⊎_elim, append_assoc, ◌≤◌, length-append, arith}
use Rattle.std.specs.Prelude.{Option, Some, None}
use mathlib.Core.Option.{some, some-ne-none, some-injective}
use lib.ListN.{get_elem?}
use Rattle.crossbeam_queue.specs.Fifo.{Pushes, Pops, Forks, Merges, Learns}
use Rattle.crossbeam_queue.proofs.Lists.{at_set}
use Rattle.sb_link.specs.Traffic.{MayFollow}
use Rattle.sb_packet.specs.declared.item.Item.{Item}
use Rattle.sb_link.specs.PlanOf.{plan_of}
use Rattle.sb_link.specs.declared.plan.LinkPlan.{LinkPlan}
use Rattle.sb_link.proofs.InTurn.{appended_in_turn, nothing_in_turn}
use Rattle.sb_queue.specs.declared.log.Log.{Log}
use Rattle.sb_queue.specs.Relay.{log_of, FollowsBy, InTurnBy, IsPass, IsRelayed}

module _ {V : Type 0} where
  -- what stands in a list with one more item stood there before, or is that item
  snoc_at : (l : List V) (a b : V) (j : ℕ) → get_elem? (l ++ a ∷ []) j ≡ some b → (get_elem? l j ≡ some b) ⊎ ((j ≡ length l) × (a ≡ b))
  snoc_at [] a b zero e = inr (refl, some-injective a b e)
  snoc_at [] a b (suc j) e = absurd (some-ne-none b (sym e))
  snoc_at (x ∷ l) a b zero e = inl e
  snoc_at (x ∷ l) a b (suc j) e = ⊎_elim (λ t. inl t) (λ t. inr (ap suc t.0, t.1)) (snoc_at l a b j e)

  -- what holds of every log holds after one was changed, if it holds of the changed one
  all_set : (F : ℕ → V → Type 0) (views : List V) (id : ℕ) (w : V) → F id w → ((j : ℕ) (u : V) → j ≢ id → get_elem? views j ≡ some u → F j u)
      → (j : ℕ) (u : V) → get_elem? (set views id w) j ≡ some u → F j u
  all_set F views id w mine others j u e = ⊎_elim (λ (x : (j ≡ id) × (w ≡ u)). subst (λ (y : ℕ × V). F y.0 y.1) (λ i. (sym x.0 i, x.1 i)) mine)
      (λ (x : (j ≢ id) × (get_elem? views j ≡ some u)). others j u x.0 x.1) (at_set views id j w u e)

  -- and after one more came, if it holds of that one
  all_snoc : (F : ℕ → V → Type 0) (views : List V) (w : V) → F (length views) w → ((j : ℕ) (u : V) → get_elem? views j ≡ some u → F j u)
      → (j : ℕ) (u : V) → get_elem? (views ++ w ∷ []) j ≡ some u → F j u
  all_snoc F views w mine others j u e = ⊎_elim (λ x. others j u x)
      (λ (x : (j ≡ length views) × (w ≡ u)). subst (λ (y : ℕ × V). F y.0 y.1) (λ i. (sym x.0 i, x.1 i)) mine) (snoc_at views w u j e)

-- nothing is in turn by every plan
nothing_by : (plan : Option LinkPlan) → InTurnBy plan []
nothing_by None = refl
nothing_by (Some plan) = nothing_in_turn

-- an item that may follow a list in turn comes to its end in turn
appended_by : (plan : Option LinkPlan) (list : List Item) (item : Item) → InTurnBy plan list → FollowsBy plan list item → InTurnBy plan (list ++ item ∷ [])
appended_by None list item in_turn may = absurd may
appended_by (Some plan) list item in_turn may = appended_in_turn list item in_turn may

-- each item of a list in turn may follow those before it
follows_in : (plan : Option LinkPlan) (list before after : List Item) (item : Item) → InTurnBy plan list → list ≡ before ++ item ∷ after → FollowsBy plan before item
follows_in None list [] after item none cut = let h : ⊥ = cc in absurd h
follows_in None list (x ∷ before) after item none cut = let h : ⊥ = cc in absurd h
follows_in (Some plan) list before after item in_turn cut = in_turn before after item cut

-- what may follow by a known plan may follow
pub may_follow : (some_plan : Option LinkPlan) (plan : LinkPlan) (before : List Item) (item : Item) → some_plan ≡ Some plan → FollowsBy some_plan before item → MayFollow (plan_of plan) before item
may_follow some_plan plan before item is may = subst (λ (p : Option LinkPlan). FollowsBy p before item) is may

-- and the other way round
pub follows_by : (some_plan : Option LinkPlan) (plan : LinkPlan) (before : List Item) (item : Item) → some_plan ≡ Some plan → MayFollow (plan_of plan) before item → FollowsBy some_plan before item
follows_by some_plan plan before item is may = subst (λ (p : Option LinkPlan). FollowsBy p before item) (sym is) may

-- at the start one pass may do both
first_port : (j : ℕ) (v : Log) → get_elem? (log_of true true None [] [] ∷ []) j ≡ some v → IsPass 0 0 None [] [] j v
first_port zero v e = subst (λ (z : Log). IsPass 0 0 None [] [] 0 z) (some-injective (log_of true true None [] []) v e) record { one_writer = λ _. (refl, refl, refl); one_reader = λ _. (refl, refl, refl) }
first_port (suc j) v e = absurd (some-ne-none v (sym e))

-- a new queue
pub begins : IsRelayed [] (log_of true true None [] [] ∷ [])
begins = record { writer = 0; reader = 0; plan = None; sent = []; received = []; in_order = refl; in_turn = refl; ports = first_port }

-- a push
pub puts : (n port : ℕ) (v : Log) (x : Item) → v.pushes ≡ true → FollowsBy v.plan v.sent x → Pushes IsRelayed n port v x (λ w. w ≡ log_of v.pushes v.pops v.plan (v.sent ++ x ∷ []) v.received)
puts n port v x may follows items views _ h at = let w : Log = log_of v.pushes v.pops v.plan (v.sent ++ x ∷ []) v.received in let f = h.ports port v at in let mine = f.one_writer may in let sent = h.sent ++ x ∷ [] in (
  w,
  record {
    writer = h.writer;
    reader = h.reader;
    plan = h.plan;
    sent = sent;
    received = h.received;
    in_order = ap (λ l. l ++ x ∷ []) h.in_order ∙ append_assoc h.received items (x ∷ []);
    in_turn = appended_by h.plan h.sent x h.in_turn (subst (λ (p : Option LinkPlan). FollowsBy p h.sent x) mine.2 (subst (λ (l : List Item). FollowsBy v.plan l x) mine.1 follows));
    ports = all_set (IsPass h.writer h.reader h.plan sent h.received) views port w
        record { one_writer = λ _. (mine.0, ap (λ l. l ++ x ∷ []) mine.1, mine.2); one_reader = f.one_reader }
        (λ j u other e. let g = h.ports j u e in record { one_writer = λ p. absurd (other ((g.one_writer p).0 ∙ sym mine.0)); one_reader = g.one_reader });
  },
  refl,
)

-- a pop
pub takes : (port : ℕ) (v : Log) → v.pops ≡ true → Pops IsRelayed port v (λ x w. FollowsBy v.plan v.received x × (w ≡ log_of v.pushes v.pops v.plan v.sent (v.received ++ x ∷ [])))
takes port v may x items views h at = let w : Log = log_of v.pushes v.pops v.plan v.sent (v.received ++ x ∷ []) in let f = h.ports port v at in let mine = f.one_reader may in let received = h.received ++ x ∷ [] in (
  w,
  record {
    writer = h.writer;
    reader = h.reader;
    plan = h.plan;
    sent = h.sent;
    received = received;
    in_order = h.in_order ∙ sym (append_assoc h.received (x ∷ []) items);
    in_turn = h.in_turn;
    ports = all_set (IsPass h.writer h.reader h.plan h.sent received) views port w
        record { one_writer = f.one_writer; one_reader = λ _. (mine.0, ap (λ l. l ++ x ∷ []) mine.1, mine.2) }
        (λ j u other e. let g = h.ports j u e in record { one_writer = g.one_writer; one_reader = λ p. absurd (other ((g.one_reader p).0 ∙ sym mine.0)) });
  },
  (subst (λ (p : Option LinkPlan). FollowsBy p v.received x) (sym mine.2) (subst (λ (l : List Item). FollowsBy h.plan l x) (sym mine.1) (follows_in h.plan h.sent h.received items x h.in_turn h.in_order)), refl),
)

-- the queue holds no more than was sent
pub few_held : (port : ℕ) (v : Log) → v.pushes ≡ true → Learns IsRelayed port v (λ items. length items ≤ length v.sent)
few_held port v may items views h at = let mine = (h.ports port v at).one_writer may in omega (arith, ap length h.in_order, length-append h.received items, ap length mine.1)

-- a new pass gets the pops, and both get a plan, before anything was sent
pub forks : (plan : Option LinkPlan) (port : ℕ) (v : Log) → v.pushes ≡ true → v.pops ≡ true → v.sent ≡ [] → Forks IsRelayed port v (log_of true false plan v.sent []) (log_of false true plan [] v.received)
forks plan port v a b none items views h at = let l : Log = log_of true false plan v.sent [] in let r : Log = log_of false true plan [] v.received in
    let f = h.ports port v at in let s = f.one_writer a in let g = f.one_reader b in let vs : List Log = set views port l in record {
      writer = h.writer;
      reader = length vs;
      plan = plan;
      sent = h.sent;
      received = h.received;
      in_order = h.in_order;
      in_turn = subst (λ (m : List Item). InTurnBy plan m) (sym none ∙ s.1) (nothing_by plan);
      ports = all_snoc (IsPass h.writer (length vs) plan h.sent h.received) vs r record { one_writer = λ p. absurd (true≢false (sym p)); one_reader = λ _. (refl, g.1, refl) }
          (all_set (IsPass h.writer (length vs) plan h.sent h.received) views port l record { one_writer = λ _. (s.0, s.1, refl); one_reader = λ p. absurd (true≢false (sym p)) }
          (λ j u other e. let q = h.ports j u e in record { one_writer = λ p. absurd (other ((q.one_writer p).0 ∙ sym s.0)); one_reader = λ p. absurd (other ((q.one_reader p).0 ∙ sym g.0)) }));
    }

-- the pass that pops takes in the one that pushes
pub merges : (port : ℕ) (v : Log) (other : ℕ) (u : Log) → v.pops ≡ true → u.pushes ≡ true → Merges IsRelayed port v other u (log_of true true v.plan u.sent v.received) (log_of false false None [] [])
merges port v other u a b items views h at two at' = let both : Log = log_of true true v.plan u.sent v.received in let mine = (h.ports port v at).one_reader a in let vs : List Log = set views port both in
    let was : get_elem? views other ≡ some u = ⊎_elim (λ x. absurd (two x.0)) (λ x. x.1) (at_set views port other both u at') in let theirs = (h.ports other u was).one_writer b in
    let Now : ℕ → Log → Type 0 = λ j y. j ≢ other → IsPass port h.reader h.plan h.sent h.received j y in record {
      writer = port;
      reader = h.reader;
      plan = h.plan;
      sent = h.sent;
      received = h.received;
      in_order = h.in_order;
      in_turn = h.in_turn;
      ports = all_set (IsPass port h.reader h.plan h.sent h.received) vs other (log_of false false None [] []) record { one_writer = λ p. absurd (true≢false (sym p)); one_reader = λ p. absurd (true≢false (sym p)) }
          (λ j y apart e. all_set Now views port both (λ _. record { one_writer = λ _. (refl, theirs.1, mine.2); one_reader = λ _. mine })
          (λ i z other' q ap'. let f = h.ports i z q in record { one_writer = λ p. absurd (ap' ((f.one_writer p).0 ∙ sym theirs.0)); one_reader = f.one_reader }) j y e apart);
    }

-- a pass that may do both knows what the queue holds
pub totals : (port : ℕ) (v : Log) → v.pushes ≡ true → v.pops ≡ true → Learns IsRelayed port v (λ items. v.sent ≡ v.received ++ items)
totals port v a b items views h at = let f = h.ports port v at in (f.one_writer a).1 ∙ h.in_order ∙ ap (λ l. l ++ items) (sym (f.one_reader b).1)
