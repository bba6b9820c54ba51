-- Turns that follow one another, of one node and of nodes in a list.
use Rattle.std.proofs.Common.{◌≡◌, ⊎_elim, ℕ, ◌<◌, List, length, get_or, set, Bool, true, false, true≢false, refl, sym, ◌∙◌, subst, arith}
use Rattle.std.specs.Prelude.{◌||◌}
use Rattle.std.proofs.lemmas.List.{get_or-set_other, get_or-set_same, length-set, get_or_default}
use Rattle.std.proofs.lemmas.Bool.{cases_eq, or_parts, or_cases}
use Rattle.sb_link.specs.declared.answers.Turn.{Turn}
use Rattle.sb_link.specs.declared.answers.Turn.TheVariants.{Moved}
use Rattle.sb_drive.specs.Rounds.{HasMoved, IsRound, is_moved}
use Rattle.sb_drive.specs.SomeTurns.{HasTakenTurns, HaveTakenTurns}
use Rattle.sb_drive.proofs.Turned.{moved_is}

module _ {N : Type 0} (reaches : ℕ → N → N → Type 0) (rests : N → N → Type 0) (turns : N → ℕ → Turn → N → Type 0) (n : ℕ) where
  -- a round is turns too
  pub of_round : (xs ys : List N) (ls : List Turn) (moved : Bool) → IsRound reaches rests turns n xs ys ls moved → HaveTakenTurns reaches rests turns n xs ys moved
  of_round xs ys ls moved r = record { same = r.same; reached = r.reached; some_moved = r.some_moved; rested = r.rested }

module _ {N : Type 0} (reaches : ℕ → N → N → Type 0) (rests : N → N → Type 0) (turns : N → ℕ → Turn → N → Type 0) (n : ℕ)
    (then : (x y z : N) → reaches n x y → reaches n y z → reaches n x z) (rest_on : (x y z : N) → rests x y → rests y z → rests x z) where
  -- the node at one place took some turns more, from x to y
  pub one_node_more : (xs ys : List N) (moved : Bool) (k : ℕ) (x y : N) (b : Bool) → HaveTakenTurns reaches rests turns n xs ys moved → k < length xs → x ≡ get_or ys k x
      → HasTakenTurns reaches rests turns n x y b → HaveTakenTurns reaches rests turns n xs (set ys k y) (moved || b)
  one_node_more xs ys moved k x y b r lt is more =
      let ly : k < length ys = let s = r.same in omega arith in
      let was : (d : N) → x ≡ get_or ys k d = (λ d. is ∙ sym (get_or_default ys k d x ly)) in
      let node : (d : N) → y ≡ get_or (set ys k y) k d = (λ d. sym (get_or-set_same ys k y d ly)) in
      let other : (j : ℕ) (d : N) → (j ≡ k → ⊥) → get_or ys j d ≡ get_or (set ys k y) j d = (λ j d ne. sym (get_or-set_other ys k j y d ne)) in
      let led_here : (d : N) → reaches n (get_or xs k d) (get_or (set ys k y) k d) = (λ d. subst (λ z. reaches n (get_or xs k d) z) (node d)
      (then _ _ _ (r.reached k d lt) (subst (λ z. reaches n z y) (was d) more.reached))) in
      record {
        same = length-set ys k y ∙ r.same;
        reached = λ j d l. ⊎_elim
            (λ (here : j ≡ k). subst (λ i. reaches n (get_or xs i d) (get_or (set ys k y) i d)) (sym here) (led_here d))
            (λ (ne : j ≡ k → ⊥). subst (λ z. reaches n (get_or xs j d) z) (other j d ne) (r.reached j d l))
            (cases_eq j k);
        some_moved = λ e. ⊎_elim
            (λ (o : moved ≡ true). let f = r.some_moved o in (
              f.0,
              f.1,
              λ d. ⊎_elim
                  (λ (here : f.0 ≡ k). let h = f.2 d in
                  record {
                    start = h.start;
                    end = h.end;
                    to_turn = h.to_turn;
                    turn = h.turn;
                    from_turn = subst (λ i. reaches n h.end (get_or (set ys k y) i d)) (sym here) (subst (λ z. reaches n h.end z) (node d)
                        (then _ _ _ (subst (λ i. reaches n h.end (get_or ys i d)) here h.from_turn) (subst (λ z. reaches n z y) (was d) more.reached)));
                  })
                  (λ (ne : f.0 ≡ k → ⊥). subst (λ z. HasMoved reaches turns n (get_or xs f.0 d) z) (other f.0 d ne) (f.2 d))
                  (cases_eq f.0 k),
            ))
            (λ (o : b ≡ true). let h = more.some_moved o in (
              k,
              lt,
              λ d. record {
                start = h.start;
                end = h.end;
                to_turn = then _ _ _ (r.reached k d lt) (subst (λ z. reaches n z h.start) (was d) h.to_turn);
                turn = h.turn;
                from_turn = subst (λ z. reaches n h.end z) (node d) h.from_turn;
              },
            ))
            (or_cases moved b e);
        rested = λ e j d l. let o = or_parts moved b e in ⊎_elim
            (λ (here : j ≡ k). subst (λ i. rests (get_or xs i d) (get_or (set ys k y) i d)) (sym here) (subst (λ z. rests (get_or xs k d) z) (node d)
            (rest_on _ _ _ (r.rested o.0 k d lt) (subst (λ z. rests z y) (was d) (more.rested o.1)))))
            (λ (ne : j ≡ k → ⊥). subst (λ z. rests (get_or xs j d) z) (other j d ne) (r.rested o.0 j d l))
            (cases_eq j k);
      }

  -- turns that moved nothing, and a round behind them, are a round
  pub then_round : (xs ys zs : List N) (ls : List Turn) (moved : Bool) → HaveTakenTurns reaches rests turns n xs ys false → IsRound reaches rests turns n ys zs ls moved
      → IsRound reaches rests turns n xs zs ls moved
  then_round xs ys zs ls moved r s =
      let below : (k : ℕ) → k < length xs → k < length ys = (λ k lt. let e = r.same in omega arith) in
      let above : (k : ℕ) → k < length ys → k < length xs = (λ k lt. let e = r.same in omega arith) in record {
        same = s.same ∙ r.same;
        reached = λ k d lt. then _ _ _ (r.reached k d lt) (s.reached k d (below k lt));
        last_turns = λ k d lt. let h = s.last_turns k d (below k lt) in record { start = h.start; to_turn = then _ _ _ (r.reached k d lt) h.to_turn; turn = h.turn };
        some_moved = λ e. let f = s.some_moved e in (
          f.0,
          above f.0 f.1,
          λ d. let h = f.2 d in record { start = h.start; end = h.end; to_turn = then _ _ _ (r.reached f.0 d (above f.0 f.1)) h.to_turn; turn = h.turn; from_turn = h.from_turn },
        );
        rested_turns = λ e k d lt. let h = s.rested_turns e k d (below k lt) in record { start = h.start; to_turn = rest_on _ _ _ (r.rested refl k d lt) h.to_turn; turn = h.turn };
        rested = λ e k d lt. rest_on _ _ _ (r.rested refl k d lt) (s.rested e k d (below k lt));
        none_moved = λ e k lt. s.none_moved e k (below k lt);
      }
