-- Nodes that each take their turns in a row, from the first place on, make a round.
use Rattle.std.proofs.Common.{◌≡◌, ◌≢◌, ⊎_elim, ℕ, ◌+◌, ◌<◌, ◌≤◌, List, length, get_or, set, Bool, true, false, sym, ◌∙◌, subst, All, arith}
use Rattle.std.specs.Prelude.{◌||◌}
use Rattle.std.proofs.lemmas.List.{get_or-set_other, get_or-set_same, length-set, get_or_default}
use Rattle.std.proofs.lemmas.List.Elements.{All-set}
use Rattle.std.proofs.lemmas.Bool.{cases_lt, or_parts, or_cases}
use Rattle.sb_link.specs.declared.answers.Turn.{Turn}
use Rattle.sb_link.specs.declared.answers.Turn.TheVariants.{Moved, Done}
use Rattle.sb_drive.specs.Rounds.{HasMoved, HasTurnedInARow, IsRound}

module _ {N : Type 0} (whole : N → Type 0) (reaches : ℕ → N → N → Type 0) (rests : N → N → Type 0) (turns : N → ℕ → Turn → N → Type 0) (n : ℕ) where
  -- the nodes at the first k places have taken their turns: xs were the nodes, and now they are ys, with the last answers ms
  pub record HasSwept (k : ℕ) (xs ys : List N) (ms : List Turn) (moved : Bool) : Type 0 where
    pub same : length ys ≡ length xs
    pub placed : length ms ≡ length xs
    pub still : (j : ℕ) (d : N) → k ≤ j → get_or ys j d ≡ get_or xs j d
    pub rows : (j : ℕ) (d : N) → j < k → (b : Bool) × (moved ≡ false → b ≡ false) × HasTurnedInARow reaches rests turns n (get_or xs j d) (get_or ms j Done) (get_or ys j d) b
    pub none : moved ≡ false → (j : ℕ) → j < k → get_or ms j Done ≢ Moved
    pub intact : All whole ys
    pub some : moved ≡ true → (j : ℕ) × (j < k) × ((d : N) → HasMoved reaches turns n (get_or xs j d) (get_or ys j d))

  -- the node at the next place took its turns, from x to y
  pub one_swept : (k : ℕ) (xs ys : List N) (ms : List Turn) (moved : Bool) (x y : N) (t : Turn) (b : Bool)
      → HasSwept k xs ys ms moved → k < length xs → x ≡ get_or ys k x → whole y → HasTurnedInARow reaches rests turns n x t y b
      → HasSwept (k + 1) xs (set ys k y) (set ms k t) (moved || b)
  one_swept k xs ys ms moved x y t b r lt is w row =
      let ly : k < length ys = let s = r.same in omega arith in
      let lm : k < length ms = let s = r.placed in omega arith in
      let was : (d : N) → x ≡ get_or xs k d = (λ d. is ∙ sym (get_or_default ys k d x ly) ∙ r.still k d (omega arith)) in
      let node : (d : N) → y ≡ get_or (set ys k y) k d = (λ d. sym (get_or-set_same ys k y d ly)) in
      let heard : t ≡ get_or (set ms k t) k Done = sym (get_or-set_same ms k t Done lm) in
      let node_before : (j : ℕ) (d : N) → j < k → get_or ys j d ≡ get_or (set ys k y) j d = (λ j d l. sym (get_or-set_other ys k j y d (λ e. omega arith))) in
      let heard_before : (j : ℕ) → j < k → get_or ms j Done ≡ get_or (set ms k t) j Done = (λ j l. sym (get_or-set_other ms k j t Done (λ e. omega arith))) in record {
        same = length-set ys k y ∙ r.same;
        placed = length-set ms k t ∙ r.placed;
        still = λ j d l. get_or-set_other ys k j y d (λ e. omega arith) ∙ r.still j d (omega arith);
        rows = λ j d l. ⊎_elim
            (λ (below : j < k). let g = r.rows j d below in (
              g.0,
              (λ e. g.1 (or_parts moved b e).0),
              subst (λ z. HasTurnedInARow reaches rests turns n (get_or xs j d) (get_or (set ms k t) j Done) z g.0) (node_before j d below)
                  (subst (λ z. HasTurnedInARow reaches rests turns n (get_or xs j d) z (get_or ys j d) g.0) (heard_before j below) g.2),
            ))
            (λ (from : k ≤ j). let e : k ≡ j = omega arith in (
              b,
              (λ e. (or_parts moved b e).1),
              subst (λ j. HasTurnedInARow reaches rests turns n (get_or xs j d) (get_or (set ms k t) j Done) (get_or (set ys k y) j d) b) e
                  (subst (λ z. HasTurnedInARow reaches rests turns n z (get_or (set ms k t) k Done) (get_or (set ys k y) k d) b) (was d)
                  (subst (λ z. HasTurnedInARow reaches rests turns n x z (get_or (set ys k y) k d) b) heard (subst (λ z. HasTurnedInARow reaches rests turns n x t z b) (node d) row))),
            ))
            (cases_lt j k);
        none = λ e j l. let o = or_parts moved b e in ⊎_elim
            (λ (below : j < k). subst (λ z. z ≢ Moved) (heard_before j below) (r.none o.0 j below))
            (λ (from : k ≤ j). let same : k ≡ j = omega arith in subst (λ j. get_or (set ms k t) j Done ≢ Moved) same (subst (λ z. z ≢ Moved) heard (row.none_moved o.1)))
            (cases_lt j k);
        intact = All-set whole ys k y w r.intact;
        some = λ e. ⊎_elim
            (λ (o : moved ≡ true). let f = r.some o in (f.0, (let l = f.1 in omega arith), λ d. subst (λ z. HasMoved reaches turns n (get_or xs f.0 d) z) (node_before f.0 d f.1) (f.2 d)))
            (λ (o : b ≡ true). (k, (omega arith), λ d. subst (λ z. HasMoved reaches turns n z (get_or (set ys k y) k d)) (was d) (subst (λ z. HasMoved reaches turns n x z) (node d) (row.some_moved o))))
            (or_cases moved b e);
      }

  -- when all nodes took their turns, that was a round
  pub all_swept : (k : ℕ) (xs ys : List N) (ms : List Turn) (moved : Bool) → length xs ≤ k → k ≤ length xs → HasSwept k xs ys ms moved
      → IsRound reaches rests turns n xs ys ms moved
  all_swept k xs ys ms moved over within r = let below : (j : ℕ) → j < length xs → j < k = (λ j lt. omega arith) in record {
    same = r.same;
    reached = λ j d lt. (r.rows j d (below j lt)).2.reached;
    last_turns = λ j d lt. (r.rows j d (below j lt)).2.last_turn;
    some_moved = λ e. let f = r.some e in (f.0, (let l = f.1 in omega arith), f.2);
    rested_turns = λ e j d lt. let g = r.rows j d (below j lt) in g.2.rested_turn (g.1 e);
    rested = λ e j d lt. let g = r.rows j d (below j lt) in g.2.rested (g.1 e);
    none_moved = λ e j lt. r.none e j (below j lt);
  }
