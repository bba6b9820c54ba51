-- The words so far and the next one are one word more, and in the end they are all words of the packet.
use Rattle.std.proofs.Common.{◌≡◌, ◌≤◌, ◌<◌, ◌+◌, ℕ, suc, arith, sym, ap, ◌∙◌, subst, length, List, [], ◌∷◌, ◌++◌, take, append_assoc}
use Rattle.std.proofs.Math.Seq.{take-suc}
use Rattle.std.proofs.lemmas.List.{take_all}
use Rattle.std.proofs.lemmas.List.FromFn.{get_or-map-range_with_len, length-map-range_with_len}
use Rattle.sb_packet.specs.Accesses.{Access, access_at, accesses_of}
use Rattle.sb_packet.specs.Messages.{message_of}
use Rattle.sb_packet.specs.Spans.{word_count_of}
use Rattle.sb_packet.specs.declared.packet.Packet.{Packet}
use Rattle.sb_host.specs.Places.{asked_of}
use Rattle.sb_host.specs.Rows.{IsTable}
use Rattle.sb_host.proofs.transaction_table.TransactionTable.take.Goals as goal

word_more : (p : Packet) (k : ℕ) → k < word_count_of p.cmd → take (k + 1) (accesses_of p) ≡ take k (accesses_of p) ++ access_at (message_of p) k ∷ []
word_more p k below =
    let m = message_of p in
    let next : k + 1 ≡ suc k = omega arith in
    let long : length (accesses_of p) ≡ word_count_of p.cmd = length-map-range_with_len (access_at m) 0 (word_count_of p.cmd) in
    let here = get_or-map-range_with_len (access_at m) 0 (word_count_of p.cmd) k k (access_at m k) below (omega arith) in
    ap (λ (n : ℕ). take n (accesses_of p)) next ∙ take-suc (accesses_of p) k (access_at m k) (omega (arith, long, below)) ∙ ap (λ (a : Access). take k (accesses_of p) ++ a ∷ []) here

all_words : (p : Packet) (k : ℕ) → word_count_of p.cmd ≤ k → take k (accesses_of p) ≡ accesses_of p
all_words p k past =
    let long : length (accesses_of p) ≡ word_count_of p.cmd = length-map-range_with_len (access_at (message_of p)) 0 (word_count_of p.cmd) in
    take_all k (accesses_of p) (omega (arith, long, past))

pub take_word-requires-clause-table : goal.take_word-requires-clause-table
take_word-requires-clause-table c = (_, c.loop-word.invariant.so_far c.requires.table.0 c.requires.table.1)

pub loop-word-preserved : goal.loop-word-preserved
loop-word-preserved c = record {
  rows = c.take_word.ensures.rows ∙ c.loop-word.invariant.rows;
  so_far = λ received is.
      let p = c.args.packet.now in
      let k = c.loop-word.word in
      let words = c.word_count-word-end.ensures.words in
      let test = c.loop-word-test.true in
      let more = word_more p k (omega (arith, words, test)) in
      let joined : (received ++ take k (accesses_of p)) ++ access_at (message_of p) k ∷ [] ≡ received ++ take (k + 1) (accesses_of p) =
      append_assoc received (take k (accesses_of p)) (access_at (message_of p) k ∷ []) ∙ ap (λ (rest : List Access). received ++ rest) (sym more) in
      subst (λ (list : List Access). IsTable (asked_of c.args.script_plan.now) list c.take_word.new.self.rows.items) joined
      (c.take_word.ensures.taken (received ++ take k (accesses_of p)) (c.loop-word.invariant.so_far received is));
}

pub returns : goal.returns
returns c = record {
  rows = c.loop-word.invariant.rows;
  taken = λ received is.
      let p = c.args.packet.now in
      let words = c.word_count-word-end.ensures.words in
      let test = c.loop-word-test.false in
      subst (λ (list : List Access). IsTable (asked_of c.args.script_plan.now) (received ++ list) c.loop-word.self.rows.items) (all_words p c.loop-word.word (omega (arith, words, test)))
      (c.loop-word.invariant.so_far received is);
}
