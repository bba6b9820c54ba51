-- How long the rows of a table are, and how many bytes a word of an answer brings.
use Rattle.std.proofs.Common.{◌≡◌, ◌<◌, ◌*◌, ◌^◌, ℕ, List, refl, sym, ap, subst, ◌∙◌, arith, length, true}
use Rattle.std.specs.Prelude.{map, is_some}
use Rattle.std.specs.List.{range_with_len}
use Rattle.std.proofs.Math.ListN.{get_or}
use Rattle.std.proofs.lemmas.List.{length-map, length-take, length-drop}
use Rattle.std.proofs.lemmas.List.FromFn.{length-map-range_with_len}
use Rattle.sb_word.specs.declared.command.Op.{Op}
use Rattle.sb_word.specs.declared.command.Op.TheVariants.{ReqRd, ReqWr, ReqWrPosted, ReqAtomic, RespRd, RespWr}
use Rattle.sb_packet.specs.Accesses.{Access, access_at, share}
use Rattle.sb_packet.specs.Messages.{Message, message_of}
use Rattle.sb_packet.specs.Spans.{word_count_of}
use Rattle.sb_packet.specs.Scripts.{request_of}
use Rattle.sb_packet.specs.Cuts.{IsWhole}
use Rattle.sb_packet.specs.declared.packet.Packet.{Packet}
use Rattle.sb_packet.specs.declared.transaction.Kind.{Kind}
use Rattle.sb_packet.specs.declared.transaction.Kind.TheVariants.{Read, Write, Posted, Atomic}
use Rattle.sb_packet.proofs.FineParts.{packet_whole}
use Rattle.sb_packet.proofs.Shares.{length-share}
use Rattle.sb_host.specs.declared.transaction_plan.TransactionPlan.{TransactionPlan}
use Rattle.sb_host.specs.declared.answer_row.AnswerRow.{AnswerRow}
use Rattle.sb_host.specs.Asked.{Asked, line_message}
use Rattle.sb_host.specs.Outcomes.{is_answered_by}
use Rattle.sb_host.specs.Rows.{IsRow, IsTable, answer_bytes, answer_width, device_answer, line_answers}
use Rattle.sb_host.proofs.RowAnswers.{length_of_bytes}

length_of_answers : (asked : Asked) (received : List Access) (i : ℕ) (l : TransactionPlan) → length (line_answers asked received i l) ≡ l.txn.count
length_of_answers asked received i l =
    length-map (map (access_at (line_message asked i l)) (range_with_len 0 l.txn.count)) (device_answer received l.aimed)
    ∙ length-map-range_with_len (access_at (line_message asked i l)) 0 l.txn.count

-- a row has a mark for each word
pub marks_of_row : (asked : Asked) (received : List Access) (width i : ℕ) (l : TransactionPlan) (row : AnswerRow) → IsRow width (line_answers asked received i l) row → length row.answered.items ≡ l.txn.count
marks_of_row asked received width i l row is =
    ap length is.answered ∙ length-map (line_answers asked received i l) is_some ∙ length_of_answers asked received i l

-- and so many bytes for each
pub bytes_of_row : (asked : Asked) (received : List Access) (width i : ℕ) (l : TransactionPlan) (row : AnswerRow) → IsRow width (line_answers asked received i l) row → length row.body.items ≡ l.txn.count * width
bytes_of_row asked received width i l row is =
    ap length is.body ∙ length_of_bytes width (line_answers asked received i l) is.wide ∙ ap (λ (n : ℕ). n * width) (length_of_answers asked received i l)

-- the row of a transaction
pub row_here : (asked : Asked) (received : List Access) (rows : List AnswerRow) (i : ℕ) (l : TransactionPlan) (row : AnswerRow) → IsTable asked received rows → l ≡ get_or asked.lines i l → i < length asked.lines → row ≡ get_or rows i row
    → IsRow (answer_width l) (line_answers asked received i l) row
row_here asked received rows i l row is at inside row_at =
    subst (λ (x : AnswerRow). IsRow (answer_width l) (line_answers asked received i l) x) (sym row_at)
    (subst (λ (x : TransactionPlan). IsRow (answer_width x) (line_answers asked received i x) (get_or rows i row)) (sym at) (is.each i l row inside))

-- nothing is no more
no_share : (size j : ℕ) (bytes : List ℕ) → length bytes ≡ 0 → length (share size j bytes) ≡ 0
no_share size j bytes none = simp (length-take, length-drop) (omega (arith, none))

-- a word of an answer that belongs to a request of that kind brings as many bytes as that kind asks for
bytes_by : (kind : Kind) (op : Op) (m : Message) (j : ℕ) → m.op ≡ op → IsWhole m → j < m.count → is_answered_by (request_of kind) op ≡ true
    → length (share m.size j m.bytes) ≡ answer_bytes kind (2 ^ m.size)
bytes_by kind RespRd m j is whole below fits =
    let long : length m.bytes ≡ m.count * 2 ^ m.size = rw is at whole.carried in
    let full = length-share m.size j m.count m.bytes (omega (arith, long)) below in
    by_kind kind fits full where
      by_kind : (kind : Kind) → is_answered_by (request_of kind) RespRd ≡ true → length (share m.size j m.bytes) ≡ 2 ^ m.size → length (share m.size j m.bytes) ≡ answer_bytes kind (2 ^ m.size)
      by_kind Read fits full = full
      by_kind Write fits full = absurd (cc)
      by_kind Posted fits full = absurd (cc)
      by_kind (Atomic type) fits full = full
bytes_by kind RespWr m j is whole below fits =
    let none : length m.bytes ≡ 0 = rw is at whole.carried in
    by_kind kind fits (no_share m.size j m.bytes none) where
      by_kind : (kind : Kind) → is_answered_by (request_of kind) RespWr ≡ true → length (share m.size j m.bytes) ≡ 0 → length (share m.size j m.bytes) ≡ answer_bytes kind (2 ^ m.size)
      by_kind Read fits empty = absurd (cc)
      by_kind Write fits empty = empty
      by_kind Posted fits empty = absurd (cc)
      by_kind (Atomic type) fits empty = absurd (cc)
bytes_by kind ReqRd m j is whole below fits = absurd (no_request kind fits) where
  no_request : (kind : Kind) → is_answered_by (request_of kind) ReqRd ≡ true → ⊥
  no_request Read h = cc
  no_request Write h = cc
  no_request Posted h = cc
  no_request (Atomic type) h = cc
bytes_by kind ReqWr m j is whole below fits = absurd (no_request kind fits) where
  no_request : (kind : Kind) → is_answered_by (request_of kind) ReqWr ≡ true → ⊥
  no_request Read h = cc
  no_request Write h = cc
  no_request Posted h = cc
  no_request (Atomic type) h = cc
bytes_by kind ReqWrPosted m j is whole below fits = absurd (no_request kind fits) where
  no_request : (kind : Kind) → is_answered_by (request_of kind) ReqWrPosted ≡ true → ⊥
  no_request Read h = cc
  no_request Write h = cc
  no_request Posted h = cc
  no_request (Atomic type) h = cc
bytes_by kind ReqAtomic m j is whole below fits = absurd (no_request kind fits) where
  no_request : (kind : Kind) → is_answered_by (request_of kind) ReqAtomic ≡ true → ⊥
  no_request Read h = cc
  no_request Write h = cc
  no_request Posted h = cc
  no_request (Atomic type) h = cc

-- a word of a packet that answers such a request
pub bytes_of_word : (kind : Kind) (p : Packet) (j : ℕ) → j < word_count_of p.cmd → is_answered_by (request_of kind) p.cmd.op ≡ true
    → length (access_at (message_of p) j).bytes ≡ answer_bytes kind (2 ^ p.cmd.size)
bytes_of_word kind p j below fits = bytes_by kind p.cmd.op (message_of p) j refl (packet_whole p) below fits
