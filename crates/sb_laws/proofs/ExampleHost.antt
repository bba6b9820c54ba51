-- The example's host, fresh, halfway and at the end: whole, and built for its place. Its rows take their memory by the handle that the program was given.
use denote.RawPtr.{null_ptr}
use Rattle.std.proofs.Common.{◌≡◌, ◌<◌, ◌^◌, lit≤, lit<, ℕ, zero, suc, Bool, true, false, Global, List, [], ◌∷◌, length, refl, ap, arith, replicate}
use Rattle.std.specs.Prelude.{if◌then◌else◌, slice_index_or}
use Rattle.std.proofs.lemmas.List.Elements.{All-from_recursion, All-map}
use Rattle.sb_flow.specs.Rings.{ring_plan}
use Rattle.sb_packet.specs.Scripts.{IsTransaction}
use Rattle.sb_link.specs.Traffic.{IsPlanned, has_close, item_accesses}
use Rattle.sb_node.proofs.Answering.{one_of}
use Rattle.sb_host.specs.Asked.{asked_by, asked_packets, line_in}
use Rattle.sb_host.specs.Hosts.{HostSide, IsWholeHost}
use Rattle.sb_host.specs.Progress.{IsMadeFor}
use Rattle.sb_host.specs.Places.{AreIssuable}
use Rattle.sb_host.specs.Rows.{IsRow, IsTable, answer_width, line_answers}
use Rattle.sb_host.specs.declared.transaction_plan.TransactionPlan.{TransactionPlan}
use Rattle.sb_host.specs.declared.answer_row.AnswerRow.{AnswerRow}
use Rattle.sb_laws.specs.NodeSides.{IsHostBuiltFor, IsHostOf}
use Rattle.sb_laws.specs.Layouts.{ring_home}
use Rattle.sb_laws.specs.Moments.{Moment}
use Rattle.sb_laws.specs.NetworkLayouts.{answer_ring, request_ring}
use Rattle.sb_laws.proofs.ExampleNetwork.{small, cpu, one_to_eight, answering}
use Rattle.sb_laws.proofs.ExampleLayout.{small_layout, the_flow, scripts_of_small}
use Rattle.sb_laws.proofs.ExampleRun.{the_end}
use Rattle.sb_laws.proofs.ExampleHalfway.{halfway}
use Rattle.sb_laws.proofs.ExampleNodes.{fresh, port_in, ring_in}
use Rattle.sb_laws.proofs.ExamplePorts.{end_is_settled, fresh_is_settled, halfway_is_settled, is_fit}

-- a row of one word: whether it is answered, and the bytes that answered it
abbrev row_of : Global → (answered : Bool) → (bytes : List ℕ) → length bytes < 2 ^ 63 → AnswerRow
row_of heap answered bytes few = record {
  answered = record { ptr = null_ptr; len = 1; cap = 1; alloc = heap; items = answered ∷ []; ok = (refl, lit≤ tt); small = lit< tt };
  missing = if answered then 0 else 1;
  code = 0;
  body = record { ptr = null_ptr; len = length bytes; cap = length bytes; alloc = heap; items = bytes; ok = (refl, omega arith); small = few };
}

-- the rows of the three transactions before any answer, and behind all
abbrev pub fresh_rows : Global → List AnswerRow
fresh_rows heap = row_of heap false [] (lit< tt) ∷ row_of heap false [] (lit< tt) ∷ row_of heap false (replicate 8 0) (lit< tt) ∷ []

abbrev pub end_rows : Global → List AnswerRow
end_rows heap = row_of heap true [] (lit< tt) ∷ row_of heap false [] (lit< tt) ∷ row_of heap true one_to_eight (lit< tt) ∷ []

-- the host at a moment, with these rows, which has offered so many of its three transactions
abbrev pub host_in : Moment → List AnswerRow → ℕ → HostSide
host_in m rows next = record {
  transactions = record { asked = asked_by small cpu; rows = rows; next = next; part = 0; ended = has_close (m.received 1) };
  requests = port_in m 0;
  answers = ring_in m 1;
}

abbrev pub fresh_host : Global → HostSide
fresh_host heap = host_in fresh (fresh_rows heap) 0

abbrev pub halfway_host : Global → HostSide
halfway_host heap = host_in halfway (fresh_rows heap) 3

abbrev pub end_host : Global → HostSide
end_host heap = host_in the_end (end_rows heap) 3

issuable : AreIssuable (asked_by small cpu)
issuable = record {
  id = lit≤ tt;
  qos = lit≤ tt;
  prot = lit≤ tt;
  few = lit≤ tt;
  lines = All-map (λ l. IsTransaction l.txn) (line_in small) cpu.script (scripts_of_small.transactions 0 cpu (lit< tt));
}

made : IsMadeFor (ring_plan small 0) (asked_by small cpu)
made = record {
  planned = All-from_recursion (IsPlanned (ring_plan small 0)) (asked_packets (asked_by small cpu))
      (record { direction = refl; allowed = refl }, (record { direction = refl; allowed = refl }, (record { direction = refl; allowed = refl }, tt)));
  room = lit≤ tt;
}

module _ (heap : Global) where
  -- no answer has come, or both
  fresh_table : IsTable (asked_by small cpu) [] (fresh_rows heap)
  fresh_table = record { rows_of_lines = refl; each = each }
    where
      each : (i : ℕ) (l : TransactionPlan) (r : AnswerRow) → i < 3 → IsRow (answer_width (slice_index_or (asked_by small cpu).lines i l)) (line_answers (asked_by small cpu) [] i (slice_index_or (asked_by small cpu).lines i l)) (slice_index_or (fresh_rows heap) i r)
      each zero l r inside = record { answered = refl; counted = refl; code = refl; body = refl; wide = (refl, tt) }
      each (suc zero) l r inside = record { answered = refl; counted = refl; code = refl; body = refl; wide = (refl, tt) }
      each (suc (suc zero)) l r inside = record { answered = refl; counted = refl; code = refl; body = refl; wide = (refl, tt) }
      each (suc (suc (suc i))) l r inside = absurd (omega arith)

  end_table : IsTable (asked_by small cpu) (item_accesses answering) (end_rows heap)
  end_table = record { rows_of_lines = refl; each = each }
    where
      each : (i : ℕ) (l : TransactionPlan) (r : AnswerRow) → i < 3 → IsRow (answer_width (slice_index_or (asked_by small cpu).lines i l)) (line_answers (asked_by small cpu) (item_accesses answering) i (slice_index_or (asked_by small cpu).lines i l)) (slice_index_or (end_rows heap) i r)
      each zero l r inside = record { answered = refl; counted = refl; code = refl; body = refl; wide = (refl, tt) }
      each (suc zero) l r inside = record { answered = refl; counted = refl; code = refl; body = refl; wide = (refl, tt) }
      each (suc (suc zero)) l r inside = record { answered = refl; counted = refl; code = refl; body = refl; wide = (refl, tt) }
      each (suc (suc (suc i))) l r inside = absurd (omega arith)

  -- It is whole.
  pub fresh_host_is_whole : IsWholeHost (fresh_host heap)
  fresh_host_is_whole = record {
    fit = is_fit fresh fresh_is_settled 0 (lit< tt);
    in_order = record { issuable = issuable; made = made; come = record { within = lit≤ tt; begun = λ some d. absurd (omega arith) }; offered = refl; closes = λ told. absurd (cc); table = fresh_table; ends = refl; window = λ k i at behind. absurd (omega (arith, behind)) };
  }

  pub halfway_host_is_whole : IsWholeHost (halfway_host heap)
  halfway_host_is_whole = record {
    fit = is_fit halfway halfway_is_settled 0 (lit< tt);
    in_order = record { issuable = issuable; made = made; come = record { within = lit≤ tt; begun = λ some d. absurd (omega arith) }; offered = refl; closes = λ told. refl; table = fresh_table; ends = refl; window = λ k i at behind. absurd (omega (arith, behind)) };
  }

  pub end_host_is_whole : IsWholeHost (end_host heap)
  end_host_is_whole = record {
    fit = is_fit the_end end_is_settled 0 (lit< tt);
    in_order = record { issuable = issuable; made = made; come = record { within = lit≤ tt; begun = λ some d. absurd (omega arith) }; offered = refl; closes = λ told. refl; table = end_table; ends = refl; window = λ k i at behind. absurd (omega (arith, behind)) };
  }

-- It is the network's, whatever it has done.
module _ (m : Moment) (rows : List AnswerRow) (next : ℕ) where
  pub host_of_small : IsHostOf small small_layout cpu (host_in m rows next)
  host_of_small = record {
    listed = (0, lit< tt, refl);
    asked = refl;
    asks = one_of (λ f. f.host ≡ 0 → small_layout.requests.first f ≡ 0) the_flow (λ own. refl);
    answered = one_of (λ f. f.host ≡ 0 → ring_home small_layout f ≡ 1) the_flow (λ own. refl);
  }

  pub host_is_built : IsHostBuiltFor small 0 (host_in m rows next)
  host_is_built = record {
    asked = λ host at. let same : cpu ≡ host = cc in ap (asked_by small) same;
    asks_by = λ k e. let same : 0 ≡ k = cc in ap request_ring same;
    answered_by = λ k e. let same : 0 ≡ k = cc in ap answer_ring same;
  }
