-- One word at a multiple of 8, with zeros behind its bytes, is a packet, and speaks of at most 8 bytes.
use Rattle.std.proofs.Common.{◌≡◌, ◌≤◌, ℕ, ◌-◌, ◌%◌, ◌^◌, ◌++◌, refl, ◌∙◌, arith, length, drop, replicate, length-append}
use Rattle.std.proofs.lemmas.List.{drop_at, length-replicate}
use Rattle.sb_word.specs.declared.command.Cmd.{Cmd}
use Rattle.sb_word.specs.declared.command.Op.{Op}
use Rattle.sb_word.specs.declared.command.Op.TheVariants.{ReqRd, ReqWr, ReqWrPosted, ReqAtomic, RespRd, RespWr}
use Rattle.sb_packet.specs.Spans.{carried_by, carried_of, span_of}
use Rattle.sb_mem.proofs.TwosComplement.{each_size, word_length}
use Rattle.sb_mem.proofs.memory.tests.packet.Goals as goal

-- no packet carries more than it speaks of
carried_by-le : (op : Op) (span : ℕ) → carried_by op span ≤ span
carried_by-le ReqRd span = omega arith
carried_by-le ReqWr span = omega arith
carried_by-le ReqWrPosted span = omega arith
carried_by-le ReqAtomic span = omega arith
carried_by-le RespRd span = omega arith
carried_by-le RespWr span = omega arith

-- what eight bytes are aligned to, every word is
aligned_at : (address size : ℕ) → size ≤ 3 → address % 8 ≡ 0 → address % 2 ^ size ≡ 0
aligned_at address size fits h = each_size (λ s. address % 2 ^ s ≡ 0) (omega arith) (omega arith) (omega arith) (omega arith) size fits

-- one word has at most eight bytes
short_span : (cmd : Cmd) → span_of cmd ≡ 2 ^ cmd.size → span_of cmd ≤ 8
short_span cmd one = rw one (word_length cmd.size cmd.size_fits)

pub padded-requires : goal.padded-requires
padded-requires c =
    let cmd = c.args.cmd in
    let short : span_of cmd ≤ 8 = short_span cmd c.requires.one in
    let carried : carried_of cmd ≤ span_of cmd = carried_by-le cmd.op (span_of cmd) in
    let long : length c.args.bytes.now ≡ carried_of cmd = c.requires.carried in
    (omega arith, omega arith)

pub invariant_of-result : goal.invariant_of-result
invariant_of-result c =
    let cmd = c.args.cmd in
    let bytes = c.args.bytes.now in
    let short : span_of cmd ≤ 8 = short_span cmd c.requires.one in
    let carried : carried_of cmd ≤ span_of cmd = carried_by-le cmd.op (span_of cmd) in
    let long : length bytes ≡ carried_of cmd = c.requires.carried in
    let padding : drop (carried_of cmd) (bytes ++ replicate (32 - length bytes) 0) ≡ replicate (32 - carried_of cmd) 0 = drop_at bytes (replicate (32 - length bytes) 0) (carried_of cmd) long ∙ rw long refl in
    record {
      whole = rw c.padded.ensures (simp (length-append, length-replicate) (omega arith));
      fits = omega arith;
      dst_aligned = aligned_at c.args.address cmd.size cmd.size_fits c.requires.aligned;
      src_aligned = aligned_at 0 cmd.size cmd.size_fits refl;
      dst_in_range = omega arith;
      src_in_range = omega arith;
      padding = rw c.padded.ensures padding;
    }

pub returns-clause-short : goal.returns-clause-short
returns-clause-short c = short_span c.args.cmd c.requires.one
