-- The packet of the numbers and the body that are printed for it is itself.
use Rattle.std.proofs.Common.{◌≡◌, ◌^◌, ◌∙◌, ℕ, List, sym, ap, arith, Option, Some, [], ◌++◌, ◌-◌, replicate}
use Rattle.std.specs.Prelude.{unwrap_or}
use Rattle.sb_word.specs.declared.command.Cmd.{Cmd}
use Rattle.sb_packet.specs.Messages.{message_of}
use Rattle.sb_packet.specs.Spans.{carried_of, span_of}
use Rattle.sb_packet.specs.declared.packet.Packet.{Packet}
use Rattle.sb_check.proofs.EntryLemmas.{carried_bytes, carried_length, carried_padded, decoded_command, not_both, same_packet}
use Rattle.sb_check.proofs.entry_line.packet_of.Goals as goal

pub returns-then-span : goal.returns-then-span
returns-then-span c = record {
  only = λ p small word dst src text.
      let same = decoded_command c.decode.result c.args.numbers.word c.in-Ok.cmd p c.decode.ensures.whole c.words_are_exact.ensures.word word c.in-Ok.is in
      let span : c.span-span.result ≡ span_of p.cmd = c.span-span.ensures ∙ ap span_of same in
      let above = c.if-span.true in let fits = p.fits in absurd (omega arith);
}

pub returns-then-not-is_placed : goal.returns-then-not-is_placed
returns-then-not-is_placed c = record {
  only = λ p small word dst src text.
      let same = decoded_command c.decode.result c.args.numbers.word c.in-Ok.cmd p c.decode.ensures.whole c.words_are_exact.ensures.word word c.in-Ok.is in
      let span : c.span-span.result ≡ span_of p.cmd = c.span-span.ensures ∙ ap span_of same in
      let size : c.word_size-size.result ≡ 2 ^ p.cmd.size = c.word_size-size.ensures.value ∙ ap (λ (k : Cmd). 2 ^ k.size) same in
      absurd (c.if-not-is_placed.ensures.no (rw (dst, size) p.dst_aligned) (rw (dst, span) p.dst_in_range));
}

pub returns-then-not-is_placed-2 : goal.returns-then-not-is_placed-2
returns-then-not-is_placed-2 c = record {
  only = λ p small word dst src text.
      let same = decoded_command c.decode.result c.args.numbers.word c.in-Ok.cmd p c.decode.ensures.whole c.words_are_exact.ensures.word word c.in-Ok.is in
      let span : c.span-span.result ≡ span_of p.cmd = c.span-span.ensures ∙ ap span_of same in
      let size : c.word_size-size.result ≡ 2 ^ p.cmd.size = c.word_size-size.ensures.value ∙ ap (λ (k : Cmd). 2 ^ k.size) same in
      absurd (c.if-not-is_placed-2.ensures.no (rw (src, size) p.src_aligned) (rw (src, span) p.src_in_range));
}

pub returns-in_err-body : goal.returns-in_err-body
returns-in_err-body c = record {
  only = λ p small word dst src text.
      let same = decoded_command c.decode.result c.args.numbers.word c.in-Ok.cmd p c.decode.ensures.whole c.words_are_exact.ensures.word word c.in-Ok.is in
      let carried : c.carried_span.result ≡ carried_of p.cmd = c.carried_span.ensures ∙ ap carried_of same in
      absurd (not_both c.body.result _ c.in_err-body.was (c.body.ensures.only (message_of p).bytes (carried_bytes p small) (carried_length p ∙ sym carried) text));
}

pub returns : goal.returns
returns c = record {
  only = λ p small word dst src text.
      let same = decoded_command c.decode.result c.args.numbers.word c.in-Ok.cmd p c.decode.ensures.whole c.words_are_exact.ensures.word word c.in-Ok.is in
      let carried : c.carried_span.result ≡ carried_of p.cmd = c.carried_span.ensures ∙ ap carried_of same in
      let got = sym c.in_ok-body.was ∙ c.body.ensures.only (message_of p).bytes (carried_bytes p small) (carried_length p ∙ sym carried) text in
      let body : c.in_ok-body.body ≡ p.body = ap (λ (o : Option (List ℕ)). unwrap_or o []) got ∙ ap (λ (k : ℕ). (message_of p).bytes ++ replicate (32 - k) 0) carried ∙ carried_padded p in
      ap (λ (q : Packet). Some q) (same_packet c.packet.result p (c.packet.ensures.cmd ∙ same) (c.packet.ensures.dst ∙ dst) (c.packet.ensures.src ∙ src) (c.packet.ensures.body ∙ body));
}
