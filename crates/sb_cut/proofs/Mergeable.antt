-- What it says of two messages that they can be merged, field by field.
use Rattle.std.proofs.Common.{◌≡◌, ℕ, ◌+◌, [], ◌∷◌, refl, ap, sym, ◌∙◌, false, true, Bool}
use Rattle.std.specs.Prelude.{◌==◌, ◌&&◌, ◌||◌, nat_le, not, slice_index_or}
use Rattle.std.proofs.lemmas.Bool.{eqb-true, leb-true}
use Rattle.sb_word.specs.Words.{opcode_of}
use Rattle.sb_word.specs.declared.command.Op.{Op}
use Rattle.sb_word.specs.declared.command.Op.TheVariants.{ReqRd, ReqWr, ReqWrPosted, ReqAtomic, RespRd, RespWr}
use Rattle.sb_packet.specs.Messages.{Message, message_span}
use Rattle.sb_packet.specs.Cuts.{is_atomic, is_indivisible}
use Rattle.sb_packet.specs.Answers.{same_bool}
use Rattle.sb_cut.specs.Merges.{begins_where_ends, is_alike, is_mergeable, AreMergeable}

-- the opcode of a number, any one where it is that of none
abbrev op_at : ℕ → Op
op_at n = slice_index_or (ReqRd ∷ ReqRd ∷ RespRd ∷ ReqWr ∷ RespWr ∷ ReqWrPosted ∷ ReqRd ∷ ReqRd ∷ ReqRd ∷ ReqAtomic ∷ []) n ReqRd

op_back : (op : Op) → op_at (opcode_of op) ≡ op
op_back ReqRd = refl
op_back RespRd = refl
op_back ReqWr = refl
op_back RespWr = refl
op_back ReqWrPosted = refl
op_back ReqAtomic = refl

-- opcodes with one number are the same
same_opcode : (a b : Op) → opcode_of a ≡ opcode_of b → a ≡ b
same_opcode a b h = sym (op_back a) ∙ ap op_at h ∙ op_back b

both : (a b : Bool) → (a && b) ≡ true → (a ≡ true) × (b ≡ true)
both true b h = (refl, h)
both false b h = absurd (cc)

neither : (a b : Bool) → not (a || b) ≡ true → (a ≡ false) × (b ≡ false)
neither false false h = (refl, refl)
neither false true h = absurd (cc)
neither true b h = absurd (cc)

untrue : (a : Bool) → not a ≡ true → a ≡ false
untrue false h = refl
untrue true h = absurd (cc)

same_bools : (a b : Bool) → same_bool a b ≡ true → a ≡ b
same_bools true true h = refl
same_bools true false h = absurd (cc)
same_bools false true h = absurd (cc)
same_bools false false h = refl

-- What a true test says.
pub mergeable_says : (width : ℕ) (a b : Message) → is_mergeable width a b ≡ true → AreMergeable width a b
mergeable_says width a b h =
    let h1 = both (begins_where_ends a b && is_alike a b && not (is_indivisible a) && not (is_indivisible b) && not a.eom) (nat_le (message_span a + message_span b) width) h in
    let h2 = both (begins_where_ends a b && is_alike a b && not (is_indivisible a) && not (is_indivisible b)) (not a.eom) h1.0 in
    let h3 = both (begins_where_ends a b && is_alike a b && not (is_indivisible a)) (not (is_indivisible b)) h2.0 in
    let h4 = both (begins_where_ends a b && is_alike a b) (not (is_indivisible a)) h3.0 in
    let h5 = both (begins_where_ends a b) (is_alike a b) h4.0 in
    let places = both (b.dst == a.dst + message_span a) (b.src == a.src + message_span a) h5.0 in
    let first = neither (is_atomic a.op) a.ex h4.1 in
    let second = neither (is_atomic b.op) b.ex h3.1 in
    let k1 = both ((opcode_of a.op == opcode_of b.op) && (a.size == b.size) && (a.host == b.host) && (a.qos == b.qos) && (a.prot == b.prot) && same_bool a.eof b.eof) (a.tail == b.tail) h5.1 in
    let k2 = both ((opcode_of a.op == opcode_of b.op) && (a.size == b.size) && (a.host == b.host) && (a.qos == b.qos) && (a.prot == b.prot)) (same_bool a.eof b.eof) k1.0 in
    let k3 = both ((opcode_of a.op == opcode_of b.op) && (a.size == b.size) && (a.host == b.host) && (a.qos == b.qos)) (a.prot == b.prot) k2.0 in
    let k4 = both ((opcode_of a.op == opcode_of b.op) && (a.size == b.size) && (a.host == b.host)) (a.qos == b.qos) k3.0 in
    let k5 = both ((opcode_of a.op == opcode_of b.op) && (a.size == b.size)) (a.host == b.host) k4.0 in
    let k6 = both (opcode_of a.op == opcode_of b.op) (a.size == b.size) k5.0 in
    record {
      op = same_opcode a.op b.op (eqb-true (opcode_of a.op) (opcode_of b.op) k6.0);
      size = eqb-true a.size b.size k6.1;
      host = eqb-true a.host b.host k5.1;
      qos = eqb-true a.qos b.qos k4.1;
      prot = eqb-true a.prot b.prot k3.1;
      eof = same_bools a.eof b.eof k2.1;
      tail = eqb-true a.tail b.tail k1.1;
      plain = first.0;
      first_shared = first.1;
      second_shared = second.1;
      unended = untrue a.eom h2.1;
      dst = eqb-true b.dst (a.dst + message_span a) places.0;
      src = eqb-true b.src (a.src + message_span a) places.1;
      fits = leb-true (message_span a + message_span b) width h1.1;
    }
