-- A line spells one entry, and a report one journal.
use Rattle.std.proofs.Common.{◌≡◌, ◌<◌, ◌+◌, ◌-◌, ◌^◌, ℕ, zero, suc, false, List, [], ◌∷◌, ◌++◌, length, drop, take, replicate, ap, sym, subst, refl, ◌∙◌, arith, Some}
use Rattle.std.specs.Prelude.{All, ◌==◌, codes, decimal, map}
use Rattle.std.proofs.lemmas.Bool.{false≢true}
use Rattle.std.proofs.lemmas.Fmt.{length-decimal-le}
use Rattle.std.proofs.lemmas.List.{append_cancel_right, length-append}
use Rattle.std.proofs.lemmas.List.Elements.{All-head, All-tail}
use Rattle.hex.specs.Hex.{IsBytes, decode_sized, encode_lower}
use Rattle.hex.proofs.HexLemmas.{decode_sized-encode_lower}
use Rattle.sb_word.specs.Words.{IsWordOf, word_of}
use Rattle.sb_word.specs.declared.command.Cmd.{Cmd}
use Rattle.sb_word.proofs.OneCommand.{one_command}
use Rattle.sb_packet.specs.Messages.{message_of}
use Rattle.sb_packet.specs.Spans.{carried_of}
use Rattle.sb_packet.specs.declared.entry.Entry.{Entry}
use Rattle.sb_packet.specs.declared.packet.Packet.{Packet}
use Rattle.sb_flow.specs.NetworkOf.{network_of}
use Rattle.sb_flow.specs.declared.bundle.Bundle.{Bundle}
use Rattle.sb_text.specs.Numerals.{digits_number}
use Rattle.sb_text.specs.Reports.{entry_line}
use Rattle.sb_text.specs.TextLines.{body_text}
use Rattle.sb_check.specs.Histories.{SpellsJournal, history_of}
use Rattle.sb_check.specs.ReportLines.{report_lines}
use Rattle.sb_check.specs.Spelling.{IsEntryInRange, IsPlain, SpellsEntry, count_line, packet_words}
use Rattle.sb_check.proofs.DigitLemmas.{body_text-plain, decimal-plain, decimal-read}
use Rattle.sb_check.proofs.EntryLemmas.{carried_bytes, carried_length, carried_padded, device_found, device_name_at, entry_words, last_of_four, ok_same, option_same, packet_len, packet_parts, same_packet}
use Rattle.sb_check.proofs.HistoryLemmas.{announced_once, spelled_count}

-- no plain text has a blank
blank_isnt_plain : (c : ℕ) (text : List ℕ) → 32 ≡ c → IsPlain (c ∷ text) → ⊥
blank_isnt_plain c text is plain = false≢true (sym (All-head (λ b. (b == 32) ≡ false) c text plain) ∙ ap (λ (n : ℕ). n == 32) (sym is))

blank_within : (front text : List ℕ) → IsPlain (front ++ 32 ∷ text) → ⊥
blank_within [] text plain = blank_isnt_plain 32 text refl plain
blank_within (c ∷ front) text plain = blank_within front text (All-tail (λ b. (b == 32) ≡ false) c (front ++ 32 ∷ text) plain)

-- what stands around the first blank, and around the last
split_first : (w v x y : List ℕ) → IsPlain w → IsPlain v → w ++ 32 ∷ x ≡ v ++ 32 ∷ y → (w ≡ v) × (x ≡ y)
split_first [] [] x y p q same = (refl, ap (drop 1) same)
split_first [] (c ∷ v) x y p q same = let is : 32 ≡ c = cc in absurd (blank_isnt_plain c v is q)
split_first (c ∷ w) [] x y p q same = let is : 32 ≡ c = cc in absurd (blank_isnt_plain c w is p)
split_first (c ∷ w) (d ∷ v) x y p q same =
    let head : c ≡ d = cc in
    let rest = split_first w v x y (All-tail (λ b. (b == 32) ≡ false) c w p) (All-tail (λ b. (b == 32) ≡ false) d v q) (ap (drop 1) same) in
    (ap (λ (n : ℕ). n ∷ w) head ∙ ap (λ (t : List ℕ). d ∷ t) rest.0, rest.1)

split_last : (f g a b : List ℕ) → IsPlain a → IsPlain b → f ++ 32 ∷ a ≡ g ++ 32 ∷ b → (f ≡ g) × (a ≡ b)
split_last [] [] a b p q same = (refl, ap (drop 1) same)
split_last [] (c ∷ g) a b p q same = absurd (blank_within g b (subst (λ (t : List ℕ). IsPlain t) (ap (drop 1) same) p))
split_last (c ∷ f) [] a b p q same = absurd (blank_within f a (subst (λ (t : List ℕ). IsPlain t) (sym (ap (drop 1) same)) q))
split_last (c ∷ f) (d ∷ g) a b p q same =
    let head : c ≡ d = cc in
    let rest = split_last f g a b p q (ap (drop 1) same) in
    (ap (λ (n : ℕ). n ∷ f) head ∙ ap (λ (t : List ℕ). d ∷ t) rest.0, rest.1)

-- two texts before others that are equally long
split_long : (a b x y : List ℕ) → length x ≡ length y → a ++ x ≡ b ++ y → (a ≡ b) × (x ≡ y)
split_long [] [] x y long same = (refl, same)
split_long [] (c ∷ b) x y long same = absurd (omega (arith, ap length same, length-append b y, long))
split_long (c ∷ a) [] x y long same = absurd (omega (arith, ap length same, length-append a x, long))
split_long (c ∷ a) (d ∷ b) x y long same =
    let head : c ≡ d = cc in
    let rest = split_long a b x y long (ap (drop 1) same) in
    (ap (λ (n : ℕ). n ∷ a) head ∙ ap (λ (t : List ℕ). d ∷ t) rest.0, rest.1)

-- bytes with the same digits
fit_bytes : (bytes : List ℕ) → All (λ b. b < 256) bytes → IsBytes bytes
fit_bytes [] small i = omega arith
fit_bytes (b ∷ bytes) small zero = All-head (λ b. b < 256) b bytes small
fit_bytes (b ∷ bytes) small (suc i) = fit_bytes bytes (All-tail (λ b. b < 256) b bytes small) i

digits_once : (x y : List ℕ) → length x ≡ length y → All (λ b. b < 256) x → All (λ b. b < 256) y → encode_lower x ≡ encode_lower y → x ≡ y
digits_once x y long small-x small-y same =
    ok_same (decode_sized (encode_lower x) (length y)) x y (decode_sized-encode_lower x (length y) long (fit_bytes x small-x))
    (ap (λ (t : List ℕ). decode_sized t (length y)) same ∙ decode_sized-encode_lower y (length y) refl (fit_bytes y small-y))

body_once : (x y : List ℕ) → length x ≡ length y → All (λ b. b < 256) x → All (λ b. b < 256) y → body_text x ≡ body_text y → x ≡ y
body_once [] [] long small-x small-y same = refl
body_once [] (b ∷ y) long small-x small-y same = absurd (omega arith)
body_once (a ∷ x) [] long small-x small-y same = absurd (omega arith)
body_once (a ∷ x) (b ∷ y) long small-x small-y same = digits_once (a ∷ x) (b ∷ y) long small-x small-y same

-- command words are those of their commands
abbrev pub AreExact : Type 0
AreExact = (c : Cmd) → c.len < 2 ^ 8 → IsWordOf (word_of c) c

-- a name and the words of a packet
packet_once : AreExact → (p q : Packet) (n m : List ℕ) → All (λ b. b < 256) p.body → All (λ b. b < 256) q.body → n ++ 32 ∷ packet_words p ≡ m ++ 32 ∷ packet_words q → (n ≡ m) × (p ≡ q)
packet_once exact p q n m small-p small-q same =
    let a = packet_parts p in
    let b = packet_parts q in
    let body-p = body_text (message_of p).bytes ++ 10 ∷ [] in
    let body-q = body_text (message_of q).bytes ++ 10 ∷ [] in
    let words-p = 32 ∷ (a.word ++ 32 ∷ (a.dst ++ 32 ∷ a.src)) in
    let words-q = 32 ∷ (b.word ++ 32 ∷ (b.dst ++ 32 ∷ b.src)) in
    let whole-p : n ++ 32 ∷ packet_words p ≡ (n ++ words-p) ++ 32 ∷ body-p = ap (λ (t : List ℕ). n ++ 32 ∷ t) a.words ∙ last_of_four a.word a.dst a.src body-p n in
    let whole-q : m ++ 32 ∷ packet_words q ≡ (m ++ words-q) ++ 32 ∷ body-q = ap (λ (t : List ℕ). m ++ 32 ∷ t) b.words ∙ last_of_four b.word b.dst b.src body-q m in
    let last = split_last (n ++ words-p) (m ++ words-q) body-p body-q (body_text-plain (message_of p).bytes (carried_bytes p small-p)) (body_text-plain (message_of q).bytes (carried_bytes q small-q)) (sym whole-p ∙ same ∙ whole-q) in
    let long-src : length (32 ∷ a.src) ≡ length (32 ∷ b.src) = omega (arith, a.src_long, b.src_long) in
    let long-dst : length (32 ∷ (a.dst ++ 32 ∷ a.src)) ≡ length (32 ∷ (b.dst ++ 32 ∷ b.src)) = omega (arith, a.src_long, b.src_long, a.dst_long, b.dst_long, length-append a.dst (32 ∷ a.src), length-append b.dst (32 ∷ b.src)) in
    let long-words : length words-p ≡ length words-q = omega (arith, a.word_long, b.word_long, long-dst, length-append a.word (32 ∷ (a.dst ++ 32 ∷ a.src)), length-append b.word (32 ∷ (b.dst ++ 32 ∷ b.src))) in
    let names = split_long n m words-p words-q long-words last.0 in
    let word = split_long (32 ∷ a.word) (32 ∷ b.word) (32 ∷ (a.dst ++ 32 ∷ a.src)) (32 ∷ (b.dst ++ 32 ∷ b.src)) long-dst names.1 in
    let addresses = split_long (32 ∷ a.dst) (32 ∷ b.dst) (32 ∷ a.src) (32 ∷ b.src) long-src word.1 in
    let number : word_of p.cmd ≡ word_of q.cmd = option_same (word_of p.cmd) (word_of q.cmd) (sym a.word_read ∙ ap (λ (t : List ℕ). digits_number 16 8 (drop 1 t)) word.0 ∙ b.word_read) in
    let dst : p.dst ≡ q.dst = option_same p.dst q.dst (sym a.dst_read ∙ ap (λ (t : List ℕ). digits_number 16 14 (drop 1 t)) addresses.0 ∙ b.dst_read) in
    let src : p.src ≡ q.src = option_same p.src q.src (sym a.src_read ∙ ap (λ (t : List ℕ). digits_number 16 14 (drop 1 t)) addresses.1 ∙ b.src_read) in
    let cmd : p.cmd ≡ q.cmd = one_command (word_of p.cmd) p.cmd q.cmd (exact p.cmd (packet_len p)) (subst (λ (w : ℕ). IsWordOf w q.cmd) (sym number) (exact q.cmd (packet_len q))) in
    let long : length (message_of p).bytes ≡ length (message_of q).bytes = carried_length p ∙ ap carried_of cmd ∙ sym (carried_length q) in
    let bytes = body_once (message_of p).bytes (message_of q).bytes long (carried_bytes p small-p) (carried_bytes q small-q) (append_cancel_right (body_text (message_of p).bytes) (body_text (message_of q).bytes) (10 ∷ []) last.1) in
    let body : p.body ≡ q.body = sym (carried_padded p) ∙ ap (λ (t : List ℕ). t ++ replicate (32 - carried_of p.cmd) 0) bytes ∙ ap (λ (c : Cmd). (message_of q).bytes ++ replicate (32 - carried_of c) 0) cmd ∙ carried_padded q in
    (names.0, same_packet p q cmd dst src body)

-- a line spells one entry
entry_made : ℕ → ℕ → Packet → Entry
entry_made round device packet = record { round = round; device = device; packet = packet }

pub entry_once : AreExact → (b : Bundle) (line : List ℕ) (e f : Entry) → SpellsEntry (network_of b) line e → SpellsEntry (network_of b) line f → e ≡ f
unfolding entry_made
entry_once exact b line e f s t =
    let network = network_of b in
    let ne = device_name_at network e.device in
    let nf = device_name_at network f.device in
    let words : codes "e" ++ 32 ∷ (decimal e.round ++ 32 ∷ (ne ++ 32 ∷ packet_words e.packet)) ≡ codes "e" ++ 32 ∷ (decimal f.round ++ 32 ∷ (nf ++ 32 ∷ packet_words f.packet)) =
    sym (entry_words network e) ∙ sym s.text ∙ t.text ∙ entry_words network f in
    let first = split_first (decimal e.round) (decimal f.round) (ne ++ 32 ∷ packet_words e.packet) (nf ++ 32 ∷ packet_words f.packet) (plain e.round s.range.round) (plain f.round t.range.round) (ap (drop 2) words) in
    let round : e.round ≡ f.round = option_same e.round f.round (sym (read e.round s.range.round) ∙ ap (digits_number 10 10) first.0 ∙ read f.round t.range.round) in
    let rest = packet_once exact e.packet f.packet ne nf s.range.bytes t.range.bytes first.1 in
    let device : e.device ≡ f.device = option_same e.device f.device (sym (device_found b nf e.device s.range.device rest.0) ∙ device_found b nf f.device t.range.device refl) in
    ap (λ (r : ℕ). entry_made r e.device e.packet) round ∙ ap (λ (d : ℕ). entry_made f.round d e.packet) device ∙ ap (λ (p : Packet). entry_made f.round f.device p) rest.1
  where
    plain : (n : ℕ) → n < 2 ^ 32 → IsPlain (decimal n)
    plain n small = decimal-plain n (omega arith)

    read : (n : ℕ) → n < 2 ^ 32 → digits_number 10 10 (decimal n) ≡ Some n
    read n small = decimal-read n small (length-decimal-le 10 n (omega arith) (omega arith) (omega arith))

-- lines spell one list of entries
entries_once : AreExact → (b : Bundle) (js ks : List Entry) → All (IsEntryInRange (network_of b)) js → All (IsEntryInRange (network_of b)) ks → map (entry_line (network_of b)) js ≡ map (entry_line (network_of b)) ks → js ≡ ks
entries_once exact b [] [] rj rk same = refl
entries_once exact b [] (k ∷ ks) rj rk same = absurd (cc)
entries_once exact b (j ∷ js) [] rj rk same = absurd (cc)
entries_once exact b (j ∷ js) (k ∷ ks) rj rk same =
    let range = IsEntryInRange (network_of b) in
    let line : entry_line (network_of b) j ≡ entry_line (network_of b) k = cc in
    let first = entry_once exact b (entry_line (network_of b) j) j k (record { range = All-head range j js rj; text = refl }) (record { range = All-head range k ks rk; text = line }) in
    ap (λ (x : Entry). x ∷ js) first ∙ ap (λ (l : List Entry). k ∷ l) (entries_once exact b js ks (All-tail range j js rj) (All-tail range k ks rk) (ap (drop 1) same))

-- a report spells one journal
pub journal_once : AreExact → (b : Bundle) (report : List ℕ) (js ks : List Entry) → SpellsJournal (network_of b) report js → SpellsJournal (network_of b) report ks → js ≡ ks
journal_once exact b report js ks s t =
    let network = network_of b in
    let counts : count_line (length js) ≡ count_line (length ks) = option_same (count_line (length js)) (count_line (length ks)) (sym (spelled_count network report js s) ∙ spelled_count network report ks t) in
    let count : length js ≡ length ks = announced_once (count_line (length js)) (length js) (length ks) (record { range = s.few; text = refl }) (record { range = t.few; text = counts }) in
    let lines : history_of network js ≡ history_of network ks = sym s.lines ∙ ap (λ (n : ℕ). take (2 + n) (report_lines report)) count ∙ t.lines in
    entries_once exact b js ks s.ranges t.ranges (ap (drop 2) lines)
