-- What reading an entry's line comes to.
use Rattle.std.proofs.Common.{◌≡◌, ◌<◌, ◌≤◌, ◌+◌, ◌-◌, ◌*◌, ◌%◌, ◌^◌, ℕ, zero, suc, Bool, true, false, List, [], ◌∷◌, ◌++◌, length, get_or, take, drop, replicate, ap, sym, refl, ◌∙◌, arith, Option, Some, None, subst, append_assoc}
use Rattle.std.proofs.Props.{props}
use Rattle.std.specs.Bool.{OnFalse, OnTrue}
use Rattle.std.specs.Prelude.{All, ◌==◌, ◌≢◌, IsSomeAnd, codes, decimal, unwrap_or, bytes_eq, map, Result, Ok, Err, MatchResult}
use Rattle.std.specs.List.{position_from}
use Rattle.std.proofs.lemmas.Bool.{eqb-true, false≢true}
use Rattle.std.proofs.lemmas.Nat.{pow_pos}
use Rattle.std.proofs.Math.Nat.{mul-le-mul_left}
use Rattle.std.proofs.lemmas.List.{length-append, get_or-append-add, get_or-map, length-map, length-take, take-append-drop, append-nil}
use Rattle.std.proofs.lemmas.List.Elements.{All-nil, All-cons, All-head, All-tail}
use Rattle.std.proofs.lemmas.Slice.Eq.{bytes_eq-Decides}
use Rattle.sb_word.specs.declared.command.Cmd.{Cmd}
use Rattle.sb_word.specs.declared.command.Op.{Op}
use Rattle.sb_word.specs.declared.command.Op.TheVariants.{ReqRd, ReqWr, ReqWrPosted, ReqAtomic, RespRd, RespWr}
use Rattle.sb_packet.specs.Messages.{message_of}
use Rattle.sb_packet.specs.Spans.{carried_of, span_of, word_count_by}
use Rattle.sb_packet.specs.declared.packet.Packet.{Packet}
use Rattle.sb_check.specs.Spelling.{IsPlain, packet_words}
use Rattle.std.specs.Result.{result_unwrap_or}
use Rattle.std.proofs.Math.Seq.{take-append_seam}
use Rattle.hex.specs.Hex.{IsBytes, decode_sized, encode_lower}
use Rattle.hex.specs.declared.error.FromHexError.{FromHexError}
use Rattle.hex.proofs.HexLemmas.{decode_sized-encode_lower}
use Rattle.sb_word.specs.Words.{IsWordOf, bit_of, opcode_of, word_of}
use Rattle.sb_word.specs.declared.fault.WordFault.{WordFault}
use Rattle.sb_packet.proofs.Opcodes.{carries_none_or_all}
use Rattle.sb_text.specs.Numerals.{digits_number}
use Rattle.sb_text.specs.TextLines.{body_text, hex_number, text_line}
use Rattle.sb_flow.specs.Accepted.{first_clash}
use Rattle.sb_flow.specs.NetworkOf.{network_of}
use Rattle.sb_flow.specs.Rows.{device_of}
use Rattle.sb_flow.specs.declared.bundle.Bundle.{Bundle}
use Rattle.sb_flow.specs.declared.device_plan.DevicePlan.{DevicePlan}
use Rattle.sb_flow.proofs.Clashes.{no_clash}
use Rattle.sb_packet.specs.Networks.{NetDevice, NetHost, NetRouter, Network}
use Rattle.sb_packet.specs.declared.entry.Entry.{Entry}
use Rattle.sb_text.specs.Reports.{entry_line}
use Rattle.sb_flow.proofs.Bundles.{device_there}
use Rattle.sb_link.specs.Prefixes.{IsPrefix}
use Rattle.sb_check.proofs.DigitLemmas.{hex_number-read, length-hex_number}
use Rattle.sb_check.proofs.MatchLemmas.{length-encode_lower}
use mathlib.Core.Logic.{inl, inr}
use mathlib.Core.HLevel.{is_prop→PathP}

-- nothing is no value with a property
pub no_some : {A : Type 0} (r : Option A) (P : A → Type 0) → r ≡ None → IsSomeAnd r P → ⊥
no_some None P none some = some
no_some (Some x) P none some = absurd (cc)

-- what is there has it
pub some_has : {A : Type 0} (r : Option A) (P : A → Type 0) (x : A) → r ≡ Some x → IsSomeAnd r P → P x
some_has r P x is some = subst (λ (o : Option _). IsSomeAnd o P) is some

-- two numbers that a result is are one
pub one_number : (r : Option ℕ) (a b : ℕ) → r ≡ Some a → r ≡ Some b → a ≡ b
one_number r a b is also = ap (λ (o : Option ℕ). unwrap_or o 0) (sym is ∙ also)

pub not_both : {A : Type 0} (r : Option A) (a : A) → r ≡ None → r ≡ Some a → ⊥
not_both None a none some = cc
not_both (Some x) a none some = cc

-- the mark of an entry's line is plain
pub mark_is_plain : IsPlain (101 ∷ [])
mark_is_plain = All-cons (λ b. (b == 32) ≡ false) 101 [] refl (All-nil (λ b. (b == 32) ≡ false))

-- the last of several words, and what stands before it
pub last_of_two : (a b : List ℕ) (front : List ℕ) → front ++ 32 ∷ (a ++ 32 ∷ b) ≡ (front ++ 32 ∷ a) ++ 32 ∷ b
last_of_two a b front = sym (append_assoc front (32 ∷ a) (32 ∷ b))

pub last_of_three : (a b d front : List ℕ) → front ++ 32 ∷ (a ++ 32 ∷ (b ++ 32 ∷ d)) ≡ (front ++ 32 ∷ (a ++ 32 ∷ b)) ++ 32 ∷ d
last_of_three a b d front = ap (λ (t : List ℕ). front ++ 32 ∷ t) (sym (append_assoc a (32 ∷ b) (32 ∷ d))) ∙ sym (append_assoc front (32 ∷ (a ++ 32 ∷ b)) (32 ∷ d))

pub last_of_four : (a b d e front : List ℕ) → front ++ 32 ∷ (a ++ 32 ∷ (b ++ 32 ∷ (d ++ 32 ∷ e))) ≡ (front ++ 32 ∷ (a ++ 32 ∷ (b ++ 32 ∷ d))) ++ 32 ∷ e
last_of_four a b d e front =
    ap (λ (t : List ℕ). front ++ 32 ∷ (a ++ 32 ∷ t)) (sym (append_assoc b (32 ∷ d) (32 ∷ e)))
    ∙ ap (λ (t : List ℕ). front ++ 32 ∷ t) (sym (append_assoc a (32 ∷ (b ++ 32 ∷ d)) (32 ∷ e)))
    ∙ sym (append_assoc front (32 ∷ (a ++ 32 ∷ (b ++ 32 ∷ d))) (32 ∷ e))

-- packets with the same command, addresses and body are one
pub same_packet : (p q : Packet) → p.cmd ≡ q.cmd → p.dst ≡ q.dst → p.src ≡ q.src → p.body ≡ q.body → p ≡ q
same_packet p q cmd dst src body =
    λ i. record {
      cmd = cmd i;
      dst = dst i;
      src = src i;
      body = body i;
      whole = is_prop→PathP (λ j. length (body j) ≡ 32) (λ j. hlevel props) p.whole q.whole i;
      fits = is_prop→PathP (λ j. span_of (cmd j) ≤ 32) (λ j. hlevel props) p.fits q.fits i;
      dst_aligned = is_prop→PathP (λ j. dst j % 2 ^ (cmd j).size ≡ 0) (λ j. hlevel props) p.dst_aligned q.dst_aligned i;
      src_aligned = is_prop→PathP (λ j. src j % 2 ^ (cmd j).size ≡ 0) (λ j. hlevel props) p.src_aligned q.src_aligned i;
      dst_in_range = is_prop→PathP (λ j. dst j + span_of (cmd j) ≤ 2 ^ 56) (λ j. hlevel props) p.dst_in_range q.dst_in_range i;
      src_in_range = is_prop→PathP (λ j. src j + span_of (cmd j) ≤ 2 ^ 56) (λ j. hlevel props) p.src_in_range q.src_in_range i;
      padding = is_prop→PathP (λ j. drop (carried_of (cmd j)) (body j) ≡ replicate (32 - carried_of (cmd j)) 0) (λ j. hlevel props) p.padding q.padding i;
    }

-- a packet's command word has room for its `len`
len_by : (op : Op) (len size : ℕ) → word_count_by op len * 2 ^ size ≤ 32 → (op ≡ ReqAtomic → len ≤ 8) → len < 2 ^ 8
len_by ReqAtomic len size fits type = let few = type refl in omega arith
len_by ReqRd len size fits type = let least = mul-le-mul_left (len + 1) (pow_pos size) in omega arith
len_by ReqWr len size fits type = let least = mul-le-mul_left (len + 1) (pow_pos size) in omega arith
len_by ReqWrPosted len size fits type = let least = mul-le-mul_left (len + 1) (pow_pos size) in omega arith
len_by RespRd len size fits type = let least = mul-le-mul_left (len + 1) (pow_pos size) in omega arith
len_by RespWr len size fits type = let least = mul-le-mul_left (len + 1) (pow_pos size) in omega arith

pub packet_len : (p : Packet) → p.cmd.len < 2 ^ 8
packet_len p = len_by p.cmd.op p.cmd.len p.cmd.size p.fits p.cmd.atomic_type_fits

-- two values that a result is are one
pub ok_same : {A E : Type 0} (r : Result A E) (a b : A) → r ≡ Ok a → r ≡ Ok b → a ≡ b
ok_same r a b is also = ap (λ (o : Result _ _). result_unwrap_or o a) (sym is ∙ also)

-- what a packet's word is decoded to is its command
pub decoded_command : (r : Result Cmd WordFault) (word : ℕ) (cmd : Cmd) (p : Packet) → ((d : Cmd) → IsWordOf word d → r ≡ Ok d) → ((d : Cmd) → d.len < 2 ^ 8 → IsWordOf (word_of d) d) → word ≡ word_of p.cmd → r ≡ Ok cmd → cmd ≡ p.cmd
decoded_command r word cmd p whole exact is got = ok_same r cmd p.cmd got (whole p.cmd (subst (λ (w : ℕ). IsWordOf w p.cmd) (sym is) (exact p.cmd (packet_len p))))

-- a packet carries 32 bytes at most
pub carried_fits : (p : Packet) → carried_of p.cmd ≤ 32
carried_fits p = elim (carries_none_or_all p.cmd.op) [ inl none ↦ rw (none (span_of p.cmd)) (omega arith) | inr all ↦ rw (all (span_of p.cmd)) p.fits ]

pub carried_length : (p : Packet) → length (message_of p).bytes ≡ carried_of p.cmd
carried_length p = length-take (carried_of p.cmd) p.body ∙ (let fits = carried_fits p in let whole = p.whole in omega arith)

All-take : (n : ℕ) (xs : List ℕ) → All (λ b. b < 256) xs → All (λ b. b < 256) (take n xs)
All-take zero xs all = All-nil (λ b. b < 256)
All-take (suc n) [] all = All-nil (λ b. b < 256)
All-take (suc n) (x ∷ xs) all = All-cons (λ b. b < 256) x (take n xs) (All-head (λ b. b < 256) x xs all) (All-take n xs (All-tail (λ b. b < 256) x xs all))

pub carried_bytes : (p : Packet) → All (λ b. b < 256) p.body → All (λ b. b < 256) (message_of p).bytes
carried_bytes p all = All-take (carried_of p.cmd) p.body all

-- its body is what it carries, and zeros
pub carried_padded : (p : Packet) → (message_of p).bytes ++ replicate (32 - carried_of p.cmd) 0 ≡ p.body
carried_padded p = ap (λ (t : List ℕ). take (carried_of p.cmd) p.body ++ t) (sym p.padding) ∙ take-append-drop (carried_of p.cmd) p.body

-- digits of bytes are decoded to them
are_bytes : (bytes : List ℕ) → All (λ b. b < 256) bytes → IsBytes bytes
are_bytes [] small i = omega arith
are_bytes (b ∷ bytes) small zero = All-head (λ b. b < 256) b bytes small
are_bytes (b ∷ bytes) small (suc i) = are_bytes bytes (All-tail (λ b. b < 256) b bytes small) i

pub decode_gives : (digits bytes : List ℕ) (n : ℕ) (r : Result (Unit {0}) FromHexError) (out : List ℕ) → MatchResult (decode_sized digits n) (λ b. (r ≡ Ok tt) × (out ≡ b)) (λ e. r ≡ Err e) → digits ≡ encode_lower bytes → All (λ b. b < 256) bytes → length bytes ≡ n → (r ≡ Ok tt) × (out ≡ bytes)
decode_gives digits bytes n r out value is small long =
    subst (λ (d : Result (List ℕ) FromHexError). MatchResult d (λ b. (r ≡ Ok tt) × (out ≡ b)) (λ e. r ≡ Err e))
    (ap (λ (t : List ℕ). decode_sized t n) is ∙ decode_sized-encode_lower bytes n long (are_bytes bytes small)) value

pub padded_as : (out rest bytes : List ℕ) (k : ℕ) → out ≡ bytes → length bytes ≡ k → take k (out ++ rest) ++ replicate (32 - length (take k (out ++ rest))) 0 ≡ bytes ++ replicate (32 - k) 0
padded_as out rest bytes k is long =
    let front : take k (out ++ rest) ≡ bytes = ap (λ (t : List ℕ). take k (t ++ rest)) is ∙ ap (λ (n : ℕ). take n (bytes ++ rest)) (sym long) ∙ take-append_seam bytes rest in
    rw (front, long) refl

-- the digits of a body that isn't empty
pub body_length : (text bytes : List ℕ) (k : ℕ) → text ≡ body_text bytes ++ 10 ∷ [] → length bytes ≡ k → 0 < k → length text ≡ 2 * k + 1
body_length text [] k is long some = absurd (omega arith)
body_length text (b ∷ bytes) k is long some = ap length is ∙ length-append (encode_lower (b ∷ bytes)) (10 ∷ []) ∙ omega (arith, length-encode_lower (b ∷ bytes), long)

pub body_digits : (text bytes : List ℕ) (k : ℕ) → text ≡ body_text bytes ++ 10 ∷ [] → length bytes ≡ k → 0 < k → take (2 * k) text ≡ encode_lower bytes
body_digits text [] k is long some = absurd (omega arith)
body_digits text (b ∷ bytes) k is long some =
    let at : 2 * k ≡ length (encode_lower (b ∷ bytes)) = omega (arith, length-encode_lower (b ∷ bytes), long) in
    ap (take (2 * k)) is ∙ ap (λ (n : ℕ). take n (encode_lower (b ∷ bytes) ++ 10 ∷ [])) at ∙ take-append_seam (encode_lower (b ∷ bytes)) (10 ∷ [])

-- a command's word has 32 bits
opcode_small : (op : Op) → opcode_of op ≤ 9
opcode_small ReqRd = omega arith
opcode_small ReqWr = omega arith
opcode_small ReqWrPosted = omega arith
opcode_small ReqAtomic = omega arith
opcode_small RespRd = omega arith
opcode_small RespWr = omega arith

bit_small : (b : Bool) → bit_of b ≤ 1
bit_small true = omega arith
bit_small false = omega arith

word_small : (c : Cmd) → c.len < 2 ^ 8 → word_of c < 2 ^ 32
word_small c few = omega (arith, opcode_small c.op, c.size_fits, c.qos_fits, c.prot_fits, bit_small c.eom, bit_small c.eof, bit_small c.ex, c.tail_fits, c.host_fits, few)

-- a packet speaks of something
some_span : (op : Op) (len size : ℕ) → 0 < word_count_by op len * 2 ^ size
some_span ReqAtomic len size = let some = pow_pos size in omega arith
some_span ReqRd len size = let least = mul-le-mul_left (len + 1) (pow_pos size) in omega arith
some_span ReqWr len size = let least = mul-le-mul_left (len + 1) (pow_pos size) in omega arith
some_span ReqWrPosted len size = let least = mul-le-mul_left (len + 1) (pow_pos size) in omega arith
some_span RespRd len size = let least = mul-le-mul_left (len + 1) (pow_pos size) in omega arith
some_span RespWr len size = let least = mul-le-mul_left (len + 1) (pow_pos size) in omega arith

-- the words of a packet in its line, as texts that are read
pub record PacketParts (p : Packet) : Type 0 where
  pub word : List ℕ
  pub dst : List ℕ
  pub src : List ℕ
  pub word_long : length word ≡ 8
  pub dst_long : length dst ≡ 14
  pub src_long : length src ≡ 14
  pub word_read : digits_number 16 8 word ≡ Some (word_of p.cmd)
  pub dst_read : digits_number 16 14 dst ≡ Some p.dst
  pub src_read : digits_number 16 14 src ≡ Some p.src
  pub small : word_of p.cmd < 2 ^ 32
  pub words : packet_words p ≡ word ++ 32 ∷ (dst ++ 32 ∷ (src ++ 32 ∷ (body_text (message_of p).bytes ++ 10 ∷ [])))

pub packet_parts : (p : Packet) → PacketParts p
unfolding packet_words
packet_parts p =
    let some = some_span p.cmd.op p.cmd.len p.cmd.size in
    let few = word_small p.cmd (packet_len p) in
    let dst : p.dst < 2 ^ 56 = let high = p.dst_in_range in omega arith in
    let src : p.src < 2 ^ 56 = let high = p.src_in_range in omega arith in
    record {
      word = hex_number 8 (word_of p.cmd);
      dst = hex_number 14 p.dst;
      src = hex_number 14 p.src;
      word_long = length-hex_number 8 (word_of p.cmd);
      dst_long = length-hex_number 14 p.dst;
      src_long = length-hex_number 14 p.src;
      word_read = hex_number-read 8 (word_of p.cmd) (omega arith) few (omega arith);
      dst_read = hex_number-read 14 p.dst (omega arith) dst (omega arith);
      src_read = hex_number-read 14 p.src (omega arith) src (omega arith);
      small = few;
      words = refl;
    }

-- the first item with a name is the one at its place, where no earlier one has it
position_of : {A : Type 0} (f : A → List ℕ) (xs : List A) (s d : ℕ) (name : List ℕ) → d < length xs → get_or (map f xs) d [] ≡ name → ((i : ℕ) → i < d → bytes_eq (get_or (map f xs) i []) name ≡ false) → position_from (λ x. bytes_eq (f x) name) s xs ≡ Some (s + d)
position_of f [] s d name below is others = absurd (omega arith)
position_of f (x ∷ xs) s zero name below is others =
    let same : bytes_eq (f x) name ≡ true = grind (arith, bytes_eq-Decides) in
    let at : s ≡ s + 0 = omega arith in
    rw same (ap (λ (n : ℕ). Some n) at)
position_of f (x ∷ xs) s (suc d) name below is others =
    let at : s + 1 + d ≡ s + suc d = omega arith in
    rw (others 0 (omega arith)) (position_of f xs (s + 1) d name (omega arith) is (λ i less. others (suc i) (omega arith)) ∙ ap (λ (n : ℕ). Some n) at)

-- no two devices have one name
names_differ : (before devices : List (List ℕ)) (i d : ℕ) → ((j k : ℕ) → j < k → k < length (before ++ devices) → bytes_eq (get_or (before ++ devices) k []) (get_or (before ++ devices) j []) ≡ false) → i < d → d < length devices → bytes_eq (get_or devices d []) (get_or devices i []) ≡ false
names_differ before devices i d apart less below =
    let place : (k : ℕ) → get_or (before ++ devices) (length before + k) [] ≡ get_or devices k [] = λ k. get_or-append-add before devices k [] in
    rw (← place d, ← place i) (apart (length before + i) (length before + d) (omega arith) (omega (arith, length-append before devices)))

bytes_eq-sym : (a b : List ℕ) → bytes_eq a b ≡ false → bytes_eq b a ≡ false
bytes_eq-sym a b other = grind (arith, bytes_eq-Decides)

pub device_found : (b : Bundle) (name : List ℕ) (d : ℕ) → d < length (network_of b).devices → get_or (map (λ (x : NetDevice). x.name) (network_of b).devices) d [] ≡ name → position_from (λ (x : DevicePlan). bytes_eq x.name name) 0 b.devices.items ≡ Some d
device_found b name d below is =
    let n = network_of b in
    let names = map (λ (x : NetDevice). x.name) n.devices in
    let long : length names ≡ length n.devices = length-map n.devices (λ (x : NetDevice). x.name) in
    let few : length n.devices ≡ length b.devices.items = length-map b.devices.items device_of in
    let plain : map (λ (x : DevicePlan). x.name) b.devices.items ≡ names = map_map b.devices.items in
    let regrouped : map (λ (h : NetHost). h.name) n.hosts ++ map (λ (r : NetRouter). r.name) n.routers ++ names ≡ (map (λ (h : NetHost). h.name) n.hosts ++ map (λ (r : NetRouter). r.name) n.routers) ++ names = simp append_assoc refl in
    let is_plain : get_or (map (λ (x : DevicePlan). x.name) b.devices.items) d [] ≡ name = ap (λ (l : List (List ℕ)). get_or l d []) plain ∙ is in
    (position_of (λ (x : DevicePlan). x.name) b.devices.items 0 d name (omega (arith, few)) is_plain
    (λ i less.
    let before = map (λ (h : NetHost). h.name) n.hosts ++ map (λ (r : NetRouter). r.name) n.routers in
    let apart = names_differ before names i d (λ j k low high. no_clash bytes_eq (before ++ names) j k [] (subst (λ (l : List (List ℕ)). first_clash bytes_eq l ≡ None) regrouped b.names) low high) less (omega (arith, long)) in
    let other : bytes_eq (get_or names i []) (get_or names d []) ≡ false = bytes_eq-sym (get_or names d []) (get_or names i []) apart in
    ap (λ (l : List (List ℕ)). bytes_eq (get_or l i []) name) plain ∙ ap (bytes_eq (get_or names i [])) (sym is) ∙ other))
    ∙ ap (λ (k : ℕ). Some k) (let at : 0 + d ≡ d = omega arith in at)
  where
    map_map : (xs : List DevicePlan) → map (λ (x : DevicePlan). x.name) xs ≡ map (λ (x : NetDevice). x.name) (map device_of xs)
    map_map [] = refl
    map_map (x ∷ xs) = ap (λ (l : List (List ℕ)). x.name ∷ l) (map_map xs)

-- two values that are there are one
pub option_same : {A : Type 0} (a b : A) → Some a ≡ Some b → a ≡ b
option_same a b is = ap (λ (o : Option _). unwrap_or o a) is

-- the name of a network's device, at its place
abbrev pub device_name_at : Network → ℕ → List ℕ
device_name_at network d = get_or (map (λ (x : NetDevice). x.name) network.devices) d []

-- the words of an entry's line
pub entry_words : (network : Network) (e : Entry) → entry_line network e ≡ codes "e" ++ 32 ∷ (decimal e.round ++ 32 ∷ (device_name_at network e.device ++ 32 ∷ packet_words e.packet))
unfolding packet_words
entry_words network e = refl

-- the same, with the name of the device that was read
pub name_read : (b : Bundle) (d : ℕ) (row : DevicePlan) → d < length b.devices.items → row ≡ get_or b.devices.items d row → device_name_at (network_of b) d ≡ row.name
name_read b d row there at =
    get_or-map (λ (x : NetDevice). x.name) (network_of b).devices d (device_of row) [] (omega (arith, there, length-map b.devices.items device_of)) ∙ ap (λ (x : NetDevice). x.name) (device_there b d row (device_of row) there at)

-- a text is there with nothing behind it, or it isn't
pub whole_text : (a b s : List ℕ) → a ≡ s ++ b → b ≡ [] → a ≡ s
whole_text a b s is none = is ∙ ap (λ (t : List ℕ). s ++ t) none ∙ append-nil s

pub nothing_behind : (a b s : List ℕ) → a ≡ s ++ b → a ≡ s → length b ≡ 0
nothing_behind a b s is same = omega (arith, ap length (sym is ∙ same), length-append s b)

pub begins_itself : (a s : List ℕ) → a ≡ s → IsPrefix s a
begins_itself a s is = record { rest = []; joined = append-nil s ∙ sym is }

-- where the text is empty behind it, and where it isn't
pub is_whole : (b : Bool) (a rest s : List ℕ) → b ≡ (length rest == 0) → a ≡ s ++ rest → OnTrue b (a ≡ s)
is_whole false a rest s e is = tt
is_whole true a [] s e is = is ∙ append-nil s
is_whole true a (x ∷ rest) s e is = absurd (let none : length (x ∷ rest) ≡ 0 = eqb-true (length (x ∷ rest)) 0 (sym e) in omega arith)

pub isnt_whole : (b : Bool) (a rest s : List ℕ) → b ≡ (length rest == 0) → a ≡ s ++ rest → OnFalse b (a ≢ s)
isnt_whole true a rest s e is = tt
isnt_whole false a rest s e is = λ same. let none = nothing_behind a rest s is same in false≢true (e ∙ rw none refl)

-- the words of an entry's line, as they are compared
pub line_is : (network : Network) (e : Entry) (name word dst src body : List ℕ) → device_name_at network e.device ≡ name → encode_lower word ≡ hex_number 8 (word_of e.packet.cmd) → encode_lower dst ≡ hex_number 14 e.packet.dst → encode_lower src ≡ hex_number 14 e.packet.src → body ≡ (message_of e.packet).bytes
    → text_line (codes "e" ∷ decimal e.round ∷ name ∷ encode_lower word ∷ encode_lower dst ∷ encode_lower src ∷ body_text body ∷ []) ≡ entry_line network e
line_is network e name word dst src body is-name is-word is-dst is-src is-body =
    ap (λ (t : List ℕ). text_line (codes "e" ∷ decimal e.round ∷ t ∷ encode_lower word ∷ encode_lower dst ∷ encode_lower src ∷ body_text body ∷ [])) (sym is-name)
    ∙ ap (λ (t : List ℕ). text_line (codes "e" ∷ decimal e.round ∷ device_name_at network e.device ∷ t ∷ encode_lower dst ∷ encode_lower src ∷ body_text body ∷ [])) is-word
    ∙ ap (λ (t : List ℕ). text_line (codes "e" ∷ decimal e.round ∷ device_name_at network e.device ∷ hex_number 8 (word_of e.packet.cmd) ∷ t ∷ encode_lower src ∷ body_text body ∷ [])) is-dst
    ∙ ap (λ (t : List ℕ). text_line (codes "e" ∷ decimal e.round ∷ device_name_at network e.device ∷ hex_number 8 (word_of e.packet.cmd) ∷ hex_number 14 e.packet.dst ∷ t ∷ body_text body ∷ [])) is-src
    ∙ ap (λ (t : List ℕ). text_line (codes "e" ∷ decimal e.round ∷ device_name_at network e.device ∷ hex_number 8 (word_of e.packet.cmd) ∷ hex_number 14 e.packet.dst ∷ hex_number 14 e.packet.src ∷ body_text t ∷ [])) is-body

-- bytes that fit their type at each place
pub All-bytes : (xs : List ℕ) → ((k : ℕ) → get_or xs k 0 < 256) → All (λ b. b < 256) xs
All-bytes [] each = All-nil (λ b. b < 256)
All-bytes (x ∷ xs) each = All-cons (λ b. b < 256) x xs (each 0) (All-bytes xs (λ k. each (suc k)))
