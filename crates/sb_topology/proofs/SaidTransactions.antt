-- Lines that say a transaction say one that can be asked for.
use Rattle.std.proofs.Common.{◌≡◌, ◌≤◌, ◌==◌, ◌+◌, ◌*◌, ◌%◌, ◌^◌, ℕ, true, false, Bool, ◌&&◌, List, [], ◌∷◌, ◌++◌, refl, subst, Option, Some, None, Result, Ok, Err, arith}
use Rattle.std.specs.Prelude.{nat_le, nat_lt, All, if◌then◌else◌}
use Rattle.std.proofs.lemmas.Bool.{and_parts, eqb-true, leb-true, ltb-true}
use Rattle.std.proofs.lemmas.List.Elements.{All-append, All-cons, All-nil}
use Rattle.sb_packet.specs.Networks.{NetHost}
use Rattle.sb_packet.specs.Scripts.{HasBody, IsOneWordIfAtomic, IsTransaction}
use Rattle.sb_packet.specs.declared.transaction.Kind.{Kind}
use Rattle.sb_packet.specs.declared.transaction.Kind.TheVariants.{Read, Write, Posted, Atomic}
use Rattle.sb_packet.specs.declared.transaction.Txn.{Txn}
use Rattle.sb_text.specs.Sentences.{arguments_of, body_of, count_of, is_comment, kind_of, line_of, most_words, placed, sentence_of, some_or, told_count, transaction_of, unless, ◌>>=◌}
use Rattle.sb_text.specs.Lines.{words_in_line}
use Rattle.sb_text.specs.Numerals.{numeral_of}
use Rattle.sb_text.specs.Scripts.{before}
use Rattle.sb_text.specs.declared.line_fault.LineFault.{LineFault}
use Rattle.sb_text.specs.declared.line_fault.LineFault.TheVariants as faults
use Rattle.sb_text.proofs.TransactionLemmas.{has_body}
use Rattle.sb_fields.specs.Written.{WrittenHost}
use Rattle.sb_topology.specs.Lines.{hosts_by, said_by, script_by, told_host}
use Rattle.sb_topology.proofs.Chains.{bind_ok, some_or_Some, unless_true}
use Rattle.std.specs.Str.Lines.{strip_carriage_return}

-- no more words than a verb may have are one for an atomic, and 256 for all else
one_if_atomic : (kind : Kind) (count : ℕ) → 1 ≤ count → count ≤ most_words kind → IsOneWordIfAtomic kind count
one_if_atomic Read count some few = tt
one_if_atomic Write count some few = tt
one_if_atomic Posted count some few = tt
one_if_atomic (Atomic atomic) count some few = omega arith

few_words : (kind : Kind) (count : ℕ) → count ≤ most_words kind → count ≤ 256
few_words Read count few = omega arith
few_words Write count few = omega arith
few_words Posted count few = omega arith
few_words (Atomic atomic) count few = omega arith

placed_then : (kind : Kind) (addr size count : ℕ) (body : List ℕ) (t : Txn) → size ≤ 3 → HasBody kind (count * 2 ^ size) body → placed kind addr size count body ≡ Ok t → IsTransaction t
placed_then kind addr size count body t small bodied e =
    let made : Txn = record { kind = kind; size = size; addr = addr; count = count; body = body } in
    let many = bind_ok (unless (nat_le 1 count && nat_le count (most_words kind)) faults.Length) (λ done. unless (addr % 2 ^ size == 0) faults.Aligned >>= (λ done. unless (nat_le (addr % 4096 + count * 2 ^ size) 4096) faults.Page >>= (λ done. unless (nat_lt addr (2 ^ 56)) faults.Range >>= (λ done. Ok made)))) t e in
    let aligned = bind_ok (unless (addr % 2 ^ size == 0) faults.Aligned) (λ done. unless (nat_le (addr % 4096 + count * 2 ^ size) 4096) faults.Page >>= (λ done. unless (nat_lt addr (2 ^ 56)) faults.Range >>= (λ done. Ok made))) t many.2 in
    let page = bind_ok (unless (nat_le (addr % 4096 + count * 2 ^ size) 4096) faults.Page) (λ done. unless (nat_lt addr (2 ^ 56)) faults.Range >>= (λ done. Ok made)) t aligned.2 in
    let range = bind_ok (unless (nat_lt addr (2 ^ 56)) faults.Range) (λ done. Ok made) t page.2 in
    let is : made ≡ t = cc range.2 in
    let parts = and_parts (nat_le 1 count) (nat_le count (most_words kind)) (unless_true (nat_le 1 count && nat_le count (most_words kind)) faults.Length many.0 many.1) in
    let some : 1 ≤ count = leb-true 1 count parts.0 in
    let few : count ≤ most_words kind = leb-true count (most_words kind) parts.1 in
    subst IsTransaction is (record {
      size = small;
      some = some;
      most = few_words kind count few;
      atomic = one_if_atomic kind count some few;
      body = bodied;
      aligned = eqb-true (addr % 2 ^ size) 0 (unless_true (addr % 2 ^ size == 0) faults.Aligned aligned.0 aligned.1);
      page = leb-true (addr % 4096 + count * 2 ^ size) 4096 (unless_true (nat_le (addr % 4096 + count * 2 ^ size) 4096) faults.Page page.0 page.1);
      range = ltb-true addr (2 ^ 56) (unless_true (nat_lt addr (2 ^ 56)) faults.Range range.0 range.1);
    })

transaction_then : (kind : Kind) (addr size last : List ℕ) (t : Txn) → transaction_of kind addr size last ≡ Ok t → IsTransaction t
transaction_then kind addr size last t e =
    let behind_count = λ (a s : ℕ) (body : List ℕ) (n : ℕ). placed kind a s n body in
    let behind_body = λ (a s told : ℕ) (body : List ℕ). (some_or (count_of kind s told body) faults.Length >>= behind_count a s body) in
    let behind_size = λ (a s told : ℕ) (done : Unit {0}). (body_of kind last >>= behind_body a s told) in
    let behind_told = λ (a s told : ℕ). (unless (nat_le s 3) faults.Size >>= behind_size a s told) in
    let a = bind_ok (some_or (numeral_of addr) faults.Number) (λ a. some_or (numeral_of size) faults.Number >>= (λ s. some_or (told_count kind last) faults.Number >>= behind_told a s)) t e in
    let s = bind_ok (some_or (numeral_of size) faults.Number) (λ s. some_or (told_count kind last) faults.Number >>= behind_told a.0 s) t a.2 in
    let told = bind_ok (some_or (told_count kind last) faults.Number) (behind_told a.0 s.0) t s.2 in
    let small = bind_ok (unless (nat_le s.0 3) faults.Size) (behind_size a.0 s.0 told.0) t told.2 in
    let body = bind_ok (body_of kind last) (behind_body a.0 s.0 told.0) t small.2 in
    let count = bind_ok (some_or (count_of kind s.0 told.0 body.0) faults.Length) (behind_count a.0 s.0 body.0) t body.2 in
    let counted = some_or_Some (count_of kind s.0 told.0 body.0) faults.Length count.0 count.1 in
    placed_then kind a.0 s.0 count.0 body.0 t (leb-true s.0 3 (unless_true (nat_le s.0 3) faults.Size small.0 small.1)) (has_body kind s.0 told.0 last body.0 count.0 body.1 counted) count.2

arguments_then : (kind : Kind) (words : List (List ℕ)) (t : Txn) → arguments_of kind words ≡ Ok t → IsTransaction t
arguments_then kind [] t e = let no_way : ⊥ = cc in absurd no_way
arguments_then kind (a ∷ []) t e = let no_way : ⊥ = cc in absurd no_way
arguments_then kind (a ∷ b ∷ []) t e = let no_way : ⊥ = cc in absurd no_way
arguments_then kind (a ∷ b ∷ c ∷ []) t e = transaction_then kind a b c t e
arguments_then kind (a ∷ b ∷ c ∷ d ∷ more) t e = let no_way : ⊥ = cc in absurd no_way

sentence_then : (words : List (List ℕ)) (t : Txn) → sentence_of words ≡ Ok (Some t) → IsTransaction t
sentence_then [] t e = let no_way : ⊥ = cc in absurd no_way
sentence_then (verb ∷ words) t e =
    let kind = bind_ok (some_or (kind_of verb) faults.Verb) (λ kind. arguments_of kind words >>= (λ txn. Ok (Some txn))) (Some t) e in
    let said = bind_ok (arguments_of kind.0 words) (λ txn. Ok (Some txn)) (Some t) kind.2 in
    let is : said.0 ≡ t = cc said.2 in
    subst IsTransaction is (arguments_then kind.0 words said.0 said.1)

words_then : (words : List (List ℕ)) (comment : Bool) (t : Txn) → (if comment then Ok None else sentence_of words) ≡ Ok (Some t) → IsTransaction t
words_then words true t e = let no_way : ⊥ = cc in absurd no_way
words_then words false t e = sentence_then words t e

line_then : (host number : ℕ) (line : List ℕ) (said : Result (Option Txn) LineFault) (t : Txn) → line_of line ≡ said → said_by host number said ≡ Ok (Some t) → IsTransaction t
line_then host number line (Err fault) t is e = let no_way : ⊥ = cc in absurd no_way
line_then host number line (Ok txn) t is e = words_then (words_in_line (strip_carriage_return line)) (is_comment (words_in_line (strip_carriage_return line))) t cc

one_then : (host number : ℕ) (line : List ℕ) (said : Option Txn) → said_by host number (line_of line) ≡ Ok said → All IsTransaction (before said [])
one_then host number line None e = All-nil IsTransaction
one_then host number line (Some t) e = All-cons IsTransaction t [] (line_then host number line (line_of line) t refl e) (All-nil IsTransaction)

script_then : (host number : ℕ) (found : List Txn) (lines : List (List ℕ)) (txns : List Txn) → All IsTransaction found → script_by host number found lines ≡ Ok txns → All IsTransaction txns
script_then host number found [] txns all e = let same : found ≡ txns = cc in subst (All IsTransaction) same all
script_then host number found (line ∷ lines) txns all e =
    let parts = bind_ok (said_by host number (line_of line)) (λ txn. script_by host (number + 1) (found ++ before txn []) lines) txns e in
    script_then host (number + 1) (found ++ before parts.0 []) lines txns (All-append IsTransaction found (before parts.0 []) all (one_then host number line parts.0 parts.1)) parts.2

-- a host's script is made of what can be asked for
abbrev pub AsksWhatMayBe : NetHost → Type 0
AsksWhatMayBe host = All IsTransaction host.script

told_then : (number : ℕ) (h : WrittenHost) (t : NetHost) → told_host number h ≡ Ok t → AsksWhatMayBe t
told_then number h t e =
    let made = λ (script : List Txn). (let host : NetHost = record { name = h.name; id = h.id; qos = h.qos; prot = h.prot; script = script } in host) in
    let read = bind_ok (script_by number 1 [] h.script) (λ script. Ok (made script)) t e in
    let is : made read.0 ≡ t = cc read.2 in
    subst AsksWhatMayBe is (script_then number 1 [] h.script read.0 (All-nil IsTransaction) read.1)

-- Hosts whose scripts were read ask for what can be asked for.
pub hosts_then : (number : ℕ) (found : List NetHost) (hs : List WrittenHost) (all : List NetHost) → All AsksWhatMayBe found → hosts_by number found hs ≡ Ok all → All AsksWhatMayBe all
hosts_then number found [] all asks e = let same : found ≡ all = cc in subst (All AsksWhatMayBe) same asks
hosts_then number found (h ∷ hs) all asks e =
    let parts = bind_ok (told_host number h) (λ told. hosts_by (number + 1) (found ++ told ∷ []) hs) all e in
    let one = told_then number h parts.0 parts.1 in
    hosts_then (number + 1) (found ++ parts.0 ∷ []) hs all (All-append AsksWhatMayBe found (parts.0 ∷ []) asks (All-cons AsksWhatMayBe parts.0 [] one (All-nil AsksWhatMayBe))) parts.2
