-- What a row keeps where one more word of its transaction is answered.
use Rattle.std.proofs.Common.{◌≡◌, ◌<◌, ℕ, zero, suc, ◌+◌, ◌-◌, ◌*◌, List, [], ◌∷◌, ◌++◌, refl, sym, ap, subst, ◌∙◌, arith, take, drop, length, Bool, true, false, Option, Some, None, replicate, zero-mul}
use Rattle.std.specs.Prelude.{map, max, flat_map, filter_map, is_some, set, not, count_by, if◌then◌else◌}
use Rattle.std.specs.List.{AllByRecursion}
use Rattle.std.proofs.Math.ListN.{get_or}
use Rattle.std.proofs.Math.Seq.{take-append_seam, drop-append_seam, drop-append-add}
use Rattle.std.proofs.lemmas.Grind.{flat_map-append}
use Rattle.std.proofs.lemmas.List.{take-append-drop, take-set, drop-set, map-set, length-append, length-map, length-take, length-replicate, get_or-map, replicate-append-replicate}
use Rattle.std.proofs.lemmas.List.Elements.{filter_map-append}
use Rattle.std.proofs.lemmas.List.Sums.{sum_by-set}
use Rattle.std.proofs.lemmas.List.Folds.{sum_by-replicate}
use Rattle.sb_packet.specs.Accesses.{Access}
use Rattle.sb_packet.specs.Answers.{answer_code}
use Rattle.sb_packet.proofs.JoinedAnswers.{answer_code-append}
use Rattle.sb_host.specs.Rows.{IsAsWide, IsRow, bytes_or_zeros, with_answer}
use Rattle.sb_host.specs.declared.answer_row.AnswerRow.{AnswerRow}

-- the answers that there are
abbrev pub found : List (Option Access) → List Access
found answers = filter_map (λ a. a) answers

-- an element is replaced between those before it and those behind it
pub set_between : {X : Type 0} (xs : List X) (j : ℕ) (y : X) → j < length xs → set xs j y ≡ take j xs ++ y ∷ drop (j + 1) xs
set_between xs j y below = sym (take-append-drop j (set xs j y)) ∙ rw (take-set xs j y, drop-set xs j y below) refl

-- an element stands there
pub stands_between : {X : Type 0} (xs : List X) (j : ℕ) (d : X) → j < length xs → xs ≡ take j xs ++ get_or xs j d ∷ drop (j + 1) xs
stands_between [] j d below = absurd (omega arith)
stands_between (x ∷ xs) zero d below = refl
stands_between (x ∷ xs) (suc j) d below =
    let next : suc j + 1 ≡ suc (j + 1) = omega arith in
    rw next (ap (λ rest. x ∷ rest) (stands_between xs j d (omega arith)))

-- one answer more: the greatest code
code_between : (before after : List (Option Access)) (a : Access) → answer_code (found (before ++ Some a ∷ after)) ≡ max (answer_code (found (before ++ None ∷ after))) a.tail
code_between before after a =
    let more : found (before ++ Some a ∷ after) ≡ found before ++ (a ∷ found after) = filter_map-append (λ (x : Option Access). x) before (Some a ∷ after) in
    let less : found (before ++ None ∷ after) ≡ found before ++ found after = filter_map-append (λ (x : Option Access). x) before (None ∷ after) in
    let codes_more = answer_code-append (found before) (a ∷ found after) in
    let codes_less = answer_code-append (found before) (found after) in
    let codes_behind : answer_code (a ∷ found after) ≡ max (max 0 a.tail) (answer_code (found after)) = answer_code-append (a ∷ []) (found after) in
    rw (more, less, codes_more, codes_less, codes_behind) (omega arith)

-- answers that are as wide are so many bytes
pub length_of_bytes : (width : ℕ) (answers : List (Option Access)) → AllByRecursion (IsAsWide width) answers → length (flat_map (bytes_or_zeros width) answers) ≡ length answers * width
length_of_bytes width [] wide = sym (zero-mul width)
length_of_bytes width (x ∷ xs) wide =
    let rest = length_of_bytes width xs wide.1 in
    let here : length (bytes_or_zeros width x) ≡ width = wide.0 in
    length-append (bytes_or_zeros width x) (flat_map (bytes_or_zeros width) xs) ∙ omega (arith, rest, here)

-- one answer more: its bytes in place of those that stood there
bytes_between : (width : ℕ) (before after : List (Option Access)) (x : Option Access) (a : Access) → AllByRecursion (IsAsWide width) before → length (bytes_or_zeros width x) ≡ width
    → flat_map (bytes_or_zeros width) (before ++ Some a ∷ after)
    ≡ take (length before * width) (flat_map (bytes_or_zeros width) (before ++ x ∷ after)) ++ (a.bytes ++ drop (length before * width + width) (flat_map (bytes_or_zeros width) (before ++ x ∷ after)))
bytes_between width before after x a wide here =
    let f = bytes_or_zeros width in
    let n : length before * width ≡ length (flat_map f before) = sym (length_of_bytes width before wide) in
    let whole : flat_map f (before ++ x ∷ after) ≡ flat_map f before ++ (f x ++ flat_map f after) = flat_map-append f before (x ∷ after) in
    let front : take (length before * width) (flat_map f (before ++ x ∷ after)) ≡ flat_map f before = rw (n, whole) (take-append_seam (flat_map f before) (f x ++ flat_map f after)) in
    let back : drop (length before * width + width) (flat_map f (before ++ x ∷ after)) ≡ flat_map f after =
    rw (n, whole) (drop-append-add (flat_map f before) (f x ++ flat_map f after) width)
    ∙ ap (λ (k : ℕ). drop k (f x ++ flat_map f after)) (sym here) ∙ drop-append_seam (f x) (flat_map f after) in
    rw (front, back) (flat_map-append f before (Some a ∷ after))

wide_before : (width : ℕ) (xs ys : List (Option Access)) → AllByRecursion (IsAsWide width) (xs ++ ys) → AllByRecursion (IsAsWide width) xs
wide_before width [] ys wide = tt
wide_before width (x ∷ xs) ys wide = (wide.0, wide_before width xs ys wide.1)

wide_set : (width : ℕ) (xs : List (Option Access)) (j : ℕ) (a : Access) → length a.bytes ≡ width → AllByRecursion (IsAsWide width) xs → AllByRecursion (IsAsWide width) (set xs j (Some a))
wide_set width [] j a here wide = tt
wide_set width (x ∷ xs) zero a here wide = (here, wide.1)
wide_set width (x ∷ xs) (suc j) a here wide = (wide.0, wide_set width xs j a here wide.1)

-- one word less is missing
pub one_counted : (xs : List Bool) (j : ℕ) → j < length xs → get_or xs j false ≡ false → count_by not xs ≡ count_by not (set xs j true) + 1
one_counted xs j below here =
    let sums = sum_by-set (λ (b : Bool). if not b then 1 else 0) xs j true false below in
    let one : (if not (get_or xs j false) then 1 else 0) ≡ suc zero = rw here refl in
    omega (arith, sums, one)

-- the row's mark of a word says whether it is answered
pub mark_of : (width : ℕ) (answers : List (Option Access)) (row : AnswerRow) (j : ℕ) → IsRow width answers row → j < length answers → get_or row.answered.items j false ≡ is_some (get_or answers j None)
mark_of width answers row j is below = rw is.answered (get_or-map is_some answers j None false below)

-- no answer is there: the next one is put there
pub with_first : (answers : List (Option Access)) (j : ℕ) (a : Access) → is_some (get_or answers j None) ≡ false → with_answer answers j a ≡ set answers j (Some a)
with_first answers j a none = ap (λ (b : Bool). if b then answers else set answers j (Some a)) none

-- an answer is there: all stays
pub with_second : (answers : List (Option Access)) (j : ℕ) (a : Access) → is_some (get_or answers j None) ≡ true → with_answer answers j a ≡ answers
with_second answers j a some = ap (λ (b : Bool). if b then answers else set answers j (Some a)) some

-- a row without this answer, and a row with it
pub row_taken : (width : ℕ) (answers : List (Option Access)) (row new : AnswerRow) (j : ℕ) (a : Access) → IsRow width answers row → j < length answers → length a.bytes ≡ width
    → get_or row.answered.items j false ≡ false
    → new.answered.items ≡ set row.answered.items j true → new.missing ≡ row.missing - 1 → new.code ≡ max row.code a.tail
    → new.body.items ≡ take (j * width) row.body.items ++ (a.bytes ++ drop (j * width + width) row.body.items)
    → IsRow width (with_answer answers j a) new
row_taken width answers row new j a is below wide unmarked marked less code body =
    let none : is_some (get_or answers j None) ≡ false = sym (mark_of width answers row j is below) ∙ unmarked in
    let nothing : get_or answers j None ≡ None = is_nothing (get_or answers j None) none in
    let before = take j answers in
    let after = drop (j + 1) answers in
    let stands : answers ≡ before ++ None ∷ after = stands_between answers j None below ∙ ap (λ (x : Option Access). before ++ x ∷ after) nothing in
    let put : set answers j (Some a) ≡ before ++ Some a ∷ after = set_between answers j (Some a) below in
    let long : length before ≡ j = omega (arith, length-take j answers) in
    let wide_front : AllByRecursion (IsAsWide width) before = wide_before width before (None ∷ after) (subst (AllByRecursion (IsAsWide width)) stands is.wide) in
    let row_wide : IsRow width (set answers j (Some a)) new = record {
      answered = marked ∙ ap (λ (marks : List Bool). set marks j true) is.answered ∙ sym (map-set is_some answers j (Some a));
      counted =
          let length_is : length row.answered.items ≡ length answers = ap length is.answered ∙ length-map answers is_some in
          let one = one_counted row.answered.items j (omega (arith, length_is)) unmarked in
          let counted = is.counted in
          rw marked (omega (arith, one, counted, less));
      code = code ∙ ap (λ (n : ℕ). max n a.tail) (is.code ∙ ap (λ (xs : List (Option Access)). answer_code (found xs)) stands)
          ∙ sym (ap (λ (xs : List (Option Access)). answer_code (found xs)) put ∙ code_between before after a);
      body = body
          ∙ ap (λ (bytes : List ℕ). take (j * width) bytes ++ (a.bytes ++ drop (j * width + width) bytes)) (is.body ∙ ap (flat_map (bytes_or_zeros width)) stands)
          ∙ ap (λ (n : ℕ). take (n * width) (flat_map (bytes_or_zeros width) (before ++ None ∷ after)) ++ (a.bytes ++ drop (n * width + width) (flat_map (bytes_or_zeros width) (before ++ None ∷ after)))) (sym long)
          ∙ sym (ap (flat_map (bytes_or_zeros width)) put ∙ bytes_between width before after None a wide_front (length-replicate width 0));
      wide = wide_set width answers j a wide is.wide;
    } in
    subst (λ (xs : List (Option Access)). IsRow width xs new) (sym (with_first answers j a none)) row_wide
  where
    is_nothing : (x : Option Access) → is_some x ≡ false → x ≡ None
    is_nothing None h = refl
    is_nothing (Some x) h = absurd (cc)

abbrev no_answers : ℕ → List (Option Access)
no_answers words = replicate words None

none_marked : (words : ℕ) → replicate words false ≡ map is_some (no_answers words)
none_marked zero = refl
none_marked (suc n) = ap (λ (rest : List Bool). false ∷ rest) (none_marked n)

none_found : (words : ℕ) → found (no_answers words) ≡ []
none_found zero = refl
none_found (suc n) = none_found n

none_wide : (width words : ℕ) → AllByRecursion (IsAsWide width) (no_answers words)
none_wide width zero = tt
none_wide width (suc n) = (length-replicate width 0, none_wide width n)

none_counted : (words : ℕ) → words ≡ count_by not (replicate words false)
none_counted words = sym (sum_by-replicate (λ (b : Bool). if not b then 1 else 0) words false ∙ omega arith)

none_brought : (width words : ℕ) → replicate (words * width) 0 ≡ flat_map (bytes_or_zeros width) (no_answers words)
none_brought width zero = rw (zero-mul width) refl
none_brought width (suc n) =
    let split : suc n * width ≡ width + n * width = omega arith in
    rw split (sym (replicate-append-replicate width (n * width) 0) ∙ ap (λ (rest : List ℕ). replicate width 0 ++ rest) (none_brought width n))

-- a row without an answer
pub row_new : (width words : ℕ) (row : AnswerRow) → row.answered.items ≡ replicate words false → row.missing ≡ words → row.code ≡ 0 → row.body.items ≡ replicate (words * width) 0 → IsRow width (replicate words None) row
row_new width words row marks missing code body = record {
  answered = marks ∙ none_marked words;
  counted = missing ∙ none_counted words ∙ sym (ap (count_by not) marks);
  code = code ∙ sym (ap answer_code (none_found words));
  body = body ∙ none_brought width words;
  wide = none_wide width words;
}
