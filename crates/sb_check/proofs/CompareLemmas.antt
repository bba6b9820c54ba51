-- Texts, compared one after another with what is left of a report.
use Rattle.std.proofs.Common.{◌≡◌, ◌≢◌, ◌<◌, ◌≤◌, ◌+◌, ◌-◌, ℕ, zero, suc, Bool, true, false, List, [], ◌∷◌, ◌++◌, length, get_or, take, drop, ap, sym, subst, refl, ◌∙◌, arith, append_assoc, Some, None}
use Rattle.std.specs.Prelude.{All, Result, Ok, Err, IsErr, OnErr, OnOk, filter, flat_map, slice_get, not}
use Rattle.std.proofs.lemmas.Bool.{and_parts, false≢true}
use Rattle.std.proofs.lemmas.List.{append-nil, length-append, length-take, take-append-drop, take_all, take_more}
use Rattle.std.specs.List.{enumerate_from}
use Rattle.std.proofs.lemmas.List.Concat.{flat_map-append}
use Rattle.std.proofs.lemmas.List.FromFn.{get_or-enumerate_from}
use Rattle.std.proofs.lemmas.List.Elements.{All-append, All-cons, All-head, All-nil, All-tail, filter-append}
use Rattle.std.proofs.Math.Seq.{take-append_seam}
use Rattle.sb_text.specs.Lines.{is_line_end}
use Rattle.sb_text.specs.TextLines.{text_line}
use Rattle.sb_link.specs.Prefixes.{IsPrefix}
use Rattle.sb_check.specs.Comparing.{DifferBehind, IsCompared, IsUnended, is_within_line}
use Rattle.sb_check.specs.ReportLines.{IsFirstDifference, begun_by, report_lines}

-- how many line feeds a text has
abbrev pub line_ends : List ℕ → ℕ
line_ends text = length (filter is_line_end text)

-- the lines of a text, joined, are the text
abbrev pub joined_lines : List (List ℕ) → List ℕ
joined_lines ls = flat_map (λ (l : List ℕ). l) ls

begun_joined : (b : ℕ) (ls : List (List ℕ)) → joined_lines (begun_by b ls) ≡ b ∷ joined_lines ls
begun_joined b [] = refl
begun_joined b (l ∷ ls) = refl

pub lines_joined : (text : List ℕ) → joined_lines (report_lines text) ≡ text
lines_joined [] = refl
lines_joined (b ∷ text) = by (is_line_end b) refl (lines_joined text)
  where
    by : (end : Bool) → is_line_end b ≡ end → joined_lines (report_lines text) ≡ text → joined_lines (report_lines (b ∷ text)) ≡ b ∷ text
    by true is rest = rw is (ap (λ (t : List ℕ). b ∷ t) rest)
    by false is rest = rw is (begun_joined b (report_lines text) ∙ ap (λ (t : List ℕ). b ∷ t) rest)

-- a text begins with its first line
begins_first : (ls : List (List ℕ)) (text line : List ℕ) → joined_lines ls ≡ text → slice_get ls 0 ≡ Some line → IsPrefix line text
begins_first [] text line joined is = absurd (cc)
begins_first (l ∷ ls) text line joined is =
    let same : l ≡ line = cc in
    record { rest = joined_lines ls; joined = ap (λ (t : List ℕ). t ++ joined_lines ls) (sym same) ∙ joined }

-- a text within a line begins the first line of what it begins
pub record HasFirstLine (front text : List ℕ) : Type 0 where
  pub line : List ℕ
  pub lines : List (List ℕ)
  pub are : report_lines text ≡ line ∷ lines
  pub begins : IsPrefix front line

begun_first : (b : ℕ) (front text line : List ℕ) (lines : List (List ℕ)) → is_line_end b ≡ false → report_lines text ≡ line ∷ lines → IsPrefix front line → HasFirstLine (b ∷ front) (b ∷ text)
begun_first b front text line lines other are begins = record {
  line = b ∷ line;
  lines = lines;
  are = rw other (ap (begun_by b) are);
  begins = record { rest = begins.rest; joined = ap (λ (t : List ℕ). b ∷ t) begins.joined };
}

one_first : (b : ℕ) (behind : List ℕ) → HasFirstLine (b ∷ []) (b ∷ behind)
one_first b behind = by (is_line_end b) refl (report_lines behind) refl
  where
    by : (end : Bool) → is_line_end b ≡ end → (ls : List (List ℕ)) → report_lines behind ≡ ls → HasFirstLine (b ∷ []) (b ∷ behind)
    by true is ls are = record { line = b ∷ []; lines = report_lines behind; are = rw is refl; begins = record { rest = []; joined = refl } }
    by false is [] are = record { line = b ∷ []; lines = []; are = rw is (ap (begun_by b) are); begins = record { rest = []; joined = refl } }
    by false is (l ∷ ls) are = record { line = b ∷ l; lines = ls; are = rw is (ap (begun_by b) are); begins = record { rest = l; joined = refl } }

not_end : (e : Bool) → not e ≡ true → e ≡ false
not_end true is = absurd (false≢true is)
not_end false is = refl

first_line_of : (b : ℕ) (front behind : List ℕ) → is_within_line (b ∷ front) ≡ true → HasFirstLine (b ∷ front) (b ∷ front ++ behind)
first_line_of b [] behind within = one_first b behind
first_line_of b (c ∷ front) behind within =
    let parts = and_parts (not (is_line_end b)) (is_within_line (c ∷ front)) within in
    let rest = first_line_of c front behind parts.1 in
    begun_first b (c ∷ front) (c ∷ front ++ behind) rest.line rest.lines (not_end (is_line_end b) parts.0) rest.are rest.begins

-- what begins with a text that another begins
begins_longer : (front line text : List ℕ) → IsPrefix front line → IsPrefix line text → IsPrefix front text
begins_longer front line text a b = record {
  rest = a.rest ++ b.rest;
  joined = sym (append_assoc front a.rest b.rest) ∙ ap (λ (t : List ℕ). t ++ b.rest) a.joined ∙ b.joined;
}

-- a text within a line that isn't there differs in the first line
pub not_there : (front before : List ℕ) → is_within_line front ≡ true → ¬ IsPrefix front before → (behind : List ℕ) → DifferBehind before (front ++ behind) before
not_there [] before within differs behind = absurd (differs (record { rest = before; joined = refl }))
not_there (b ∷ front) before within differs behind =
    let first = first_line_of b front behind within in
    record {
      alike = [];
      joined = refl;
      differs = record {
        before = λ j below. absurd (omega arith);
        here = λ same. differs (begins_longer (b ∷ front) first.line before first.begins
            (begins_first (report_lines before) before first.line (lines_joined before) (same ∙ ap (λ (ls : List (List ℕ)). slice_get ls 0) first.are)));
      };
    }

-- no line is empty
abbrev AreSome : List (List ℕ) → Type 0
AreSome ls = All (λ (l : List ℕ). 0 < length l) ls

begun_some : (b : ℕ) (ls : List (List ℕ)) → AreSome ls → AreSome (begun_by b ls)
begun_some b [] all = All-cons (λ (l : List ℕ). 0 < length l) (b ∷ []) [] (omega arith) (All-nil (λ (l : List ℕ). 0 < length l))
begun_some b (l ∷ ls) all = All-cons (λ (l : List ℕ). 0 < length l) (b ∷ l) ls (omega arith) (All-tail (λ (l : List ℕ). 0 < length l) l ls all)

lines_some : (text : List ℕ) → AreSome (report_lines text)
lines_some [] = All-nil (λ (l : List ℕ). 0 < length l)
lines_some (b ∷ text) = by (is_line_end b) refl (lines_some text)
  where
    by : (end : Bool) → is_line_end b ≡ end → AreSome (report_lines text) → AreSome (report_lines (b ∷ text))
    by true is rest = rw is (All-cons (λ (l : List ℕ). 0 < length l) (b ∷ []) (report_lines text) (omega arith) rest)
    by false is rest = rw is (begun_some b (report_lines text) rest)

-- with a byte before both, lines differ where they did
record DifferAt (xs ys : List (List ℕ)) (k : ℕ) : Type 0 where
  before : (j : ℕ) → j < k → slice_get xs j ≡ slice_get ys j
  here : slice_get xs k ≢ slice_get ys k

begun_equal : (b : ℕ) (xs ys : List (List ℕ)) → slice_get xs 0 ≡ slice_get ys 0 → slice_get (begun_by b xs) 0 ≡ slice_get (begun_by b ys) 0
begun_equal b [] [] same = refl
begun_equal b [] (y ∷ ys) same = absurd (cc)
begun_equal b (x ∷ xs) [] same = absurd (cc)
begun_equal b (x ∷ xs) (y ∷ ys) same = let e : x ≡ y = cc in ap (λ (l : List ℕ). Some (b ∷ l)) e

begun_later : (b : ℕ) (xs : List (List ℕ)) (j : ℕ) → slice_get (begun_by b xs) (suc j) ≡ slice_get xs (suc j)
begun_later b [] j = refl
begun_later b (x ∷ xs) j = refl

begun_other : (b : ℕ) (xs ys : List (List ℕ)) → AreSome xs → AreSome ys → slice_get (begun_by b xs) 0 ≡ slice_get (begun_by b ys) 0 → slice_get xs 0 ≡ slice_get ys 0
begun_other b [] [] some-x some-y same = refl
begun_other b [] (y ∷ ys) some-x some-y same =
    let e : b ∷ [] ≡ b ∷ y = cc in
    let long = All-head (λ (l : List ℕ). 0 < length l) y ys some-y in
    absurd (omega (arith, ap length e))
begun_other b (x ∷ xs) [] some-x some-y same =
    let e : b ∷ x ≡ b ∷ [] = cc in
    let long = All-head (λ (l : List ℕ). 0 < length l) x xs some-x in
    absurd (omega (arith, ap length e))
begun_other b (x ∷ xs) (y ∷ ys) some-x some-y same = let e : x ≡ y = cc in ap (λ (l : List ℕ). Some l) e

begun_differ : (b : ℕ) (xs ys : List (List ℕ)) (k : ℕ) → AreSome xs → AreSome ys → DifferAt xs ys k → DifferAt (begun_by b xs) (begun_by b ys) k
begun_differ b xs ys zero some-x some-y d = record { before = λ j below. absurd (omega arith); here = λ same. d.here (begun_other b xs ys some-x some-y same) }
begun_differ b xs ys (suc k) some-x some-y d = record {
  before = by;
  here = λ same. d.here (sym (begun_later b xs k) ∙ same ∙ begun_later b ys k);
}
  where
    by : (j : ℕ) → j < suc k → slice_get (begun_by b xs) j ≡ slice_get (begun_by b ys) j
    by zero below = begun_equal b xs ys (d.before zero (omega arith))
    by (suc j) below = begun_later b xs j ∙ d.before (suc j) below ∙ sym (begun_later b ys j)

ended_differ : (l : List ℕ) (xs ys : List (List ℕ)) (k : ℕ) → DifferAt xs ys k → DifferAt (l ∷ xs) (l ∷ ys) (suc k)
ended_differ l xs ys k d = record { before = by; here = d.here }
  where
    by : (j : ℕ) → j < suc k → slice_get (l ∷ xs) j ≡ slice_get (l ∷ ys) j
    by zero below = refl
    by (suc j) below = d.before j (omega arith)

-- texts that differ, behind one with which both begin
differ_lines : (s a b : List ℕ) (k : ℕ) → DifferAt (report_lines a) (report_lines b) k → DifferAt (report_lines (s ++ a)) (report_lines (s ++ b)) (line_ends s + k)
differ_lines [] a b k d = let at : 0 + k ≡ k = omega arith in rw at d
differ_lines (c ∷ s) a b k d = by (is_line_end c) refl (differ_lines s a b k d)
  where
    by : (end : Bool) → is_line_end c ≡ end → DifferAt (report_lines (s ++ a)) (report_lines (s ++ b)) (line_ends s + k) → DifferAt (report_lines (c ∷ s ++ a)) (report_lines (c ∷ s ++ b)) (line_ends (c ∷ s) + k)
    by true is rest =
        let at : suc (line_ends s) + k ≡ suc (line_ends s + k) = omega arith in
        rw (is, at) (ended_differ (c ∷ []) (report_lines (s ++ a)) (report_lines (s ++ b)) (line_ends s + k) rest)
    by false is rest = rw is (begun_differ c (report_lines (s ++ a)) (report_lines (s ++ b)) (line_ends s + k) (lines_some (s ++ a)) (lines_some (s ++ b)) rest)

pub differs_behind : (s a b : List ℕ) (k : ℕ) → IsFirstDifference a b k → IsFirstDifference (s ++ a) (s ++ b) (line_ends s + k)
differs_behind s a b k d = let at = differ_lines s a b k (record { before = d.before; here = d.here }) in record { before = at.before; here = at.here }

-- a text was there, and behind it another differs
pub differ_then : (a b c s t : List ℕ) → a ≡ s ++ b → DifferBehind b t c → DifferBehind a (s ++ t) c
differ_then a b c s t first d =
    let count : line_ends s + line_ends d.alike ≡ line_ends (s ++ d.alike) = sym (length-append (filter is_line_end s) (filter is_line_end d.alike)) ∙ ap length (sym (filter-append is_line_end s d.alike)) in
    record {
      alike = s ++ d.alike;
      joined = first ∙ ap (λ (x : List ℕ). s ++ x) d.joined ∙ sym (append_assoc s d.alike c);
      differs = subst (λ (x : List ℕ). IsFirstDifference x (s ++ t) (line_ends (s ++ d.alike))) (sym first)
          (subst (λ (k : ℕ). IsFirstDifference (s ++ b) (s ++ t) k) count (differs_behind s b t (line_ends d.alike) d.differs));
    }

pub differ_as : (a b c t : List ℕ) → b ≡ t → DifferBehind a b c → DifferBehind a t c
differ_as a b c t same d = subst (λ (x : List ℕ). DifferBehind a x c) same d

-- the same text in other words
pub compared_as : {T E : Type 0} (r : Result T E) (a b s t : List ℕ) → s ≡ t → IsCompared r a b s → IsCompared r a b t
compared_as r a b s t same d = subst (λ (x : List ℕ). IsCompared r a b x) same d

-- a text was there, and another is compared
pub compared_then : {T E : Type 0} (r : Result T E) (a b c s t : List ℕ) → a ≡ s ++ b → IsCompared r b c t → IsCompared r a c (s ++ t)
compared_then (Ok v) a b c s t first d = record { there = first ∙ ap (λ (x : List ℕ). s ++ x) d.there ∙ sym (append_assoc s t c); differs = tt }
compared_then (Err e) a b c s t first d = record {
  there = tt;
  differs = λ behind. differ_as a (s ++ (t ++ behind)) c ((s ++ t) ++ behind) (sym (append_assoc s t behind)) (differ_then a b c s (t ++ behind) first (d.differs behind));
}

-- a text wasn't there, so that it isn't with another behind it
pub compared_before : {T E : Type 0} (r : Result T E) (a b s t : List ℕ) → IsErr r → ((behind : List ℕ) → DifferBehind a (s ++ behind) b) → IsCompared r a b (s ++ t)
compared_before (Ok v) a b s t failed d = absurd (false≢true failed)
compared_before (Err e) a b s t failed d = record {
  there = tt;
  differs = λ behind. differ_as a (s ++ (t ++ behind)) b ((s ++ t) ++ behind) (sym (append_assoc s t behind)) (d (t ++ behind));
}

-- it isn't there
pub compared_not : {T E : Type 0} (r : Result T E) (a s : List ℕ) → IsErr r → ((behind : List ℕ) → DifferBehind a (s ++ behind) a) → IsCompared r a a s
compared_not (Ok v) a s failed d = absurd (false≢true failed)
compared_not (Err e) a s failed d = record { there = tt; differs = d }

-- nothing is compared
pub compared_nothing : {T E : Type 0} (t : T) (a : List ℕ) → IsCompared {E = E} (Ok t) a a []
compared_nothing t a = record { there = refl; differs = tt }

-- the texts of some items, and that of the next one
upto : {A : Type 0} (f : A → List ℕ) (xs : List A) (i : ℕ) (d : A) (l : List ℕ) → i < length xs → l ≡ f (get_or xs i d) → flat_map f (take i xs) ++ l ≡ flat_map f (take (i + 1) xs)
upto f xs i d l below is =
    ap (λ (x : List ℕ). flat_map f (take i xs) ++ x) (is ∙ sym (append-nil (f (get_or xs i d)))) ∙ sym (flat_map-append f (take i xs) (get_or xs i d ∷ [])) ∙ ap (flat_map f) (sym (take_more xs i d below))

pub compared_more : {A T U V E F G : Type 0} (u : U) (v : V) (t : T) (f : A → List ℕ) (xs : List A) (i : ℕ) (d : A) (a b c l : List ℕ) → i < length xs → l ≡ f (get_or xs i d)
    → IsCompared {E = E} (Ok u) a b (flat_map f (take i xs)) → IsCompared {E = F} (Ok v) b c l → IsCompared {E = G} (Ok t) a c (flat_map f (take (i + 1) xs))
compared_more u v t f xs i d a b c l below is h k = compared_as (Ok t) a c _ _ (upto f xs i d l below is) (compared_then (Ok t) a b c (flat_map f (take i xs)) l h.there (record { there = k.there; differs = tt }))

-- an item with its place, among all
pub numbered : {A : Type 0} (xs : List A) (i : ℕ) (d : A) → i < length xs → get_or (enumerate_from 0 xs) i (0, d) ≡ (i, get_or xs i d)
numbered xs i d below =
    let at : 0 + i ≡ i = omega arith in
    get_or-enumerate_from 0 xs i (0, d) below ∙ ap (λ (k : ℕ). (k, get_or xs i d)) at

-- that of the next one isn't there
pub compared_failed : {A T U V E F G : Type 0} (u : U) (e : F) (r : Result T G) (f : A → List ℕ) (xs : List A) (i : ℕ) (d : A) (a b c l : List ℕ) → IsErr r → i < length xs → l ≡ f (get_or xs i d)
    → IsCompared {E = E} (Ok u) a b (flat_map f (take i xs)) → IsCompared {T = V} (Err e) b c l → IsCompared r a c (flat_map f xs)
compared_failed u e r f xs i d a b c l failed below is h k =
    let all : flat_map f (take (i + 1) xs) ++ flat_map f (drop (i + 1) xs) ≡ flat_map f xs = sym (flat_map-append f (take (i + 1) xs) (drop (i + 1) xs)) ∙ ap (flat_map f) (take-append-drop (i + 1) xs) in
    let both = compared_then {T = Unit {0}} (Err e) a b c (flat_map f (take i xs)) l h.there (record { there = tt; differs = k.differs }) in
    compared_as r a c _ _ (ap (λ (x : List ℕ). x ++ flat_map f (drop (i + 1) xs)) (upto f xs i d l below is) ∙ all) (compared_before r a c (flat_map f (take i xs) ++ l) (flat_map f (drop (i + 1) xs)) failed both.differs)

-- those of all are there
pub compared_all : {A T U E F : Type 0} (u : U) (t : T) (f : A → List ℕ) (xs : List A) (i : ℕ) (a b : List ℕ) → length xs ≤ i → IsCompared {E = E} (Ok u) a b (flat_map f (take i xs)) → IsCompared {E = F} (Ok t) a b (flat_map f xs)
compared_all u t f xs i a b all h = compared_as (Ok t) a b _ _ (ap (flat_map f) (take_all i xs all)) (record { there = h.there; differs = tt })

-- words without a line feed make a line
unended_within : (line : List ℕ) → IsUnended line → is_within_line (line ++ 10 ∷ []) ≡ true
unended_within [] all = refl
unended_within (b ∷ []) all = rw (All-head (λ b. is_line_end b ≡ false) b [] all) refl
unended_within (b ∷ c ∷ line) all = rw (All-head (λ b. is_line_end b ≡ false) b (c ∷ line) all) (unended_within (c ∷ line) (All-tail (λ b. is_line_end b ≡ false) b (c ∷ line) all))

pub record IsOneLine (text : List ℕ) : Type 0 where
  pub line : List ℕ
  pub unended : IsUnended line
  pub ends : text ≡ line ++ 10 ∷ []

pub text_line-one : (words : List (List ℕ)) → All IsUnended words → IsOneLine (text_line words)
text_line-one [] all = record { line = []; unended = All-nil (λ b. is_line_end b ≡ false); ends = refl }
text_line-one (w ∷ []) all = record { line = w; unended = All-head IsUnended w [] all; ends = refl }
text_line-one (w ∷ v ∷ ws) all =
    let rest = text_line-one (v ∷ ws) (All-tail IsUnended w (v ∷ ws) all) in
    record {
      line = w ++ 32 ∷ rest.line;
      unended = All-append (λ b. is_line_end b ≡ false) w (32 ∷ rest.line) (All-head IsUnended w (v ∷ ws) all) (All-cons (λ b. is_line_end b ≡ false) 32 rest.line refl rest.unended);
      ends = ap (λ (t : List ℕ). w ++ 32 ∷ t) rest.ends ∙ sym (append_assoc w (32 ∷ rest.line) (10 ∷ []));
    }

pub line_within : (words : List (List ℕ)) → All IsUnended words → is_within_line (text_line words) ≡ true
line_within words all = let one = text_line-one words all in ap is_within_line one.ends ∙ unended_within one.line one.unended

-- something behind the last line is one too many
pub too_many : (a text after : List ℕ) → a ≡ text ++ after → 0 < length after → DifferBehind a text after
too_many a text after joined some =
    let d = differ_lines text after [] 0 (record { before = λ j below. absurd (omega arith); here = first_there (report_lines after) (some_lines after some) }) in
    let at : line_ends text + 0 ≡ line_ends text = omega arith in
    record {
      alike = text;
      joined = joined;
      differs = record {
        before = λ j below. ap (λ (x : List ℕ). slice_get (report_lines x) j) joined ∙ d.before j (omega arith) ∙ ap (λ (x : List ℕ). slice_get (report_lines x) j) (append-nil text);
        here = λ same. d.here (rw at (ap (λ (x : List ℕ). slice_get (report_lines x) (line_ends text)) (sym joined) ∙ same ∙ ap (λ (x : List ℕ). slice_get (report_lines x) (line_ends text)) (sym (append-nil text))));
      };
    }
  where
    begun_length : (b : ℕ) (ls : List (List ℕ)) → 0 < length (begun_by b ls)
    begun_length b [] = omega arith
    begun_length b (l ∷ ls) = omega arith

    some_lines : (t : List ℕ) → 0 < length t → 0 < length (report_lines t)
    some_lines [] some = absurd (omega arith)
    some_lines (b ∷ t) some = by (is_line_end b) refl
      where
        by : (end : Bool) → is_line_end b ≡ end → 0 < length (report_lines (b ∷ t))
        by true is = rw is (omega arith)
        by false is = rw is (begun_length b (report_lines t))

    first_there : (ls : List (List ℕ)) → 0 < length ls → slice_get ls 0 ≢ None
    first_there [] some none = omega arith
    first_there (l ∷ ls) some none = cc

-- a text that is whole, at either end of a comparison
pub not_done : {T E : Type 0} (r : Result T E) (P : Type 0) → IsErr r → OnOk r P
not_done (Ok v) P failed = absurd (false≢true failed)
not_done (Err e) P failed = tt

pub failed_so : {T E : Type 0} (r : Result T E) (P : Type 0) → P → OnErr r P
failed_so (Ok v) P so = tt
failed_so (Err e) P so = so

pub differ_whole : (a text c : List ℕ) → ((behind : List ℕ) → DifferBehind a (text ++ behind) c) → DifferBehind a text c
differ_whole a text c d = differ_as a (text ++ []) c text (append-nil text) (d [])

-- the front of a text, by what is left of it
pub front_of : (text front after : List ℕ) (left : ℕ) → text ≡ front ++ after → length after ≡ left → take (length text - left) text ≡ front
front_of text front after left is long =
    let at : length text - left ≡ length front = omega (arith, ap length is, length-append front after, long) in
    ap (λ (n : ℕ). take n text) at ∙ ap (take (length front)) is ∙ take-append_seam front after

pub ends_few : (text : List ℕ) → line_ends text ≤ length text
ends_few [] = omega arith
ends_few (b ∷ text) = by (is_line_end b) refl (ends_few text)
  where
    by : (end : Bool) → is_line_end b ≡ end → line_ends text ≤ length text → line_ends (b ∷ text) ≤ length (b ∷ text)
    by true is few = rw is (omega arith)
    by false is few = rw is (omega arith)

pub left_fits : (a b c : List ℕ) → DifferBehind a b c → length c ≤ length a
left_fits a b c d = omega (arith, ap length d.joined, length-append d.alike c)

pub taken_few : (n : ℕ) (text : List ℕ) (r : ℕ) → r ≡ line_ends (take n text) → r ≤ length text
taken_few n text r is = omega (arith, is, ends_few (take n text), length-take n text)
